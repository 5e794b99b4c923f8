use Rattle.std.proofs.Common.{inr, ap, subst}
use Rattle.loom_filter.specs.ReaderView.{clauses_with}
use Rattle.loom_filter.specs.Fault.{TellsFault}
use Rattle.loom_filter.specs.FilterError.{fault_of, fault_if}
use Rattle.loom_filter.proofs.FilterVerdict.{filter_told, faulty_told}
use Rattle.loom_filter.proofs.parse.parse_filter.Goals as goal

pub returns-in_ok-clauses_of-in-None : goal.returns-in_ok-clauses_of-in-None
returns-in_ok-clauses_of-in-None c =
    filter_told c.args.text.now c.in-Ok.clauses.items (fault_if c.in_ok-first_fault-in-Ok.field-0) _ c.in-Ok.ensures (ap fault_if c.in-None.is)
    (subst (λ z. TellsFault 1 0 (clauses_with z) (fault_if c.in_ok-first_fault-in-Ok.field-0)) c.deref.ensures.value c.in_ok-first_fault-in-Ok.ensures) c.in_ok-clauses_of-in-None.ensures

pub returns-in-Some : goal.returns-in-Some
returns-in-Some c =
    inr (faulty_told c.args.text.now c.in-Ok.clauses.items (fault_if c.in_ok-first_fault-in-Ok.field-0) (fault_of c.in-Some.refusal) c.in-Ok.ensures (ap fault_if c.in-Some.is)
    (subst (λ z. TellsFault 1 0 (clauses_with z) (fault_if c.in_ok-first_fault-in-Ok.field-0)) c.deref.ensures.value c.in_ok-first_fault-in-Ok.ensures))
