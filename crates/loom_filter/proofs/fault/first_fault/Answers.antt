use Rattle.std.proofs.Common.{◌+◌, ◌-◌, drop, Some, None, ap, sym, subst, arith}
use Rattle.std.proofs.lemmas.List.{drop_all}
use Rattle.loom_filter.specs.View.{clause_of}
use Rattle.loom_filter.specs.ReaderView.{clause_with, clauses_with}
use Rattle.loom_filter.specs.Fault.{TellsForm, TellsFault}
use Rattle.loom_filter.specs.FilterError.{fault_of}
use Rattle.loom_filter.proofs.Twins.{drop_at}
use Rattle.loom_filter.proofs.Faults.{form_told, much_told, told_behind, not_last}
use Rattle.loom_filter.proofs.fault.first_fault.Goals as goal

pub returns-in-Some : goal.returns-in-Some
returns-in-Some c =
    let form : TellsForm (clause_with c.read-item.result) (Some c.in-Some.fault) = subst (TellsForm (clause_with c.read-item.result)) c.in-Some.is c.in_ok-fault.ensures in
    let told = c.clauses.invariant.tells (Some (record { clause = c.clauses.number; number = c.in-Some.fault })) (form_told c.clauses.number c.clauses.room c.in-Some.fault (clause_with c.read-item.result) (clauses_with (drop (c.clauses.read-index + 1) c.args.clauses.now)) _ (ap clauses_with (drop_at c.args.clauses.now c.clauses.read-index c.read-item.result c.clauses-test.true c.read-item.is)) form) in
    subst (λ z. TellsFault 1 0 (clauses_with c.args.clauses.now) (Some z)) (ap fault_of (sym c.new.ensures)) told

pub returns-in-None : goal.returns-in-None
returns-in-None c =
    let form : TellsForm (clause_with c.read-item.result) None = subst (TellsForm (clause_with c.read-item.result)) c.in_default.is c.in_ok-fault.ensures in
    let told = c.clauses.invariant.tells (Some (record { clause = c.clauses.number; number = 13 })) (much_told c.clauses.number c.clauses.room (clause_with c.read-item.result) (clauses_with (drop (c.clauses.read-index + 1) c.args.clauses.now)) _ (ap clauses_with (drop_at c.args.clauses.now c.clauses.read-index c.read-item.result c.clauses-test.true c.read-item.is)) form c.in-None.ensures) in
    subst (λ z. TellsFault 1 0 (clauses_with c.args.clauses.now) (Some z)) (ap fault_of (sym c.new-in-None.ensures)) told

pub clauses-preserved : goal.clauses-preserved
clauses-preserved c =
    let form : TellsForm (clause_with c.read-item.result) None = subst (TellsForm (clause_with c.read-item.result)) c.in_default.is c.in_ok-fault.ensures in
    let left = c.in-Some-room_beyond.ensures in
    record {
      number = not_last c.clauses.number (32 - c.clauses.room) (clause_of c.read-item.result.clause) c.clauses.invariant.number left.0;
      room = omega (arith, left.1);
      tells = λ x t. c.clauses.invariant.tells x (told_behind c.clauses.number c.clauses.room c.in-Some-room_beyond.left (clause_with c.read-item.result) (clauses_with (drop (c.clauses.read-index + 1) c.args.clauses.now)) _ x c.clauses.invariant.room (ap clauses_with (drop_at c.args.clauses.now c.clauses.read-index c.read-item.result c.clauses-test.true c.read-item.is)) form left t);
    }

pub returns : goal.returns
returns c = c.clauses.invariant.tells None (subst (λ z. TellsFault c.clauses.number (32 - c.clauses.room) z None) (sym (ap clauses_with (drop_all c.clauses.read-index c.args.clauses.now c.clauses-test.false))) (λ x h. absurd h))
