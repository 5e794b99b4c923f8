-- A call or a spawn has few arguments, and its function an entrance.
use Rattle.std.proofs.Common.{ℕ, ◌≡◌, ◌≤◌, ◌<◌, length, Some, sym, subst, slice_get, arith}
use Rattle.std.proofs.lemmas.Option.{slice_get_within}
use Rattle.loom_tree.specs.Tree.{Source}
use Rattle.loom_lang.specs.Limits.{param_limit}
use Rattle.loom_lang.specs.Rules.{KeepsRules}
use Rattle.loom_flow.specs.declared.code.Ask.{Ask}
use Rattle.loom_flow.specs.declared.code.Ask.TheVariants.{Spawn}
use Rattle.loom_flow.specs.declared.code.Control.{Control}
use Rattle.loom_flow.specs.declared.code.Control.TheVariants.{Call}
use Rattle.loom_flow.specs.declared.code.CodeStep.{CodeStep}
use Rattle.loom_flow.specs.declared.code.CodeStep.TheVariants as s
use Rattle.loom_flow.specs.declared.code.Instr.{Instr}
use Rattle.loom_flow.specs.Flow.{Flow}
use Rattle.loom_flow.specs.Code.{IsLowered}
use Rattle.loom_flow.specs.Laws.{HasParams, HasProgramNumbers, LeadsInto, JumpsForward}
use Rattle.loom_flow.proofs.Forward.{lawful_at, lowered_forward}
use Rattle.loom_strand.specs.Machine.{AskHasFewArguments, HasCallFor, TakesFewArguments}
use Rattle.loom_strand.proofs.RequestKinds.{numbers_at}

pub few_params : (p : Source) (f n : ℕ) → KeepsRules p → HasParams p f n → n ≤ param_limit
few_params p f n l h =
    let few : length h.0.params ≤ param_limit = (lawful_at p p.funcs f h.0 l.functions h.1).params in
    let same : n ≡ length h.0.params = h.2 in
    omega arith

ask_few : (p : Source) (x : Ask) → KeepsRules p → HasProgramNumbers p (s.Ask x) → AskHasFewArguments x
ask_few p (Spawn f n d) l h = few_params p f n l h
ask_few p _ l h = tt

control_few : (c : Flow) (at : ℕ) (i : Instr) (x : Control) → KeepsRules c.program → HasProgramNumbers c.program (s.Control x) → LeadsInto (λ to. to < length c.code) c at i (s.Control x)
    → HasCallFor c x
control_few c at i (Call f n) l h leads = (slice_get_within c.entrances f leads.1.0 leads.1.1, few_params c.program f n l h)
control_few c at i _ l h leads = tt

step_few : (c : Flow) (at : ℕ) (i : Instr) (x : CodeStep) → KeepsRules c.program → HasProgramNumbers c.program x → LeadsInto (λ to. to < length c.code) c at i x → TakesFewArguments c x
step_few c at i (s.Compute x) l h leads = tt
step_few c at i (s.Ask x) l h leads = ask_few c.program x l h
step_few c at i (s.Control x) l h leads = control_few c at i x l h leads

pub few_arguments : (c : Flow) (at : ℕ) (i : Instr) → IsLowered c → slice_get c.code at ≡ Some i → TakesFewArguments c i.step
few_arguments c at i l e =
    step_few c at i i.step l.lawful (numbers_at c at i l e) (subst JumpsForward (sym l.is) (lowered_forward c.program l.lawful) at i e)
