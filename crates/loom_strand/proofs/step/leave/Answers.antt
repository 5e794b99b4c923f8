use Rattle.std.proofs.Common.{ℕ, ◌≡◌, Some, ap, sym, subst, to_z, of_z, w64, rules}
use Rattle.std.proofs.lemmas.Int.{to_z-of_z}
use Rattle.loom_flow.specs.Progress as flow
use Rattle.loom_strand.specs.declared.step_result.Mark.TheVariants as m
use Rattle.loom_strand.specs.declared.step_result.StepResult.TheVariants as t
use Rattle.loom_strand.specs.Machine.{with_position}
use Rattle.loom_strand.proofs.step.leave.Goals as goal

pub returns : goal.returns
returns c =
    let same : to_z w64 (of_z w64 c.args.v) ≡ c.args.v = to_z-of_z w64 c.args.v (search rules) in
    λ place. (
      ap (λ (f : ℕ). t.Goes (Some (m.Out f))) c.func-func.ensures,
      subst (λ v. c.back.new.self ≡ with_position c.args.machine.now (flow.returns c.args.flow.now c.args.machine.now.state.values v c.args.machine.now.state.below)) same
          (c.back.ensures c.args.flow.now (sym c.sites.ensures.sites)),
    )
