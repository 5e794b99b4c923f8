use Rattle.std.proofs.Common.{ℕ, ◌+◌, ◌-◌, ◌∷◌, List, ap, ◌∙◌, arith}
use Rattle.loom_law.specs.Filter.{has}
use Rattle.loom_plan.proofs.LocalNames.{run_low}
use Rattle.loom_plan.proofs.Steps.{run_more}
use Rattle.loom_plan.proofs.clauses.run.Goals as goal

pub down-preserved : goal.down-preserved
down-preserved c = record {
  within = omega arith;
  is = c.put.ensures.first (λ m h. ap (λ (xs : List ℕ). has xs m) c.down.invariant.is ∙ run_low (c.args.first + c.down.n) (c.args.count - c.down.n) m (omega arith))
      ∙ (ap (λ (xs : List ℕ). (c.args.first + (c.down.n - 1)) ∷ xs) c.down.invariant.is
      ∙ run_more (c.args.first + (c.down.n - 1)) (c.args.first + c.down.n) (c.args.count - c.down.n) (c.args.count - (c.down.n - 1)) (omega arith) (omega arith));
}
