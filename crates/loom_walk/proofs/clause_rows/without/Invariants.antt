use Rattle.std.proofs.Common.{ℕ, ◌≡◌, ◌==◌, ◌&&◌, ◌||◌, not, length}
use Rattle.loom_law.specs.Filter.{has}
use Rattle.loom_plan.specs.Sets.{clause_numbers}
use Rattle.loom_walk.proofs.clause_rows.without.Given as goal

abbrev pub invariant-numbers : goal.invariant-numbers
invariant-numbers l =
    (c : ℕ) → (has (clause_numbers l.left) c || (has (clause_numbers l.rest) c && not (c == l.clause))) ≡ (has (clause_numbers l.fn.clauses) c && not (c == l.clause))

abbrev pub decreases-numbers : goal.decreases-numbers
decreases-numbers l = length (clause_numbers l.rest)
