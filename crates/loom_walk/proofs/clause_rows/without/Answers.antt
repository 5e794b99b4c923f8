use Rattle.std.proofs.Common.{ℕ, ◌==◌, ◌&&◌, ◌||◌, List, not, length, ap, arith}
use Rattle.loom_law.specs.Filter.{has}
use Rattle.loom_plan.specs.Sets.{clause_numbers}
use Rattle.loom_walk.proofs.HeldClauses.{out_step, out_end}
use Rattle.loom_walk.proofs.clause_rows.without.Goals as goal

pub numbers-init : goal.numbers-init
numbers-init c m = ap (λ (ns : List ℕ). has ns m || (has (clause_numbers c.args.clauses) m && not (m == c.args.clause))) c.none-left.ensures

pub numbers-smaller : goal.numbers-smaller
numbers-smaller c = let long = ap length c.in-Some.ensures.taken in omega (arith, long)

pub numbers-preserved : goal.numbers-preserved
numbers-preserved c m =
    out_step (has (clause_numbers c.args.clauses) m && not (m == c.args.clause)) c.in-Some.n c.args.clause m _ (clause_numbers c.numbers.left) _ _
    c.put_if.ensures.put c.in-Some.ensures.taken (c.numbers.invariant m)

pub returns : goal.returns
returns c m = out_end (has (clause_numbers c.args.clauses) m && not (m == c.args.clause)) c.args.clause m _ _ c.in_default.ensures.taken.0 (c.numbers.invariant m)
