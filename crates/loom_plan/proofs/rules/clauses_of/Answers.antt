use Rattle.std.proofs.Common.{ℕ, ◌≡◌, ◌≤◌, ◌+◌, List, suc, arith, sym, subst, drop}
use Rattle.loom_command.specs.FilterFault.{most_clauses}
use Rattle.loom_law.specs.Filter.{has}
use Rattle.loom_plan.specs.Numbers.{most_numbers}
use Rattle.loom_plan.specs.declared.plan.RegionSpan.TheVariants.{Whole}
use Rattle.loom_plan.specs.declared.plan.RegionRow.{RegionRow}
use Rattle.loom_plan.specs.Sets.{region_numbers}
use Rattle.loom_plan.specs.PlanView.{regions_in}
use Rattle.loom_plan.specs.PlanParts.{AreOfClauses}
use Rattle.loom_plan.proofs.Orders.{clause_here, among_more}
use Rattle.loom_plan.proofs.rules.clauses_of.Goals as goal

none : RegionRow
none = record { clause = 0; span = Whole 0 }

pub put_if-requires-clause-low : goal.put_if-requires-clause-low
put_if-requires-clause-low c = (clause_here c.args.regions.now c.rows.i _ (omega arith) c.rows.invariant.clauses).0.0

at_next : (xs : List RegionRow) (i j : ℕ) → j ≡ suc i → AreOfClauses (drop (suc i) (regions_in xs)) → AreOfClauses (drop j (regions_in xs))
at_next xs i j e h = subst (λ (m : ℕ). AreOfClauses (drop m (regions_in xs))) (sym e) h

few : {n : ℕ} → n ≤ most_clauses → n ≤ most_numbers
few h = omega arith

pub put_if-requires-clause-high : goal.put_if-requires-clause-high
put_if-requires-clause-high c = few (clause_here c.args.regions.now c.rows.i _ (omega arith) c.rows.invariant.clauses).0.1

pub rows-preserved : goal.rows-preserved
rows-preserved c = record {
  clauses = at_next c.args.regions.now c.rows.i (c.rows.i + 1) (omega arith) (clause_here c.args.regions.now c.rows.i none (omega arith) c.rows.invariant.clauses).1;
  is = λ x. among_more (has (region_numbers c.args.among)) x c.args.regions.now c.rows.i _ _ _ _ c.has.result _ (omega arith) (omega arith) c.has.ensures (c.put_if.ensures.put x) (c.rows.invariant.is x);
}
