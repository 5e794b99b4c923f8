use Rattle.std.proofs.Common.{ℕ, ◌≡◌, List, ap, sym, subst, ◌∙◌}
use Rattle.loom_law.specs.Filter.{Range, has}
use Rattle.loom_plan.specs.Compiled.{Compiled}
use Rattle.loom_plan.specs.declared.plan.RegionRow.{RegionRow}
use Rattle.loom_plan.specs.Sets.{region_numbers}
use Rattle.loom_plan.specs.PlanView.{plan_of_rows, regions_in}
use Rattle.loom_plan.specs.PlanParts.{plan_regions, AreOfClauses}
use Rattle.loom_plan.specs.Operations.{is_region_among}
use Rattle.loom_plan.proofs.RegionRows.{inside_is, have_clauses}
use Rattle.loom_plan.proofs.compiled.Compiled.clauses_of.Goals as goal

of_equal : (xs ys : List (ℕ × Range)) → xs ≡ ys → AreOfClauses ys → AreOfClauses xs
of_equal xs ys e h = subst AreOfClauses (sym e) h

pub clauses_of-requires-clause-clauses : goal.clauses_of-requires-clause-clauses
clauses_of-requires-clause-clauses c =
    of_equal _ _ (ap regions_in c.deref.ensures.value ∙ c.self.invariant.regions)
    (have_clauses (plan_of_rows c.self.inside.events.items c.self.inside.rules.items) c.self.invariant.small.clauses)

pub returns : goal.returns
returns c k x =
    inside_is c.args.self.now.plan k x c.args.regions
    ∙ sym (c.clauses_of.ensures x
    ∙ (ap (λ (rs : List RegionRow). is_region_among (has (region_numbers c.args.regions)) x 1 (regions_in rs)) c.deref.ensures.value
    ∙ (ap (λ (xs : List (ℕ × Range)). is_region_among (has (region_numbers c.args.regions)) x 1 xs) c.self.invariant.regions
    ∙ ap (λ (z : Compiled). is_region_among (has (region_numbers c.args.regions)) x 1 (plan_regions z.plan)) c.self.view_is)))
