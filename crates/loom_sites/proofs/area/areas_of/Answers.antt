use Rattle.std.proofs.Common.{ℕ, ◌+◌, ◌∷◌, [], ◌++◌, List, take, sym, subst}
use Rattle.loom_tree.specs.Tree.{Source}
use Rattle.loom_law.specs.Filter.{Range, Plan}
use Rattle.loom_plan.specs.declared.plan.RegionRow.{RegionRow}
use Rattle.loom_plan.specs.PlanView.{regions_in}
use Rattle.loom_sites.specs.declared.area.Area.{Area}
use Rattle.loom_sites.specs.Areas.{AreAreas, IsOwnAmong, AreWith}
use Rattle.loom_sites.proofs.AreaSteps.{areas_more, with_more, regions_more}
use Rattle.loom_sites.proofs.area.areas_of.Goals as goal

pub regions-preserved : goal.regions-preserved
regions-preserved c =
    let p : Source = c.args.flow.now.program in
    let f : Plan = c.args.c.now.plan in
    let rows : List RegionRow = c.args.regions.now in
    let i : ℕ = c.regions.row-index in
    let more = regions_more rows i _ c.regions-test.true in
    let P : List Area → Type 0 = λ xs. AreAreas p f (regions_in (take (i + 1) rows)) xs in
    let Q : List (ℕ × Range) → Type 0 = λ rs. AreAreas p f rs (c.regions.areas.items ++ c.in_ok-area_of.field-0 ∷ []) in
    let R : List (ℕ × Range) → Type 0 = λ rs. AreWith (IsOwnAmong p f rs) c.args.places.now c.area_of.new.places in
    record {
      areas = subst P (sym c.in_ok-push.ensures.items) (subst Q (sym more) (areas_more p f (regions_in (take i rows)) _ c.regions.areas.items c.in_ok-area_of.field-0 c.regions.invariant.areas c.in_ok-area_of.ensures.area));
      places = subst R (sym more) (with_more p f (regions_in (take i rows)) _ c.args.places.now c.regions.places c.area_of.new.places c.regions.invariant.places c.in_ok-area_of.ensures.places);
    }
