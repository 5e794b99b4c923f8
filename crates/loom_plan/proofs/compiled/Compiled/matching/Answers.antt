use Rattle.std.proofs.Common.{ℕ, ℤ, ◌≡◌, List, [], ◌∷◌, Option, None, get_or, refl, ap, sym, subst, ◌∙◌, arith}
use Rattle.loom_law.specs.Filter.{Site}
use Rattle.loom_lang.specs.Places.{places}
use Rattle.loom_plan.specs.Compiled.{Compiled}
use Rattle.loom_plan.specs.declared.plan.Pick.{Pick}
use Rattle.loom_plan.specs.declared.plan.WatchRow.{WatchRow}
use Rattle.loom_plan.specs.PlaceEvents.{site_at, names_at, place_names, picked, Ascend, ArePicks, IsWatchRow}
use Rattle.loom_plan.specs.PlanParts.{IsFitting}
use Rattle.loom_plan.proofs.Rows.{as_many_rows, row_at, row_ascends, row_matches, get_some}
use Rattle.loom_plan.proofs.compiled.Compiled.matching.Goals as goal

pub index-requires : goal.index-requires
index-requires c =
    let fits : IsFitting c.args.self.now.program c.args.self.now.plan c.self.inside.waiting c.self.inside.posting c.self.inside.regions.items c.self.inside.rows.items
    = subst (λ (z : Compiled). IsFitting z.program z.plan c.self.inside.waiting c.self.inside.posting c.self.inside.regions.items c.self.inside.rows.items) c.self.view_is c.self.invariant in
    let same = as_many_rows c.args.self.now.plan (place_names c.args.self.now.program) (places c.args.self.now.program) c.self.inside.rows.items fits.rows in
    omega (arith, same)

pub matching_in-requires : goal.matching_in-requires
matching_in-requires c =
    let fits : IsFitting c.args.self.now.program c.args.self.now.plan c.self.inside.waiting c.self.inside.posting c.self.inside.regions.items c.self.inside.rows.items
    = subst (λ (z : Compiled). IsFitting z.program z.plan c.self.inside.waiting c.self.inside.posting c.self.inside.regions.items c.self.inside.rows.items) c.self.view_is c.self.invariant in
    let there = get_some (places c.args.self.now.program) c.args.place c.requires in
    subst (λ (r : WatchRow). Ascend 0 r.picks.items) (sym c.index.ensures)
    (row_ascends c.args.self.now.plan (names_at c.args.self.now.program c.args.place) (site_at there.0) _ fits.small.events
    (row_at c.args.self.now.plan (place_names c.args.self.now.program) (places c.args.self.now.program) c.self.inside.rows.items c.args.place there.0 c.index.result.now fits.rows there.1))

pub returns-clause-matching : goal.returns-clause-matching
returns-clause-matching c x at e s =
    let fits : IsFitting c.args.self.now.program c.args.self.now.plan c.self.inside.waiting c.self.inside.posting c.self.inside.regions.items c.self.inside.rows.items
    = subst (λ (z : Compiled). IsFitting z.program z.plan c.self.inside.waiting c.self.inside.posting c.self.inside.regions.items c.self.inside.rows.items) c.self.view_is c.self.invariant in
    c.matching_in.ensures
    ∙ (ap (λ (r : WatchRow). picked c.args.locals.now r.picks.items) c.index.ensures
    ∙ row_matches c.args.self.now.plan (names_at c.args.self.now.program c.args.place) (site_at x) at _ c.args.locals.now s
    (row_at c.args.self.now.plan (place_names c.args.self.now.program) (places c.args.self.now.program) c.self.inside.rows.items c.args.place x c.index.result.now fits.rows e))

-- where no event begins there is none to pick
none_picked : (names : List (List ℕ)) (vs : List ℤ) (xs : List Pick) → ArePicks names xs [] → picked vs xs ≡ []
none_picked names vs [] h = refl
none_picked names vs (x ∷ xs) h = absurd h

pub returns-clause-nothing : goal.returns-clause-nothing
returns-clause-nothing c x e s =
    let fits : IsFitting c.args.self.now.program c.args.self.now.plan c.self.inside.waiting c.self.inside.posting c.self.inside.regions.items c.self.inside.rows.items
    = subst (λ (z : Compiled). IsFitting z.program z.plan c.self.inside.waiting c.self.inside.posting c.self.inside.regions.items c.self.inside.rows.items) c.self.view_is c.self.invariant in
    let row : IsWatchRow c.args.self.now.plan (names_at c.args.self.now.program c.args.place) None (get_or c.self.inside.rows.items c.args.place c.index.result.now)
    = subst (λ (o : Option Site). IsWatchRow c.args.self.now.plan (names_at c.args.self.now.program c.args.place) o (get_or c.self.inside.rows.items c.args.place c.index.result.now)) s
    (row_at c.args.self.now.plan (place_names c.args.self.now.program) (places c.args.self.now.program) c.self.inside.rows.items c.args.place x c.index.result.now fits.rows e) in
    c.matching_in.ensures ∙ (ap (λ (r : WatchRow). picked c.args.locals.now r.picks.items) c.index.ensures ∙ none_picked (names_at c.args.self.now.program c.args.place) c.args.locals.now _ row.picks)
