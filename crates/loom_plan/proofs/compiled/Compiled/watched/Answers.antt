use Rattle.std.proofs.Common.{ap, subst, ◌∙◌, arith}
use Rattle.loom_lang.specs.Places.{places}
use Rattle.loom_plan.specs.Compiled.{Compiled}
use Rattle.loom_plan.specs.declared.plan.WatchRow.{WatchRow}
use Rattle.loom_plan.specs.Sets.{event_numbers}
use Rattle.loom_plan.specs.PlaceEvents.{place_names}
use Rattle.loom_plan.specs.PlanParts.{IsFitting}
use Rattle.loom_plan.proofs.Rows.{as_many_rows, row_at}
use Rattle.loom_plan.proofs.compiled.Compiled.watched.Goals as goal

pub index-requires : goal.index-requires
index-requires c =
    let fits : IsFitting c.args.self.now.program c.args.self.now.plan c.self.inside.waiting c.self.inside.posting c.self.inside.regions.items c.self.inside.rows.items
    = subst (λ (z : Compiled). IsFitting z.program z.plan c.self.inside.waiting c.self.inside.posting c.self.inside.regions.items c.self.inside.rows.items) c.self.view_is c.self.invariant in
    let same = as_many_rows c.args.self.now.plan (place_names c.args.self.now.program) (places c.args.self.now.program) c.self.inside.rows.items fits.rows in
    omega (arith, same)

pub returns : goal.returns
returns c x e =
    let fits : IsFitting c.args.self.now.program c.args.self.now.plan c.self.inside.waiting c.self.inside.posting c.self.inside.regions.items c.self.inside.rows.items
    = subst (λ (z : Compiled). IsFitting z.program z.plan c.self.inside.waiting c.self.inside.posting c.self.inside.regions.items c.self.inside.rows.items) c.self.view_is c.self.invariant in
    ap (λ (r : WatchRow). event_numbers r.events) c.index.ensures
    ∙ (row_at c.args.self.now.plan (place_names c.args.self.now.program) (places c.args.self.now.program) c.self.inside.rows.items c.args.place x c.index.result.now fits.rows e).events
