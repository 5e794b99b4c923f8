use Rattle.std.proofs.Common.{◌≡◌, ◌≤◌, refl, sym, subst, arith}
use Rattle.loom_walk.specs.FilterWalk.{FilterWalk, IsAt}
use Rattle.loom_walk.specs.Owed.{filters_owed}
use Rattle.loom_walk.specs.Growth.{HaveNoMore, AreThere}
use Rattle.loom_walk.proofs.GrowthSteps.{rows_none, grown_line}
use Rattle.std.proofs.lemmas.Option.{slice_get_within}
use Rattle.loom_lang.specs.Places.{places}
use Rattle.loom_lang.specs.Places as place
use Rattle.loom_flow.specs.State.{named}
use Rattle.loom_plan.specs.PlaceEvents.{names_at}
use Rattle.loom_version.specs.Plans.{plans_in}
use Rattle.loom_walk.proofs.ItemSteps.{begins_statement}
use Rattle.loom_walk.proofs.NewFilters.{have_place}
use Rattle.loom_walk.proofs.WalkCalls.{room_kept, line_at, queue_statement}
use Rattle.loom_walk.proofs.filter_walk.FilterWalk.begin_statement.Goals as goal

pub place_line-line-requires : goal.place_line-line-requires
place_line-line-requires c = slice_get_within (places c.args.flow.now.program) c.args.place _ c.requires.place.1

pub add_all_at_statement-requires-clause-nothing : goal.add_all_at_statement-requires-clause-nothing
add_all_at_statement-requires-clause-nothing c = rows_none c.place_line-line.result _ c.restart.ensures

pub add_all_at_statement-requires-clause-there : goal.add_all_at_statement-requires-clause-there
add_all_at_statement-requires-clause-there c =
    let same : c.active.result.now ≡ c.self.inside.version.active = c.active.ensures.is in
    let filters : AreThere c.args.flow.now.program c.args.plans.now c.self.inside.version.active = subst (λ (w : FilterWalk). AreThere c.args.flow.now.program c.args.plans.now w.version.active) (sym c.self.view_is) c.requires.filters.all in
    have_place c.args.flow.now.program c.args.plans.now c.active.result.now c.args.place _ (subst (AreThere c.args.flow.now.program c.args.plans.now) (sym same) filters) c.requires.place.1

pub invariant_of-self : goal.invariant_of-self
invariant_of-self c = record {
  rows = record {
    filters = c.self.invariant.rows.filters;
    owed = c.add_all_at_statement.ensures.grows.rows;
    own_owed = subst (HaveNoMore (filters_owed c.add_all_at_statement.new.owed.rows)) c.active.ensures.is c.add_all_at_statement.ensures.grows.filters;
    depths = c.self.invariant.rows.depths;
    own = c.self.invariant.rows.own;
    few_events = c.self.invariant.rows.few_events;
    few_regions = c.self.invariant.rows.few_regions;
  };
  regions = c.self.invariant.regions;
}

pub returns-clause-at : goal.returns-clause-at
returns-clause-at c z l there h =
    let p = c.args.flow.now.program in
    let old = subst (λ (w : FilterWalk). IsAt c.args.flow.now.program (plans_in c.args.plans.now) w z) (sym c.self.view_is) h in
    let line : c.place_line-line.result ≡ l = line_at c.args.flow.now.program c.args.place c.place_line-line.result (place.inside l) c.place_line-line.ensures.line there in
    let deep : 1 ≤ c.self.inside.depth = subst (λ (w : FilterWalk). 1 ≤ w.depth) (sym c.self.view_is) c.requires.frame in
    let same : c.active.result.now ≡ c.self.inside.version.active = c.active.ensures.is in
    let filters : AreThere c.args.flow.now.program c.args.plans.now c.self.inside.version.active = subst (λ (w : FilterWalk). AreThere c.args.flow.now.program c.args.plans.now w.version.active) (sym c.self.view_is) c.requires.filters.all in
    begins_statement c.args.flow.now.program (plans_in c.args.plans.now) _ z c.place_line-line.result l c.args.place (named (names_at c.args.flow.now.program c.args.place) c.args.locals.now)
    c.add_all_at_statement.new.owed there deep line (grown_line c.active.result.now c.place_line-line.result c.restart.new.self c.add_all_at_statement.new.owed c.restart.ensures c.add_all_at_statement.ensures.grows) old
    (queue_statement c.args.flow.now.program c.args.plans.now c.args.locals.now c.self.inside.clauses c.active.result.now c.self.inside.version.active c.args.place c.place_line-line.result l z.held
    c.restart.new.self c.add_all_at_statement.new.owed c.restart.ensures c.add_all_at_statement.ensures.grows line same filters there old.holdings c.add_all_at_statement.ensures.queue)

pub returns-clause-room : goal.returns-clause-room
returns-clause-room c = room_kept c.args.self.now _ _ c.self.view_is refl (omega arith) (omega arith)
