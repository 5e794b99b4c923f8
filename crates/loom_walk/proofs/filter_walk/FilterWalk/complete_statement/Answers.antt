use Rattle.std.proofs.Common.{◌≡◌, sym, subst, arith}
use Rattle.loom_walk.specs.FilterWalk.{FilterWalk, IsAt}
use Rattle.loom_walk.specs.Owed.{filters_owed}
use Rattle.loom_walk.specs.Growth.{HaveNoMore, AreThere}
use Rattle.loom_walk.proofs.GrowthSteps.{rows_none}
use Rattle.loom_version.specs.Plans.{plans_in}
use Rattle.loom_walk.proofs.ItemSteps.{completes_statement}
use Rattle.loom_walk.proofs.WalkCalls.{room_kept, queue_behind_statement}
use Rattle.loom_walk.proofs.filter_walk.FilterWalk.complete_statement.Goals as goal

pub add_all_behind-requires-clause-nothing : goal.add_all_behind-requires-clause-nothing
add_all_behind-requires-clause-nothing c = rows_none c.args.line _ c.restart.ensures

pub add_all_behind-requires-clause-there : goal.add_all_behind-requires-clause-there
add_all_behind-requires-clause-there c =
    let same : c.active.result.now ≡ c.self.inside.version.active = c.active.ensures.is in
    let filters : AreThere c.requires.filters.0 c.args.plans.now c.self.inside.version.active = subst (λ (w : FilterWalk). AreThere c.requires.filters.0 c.args.plans.now w.version.active) (sym c.self.view_is) c.requires.filters.1.all in
    (c.requires.filters.0, subst (AreThere c.requires.filters.0 c.args.plans.now) (sym same) filters)

pub add_all_behind-requires-clause-depths : goal.add_all_behind-requires-clause-depths
add_all_behind-requires-clause-depths c = c.self.invariant.rows.depths

pub invariant_of-self : goal.invariant_of-self
invariant_of-self c = record {
  rows = record {
    filters = c.self.invariant.rows.filters;
    owed = c.add_all_behind.ensures.grows.rows;
    own_owed = subst (HaveNoMore (filters_owed c.add_all_behind.new.owed.rows)) c.active.ensures.is c.add_all_behind.ensures.grows.filters;
    depths = c.self.invariant.rows.depths;
    own = c.self.invariant.rows.own;
    few_events = omega (arith, c.done.ensures.few, c.done.ensures.room, c.self.invariant.rows.few_events);
    few_regions = omega (arith, c.done.ensures.room, c.self.invariant.rows.few_regions);
  };
  regions = omega (arith, c.self.invariant.regions, c.done.ensures.room);
}

pub returns-clause-at : goal.returns-clause-at
returns-clause-at c p z inner h =
    let old = subst (λ (w : FilterWalk). IsAt p (plans_in c.args.plans.now) w z) (sym c.self.view_is) h in
    completes_statement p (plans_in c.args.plans.now) _ z c.args.line c.done.new.self.room c.done.new.self.notes c.add_all_behind.new.owed old (c.done.ensures.notes z.frames old.events old.depth inner)
    (queue_behind_statement (plans_in c.args.plans.now) c.active.result.now c.self.inside.version.active c.args.line z.frames z.held c.restart.new.self c.add_all_behind.new.owed c.restart.ensures
    c.add_all_behind.ensures.grows c.active.ensures.is (λ j. c.add_all_behind.ensures.queue z.frames z.held j old.events old.regions old.depth inner old.holdings))

pub returns-clause-room : goal.returns-clause-room
returns-clause-room c = room_kept c.args.self.now _ _ c.self.view_is c.done.ensures.room c.done.ensures.few (omega arith)
