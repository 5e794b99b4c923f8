use Rattle.std.proofs.Common.{◌≡◌, [], length, sym, ap, subst, ◌∙◌, arith}
use Rattle.loom_walk.specs.FilterWalk.{FilterWalk, IsAt}
use Rattle.loom_walk.specs.Owed.{filters_owed}
use Rattle.loom_walk.specs.Growth.{HaveNoMore, AreThere}
use Rattle.loom_walk.proofs.GrowthSteps.{rows_none}
use Rattle.loom_version.specs.Plans.{plans_in}
use Rattle.loom_walk.specs.Notes.{EventNotes, RegionNotes, HaveDepths, AreOfFilters}
use Rattle.loom_walk.proofs.ItemSteps.{traps}
use Rattle.loom_walk.proofs.WalkCalls.{room_kept, queue_leaving}
use Rattle.loom_walk.proofs.filter_walk.FilterWalk.trap.Goals as goal

pub add_all_leaves-requires-clause-nothing : goal.add_all_leaves-requires-clause-nothing
add_all_leaves-requires-clause-nothing c = rows_none c.args.line _ c.restart.ensures

pub add_all_leaves-requires-clause-there : goal.add_all_leaves-requires-clause-there
add_all_leaves-requires-clause-there c =
    let same : c.active.result.now ≡ c.self.inside.version.active = c.active.ensures.is in
    let filters : AreThere c.requires.filters.0 c.args.plans.now c.self.inside.version.active = subst (λ (w : FilterWalk). AreThere c.requires.filters.0 c.args.plans.now w.version.active) (sym c.self.view_is) c.requires.filters.1.all in
    (c.requires.filters.0, subst (AreThere c.requires.filters.0 c.args.plans.now) (sym same) filters)

pub invariant_of-self : goal.invariant_of-self
invariant_of-self c =
    let events : c.clear.new.self.notes ≡ [] = ap (λ (x : EventNotes). x.notes) c.clear.ensures in
    let regions : c.clear-2.new.self.notes ≡ [] = ap (λ (x : RegionNotes). x.notes) c.clear-2.ensures in
    let room : c.clear.new.self.room ≡ c.self.inside.events.room = ap (λ (x : EventNotes). x.room) c.clear.ensures in
    let other : c.clear-2.new.self.room ≡ c.self.inside.regions.room = ap (λ (x : RegionNotes). x.room) c.clear-2.ensures in
    record {
      rows = record {
        filters = c.self.invariant.rows.filters;
        owed = c.add_all_leaves.ensures.grows.rows;
        own_owed = subst (HaveNoMore (filters_owed c.add_all_leaves.new.owed.rows)) c.active.ensures.is c.add_all_leaves.ensures.grows.filters;
        depths = subst (HaveDepths 1 0) (sym regions) tt;
        own = subst (AreOfFilters c.self.inside.version.active) (sym regions) tt;
        few_events = omega (arith, ap length events);
        few_regions = omega (arith, ap length regions);
      };
      regions = other ∙ (c.self.invariant.regions ∙ sym room);
    }

pub returns-clause-at : goal.returns-clause-at
returns-clause-at c p z cause h =
    let old = subst (λ (w : FilterWalk). IsAt p (plans_in c.args.plans.now) w z) (sym c.self.view_is) h in
    let events : c.clear.new.self.notes ≡ [] = ap (λ (x : EventNotes). x.notes) c.clear.ensures in
    let regions : c.clear-2.new.self.notes ≡ [] = ap (λ (x : RegionNotes). x.notes) c.clear-2.ensures in
    traps p (plans_in c.args.plans.now) _ z c.args.line c.clear.new.self.room cause c.clear.new.self.notes c.clear-2.new.self.notes c.add_all_leaves.new.owed old events
    (queue_leaving (plans_in c.args.plans.now) c.active.result.now c.self.inside.version.active c.args.line [] z.held c.restart.new.self c.add_all_leaves.new.owed c.restart.ensures
    c.add_all_leaves.ensures.grows c.active.ensures.is (λ j. c.add_all_leaves.ensures.queue [] z.held j tt (subst (HaveDepths 1 0) (sym regions) tt) old.holdings))

pub returns-clause-room : goal.returns-clause-room
returns-clause-room c =
    let events : length c.clear.new.self.notes ≡ 0 = ap (λ (x : EventNotes). length x.notes) c.clear.ensures in
    let regions : length c.clear-2.new.self.notes ≡ 0 = ap (λ (x : RegionNotes). length x.notes) c.clear-2.ensures in
    room_kept c.args.self.now _ _ c.self.view_is (ap (λ (x : EventNotes). x.room) c.clear.ensures) (omega (arith, events)) (omega (arith, regions))
