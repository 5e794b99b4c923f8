use Rattle.std.proofs.Common.{◌<◌, length, Some, sym, subst, ◌∙◌, arith}
use Rattle.loom_walk.specs.FilterWalk.{FilterWalk, IsAt}
use Rattle.loom_walk.specs.Owed.{filters_owed, queue}
use Rattle.loom_walk.specs.Growth.{AreThere}
use Rattle.loom_walk.proofs.FilterCounts.{one_less, are_among}
use Rattle.loom_plan.specs.Sets.{event_numbers}
use Rattle.loom_version.specs.Plans.{plans_in}
use Rattle.loom_walk.specs.declared.owed.OwedOperation.TheVariants as o
use Rattle.loom_walk.specs.FilterWalk.{IsFirstOperation}
use Rattle.loom_walk.proofs.OwnOperations.{own_operation}
use Rattle.loom_walk.proofs.OperationSteps.{makes_at}
use Rattle.loom_walk.proofs.WalkCalls.{one_noted}
use Rattle.loom_walk.proofs.filter_walk.FilterWalk.make_at.Goals as goal

pub note_events-requires : goal.note_events-requires
note_events-requires c = subst (λ (w : FilterWalk). length w.events < w.room) (sym c.self.view_is) c.requires.events

pub enter_regions-requires-clause-there : goal.enter_regions-requires-clause-there
enter_regions-requires-clause-there c =
    let first : IsFirstOperation (queue c.self.inside.owed) (Some (o.At c.args.k c.args.events))
    = subst (λ (w : FilterWalk). IsFirstOperation (queue w.owed) (Some (o.At c.args.k c.args.events))) (sym c.self.view_is) c.requires.first in
    let own = own_operation c.self.inside.version.active c.self.inside.owed (o.At c.args.k c.args.events) (are_among (filters_owed c.self.inside.owed.rows) c.self.inside.version.active c.self.invariant.rows.own_owed) first in
    let filters : AreThere c.requires.filters.0 c.args.plans.now c.self.inside.version.active = subst (λ (w : FilterWalk). AreThere c.requires.filters.0 c.args.plans.now w.version.active) (sym c.self.view_is) c.requires.filters.1.all in
    (c.requires.filters.0, filters c.args.k own)

pub enter_regions-requires-clause-room : goal.enter_regions-requires-clause-room
enter_regions-requires-clause-room c =
    let low : length c.self.inside.regions.notes < c.self.inside.events.room = subst (λ (w : FilterWalk). length w.regions < w.room) (sym c.self.view_is) c.requires.regions in
    omega (arith, low, c.self.invariant.regions)

pub pop_first-requires : goal.pop_first-requires
pop_first-requires c = c.self.invariant.rows.owed

pub invariant_of-self : goal.invariant_of-self
invariant_of-self c =
    let first : IsFirstOperation (queue c.self.inside.owed) (Some (o.At c.args.k c.args.events))
    = subst (λ (w : FilterWalk). IsFirstOperation (queue w.owed) (Some (o.At c.args.k c.args.events))) (sym c.self.view_is) c.requires.first in
    let own = own_operation c.self.inside.version.active c.self.inside.owed (o.At c.args.k c.args.events) (are_among (filters_owed c.self.inside.owed.rows) c.self.inside.version.active c.self.invariant.rows.own_owed) first in
    let events : length c.self.inside.events.notes < c.self.inside.events.room = subst (λ (w : FilterWalk). length w.events < w.room) (sym c.self.view_is) c.requires.events in
    let regions : length c.self.inside.regions.notes < c.self.inside.events.room = subst (λ (w : FilterWalk). length w.regions < w.room) (sym c.self.view_is) c.requires.regions in
    record {
      rows = record {
        filters = c.self.invariant.rows.filters;
        owed = c.pop_first.ensures.rows;
        own_owed = one_less (filters_owed c.pop_first.new.self.rows) (filters_owed c.self.inside.owed.rows) c.pop_first.ensures.filters.0 c.self.inside.version.active c.pop_first.ensures.filters.1 c.self.invariant.rows.own_owed;
        depths = c.enter_regions.ensures.depths c.self.invariant.rows.depths;
        own = c.enter_regions.ensures.filters c.self.inside.version.active own c.self.invariant.rows.own;
        few_events = omega (arith, events, c.note_events.ensures.few, c.note_events.ensures.room);
        few_regions = omega (arith, regions, c.enter_regions.ensures.few, c.note_events.ensures.room);
      };
      regions = c.enter_regions.ensures.room ∙ (c.self.invariant.regions ∙ sym c.note_events.ensures.room);
    }

pub returns-clause-at : goal.returns-clause-at
returns-clause-at c p z l owes h =
    let old = subst (λ (w : FilterWalk). IsAt p (plans_in c.args.plans.now) w z) (sym c.self.view_is) h in
    makes_at p (plans_in c.args.plans.now) _ z c.args.k c.note_events.new.notes.room (event_numbers c.args.events) c.pop_first.new.self c.note_events.new.notes.notes c.enter_regions.new.regions.notes old (record { queue = c.pop_first.ensures.queue; line = c.pop_first.ensures.line })
    (c.note_events.ensures.notes p z.frames z.spot old.spot old.top old.events old.depth) (c.enter_regions.ensures.notes z.frames old.regions old.depth)

pub returns-clause-room : goal.returns-clause-room
returns-clause-room c = one_noted c.args.self.now _ _ c.self.view_is c.note_events.ensures.room c.note_events.ensures.few c.enter_regions.ensures.few
