use Rattle.std.proofs.Common.{Some, refl, sym, subst, ◌∙◌, arith}
use Rattle.loom_walk.specs.FilterWalk.{FilterWalk, IsAt}
use Rattle.loom_walk.specs.Owed.{filters_owed, queue}
use Rattle.loom_walk.specs.Growth.{AreThere}
use Rattle.loom_walk.proofs.FilterCounts.{one_less, are_among}
use Rattle.loom_plan.specs.Sets.{event_numbers}
use Rattle.loom_version.specs.Plans.{plans_in}
use Rattle.loom_walk.specs.declared.owed.OwedOperation.TheVariants as o
use Rattle.loom_walk.specs.FilterWalk.{IsFirstOperation}
use Rattle.loom_walk.proofs.OwnOperations.{own_operation}
use Rattle.loom_walk.proofs.OperationSteps.{makes_past}
use Rattle.loom_walk.proofs.WalkCalls.{one_noted}
use Rattle.loom_walk.proofs.filter_walk.FilterWalk.make_past.Goals as goal

pub leave_regions-requires-clause-there : goal.leave_regions-requires-clause-there
leave_regions-requires-clause-there c =
    let first : IsFirstOperation (queue c.self.inside.owed) (Some (o.Past c.args.k c.args.events))
    = subst (λ (w : FilterWalk). IsFirstOperation (queue w.owed) (Some (o.Past c.args.k c.args.events))) (sym c.self.view_is) c.requires.first in
    let own = own_operation c.self.inside.version.active c.self.inside.owed (o.Past c.args.k c.args.events) (are_among (filters_owed c.self.inside.owed.rows) c.self.inside.version.active c.self.invariant.rows.own_owed) first in
    let filters : AreThere c.requires.filters.0 c.args.plans.now c.self.inside.version.active = subst (λ (w : FilterWalk). AreThere c.requires.filters.0 c.args.plans.now w.version.active) (sym c.self.view_is) c.requires.filters.1.all in
    (c.requires.filters.0, filters c.args.k own)

pub leave_regions-requires-clause-depths : goal.leave_regions-requires-clause-depths
leave_regions-requires-clause-depths c = c.self.invariant.rows.depths

pub pop_first-requires : goal.pop_first-requires
pop_first-requires c = c.self.invariant.rows.owed

pub invariant_of-self : goal.invariant_of-self
invariant_of-self c = record {
  rows = record {
    filters = c.self.invariant.rows.filters;
    owed = c.pop_first.ensures.rows;
    own_owed = one_less (filters_owed c.pop_first.new.self.rows) (filters_owed c.self.inside.owed.rows) c.pop_first.ensures.filters.0 c.self.inside.version.active c.pop_first.ensures.filters.1 c.self.invariant.rows.own_owed;
    depths = c.leave_regions.ensures.depths;
    own = c.leave_regions.ensures.filters c.self.inside.version.active c.self.invariant.rows.own;
    few_events = c.self.invariant.rows.few_events;
    few_regions = omega (arith, c.leave_regions.ensures.few, c.self.invariant.rows.few_regions);
  };
  regions = c.leave_regions.ensures.room ∙ c.self.invariant.regions;
}

pub returns-clause-at : goal.returns-clause-at
returns-clause-at c p z l owes h =
    let old = subst (λ (w : FilterWalk). IsAt p (plans_in c.args.plans.now) w z) (sym c.self.view_is) h in
    makes_past p (plans_in c.args.plans.now) _ z c.args.k (event_numbers c.args.events) c.pop_first.new.self c.leave_regions.new.regions.notes old (record { queue = c.pop_first.ensures.queue; line = c.pop_first.ensures.line })
    (c.leave_regions.ensures.notes z.frames old.regions old.depth)

pub returns-clause-room : goal.returns-clause-room
returns-clause-room c = one_noted c.args.self.now _ _ c.self.view_is refl (omega arith) (omega (arith, c.leave_regions.ensures.few))
