use Rattle.std.proofs.Common.{refl, sym, subst, arith}
use Rattle.loom_walk.specs.FilterWalk.{FilterWalk, IsAt}
use Rattle.loom_walk.specs.Owed.{filters_owed}
use Rattle.loom_walk.proofs.FilterCounts.{one_less}
use Rattle.loom_walk.proofs.OperationSteps.{makes_only}
use Rattle.loom_walk.proofs.WalkCalls.{one_noted}
use Rattle.loom_walk.proofs.filter_walk.FilterWalk.make_only.Goals as goal

pub pop_first-requires : goal.pop_first-requires
pop_first-requires c = c.self.invariant.rows.owed

pub invariant_of-self : goal.invariant_of-self
invariant_of-self c = record {
  rows = record {
    filters = c.self.invariant.rows.filters;
    owed = c.pop_first.ensures.rows;
    own_owed = one_less (filters_owed c.pop_first.new.self.rows) (filters_owed c.self.inside.owed.rows) c.pop_first.ensures.filters.0 c.self.inside.version.active c.pop_first.ensures.filters.1 c.self.invariant.rows.own_owed;
    depths = c.self.invariant.rows.depths;
    own = c.self.invariant.rows.own;
    few_events = c.self.invariant.rows.few_events;
    few_regions = c.self.invariant.rows.few_regions;
  };
  regions = c.self.invariant.regions;
}

pub returns-clause-at : goal.returns-clause-at
returns-clause-at c p plans z l x only owes h = makes_only p plans _ z x c.pop_first.new.self only (subst (λ (w : FilterWalk). IsAt p plans w z) (sym c.self.view_is) h) (record { queue = c.pop_first.ensures.queue; line = c.pop_first.ensures.line })

pub returns-clause-room : goal.returns-clause-room
returns-clause-room c = one_noted c.args.self.now _ _ c.self.view_is refl (omega arith) (omega arith)
