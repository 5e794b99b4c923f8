use Rattle.std.proofs.Common.{ℕ, ◌≡◌, true, List, Some, refl, sym, subst, ◌∙◌, arith}
use Rattle.loom_walk.specs.FilterWalk.{FilterWalk, IsAt}
use Rattle.loom_walk.specs.Owed.{filters_owed, queue}
use Rattle.loom_walk.proofs.FilterCounts.{one_less, are_among}
use Rattle.loom_law.specs.Filter.{has}
use Rattle.loom_walk.specs.declared.owed.OwedOperation.TheVariants as o
use Rattle.loom_walk.specs.FilterWalk.{IsFirstOperation}
use Rattle.loom_walk.proofs.OwnOperations.{own_operation}
use Rattle.loom_walk.proofs.OperationSteps.{makes_enter}
use Rattle.loom_walk.proofs.WalkCalls.{one_noted}
use Rattle.loom_walk.proofs.filter_walk.FilterWalk.make_enter.Goals as goal

pub enter-requires-clause-there : goal.enter-requires-clause-there
enter-requires-clause-there c =
    let first : IsFirstOperation (queue c.self.inside.owed) (Some (o.Enter c.args.k c.args.clause))
    = subst (λ (w : FilterWalk). IsFirstOperation (queue w.owed) (Some (o.Enter c.args.k c.args.clause))) (sym c.self.view_is) c.requires.first in
    let own = own_operation c.self.inside.version.active c.self.inside.owed (o.Enter c.args.k c.args.clause) (are_among (filters_owed c.self.inside.owed.rows) c.self.inside.version.active c.self.invariant.rows.own_owed) first in
    subst (λ (ks : List ℕ). has ks c.args.k ≡ true) (sym c.self.invariant.rows.filters) own.0

pub enter-requires-clause-low : goal.enter-requires-clause-low
enter-requires-clause-low c =
    let first : IsFirstOperation (queue c.self.inside.owed) (Some (o.Enter c.args.k c.args.clause))
    = subst (λ (w : FilterWalk). IsFirstOperation (queue w.owed) (Some (o.Enter c.args.k c.args.clause))) (sym c.self.view_is) c.requires.first in
    let own = own_operation c.self.inside.version.active c.self.inside.owed (o.Enter c.args.k c.args.clause) (are_among (filters_owed c.self.inside.owed.rows) c.self.inside.version.active c.self.invariant.rows.own_owed) first in
    own.1.0

pub enter-requires-clause-high : goal.enter-requires-clause-high
enter-requires-clause-high c =
    let first : IsFirstOperation (queue c.self.inside.owed) (Some (o.Enter c.args.k c.args.clause))
    = subst (λ (w : FilterWalk). IsFirstOperation (queue w.owed) (Some (o.Enter c.args.k c.args.clause))) (sym c.self.view_is) c.requires.first in
    let own = own_operation c.self.inside.version.active c.self.inside.owed (o.Enter c.args.k c.args.clause) (are_among (filters_owed c.self.inside.owed.rows) c.self.inside.version.active c.self.invariant.rows.own_owed) first in
    own.1.1

pub pop_first-requires : goal.pop_first-requires
pop_first-requires c = c.self.invariant.rows.owed

pub invariant_of-self : goal.invariant_of-self
invariant_of-self c = record {
  rows = record {
    filters = c.enter.ensures.filters ∙ c.self.invariant.rows.filters;
    owed = c.pop_first.ensures.rows;
    own_owed = one_less (filters_owed c.pop_first.new.self.rows) (filters_owed c.self.inside.owed.rows) c.pop_first.ensures.filters.0 c.self.inside.version.active c.pop_first.ensures.filters.1 c.self.invariant.rows.own_owed;
    depths = c.self.invariant.rows.depths;
    own = c.self.invariant.rows.own;
    few_events = c.self.invariant.rows.few_events;
    few_regions = c.self.invariant.rows.few_regions;
  };
  regions = c.self.invariant.regions;
}

pub returns-clause-at : goal.returns-clause-at
returns-clause-at c p plans z l owes h =
    let old = subst (λ (w : FilterWalk). IsAt p plans w z) (sym c.self.view_is) h in
    makes_enter p plans _ z c.args.k c.args.clause c.pop_first.new.self c.enter.new.self old (record { queue = c.pop_first.ensures.queue; line = c.pop_first.ensures.line }) (c.enter.ensures.holdings z.held old.holdings)

pub returns-clause-room : goal.returns-clause-room
returns-clause-room c = one_noted c.args.self.now _ _ c.self.view_is refl (omega arith) (omega arith)
