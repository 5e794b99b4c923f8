use Rattle.std.proofs.Common.{ℕ, ap, sym, subst, ◌∙◌}
use Rattle.std.specs.List.{AllByRecursion}
use Rattle.loom_law.specs.Walk.{without_first}
use Rattle.loom_walk.specs.Owed.{Owed, queue, HasOperations, IsOrHasMore, filters_owed}
use Rattle.loom_walk.specs.contracts.owed.Owed.{the_view}
use Rattle.loom_walk.proofs.OwedRows.{same_filters}
use Rattle.loom_walk.proofs.OwedParts.{pop_tick, pop_back, pop_rows}
use Rattle.loom_walk.proofs.owed.Owed.pop_first.Goals as goal

pub pop_in-requires : goal.pop_in-requires
pop_in-requires c = subst (λ (z : Owed). AllByRecursion HasOperations z.rows) (sym c.self.view_is) c.requires

pub returns-in-Some-clause-queue : goal.returns-in-Some-clause-queue
returns-in-Some-clause-queue c = pop_tick (the_view c.self.inside) _ c.in-Some.is ∙ ap (λ (z : Owed). without_first (queue z)) c.self.view_is

pub returns-in-Some-clause-rows : goal.returns-in-Some-clause-rows
returns-in-Some-clause-rows c = subst (λ (z : Owed). AllByRecursion HasOperations z.rows) (sym c.self.view_is) c.requires

pub returns-in-Some-clause-filters : goal.returns-in-Some-clause-filters
returns-in-Some-clause-filters c =
    subst (λ (z : Owed). (k : ℕ) × IsOrHasMore (filters_owed c.self.inside.rows.items) k (filters_owed z.rows)) c.self.view_is (same_filters (filters_owed c.self.inside.rows.items))

pub returns-in-Some-clause-line : goal.returns-in-Some-clause-line
returns-in-Some-clause-line c = ap (λ (z : Owed). z.line) c.self.view_is

pub returns-then-self-clause-queue : goal.returns-then-self-clause-queue
returns-then-self-clause-queue c = pop_back (the_view c.self.inside) c.in-None.is c.if-self.true ∙ ap (λ (z : Owed). without_first (queue z)) c.self.view_is

pub returns-then-self-clause-rows : goal.returns-then-self-clause-rows
returns-then-self-clause-rows c = subst (λ (z : Owed). AllByRecursion HasOperations z.rows) (sym c.self.view_is) c.requires

pub returns-then-self-clause-filters : goal.returns-then-self-clause-filters
returns-then-self-clause-filters c =
    subst (λ (z : Owed). (k : ℕ) × IsOrHasMore (filters_owed c.self.inside.rows.items) k (filters_owed z.rows)) c.self.view_is (same_filters (filters_owed c.self.inside.rows.items))

pub returns-then-self-clause-line : goal.returns-then-self-clause-line
returns-then-self-clause-line c = ap (λ (z : Owed). z.line) c.self.view_is

pub returns-else-self-clause-queue : goal.returns-else-self-clause-queue
returns-else-self-clause-queue c =
    pop_rows (the_view c.self.inside) c.pop_in.new.rows.items c.in-None.is c.if-self.false (c.pop_in.ensures.queue c.self.inside.line) ∙ ap (λ (z : Owed). without_first (queue z)) c.self.view_is

pub returns-else-self-clause-rows : goal.returns-else-self-clause-rows
returns-else-self-clause-rows c = c.pop_in.ensures.rows

pub returns-else-self-clause-filters : goal.returns-else-self-clause-filters
returns-else-self-clause-filters c =
    subst (λ (z : Owed). (k : ℕ) × IsOrHasMore (filters_owed c.pop_in.new.rows.items) k (filters_owed z.rows)) c.self.view_is c.pop_in.ensures.filters

pub returns-else-self-clause-line : goal.returns-else-self-clause-line
returns-else-self-clause-line c = ap (λ (z : Owed). z.line) c.self.view_is
