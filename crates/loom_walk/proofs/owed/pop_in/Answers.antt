use Rattle.std.proofs.Common.{ℕ, ap, sym, subst, true≢false, arith}
use Rattle.std.specs.List.{AllByRecursion}
use Rattle.arrayvec.specs.ArrayVec.{ArrayVec}
use Rattle.loom_walk.specs.declared.owed.OwedRow.{OwedRow}
use Rattle.loom_walk.specs.Owed.{HasOperations, IsOrHasMore, filters_owed}
use Rattle.loom_walk.proofs.OwedRows.{pop_queue, pop_all, pop_filters, pop_none, same_filters}
use Rattle.loom_walk.proofs.owed.pop_in.Goals as goal

pub put_row-requires : goal.put_row-requires
put_row-requires c =
    let few = c.len.ensures in
    let less = c.in-Some.ensures.len in
    omega (arith, few, less)

pub returns-in-Some-clause-queue : goal.returns-in-Some-clause-queue
returns-in-Some-clause-queue c l =
    pop_queue l c.args.rows.now.items c.pop.new.self.items c.put_row.new.rows.items c.in-Some.row _ c.pop_row.result c.in-Some.ensures.items c.requires c.pop_row.ensures.taken c.put_row.ensures

pub returns-in-Some-clause-rows : goal.returns-in-Some-clause-rows
returns-in-Some-clause-rows c = pop_all c.args.rows.now.items c.pop.new.self.items c.put_row.new.rows.items c.in-Some.row _ c.in-Some.ensures.items c.requires c.put_row.ensures

pub returns-in-Some-clause-filters : goal.returns-in-Some-clause-filters
returns-in-Some-clause-filters c = pop_filters c.args.rows.now.items c.pop.new.self.items c.put_row.new.rows.items c.in-Some.row _ c.in-Some.ensures.items c.pop_row.ensures.filter c.put_row.ensures

pub returns-in-None-clause-queue : goal.returns-in-None-clause-queue
returns-in-None-clause-queue c l =
    pop_none l c.args.rows.now.items c.pop.new.self.items (λ h. true≢false (sym (c.in-None.ensures.variant.1 h))) (ap (λ (z : ArrayVec OwedRow). z.items) c.in-None.ensures.empty)

pub returns-in-None-clause-rows : goal.returns-in-None-clause-rows
returns-in-None-clause-rows c = subst (λ (z : ArrayVec OwedRow). AllByRecursion HasOperations z.items) (sym c.in-None.ensures.empty) c.requires

pub returns-in-None-clause-filters : goal.returns-in-None-clause-filters
returns-in-None-clause-filters c =
    subst (λ (z : ArrayVec OwedRow). (k : ℕ) × IsOrHasMore (filters_owed z.items) k (filters_owed c.args.rows.now.items)) (sym c.in-None.ensures.empty)
    (same_filters (filters_owed c.args.rows.now.items))
