use Rattle.std.proofs.Common.{ℕ, ◌+◌, ◌-◌, ◌≡◌, ◌≤◌, List, length, sym, ap, subst, arith}
use Rattle.loom_walk.specs.FilterWalk.{FilterWalk, IsAt}
use Rattle.loom_walk.specs.declared.owed.OwedRow.{OwedRow}
use Rattle.loom_walk.specs.Owed.{filters_owed}
use Rattle.loom_walk.specs.Growth.{HaveNoMore, AreThere}
use Rattle.loom_walk.proofs.GrowthSteps.{rows_none}
use Rattle.std.specs.List.{AllByRecursion}
use Rattle.loom_law.specs.Walk.{without_first, all_inside, function_line}
use Rattle.loom_version.specs.Plans.{plans_in}
use Rattle.loom_walk.specs.Owed.{Owed, HasOperations}
use Rattle.loom_walk.specs.Notes.{HaveDepths}
use Rattle.loom_walk.proofs.Frames.{without_first_length}
use Rattle.loom_walk.proofs.ItemSteps.{leaves_frame}
use Rattle.loom_walk.proofs.WalkCalls.{room_kept, queue_out}
use Rattle.loom_walk.proofs.filter_walk.FilterWalk.leave_frame.Goals as goal

pub overflow_sub-self : goal.overflow_sub-self
overflow_sub-self c = subst (λ (w : FilterWalk). 1 ≤ w.depth) (sym c.self.view_is) c.requires.frame

pub add_all_leaves-requires-clause-nothing : goal.add_all_leaves-requires-clause-nothing
add_all_leaves-requires-clause-nothing c = rows_none c.function_line-line.result _ c.restart.ensures

pub add_all_leaves-requires-clause-there : goal.add_all_leaves-requires-clause-there
add_all_leaves-requires-clause-there c =
    let same : c.active.result.now ≡ c.self.inside.version.active = c.active.ensures.is in
    let filters : AreThere c.requires.filters.0 c.args.plans.now c.self.inside.version.active = subst (λ (w : FilterWalk). AreThere c.requires.filters.0 c.args.plans.now w.version.active) (sym c.self.view_is) c.requires.filters.1.all in
    (c.requires.filters.0, subst (AreThere c.requires.filters.0 c.args.plans.now) (sym same) filters)

pub put_back-requires : goal.put_back-requires
put_back-requires c = c.add_all_leaves.ensures.grows.rows

pub invariant_of-self : goal.invariant_of-self
invariant_of-self c =
    let rows : c.put_back.new.self.rows ≡ c.add_all_leaves.new.owed.rows = ap (λ (x : Owed). x.rows) c.put_back.ensures.same in
    record {
      rows = record {
        filters = c.self.invariant.rows.filters;
        owed = subst (AllByRecursion HasOperations) (sym rows) c.add_all_leaves.ensures.grows.rows;
        own_owed = subst (λ (rs : List OwedRow). HaveNoMore (filters_owed rs) c.self.inside.version.active) (sym rows)
            (subst (HaveNoMore (filters_owed c.add_all_leaves.new.owed.rows)) c.active.ensures.is c.add_all_leaves.ensures.grows.filters);
        depths = c.end_frame-2.ensures.depths c.self.invariant.rows.depths;
        own = c.end_frame-2.ensures.filters c.self.inside.version.active c.self.invariant.rows.own;
        few_events = omega (arith, c.end_frame.ensures.few, c.end_frame.ensures.room, c.self.invariant.rows.few_events);
        few_regions = omega (arith, c.end_frame-2.ensures.few, c.end_frame.ensures.room, c.self.invariant.rows.few_regions);
      };
      regions = omega (arith, c.self.invariant.regions, c.end_frame.ensures.room, c.end_frame-2.ensures.room);
    }

pub returns-clause-at : goal.returns-clause-at
returns-clause-at c z h =
    let old = subst (λ (w : FilterWalk). IsAt c.args.flow.now.program (plans_in c.args.plans.now) w z) (sym c.self.view_is) h in
    let deep : 1 ≤ c.self.inside.depth = subst (λ (w : FilterWalk). 1 ≤ w.depth) (sym c.self.view_is) c.requires.frame in
    let less : c.self.inside.depth - 1 + 1 ≡ c.self.inside.depth = omega arith in
    let regions = c.end_frame-2.ensures.notes (plans_in c.args.plans.now) z.frames old.regions old.depth in
    let down = without_first_length z.frames c.self.inside.depth old.depth deep in
    let count : c.self.inside.depth - 1 ≡ length (without_first z.frames) = omega (arith, down, deep) in
    let depths = subst (λ (d : ℕ). HaveDepths 1 d c.end_frame-2.new.self.notes) count (c.end_frame-2.ensures.depths c.self.invariant.rows.depths) in
    leaves_frame c.args.flow.now.program (plans_in c.args.plans.now) _ z c.args.func (c.self.inside.depth - 1) c.end_frame.new.self.room c.end_frame.new.self.notes c.end_frame-2.new.self.notes c.put_back.new.self old less
    (c.end_frame.ensures.notes z.frames old.events old.depth) regions
    (queue_out (plans_in c.args.plans.now) c.active.result.now c.self.inside.version.active c.function_line-line.result (function_line c.args.flow.now.program c.args.func) (all_inside (without_first z.frames)) z.held
    c.restart.new.self c.add_all_leaves.new.owed c.put_back.new.self c.restart.ensures c.add_all_leaves.ensures.grows c.function_line-line.ensures c.active.ensures.is c.put_back.ensures.queue
    (λ j. c.add_all_leaves.ensures.queue (without_first z.frames) z.held j regions depths old.holdings))

pub returns-clause-room : goal.returns-clause-room
returns-clause-room c = room_kept c.args.self.now _ _ c.self.view_is c.end_frame.ensures.room c.end_frame.ensures.few c.end_frame-2.ensures.few
