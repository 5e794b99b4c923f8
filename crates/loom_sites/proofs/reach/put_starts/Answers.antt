use Rattle.std.proofs.Common.{ℕ, ◌+◌, arith, sym, ◌∙◌}
use Rattle.loom_sites.proofs.Walk.{start_step, no_start}
use Rattle.loom_sites.proofs.reach.put_starts.Goals as goal
use Rattle.loom_sites.proofs.reach.put_starts.Goals.{then-has+in_ok-visit, else-has}

pub places-preserved : goal.places-preserved
places-preserved c rows few w =
    let k : ℕ = c.places.k in
    let less = c.places-test.true in
    let before = c.places.invariant rows few w in
    elim c.if-has.branch [
      | then-has+in_ok-visit z ↦ rw (z.reached-is, z.todo-is) (start_step rows c.args.starts.now c.args.halts.now k (k + 1) _ _ _ _ (omega arith) (omega (arith, less, few)) (sym c.has.ensures ∙ z.if-has.true) before z.in_ok-visit.ensures)
      | else-has z ↦ rw (z.reached-is, z.todo-is) (no_start rows c.args.starts.now c.args.halts.now k (k + 1) _ _ (omega arith) (sym c.has.ensures ∙ z.if-has.false) before)
    ]
