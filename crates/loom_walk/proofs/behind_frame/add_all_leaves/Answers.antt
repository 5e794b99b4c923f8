use Rattle.std.proofs.Common.{ℕ, ◌-◌, List, length, refl, subst, ◌∙◌, ap, arith}
use Rattle.loom_law.specs.Filter.{clauses}
use Rattle.loom_law.specs.Walk.{Queue, all_inside, owed_leaves, all_leaves}
use Rattle.loom_version.specs.Plans.{plans_in}
use Rattle.loom_walk.specs.Growth.{GrowsByAll}
use Rattle.loom_walk.proofs.GrowthSteps.{nothing_grows, grows_down, owed_down, has_at, room_left, queue_of_none, drop_none}
use Rattle.loom_walk.proofs.behind_frame.add_all_leaves.Goals as goal

pub down-init : goal.down-init
down-init c = record {
  within = omega arith;
  grows = nothing_grows _ c.args.owed.now c.requires.nothing;
  queue = λ fs hs i rs depths held.
      queue_of_none (λ (ks : List ℕ). all_leaves (plans_in c.args.plans.now) hs (all_inside fs) i ks) refl c.args.ks.now (length c.args.ks.now) refl c.args.owed.now.rows i c.requires.nothing;
}

pub add_leaves-requires-clause-there : goal.add_leaves-requires-clause-there
add_leaves-requires-clause-there c = (c.requires.there.0, c.requires.there.1 _ (has_at c.args.ks.now (c.down.n - 1) (omega arith)))

pub add_leaves-requires-clause-room : goal.add_leaves-requires-clause-room
add_leaves-requires-clause-room c =
    room_left c.args.ks.now c.down.n 16 c.args.owed.now c.down.owed c.down.invariant.grows (omega arith) c.down.invariant.within c.requires.few

pub down-preserved : goal.down-preserved
down-preserved c = record {
  within = omega arith;
  grows = grows_down c.args.ks.now c.down.n (c.down.n - 1) _ c.args.owed.now c.down.owed c.add_leaves.new.owed (omega arith) (omega arith) refl c.down.invariant.grows c.add_leaves.ensures.grows;
  queue = λ fs hs i rs depths held.
      owed_down (λ (ks : List ℕ). all_leaves (plans_in c.args.plans.now) hs (all_inside fs) i ks)
      (λ (k : ℕ) (q : Queue). owed_leaves hs (all_inside fs) k i (clauses (plans_in c.args.plans.now k)) q)
      (λ k ks. refl) c.args.ks.now c.down.n (c.down.n - 1) _ _ _ (omega arith) (omega arith) refl
      (c.add_leaves.ensures.queue fs hs i rs depths held) (c.down.invariant.queue fs hs i rs depths held);
}

pub returns-clause-grows : goal.returns-clause-grows
returns-clause-grows c = subst (λ (ks : List ℕ). GrowsByAll ks c.args.owed.now c.down.owed) (drop_none c.args.ks.now c.down.n (omega arith)) c.down.invariant.grows

pub returns-clause-queue : goal.returns-clause-queue
returns-clause-queue c fs hs i rs depths held =
    c.down.invariant.queue fs hs i rs depths held
    ∙ ap (λ (ks : List ℕ). all_leaves (plans_in c.args.plans.now) hs (all_inside fs) i ks) (drop_none c.args.ks.now c.down.n (omega arith))
