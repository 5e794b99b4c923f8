use Rattle.std.proofs.Common.{ℕ, ◌-◌, List, length, refl, subst, ◌∙◌, ap, arith}
use Rattle.loom_flow.specs.State.{named}
use Rattle.loom_law.specs.Filter.{matching}
use Rattle.loom_law.specs.Walk.{Queue, owed_by, owed_at}
use Rattle.loom_plan.specs.PlaceEvents.{names_at}
use Rattle.loom_version.specs.Plans.{plans_in}
use Rattle.loom_walk.specs.Growth.{GrowsByAll}
use Rattle.loom_walk.proofs.GrowthSteps.{nothing_grows, grows_down, owed_down, has_at, room_left, queue_of_none, drop_none}
use Rattle.loom_walk.proofs.at_place.add_all_before.Goals as goal

pub down-init : goal.down-init
down-init c = record {
  within = omega arith;
  grows = nothing_grows _ c.args.owed.now c.requires.nothing;
  queue = λ p x site hs i all there here held.
      queue_of_none (λ (ks : List ℕ). owed_at (plans_in c.args.plans.now) hs i site (named (names_at p c.args.place) c.args.locals.now) ks) refl c.args.ks.now (length c.args.ks.now) refl c.args.owed.now.rows i c.requires.nothing;
}

pub add_before-requires-clause-there : goal.add_before-requires-clause-there
add_before-requires-clause-there c = c.requires.there _ (has_at c.args.ks.now (c.down.n - 1) (omega arith))

pub add_before-requires-clause-room : goal.add_before-requires-clause-room
add_before-requires-clause-room c =
    room_left c.args.ks.now c.down.n 16 c.args.owed.now c.down.owed c.down.invariant.grows (omega arith) c.down.invariant.within c.requires.few

pub down-preserved : goal.down-preserved
down-preserved c = record {
  within = omega arith;
  grows = grows_down c.args.ks.now c.down.n (c.down.n - 1) _ c.args.owed.now c.down.owed c.add_before.new.owed (omega arith) (omega arith) refl c.down.invariant.grows c.add_before.ensures.grows;
  queue = λ p x site hs i all there here held.
      owed_down (λ (ks : List ℕ). owed_at (plans_in c.args.plans.now) hs i site (named (names_at p c.args.place) c.args.locals.now) ks)
      (λ (k : ℕ) (q : Queue). owed_by (plans_in c.args.plans.now k) k hs i (matching (plans_in c.args.plans.now k) site (named (names_at p c.args.place) c.args.locals.now)) q)
      (λ k ks. refl) c.args.ks.now c.down.n (c.down.n - 1) _ _ _ (omega arith) (omega arith) refl
      (c.add_before.ensures.queue p x site hs i (all _ (has_at c.args.ks.now (c.down.n - 1) (omega arith))) there here held) (c.down.invariant.queue p x site hs i all there here held);
}

pub returns-clause-grows : goal.returns-clause-grows
returns-clause-grows c = subst (λ (ks : List ℕ). GrowsByAll ks c.args.owed.now c.down.owed) (drop_none c.args.ks.now c.down.n (omega arith)) c.down.invariant.grows

pub returns-clause-queue : goal.returns-clause-queue
returns-clause-queue c p x site hs i all there here held =
    c.down.invariant.queue p x site hs i all there here held
    ∙ ap (λ (ks : List ℕ). owed_at (plans_in c.args.plans.now) hs i site (named (names_at p c.args.place) c.args.locals.now) ks) (drop_none c.args.ks.now c.down.n (omega arith))
