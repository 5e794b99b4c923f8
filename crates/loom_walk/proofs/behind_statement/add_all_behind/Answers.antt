use Rattle.std.proofs.Common.{ℕ, ◌-◌, List, [], length, refl, subst, ◌∙◌, ap, arith}
use Rattle.loom_law.specs.Walk.{Queue, begun_with, events_of_filter, owed_past, owed_behind}
use Rattle.loom_version.specs.Plans.{plans_in}
use Rattle.loom_walk.specs.declared.owed.OwedRow.{OwedRow}
use Rattle.loom_walk.specs.Owed.{rows_queue}
use Rattle.loom_walk.specs.Growth.{GrowsByAll}
use Rattle.loom_walk.proofs.FilterQueues.{none_complete}
use Rattle.loom_walk.proofs.GrowthSteps.{nothing_grows, grows_down, owed_down, has_at, room_left, queue_of_none, drop_none}
use Rattle.loom_walk.proofs.behind_statement.add_all_behind.Goals as goal

pub returns-then-not-has_statement-clause-grows : goal.returns-then-not-has_statement-clause-grows
returns-then-not-has_statement-clause-grows c = nothing_grows c.args.ks.now c.args.owed.now c.requires.nothing

pub returns-then-not-has_statement-clause-queue : goal.returns-then-not-has_statement-clause-queue
returns-then-not-has_statement-clause-queue c fs hs l es rs deep inner held =
    ap (λ (rows : List OwedRow). rows_queue l rows []) c.requires.nothing
    ∙ none_complete (plans_in c.args.plans.now) hs fs l (begun_with fs) c.args.ks.now (c.has_statement.ensures fs es deep inner c.if-not-has_statement.true)

pub down-init : goal.down-init
down-init c = record {
  within = omega arith;
  grows = nothing_grows _ c.args.owed.now c.requires.nothing;
  queue = λ fs hs i es rs deep inner held.
      queue_of_none (λ (ks : List ℕ). owed_behind (plans_in c.args.plans.now) hs fs i (begun_with fs) ks) refl c.args.ks.now (length c.args.ks.now) refl c.args.owed.now.rows i c.requires.nothing;
}

pub add_behind-requires-clause-there : goal.add_behind-requires-clause-there
add_behind-requires-clause-there c = (c.requires.there.0, c.requires.there.1 _ (has_at c.args.ks.now (c.down.n - 1) (omega arith)))

pub add_behind-requires-clause-room : goal.add_behind-requires-clause-room
add_behind-requires-clause-room c =
    room_left c.args.ks.now c.down.n 16 c.args.owed.now c.down.owed c.down.invariant.grows (omega arith) c.down.invariant.within c.requires.few

pub down-preserved : goal.down-preserved
down-preserved c = record {
  within = omega arith;
  grows = grows_down c.args.ks.now c.down.n (c.down.n - 1) _ c.args.owed.now c.down.owed c.add_behind.new.owed (omega arith) (omega arith) refl c.down.invariant.grows c.add_behind.ensures.grows;
  queue = λ fs hs i es rs deep inner held.
      owed_down (λ (ks : List ℕ). owed_behind (plans_in c.args.plans.now) hs fs i (begun_with fs) ks)
      (λ (k : ℕ) (q : Queue). owed_past (plans_in c.args.plans.now k) k hs fs i (events_of_filter k (begun_with fs)) q)
      (λ k ks. refl) c.args.ks.now c.down.n (c.down.n - 1) _ _ _ (omega arith) (omega arith) refl
      (c.add_behind.ensures.queue fs hs i es rs deep inner held) (c.down.invariant.queue fs hs i es rs deep inner held);
}

pub returns-clause-grows : goal.returns-clause-grows
returns-clause-grows c = subst (λ (ks : List ℕ). GrowsByAll ks c.args.owed.now c.down.owed) (drop_none c.args.ks.now c.down.n (omega arith)) c.down.invariant.grows

pub returns-clause-queue : goal.returns-clause-queue
returns-clause-queue c fs hs i es rs deep inner held =
    c.down.invariant.queue fs hs i es rs deep inner held
    ∙ ap (λ (ks : List ℕ). owed_behind (plans_in c.args.plans.now) hs fs i (begun_with fs) ks) (drop_none c.args.ks.now c.down.n (omega arith))
