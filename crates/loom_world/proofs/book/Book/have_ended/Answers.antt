use Rattle.std.proofs.Common.{◌≡◌, ◌≤◌, length, true, Some, None, sym, ap, ◌∙◌, subst, arith}
use Rattle.loom_trace.specs.Limits.{thread_limit}
use Rattle.loom_event.specs.Replay.{ThreadState, thread_at}
use Rattle.loom_store.specs.Threads.{state_of}
use Rattle.loom_world.specs.Book.{Book}
use Rattle.loom_world.proofs.InvariantReadings.{not_false, ended_more, all_ended}
use Rattle.loom_world.proofs.book.Book.have_ended.Goals as goal
use Rattle.loom_world.proofs.book.Book.have_ended.Goals.{in-Some+else-not-thread, in_default}

pub threads-preserved : goal.threads-preserved
threads-preserved c =
    let here : (x : ThreadState) → thread_at c.args.self.now.store c.threads.t ≡ Some x → x.ended ≡ true =
    λ x is. (let there : thread_at c.self.inside.store c.threads.t ≡ Some x = subst (λ (b : Book). thread_at b.store c.threads.t ≡ Some x) (sym c.self.view_is) is in
    elim c.match-thread.branch [
      | in-Some+else-not-thread w ↦ (let same : state_of w.in-Some.thread ≡ x = cc (w.in-Some.ensures.some, there) in
          ap (λ (z : ThreadState). z.ended) (sym same) ∙ not_false w.in-Some.thread.ended w.if-not-thread.false)
      | in_default w ↦ (let none : None ≡ Some x = sym w.in_default.ensures.none ∙ there in cc)
    ]) in
    ended_more c.args.self.now.store c.threads.t c.threads.invariant here

pub returns-clause-ended : goal.returns-clause-ended
returns-clause-ended c h =
    all_ended c.args.self.now.store (subst (λ (b : Book). length b.store.spawned ≤ thread_limit) c.self.view_is c.self.invariant.few_threads) c.threads.t (omega (arith, c.threads.auto.t-end, c.threads-test.false)) c.threads.invariant
