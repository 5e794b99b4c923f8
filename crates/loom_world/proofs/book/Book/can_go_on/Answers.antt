use Rattle.std.proofs.Common.{◌≡◌, Some, subst}
use Rattle.loom_event.specs.Replay.{ThreadState, thread_at}
use Rattle.loom_store.specs.Threads.{state_of}
use Rattle.loom_world.specs.Book.{Book}
use Rattle.loom_world.proofs.InvariantReadings.{not_true}
use Rattle.loom_world.proofs.book.Book.can_go_on.Goals as goal

pub returns-then-not-thread-clause-yes : goal.returns-then-not-thread-clause-yes
returns-then-not-thread-clause-yes c free =
    let x : ThreadState = state_of c.in-Some.thread in
    let is : thread_at c.args.self.now.store c.args.t ≡ Some x = subst (λ (b : Book). thread_at b.store c.args.t ≡ Some x) c.self.view_is c.in-Some.ensures.some in
    record {
      lives = record { state = x; is = is; not_ended = not_true c.in-Some.thread.ended c.if-not-thread.true };
      free = c.is_blocked.ensures.free (not_true c.is_blocked.result free);
    }
