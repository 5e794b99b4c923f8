use Rattle.std.proofs.Common.{◌≡◌, Some, subst}
use Rattle.loom_event.specs.Replay.{ThreadState, thread_at}
use Rattle.loom_store.specs.Threads.{state_of}
use Rattle.loom_world.specs.Book.{Book}
use Rattle.loom_world.proofs.InvariantReadings.{not_true}
use Rattle.loom_world.proofs.book.Book.lives.Goals as goal

pub returns-in-Some-clause-lives : goal.returns-in-Some-clause-lives
returns-in-Some-clause-lives c h =
    let x : ThreadState = state_of c.in-Some.thread in
    record {
      state = x;
      is = subst (λ (b : Book). thread_at b.store c.args.t ≡ Some x) c.self.view_is c.in-Some.ensures.some;
      not_ended = not_true c.in-Some.thread.ended h;
    }
