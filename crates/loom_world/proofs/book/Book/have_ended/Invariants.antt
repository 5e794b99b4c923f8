use Rattle.std.proofs.Common.{ℕ, ◌<◌, ◌≡◌, true, Some}
use Rattle.loom_event.specs.Replay.{ThreadState, thread_at}
use Rattle.loom_world.proofs.book.Book.have_ended.Given as goal

-- the threads before this one have ended
abbrev pub invariant-threads : goal.invariant-threads
invariant-threads l = (u : ℕ) (x : ThreadState) → u < l.t → thread_at l.self.store u ≡ Some x → x.ended ≡ true
