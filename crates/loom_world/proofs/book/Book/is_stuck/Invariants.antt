use Rattle.std.proofs.Common.{ℕ, ◌<◌}
use Rattle.loom_law.specs.Lawful.{Lives, IsBlocked}
use Rattle.loom_world.specs.Book.{setting, front}
use Rattle.loom_world.proofs.book.Book.is_stuck.Given as goal

-- none of the threads before this one can go on
abbrev pub invariant-threads : goal.invariant-threads
invariant-threads l = (u : ℕ) → u < l.t → Lives l.self.store u → IsBlocked (setting l.self) (front l.self) u
