use Rattle.loom_world.proofs.FoundThreads.{AreFoundBefore}
use Rattle.loom_world.proofs.book.Book.found_row.Given as goal

-- the threads before this one were found, and the row lists where
abbrev pub invariant-threads : goal.invariant-threads
invariant-threads l = AreFoundBefore l.self l.k l.t l.row
