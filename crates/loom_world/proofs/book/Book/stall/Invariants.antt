use Rattle.loom_world.proofs.FoundThreads.{AreHalted}
use Rattle.loom_world.proofs.book.Book.stall.Given as goal

-- what was found of the threads before this one
abbrev pub invariant-threads : goal.invariant-threads
invariant-threads l = AreHalted l.self l.k l.t l.lowest
