use Rattle.std.proofs.Common.{◌+◌, ◌-◌}
use Rattle.loom_trace.specs.Limits.{thread_limit}
use Rattle.loom_world.specs.Book.{Book, IsOfSameRun, HasLawfulJournal}
use Rattle.loom_world.specs.World.{Lead}
use Rattle.loom_crew.specs.Round.{threads_from, round}
use Rattle.loom_crew.proofs.alone.run_round.Given as goal

abbrev pub invariant-threads : goal.invariant-threads
invariant-threads l = record {
  run : IsOfSameRun l.fn.world l.world;
  -- where the threads from this one on lead, the round leads
  led : (new : Book) → Lead l.world (threads_from l.t (thread_limit + 1 - l.t)) new → Lead l.fn.world round new;
  lawful : HasLawfulJournal l.world;
}
