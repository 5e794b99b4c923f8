use Rattle.std.proofs.Common.{drop}
use Rattle.loom_world.specs.Book.{Book, IsOfSameRun, HasLawfulJournal}
use Rattle.loom_world.specs.World.{Lead}
use Rattle.loom_world.proofs.world.World.run_choices.Given as goal

abbrev pub invariant-turns : goal.invariant-turns
invariant-turns l = record {
  run : IsOfSameRun l.initial.self l.self;
  -- where the other turns lead from here, all lead from the start
  led : (new : Book) → Lead l.self (drop l.c-index l.cs) new → Lead l.initial.self l.cs new;
  lawful : HasLawfulJournal l.self;
}
