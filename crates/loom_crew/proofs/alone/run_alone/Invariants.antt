use Rattle.std.proofs.Common.{ℕ, suc, ◌+◌, ◌*◌, ◌-◌, length}
use Rattle.loom_world.specs.Book.{IsOfSameRun}
use Rattle.loom_world.specs.World.{Lead}
use Rattle.loom_crew.specs.Round.{rounds}
use Rattle.loom_crew.proofs.alone.run_alone.Given as goal

abbrev pub invariant-rounds : goal.invariant-rounds
invariant-rounds l = record {
  run : IsOfSameRun l.fn.world l.world;
  led : (n : ℕ) × Lead l.fn.world (rounds n) l.world;
}

-- how many entries may still be made
abbrev pub decreases-rounds : goal.decreases-rounds
decreases-rounds l = suc (l.world.limit + 2 * length l.world.commands) - length l.world.entries
