-- Runs of turns.
use Rattle.std.specs.Prelude.{◌≡◌, ◌≤◌, List, [], ◌∷◌}
use Rattle.loom_trace.specs.Limits.{thread_limit}
use Rattle.loom_world.specs.declared.choice.Choice.{Choice}
use Rattle.loom_world.specs.declared.choice.Choice.TheVariants as c
use Rattle.loom_world.specs.declared.choice.Turned.{Turned}
use Rattle.loom_world.specs.Book.{Book, IsOfSameRun, HasLawfulJournal}
use Rattle.loom_world.specs.Turned.{Turns}

-- A thread has a number from 1 up to the number of threads that there may be.
abbrev pub IsChoice : Choice → Type 0
IsChoice (c.Thread t) = (1 ≤ t) × (t ≤ thread_limit)
IsChoice c.Control = Unit {0}

-- A turn of the run leads from the one book to the other, whatever it tells.
pub record IsTurn (old : Book) (x : Choice) (new : Book) : Type 0 where
  pub run : IsOfSameRun old new
  pub lawful : HasLawfulJournal new
  pub told : Turned
  pub turns : Turns old x new told

-- Turns of the run lead from the one book to the other, one for each choice.
abbrev pub Lead : Book → List Choice → Book → Type 0
Lead old [] new = new ≡ old
Lead old (x ∷ xs) new = (next : Book) × IsTurn old x next × Lead next xs new
