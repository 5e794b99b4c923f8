-- The order of the sequential driver.
use Rattle.std.specs.Prelude.{ℕ, zero, suc, ◌<◌, List, [], ◌∷◌, ◌++◌, length}
use Rattle.loom_trace.specs.Limits.{thread_limit}
use Rattle.loom_world.specs.Book.{Book, HasLawfulJournal}
use Rattle.loom_world.specs.Idle.{HasFinish}
use Rattle.loom_world.specs.World.{Lead}
use Rattle.loom_world.specs.declared.choice.Choice.{Choice}
use Rattle.loom_world.specs.declared.choice.Choice.TheVariants as c

-- n threads in the order of their numbers, from thread t on
abbrev pub threads_from : ℕ → ℕ → List Choice
threads_from t zero = []
threads_from t (suc n) = c.Thread t ∷ threads_from (suc t) n

-- A round: control, and then each thread that there may be.
abbrev pub round : List Choice
round = c.Control ∷ threads_from 1 thread_limit

-- so many rounds
abbrev pub rounds : ℕ → List Choice
rounds zero = []
rounds (suc n) = rounds n ++ round

-- two of them
abbrev pub two_rounds : List Choice
two_rounds = round ++ round

-- Two rounds of a run that isn't finished make an entry. One alone may make none: in it threads may only be found at flagged places, where the
-- command that is asked waits for them.
abbrev pub HasProgress : Type 0
HasProgress = (old new : Book) → HasLawfulJournal old → (HasFinish old → ⊥) → Lead old two_rounds new → length old.entries < length new.entries
