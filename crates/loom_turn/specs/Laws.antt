-- What the lock's rule promises of any two seats, which no clause of one call can name.
use Rattle.std.specs.Prelude.{◌≡◌, ℕ}
use Rattle.loom_turn.specs.Lock.{Lock, IsOrderly, IsAtTurn}

-- No two seats have the turn at once.
abbrev pub HaveOneTurn : {T L : Type 0} → (T → L) → Type 0
HaveOneTurn {T} {L} label = (l : L) (m : Lock T L) → IsOrderly label l m → (i j : ℕ) → IsAtTurn (m.views i).stage → IsAtTurn (m.views j).stage → i ≡ j
