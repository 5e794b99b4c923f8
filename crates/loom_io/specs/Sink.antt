-- What a sink takes.
use Rattle.std.specs.Prelude.{ℕ, ◌≤◌, List, length, take, Option, Result, Ok, Err, MatchResult}
use Rattle.std.specs.Io.KnownBytes.{Appends, Keeps}
use Rattle.loom_io.specs.FaultCount.{next}

-- at `Ok(n)` the first n bytes of the piece were taken, and at an error none
abbrev pub Took : {E : Type 0} → Option (List ℕ) → Option (List ℕ) → Result ℕ E → List ℕ → Type 0
Took old new r piece = MatchResult r (λ n. Appends old new (take n piece)) (λ _. Keeps old new)

-- a front of the text was taken, and no more
pub record TookFront (old new : Option (List ℕ)) (text : List ℕ) : Type 0 where
  pub count : ℕ
  pub within : count ≤ length text
  pub taken : Appends old new (take count text)

-- the count of faults behind a put: one more where it failed
abbrev pub faults_after_put : {T E : Type 0} → ℕ → Result T E → ℕ
faults_after_put count (Ok n) = count
faults_after_put count (Err e) = next count
