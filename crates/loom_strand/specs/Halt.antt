-- Where a thread can't go on, or is not to.
use Rattle.std.specs.Prelude.{ℕ, ◌≡◌, ◌⊎◌, Bool, true, [], List, slice_get, option_map, Some}
use Rattle.loom_flow.specs.declared.code.Entrance.{Entrance}
use Rattle.loom_flow.specs.Flow.{Flow}
use Rattle.loom_flow.specs.Progress.{Progress, goes, nothing, progress}
use Rattle.loom_trace.specs.Places.{has_place}
use Rattle.loom_walk.specs.Owed.{queue}
use Rattle.loom_strand.specs.declared.execution.Execution.{Execution}
use Rattle.loom_strand.specs.declared.stage.Birth.{Birth}
use Rattle.loom_strand.specs.declared.stage.Stage.{Stage}
use Rattle.loom_strand.specs.declared.stage.Stage.TheVariants as stage
use Rattle.loom_strand.specs.Machine.{Machine, position}
use Rattle.loom_strand.specs.StepResult.{place_here, place_coming}

-- The next step passes the place of this number. A thread that hasn't begun, or has ended, passes none.
abbrev pub PassesNextFrom : Flow → Birth → Stage → Machine → ℕ → Type 0
PassesNextFrom c b stage.Enters m k = option_map (λ (x : Entrance). x.place) (slice_get c.entrances b.func) ≡ Some k
PassesNextFrom c b stage.Runs m k = place_coming c (place_here c (position m)) (progress c (position m)) ≡ Some k
PassesNextFrom c b _ m k = ⊥

abbrev pub PassesNext : Flow → Birth → Execution → ℕ → Type 0
PassesNext c b e k = PassesNextFrom c b e.stage e.machine k

-- That is a flagged place, or one before which a newer version is to be taken.
pub record StopsBefore (c : Flow) (b : Birth) (flags : List ℕ) (newer : Bool) (e : Execution) (k : ℕ) : Type 0 where
  pub rests : queue e.walk.owed ≡ []
  pub passes : PassesNext c b e k
  pub stops : (has_place flags k ≡ true) ⊎ (newer ≡ true)

-- It asks for something there, or is to end.
abbrev pub IsStopped : Progress → Type 0
IsStopped (goes mark y) = ⊥
IsStopped nothing = ⊥
IsStopped _ = Unit {0}

-- The thread can't go on from there before an answer.
pub data IsHalting (c : Flow) (e : Execution) : Type 0 where
  by_request : e.stage ≡ stage.Runs → IsStopped (progress c (position e.machine)) → IsHalting c e
  by_owed : (queue e.walk.owed ≡ [] → ⊥) → IsHalting c e
