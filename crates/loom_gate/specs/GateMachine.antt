-- The gate as a machine: what its passes and its key know at one moment, and what is so at every moment. No table here.
use Rattle.std.specs.Prelude.{◌≡◌, ◌⊎◌, ℕ, ◌+◌, ◌/◌, ◌<◌, ◌≤◌, true, List, [], ◌∷◌, length, slice_index_or, Option, Some, None, All}
use Rattle.loom_trace.specs.Places.{has_bit, has_place}
use Rattle.loom_gate.specs.declared.log.PassRow.{PassRow}
use Rattle.loom_gate.specs.declared.log.SwitchRow.{SwitchRow}
use Rattle.loom_gate.specs.declared.view.Stage.{Stage}
use Rattle.loom_gate.specs.declared.view.Stage.TheVariants.{Stands, Tries, Clear, Inside}
use Rattle.loom_gate.specs.declared.view.PassView.{PassView}
use Rattle.loom_gate.specs.declared.view.Look.{Look}
use Rattle.loom_gate.specs.declared.view.Look.TheVariants.{Unknown, SawInside, SawPlace}
use Rattle.loom_gate.specs.declared.view.KeyView.{KeyView}
use Rattle.loom_gate.specs.View.{mark, place_of, switch_limit}
use Rattle.loom_gate.specs.Record.{place_from, has_version, AreInOrder}

-- threads are 1 to n
abbrev pub IsThread : ℕ → ℕ → Type 0
IsThread n t = (0 < t) × (t ≤ n)

pub record GateMachine : Type 0 where
  -- by thread
  pub passes : ℕ → PassView
  pub key : KeyView

-- a place is one of the gate's; a pass inside has the version; a pass that doesn't stand has tried
abbrev pub StageFits : ℕ → ℕ → ℕ → ℕ → Stage → Type 0
StageFits places version tries fresh (Stands p) = p < places
StageFits places version tries fresh (Tries p) = (p < places) × (0 < tries)
StageFits places version tries fresh (Clear p) = (p < places) × (0 < tries)
StageFits places version tries fresh (Inside v) = (v ≡ version) × (0 < tries) × (fresh ≡ v + 1)

-- a pass found at a raised place stands there, or has tried from there and has no clear check; a pass found inside has tried
abbrev pub LookFits : List ℕ → Look → PassView → Type 0
LookFits up Unknown p = Unit {0}
LookFits up SawInside p = 0 < p.tries
LookFits up (SawPlace place) p = has_place up place ≡ true → (p.stage ≡ Stands place) ⊎ (p.stage ≡ Tries place)

-- a word with this place was stored among the flags
abbrev pub WasRaised : List (ℕ × ℕ) → ℕ → Type 0
WasRaised [] place = ⊥
WasRaised (e ∷ es) place = ((place / 64 ≡ e.0) × (has_bit e.1 place ≡ true)) ⊎ WasRaised es place

-- what the latest check found set was raised
abbrev pub LatestFits : ℕ → List (ℕ × ℕ) → Option (ℕ × ℕ) → Type 0
LatestFits n ever None = Unit {0}
LatestFits n ever (Some l) = (place : ℕ) → (n + 1) + place / 64 ≡ l.0 → has_bit l.1 place ≡ true → WasRaised ever place

-- the rows of thread t are of versions up to the machine's, and the newest has a row
pub record RowsFit (t version : ℕ) (p : PassView) : Type 0 where
  pub count : length p.rows ≤ p.fresh
  pub fresh : p.fresh ≤ version + 1
  pub below : All (λ (r : PassRow). (r.thread ≡ t) × (r.version < p.fresh)) p.rows
  pub newest : (v : ℕ) → p.fresh ≡ v + 1 → has_version v p.rows ≡ true
  pub order : AreInOrder p.rows

-- the place read at a switch is where the pass next entered from, or the place from which it still has to enter
abbrev pub SwitchFits : ℕ → GateMachine → SwitchRow → Type 0
SwitchFits n m w = IsThread n w.thread × (w.version ≤ m.key.version) × (place_from w.thread w.version (place_of (m.passes w.thread).stage) (m.passes w.thread).rows ≡ w.place)

-- what is so at every moment, in a gate of n threads
pub record Lawful (n : ℕ) (m : GateMachine) : Type 0 where
  pub stages : (t : ℕ) → IsThread n t → StageFits m.key.places m.key.version (m.passes t).tries (m.passes t).fresh (m.passes t).stage
  pub looks : (t : ℕ) → IsThread n t → LookFits m.key.up (slice_index_or m.key.looks t Unknown) (m.passes t)
  pub latest : (t : ℕ) → IsThread n t → LatestFits n m.key.ever (m.passes t).latest
  pub raised : (p : ℕ) → has_place m.key.up p ≡ true → WasRaised m.key.ever p
  pub rows : (t : ℕ) → IsThread n t → RowsFit t m.key.version (m.passes t)
  pub switches : All (SwitchFits n m) m.key.switches
  pub wide : length m.key.looks ≡ n + 1
  pub threads : m.key.threads ≡ n
  pub most : m.key.version ≤ switch_limit
  -- the mark is no place
  pub small : m.key.places ≤ mark

-- each thread was found standing at a raised place since the flags were stored
abbrev pub AllStood : ℕ → KeyView → Type 0
AllStood n k = (t : ℕ) → IsThread n t → (place : ℕ) × (slice_index_or k.looks t Unknown ≡ SawPlace place) × (has_place k.up place ≡ true)

-- nobody is inside, and each stands or tries
abbrev pub NobodyInside : ℕ → GateMachine → Type 0
NobodyInside n m = (t : ℕ) → IsThread n t → (place : ℕ) × (((m.passes t).stage ≡ Stands place) ⊎ ((m.passes t).stage ≡ Tries place))

-- there is a lawful machine in which the pass of thread t knows p, and F holds of it
abbrev pub Amid : ℕ → PassView → (GateMachine → Type 0) → Type 0
Amid t p F = (n : ℕ) × (m : GateMachine) × Lawful n m × IsThread n t × (m.passes t ≡ p) × F m

-- there is a lawful machine in which the key knows k, and F holds of it
abbrev pub AmidKey : KeyView → (ℕ → GateMachine → Type 0) → Type 0
AmidKey k F = (n : ℕ) × (m : GateMachine) × Lawful n m × (m.key ≡ k) × F n m
