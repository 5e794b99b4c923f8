-- What the rule of a gate says of every moment, and what one step of a pass can do.
use Rattle.std.specs.Prelude.{◌≡◌, ◌≢◌, ◌⊎◌, ℕ, ◌<◌, true, List, [], ◌∷◌, slice_index_or, All}
use Rattle.atomic_table.specs.Table.{Step}
use Rattle.loom_trace.specs.Places.{has_bit, has_place}
use Rattle.loom_gate.specs.declared.log.PassRow.{PassRow}
use Rattle.loom_gate.specs.declared.log.SwitchRow.{SwitchRow}
use Rattle.loom_gate.specs.declared.view.Stage.TheVariants.{Stands, Tries, Clear, Inside}
use Rattle.loom_gate.specs.declared.view.PassView.{PassView}
use Rattle.loom_gate.specs.declared.view.View.TheVariants.{Pass}
use Rattle.loom_gate.specs.declared.view.Look.TheVariants.{Unknown, SawPlace}
use Rattle.loom_gate.specs.View.{stand_word, tried, checked, polled, entered, left, flagged, looked, switched}
use Rattle.loom_gate.specs.GateMachine.{IsThread, GateMachine, Lawful, AllStood, NobodyInside, Amid}
use Rattle.loom_gate.specs.Tells.{Checks, Polls, Reads, Leaves}

-- while a pass is inside with version v, the version of the gate is v
abbrev pub InsideHasVersion : Type 0
InsideHasVersion = (n t v : ℕ) (m : GateMachine) → Lawful n m → IsThread n t → (m.passes t).stage ≡ Inside v → m.key.version ≡ v

-- it stands at the place, or tries from there
abbrev pub IsAt : ℕ → PassView → Type 0
IsAt place p = (p.stage ≡ Stands place) ⊎ (p.stage ≡ Tries place)

-- a pass that the key found at a place that is raised is there
abbrev pub FoundIsAt : Type 0
FoundIsAt = (n t place : ℕ) (m : GateMachine) → Lawful n m → IsThread n t → slice_index_or m.key.looks t Unknown ≡ SawPlace place → has_place m.key.up place ≡ true → IsAt place (m.passes t)

-- one step of the pass of thread t, from what it knows to what it knows then, where these flags are up and this is the version
pub data PassStep (up : List ℕ) (version t : ℕ) (p q : PassView) : Type 0 where
  try : (place : ℕ) → p.stage ≡ Stands place → q ≡ tried p → PassStep up version t p q
  check : (place i word : ℕ) → p.stage ≡ Tries place → has_bit word place ≡ has_place up place → q ≡ checked i word p → PassStep up version t p q
  back : (place : ℕ) → p.stage ≡ Tries place → q ≡ left place p → PassStep up version t p q
  read : (place : ℕ) → p.stage ≡ Clear place → q ≡ entered t version p → PassStep up version t p q
  poll : (v i word : ℕ) → p.stage ≡ Inside v → q ≡ polled i word p → PassStep up version t p q
  leave : (v place : ℕ) → p.stage ≡ Inside v → q ≡ left place p → PassStep up version t p q

-- there is a lawful machine in which the pass of thread t knows p, and makes a step to q
abbrev pub IsPassStep : ℕ → PassView → PassView → Type 0
IsPassStep t p q = Amid t p (λ a. PassStep a.key.up a.key.version t p q)

-- what the table tells of a pass's check, its read, a poll and its leaving is a step of the machine
abbrev pub ToldIsStep : Type 0
ToldIsStep = (st : Step ℕ) (t n : ℕ) (p q : PassView) (c : List (ℕ × ℕ))
    → ((place : ℕ) → p.stage ≡ Tries place → Checks st (Pass t p, c) n (Pass t q, c) → IsPassStep t p q)
    × ((place : ℕ) → p.stage ≡ Clear place → Reads st (Pass t p, c) n (Pass t q, c) → IsPassStep t p q)
    × ((v : ℕ) → p.stage ≡ Inside v → Polls st (Pass t p, c) n (Pass t q, c) → IsPassStep t p q)
    × ((v : ℕ) → p.stage ≡ Inside v → Leaves st (Pass t p, c) n (Pass t q, c) → IsPassStep t p q)
    × (p.stage ≡ Tries st.first → Leaves st (Pass t p, c) n (Pass t q, c) → IsPassStep t p q)

-- one step of a pass or of the key, from a machine of n threads to the next
pub data GateStep (n : ℕ) (m m' : GateMachine) : Type 0 where
  pass : (t : ℕ) → PassStep m.key.up m.key.version t (m.passes t) (m'.passes t) → ((j : ℕ) → j ≢ t → m'.passes j ≡ m.passes j) → m'.key ≡ m.key → GateStep n m m'
  flag : (i word : ℕ) → m'.passes ≡ m.passes → m'.key ≡ flagged i word m.key → GateStep n m m'
  look : (t : ℕ) → IsThread n t → m'.passes ≡ m.passes → m'.key ≡ looked t (stand_word (m.passes t).stage) m.key → GateStep n m m'
  switch : AllStood n m.key → m'.passes ≡ m.passes → m'.key ≡ switched m.key → GateStep n m m'

-- each machine of the list comes by a step from the one before
abbrev pub AreSteps : ℕ → GateMachine → List GateMachine → Type 0
AreSteps n m [] = Unit {0}
AreSteps n m (a ∷ more) = GateStep n m a × AreSteps n a more

-- a pass that the key found at a raised place is there at each later moment, as long as the place is up
abbrev pub StaysOut : Type 0
StaysOut = (n t place : ℕ) (m : GateMachine) (later : List GateMachine) → Lawful n m → IsThread n t → slice_index_or m.key.looks t Unknown ≡ SawPlace place → has_place m.key.up place ≡ true
    → AreSteps n m later → All (λ (a : GateMachine). has_place a.key.up place ≡ true) later → All (λ (a : GateMachine). IsAt place (a.passes t)) later

-- it stands at the place, or its try there has not yet read a version
abbrev pub IsBeforeEntering : ℕ → PassView → Type 0
IsBeforeEntering place p = (p.stage ≡ Stands place) ⊎ ((p.stage ≡ Tries place) ⊎ (p.stage ≡ Clear place))

-- a pass that entered with no version since a switch is where it was found then
abbrev pub WaitsWhereFound : Type 0
WaitsWhereFound = (n : ℕ) (m : GateMachine) → Lawful n m → All (λ (w : SwitchRow). All (λ (r : PassRow). r.version < w.version) (m.passes w.thread).rows → IsBeforeEntering w.place (m.passes w.thread)) m.key.switches

-- at a raised place a pass stays there, whatever step it makes
abbrev pub RaisedKeepsOut : Type 0
RaisedKeepsOut = (up : List ℕ) (version t place : ℕ) (p q : PassView) → has_place up place ≡ true → IsAt place p → PassStep up version t p q → IsAt place q

-- where the key found each thread at a raised place, nobody is inside
abbrev pub SwitchMeetsNobody : Type 0
SwitchMeetsNobody = (n : ℕ) (m : GateMachine) → Lawful n m → AllStood n m.key → NobodyInside n m
