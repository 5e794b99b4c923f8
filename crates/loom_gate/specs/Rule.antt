-- The rule of a gate's table: its words and its seats' views are those of a lawful machine.
-- It speaks of the first words and of the gate's part of each view alone, so that a guest's words and views can stand beside.
use Rattle.std.specs.Prelude.{◌≡◌, ℕ, ◌+◌, ◌<◌, ◌≤◌, List, length, slice_index, slice_index_or}
use mathlib.Core.Option.{some}
use lib.ListN.{get_elem?}
use Rattle.loom_gate.specs.declared.view.View.{View}
use Rattle.loom_gate.specs.declared.view.View.TheVariants.{Pass, Key, Nobody}
use Rattle.loom_gate.specs.View.{start, stand_word, flag_words}
use Rattle.loom_gate.specs.GateMachine.{IsThread, GateMachine, Lawful}

module _ (n : ℕ) (m : GateMachine) (owner : ℕ → ℕ) (holder : ℕ) where
  -- the view of seat i is what the machine says
  abbrev pub SeatFits : ℕ → View → Type 0
  SeatFits i (Pass t p) = IsThread n t × (owner t ≡ i) × (p ≡ m.passes t) × (t ≤ m.key.born) × (length m.key.finals < t)
  SeatFits i (Key k) = (holder ≡ i) × (k ≡ m.key)
  SeatFits i Nobody = Unit {0}

-- word 0 is the version, words 1 to n are the threads', and the words of flags follow
pub record GateHolds (n places : ℕ) (words : List ℕ) (views : List View) : Type 0 where
  pub machine : GateMachine
  -- the seat of each thread's pass, and that of the key
  pub owner : ℕ → ℕ
  pub holder : ℕ
  pub wide : (n + 1) + flag_words places ≤ length words
  pub many : length machine.key.up ≡ flag_words places
  pub size : machine.key.places ≡ places
  pub version : slice_index words 0 ≡ machine.key.version
  pub stands : (t : ℕ) → IsThread n t → slice_index words t ≡ stand_word (machine.passes t).stage
  pub flags : (w : ℕ) → w < length machine.key.up → slice_index words ((n + 1) + w) ≡ slice_index_or machine.key.up w 0
  pub seats : (i : ℕ) (v : View) → get_elem? views i ≡ some v → SeatFits n machine owner holder i v
  pub unborn : (t : ℕ) → machine.key.born < t → machine.passes t ≡ start
  pub finals : (t : ℕ) → t < length machine.key.finals → machine.passes (t + 1) ≡ slice_index_or machine.key.finals t start
  pub lawful : Lawful n machine
