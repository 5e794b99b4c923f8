-- What each kind of step tells its seat.
use Rattle.std.specs.Prelude.{◌≡◌, ℕ, ◌<◌, ◌≤◌}
use Rattle.atomic_table.specs.Table.{Me, Step}
use Rattle.loom_trace.specs.Places.{has_bit, has_place}
use Rattle.loom_gate.specs.declared.view.PassView.{PassView}
use Rattle.loom_gate.specs.declared.view.KeyView.{KeyView}
use Rattle.loom_gate.specs.declared.view.View.{View}
use Rattle.loom_gate.specs.declared.view.View.TheVariants.{Pass, Key}
use Rattle.loom_gate.specs.View.{mark, place_of, thread_of, pass_of, key_of, tried, checked, polled, entered, left, flagged, looked, switched}
use Rattle.loom_gate.specs.GateMachine.{Amid, AmidKey, NobodyInside}

module _ {S : Type 0} where
  abbrev pub passed : Me S View → (PassView → PassView) → Me S View
  passed m f = (Pass (thread_of m.0) (f (pass_of m.0)), m.1)

  abbrev pub keyed : Me S View → (KeyView → KeyView) → Me S View
  keyed m f = (Key (f (key_of m.0)), m.1)

  abbrev pub Tries : Step S → Me S View → ℕ → Me S View → Type 0
  Tries st m n m' = m' ≡ passed m tried

  -- the word found was that of the flags at that moment
  abbrev pub Checks : Step S → Me S View → ℕ → Me S View → Type 0
  Checks st m n m' = (m' ≡ passed m (checked st.word n)) × Amid (thread_of m.0) (pass_of m.0) (λ a. has_bit n (place_of (pass_of m.0).stage) ≡ has_place a.key.up (place_of (pass_of m.0).stage))

  abbrev pub Polls : Step S → Me S View → ℕ → Me S View → Type 0
  Polls st m n m' = (m' ≡ passed m (polled st.word n)) × Amid (thread_of m.0) (pass_of m.0) (λ a. Unit {0})

  -- the number found was the version at that moment
  abbrev pub Reads : Step S → Me S View → ℕ → Me S View → Type 0
  Reads st m n m' = (m' ≡ passed m (entered (thread_of m.0) n)) × Amid (thread_of m.0) (pass_of m.0) (λ a. n ≡ a.key.version)

  abbrev pub Leaves : Step S → Me S View → ℕ → Me S View → Type 0
  Leaves st m n m' = (m' ≡ passed m (left st.first)) × Amid (thread_of m.0) (pass_of m.0) (λ a. Unit {0})

  -- a raised word, or a lowered one
  abbrev pub Flags : Step S → Me S View → ℕ → Me S View → Type 0
  Flags st m n m' = m' ≡ keyed m (flagged st.word st.first)

  -- the mark, or a place of the gate
  abbrev pub Looks : Step S → Me S View → ℕ → Me S View → Type 0
  Looks st m n m' = (m' ≡ keyed m (looked st.word n)) × (n ≤ mark) × (n < mark → n < (key_of m.0).places)

  -- nobody was inside at that moment
  abbrev pub Switches : Step S → Me S View → ℕ → Me S View → Type 0
  Switches st m n m' = (m' ≡ keyed m switched) × AmidKey (key_of m.0) NobodyInside
