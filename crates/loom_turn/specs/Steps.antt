-- What each kind of step tells its seat. The slot goes out with the load and comes back with the serve; to take and to put move a value in the slot
-- that the seat has, and change no view.
use Rattle.std.specs.Prelude.{◌≡◌, ℕ, ◌==◌, ◌∷◌, Option, Some, MatchBool}
use Rattle.atomic_table.specs.Table.{Me, Step, rest}
use Rattle.loom_turn.specs.declared.view.SeatView.{SeatView}
use Rattle.loom_turn.specs.declared.view.SeatStage.TheVariants.{Idle, Waits, AtTurn}
use Rattle.loom_turn.specs.Lock.{at_stage, ticket_of}
use Rattle.loom_turn.specs.TicketRule.{wrap}

-- a seat's view, and the slots that it has
abbrev pub Holder : Type 0 → Type 0 → Type 0
Holder T L = Me (Option T) (SeatView L)

module _ {T L : Type 0} where
  -- draw: a ticket, which is the word found
  abbrev pub Draws : Step (Option T) → Holder T L → ℕ → Holder T L → Type 0
  Draws st m n m' = (t : ℕ) × (n ≡ wrap t) × (m' ≡ (at_stage (Waits t) m.0, m.1))

  -- the ticket is served: the slot is out with the seat, and has a value with the seat's label
  abbrev pub Admits : (T → L) → Holder T L → Holder T L → Type 0
  Admits label m m' = (x : T) × ((k : L) → m.0.label ≡ Some k → k ≡ label x) × (m' ≡ (at_stage (AtTurn (ticket_of m.0.stage)) m.0, (0, Some x) ∷ m.1))

  -- load: where the word found is the seat's ticket it is served, and else nothing changes
  abbrev pub Loads : (T → L) → Step (Option T) → Holder T L → ℕ → Holder T L → Type 0
  Loads label st m n m' = MatchBool (n == wrap (ticket_of m.0.stage)) (Admits label m m') (m' ≡ m)

  -- serve: the slot is back, and the seat has no ticket
  abbrev pub Serves : Step (Option T) → Holder T L → ℕ → Holder T L → Type 0
  Serves st m n m' = m' ≡ (at_stage Idle m.0, rest m.1)
