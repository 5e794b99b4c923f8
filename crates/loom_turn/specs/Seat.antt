-- What clauses say of a lock's seats.
use Rattle.std.specs.Prelude.{◌≡◌, ℕ, List, [], ◌∷◌, ◌<◌, Option, Some, None, All, sum_by}
use Rattle.atomic_table.specs.declared.shared.Seat as shared
use Rattle.atomic_table.specs.Seated.{TableId}
use Rattle.loom_turn.specs.declared.turn.Turn.{Turn}
use Rattle.loom_turn.specs.declared.view.SeatView.{SeatView}
use Rattle.loom_turn.specs.declared.view.SeatStage.TheVariants.{Idle}
use Rattle.loom_turn.specs.Lock.{IsAtTurn}

abbrev pub Seat : Type 0 → Type 0 → Type 0
Seat T L = shared.Seat (Option T) (SeatView L)

module _ {T L : Type 0} where
  -- a seat of the table with this id, which carries this label
  abbrev pub IsSeatAt : TableId → L → Seat T L → Type 0
  IsSeatAt id l s = (s.table_id ≡ id) × (0 < s.me.0.parts) × (s.me.0.label ≡ Some l)

  -- it has no ticket, and not the slot
  abbrev pub IsIdle : Seat T L → Type 0
  IsIdle s = (s.me.0.stage ≡ Idle) × (s.me.1 ≡ [])

  -- its ticket is served, and it has the slot, which is empty
  abbrev pub HasTurn : Seat T L → Type 0
  HasTurn s = IsAtTurn s.me.0.stage × (s.me.1 ≡ (0, None) ∷ [])

  -- a seat of the same lock, with the same label and as many parts
  abbrev pub IsSameSeat : Seat T L → Seat T L → Type 0
  IsSameSeat s s' = (s'.table_id ≡ s.table_id) × (s'.me.0.parts ≡ s.me.0.parts) × (s'.me.0.label ≡ s.me.0.label)

  abbrev pub parts_of : Seat T L → ℕ
  parts_of s = s.me.0.parts

  -- all seats of that table, idle
  abbrev pub AreSeatsAt : TableId → L → List (Seat T L) → Type 0
  AreSeatsAt id l seats = All (λ (s : Seat T L). IsSeatAt id l s × IsIdle s) seats × (sum_by parts_of seats ≡ 256)

  -- the label of the value that a lock was made with
  abbrev pub label_of : (T → L) → Turn T L → L
  label_of label turn = label turn.table.shared.key.value

  -- a seat of this lock, which carries the label of its value
  abbrev pub IsSeatOf : (T → L) → Turn T L → Seat T L → Type 0
  IsSeatOf label turn s = IsSeatAt turn.table.shared.table_id (label_of label turn) s

  -- all seats of this lock, idle
  abbrev pub AreSeatsOf : (T → L) → Turn T L → List (Seat T L) → Type 0
  AreSeatsOf label turn seats = AreSeatsAt turn.table.shared.table_id (label_of label turn) seats
