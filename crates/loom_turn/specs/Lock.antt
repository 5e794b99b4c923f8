-- The turn lock as a machine: what each seat says, the tickets drawn and served, and the value at home. It knows of no table.
use Rattle.std.specs.Prelude.{◌≡◌, ℕ, zero, suc, ◌+◌, ◌<◌, ◌≤◌, ◌==◌, if◌then◌else◌, Option, Some, None}
use Rattle.loom_turn.specs.declared.view.SeatView.{SeatView}
use Rattle.loom_turn.specs.declared.view.SeatStage.{SeatStage}
use Rattle.loom_turn.specs.declared.view.SeatStage.TheVariants.{Idle, Waits, AtTurn}

abbrev pub seat_view : {L : Type 0} → ℕ → SeatStage → Option L → SeatView L
seat_view p s l = record { parts = p; stage = s; label = l }

-- what a seat says that isn't made yet, or is joined to another
abbrev pub blank : {L : Type 0} → SeatView L
blank = seat_view 0 Idle None

abbrev pub at_stage : {L : Type 0} → SeatStage → SeatView L → SeatView L
at_stage s v = record v { stage = s }

-- `f`, but for `x` at `i`
abbrev pub changed : {A : Type 0} → (ℕ → A) → ℕ → A → ℕ → A
changed f i x j = if j == i then x else f j

-- the sum of `f` over the numbers below `n`
abbrev pub sum_below : ℕ → (ℕ → ℕ) → ℕ
sum_below zero f = 0
sum_below (suc n) f = f n + sum_below n f

-- Stages

abbrev pub ticket_count : SeatStage → ℕ
ticket_count Idle = 0
ticket_count (Waits t) = 1
ticket_count (AtTurn t) = 1

abbrev pub ticket_of : SeatStage → ℕ
ticket_of Idle = 0
ticket_of (Waits t) = t
ticket_of (AtTurn t) = t

abbrev pub HasTicket : ℕ → SeatStage → Type 0
HasTicket t Idle = ⊥
HasTicket t (Waits u) = u ≡ t
HasTicket t (AtTurn u) = u ≡ t

abbrev pub IsAtTurn : SeatStage → Type 0
IsAtTurn Idle = ⊥
IsAtTurn (Waits t) = ⊥
IsAtTurn (AtTurn t) = Unit {0}

-- A ticket was drawn, and isn't past. The ticket of the seat at its turn is the next that is not served to the end.
abbrev pub StageFits : ℕ → ℕ → SeatStage → Type 0
StageFits served drawn Idle = Unit {0}
StageFits served drawn (Waits t) = (served ≤ t) × (t < drawn)
StageFits served drawn (AtTurn t) = (t ≡ served) × (t < drawn)

-- The seats are those below `seats`. So many tickets were drawn, and so many of them served to the end. None at `home`: the slot is out.
pub record Lock (T L : Type 0) : Type 0 where
  pub seats : ℕ
  pub views : ℕ → SeatView L
  pub drawn : ℕ
  pub served : ℕ
  pub home : Option T

module _ {T L : Type 0} where
  -- seat `i` draws a ticket
  abbrev pub draw : ℕ → Lock T L → Lock T L
  draw i m = record m { views = changed m.views i (at_stage (Waits m.drawn) (m.views i)); drawn = m.drawn + 1 }

  -- seat `i` found that its ticket is served: the slot goes out
  abbrev pub admit : ℕ → Lock T L → Lock T L
  admit i m = record m { views = changed m.views i (at_stage (AtTurn m.served) (m.views i)); home = None }

  -- seat `i` puts `x` back and serves the next ticket
  abbrev pub serve : ℕ → T → Lock T L → Lock T L
  serve i x m = record m { views = changed m.views i (at_stage Idle (m.views i)); served = m.served + 1; home = Some x }

module _ {T L : Type 0} (label : T → L) (l : L) where
  -- A value with the label is at home and no seat is at its turn, or the slot is out and a seat is at its turn, which has it.
  abbrev pub HomeFits : (ℕ → SeatView L) → Option T → Type 0
  HomeFits views (Some x) = (label x ≡ l) × ((i : ℕ) → IsAtTurn (views i).stage → ⊥)
  HomeFits views None = (i : ℕ) × IsAtTurn (views i).stage

  -- The rule that each step keeps. A ticket is a seat's from its draw to its serve.
  pub record IsOrderly (m : Lock T L) : Type 0 where
    -- the tickets served to the end, and those that seats have, are all that were drawn
    pub count : m.served + sum_below m.seats (λ i. ticket_count (m.views i).stage) ≡ m.drawn
    -- each seat's ticket was drawn and isn't past
    pub tickets : (i : ℕ) → StageFits m.served m.drawn (m.views i).stage
    -- no two seats have one ticket
    pub apart : (i j t : ℕ) → HasTicket t (m.views i).stage → HasTicket t (m.views j).stage → i ≡ j
    -- the value is at home, or out with the seat at its turn
    pub home : HomeFits m.views m.home
    -- each label that a seat carries is the value's
    pub labels : (i : ℕ) (k : L) → (m.views i).label ≡ Some k → k ≡ l
    -- a seat that isn't made yet says nothing
    pub others : (i : ℕ) → m.seats ≤ i → m.views i ≡ blank

-- The parts of all seats are 256, and a seat with a ticket has one.
pub record IsWhole {T L : Type 0} (m : Lock T L) : Type 0 where
  pub parts : sum_below m.seats (λ i. (m.views i).parts) ≡ 256
  pub tickets : (i : ℕ) → ticket_count (m.views i).stage ≤ (m.views i).parts
