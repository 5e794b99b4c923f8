-- The rule of the lock's table: a lock stands behind its words, its slot and its seats' views.
use Rattle.std.specs.Prelude.{◌≡◌, ℕ, ◌%◌, List, [], ◌∷◌, length, Option, Some, None}
use mathlib.Core.Option as maybe
use mathlib.Core.Option.{some, none}
use lib.ListN.{get_elem?}
use Rattle.atomic_table.specs.Table.{State}
use Rattle.loom_turn.specs.declared.view.SeatView.{SeatView}
use Rattle.loom_turn.specs.Lock.{Lock, IsOrderly, IsWhole}

-- the words count modulo 2^64
abbrev pub wrap : ℕ → ℕ
wrap n = n % 18446744073709551616

-- the one slot: none where it is out
abbrev pub slot_of : {T : Type 0} → Option T → List (maybe.Option (Option T))
slot_of (Some x) = some (Some x) ∷ []
slot_of None = none ∷ []

-- as many views as seats, each what the lock has its seat say
abbrev pub AreViews : {V : Type 0} → List V → ℕ → (ℕ → V) → Type 0
AreViews vs n f = (length vs ≡ n) × ((i : ℕ) (v : _) → get_elem? vs i ≡ some v → f i ≡ v)

pub record TicketRule {T L : Type 0} (label : T → L) (l : L) (s : State (Option T) (SeatView L)) : Type 0 where
  pub lock : Lock T L
  pub words : s.words ≡ wrap lock.drawn ∷ wrap lock.served ∷ []
  pub slot : s.homes ≡ slot_of lock.home
  pub views : AreViews s.views lock.seats lock.views
  pub orderly : IsOrderly label l lock
  pub whole : IsWhole lock
