-- What is wrong with the clauses of a filter, as trees: the faults of `FilterFault`, which forms have where their trees have them.
use Rattle.std.specs.Prelude.{ℕ, suc, ◌+◌, ◌-◌, ◌≡◌, ◌⊎◌, ◌==◌, nat_le, nat_lt, ◌&&◌, ◌||◌, Bool, true, false, List, [], ◌∷◌, length, Option, Some, None, if◌then◌else◌}
use Rattle.loom_command.specs.Filter as tree
use Rattle.loom_command.specs.FilterFault.{FilterFault, IsNoLater, most_clauses, most_events}
use Rattle.loom_filter.specs.Builders.{CountedClause}

-- the event is that of a step of these
abbrev pub IsStepAmong : tree.LineEvent → List tree.OrderStep → Type 0
IsStepAmong e [] = ⊥
IsStepAmong e (s ∷ ss) = (e ≡ s.event) ⊎ IsStepAmong e ss

-- two steps of these have one event
abbrev pub HaveTwins : List tree.OrderStep → Type 0
HaveTwins [] = ⊥
HaveTwins (s ∷ ss) = IsStepAmong s.event ss ⊎ HaveTwins ss

abbrev pub Repeats : tree.Clause → Type 0
Repeats (tree.order ss) = HaveTwins ss
Repeats _ = ⊥

abbrev pub region_events : tree.Region → ℕ
region_events (tree.between es xs) = length es + length xs
region_events (tree.whole f test) = 1

abbrev pub regions_events : List tree.Region → ℕ
regions_events [] = 0
regions_events (r ∷ rs) = region_events r + regions_events rs

abbrev pub clause_events : tree.Clause → ℕ
clause_events (tree.order ss) = length ss
clause_events (tree.exclusive rs) = regions_events rs
clause_events (tree.unilateral r) = region_events r

-- so much room is left behind so many events
abbrev pub less : ℕ → ℕ → Option ℕ
less room n = if nat_le n room then Some (room - n) else None

abbrev pub room_behind : ℕ → tree.Clause → Option ℕ
room_behind room c = less room (clause_events c)

-- the clause of this number is too much, with so many events before it
abbrev pub is_too_much : ℕ → ℕ → tree.Clause → Bool
is_too_much n before c = (n == suc most_clauses) || (nat_le before most_events && nat_lt most_events (before + clause_events c))

-- what is told of the room behind the clause of this number, where there was so much before it
abbrev pub TellsRoom : ℕ → ℕ → tree.Clause → Option ℕ → Type 0
TellsRoom n room c None = is_too_much n (most_events - room) c ≡ true
TellsRoom n room c (Some left) = (is_too_much n (most_events - room) c ≡ false) × (left + clause_events c ≡ room)

abbrev pub HasFault : ℕ → ℕ → CountedClause → ℕ → Type 0
HasFault n before c number =
    ((number ≡ 5) × (c.is_miscounted ≡ true)) ⊎ (((number ≡ 9) × Repeats c.clause) ⊎ ((number ≡ 13) × (is_too_much n before c.clause ≡ true)))

-- the number of a fault that is in the clause's form, if there is one: the least
abbrev pub TellsForm : CountedClause → Option ℕ → Type 0
TellsForm c None = (c.is_miscounted ≡ false) × (Repeats c.clause → ⊥)
TellsForm c (Some number) = ((number ≡ 5) × (c.is_miscounted ≡ true)) ⊎ ((number ≡ 9) × (c.is_miscounted ≡ false) × Repeats c.clause)

-- a clause of these has the fault
abbrev pub IsFaultOf : ℕ → ℕ → List CountedClause → FilterFault → Type 0
IsFaultOf n before [] x = ⊥
IsFaultOf n before (c ∷ cs) x = ((x.clause ≡ n) × HasFault n before c x.number) ⊎ IsFaultOf (suc n) (before + clause_events c.clause) cs x

-- their first fault
pub record IsFirstOf (n before : ℕ) (cs : List CountedClause) (x : FilterFault) : Type 0 where
  pub is : IsFaultOf n before cs x
  pub least : (y : FilterFault) → IsFaultOf n before cs y → IsNoLater x y

-- what is told of clauses
abbrev pub TellsFault : ℕ → ℕ → List CountedClause → Option FilterFault → Type 0
TellsFault n before cs None = (x : FilterFault) → IsFaultOf n before cs x → ⊥
TellsFault n before cs (Some x) = IsFirstOf n before cs x
