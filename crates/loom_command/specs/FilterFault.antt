-- Why the text of a filter is refused, whatever the program: where the grammar is left, and what is counted or said twice.
use Rattle.std.specs.Prelude.{ℕ, suc, ◌+◌, ◌<◌, ◌≤◌, ◌≡◌, ◌⊎◌, ◌==◌, nat_lt, nat_le, Bool, true, false, ◌&&◌, ◌||◌, List, [], ◌∷◌, length, Option, Some, None, if◌then◌else◌}
use Rattle.std.specs.List.{list_any}
use Rattle.loom_lexer.specs.Tokens.{value_from}
use Rattle.loom_command.specs.Filter as tree
use Rattle.loom_command.specs.FilterForm.{EventForm, StepForm, RegionForm, between, whole, ClauseForm, order, exclusive, unilateral, test_tree, filter_tree}
use Rattle.loom_command.specs.FilterText.{IsTextOfFilter, IsForm, BeginsWith}

-- A fault stands in a clause, counted from 1, and has a number.
pub record FilterFault : Type 0 where
  pub clause : ℕ
  pub number : ℕ

-- The first is no later than the second: its clause is less, or the clauses are the same and its number isn't greater.
abbrev pub IsNoLater : FilterFault → FilterFault → Type 0
IsNoLater a b = (a.clause < b.clause) ⊎ ((a.clause ≡ b.clause) × (a.number ≤ b.number))

-- the grammar is left

abbrev pub last_clause : ℕ
last_clause = 9

-- the clause behind so many whole ones; beyond the ninth it is the ninth
abbrev pub clause_behind : ℕ → ℕ
clause_behind n = if nat_lt n last_clause then suc n else last_clause

-- No filter has this text. The clause is the one behind the most whole clauses with which it begins.
pub record LeavesGrammar (bytes : List ℕ) (clause : ℕ) : Type 0 where
  pub no_text : IsTextOfFilter bytes → ⊥
  pub whole : ℕ
  pub begins : BeginsWith bytes whole
  pub most : (n : ℕ) → BeginsWith bytes n → n ≤ whole
  pub is : clause ≡ clause_behind whole

-- A count stands where nothing is counted: on an order that ends with it, or in a region.

abbrev pub is_counted : StepForm → Bool
is_counted s = has_count s.count
  where
    has_count : Option (List ℕ) → Bool
    has_count None = false
    has_count (Some digits) = true

abbrev pub is_last_counted : StepForm → List StepForm → Bool
is_last_counted s [] = is_counted s
is_last_counted s (t ∷ ts) = is_last_counted t ts

abbrev pub is_region_counted : RegionForm → Bool
is_region_counted (between e es x xs) = list_any is_counted (e ∷ es) || list_any is_counted (x ∷ xs)
is_region_counted (whole f test) = false

abbrev pub is_miscounted : ClauseForm → Bool
is_miscounted (order a b ss) = is_last_counted b ss
is_miscounted (exclusive r rs) = is_region_counted r || list_any is_region_counted rs
is_miscounted (unilateral r) = is_region_counted r

-- two events of an order are one: the same file, line and test, the tests being compared as trees

pub record IsSameEvent (a b : EventForm) : Type 0 where
  pub file : a.file ≡ b.file
  pub line : value_from 0 a.line ≡ value_from 0 b.line
  pub test : test_tree a.test ≡ test_tree b.test

abbrev pub IsEventAmong : EventForm → List StepForm → Type 0
IsEventAmong a [] = ⊥
IsEventAmong a (s ∷ ss) = IsSameEvent a s.event ⊎ IsEventAmong a ss

abbrev pub HasTwins : List StepForm → Type 0
HasTwins [] = ⊥
HasTwins (s ∷ ss) = IsEventAmong s.event ss ⊎ HasTwins ss

abbrev pub Repeats : ClauseForm → Type 0
Repeats (order a b ss) = HasTwins (a ∷ b ∷ ss)
Repeats _ = ⊥

-- too much: the clause is the ninth, or one event too many stands in it

abbrev pub most_clauses : ℕ
most_clauses = 8

abbrev pub most_events : ℕ
most_events = 32

abbrev pub region_events : RegionForm → ℕ
region_events (between e es x xs) = length (e ∷ es) + length (x ∷ xs)
-- a function is one event
region_events (whole f test) = 1

abbrev pub regions_events : List RegionForm → ℕ
regions_events [] = 0
regions_events (r ∷ rs) = region_events r + regions_events rs

abbrev pub clause_events : ClauseForm → ℕ
clause_events (order a b ss) = 2 + length ss
clause_events (exclusive r rs) = region_events r + regions_events rs
clause_events (unilateral r) = region_events r

-- with so many events before it
abbrev pub is_too_much : ℕ → ℕ → ClauseForm → Bool
is_too_much n before c = (n == suc most_clauses) || (nat_le before most_events && nat_lt most_events (before + clause_events c))

-- What is wrong with a clause by itself, of this number and with so many events before it.
abbrev pub HasFault : ℕ → ℕ → ClauseForm → ℕ → Type 0
HasFault n before c number =
    ((number ≡ 5) × (is_miscounted c ≡ true)) ⊎ (((number ≡ 9) × Repeats c) ⊎ ((number ≡ 13) × (is_too_much n before c ≡ true)))

-- A clause of these has the fault; the first has this number, and so many events stand before it.
abbrev pub IsFaultOf : ℕ → ℕ → List ClauseForm → FilterFault → Type 0
IsFaultOf n before [] x = ⊥
IsFaultOf n before (c ∷ cs) x = ((x.clause ≡ n) × HasFault n before c x.number) ⊎ IsFaultOf (suc n) (before + clause_events c) cs x

-- The text is refused so: the grammar goes before all, then the first fault.
pub record IsFaultyFilter (bytes : List ℕ) (x : FilterFault) : Type 0 where
  pub first : ClauseForm
  pub others : List ClauseForm
  pub form : IsForm bytes first others
  pub is : IsFaultOf 1 0 (first ∷ others) x
  pub least : (y : FilterFault) → IsFaultOf 1 0 (first ∷ others) y → IsNoLater x y

abbrev pub IsRefusedText : List ℕ → FilterFault → Type 0
IsRefusedText bytes x = ((x.number ≡ 1) × LeavesGrammar bytes x.clause) ⊎ IsFaultyFilter bytes x

-- The text is that of a filter, which nothing in it refuses.
pub record IsFilter (bytes : List ℕ) (f : tree.Filter) : Type 0 where
  pub first : ClauseForm
  pub others : List ClauseForm
  pub form : IsForm bytes first others
  pub faultless : (x : FilterFault) → IsFaultOf 1 0 (first ∷ others) x → ⊥
  pub tree : f ≡ filter_tree (first ∷ others)
