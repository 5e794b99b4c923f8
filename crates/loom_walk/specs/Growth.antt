-- What is owed grows by what filters make a thread do, one before the other.
use Rattle.std.specs.Prelude.{ℕ, ◌≡◌, ◌≤◌, ◌<◌, Bool, true, List, ◌∷◌, length, Option, Some}
use Rattle.std.specs.List.{AllByRecursion, filter}
use Rattle.loom_tree.specs.Tree.{Source}
use Rattle.loom_lang.specs.Places.{places}
use Rattle.loom_law.specs.Filter.{has}
use Rattle.loom_plan.specs.Compiled.{Compiled}
use Rattle.loom_version.specs.Plans.{compiled_at}
use Rattle.loom_walk.specs.Owed.{Owed, HasOperations, filters_owed}

-- Of each kind the first list has no more than the second one.
abbrev pub HaveNoMore : List ℕ → List ℕ → Type 0
HaveNoMore xs ys = (test : ℕ → Bool) → length (filter test xs) ≤ length (filter test ys)

-- There is a row more at most, of this filter; the rest is the same.
pub record GrowsBy (k : ℕ) (old new : Owed) : Type 0 where
  pub line : new.line ≡ old.line
  pub tick : new.tick ≡ old.tick
  pub back : new.back ≡ old.back
  pub rows : AllByRecursion HasOperations old.rows → AllByRecursion HasOperations new.rows
  pub filters : (ks : List ℕ) → HaveNoMore (filters_owed old.rows) ks → HaveNoMore (filters_owed new.rows) (k ∷ ks)

-- The rows are of these filters, one of each at most; the rest is the same.
pub record GrowsByAll (ks : List ℕ) (old new : Owed) : Type 0 where
  pub line : new.line ≡ old.line
  pub tick : new.tick ≡ old.tick
  pub back : new.back ≡ old.back
  pub rows : AllByRecursion HasOperations new.rows
  pub filters : HaveNoMore (filters_owed new.rows) ks

-- The filter is there, in this program.
abbrev pub IsThere : Source → List (Option Compiled) → ℕ → Type 0
IsThere p cs k = (c : Compiled) × ((compiled_at cs k ≡ Some c) × (c.program ≡ p))

abbrev pub AreThere : Source → List (Option Compiled) → List ℕ → Type 0
AreThere p cs ks = (k : ℕ) → has ks k ≡ true → IsThere p cs k

-- The filter is there, in a program that has a place of this number.
abbrev pub HasPlace : List (Option Compiled) → ℕ → ℕ → Type 0
HasPlace cs k place = (c : Compiled) × ((compiled_at cs k ≡ Some c) × (place < length (places c.program)))
