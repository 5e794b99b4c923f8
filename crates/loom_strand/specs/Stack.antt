-- A stack with room for so many elements.
use Rattle.std.specs.Prelude.{ℕ, List, [], ◌∷◌, Option, Some, None}

pub record Stack (A : Type 0) : Type 0 where
  -- the top first
  pub items : List A
  pub most : ℕ

abbrev pub first : {A : Type 0} → List A → Option A
first [] = None
first (x ∷ xs) = Some x
