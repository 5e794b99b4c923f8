-- The numbers of elements of a list that meet a test.
use Rattle.std.specs.Prelude.{ℕ, suc, Bool, List, [], ◌∷◌, if◌then◌else◌}

-- the first element has this number
abbrev pub numbers_where : {A : Type 0} → (ℕ → A → Bool) → ℕ → List A → List ℕ
numbers_where test n [] = []
numbers_where test n (x ∷ xs) = if test n x then n ∷ numbers_where test (suc n) xs else numbers_where test (suc n) xs
