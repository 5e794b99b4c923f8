-- Small sets of numbers, from 1 on.
use Rattle.std.specs.Prelude.{ℕ, zero, suc, ◌≡◌, ◌==◌, Bool, List, [], ◌∷◌, Option, Some, None, if◌then◌else◌}
use Rattle.std.specs.Int.{bit_at}
use Rattle.loom_plan.specs.declared.numbers.Numbers.{Numbers}

-- so many numbers, from the one behind i on, where the test of the number before is met
unfoldable pub select : (ℕ → Bool) → ℕ → ℕ → List ℕ
select test zero i = []
select test (suc k) i = if test i then suc i ∷ select test k (suc i) else select test k (suc i)

-- the set has the number behind i
abbrev pub is_bit : ℕ → ℕ → Bool
is_bit bits i = bit_at bits i == 1

abbrev pub most_numbers : ℕ
most_numbers = 32

-- the numbers of a set, ascending
unfoldable pub numbers_of : Numbers → List ℕ
numbers_of s = select (is_bit s.bits) most_numbers 0

-- the first number was taken out of a list, if there is one
abbrev pub TakesFirst : List ℕ → List ℕ → Option ℕ → Type 0
TakesFirst old new None = (old ≡ []) × (new ≡ [])
TakesFirst old new (Some n) = old ≡ n ∷ new

-- so many numbers, from this one on
abbrev pub consecutive : ℕ → ℕ → List ℕ
consecutive first zero = []
consecutive first (suc k) = first ∷ consecutive (suc first) k
