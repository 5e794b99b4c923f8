-- Numbers in decimal.
use Rattle.std.specs.Prelude.{ℕ, zero, suc, ◌+◌, ◌/◌, ◌%◌, ℤ, pos, negsuc, nat_lt, if◌then◌else◌, List, [], ◌∷◌, ◌++◌}

-- the digits of a number, the highest first, where it has at most so many
abbrev pub digits_within : ℕ → ℕ → List ℕ
digits_within zero n = []
digits_within (suc most) n = if nat_lt n 10 then (48 + n) ∷ [] else digits_within most (n / 10) ++ (48 + n % 10) ∷ []

-- a number in decimal, without leading zeros
unfoldable pub decimal : ℕ → List ℕ
decimal n = digits_within (suc n) n

-- with `-` before a negative one
abbrev pub signed_decimal : ℤ → List ℕ
signed_decimal (pos n) = decimal n
signed_decimal (negsuc n) = 45 ∷ decimal (suc n)
