-- Words, numbers and the ends of tests, as functions of bytes.
use Rattle.std.specs.Prelude.{ℕ, suc, ◌≡◌, ◌+◌, ◌-◌, ◌*◌, Bool, false, not, ◌&&◌, nat_eq, nat_lt, is_some, List, [], ◌∷◌, Option, Some, None, if◌then◌else◌}
use Rattle.std.specs.List.{list_all}
use Rattle.loom_lexer.specs.Lexeme.{Each, is_letter, is_digit, is_part}
use Rattle.loom_lexer.specs.Scan.{begins}
use Rattle.loom_lexer.specs.Tokens.{keyword_of}
use Rattle.loom_filter.specs.declared.scan.FilterSign.{FilterSign}
use Rattle.loom_filter.specs.declared.scan.FilterSign.TheVariants as g
use Rattle.loom_command.specs.FilterForm.{filter_number_limit}

-- the bytes are a name of the language
abbrev pub is_name : List ℕ → Bool
is_name [] = false
is_name (b ∷ bs) = is_letter b && (list_all is_part bs && not (is_some (keyword_of (b ∷ bs))))

-- the number that digits are, behind those that have the value v
abbrev pub number_from : ℕ → List ℕ → Option ℕ
number_from v [] = if nat_eq v 0 then None else Some v
number_from v (b ∷ bs) =
    if is_digit b then (if nat_lt filter_number_limit (10 * v + (b - 48)) then None else number_from (10 * v + (b - 48)) bs) else None

abbrev pub number_by : List ℕ → Option ℕ
number_by bs = number_from 0 bs

-- a comment begins there
-- (47 is `/`)
abbrev pub begins_comment : List ℕ → Bool
begins_comment [] = false
begins_comment (b ∷ bs) = nat_eq b 47 && begins (λ c. nat_eq c 47) bs

-- no comment begins in the bytes
abbrev pub HasNoComment : List ℕ → Type 0
HasNoComment [] = Unit {0}
HasNoComment (b ∷ bs) = (begins_comment (b ∷ bs) ≡ false) × HasNoComment bs

-- no LF stands in them
abbrev pub IsOneLine : List ℕ → Type 0
IsOneLine bs = Each (λ b. not (nat_eq b 10)) bs

-- One more byte before what was counted.
abbrev pub one_more : Option ℕ → Option ℕ
one_more None = None
one_more (Some n) = Some (suc n)

-- How many bytes stand before the `)` that closes the one which is open, where so many are open in it; None where an LF
-- or a comment comes first.
-- (40 and 41 are the parentheses, 10 is LF)
abbrev pub closing : ℕ → List ℕ → Option ℕ
closing depth [] = None
closing depth (b ∷ bs) =
    if nat_eq b 10 then None else
    if begins_comment (b ∷ bs) then None else
    if nat_eq b 41 then (if nat_eq depth 0 then Some 0 else one_more (closing (depth - 1) bs)) else
    if nat_eq b 40 then one_more (closing (suc depth) bs) else one_more (closing depth bs)

-- a place counted from another one
abbrev pub place_behind : ℕ → Option ℕ → Option ℕ
place_behind at None = None
place_behind at (Some n) = Some (at + n)

-- the sign that is this byte alone
abbrev pub first_sign : ℕ → Option FilterSign
first_sign b =
    if nat_eq b 58 then Some g.Colon else
    if nat_eq b 44 then Some g.Comma else
    if nat_eq b 59 then Some g.Semicolon else
    if nat_eq b 62 then Some g.Before else
    if nat_eq b 42 then Some g.All else
    if nat_eq b 123 then Some g.BraceOpen else
    if nat_eq b 125 then Some g.BraceClose else None
