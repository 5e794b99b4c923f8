-- The lexeme at the front of a text, as functions of its bytes.
use Rattle.std.specs.Prelude.{ℕ, suc, Bool, false, List, [], ◌∷◌, if◌then◌else◌}
use Rattle.loom_lexer.specs.declared.lexeme.Class.{Class}
use Rattle.loom_lexer.specs.declared.lexeme.Class.TheVariants as c
use Rattle.loom_lexer.specs.declared.lexeme.LexemeKind.{LexemeKind}
use Rattle.loom_lexer.specs.declared.lexeme.LexemeKind.TheVariants as k
use Rattle.loom_lexer.specs.Lexeme.{is, is_digit, is_part, is_inside_comment, class_of}

abbrev pub begins : (ℕ → Bool) → List ℕ → Bool
begins p [] = false
begins p (b ∷ bs) = p b

-- how many bytes at the front meet the test
abbrev pub run_len : (ℕ → Bool) → List ℕ → ℕ
run_len p [] = 0
run_len p (b ∷ bs) = if p b then suc (run_len p bs) else 0

abbrev pub kind_by : Class → List ℕ → LexemeKind
kind_by c.Letter bs = k.Name
kind_by c.Digit bs = k.Number
kind_by c.White bs = k.White
kind_by c.Single bs = k.Sign
kind_by c.Comparison bs = if begins (is 61) bs then k.Pair else k.Sign
kind_by c.Ampersand bs = if begins (is 38) bs then k.Pair else k.Bad
kind_by c.Bar bs = if begins (is 124) bs then k.Pair else k.Bad
kind_by c.Slash bs = if begins (is 47) bs then k.Comment else k.Sign
kind_by c.Other bs = k.Bad

abbrev pub kind_at : List ℕ → LexemeKind
kind_at [] = k.Bad
kind_at (b ∷ bs) = kind_by (class_of b) bs

abbrev pub len_by : Class → List ℕ → ℕ
len_by c.Letter bs = suc (run_len is_part bs)
len_by c.Digit bs = suc (run_len is_digit bs)
len_by c.White bs = 1
len_by c.Single bs = 1
len_by c.Comparison bs = if begins (is 61) bs then 2 else 1
len_by c.Ampersand bs = if begins (is 38) bs then 2 else 1
len_by c.Bar bs = if begins (is 124) bs then 2 else 1
len_by c.Slash bs = if begins (is 47) bs then suc (run_len is_inside_comment bs) else 1
len_by c.Other bs = 1

abbrev pub len_at : List ℕ → ℕ
len_at [] = 0
len_at (b ∷ bs) = len_by (class_of b) bs
