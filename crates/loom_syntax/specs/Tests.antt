-- Whether a token is one that may follow.
use Rattle.std.specs.Prelude.{ℕ, nat_eq, List, Option, Some, None, Bool, true, false}
use Rattle.loom_tree.specs.declared.expression.Op.TheVariants as o
use Rattle.loom_tree.specs.declared.token.Keyword.{Keyword}
use Rattle.loom_tree.specs.declared.token.Keyword.TheVariants as w
use Rattle.loom_tree.specs.declared.token.Sign.{Sign}
use Rattle.loom_tree.specs.declared.token.Sign.TheVariants as g
use Rattle.loom_tree.specs.Token.{Token}

-- numbers by which keywords and signs are told apart

abbrev pub keyword_number : Keyword → ℕ
keyword_number w.Shared = 0
keyword_number w.Mutex = 1
keyword_number w.Sema = 2
keyword_number w.Fn = 3
keyword_number w.Let = 4
keyword_number w.If = 5
keyword_number w.Else = 6
keyword_number w.While = 7
keyword_number w.Return = 8
keyword_number w.Lock = 9
keyword_number w.Unlock = 10
keyword_number w.Down = 11
keyword_number w.Up = 12
keyword_number w.Spawn = 13
keyword_number w.Join = 14
keyword_number w.Print = 15
keyword_number w.Skip = 16

abbrev pub sign_number : Sign → ℕ
sign_number g.ParenOpen = 0
sign_number g.ParenClose = 1
sign_number g.BraceOpen = 2
sign_number g.BraceClose = 3
sign_number g.BracketOpen = 4
sign_number g.BracketClose = 5
sign_number g.Comma = 6
sign_number g.Semicolon = 7
sign_number g.Assign = 8
sign_number g.Bang = 9

abbrev pub is_keyword : Keyword → Token → Bool
is_keyword k (Token.name x) = false
is_keyword k (Token.num n) = false
is_keyword k (Token.word w) = nat_eq (keyword_number w) (keyword_number k)
is_keyword k (Token.op o) = false
is_keyword k (Token.sign s) = false
is_keyword k Token.bad = false

abbrev pub is_sign : Sign → Token → Bool
is_sign g (Token.name x) = false
is_sign g (Token.num n) = false
is_sign g (Token.word w) = false
is_sign g (Token.op o) = false
is_sign g (Token.sign s) = nat_eq (sign_number s) (sign_number g)
is_sign g Token.bad = false

abbrev pub is_minus : Token → Bool
is_minus (Token.name x) = false
is_minus (Token.num n) = false
is_minus (Token.word w) = false
is_minus (Token.op o.Sub) = true
is_minus (Token.op _) = false
is_minus (Token.sign s) = false
is_minus Token.bad = false

-- the name that a token is
abbrev pub name_of : Token → Option (List ℕ)
name_of (Token.name x) = Some x
name_of (Token.num n) = None
name_of (Token.word w) = None
name_of (Token.op o) = None
name_of (Token.sign s) = None
name_of Token.bad = None

-- the number that a token is
abbrev pub number_of : Token → Option ℕ
number_of (Token.name x) = None
number_of (Token.num n) = Some n
number_of (Token.word w) = None
number_of (Token.op o) = None
number_of (Token.sign s) = None
number_of Token.bad = None
