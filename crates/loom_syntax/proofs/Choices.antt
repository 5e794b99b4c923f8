-- What the tests of tokens tell.
use Rattle.std.proofs.Common.{ℕ, ◌≡◌, List, Option, Bool, true, false, nat_eq, if◌then◌else◌, refl, sym, ap, subst, ◌∙◌, IfSome}
use Rattle.std.proofs.lemmas.Bool.{eqb-true}
use Rattle.loom_tree.specs.declared.expression.Op.TheVariants as o
use Rattle.loom_tree.specs.declared.token.Keyword.{Keyword}
use Rattle.loom_tree.specs.declared.token.Keyword.TheVariants as w
use Rattle.loom_tree.specs.declared.token.Sign.{Sign}
use Rattle.loom_tree.specs.declared.token.Sign.TheVariants as g
use Rattle.loom_tree.specs.Token.{Token}
use Rattle.loom_expression.specs.Reader.{after}
use Rattle.loom_syntax.specs.Tests.{keyword_number, sign_number, is_keyword, is_sign, is_minus, name_of, number_of}

-- keywords and signs by their numbers

abbrev pub keyword_at : ℕ → Keyword
keyword_at n =
    if nat_eq n 0 then w.Shared else
    if nat_eq n 1 then w.Mutex else
    if nat_eq n 2 then w.Sema else
    if nat_eq n 3 then w.Fn else
    if nat_eq n 4 then w.Let else
    if nat_eq n 5 then w.If else
    if nat_eq n 6 then w.Else else
    if nat_eq n 7 then w.While else
    if nat_eq n 8 then w.Return else
    if nat_eq n 9 then w.Lock else
    if nat_eq n 10 then w.Unlock else
    if nat_eq n 11 then w.Down else
    if nat_eq n 12 then w.Up else
    if nat_eq n 13 then w.Spawn else
    if nat_eq n 14 then w.Join else
    if nat_eq n 15 then w.Print else w.Skip

pub keyword_back : (k : Keyword) → keyword_at (keyword_number k) ≡ k
keyword_back w.Shared = refl
keyword_back w.Mutex = refl
keyword_back w.Sema = refl
keyword_back w.Fn = refl
keyword_back w.Let = refl
keyword_back w.If = refl
keyword_back w.Else = refl
keyword_back w.While = refl
keyword_back w.Return = refl
keyword_back w.Lock = refl
keyword_back w.Unlock = refl
keyword_back w.Down = refl
keyword_back w.Up = refl
keyword_back w.Spawn = refl
keyword_back w.Join = refl
keyword_back w.Print = refl
keyword_back w.Skip = refl

abbrev pub sign_at : ℕ → Sign
sign_at n =
    if nat_eq n 0 then g.ParenOpen else
    if nat_eq n 1 then g.ParenClose else
    if nat_eq n 2 then g.BraceOpen else
    if nat_eq n 3 then g.BraceClose else
    if nat_eq n 4 then g.BracketOpen else
    if nat_eq n 5 then g.BracketClose else
    if nat_eq n 6 then g.Comma else
    if nat_eq n 7 then g.Semicolon else
    if nat_eq n 8 then g.Assign else g.Bang

pub sign_back : (s : Sign) → sign_at (sign_number s) ≡ s
sign_back g.ParenOpen = refl
sign_back g.ParenClose = refl
sign_back g.BraceOpen = refl
sign_back g.BraceClose = refl
sign_back g.BracketOpen = refl
sign_back g.BracketClose = refl
sign_back g.Comma = refl
sign_back g.Semicolon = refl
sign_back g.Assign = refl
sign_back g.Bang = refl

pub keyword_is : (k : Keyword) (t : Token) → is_keyword k t ≡ true → t ≡ Token.word k
keyword_is k (Token.name x) is = cc
keyword_is k (Token.num n) is = cc
keyword_is k (Token.word w) is = ap Token.word (sym (keyword_back w) ∙ ap keyword_at (eqb-true (keyword_number w) (keyword_number k) is) ∙ keyword_back k)
keyword_is k (Token.op o) is = cc
keyword_is k (Token.sign s) is = cc
keyword_is k Token.bad is = cc

pub sign_is : (g : Sign) (t : Token) → is_sign g t ≡ true → t ≡ Token.sign g
sign_is g (Token.name x) is = cc
sign_is g (Token.num n) is = cc
sign_is g (Token.word w) is = cc
sign_is g (Token.op o) is = cc
sign_is g (Token.sign s) is = ap Token.sign (sym (sign_back s) ∙ ap sign_at (eqb-true (sign_number s) (sign_number g) is) ∙ sign_back g)
sign_is g Token.bad is = cc

pub minus_is : (t : Token) → is_minus t ≡ true → t ≡ Token.op o.Sub
minus_is (Token.name x) is = cc
minus_is (Token.num n) is = cc
minus_is (Token.word w) is = cc
minus_is (Token.op o.Sub) is = refl
minus_is (Token.op _) is = cc
minus_is (Token.sign s) is = cc
minus_is Token.bad is = cc

-- What holds of each branch holds of the chosen one.

pub choose : {N : Type 0} (v : Bool) (x y : Option N) (P : N → Type 0) → (v ≡ true → IfSome x P) → (v ≡ false → IfSome y P) → IfSome (if v then x else y) P
choose true x y P h k = h refl
choose false x y P h k = k refl

pub if_keyword : {N : Type 0} (k : Keyword) (t : Token) (x y : Option N) (P : Token → N → Type 0) → IfSome x (P (Token.word k)) → IfSome y (P t) → IfSome (if is_keyword k t then x else y) (P t)
if_keyword k t x y P h i = choose (is_keyword k t) x y (P t) (λ is. subst (λ z. IfSome x (P z)) (sym (keyword_is k t is)) h) (λ is. i)

pub if_sign : {N : Type 0} (g : Sign) (t : Token) (x y : Option N) (P : Token → N → Type 0) → IfSome x (P (Token.sign g)) → IfSome y (P t) → IfSome (if is_sign g t then x else y) (P t)
if_sign g t x y P h i = choose (is_sign g t) x y (P t) (λ is. subst (λ z. IfSome x (P z)) (sym (sign_is g t is)) h) (λ is. i)

pub if_minus : {N : Type 0} (t : Token) (x y : Option N) (P : Token → N → Type 0) → IfSome x (P (Token.op o.Sub)) → IfSome y (P t) → IfSome (if is_minus t then x else y) (P t)
if_minus t x y P h i = choose (is_minus t) x y (P t) (λ is. subst (λ z. IfSome x (P z)) (sym (minus_is t is)) h) (λ is. i)

pub if_name : {N : Type 0} (t : Token) (f : List ℕ → Option N) (P : Token → N → Type 0) → ((x : List ℕ) → IfSome (f x) (P (Token.name x))) → IfSome (after (name_of t) f) (P t)
if_name (Token.name x) f P h = h x
if_name (Token.num n) f P h = tt
if_name (Token.word w) f P h = tt
if_name (Token.op o) f P h = tt
if_name (Token.sign s) f P h = tt
if_name Token.bad f P h = tt

pub if_number : {N : Type 0} (t : Token) (f : ℕ → Option N) (P : Token → N → Type 0) → ((n : ℕ) → IfSome (f n) (P (Token.num n))) → IfSome (after (number_of t) f) (P t)
if_number (Token.name x) f P h = tt
if_number (Token.num n) f P h = h n
if_number (Token.word w) f P h = tt
if_number (Token.op o) f P h = tt
if_number (Token.sign s) f P h = tt
if_number Token.bad f P h = tt
