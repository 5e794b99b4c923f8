-- What the reader of declarations and of the beginnings of functions keeps.
use Rattle.std.proofs.Common.{ℕ, ◌≡◌, List, [], ◌∷◌, ◌++◌, map, nat_le, refl, sym, ap, ◌∙◌, append_assoc, append-nil, IfSome}
use Rattle.std.proofs.lemmas.Bool.{leb-true}
use Rattle.std.proofs.lemmas.List.{map-append}
use Rattle.loom_tree.specs.declared.expression.Op.TheVariants as o
use Rattle.loom_tree.specs.declared.token.Keyword.TheVariants as w
use Rattle.loom_tree.specs.declared.token.Sign.TheVariants as g
use Rattle.loom_tree.specs.Token.{Token}
use Rattle.loom_syntax.specs.File.{behind_commas, with_commas, declaration_tokens, head_tokens, with_semicolon, IsDeclaration, sema_limit}
use Rattle.loom_syntax.specs.Head.{Head, SharedName, SharedNamed, SharedValue, SharedMinus, SharedCells, SharedClose, MutexName, SemaName, SemaNamed, SemaValue, Ending, FnName, FnOpen, FnFirst, FnParam, FnNext, FnBrace, HeadNext, Goes, Declares, Begins, begin_item, sema_value, head_step}
use Rattle.loom_syntax.proofs.Choices.{choose, if_keyword, if_sign, if_minus, if_name, if_number}

-- lists with commas

-- each part with a comma behind it
abbrev pub before_comma : List (List Token) → List Token
before_comma [] = []
before_comma (part ∷ parts) = part ++ Token.sign g.Comma ∷ before_comma parts

pub commas_more : (parts : List (List Token)) (part : List Token) → with_commas (parts ++ part ∷ []) ≡ before_comma parts ++ part
commas_more [] part = append-nil part
commas_more (p ∷ parts) part = ap (λ z. p ++ z) (go parts) ∙ simp append_assoc
  where
    go : (qs : List (List Token)) → behind_commas (qs ++ part ∷ []) ≡ Token.sign g.Comma ∷ (before_comma qs ++ part)
    go [] = ap (λ z. Token.sign g.Comma ∷ z) (append-nil part)
    go (q ∷ qs) = ap (λ z. Token.sign g.Comma ∷ q ++ z) (go qs) ∙ simp append_assoc

pub before_more : (parts : List (List Token)) (part : List Token) → before_comma (parts ++ part ∷ []) ≡ before_comma parts ++ part ++ Token.sign g.Comma ∷ []
before_more [] part = refl
before_more (p ∷ parts) part = ap (λ z. p ++ Token.sign g.Comma ∷ z) (before_more parts part) ∙ simp append_assoc

-- a comma behind them all
pub commas_end : (p : List Token) (parts : List (List Token)) → before_comma (p ∷ parts) ≡ with_commas (p ∷ parts) ++ Token.sign g.Comma ∷ []
commas_end p [] = sym (ap (λ z. z ++ Token.sign g.Comma ∷ []) (append-nil p))
commas_end p (q ∷ parts) = ap (λ z. p ++ Token.sign g.Comma ∷ z) (commas_end q parts) ∙ simp append_assoc

abbrev pub named : List ℕ → List Token
named x = Token.name x ∷ []

-- `fn`, the name and `(`
abbrev pub opening : List ℕ → List Token
opening f = Token.word w.Fn ∷ Token.name f ∷ Token.sign g.ParenOpen ∷ []

-- the tokens that were read
abbrev pub read : Head → List Token
read SharedName = Token.word w.Shared ∷ []
read (SharedNamed x) = Token.word w.Shared ∷ Token.name x ∷ []
read (SharedValue x) = Token.word w.Shared ∷ Token.name x ∷ Token.sign g.Assign ∷ []
read (SharedMinus x) = Token.word w.Shared ∷ Token.name x ∷ Token.sign g.Assign ∷ Token.op o.Sub ∷ []
read (SharedCells x) = Token.word w.Shared ∷ Token.name x ∷ Token.sign g.BracketOpen ∷ []
read (SharedClose x n) = Token.word w.Shared ∷ Token.name x ∷ Token.sign g.BracketOpen ∷ Token.num n ∷ []
read MutexName = Token.word w.Mutex ∷ []
read SemaName = Token.word w.Sema ∷ []
read (SemaNamed x) = Token.word w.Sema ∷ Token.name x ∷ []
read (SemaValue x) = Token.word w.Sema ∷ Token.name x ∷ Token.sign g.Assign ∷ []
read (Ending d) = declaration_tokens d
read FnName = Token.word w.Fn ∷ []
read (FnOpen f) = Token.word w.Fn ∷ Token.name f ∷ []
read (FnFirst f) = opening f
read (FnParam f params) = opening f ++ before_comma (map named params)
read (FnNext f params) = opening f ++ with_commas (map named params)
read (FnBrace f params) = head_tokens f params

abbrev pub Filled : List (List ℕ) → Type 0
Filled [] = ⊥
Filled (x ∷ xs) = Unit {0}

abbrev pub Good : Head → Type 0
Good (Ending d) = IsDeclaration d
Good (FnNext f params) = Filled params
Good _ = Unit {0}

abbrev pub next_read : HeadNext → List Token
next_read (Goes h) = read h
next_read (Declares d) = with_semicolon (declaration_tokens d)
next_read (Begins f params) = head_tokens f params ++ Token.sign g.BraceOpen ∷ []

abbrev pub GoodNext : HeadNext → Type 0
GoodNext (Goes h) = Good h
GoodNext (Declares d) = IsDeclaration d
GoodNext (Begins f params) = Unit {0}

-- what is good, where the token was read behind ts
abbrev pub Reads : List Token → Token → HeadNext → Type 0
Reads ts t n = GoodNext n × (next_read n ≡ ts ++ t ∷ [])

pub filled : (xs : List (List ℕ)) (x : List ℕ) → Filled (xs ++ x ∷ [])
filled [] x = tt
filled (y ∷ xs) x = tt

pub begin_good : (t : Token) → IfSome (begin_item t) (λ h. Good h × (read h ≡ t ∷ []))
begin_good t =
    if_keyword w.Shared t _ _ (λ t h. Good h × (read h ≡ t ∷ [])) (tt, refl)
    (if_keyword w.Mutex t _ _ (λ t h. Good h × (read h ≡ t ∷ [])) (tt, refl)
    (if_keyword w.Sema t _ _ (λ t h. Good h × (read h ≡ t ∷ [])) (tt, refl)
    (if_keyword w.Fn t _ _ (λ t h. Good h × (read h ≡ t ∷ [])) (tt, refl) tt)))

pub sema_good : (x : List ℕ) (n : ℕ) → IfSome (sema_value x n) (Reads (read (SemaValue x)) (Token.num n))
sema_good x n = choose (nat_le n sema_limit) _ _ (Reads (read (SemaValue x)) (Token.num n)) (λ is. (leb-true n sema_limit is, refl)) (λ is. tt)

pub param_read : (f : List ℕ) (params : List (List ℕ)) (x : List ℕ) → read (FnNext f (params ++ x ∷ [])) ≡ read (FnParam f params) ++ Token.name x ∷ []
param_read f params x = ap (λ z. opening f ++ z) (ap with_commas (map-append named params (x ∷ [])) ∙ commas_more (map named params) (named x))

pub comma_read : (f : List ℕ) (params : List (List ℕ)) → Filled params → read (FnParam f params) ≡ read (FnNext f params) ++ Token.sign g.Comma ∷ []
comma_read f [] h = absurd h
comma_read f (x ∷ params) h = ap (λ z. opening f ++ z) (commas_end (named x) (map named params))

pub step_good : (h : Head) (t : Token) → Good h → IfSome (head_step h t) (Reads (read h) t)
step_good SharedName t ok = if_name t _ (Reads (read SharedName)) (λ x. (tt, refl))
step_good (SharedNamed x) t ok =
    if_sign g.Semicolon t _ _ (Reads (read (SharedNamed x))) (tt, refl)
    (if_sign g.Assign t _ _ (Reads (read (SharedNamed x))) (tt, refl)
    (if_sign g.BracketOpen t _ _ (Reads (read (SharedNamed x))) (tt, refl) tt))
step_good (SharedValue x) t ok =
    if_minus t _ _ (Reads (read (SharedValue x))) (tt, refl)
    (if_number t _ (Reads (read (SharedValue x))) (λ n. (tt, refl)))
step_good (SharedMinus x) t ok = if_number t _ (Reads (read (SharedMinus x))) (λ n. (tt, refl))
step_good (SharedCells x) t ok = if_number t _ (Reads (read (SharedCells x))) (λ n. (tt, refl))
step_good (SharedClose x n) t ok = if_sign g.BracketClose t _ _ (Reads (read (SharedClose x n))) (tt, refl) tt
step_good MutexName t ok = if_name t _ (Reads (read MutexName)) (λ x. (tt, refl))
step_good SemaName t ok = if_name t _ (Reads (read SemaName)) (λ x. (tt, refl))
step_good (SemaNamed x) t ok =
    if_sign g.Semicolon t _ _ (Reads (read (SemaNamed x))) (tt, refl)
    (if_sign g.Assign t _ _ (Reads (read (SemaNamed x))) (tt, refl) tt)
step_good (SemaValue x) t ok = if_number t _ (Reads (read (SemaValue x))) (sema_good x)
step_good (Ending d) t ok = if_sign g.Semicolon t _ _ (Reads (read (Ending d))) (ok, refl) tt
step_good FnName t ok = if_name t _ (Reads (read FnName)) (λ f. (tt, refl))
step_good (FnOpen f) t ok = if_sign g.ParenOpen t _ _ (Reads (read (FnOpen f))) (tt, refl) tt
step_good (FnFirst f) t ok =
    if_sign g.ParenClose t _ _ (Reads (read (FnFirst f))) (tt, refl)
    (if_name t _ (Reads (read (FnFirst f))) (λ x. (tt, refl)))
step_good (FnParam f params) t ok = if_name t _ (Reads (read (FnParam f params))) (λ x. (filled params x, param_read f params x))
step_good (FnNext f params) t ok =
    if_sign g.Comma t _ _ (Reads (read (FnNext f params))) (tt, comma_read f params ok)
    (if_sign g.ParenClose t _ _ (Reads (read (FnNext f params))) (tt, simp append_assoc) tt)
step_good (FnBrace f params) t ok = if_sign g.BraceOpen t _ _ (Reads (read (FnBrace f params))) (tt, refl) tt
