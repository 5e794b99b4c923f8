-- Each good state has an end, and one in which an expression may end stands at one.
use Rattle.std.proofs.Common.{ℕ, ◌≡◌, List, [], ◌∷◌, Option, Some, None, Bool, true, false, nat_eq, if◌then◌else◌, refl, sym, ap, ◌∙◌, arith}
use Rattle.std.proofs.lemmas.Bool.{le-leb, eqb-true}
use Rattle.loom_tree.specs.declared.expression.Op.{Op}
use Rattle.loom_tree.specs.declared.token.Sign.{Sign}
use Rattle.loom_tree.specs.declared.token.Sign.TheVariants as sign
use Rattle.loom_tree.specs.Token.{Token}
use Rattle.loom_expression.specs.Text.{Text, prec}
use Rattle.loom_expression.specs.Reader.{Prefix, Left, Minus, Bang, Open, Index, Size, Phrase, Over, Reader, Want, Named, Have, ExpressionBuilder, unsigned, closed, have, reduce, close_paren, close_bracket, have_sign, feed, after, feed_all, finish_operand, finish, is_whole, written}
use Rattle.loom_expression.proofs.Sound.{calm_of, brackets_in, Good, GoodOperand, GoodReader, Reduced, reduced, size_of, reduce_size, name_good}
use Rattle.loom_expression.proofs.Whole.{again, have_calm, have_brackets, finish_some}

-- what closes the open parentheses and brackets
abbrev pub closers : List (Prefix Text) → List Token
closers [] = []
closers (Left o a ∷ k) = closers k
closers (Minus ∷ k) = closers k
closers (Bang ∷ k) = closers k
closers (Open ∷ k) = Token.sign sign.ParenClose ∷ closers k
closers (Index x ∷ k) = Token.sign sign.BracketClose ∷ closers k

abbrev pub finish_whole : Reader Text → Option Text
finish_whole s = if is_whole s then finish written s else None

abbrev pub ends : Reader Text → List Token → Option Text
ends s ts = after (feed_all written s ts) finish_whole

pub record Done (s : Reader Text) (ts : List Token) : Type 0 where
  pub text : Text
  pub done : ends s ts ≡ Some text

pub left_ends : (o : Op) (a e : Text) (z : Size) (k m : List (Prefix Text)) → ends (Have (Over e z (Left o a ∷ k))) (closers m) ≡ ends (Have (Over (Text.bin o a e) z k)) (closers m)
left_ends o a e z k [] = rw (le-leb 0 (prec o) (omega arith)) refl
left_ends o a e z k (Left q c ∷ m) = left_ends o a e z k m
left_ends o a e z k (Minus ∷ m) = left_ends o a e z k m
left_ends o a e z k (Bang ∷ m) = left_ends o a e z k m
left_ends o a e z k (Open ∷ m) = rw (le-leb 0 (prec o) (omega arith)) refl
left_ends o a e z k (Index x ∷ m) = rw (le-leb 0 (prec o) (omega arith)) refl

pub have_done : (k : List (Prefix Text)) (e : Text) (z : Size) → Good k → z.brackets ≡ brackets_in k → Done (Have (have written e z k)) (closers k)
have_done [] e z g h = record { text = e; done = rw h refl }
have_done (Left o a ∷ k) e z g h =
    let ih = have_done k (Text.bin o a e) z g.2 h in
    record {
      text = ih.text;
      done = left_ends o a e z k k ∙ ap (λ r. ends (Have r) (closers k)) (sym (have_calm (Text.bin o a e) z k (calm_of (prec o) k g.1))) ∙ ih.done;
    }
have_done (Minus ∷ k) e z g h = have_done k (Text.neg e) (unsigned z) g h
have_done (Bang ∷ k) e z g h = have_done k (Text.inverse e) (unsigned z) g h
have_done (Open ∷ k) e z g h =
    let ih = have_done k (Text.paren e) (closed z) g (omega (arith, h)) in
    record { text = ih.text; done = ih.done }
have_done (Index x ∷ k) e z g h =
    let ih = have_done k (Text.cell x e) (closed z) g (omega (arith, h)) in
    record { text = ih.text; done = ih.done }

pub named_ends : (x : List ℕ) (z : Size) (k m : List (Prefix Text)) → ends (Named x z k) (closers m) ≡ ends (Have (have written (Text.var x) z k)) (closers m)
named_ends x z k [] = ended (have written (Text.var x) z k) (have_brackets (Text.var x) z k)
  where
    ended : (r : Phrase Text) → (size_of r).brackets ≡ z.brackets → (if nat_eq z.brackets 0 then finish_operand written r else None) ≡ finish_whole (Have r)
    ended (Over e z' k') is = rw is refl
named_ends x z k (Left q c ∷ m) = named_ends x z k m
named_ends x z k (Minus ∷ m) = named_ends x z k m
named_ends x z k (Bang ∷ m) = named_ends x z k m
named_ends x z k (Open ∷ m) = refl
named_ends x z k (Index y ∷ m) = refl

-- tokens by which an expression is complete
pub record Completion (s : Reader Text) : Type 0 where
  pub more : List Token
  pub text : Text
  pub last : Reader Text
  pub runs : feed_all written s more ≡ Some last
  pub done : finish written last ≡ Some text
  pub whole : is_whole last ≡ true

pub completion_of : (s : Reader Text) (ts : List Token) → Done s ts → Completion s
completion_of s ts d = go (feed_all written s ts) refl d.done
  where
    last : (s' : Reader Text) (v : Bool) → feed_all written s ts ≡ Some s' → is_whole s' ≡ v → (if v then finish written s' else None) ≡ Some d.text → Completion s
    last s' true was whole is = record { more = ts; text = d.text; last = s'; runs = was; done = is; whole = whole }
    last s' false was whole is = cc

    go : (q : Option (Reader Text)) → feed_all written s ts ≡ q → after q finish_whole ≡ Some d.text → Completion s
    go None was is = cc
    go (Some s') was is = last s' (is_whole s') was refl is

-- Each good state has a completion.
pub completion : (s : Reader Text) → GoodReader s → Completion s
completion (Want z k) g =
    let d = have_done k (Text.num 0) z g.stack g.sized.brackets in
    completion_of (Want z k) (Token.num 0 ∷ closers k) (record { text = d.text; done = d.done })
completion (Named x z k) g =
    let d = have_done k (Text.var x) z g.stack g.sized.brackets in
    completion_of (Named x z k) (closers k) (record { text = d.text; done = named_ends x z k k ∙ d.done })
completion (Have (Over e z k)) g =
    let d = have_done k e z g.stack g.sized.brackets in
    completion_of (Have (Over e z k)) (closers k) (record { text = d.text; done = ap (λ r. ends (Have r) (closers k)) (sym (have_calm e z k g.calm)) ∙ d.done })

-- states in which an expression may end

pub record Alone (r : Phrase Text) : Type 0 where
  pub text : Text
  pub size : Size
  pub is : again 0 r ≡ Over text size []

pub reduced_alone : (r q : Phrase Text) → again 0 r ≡ q → Reduced 0 q → (size_of q).brackets ≡ 0 → Alone r
reduced_alone r (Over e z []) is h none = record { text = e; size = z; is = is }
reduced_alone r (Over e z (Left o a ∷ k)) is h none = absurd (omega (arith, h.looser))
reduced_alone r (Over e z (Minus ∷ k)) is h none = absurd h.calm
reduced_alone r (Over e z (Bang ∷ k)) is h none = absurd h.calm
reduced_alone r (Over e z (Open ∷ k)) is h none = absurd (omega (arith, h.sized.brackets, none))
reduced_alone r (Over e z (Index x ∷ k)) is h none = absurd (omega (arith, h.sized.brackets, none))

pub whole_alone : (r : Phrase Text) → GoodOperand r → (size_of r).brackets ≡ 0 → Alone r
whole_alone (Over e z k) g none = reduced_alone (Over e z k) (reduce written 0 e z k) refl (reduced 0 e z k (omega arith) g) (ap (λ (v : Size). v.brackets) (reduce_size 0 e z k) ∙ none)

pub named_alone : (x : List ℕ) (z : Size) (k : List (Prefix Text)) → GoodReader (Named x z k) → is_whole (Named x z k) ≡ true → Alone (have written (Text.var x) z k)
named_alone x z k g is = whole_alone (have written (Text.var x) z k) (name_good x z k g) (have_brackets (Text.var x) z k ∙ eqb-true z.brackets 0 is)

pub have_alone : (r : Phrase Text) → GoodReader (Have r) → is_whole (Have r) ≡ true → Alone r
have_alone (Over e z k) g is = whole_alone (Over e z k) g (eqb-true z.brackets 0 is)

pub record Finishes (s : Reader Text) : Type 0 where
  pub text : Text
  pub is : finish written s ≡ Some text

-- Where an expression may end, one does.
pub whole_finishes : (s : Reader Text) → GoodReader s → is_whole s ≡ true → Finishes s
whole_finishes (Want z k) g is = cc
whole_finishes (Named x z k) g is = let a = named_alone x z k g is in record { text = a.text; is = finish_some (have written (Text.var x) z k) a.text a.size a.is }
whole_finishes (Have r) g is = let a = have_alone r g is in record { text = a.text; is = finish_some r a.text a.size a.is }

-- No parenthesis and no bracket is open there.

pub alone_paren : (r : Phrase Text) → Alone r → have_sign written sign.ParenClose r ≡ None
alone_paren (Over e z k) a = ap (close_paren written) a.is

pub alone_bracket : (r : Phrase Text) → Alone r → have_sign written sign.BracketClose r ≡ None
alone_bracket (Over e z k) a = ap (close_bracket written) a.is

pub whole_paren : (s : Reader Text) → GoodReader s → is_whole s ≡ true → feed written s (Token.sign sign.ParenClose) ≡ None
whole_paren (Want z k) g is = refl
whole_paren (Named x z k) g is = alone_paren (have written (Text.var x) z k) (named_alone x z k g is)
whole_paren (Have r) g is = alone_paren r (have_alone r g is)

pub whole_bracket : (s : Reader Text) → GoodReader s → is_whole s ≡ true → feed written s (Token.sign sign.BracketClose) ≡ None
whole_bracket (Want z k) g is = refl
whole_bracket (Named x z k) g is = alone_bracket (have written (Text.var x) z k) (named_alone x z k g is)
whole_bracket (Have r) g is = alone_bracket r (have_alone r g is)

-- tokens that stand in no expression
abbrev pub IsOutside : Token → Type 0
IsOutside (Token.name x) = ⊥
IsOutside (Token.num n) = ⊥
IsOutside (Token.word w) = Unit {0}
IsOutside (Token.op o) = ⊥
IsOutside (Token.sign sign.BraceOpen) = Unit {0}
IsOutside (Token.sign sign.BraceClose) = Unit {0}
IsOutside (Token.sign sign.Comma) = Unit {0}
IsOutside (Token.sign sign.Semicolon) = Unit {0}
IsOutside (Token.sign sign.Assign) = Unit {0}
IsOutside (Token.sign _) = ⊥
IsOutside Token.bad = Unit {0}

pub outside_sign : {A : Type 0} (b : ExpressionBuilder A) (r : Phrase A) (s : Sign) → IsOutside (Token.sign s) → have_sign b s r ≡ None
outside_sign b (Over e z k) sign.BraceOpen h = refl
outside_sign b (Over e z k) sign.BraceClose h = refl
outside_sign b (Over e z k) sign.Comma h = refl
outside_sign b (Over e z k) sign.Semicolon h = refl
outside_sign b (Over e z k) sign.Assign h = refl
outside_sign b (Over e z k) _ h = absurd h

pub outside_none : {A : Type 0} (b : ExpressionBuilder A) (s : Reader A) (x : Token) → IsOutside x → feed b s x ≡ None
outside_none b (Want z k) (Token.name x) h = absurd h
outside_none b (Want z k) (Token.num n) h = absurd h
outside_none b (Want z k) (Token.word w) h = refl
outside_none b (Want z k) (Token.op o) h = absurd h
outside_none b (Want z k) (Token.sign sign.BraceOpen) h = refl
outside_none b (Want z k) (Token.sign sign.BraceClose) h = refl
outside_none b (Want z k) (Token.sign sign.Comma) h = refl
outside_none b (Want z k) (Token.sign sign.Semicolon) h = refl
outside_none b (Want z k) (Token.sign sign.Assign) h = refl
outside_none b (Want z k) (Token.sign _) h = absurd h
outside_none b (Want z k) Token.bad h = refl
outside_none b (Named x z k) (Token.name y) h = absurd h
outside_none b (Named x z k) (Token.num n) h = absurd h
outside_none b (Named x z k) (Token.word w) h = refl
outside_none b (Named x z k) (Token.op o) h = absurd h
outside_none b (Named x z k) (Token.sign sign.BracketOpen) h = absurd h
outside_none b (Named x z k) (Token.sign s) h = outside_sign b (have b (b.var x) z k) s h
outside_none b (Named x z k) Token.bad h = refl
outside_none b (Have r) (Token.name x) h = absurd h
outside_none b (Have r) (Token.num n) h = absurd h
outside_none b (Have r) (Token.word w) h = refl
outside_none b (Have r) (Token.op o) h = absurd h
outside_none b (Have r) (Token.sign s) h = outside_sign b r s h
outside_none b (Have r) Token.bad h = refl
