-- What the reader of files keeps: it has read just the tokens that it was given.
use Rattle.std.proofs.Common.{ℕ, suc, ◌<◌, ◌≡◌, List, [], ◌∷◌, ◌++◌, length, Option, Some, None, refl, sym, ap, subst, ◌∙◌, append_assoc, append-nil, IfSome}
use Rattle.std.specs.List.{AllByRecursion, flat_map}
use Rattle.std.proofs.lemmas.Bool.{ltb-true}
use Rattle.std.proofs.lemmas.List.{map-append}
use Rattle.std.proofs.lemmas.Grind.{flat_map-append}
use Rattle.loom_tree.specs.declared.token.Keyword.TheVariants as w
use Rattle.loom_tree.specs.declared.token.Sign.TheVariants as g
use Rattle.loom_tree.specs.Token.{Token, LineToken}
use Rattle.loom_expression.specs.Text.{Text, IsWritten}
use Rattle.loom_expression.specs.Reader as expression
use Rattle.loom_expression.specs.Reader.{after}
use Rattle.loom_syntax.specs.File.{Mark, on, at, FitsMark, FitMarks, Block, ItemForm, declared, func, simple_tokens, test_tokens, declaration_tokens, head_tokens, begun, with_semicolon, in_braces, block_marks, item_marks, block_limit, IsSimple, IsBlock, IsItem}
use Rattle.loom_syntax.specs.Tests.{is_keyword, is_sign}
use Rattle.loom_syntax.specs.Head.{HeadNext, begin_item, head_step}
use Rattle.loom_syntax.specs.Part.{Test, If, While, PartNext, begin_part, part_step}
use Rattle.loom_syntax.specs.FileReader.{Around, Then, Else, Loop, OpenBlock, BlockPosition, Start, AfterIf, ElseBrace, Within, BlockReader, At, BlockNext, Goes, Ends, Header, FileReader, Between, Heading, InFunction, close, room, shut_in, shut, around, parted, statement_step, block_step, headed, insided, feed, feed_all, StatementForm, simple, if_, if_else, while_, chain, written}
use Rattle.loom_syntax.proofs.Choices.{keyword_is, sign_is, choose}
use Rattle.loom_syntax.proofs.HeadSound as in_head
use Rattle.loom_syntax.proofs.PartSound as in_part
use Rattle.loom_syntax.proofs.PartSound.{after_good, all_more, test_word}

-- the marks of what was read

abbrev pub piece_marks : StatementForm → List Mark
piece_marks (simple l s) = begun l (with_semicolon (simple_tokens s))
piece_marks (if_ l e a) = begun l (test_tokens w.If e) ++ in_braces (block_marks a)
piece_marks (if_else l e a b) = begun l (test_tokens w.If e) ++ in_braces (block_marks a) ++ on (Token.word w.Else) ∷ in_braces (block_marks b)
piece_marks (while_ l e a) = begun l (test_tokens w.While e) ++ in_braces (block_marks a)

abbrev pub pieces_marks : List StatementForm → List Mark
pieces_marks ss = flat_map piece_marks ss

abbrev pub around_marks : ℕ → Around Text Block → List Mark
around_marks l (Then e) = begun l (test_tokens w.If e) ++ on (Token.sign g.BraceOpen) ∷ []
around_marks l (Else e a) = begun l (test_tokens w.If e) ++ in_braces (block_marks a) ++ on (Token.word w.Else) ∷ on (Token.sign g.BraceOpen) ∷ []
around_marks l (Loop e) = begun l (test_tokens w.While e) ++ on (Token.sign g.BraceOpen) ∷ []

abbrev pub opens_marks : List (OpenBlock Text StatementForm Block) → List Mark
opens_marks [] = []
opens_marks (o ∷ os) = (opens_marks os ++ pieces_marks o.before) ++ around_marks o.line o.around

abbrev pub point_marks : BlockPosition Text Block → List Mark
point_marks Start = []
point_marks (AfterIf l e a) = begun l (test_tokens w.If e) ++ in_braces (block_marks a)
point_marks (ElseBrace l e a) = begun l (test_tokens w.If e) ++ in_braces (block_marks a) ++ on (Token.word w.Else) ∷ []
point_marks (Within l q) = begun l (in_part.read q)

-- up to the beginning of a statement
abbrev pub before_marks : List (OpenBlock Text StatementForm Block) → List StatementForm → List Mark
before_marks os ss = opens_marks os ++ pieces_marks ss

abbrev pub inside_marks : BlockReader Text StatementForm Block → List Mark
inside_marks (At os ss pt) = before_marks os ss ++ point_marks pt

abbrev pub next_marks : BlockNext Text StatementForm Block → List Mark
next_marks (Goes i) = inside_marks i
next_marks (Ends a) = block_marks a ++ on (Token.sign g.BraceClose) ∷ []

abbrev pub header_marks : Header → List Mark
header_marks f = begun f.line (head_tokens f.name f.params) ++ on (Token.sign g.BraceOpen) ∷ []

abbrev pub items_marks : List ItemForm → List Mark
items_marks is = flat_map item_marks is

abbrev pub read : FileReader Text StatementForm Block ItemForm → List Mark
read (Between is) = items_marks is
read (Heading is l h) = items_marks is ++ begun l (in_head.read h)
read (InFunction is f i) = items_marks is ++ (header_marks f ++ inside_marks i)

-- what is good

abbrev pub Full : List Token → Type 0
Full [] = ⊥
Full (t ∷ ts) = Unit {0}

abbrev pub IsPiece : ℕ → StatementForm → Type 0
IsPiece n (simple l s) = IsSimple s
IsPiece n (if_ l e a) = IsWritten e × (n < block_limit) × IsBlock (suc n) a
IsPiece n (if_else l e a b) = IsWritten e × (n < block_limit) × IsBlock (suc n) a × IsBlock (suc n) b
IsPiece n (while_ l e a) = IsWritten e × (n < block_limit) × IsBlock (suc n) a

abbrev pub GoodAround : ℕ → Around Text Block → Type 0
GoodAround n (Then e) = IsWritten e × (n < block_limit)
GoodAround n (Else e a) = IsWritten e × (n < block_limit) × IsBlock (suc n) a
GoodAround n (Loop e) = IsWritten e × (n < block_limit)

abbrev pub GoodOpens : List (OpenBlock Text StatementForm Block) → Type 0
GoodOpens [] = Unit {0}
GoodOpens (o ∷ os) = GoodAround (suc (length os)) o.around × AllByRecursion (IsPiece (suc (length os))) o.before × GoodOpens os

abbrev pub GoodPoint : ℕ → BlockPosition Text Block → Type 0
GoodPoint n Start = Unit {0}
GoodPoint n (AfterIf l e a) = IsWritten e × (n < block_limit) × IsBlock (suc n) a
GoodPoint n (ElseBrace l e a) = IsWritten e × (n < block_limit) × IsBlock (suc n) a
GoodPoint n (Within l q) = in_part.Good n q × Full (in_part.read q)

abbrev pub GoodInside : BlockReader Text StatementForm Block → Type 0
GoodInside (At os ss pt) = GoodOpens os × AllByRecursion (IsPiece (suc (length os))) ss × GoodPoint (suc (length os)) pt

abbrev pub GoodNext : BlockNext Text StatementForm Block → Type 0
GoodNext (Goes i) = GoodInside i
GoodNext (Ends a) = IsBlock 1 a

abbrev pub GoodReader : FileReader Text StatementForm Block ItemForm → Type 0
GoodReader (Between is) = AllByRecursion IsItem is
GoodReader (Heading is l h) = AllByRecursion IsItem is × in_head.Good h × Full (in_head.read h)
GoodReader (InFunction is f i) = AllByRecursion IsItem is × GoodInside i

-- one token more was read
pub record Adds (before : List Mark) (p : LineToken) (behind : List Mark) : Type 0 where
  pub mark : Mark
  pub fits : FitsMark mark p
  pub is : behind ≡ before ++ mark ∷ []

pub adds_on : (t : Token) (p : LineToken) (before behind : List Mark) → p.token ≡ t → behind ≡ before ++ on t ∷ [] → Adds before p behind
adds_on t p before behind fits is = record { mark = on t; fits = fits; is = is }

pub adds_behind : (front before : List Mark) (p : LineToken) (behind : List Mark) → Adds before p behind → Adds (front ++ before) p (front ++ behind)
adds_behind front before p behind a = record { mark = a.mark; fits = a.fits; is = ap (λ z. front ++ z) a.is ∙ sym (append_assoc front before (a.mark ∷ [])) }

pub adds_from : (before front : List Mark) (p : LineToken) (behind : List Mark) → before ≡ front → Adds before p behind → Adds front p behind
adds_from before front p behind is a = record { mark = a.mark; fits = a.fits; is = a.is ∙ ap (λ z. z ++ a.mark ∷ []) is }

-- tokens of a line

pub full_more : (ts us : List Token) (t : Token) → us ≡ ts ++ t ∷ [] → Full us
full_more [] us t is = subst Full (sym is) tt
full_more (x ∷ ts) us t is = subst Full (sym is) tt

pub begun_more : (l : ℕ) (ts us : List Token) (t : Token) → Full ts → us ≡ ts ++ t ∷ [] → begun l us ≡ begun l ts ++ on t ∷ []
begun_more l [] us t h is = absurd h
begun_more l (x ∷ ts) us t h is = ap (begun l) is ∙ ap (λ z. at l x ∷ z) (map-append on ts (t ∷ []))

pub begun_one : (p : LineToken) (us : List Token) → us ≡ p.token ∷ [] → Adds [] p (begun p.line us)
begun_one p us is = record { mark = at p.line p.token; fits = (refl, refl); is = ap (begun p.line) is }

-- statements, one behind another

pub flat_more : {X : Type 0} (f : X → List Mark) (xs : List X) (x : X) → flat_map f (xs ++ x ∷ []) ≡ flat_map f xs ++ f x
flat_more f xs x = flat_map-append f xs (x ∷ []) ∙ ap (λ z. flat_map f xs ++ z) (append-nil (f x))

pub before_more : (os : List (OpenBlock Text StatementForm Block)) (ss : List StatementForm) (s : StatementForm) → before_marks os (ss ++ s ∷ []) ≡ before_marks os ss ++ piece_marks s
before_more os ss s = ap (λ z. opens_marks os ++ z) (flat_more piece_marks ss s) ∙ sym (append_assoc (opens_marks os) (pieces_marks ss) (piece_marks s))

pub chain_marks : (s : StatementForm) (rest : Block) → block_marks (chain s rest) ≡ piece_marks s ++ block_marks rest
chain_marks (simple l s) rest = refl
chain_marks (if_ l e a) rest = refl
chain_marks (if_else l e a b) rest = refl
chain_marks (while_ l e a) rest = refl

pub chain_good : (n : ℕ) (s : StatementForm) (rest : Block) → IsPiece n s → IsBlock n rest → IsBlock n (chain s rest)
chain_good n (simple l s) rest h k = (h, k)
chain_good n (if_ l e a) rest h k = (h, k)
chain_good n (if_else l e a b) rest h k = (h, k)
chain_good n (while_ l e a) rest h k = (h, k)

pub close_marks : (ss : List StatementForm) → block_marks (close written ss) ≡ pieces_marks ss
close_marks [] = refl
close_marks (s ∷ ss) = chain_marks s (close written ss) ∙ ap (λ z. piece_marks s ++ z) (close_marks ss)

pub close_good : (n : ℕ) (ss : List StatementForm) → AllByRecursion (IsPiece n) ss → IsBlock n (close written ss)
close_good n [] h = tt
close_good n (s ∷ ss) h = chain_good n s (close written ss) h.0 (close_good n ss h.1)

-- the end of a block

-- what is good, where a token was read
abbrev pub Reads : List Mark → LineToken → BlockNext Text StatementForm Block → Type 0
Reads before p n = GoodNext n × Adds before p (next_marks n)

-- how marks group

pub then_shape : (x head before : List Mark) → x ++ (head ++ in_braces before) ≡ ((x ++ (head ++ on (Token.sign g.BraceOpen) ∷ [])) ++ before) ++ on (Token.sign g.BraceClose) ∷ []
then_shape x head before = simp append_assoc

pub else_shape : (x head first before : List Mark)
    → x ++ (head ++ first ++ on (Token.word w.Else) ∷ in_braces before) ≡ ((x ++ (head ++ first ++ on (Token.word w.Else) ∷ on (Token.sign g.BraceOpen) ∷ [])) ++ before) ++ on (Token.sign g.BraceClose) ∷ []
else_shape x head first before = simp append_assoc

pub brace_shape : (x head first : List Mark)
    → x ++ (head ++ first ++ on (Token.word w.Else) ∷ on (Token.sign g.BraceOpen) ∷ []) ≡ (x ++ (head ++ first ++ on (Token.word w.Else) ∷ [])) ++ on (Token.sign g.BraceOpen) ∷ []
brace_shape x head first = simp append_assoc

pub then_marks : (x before : List Mark) (l : ℕ) (e : Text) (a : Block) → block_marks a ≡ before
    → x ++ (begun l (test_tokens w.If e) ++ in_braces (block_marks a)) ≡ ((x ++ around_marks l (Then e)) ++ before) ++ on (Token.sign g.BraceClose) ∷ []
then_marks x before l e a is = ap (λ z. x ++ (begun l (test_tokens w.If e) ++ in_braces z)) is ∙ then_shape x (begun l (test_tokens w.If e)) before

pub else_marks : (x before : List Mark) (l : ℕ) (e : Text) (first a : Block) → block_marks a ≡ before
    → x ++ piece_marks (if_else l e first a) ≡ ((x ++ around_marks l (Else e first)) ++ before) ++ on (Token.sign g.BraceClose) ∷ []
else_marks x before l e first a is = ap (λ z. x ++ (begun l (test_tokens w.If e) ++ in_braces (block_marks first) ++ on (Token.word w.Else) ∷ in_braces z)) is ∙ else_shape x (begun l (test_tokens w.If e)) (in_braces (block_marks first)) before

pub loop_marks : (x before : List Mark) (l : ℕ) (e : Text) (a : Block) → block_marks a ≡ before
    → x ++ piece_marks (while_ l e a) ≡ ((x ++ around_marks l (Loop e)) ++ before) ++ on (Token.sign g.BraceClose) ∷ []
loop_marks x before l e a is = ap (λ z. x ++ (begun l (test_tokens w.While e) ++ in_braces z)) is ∙ then_shape x (begun l (test_tokens w.While e)) before

pub shut_in_good : (a : Block) (inner : List Mark) (l : ℕ) (r : Around Text Block) (ss : List StatementForm) (os : List (OpenBlock Text StatementForm Block)) (p : LineToken) → block_marks a ≡ inner → p.token ≡ Token.sign g.BraceClose
    → IsBlock (suc (suc (length os))) a → GoodAround (suc (length os)) r → AllByRecursion (IsPiece (suc (length os))) ss → GoodOpens os
    → Reads ((before_marks os ss ++ around_marks l r) ++ inner) p (Goes (shut_in written a l r ss os))
shut_in_good a inner l (Then e) ss os p is fits good h all opens =
    ((opens, all, (h.0, h.1, good)), adds_on (Token.sign g.BraceClose) p ((before_marks os ss ++ around_marks l (Then e)) ++ inner) _ fits (then_marks (before_marks os ss) inner l e a is))
shut_in_good a inner l (Else e first) ss os p is fits good h all opens = (
  (opens, all_more (IsPiece (suc (length os))) ss (if_else l e first a) all (h.0, h.1, h.2, good), tt),
  adds_on (Token.sign g.BraceClose) p ((before_marks os ss ++ around_marks l (Else e first)) ++ inner) _ fits
      (append-nil (before_marks os (ss ++ if_else l e first a ∷ [])) ∙ before_more os ss (if_else l e first a) ∙ else_marks (before_marks os ss) inner l e first a is),
)
shut_in_good a inner l (Loop e) ss os p is fits good h all opens = (
  (opens, all_more (IsPiece (suc (length os))) ss (while_ l e a) all (h.0, h.1, good), tt),
  adds_on (Token.sign g.BraceClose) p ((before_marks os ss ++ around_marks l (Loop e)) ++ inner) _ fits
      (append-nil (before_marks os (ss ++ while_ l e a ∷ [])) ∙ before_more os ss (while_ l e a) ∙ loop_marks (before_marks os ss) inner l e a is),
)

pub shut_good : (os : List (OpenBlock Text StatementForm Block)) (ss : List StatementForm) (p : LineToken) → p.token ≡ Token.sign g.BraceClose → GoodOpens os → AllByRecursion (IsPiece (suc (length os))) ss
    → Reads (before_marks os ss) p (shut written (close written ss) os)
shut_good [] ss p fits opens all =
    (close_good 1 ss all, adds_on (Token.sign g.BraceClose) p (pieces_marks ss) _ fits (ap (λ z. z ++ on (Token.sign g.BraceClose) ∷ []) (close_marks ss)))
shut_good (o ∷ os) ss p fits opens all =
    shut_in_good (close written ss) (pieces_marks ss) o.line o.around o.before os p (close_marks ss) fits (close_good (suc (suc (length os))) ss all) opens.0 opens.1 opens.2

pub statement_good : (os : List (OpenBlock Text StatementForm Block)) (ss : List StatementForm) (p : LineToken) → GoodOpens os → AllByRecursion (IsPiece (suc (length os))) ss
    → IfSome (statement_step written os ss p) (Reads (before_marks os ss) p)
statement_good os ss p opens all =
    choose (is_sign g.BraceClose p.token) _ _ (Reads (before_marks os ss) p)
    (λ is. shut_good os ss p (sign_is g.BraceClose p.token is) opens all)
    (λ is. after_good (begin_part (room os) p.token) (λ q. Goes (At os ss (Within p.line q))) (λ q. in_part.Good (suc (length os)) q × (in_part.read q ≡ p.token ∷ [])) (Reads (before_marks os ss) p)
    (in_part.begin_good (suc (length os)) (room os) p.token (λ v. ltb-true (suc (length os)) block_limit v))
    (λ q h. (
      (opens, all, (h.0, full_more [] (in_part.read q) p.token h.1)),
      adds_from (before_marks os ss ++ []) (before_marks os ss) p _ (append-nil (before_marks os ss)) (adds_behind (before_marks os ss) [] p (begun p.line (in_part.read q)) (begun_one p (in_part.read q) h.1)),
    )))

-- a token of a statement

pub around_is : (l : ℕ) (test : Test) (e : Text) → around_marks l (around test e) ≡ begun l (test_tokens (test_word test) e) ++ on (Token.sign g.BraceOpen) ∷ []
around_is l If e = refl
around_is l While e = refl

pub around_good : (n : ℕ) (test : Test) (e : Text) → IsWritten e → n < block_limit → GoodAround n (around test e)
around_good n If e h k = (h, k)
around_good n While e h k = (h, k)

pub parted_good : (os : List (OpenBlock Text StatementForm Block)) (ss : List StatementForm) (l : ℕ) (ts : List Token) (p : LineToken) (n : PartNext Text) → Full ts → GoodOpens os → AllByRecursion (IsPiece (suc (length os))) ss
    → in_part.Reads (suc (length os)) ts p.token n → Reads (before_marks os ss ++ begun l ts) p (Goes (parted written os ss l n))
parted_good os ss l ts p (PartNext.Goes q) full opens all h = (
  (opens, all, (h.0, full_more ts (in_part.read q) p.token h.1)),
  adds_behind (before_marks os ss) (begun l ts) p (begun l (in_part.read q)) (adds_on p.token p (begun l ts) (begun l (in_part.read q)) refl (begun_more l ts (in_part.read q) p.token full h.1)),
)
parted_good os ss l ts p (PartNext.Ends s) full opens all h = (
  (opens, all_more (IsPiece (suc (length os))) ss (simple l s) all h.0, tt),
  adds_on p.token p (before_marks os ss ++ begun l ts) _ refl
      (append-nil (before_marks os (ss ++ simple l s ∷ [])) ∙ before_more os ss (simple l s) ∙ ap (λ z. before_marks os ss ++ z) (begun_more l ts (with_semicolon (simple_tokens s)) p.token full h.1) ∙ sym (append_assoc (before_marks os ss) (begun l ts) (on p.token ∷ []))),
)
parted_good os ss l ts p (PartNext.Opens test e) full opens all h = (
  (((around_good (suc (length os)) test e h.0.0 h.0.1, all, opens)), tt, tt),
  adds_on p.token p (before_marks os ss ++ begun l ts) _ refl
      (append-nil (before_marks (record { line = l; around = around test e; before = ss } ∷ os) []) ∙ append-nil (opens_marks (record { line = l; around = around test e; before = ss } ∷ os))
      ∙ ap (λ z. before_marks os ss ++ z) (around_is l test e ∙ sym (begun_more l (test_tokens (test_word test) e) (test_tokens (test_word test) e ++ Token.sign g.BraceOpen ∷ []) (Token.sign g.BraceOpen) tt refl) ∙ begun_more l ts (test_tokens (test_word test) e ++ Token.sign g.BraceOpen ∷ []) p.token full h.1)
      ∙ sym (append_assoc (before_marks os ss) (begun l ts) (on p.token ∷ []))),
)

-- a token in a function

pub else_good : (os : List (OpenBlock Text StatementForm Block)) (ss : List StatementForm) (l : ℕ) (e : Text) (a : Block) (p : LineToken) → GoodInside (At os ss (AfterIf l e a)) → p.token ≡ Token.word w.Else
    → Reads (inside_marks (At os ss (AfterIf l e a))) p (Goes (At os ss (ElseBrace l e a)))
else_good os ss l e a p h is = (h, adds_on (Token.word w.Else) p (inside_marks (At os ss (AfterIf l e a))) _ is (simp append_assoc))

pub brace_good : (os : List (OpenBlock Text StatementForm Block)) (ss : List StatementForm) (l : ℕ) (e : Text) (a : Block) (p : LineToken) → GoodInside (At os ss (ElseBrace l e a)) → p.token ≡ Token.sign g.BraceOpen
    → Reads (inside_marks (At os ss (ElseBrace l e a))) p (Goes (At (record { line = l; around = Else e a; before = ss } ∷ os) [] Start))
brace_good os ss l e a p h is = (
  ((h.2, h.1, h.0), tt, tt),
  adds_on (Token.sign g.BraceOpen) p (inside_marks (At os ss (ElseBrace l e a))) _ is
      (append-nil (before_marks (record { line = l; around = Else e a; before = ss } ∷ os) []) ∙ append-nil (opens_marks (record { line = l; around = Else e a; before = ss } ∷ os)) ∙ brace_shape (before_marks os ss) (begun l (test_tokens w.If e)) (in_braces (block_marks a))),
)

pub inside_good : (i : BlockReader Text StatementForm Block) (p : LineToken) → GoodInside i → IfSome (block_step written i p) (Reads (inside_marks i) p)
inside_good (At os ss Start) p h =
    subst (λ z. IfSome (statement_step written os ss p) (Reads z p)) (sym (append-nil (before_marks os ss))) (statement_good os ss p h.0 h.1)
inside_good (At os ss (AfterIf l e a)) p h =
    choose (is_keyword w.Else p.token) _ _ (Reads (inside_marks (At os ss (AfterIf l e a))) p)
    (λ is. else_good os ss l e a p h (keyword_is w.Else p.token is))
    (λ is. subst (λ z. IfSome (statement_step written os (ss ++ if_ l e a ∷ []) p) (Reads z p)) (before_more os ss (if_ l e a))
    (statement_good os (ss ++ if_ l e a ∷ []) p h.0 (all_more (IsPiece (suc (length os))) ss (if_ l e a) h.1 h.2)))
inside_good (At os ss (ElseBrace l e a)) p h =
    choose (is_sign g.BraceOpen p.token) _ _ (Reads (inside_marks (At os ss (ElseBrace l e a))) p) (λ is. brace_good os ss l e a p h (sign_is g.BraceOpen p.token is)) (λ is. tt)
inside_good (At os ss (Within l q)) p h =
    after_good (part_step expression.written q p.token) (λ n. Goes (parted written os ss l n)) (in_part.Reads (suc (length os)) (in_part.read q) p.token) (Reads (inside_marks (At os ss (Within l q))) p)
    (in_part.step_good (suc (length os)) q p.token h.2.0) (λ n r. parted_good os ss l (in_part.read q) p n h.2.1 h.0 h.1 r)

-- a token of a file

abbrev pub Leads : List Mark → LineToken → FileReader Text StatementForm Block ItemForm → Type 0
Leads before p s = GoodReader s × Adds before p (read s)

pub headed_good : (is : List ItemForm) (l : ℕ) (ts : List Token) (p : LineToken) (n : HeadNext) → AllByRecursion IsItem is → Full ts → in_head.Reads ts p.token n → Leads (items_marks is ++ begun l ts) p (headed written is l n)
headed_good is l ts p (HeadNext.Goes h) all full r = (
  (all, r.0, full_more ts (in_head.read h) p.token r.1),
  adds_behind (items_marks is) (begun l ts) p (begun l (in_head.read h)) (adds_on p.token p (begun l ts) (begun l (in_head.read h)) refl (begun_more l ts (in_head.read h) p.token full r.1)),
)
headed_good is l ts p (HeadNext.Declares d) all full r = (
  all_more IsItem is (declared l d) all r.0,
  adds_on p.token p (items_marks is ++ begun l ts) _ refl
      (flat_more item_marks is (declared l d) ∙ ap (λ z. items_marks is ++ z) (begun_more l ts (with_semicolon (declaration_tokens d)) p.token full r.1) ∙ sym (append_assoc (items_marks is) (begun l ts) (on p.token ∷ []))),
)
headed_good is l ts p (HeadNext.Begins f params) all full r = (
  (all, (tt, tt, tt)),
  adds_on p.token p (items_marks is ++ begun l ts) _ refl
      (ap (λ z. items_marks is ++ z) (append-nil (header_marks (record { line = l; name = f; params = params })) ∙ sym (begun_more l (head_tokens f params) (head_tokens f params ++ Token.sign g.BraceOpen ∷ []) (Token.sign g.BraceOpen) tt refl) ∙ begun_more l ts (head_tokens f params ++ Token.sign g.BraceOpen ∷ []) p.token full r.1)
      ∙ sym (append_assoc (items_marks is) (begun l ts) (on p.token ∷ []))),
)

pub insided_good : (is : List ItemForm) (f : Header) (before : List Mark) (p : LineToken) (n : BlockNext Text StatementForm Block) → AllByRecursion IsItem is → Reads before p n → Leads (items_marks is ++ (header_marks f ++ before)) p (insided written is f n)
insided_good is f before p (Goes i) all r =
    ((all, r.0), adds_behind (items_marks is) (header_marks f ++ before) p (header_marks f ++ inside_marks i) (adds_behind (header_marks f) before p (inside_marks i) r.1))
insided_good is f before p (Ends a) all r =
    let d = adds_behind (items_marks is) (header_marks f ++ before) p (header_marks f ++ next_marks (Ends a)) (adds_behind (header_marks f) before p (next_marks (Ends a)) r.1) in
    let same : items_marks (is ++ func f.line f.name f.params a ∷ []) ≡ items_marks is ++ (header_marks f ++ next_marks (Ends a)) =
    flat_more item_marks is (func f.line f.name f.params a) ∙ ap (λ z. items_marks is ++ z) (simp append_assoc) in
    (all_more IsItem is (func f.line f.name f.params a) all r.0, record { mark = d.mark; fits = d.fits; is = same ∙ d.is })

-- A step keeps what is good, and reads its token.
pub step_good : (s : FileReader Text StatementForm Block ItemForm) (p : LineToken) → GoodReader s → IfSome (feed written s p) (Leads (read s) p)
step_good (Between is) p h =
    after_good (begin_item p.token) (λ d. Heading is p.line d) (λ d. in_head.Good d × (in_head.read d ≡ p.token ∷ [])) (Leads (items_marks is) p) (in_head.begin_good p.token)
    (λ d r. (
      (h, r.0, full_more [] (in_head.read d) p.token r.1),
      adds_from (items_marks is ++ []) (items_marks is) p _ (append-nil (items_marks is)) (adds_behind (items_marks is) [] p (begun p.line (in_head.read d)) (begun_one p (in_head.read d) r.1)),
    ))
step_good (Heading is l d) p h =
    after_good (head_step d p.token) (λ n. headed written is l n) (in_head.Reads (in_head.read d) p.token) (Leads (read (Heading is l d)) p) (in_head.step_good d p.token h.1) (λ n r. headed_good is l (in_head.read d) p n h.0 h.2 r)
step_good (InFunction is f i) p h =
    after_good (block_step written i p) (λ n. insided written is f n) (Reads (inside_marks i) p) (Leads (read (InFunction is f i)) p) (inside_good i p h.1) (λ n r. insided_good is f (inside_marks i) p n h.0 r)

-- From before the reader comes to s by these tokens.
pub record Comes (before : List Mark) (ps : List LineToken) (s : FileReader Text StatementForm Block ItemForm) : Type 0 where
  pub good : GoodReader s
  pub marks : List Mark
  pub spelled : FitMarks marks ps
  pub is : read s ≡ before ++ marks

pub run_good : (s : FileReader Text StatementForm Block ItemForm) (ps : List LineToken) → GoodReader s → IfSome (feed_all written s ps) (Comes (read s) ps)
run_good s [] h = record { good = h; marks = []; spelled = tt; is = sym (append-nil (read s)) }
run_good s (p ∷ ps) h = go (feed written s p) (step_good s p h) (λ s'. run_good s' ps)
  where
    next : (o : Option (FileReader Text StatementForm Block ItemForm)) (s' : FileReader Text StatementForm Block ItemForm) → Adds (read s) p (read s') → IfSome o (Comes (read s') ps) → IfSome o (Comes (read s) (p ∷ ps))
    next None s' a c = tt
    next (Some s'') s' a c =
        record { good = c.good; marks = a.mark ∷ c.marks; spelled = (a.fits, c.spelled); is = c.is ∙ ap (λ z. z ++ c.marks) a.is ∙ append_assoc (read s) (a.mark ∷ []) c.marks }

    go : (o : Option (FileReader Text StatementForm Block ItemForm)) → IfSome o (Leads (read s) p) → ((s' : FileReader Text StatementForm Block ItemForm) → GoodReader s' → IfSome (feed_all written s' ps) (Comes (read s') ps)) → IfSome (after o (λ s'. feed_all written s' ps)) (Comes (read s) (p ∷ ps))
    go None l more = tt
    go (Some s') l more = next (feed_all written s' ps) s' l.1 (more s' l.0)
