-- The canonical text of an expression is a text of that expression.
use Rattle.std.proofs.Common.{ℕ, suc, ◌≡◌, ◌≤◌, ◌<◌, true, pos, negsuc, List, [], ◌∷◌, ◌++◌, map, refl, sym, ap, subst, ◌∙◌, arith, zero-le, append_assoc, codes}
use Rattle.loom_tree.specs.declared.expression.Op.TheVariants as o
use Rattle.loom_tree.specs.declared.token.Sign.TheVariants as g
use Rattle.loom_tree.specs.declared.token.TokenKind.TheVariants as t
use Rattle.loom_tree.specs.Token.{Token}
use Rattle.loom_tree.specs.Tree.{Expression, num, var, cell, neg, inverse, bin}
use Rattle.loom_tree.specs.Decimal.{decimal}
use Rattle.loom_lexer.specs.Lexeme.{is, is_letter, is_digit, is_part, BeginsWithout}
use Rattle.loom_lexer.specs.Name.{IsName}
use Rattle.loom_expression.specs.Text.{Text, tokens, tree, prec, HasLevel, nodes, depth, IsWritten}
use Rattle.loom_syntax.specs.File.{Mark, on}
use Rattle.loom_lang.specs.WellFormed.{node_count, HasProperNumbers, IsWellFormed}
use Rattle.loom_lang.specs.Canonical.{operator, operand_text, expression_text}
use Rattle.loom_canonical.proofs.Digits.{AreDigits, decimal_digits}
use Rattle.loom_canonical.proofs.LexemeMarks.{HasMarks, space_marks, stops_digits, name_marks, number_marks, sign_marks, short_sign_marks, operator_marks}

-- the canonical text as it is written

abbrev pub operand_form : Expression → Text → Text
operand_form (bin o a b) w = Text.paren w
operand_form (num n) w = w
operand_form (var x) w = w
operand_form (cell x i) w = w
operand_form (neg a) w = w
operand_form (inverse a) w = w

-- a tree has no negative number
abbrev pub expression_form : Expression → Text
expression_form (num (pos n)) = Text.num n
expression_form (num (negsuc n)) = Text.num 0
expression_form (var x) = Text.var x
expression_form (cell x i) = Text.cell x (expression_form i)
expression_form (neg a) = Text.neg (operand_form a (expression_form a))
expression_form (inverse a) = Text.inverse (operand_form a (expression_form a))
expression_form (bin o a b) = Text.bin o (operand_form a (expression_form a)) (operand_form b (expression_form b))

-- its tree

operand_tree : (e : Expression) (w : Text) → tree (operand_form e w) ≡ tree w
operand_tree (num n) w = refl
operand_tree (var x) w = refl
operand_tree (cell x i) w = refl
operand_tree (neg a) w = refl
operand_tree (inverse a) w = refl
operand_tree (bin o a b) w = refl

pub expression_tree : (e : Expression) → HasProperNumbers e → tree (expression_form e) ≡ e
expression_tree (num (pos n)) h = refl
expression_tree (num (negsuc n)) h = absurd h
expression_tree (var x) h = refl
expression_tree (cell x i) h = ap (λ z. cell x z) (expression_tree i h)
expression_tree (neg a) h = ap neg (operand_tree a (expression_form a) ∙ expression_tree a h)
expression_tree (inverse a) h = ap inverse (operand_tree a (expression_form a) ∙ expression_tree a h)
expression_tree (bin o a b) h =
    ap (λ z. bin o z (tree (operand_form b (expression_form b)))) (operand_tree a (expression_form a) ∙ expression_tree a h.0)
    ∙ ap (λ z. bin o a z) (operand_tree b (expression_form b) ∙ expression_tree b h.1)

-- its levels: an operand binds as tightly as any

operand_level : (e : Expression) (l : ℕ) → HasLevel 0 (expression_form e) → HasLevel l (operand_form e (expression_form e))
operand_level (num (pos n)) l h = tt
operand_level (num (negsuc n)) l h = tt
operand_level (var x) l h = tt
operand_level (cell x i) l h = h
operand_level (neg a) l h = h
operand_level (inverse a) l h = h
operand_level (bin o a b) l h = h

expression_level : (e : Expression) → HasLevel 0 (expression_form e)
expression_level (num (pos n)) = tt
expression_level (num (negsuc n)) = tt
expression_level (var x) = tt
expression_level (cell x i) = expression_level i
expression_level (neg a) = operand_level a 6 (expression_level a)
expression_level (inverse a) = operand_level a 6 (expression_level a)
expression_level (bin o a b) = (zero-le, operand_level a (prec o) (expression_level a), operand_level b (suc (prec o)) (expression_level b))

-- its size

operand_nodes : (e : Expression) (w : Text) → nodes (operand_form e w) ≡ nodes w
operand_nodes (num n) w = refl
operand_nodes (var x) w = refl
operand_nodes (cell x i) w = refl
operand_nodes (neg a) w = refl
operand_nodes (inverse a) w = refl
operand_nodes (bin o a b) w = refl

expression_nodes : (e : Expression) → nodes (expression_form e) ≡ node_count e
expression_nodes (num (pos n)) = refl
expression_nodes (num (negsuc n)) = refl
expression_nodes (var x) = refl
expression_nodes (cell x i) = ap suc (expression_nodes i)
expression_nodes (neg a) = ap suc (operand_nodes a (expression_form a) ∙ expression_nodes a)
expression_nodes (inverse a) = ap suc (operand_nodes a (expression_form a) ∙ expression_nodes a)
expression_nodes (bin o a b) =
    let one : nodes (operand_form a (expression_form a)) ≡ node_count a = operand_nodes a (expression_form a) ∙ expression_nodes a in
    let two : nodes (operand_form b (expression_form b)) ≡ node_count b = operand_nodes b (expression_form b) ∙ expression_nodes b in
    omega arith

-- It nests less deep than it has nodes, also in parentheses.

inner_depth : (e : Expression) (w : Text) → depth w ≤ depth (operand_form e w)
inner_depth (num n) w = omega arith
inner_depth (var x) w = omega arith
inner_depth (cell x i) w = omega arith
inner_depth (neg a) w = omega arith
inner_depth (inverse a) w = omega arith
inner_depth (bin o a b) w = omega arith

operand_depth : (e : Expression) → depth (operand_form e (expression_form e)) < node_count e
operand_depth (num (pos n)) = omega arith
operand_depth (num (negsuc n)) = omega arith
operand_depth (var x) = omega arith
operand_depth (cell x i) = let ih = operand_depth i in let less = inner_depth i (expression_form i) in omega arith
operand_depth (neg a) = let ih = operand_depth a in omega arith
operand_depth (inverse a) = let ih = operand_depth a in omega arith
operand_depth (bin o a b) = let one = operand_depth a in let two = operand_depth b in omega arith

pub expression_written : (e : Expression) → IsWellFormed e → IsWritten (expression_form e)
expression_written e h =
    let size = expression_nodes e in
    let small = h.nodes in
    let nests = operand_depth e in
    let less = inner_depth e (expression_form e) in
    record { level = expression_level e; small = omega arith; nests = omega arith }

-- its tokens

-- Each name in it is one.
abbrev pub HasNames : Expression → Type 0
HasNames (num n) = Unit {0}
HasNames (var x) = IsName x
HasNames (cell x i) = IsName x × HasNames i
HasNames (neg a) = HasNames a
HasNames (inverse a) = HasNames a
HasNames (bin o a b) = HasNames a × HasNames b

-- Wherever the bytes stand, before what isn't part of a name, they have these tokens.
abbrev pub HasTokens : List Token → List ℕ → Type 0
HasTokens us bytes = (line : ℕ) (ts : List Token) (ms : List Mark) (rest : List ℕ) → BeginsWithout is_part rest → HasMarks line (map on ts ++ ms) rest → HasMarks line (map on (us ++ ts) ++ ms) (bytes ++ rest)

-- tokens and bytes in another grouping
pub grouped_tokens : (us vs ts : List Token) (line : ℕ) (ms : List Mark) (bytes : List ℕ) → HasMarks line (map on (us ++ (vs ++ ts)) ++ ms) bytes → HasMarks line (map on ((us ++ vs) ++ ts) ++ ms) bytes
grouped_tokens us vs ts line ms bytes h = let P : List Token → Type 0 = λ z. HasMarks line (map on z ++ ms) bytes in subst P (sym (append_assoc us vs ts)) h

pub two_pieces : (line : ℕ) (ms : List Mark) (a b rest : List ℕ) → HasMarks line ms (a ++ (b ++ rest)) → HasMarks line ms ((a ++ b) ++ rest)
two_pieces line ms a b rest h = subst (λ z. HasMarks line ms z) (sym (append_assoc a b rest)) h

pub three_pieces : (line : ℕ) (ms : List Mark) (a b c rest : List ℕ) → HasMarks line ms (a ++ (b ++ (c ++ rest))) → HasMarks line ms (((a ++ b) ++ c) ++ rest)
three_pieces line ms a b c rest h = two_pieces line ms (a ++ b) c rest (two_pieces line ms a b (c ++ rest) h)

pub four_pieces : (line : ℕ) (ms : List Mark) (a b c d rest : List ℕ) → HasMarks line ms (a ++ (b ++ (c ++ (d ++ rest)))) → HasMarks line ms ((((a ++ b) ++ c) ++ d) ++ rest)
four_pieces line ms a b c d rest h = two_pieces line ms (a ++ b ++ c) d rest (three_pieces line ms a b c (d ++ rest) h)

pub five_pieces : (line : ℕ) (ms : List Mark) (a b c d e rest : List ℕ) → HasMarks line ms (a ++ (b ++ (c ++ (d ++ (e ++ rest))))) → HasMarks line ms (((((a ++ b) ++ c) ++ d) ++ e) ++ rest)
five_pieces line ms a b c d e rest h = two_pieces line ms (a ++ b ++ c ++ d) e rest (four_pieces line ms a b c d (e ++ rest) h)

-- parentheses round a text
pub paren_marks : (us : List Token) (bytes : List ℕ) → HasTokens us bytes → (line : ℕ) (ts : List Token) (ms : List Mark) (rest : List ℕ) → HasMarks line (map on ts ++ ms) rest
    → HasMarks line (map on ((Token.sign g.ParenOpen ∷ us ++ Token.sign g.ParenClose ∷ []) ++ ts) ++ ms) (40 ∷ (bytes ++ 41 ∷ rest))
paren_marks us bytes inner line ts ms rest r =
    let close : HasMarks line (map on (Token.sign g.ParenClose ∷ ts) ++ ms) (41 ∷ rest) = sign_marks 41 (t.Sign g.ParenClose) rest line (map on ts ++ ms) refl refl refl r in
    let middle : HasMarks line (map on (us ++ (Token.sign g.ParenClose ∷ ts)) ++ ms) (bytes ++ (41 ∷ rest)) = inner line (Token.sign g.ParenClose ∷ ts) ms (41 ∷ rest) refl close in
    sign_marks 40 (t.Sign g.ParenOpen) _ line _ refl refl refl (grouped_tokens us (Token.sign g.ParenClose ∷ []) ts line ms _ middle)

paren_tokens : (us : List Token) (bytes : List ℕ) → HasTokens us bytes → HasTokens (Token.sign g.ParenOpen ∷ us ++ Token.sign g.ParenClose ∷ []) (codes "(" ++ bytes ++ codes ")")
paren_tokens us bytes inner line ts ms rest s r = three_pieces line _ (codes "(") bytes (codes ")") rest (paren_marks us bytes inner line ts ms rest r)

operand_tokens : (e : Expression) (w : Text) (bytes : List ℕ) → HasTokens (tokens w) bytes → HasTokens (tokens (operand_form e w)) (operand_text e bytes)
operand_tokens (num n) w bytes h = h
operand_tokens (var x) w bytes h = h
operand_tokens (cell x i) w bytes h = h
operand_tokens (neg a) w bytes h = h
operand_tokens (inverse a) w bytes h = h
operand_tokens (bin o a b) w bytes h = paren_tokens (tokens w) bytes h

-- A text doesn't begin with `=`.

name_begins : (x rest : List ℕ) → IsName x → BeginsWithout (is 61) (x ++ rest)
name_begins [] rest h = absurd h
name_begins (b ∷ bs) rest h = let l : is_letter b ≡ true = h.0 in grind arith

digits_begin : (ds rest : List ℕ) → AreDigits ds → BeginsWithout (is 61) (ds ++ rest)
digits_begin [] rest h = absurd h
digits_begin (b ∷ bs) rest h = let l : is_digit b ≡ true = h.0 in grind arith

operand_begins : (e : Expression) (bytes rest : List ℕ) → BeginsWithout (is 61) (bytes ++ rest) → BeginsWithout (is 61) (operand_text e bytes ++ rest)
operand_begins (num n) bytes rest h = h
operand_begins (var x) bytes rest h = h
operand_begins (cell x i) bytes rest h = h
operand_begins (neg a) bytes rest h = h
operand_begins (inverse a) bytes rest h = h
operand_begins (bin o a b) bytes rest h = refl

grouped_begins : (p : List ℕ → Type 0) (a b rest : List ℕ) → p (a ++ (b ++ rest)) → p ((a ++ b) ++ rest)
grouped_begins p a b rest h = subst p (sym (append_assoc a b rest)) h

expression_begins : (e : Expression) (rest : List ℕ) → HasNames e → HasProperNumbers e → BeginsWithout (is 61) (expression_text e ++ rest)
expression_begins (num (pos n)) rest h k = digits_begin (decimal n) rest (decimal_digits n)
expression_begins (num (negsuc n)) rest h k = absurd k
expression_begins (var x) rest h k = name_begins x rest h
expression_begins (cell x i) rest h k =
    grouped_begins (BeginsWithout (is 61)) (x ++ codes "[" ++ expression_text i) (codes "]") rest
    (grouped_begins (BeginsWithout (is 61)) (x ++ codes "[") (expression_text i) _ (grouped_begins (BeginsWithout (is 61)) x (codes "[") _ (name_begins x _ h.0)))
expression_begins (neg a) rest h k = refl
expression_begins (inverse a) rest h k = refl
expression_begins (bin o a b) rest h k =
    let first : List ℕ = operand_text a (expression_text a) in
    let P : List ℕ → Type 0 = BeginsWithout (is 61) in
    grouped_begins P (first ++ codes " " ++ operator o ++ codes " ") (operand_text b (expression_text b)) rest
    (grouped_begins P (first ++ codes " " ++ operator o) (codes " ") _
    (grouped_begins P (first ++ codes " ") (operator o) _
    (grouped_begins P first (codes " ") _ (operand_begins a (expression_text a) _ (expression_begins a _ h.0 k.0)))))

pub expression_tokens : (e : Expression) → HasNames e → HasProperNumbers e → HasTokens (tokens (expression_form e)) (expression_text e)
expression_tokens (num (pos n)) h k line ts ms rest s r = number_marks n rest line (map on ts ++ ms) k (stops_digits rest s) r
expression_tokens (num (negsuc n)) h k line ts ms rest s r = absurd k
expression_tokens (var x) h k line ts ms rest s r = name_marks x rest line (on (Token.name x)) (map on ts ++ ms) h s refl r
expression_tokens (cell x i) h k line ts ms rest s r =
    let us : List Token = tokens (expression_form i) in
    let close : HasMarks line (map on (Token.sign g.BracketClose ∷ ts) ++ ms) (93 ∷ rest) = sign_marks 93 (t.Sign g.BracketClose) rest line (map on ts ++ ms) refl refl refl r in
    let inner : HasMarks line (map on (us ++ (Token.sign g.BracketClose ∷ ts)) ++ ms) (expression_text i ++ (93 ∷ rest)) = expression_tokens i h.1 k line (Token.sign g.BracketClose ∷ ts) ms (93 ∷ rest) refl close in
    let open_ = sign_marks 91 (t.Sign g.BracketOpen) _ line _ refl refl refl (grouped_tokens us (Token.sign g.BracketClose ∷ []) ts line ms _ inner) in
    four_pieces line _ x (codes "[") (expression_text i) (codes "]") rest (name_marks x _ line (on (Token.name x)) _ h.0 refl refl open_)
expression_tokens (neg a) h k line ts ms rest s r =
    sign_marks 45 (t.Op o.Sub) _ line _ refl refl refl (operand_tokens a (expression_form a) (expression_text a) (expression_tokens a h k) line ts ms rest s r)
expression_tokens (inverse a) h k line ts ms rest s r =
    short_sign_marks 33 (t.Sign g.Bang) _ line _ refl refl refl (operand_begins a (expression_text a) rest (expression_begins a rest h k))
    (operand_tokens a (expression_form a) (expression_text a) (expression_tokens a h k) line ts ms rest s r)
expression_tokens (bin o a b) h k line ts ms rest s r =
    let us : List Token = tokens (operand_form a (expression_form a)) in
    let vs : List Token = tokens (operand_form b (expression_form b)) in
    let second : HasMarks line (map on (vs ++ ts) ++ ms) (operand_text b (expression_text b) ++ rest) =
    operand_tokens b (expression_form b) (expression_text b) (expression_tokens b h.1 k.1) line ts ms rest s r in
    let sign = operator_marks o _ line _ second in
    let first = operand_tokens a (expression_form a) (expression_text a) (expression_tokens a h.0 k.0) line (Token.op o ∷ (vs ++ ts)) ms _ refl (space_marks line _ _ sign) in
    five_pieces line _ (operand_text a (expression_text a)) (codes " ") (operator o) (codes " ") (operand_text b (expression_text b)) rest
    (grouped_tokens us (Token.op o ∷ vs) ts line ms _ first)
