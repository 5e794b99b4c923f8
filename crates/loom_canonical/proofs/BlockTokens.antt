-- The canonical text of statements is a text of these statements, with the lines of that text.
use Rattle.std.proofs.Common.{ℕ, suc, ◌+◌, ◌≡◌, List, [], ◌∷◌, ◌++◌, length, map, refl, sym, ap, subst, ◌∙◌, arith, codes, append_assoc, length-append, append-nil}
use Rattle.loom_tree.specs.declared.token.Keyword.{Keyword}
use Rattle.loom_tree.specs.declared.token.Keyword.TheVariants as w
use Rattle.loom_tree.specs.declared.token.Sign.TheVariants as g
use Rattle.loom_tree.specs.declared.token.TokenKind.TheVariants as t
use Rattle.loom_tree.specs.Token.{Token}
use Rattle.loom_tree.specs.Tree.{Expression, Body, end, simple, if_, while_}
use Rattle.loom_tree.specs.Lines.{ended}
use Rattle.loom_lexer.specs.Tokens.{spelling}
use Rattle.loom_expression.specs.Text as expression
use Rattle.loom_expression.specs.Text.{Text, tokens, IsWritten}
use Rattle.loom_syntax.specs.File.{Mark, on, at, Block, simple_tokens, with_semicolon, test_tokens, begun, in_braces, block_marks, IsBlock, block_tree}
use Rattle.loom_lang.specs.WellFormed.{IsWellFormed, IsWellFormedBlock}
use Rattle.loom_lang.specs.Canonical.{expression_text, simple_text, indented, else_lines, body_text_lines, height, body_from}
use Rattle.loom_canonical.proofs.LexemeMarks.{HasMarks, space_marks, line_marks, indent_marks, word_marks, sign_marks}
use Rattle.loom_canonical.proofs.ExpressionTokens.{expression_form, expression_tree, expression_written, HasNames, three_pieces, paren_marks, expression_tokens}
use Rattle.loom_canonical.proofs.StatementTokens.{simple_form, HasStatementNames, statement_tree, statement_written, statement_marks}

-- the text as it is written, where it begins on this line: an empty `else` is left out
abbrev pub block_form : ℕ → Body → Block
block_form line end = Block.end
block_form line (simple l s rest) = Block.simple line (simple_form s) (block_form (suc line) rest)
block_form line (if_ l e a end rest) = Block.if_ line (expression_form e) (block_form (suc line) a) (block_form (line + height a + 2) rest)
block_form line (if_ l e a b rest) =
    Block.if_else line (expression_form e) (block_form (suc line) a) (block_form (line + height a + 2) b) (block_form (line + height a + height b + 3) rest)
block_form line (while_ l e a rest) = Block.while_ line (expression_form e) (block_form (suc line) a) (block_form (line + height a + 2) rest)

-- Each name in it is one.
abbrev pub HasBodyNames : Body → Type 0
HasBodyNames end = Unit {0}
HasBodyNames (simple l s rest) = HasStatementNames s × HasBodyNames rest
HasBodyNames (if_ l e a b rest) = HasNames e × HasBodyNames a × HasBodyNames b × HasBodyNames rest
HasBodyNames (while_ l e a rest) = HasNames e × HasBodyNames a × HasBodyNames rest

-- its tree

abbrev pub HasTree : Body → Type 0
HasTree b = (n line : ℕ) → IsWellFormedBlock n b → block_tree (block_form line b) ≡ body_from line b

if_trees : (line : ℕ) (e : Expression) (w : Text) (a b rest a' b' rest' : Body) → expression.tree w ≡ e → a ≡ a' → b ≡ b' → rest ≡ rest' → if_ line (expression.tree w) a b rest ≡ if_ line e a' b' rest'
if_trees line e w a b rest a' b' rest' h i j k = cc

if_tree : (l : ℕ) (e : Expression) (a b rest : Body) → HasTree a → HasTree b → HasTree rest → HasTree (if_ l e a b rest)
if_tree l e a end rest f g h n line k =
    if_trees line e (expression_form e) _ _ _ _ _ _ (expression_tree e k.0.0.numbers) (f (suc n) (suc line) k.0.2) refl (h n (line + height a + 2) k.1)
if_tree l e a (simple m s c) rest f g h n line k =
    let b = simple m s c in
    if_trees line e (expression_form e) _ _ _ _ _ _ (expression_tree e k.0.0.numbers) (f (suc n) (suc line) k.0.2) (g (suc n) (line + height a + 2) k.0.3) (h n (line + height a + height b + 3) k.1)
if_tree l e a (if_ m i c d more) rest f g h n line k =
    let b = if_ m i c d more in
    if_trees line e (expression_form e) _ _ _ _ _ _ (expression_tree e k.0.0.numbers) (f (suc n) (suc line) k.0.2) (g (suc n) (line + height a + 2) k.0.3) (h n (line + height a + height b + 3) k.1)
if_tree l e a (while_ m i c more) rest f g h n line k =
    let b = while_ m i c more in
    if_trees line e (expression_form e) _ _ _ _ _ _ (expression_tree e k.0.0.numbers) (f (suc n) (suc line) k.0.2) (g (suc n) (line + height a + 2) k.0.3) (h n (line + height a + height b + 3) k.1)

while_trees : (line : ℕ) (e : Expression) (w : Text) (a rest a' rest' : Body) → expression.tree w ≡ e → a ≡ a' → rest ≡ rest' → while_ line (expression.tree w) a rest ≡ while_ line e a' rest'
while_trees line e w a rest a' rest' h i k = cc

pub body_tree : (b : Body) → HasTree b
body_tree end n line h = refl
body_tree (simple l s rest) n line h =
    ap (λ z. simple line z (block_tree (block_form (suc line) rest))) (statement_tree s h.0) ∙ ap (λ z. simple line s z) (body_tree rest n (suc line) h.1)
body_tree (if_ l e a b rest) n line h = if_tree l e a b rest (body_tree a) (body_tree b) (body_tree rest) n line h
body_tree (while_ l e a rest) n line h =
    while_trees line e (expression_form e) _ _ _ _ (expression_tree e h.0.0.numbers) (body_tree a (suc n) (suc line) h.0.2) (body_tree rest n (line + height a + 2) h.1)

-- It is written by the rules.

abbrev pub HasRules : Body → Type 0
HasRules b = (n line : ℕ) → IsWellFormedBlock n b → IsBlock n (block_form line b)

if_rules : (l : ℕ) (e : Expression) (a b rest : Body) → HasRules a → HasRules b → HasRules rest → HasRules (if_ l e a b rest)
if_rules l e a end rest f g h n line k = ((expression_written e k.0.0, k.0.1, f (suc n) (suc line) k.0.2), h n (line + height a + 2) k.1)
if_rules l e a (simple m s c) rest f g h n line k =
    let b = simple m s c in
    ((expression_written e k.0.0, k.0.1, f (suc n) (suc line) k.0.2, g (suc n) (line + height a + 2) k.0.3), h n (line + height a + height b + 3) k.1)
if_rules l e a (if_ m i c d more) rest f g h n line k =
    let b = if_ m i c d more in
    ((expression_written e k.0.0, k.0.1, f (suc n) (suc line) k.0.2, g (suc n) (line + height a + 2) k.0.3), h n (line + height a + height b + 3) k.1)
if_rules l e a (while_ m i c more) rest f g h n line k =
    let b = while_ m i c more in
    ((expression_written e k.0.0, k.0.1, f (suc n) (suc line) k.0.2, g (suc n) (line + height a + 2) k.0.3), h n (line + height a + height b + 3) k.1)

pub body_rules : (b : Body) → HasRules b
body_rules end n line h = tt
body_rules (simple l s rest) n line h = (statement_written s h.0, body_rules rest n (suc line) h.1)
body_rules (if_ l e a b rest) n line h = if_rules l e a b rest (body_rules a) (body_rules b) (body_rules rest) n line h
body_rules (while_ l e a rest) n line h = ((expression_written e h.0.0, h.0.1, body_rules a (suc n) (suc line) h.0.2), body_rules rest n (line + height a + 2) h.1)

-- How many lines statements take: the blocks round them don't matter.

else_length : (n m : ℕ) (b : Body) (xs ys : List (List ℕ)) → length xs ≡ length ys → length (else_lines n b xs) ≡ length (else_lines m b ys)
else_length n m end xs ys h = refl
else_length n m (simple l s rest) xs ys h = ap suc h
else_length n m (if_ l e a b rest) xs ys h = ap suc h
else_length n m (while_ l e a rest) xs ys h = ap suc h

same_length : (n m : ℕ) (b : Body) → length (body_text_lines n b) ≡ length (body_text_lines m b)
same_length n m end = refl
same_length n m (simple l s rest) = ap suc (same_length n m rest)
same_length n m (if_ l e a b rest) =
    let one = same_length (suc n) (suc m) a in
    let two = else_length n m b (body_text_lines (suc n) b) (body_text_lines (suc m) b) (same_length (suc n) (suc m) b) in
    let three = same_length n m rest in
    omega (arith, length-append {A = List ℕ})
same_length n m (while_ l e a rest) =
    let one = same_length (suc n) (suc m) a in
    let three = same_length n m rest in
    omega (arith, length-append {A = List ℕ})

pub height_at : (n : ℕ) (b : Body) → length (body_text_lines n b) ≡ height b
height_at n b = same_length n 0 b

pub if_height : (l : ℕ) (e : Expression) (a rest : Body) → height (if_ l e a end rest) ≡ height a + height rest + 2
if_height l e a rest =
    let one = height_at 1 a in
    omega (arith, length-append {A = List ℕ})

pub else_height : (l : ℕ) (e : Expression) (a b rest : Body) → ((xs : List (List ℕ)) → length (else_lines 0 b xs) ≡ suc (length xs)) → height (if_ l e a b rest) ≡ height a + height b + height rest + 3
else_height l e a b rest h =
    let one = height_at 1 a in
    let two = height_at 1 b in
    let three = h (body_text_lines 1 b) in
    omega (arith, length-append {A = List ℕ})

pub while_height : (l : ℕ) (e : Expression) (a rest : Body) → height (while_ l e a rest) ≡ height a + height rest + 2
while_height l e a rest =
    let one = height_at 1 a in
    omega (arith, length-append {A = List ℕ})

-- its tokens

-- Lines of a text, from this line to that one, have the tokens of the statements.
abbrev pub HasBlockMarks : ℕ → ℕ → Block → List (List ℕ) → Type 0
HasBlockMarks line next block lines = (ms : List Mark) (rest : List (List ℕ)) → HasMarks next ms (ended rest) → HasMarks line (block_marks block ++ ms) (ended (lines ++ rest))

-- marks in another grouping
pub grouped_marks : (xs ys ms : List Mark) (line : ℕ) (bytes : List ℕ) → HasMarks line (xs ++ (ys ++ ms)) bytes → HasMarks line ((xs ++ ys) ++ ms) bytes
grouped_marks xs ys ms line bytes h = subst (λ z. HasMarks line z bytes) (sym (append_assoc xs ys ms)) h

grouped_lines : (xs ys rest : List (List ℕ)) (line : ℕ) (ms : List Mark) → HasMarks line ms (ended (xs ++ (ys ++ rest))) → HasMarks line ms (ended ((xs ++ ys) ++ rest))
grouped_lines xs ys rest line ms h = subst (λ z. HasMarks line ms (ended z)) (sym (append_assoc xs ys rest)) h

-- `if (e) {` or `while (e) {`
test_marks : (word : Keyword) (e : Expression) → HasNames e → IsWellFormed e → (line : ℕ) (ms : List Mark) (rest : List ℕ) → HasMarks (suc line) ms rest
    → HasMarks line (begun line (test_tokens word (expression_form e)) ++ (on (Token.sign g.BraceOpen) ∷ ms)) (spelling word ++ (32 ∷ 40 ∷ (expression_text e ++ 41 ∷ 32 ∷ 123 ∷ 10 ∷ rest)))
test_marks word e h k line ms rest r =
    let us : List Token = tokens (expression_form e) in
    let brace = space_marks line _ _ (sign_marks 123 (t.Sign g.BraceOpen) _ line _ refl refl refl (line_marks line (suc line) ms rest refl r)) in
    let parens = paren_marks us (expression_text e) (expression_tokens e h k.numbers) line [] (on (Token.sign g.BraceOpen) ∷ ms) (32 ∷ 123 ∷ 10 ∷ rest) brace in
    let P : List Token → Type 0 = λ z. HasMarks line (map on z ++ (on (Token.sign g.BraceOpen) ∷ ms)) (40 ∷ (expression_text e ++ 41 ∷ 32 ∷ 123 ∷ 10 ∷ rest)) in
    word_marks word _ line (at line (Token.word word)) _ refl (refl, refl) (space_marks line _ _ (subst P (append-nil (Token.sign g.ParenOpen ∷ us ++ Token.sign g.ParenClose ∷ [])) parens))

-- a brace on a line of its own
pub close_marks : (n line next : ℕ) (ms : List Mark) (rest : List ℕ) → next ≡ suc line → HasMarks next ms rest → HasMarks line (on (Token.sign g.BraceClose) ∷ ms) (indented n (codes "}") ++ 10 ∷ rest)
close_marks n line next ms rest e r = indent_marks n line _ (codes "}") (10 ∷ rest) (sign_marks 125 (t.Sign g.BraceClose) _ line _ refl refl refl (line_marks line next ms rest e r))

-- a test, a block and what is behind it
braces_marks : (word : Keyword) (e : Expression) (n line last next : ℕ) (a : Block) (lines : List (List ℕ)) → HasNames e → IsWellFormed e → HasBlockMarks (suc line) last a lines → next ≡ suc last
    → (ms : List Mark) (rest : List (List ℕ)) → HasMarks next ms (ended rest)
    → HasMarks line (begun line (test_tokens word (expression_form e)) ++ (on (Token.sign g.BraceOpen) ∷ (block_marks a ++ (on (Token.sign g.BraceClose) ∷ ms))))
    (spelling word ++ (32 ∷ 40 ∷ (expression_text e ++ 41 ∷ 32 ∷ 123 ∷ 10 ∷ ended (lines ++ (indented n (codes "}") ∷ rest)))))
braces_marks word e n line last next a lines h k inner eq ms rest r =
    let close = close_marks n last next ms (ended rest) eq r in
    test_marks word e h k line _ _ (inner (on (Token.sign g.BraceClose) ∷ ms) (indented n (codes "}") ∷ rest) close)

abbrev pub begin_brace : Mark
begin_brace = on (Token.sign g.BraceOpen)

abbrev pub end_brace : Mark
end_brace = on (Token.sign g.BraceClose)

braces_grouped : (h a r ms : List Mark) → ((h ++ in_braces a) ++ r) ++ ms ≡ h ++ (begin_brace ∷ (a ++ (end_brace ∷ (r ++ ms))))
braces_grouped h a r ms = simp append_assoc

five_grouped : (h x y r ms : List Mark) → (((h ++ x) ++ y) ++ r) ++ ms ≡ h ++ (x ++ (y ++ (r ++ ms)))
five_grouped h x y r ms = simp append_assoc

else_grouped : (h a b r ms : List Mark) → (((h ++ in_braces a) ++ (on (Token.word w.Else) ∷ in_braces b)) ++ r) ++ ms ≡ h ++ (begin_brace ∷ (a ++ (end_brace ∷ on (Token.word w.Else) ∷ begin_brace ∷ (b ++ (end_brace ∷ (r ++ ms))))))
else_grouped h a b r ms =
    five_grouped h (in_braces a) (on (Token.word w.Else) ∷ in_braces b) r ms
    ∙ ap (λ z. h ++ (begin_brace ∷ z)) (append_assoc a (end_brace ∷ []) (on (Token.word w.Else) ∷ (in_braces b ++ (r ++ ms))))
    ∙ ap (λ z. h ++ (begin_brace ∷ (a ++ (end_brace ∷ on (Token.word w.Else) ∷ begin_brace ∷ z)))) (append_assoc b (end_brace ∷ []) (r ++ ms))

pub lines_grouped : (a r rest : List (List ℕ)) (x : List ℕ) → (a ++ (x ∷ r)) ++ rest ≡ a ++ (x ∷ (r ++ rest))
lines_grouped a r rest x = simp append_assoc

else_lines_grouped : (a b r rest : List (List ℕ)) (x y : List ℕ) → (a ++ (x ∷ (b ++ (y ∷ r)))) ++ rest ≡ a ++ (x ∷ (b ++ (y ∷ (r ++ rest))))
else_lines_grouped a b r rest x y = simp append_assoc

-- the same with its lines as they stand
block_marks_of : (word : Keyword) (e : Expression) (n line last at_rest next : ℕ) (a r : Block) (xs ys : List (List ℕ)) → HasNames e → IsWellFormed e → HasBlockMarks (suc line) last a xs → at_rest ≡ suc last → HasBlockMarks at_rest next r ys
    → (ms : List Mark) (rest : List (List ℕ)) → HasMarks next ms (ended rest)
    → HasMarks line (((begun line (test_tokens word (expression_form e)) ++ in_braces (block_marks a)) ++ block_marks r) ++ ms)
    (spelling word ++ (32 ∷ 40 ∷ (expression_text e ++ 41 ∷ 32 ∷ 123 ∷ 10 ∷ ended ((xs ++ (indented n (codes "}") ∷ ys)) ++ rest))))
block_marks_of word e n line last at_rest next a r xs ys h k inner eq behind ms rest tail =
    let head : List Mark = begun line (test_tokens word (expression_form e)) in
    let close : List ℕ = indented n (codes "}") in
    let whole = braces_marks word e n line last at_rest a xs h k inner eq (block_marks r ++ ms) (ys ++ rest) (behind ms rest tail) in
    let P : List (List ℕ) → Type 0 = λ z. HasMarks line (head ++ (begin_brace ∷ (block_marks a ++ (end_brace ∷ (block_marks r ++ ms))))) (spelling word ++ (32 ∷ 40 ∷ (expression_text e ++ 41 ∷ 32 ∷ 123 ∷ 10 ∷ ended z))) in
    let Q : List Mark → Type 0 = λ z. HasMarks line z (spelling word ++ (32 ∷ 40 ∷ (expression_text e ++ 41 ∷ 32 ∷ 123 ∷ 10 ∷ ended ((xs ++ (close ∷ ys)) ++ rest)))) in
    subst Q (sym (braces_grouped head (block_marks a) (block_marks r) ms)) (subst P (sym (lines_grouped xs ys rest close)) whole)

if_marks : (e : Expression) (n line last at_rest next : ℕ) (a r : Block) (xs ys : List (List ℕ)) → HasNames e → IsWellFormed e → HasBlockMarks (suc line) last a xs → at_rest ≡ suc last → HasBlockMarks at_rest next r ys
    → HasBlockMarks line next (Block.if_ line (expression_form e) a r) (indented n (codes "if (" ++ expression_text e ++ codes ") {") ∷ (xs ++ (indented n (codes "}") ∷ ys)))
if_marks e n line last at_rest next a r xs ys h k inner eq behind ms rest tail =
    let whole = block_marks_of w.If e n line last at_rest next a r xs ys h k inner eq behind ms rest tail in
    indent_marks n line _ (codes "if (" ++ expression_text e ++ codes ") {") _ (three_pieces line _ (codes "if (") (expression_text e) (codes ") {") _ whole)

while_marks : (e : Expression) (n line last at_rest next : ℕ) (a r : Block) (xs ys : List (List ℕ)) → HasNames e → IsWellFormed e → HasBlockMarks (suc line) last a xs → at_rest ≡ suc last → HasBlockMarks at_rest next r ys
    → HasBlockMarks line next (Block.while_ line (expression_form e) a r) (indented n (codes "while (" ++ expression_text e ++ codes ") {") ∷ (xs ++ (indented n (codes "}") ∷ ys)))
while_marks e n line last at_rest next a r xs ys h k inner eq behind ms rest tail =
    let whole = block_marks_of w.While e n line last at_rest next a r xs ys h k inner eq behind ms rest tail in
    indent_marks n line _ (codes "while (" ++ expression_text e ++ codes ") {") _ (three_pieces line _ (codes "while (") (expression_text e) (codes ") {") _ whole)

-- `} else {`
else_marks : (n line next : ℕ) (ms : List Mark) (rest : List ℕ) → next ≡ suc line → HasMarks next ms rest → HasMarks line (end_brace ∷ on (Token.word w.Else) ∷ begin_brace ∷ ms) (indented n (codes "} else {") ++ 10 ∷ rest)
else_marks n line next ms rest e r =
    let brace = space_marks line _ _ (sign_marks 123 (t.Sign g.BraceOpen) _ line _ refl refl refl (line_marks line next ms rest e r)) in
    let word = space_marks line _ _ (word_marks w.Else _ line (on (Token.word w.Else)) _ refl refl brace) in
    indent_marks n line _ (codes "} else {") (10 ∷ rest) (sign_marks 125 (t.Sign g.BraceClose) _ line _ refl refl refl word)

if_else_marks : (e : Expression) (n line last at_else last_else at_rest next : ℕ) (a b r : Block) (xs ys zs : List (List ℕ)) → HasNames e → IsWellFormed e
    → HasBlockMarks (suc line) last a xs → at_else ≡ suc last → HasBlockMarks at_else last_else b ys → at_rest ≡ suc last_else → HasBlockMarks at_rest next r zs
    → HasBlockMarks line next (Block.if_else line (expression_form e) a b r) (indented n (codes "if (" ++ expression_text e ++ codes ") {") ∷ (xs ++ (indented n (codes "} else {") ∷ (ys ++ (indented n (codes "}") ∷ zs)))))
if_else_marks e n line last at_else last_else at_rest next a b r xs ys zs h k inner eq other eq' behind ms rest tail =
    let head : List Mark = begun line (test_tokens w.If (expression_form e)) in
    let text : List ℕ = codes "if (" ++ expression_text e ++ codes ") {" in
    let middle : List ℕ = indented n (codes "} else {") in
    let close : List ℕ = indented n (codes "}") in
    let last_part = close_marks n last_else at_rest _ _ eq' (behind ms rest tail) in
    let second = other (end_brace ∷ (block_marks r ++ ms)) (close ∷ (zs ++ rest)) last_part in
    let first = inner _ (middle ∷ (ys ++ (close ∷ (zs ++ rest)))) (else_marks n last at_else _ _ eq second) in
    let whole = indent_marks n line _ text _ (three_pieces line _ (codes "if (") (expression_text e) (codes ") {") _ (test_marks w.If e h k line _ _ first)) in
    let P : List (List ℕ) → Type 0 = λ z. HasMarks line (head ++ (begin_brace ∷ (block_marks a ++ (end_brace ∷ on (Token.word w.Else) ∷ begin_brace ∷ (block_marks b ++ (end_brace ∷ (block_marks r ++ ms))))))) (indented n text ++ 10 ∷ ended z) in
    let Q : List Mark → Type 0 = λ z. HasMarks line z (indented n text ++ 10 ∷ ended ((xs ++ (middle ∷ (ys ++ (close ∷ zs)))) ++ rest)) in
    subst Q (sym (else_grouped head (block_marks a) (block_marks b) (block_marks r) ms)) (subst P (sym (else_lines_grouped xs ys zs rest middle close)) whole)

-- the lines of statements, from this line to that one
abbrev pub HasBodyMarks : Body → Type 0
HasBodyMarks b = (n d line next : ℕ) → next ≡ line + height b → HasBodyNames b → IsWellFormedBlock d b → HasBlockMarks line next (block_form line b) (body_text_lines n b)

if_body_marks : (l : ℕ) (e : Expression) (a b rest : Body) → HasBodyMarks a → HasBodyMarks b → HasBodyMarks rest → HasBodyMarks (if_ l e a b rest)
if_body_marks l e a end rest f g h n d line next eq names form =
    let size = if_height l e a rest in
    if_marks e n line (suc line + height a) (line + height a + 2) next (block_form (suc line) a) (block_form (line + height a + 2) rest) (body_text_lines (suc n) a) (body_text_lines n rest) names.0 form.0.0 (f (suc n) (suc d) (suc line) (suc line + height a) refl names.1 form.0.2) (omega arith)
    (h n d (line + height a + 2) next (omega arith) names.3 form.1)
if_body_marks l e a (simple m s c) rest f g h n d line next eq names form =
    let b = simple m s c in
    let size = else_height l e a b rest (λ xs. refl) in
    if_else_marks e n line (suc line + height a) (line + height a + 2) (line + height a + 2 + height b) (line + height a + height b + 3) next (block_form (suc line) a) (block_form (line + height a + 2) b) (block_form (line + height a + height b + 3) rest)
    (body_text_lines (suc n) a) (body_text_lines (suc n) b) (body_text_lines n rest) names.0 form.0.0
    (f (suc n) (suc d) (suc line) (suc line + height a) refl names.1 form.0.2) (omega arith)
    (g (suc n) (suc d) (line + height a + 2) (line + height a + 2 + height b) refl names.2 form.0.3) (omega arith)
    (h n d (line + height a + height b + 3) next (omega arith) names.3 form.1)
if_body_marks l e a (if_ m i c p more) rest f g h n d line next eq names form =
    let b = if_ m i c p more in
    let size = else_height l e a b rest (λ xs. refl) in
    if_else_marks e n line (suc line + height a) (line + height a + 2) (line + height a + 2 + height b) (line + height a + height b + 3) next (block_form (suc line) a) (block_form (line + height a + 2) b) (block_form (line + height a + height b + 3) rest)
    (body_text_lines (suc n) a) (body_text_lines (suc n) b) (body_text_lines n rest) names.0 form.0.0
    (f (suc n) (suc d) (suc line) (suc line + height a) refl names.1 form.0.2) (omega arith)
    (g (suc n) (suc d) (line + height a + 2) (line + height a + 2 + height b) refl names.2 form.0.3) (omega arith)
    (h n d (line + height a + height b + 3) next (omega arith) names.3 form.1)
if_body_marks l e a (while_ m i c more) rest f g h n d line next eq names form =
    let b = while_ m i c more in
    let size = else_height l e a b rest (λ xs. refl) in
    if_else_marks e n line (suc line + height a) (line + height a + 2) (line + height a + 2 + height b) (line + height a + height b + 3) next (block_form (suc line) a) (block_form (line + height a + 2) b) (block_form (line + height a + height b + 3) rest)
    (body_text_lines (suc n) a) (body_text_lines (suc n) b) (body_text_lines n rest) names.0 form.0.0
    (f (suc n) (suc d) (suc line) (suc line + height a) refl names.1 form.0.2) (omega arith)
    (g (suc n) (suc d) (line + height a + 2) (line + height a + 2 + height b) refl names.2 form.0.3) (omega arith)
    (h n d (line + height a + height b + 3) next (omega arith) names.3 form.1)

pub body_marks : (b : Body) → HasBodyMarks b
body_marks end n d line next eq names form = λ ms rest r. let same : next ≡ line = omega arith in subst (λ z. HasMarks z ms (ended rest)) same r
body_marks (simple l s rest) n d line next eq names form = λ ms more r.
    let behind = body_marks rest n d (suc line) next (omega arith) names.1 form.1 ms more r in
    let first = statement_marks s names.0 form.0 line _ _ (line_marks line (suc line) _ _ refl behind) in
    grouped_marks (begun line (with_semicolon (simple_tokens (simple_form s)))) (block_marks (block_form (suc line) rest)) ms line _ (indent_marks n line _ (simple_text s) _ first)
body_marks (if_ l e a b rest) n d line next eq names form = if_body_marks l e a b rest (body_marks a) (body_marks b) (body_marks rest) n d line next eq names form
body_marks (while_ l e a rest) n d line next eq names form =
    let size = while_height l e a rest in
    while_marks e n line (suc line + height a) (line + height a + 2) next (block_form (suc line) a) (block_form (line + height a + 2) rest) (body_text_lines (suc n) a) (body_text_lines n rest) names.0 form.0.0 (body_marks a (suc n) (suc d) (suc line) (suc line + height a) refl names.1 form.0.2) (omega arith)
    (body_marks rest n d (line + height a + 2) next (omega arith) names.2 form.1)
