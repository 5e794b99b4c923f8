-- The canonical text of a statement without a block is a text of that statement.
use Rattle.std.proofs.Common.{ℕ, ◌≡◌, List, [], ◌∷◌, ◌++◌, map, Some, None, refl, ap, ◌∙◌, codes}
use Rattle.std.specs.List.{AllByRecursion}
use Rattle.loom_tree.specs.declared.token.Keyword.{Keyword}
use Rattle.loom_tree.specs.declared.token.Keyword.TheVariants as w
use Rattle.loom_tree.specs.declared.token.Sign.TheVariants as g
use Rattle.loom_tree.specs.declared.token.TokenKind.TheVariants as t
use Rattle.loom_tree.specs.Token.{Token}
use Rattle.loom_tree.specs.Tree.{Expression, Right, Simple, let_, set, set_cell, return, lock, unlock, down, up, join, print, skip}
use Rattle.loom_lexer.specs.Name.{IsName}
use Rattle.loom_lexer.specs.Tokens.{spelling}
use Rattle.loom_expression.specs.Text as expression
use Rattle.loom_expression.specs.Text.{Text, tokens, IsWritten}
use Rattle.loom_syntax.specs.File.{Mark, on, at, FitsMark, with_commas, argument_tokens, right_tokens, simple_tokens, with_semicolon, begun, IsRight, IsSimple, right_tree, simple_tree}
use Rattle.loom_lang.specs.WellFormed.{IsWellFormed, IsWellFormedRight, IsWellFormedStatement}
use Rattle.loom_lang.specs.Canonical.{expression_text, listed, call_text, right_text, simple_text}
use Rattle.loom_canonical.proofs.LexemeMarks.{HasMarks, space_marks, name_marks, word_marks, sign_marks, short_sign_marks}
use Rattle.loom_canonical.proofs.ExpressionTokens.{expression_form, expression_tree, expression_written, HasNames, HasTokens, grouped_tokens, two_pieces, three_pieces, four_pieces, five_pieces, paren_marks, expression_tokens}

-- lists with commas

-- Each text has its tokens.
abbrev pub EachHasTokens : List (List Token) → List (List ℕ) → Type 0
EachHasTokens [] [] = Unit {0}
EachHasTokens [] (x ∷ xs) = ⊥
EachHasTokens (us ∷ vs) [] = ⊥
EachHasTokens (us ∷ vs) (x ∷ xs) = HasTokens us x × EachHasTokens vs xs

pub listed_tokens : (us : List (List Token)) (xs : List (List ℕ)) → EachHasTokens us xs → HasTokens (with_commas us) (listed xs)
listed_tokens [] [] h line ts ms rest s r = r
listed_tokens [] (x ∷ xs) h line ts ms rest s r = absurd h
listed_tokens (u ∷ us) [] h line ts ms rest s r = absurd h
listed_tokens (u ∷ []) (x ∷ []) h line ts ms rest s r = grouped_tokens u [] ts line ms _ (h.0 line ts ms rest s r)
listed_tokens (u ∷ []) (x ∷ y ∷ xs) h line ts ms rest s r = absurd h.1
listed_tokens (u ∷ v ∷ us) (x ∷ []) h line ts ms rest s r = absurd h.1
listed_tokens (u ∷ v ∷ us) (x ∷ y ∷ xs) h line ts ms rest s r =
    let more : HasMarks line (map on (with_commas (v ∷ us) ++ ts) ++ ms) (listed (y ∷ xs) ++ rest) = listed_tokens (v ∷ us) (y ∷ xs) h.1 line ts ms rest s r in
    let comma = sign_marks 44 (t.Sign g.Comma) _ line _ refl refl refl (space_marks line _ _ more) in
    let first = h.0 line (Token.sign g.Comma ∷ (with_commas (v ∷ us) ++ ts)) ms _ refl comma in
    three_pieces line _ x (codes ", ") (listed (y ∷ xs)) rest (grouped_tokens u (Token.sign g.Comma ∷ with_commas (v ∷ us)) ts line ms _ first)

pub arguments_tokens : (es : List Expression) → AllByRecursion HasNames es → AllByRecursion IsWellFormed es → EachHasTokens (map tokens (map expression_form es)) (map expression_text es)
arguments_tokens [] h k = tt
arguments_tokens (e ∷ es) h k = (expression_tokens e h.0 k.0.numbers, arguments_tokens es h.1 k.1)

pub arguments_tree : (es : List Expression) → AllByRecursion IsWellFormed es → map expression.tree (map expression_form es) ≡ es
arguments_tree [] h = refl
arguments_tree (e ∷ es) h = ap (λ z. z ∷ map expression.tree (map expression_form es)) (expression_tree e h.0.numbers) ∙ ap (λ z. e ∷ z) (arguments_tree es h.1)

pub arguments_written : (es : List Expression) → AllByRecursion IsWellFormed es → AllByRecursion IsWritten (map expression_form es)
arguments_written [] h = tt
arguments_written (e ∷ es) h = (expression_written e h.0, arguments_written es h.1)

-- calls

call_marks : (f : List ℕ) (es : List Expression) → IsName f → AllByRecursion HasNames es → AllByRecursion IsWellFormed es
    → (line : ℕ) (m : Mark) (ts : List Token) (ms : List Mark) (rest : List ℕ) → FitsMark m (record { token = Token.name f; line = line }) → HasMarks line (map on ts ++ ms) rest
    → HasMarks line (m ∷ (map on (argument_tokens (map expression_form es) ++ ts) ++ ms)) (call_text f es ++ rest)
call_marks f es n h k line m ts ms rest fits r =
    let us : List Token = with_commas (map tokens (map expression_form es)) in
    let bytes : List ℕ = listed (map expression_text es) in
    let inner : HasTokens us bytes = listed_tokens (map tokens (map expression_form es)) (map expression_text es) (arguments_tokens es h k) in
    let parens = paren_marks us bytes inner line ts ms rest r in
    four_pieces line _ f (codes "(") bytes (codes ")") rest (name_marks f _ line m _ n refl fits parens)

-- what stands at the right of `=`

abbrev pub right_form : Right Expression → Right Text
right_form (Right.value e) = Right.value (expression_form e)
right_form (Right.call f es) = Right.call f (map expression_form es)
right_form (Right.spawn f es) = Right.spawn f (map expression_form es)

abbrev pub HasRightNames : Right Expression → Type 0
HasRightNames (Right.value e) = HasNames e
HasRightNames (Right.call f es) = IsName f × AllByRecursion HasNames es
HasRightNames (Right.spawn f es) = IsName f × AllByRecursion HasNames es

right_form_tree : (r : Right Expression) → IsWellFormedRight r → right_tree (right_form r) ≡ r
right_form_tree (Right.value e) h = ap Right.value (expression_tree e h.numbers)
right_form_tree (Right.call f es) h = ap (λ z. Right.call f z) (arguments_tree es h)
right_form_tree (Right.spawn f es) h = ap (λ z. Right.spawn f z) (arguments_tree es h)

right_written : (r : Right Expression) → IsWellFormedRight r → IsRight (right_form r)
right_written (Right.value e) h = expression_written e h
right_written (Right.call f es) h = arguments_written es h
right_written (Right.spawn f es) h = arguments_written es h

right_have_tokens : (r : Right Expression) → HasRightNames r → IsWellFormedRight r → HasTokens (right_tokens (right_form r)) (right_text r)
right_have_tokens (Right.value e) h k line ts ms rest s r = expression_tokens e h k.numbers line ts ms rest s r
right_have_tokens (Right.call f es) h k line ts ms rest s r = call_marks f es h.0 h.1 k line (on (Token.name f)) ts ms rest refl r
right_have_tokens (Right.spawn f es) h k line ts ms rest s r =
    let call = call_marks f es h.0 h.1 k line (on (Token.name f)) ts ms rest refl r in
    two_pieces line _ (codes "spawn ") (call_text f es) rest (word_marks w.Spawn _ line (on (Token.word w.Spawn)) _ refl refl (space_marks line _ _ call))

-- statements

abbrev pub simple_form : Simple Expression → Simple Text
simple_form (let_ x r) = let_ x (right_form r)
simple_form (set x r) = set x (right_form r)
simple_form (set_cell x i e) = set_cell x (expression_form i) (expression_form e)
simple_form (Simple.call f es) = Simple.call f (map expression_form es)
simple_form (return None) = return None
simple_form (return (Some e)) = return (Some (expression_form e))
simple_form (lock x) = lock x
simple_form (unlock x) = unlock x
simple_form (down x) = down x
simple_form (up x) = up x
simple_form (join e) = join (expression_form e)
simple_form (print e) = print (expression_form e)
simple_form skip = skip

abbrev pub HasStatementNames : Simple Expression → Type 0
HasStatementNames (let_ x r) = IsName x × HasRightNames r
HasStatementNames (set x r) = IsName x × HasRightNames r
HasStatementNames (set_cell x i e) = IsName x × HasNames i × HasNames e
HasStatementNames (Simple.call f es) = IsName f × AllByRecursion HasNames es
HasStatementNames (return None) = Unit {0}
HasStatementNames (return (Some e)) = HasNames e
HasStatementNames (lock x) = IsName x
HasStatementNames (unlock x) = IsName x
HasStatementNames (down x) = IsName x
HasStatementNames (up x) = IsName x
HasStatementNames (join e) = HasNames e
HasStatementNames (print e) = HasNames e
HasStatementNames skip = Unit {0}

pub statement_tree : (s : Simple Expression) → IsWellFormedStatement s → simple_tree (simple_form s) ≡ s
statement_tree (let_ x r) h = ap (λ z. let_ x z) (right_form_tree r h)
statement_tree (set x r) h = ap (λ z. set x z) (right_form_tree r h)
statement_tree (set_cell x i e) h = ap (λ z. set_cell x z (expression.tree (expression_form e))) (expression_tree i h.0.numbers) ∙ ap (λ z. set_cell x i z) (expression_tree e h.1.numbers)
statement_tree (Simple.call f es) h = ap (λ z. Simple.call f z) (arguments_tree es h)
statement_tree (return None) h = refl
statement_tree (return (Some e)) h = ap (λ z. return (Some z)) (expression_tree e h.numbers)
statement_tree (lock x) h = refl
statement_tree (unlock x) h = refl
statement_tree (down x) h = refl
statement_tree (up x) h = refl
statement_tree (join e) h = ap join (expression_tree e h.numbers)
statement_tree (print e) h = ap print (expression_tree e h.numbers)
statement_tree skip h = refl

pub statement_written : (s : Simple Expression) → IsWellFormedStatement s → IsSimple (simple_form s)
statement_written (let_ x r) h = right_written r h
statement_written (set x r) h = right_written r h
statement_written (set_cell x i e) h = (expression_written i h.0, expression_written e h.1)
statement_written (Simple.call f es) h = arguments_written es h
statement_written (return None) h = tt
statement_written (return (Some e)) h = expression_written e h
statement_written (lock x) h = tt
statement_written (unlock x) h = tt
statement_written (down x) h = tt
statement_written (up x) h = tt
statement_written (join e) h = expression_written e h
statement_written (print e) h = expression_written e h
statement_written skip h = tt

-- a word with an expression or a name behind it, and `;`

pub semicolon_marks : (line : ℕ) (ms : List Mark) (rest : List ℕ) → HasMarks line ms rest → HasMarks line (on (Token.sign g.Semicolon) ∷ ms) (59 ∷ rest)
semicolon_marks line ms rest r = sign_marks 59 (t.Sign g.Semicolon) rest line ms refl refl refl r

word_expression_marks : (word : Keyword) (e : Expression) → HasNames e → IsWellFormed e → (line : ℕ) (ms : List Mark) (rest : List ℕ) → HasMarks line ms rest
    → HasMarks line (begun line (with_semicolon (Token.word word ∷ tokens (expression_form e))) ++ ms) (spelling word ++ (32 ∷ (expression_text e ++ 59 ∷ rest)))
word_expression_marks word e h k line ms rest r =
    let value = expression_tokens e h k.numbers line (Token.sign g.Semicolon ∷ []) ms _ refl (semicolon_marks line ms rest r) in
    word_marks word _ line (at line (Token.word word)) _ refl (refl, refl) (space_marks line _ _ value)

pub word_name_marks : (word : Keyword) (x : List ℕ) → IsName x → (line : ℕ) (ms : List Mark) (rest : List ℕ) → HasMarks line ms rest
    → HasMarks line (begun line (with_semicolon (Token.word word ∷ Token.name x ∷ [])) ++ ms) (spelling word ++ (32 ∷ (x ++ 59 ∷ rest)))
word_name_marks word x n line ms rest r =
    let named = name_marks x _ line (on (Token.name x)) _ n refl refl (semicolon_marks line ms rest r) in
    word_marks word _ line (at line (Token.word word)) _ refl (refl, refl) (space_marks line _ _ named)

-- ` = ` and what it gives
assign_marks : (r : Right Expression) → HasRightNames r → IsWellFormedRight r → (line : ℕ) (ms : List Mark) (rest : List ℕ) → HasMarks line ms rest
    → HasMarks line (on (Token.sign g.Assign) ∷ (map on (right_tokens (right_form r) ++ Token.sign g.Semicolon ∷ []) ++ ms)) (32 ∷ 61 ∷ 32 ∷ (right_text r ++ 59 ∷ rest))
assign_marks r h k line ms rest tail =
    let value = right_have_tokens r h k line (Token.sign g.Semicolon ∷ []) ms _ refl (semicolon_marks line ms rest tail) in
    space_marks line _ _ (short_sign_marks 61 (t.Sign g.Assign) _ line _ refl refl refl refl (space_marks line _ _ value))

cell_marks : (x : List ℕ) (i e : Expression) → IsName x → HasNames i → HasNames e → IsWellFormed i → IsWellFormed e → (line : ℕ) (ms : List Mark) (rest : List ℕ) → HasMarks line ms rest
    → HasMarks line (begun line (with_semicolon (simple_tokens (simple_form (set_cell x i e)))) ++ ms) (simple_text (set_cell x i e) ++ rest)
cell_marks x i e n h k p q line ms rest r =
    let us : List Token = tokens (expression_form i) in
    let vs : List Token = tokens (expression_form e) in
    let value = expression_tokens e k q.numbers line (Token.sign g.Semicolon ∷ []) ms _ refl (semicolon_marks line ms rest r) in
    let assign = short_sign_marks 61 (t.Sign g.Assign) _ line _ refl refl refl refl (space_marks line _ _ value) in
    let close = sign_marks 93 (t.Sign g.BracketClose) _ line _ refl refl refl (space_marks line _ _ assign) in
    let index = expression_tokens i h p.numbers line (Token.sign g.BracketClose ∷ Token.sign g.Assign ∷ (vs ++ Token.sign g.Semicolon ∷ [])) ms _ refl close in
    let inner = grouped_tokens us (Token.sign g.BracketClose ∷ Token.sign g.Assign ∷ vs) (Token.sign g.Semicolon ∷ []) line ms _ index in
    let whole = name_marks x _ line (at line (Token.name x)) _ n refl (refl, refl) (sign_marks 91 (t.Sign g.BracketOpen) _ line _ refl refl refl inner) in
    two_pieces line _ (x ++ codes "[" ++ expression_text i ++ codes "] = " ++ expression_text e) (codes ";") rest
    (five_pieces line _ x (codes "[") (expression_text i) (codes "] = ") (expression_text e) _ whole)

pub statement_marks : (s : Simple Expression) → HasStatementNames s → IsWellFormedStatement s → (line : ℕ) (ms : List Mark) (rest : List ℕ) → HasMarks line ms rest
    → HasMarks line (begun line (with_semicolon (simple_tokens (simple_form s))) ++ ms) (simple_text s ++ rest)
statement_marks (let_ x r) h k line ms rest tail =
    let named = name_marks x _ line (on (Token.name x)) _ h.0 refl refl (assign_marks r h.1 k line ms rest tail) in
    five_pieces line _ (codes "let ") x (codes " = ") (right_text r) (codes ";") rest (word_marks w.Let _ line (at line (Token.word w.Let)) _ refl (refl, refl) (space_marks line _ _ named))
statement_marks (set x r) h k line ms rest tail =
    four_pieces line _ x (codes " = ") (right_text r) (codes ";") rest (name_marks x _ line (at line (Token.name x)) _ h.0 refl (refl, refl) (assign_marks r h.1 k line ms rest tail))
statement_marks (set_cell x i e) h k line ms rest tail = cell_marks x i e h.0 h.1 h.2 k.0 k.1 line ms rest tail
statement_marks (Simple.call f es) h k line ms rest tail =
    two_pieces line _ (call_text f es) (codes ";") rest (call_marks f es h.0 h.1 k line (at line (Token.name f)) (Token.sign g.Semicolon ∷ []) ms _ (refl, refl) (semicolon_marks line ms rest tail))
statement_marks (return None) h k line ms rest tail = word_marks w.Return _ line (at line (Token.word w.Return)) _ refl (refl, refl) (semicolon_marks line ms rest tail)
statement_marks (return (Some e)) h k line ms rest tail = three_pieces line _ (codes "return ") (expression_text e) (codes ";") rest (word_expression_marks w.Return e h k line ms rest tail)
statement_marks (lock x) h k line ms rest tail = three_pieces line _ (codes "lock ") x (codes ";") rest (word_name_marks w.Lock x h line ms rest tail)
statement_marks (unlock x) h k line ms rest tail = three_pieces line _ (codes "unlock ") x (codes ";") rest (word_name_marks w.Unlock x h line ms rest tail)
statement_marks (down x) h k line ms rest tail = three_pieces line _ (codes "down ") x (codes ";") rest (word_name_marks w.Down x h line ms rest tail)
statement_marks (up x) h k line ms rest tail = three_pieces line _ (codes "up ") x (codes ";") rest (word_name_marks w.Up x h line ms rest tail)
statement_marks (join e) h k line ms rest tail = three_pieces line _ (codes "join ") (expression_text e) (codes ";") rest (word_expression_marks w.Join e h k line ms rest tail)
statement_marks (print e) h k line ms rest tail = three_pieces line _ (codes "print ") (expression_text e) (codes ";") rest (word_expression_marks w.Print e h k line ms rest tail)
statement_marks skip h k line ms rest tail = word_marks w.Skip _ line (at line (Token.word w.Skip)) _ refl (refl, refl) (semicolon_marks line ms rest tail)
