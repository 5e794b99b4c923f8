-- The canonical text of the items of a program is a text of these items.
use Rattle.std.proofs.Common.{ℕ, suc, ◌+◌, ◌≡◌, ◌≤◌, ℤ, pos, negsuc, List, [], ◌∷◌, ◌++◌, length, map, flat_map, Option, Some, None, refl, sym, ap, subst, ◌∙◌, arith, codes, append_assoc, append-nil, length-append}
use Rattle.std.specs.List.{AllByRecursion}
use Rattle.loom_tree.specs.declared.item.Word.{Word}
use Rattle.loom_tree.specs.declared.item.Sema.{Sema}
use Rattle.loom_tree.specs.declared.token.Keyword.{Keyword}
use Rattle.loom_tree.specs.declared.token.Keyword.TheVariants as w
use Rattle.loom_tree.specs.declared.token.Sign.TheVariants as g
use Rattle.loom_tree.specs.declared.token.TokenKind.TheVariants as t
use Rattle.loom_tree.specs.declared.expression.Op.TheVariants as o
use Rattle.loom_tree.specs.Token.{Token}
use Rattle.loom_tree.specs.Tree as tree
use Rattle.loom_tree.specs.Tree.{Body, Function, Source}
use Rattle.loom_tree.specs.Decimal.{decimal}
use Rattle.loom_tree.specs.Lines.{ended}
use Rattle.loom_lexer.specs.Tokens.{spelling, largest_number}
use Rattle.loom_lexer.specs.Name.{IsName}
use Rattle.loom_syntax.specs.File.{Mark, on, at, plus, minus, Declaration, ItemForm, declared, func, with_commas, in_parens, in_braces, declaration_tokens, head_tokens, begun, with_semicolon, block_marks, item_marks, IsDeclaration, IsItem, sema_limit, declaration_tree, item_tree}
use Rattle.loom_lang.specs.WellFormed.{IsWellFormedBlock, IsFirstValue, IsWellFormedWord, IsWellFormedSema}
use Rattle.loom_lang.specs.FileItems.{source_of_items}
use Rattle.loom_lang.specs.Canonical.{listed, body_text_lines, word_line, mutex_line, sema_line, function_lines, functions_lines, height, body_from, functions_from}
use Rattle.loom_canonical.proofs.LexemeMarks.{HasMarks, no_marks, space_marks, line_marks, name_marks, word_marks, number_marks, sign_marks, short_sign_marks}
use Rattle.loom_canonical.proofs.ExpressionTokens.{HasTokens, three_pieces, five_pieces, paren_marks}
use Rattle.loom_canonical.proofs.StatementTokens.{EachHasTokens, listed_tokens, semicolon_marks, word_name_marks}
use Rattle.loom_canonical.proofs.BlockTokens.{block_form, HasBodyNames, body_tree, body_rules, height_at, begin_brace, end_brace, close_marks, lines_grouped, body_marks}

-- Words and arrays

abbrev word_form_by : List ℕ → Option ℕ → ℤ → Declaration
word_form_by x None (pos n) = Declaration.word x (plus n)
word_form_by x None (negsuc n) = Declaration.word x (minus (suc n))
word_form_by x (Some n) first = Declaration.array x n

-- a word as it is written
abbrev pub word_form : Word → Declaration
word_form w = word_form_by w.name w.cells w.first

abbrev pub HasFewCells : Option ℕ → Type 0
HasFewCells None = Unit {0}
HasFewCells (Some n) = n ≤ largest_number

-- what is asked of a word
pub record IsWritableWord (w : Word) : Type 0 where
  pub name : IsName w.name
  pub form : IsWellFormedWord w
  pub cells : HasFewCells w.cells

word_tree_by : (line : ℕ) (x : List ℕ) (c : Option ℕ) (z : ℤ) → IsFirstValue c z → declaration_tree line (word_form_by x c z) ≡ tree.FileItem.word line (record { name = x; cells = c; first = z })
word_tree_by line x None (pos n) h = refl
word_tree_by line x None (negsuc n) h = refl
word_tree_by line x (Some n) z h = ap (λ v. tree.FileItem.word line (record { name = x; cells = Some n; first = v })) (sym h)

word_rules_by : (x : List ℕ) (c : Option ℕ) (z : ℤ) → IsDeclaration (word_form_by x c z)
word_rules_by x None (pos n) = tt
word_rules_by x None (negsuc n) = tt
word_rules_by x (Some n) z = tt

-- `x = n;` behind a word
value_marks : (word : Keyword) (x : List ℕ) (n : ℕ) → IsName x → n ≤ largest_number → (line : ℕ) (ms : List Mark) (rest : List ℕ) → HasMarks line ms rest
    → HasMarks line (begun line (with_semicolon (Token.word word ∷ Token.name x ∷ Token.sign g.Assign ∷ Token.num n ∷ [])) ++ ms) (spelling word ++ (32 ∷ (x ++ 32 ∷ 61 ∷ 32 ∷ (decimal n ++ 59 ∷ rest))))
value_marks word x n h k line ms rest r =
    let value = number_marks n _ line _ k refl (semicolon_marks line ms rest r) in
    let assign = space_marks line _ _ (short_sign_marks 61 (t.Sign g.Assign) _ line _ refl refl refl refl (space_marks line _ _ value)) in
    word_marks word _ line (at line (Token.word word)) _ refl (refl, refl) (space_marks line _ _ (name_marks x _ line (on (Token.name x)) _ h refl refl assign))

word_marks_by : (x : List ℕ) (c : Option ℕ) (z : ℤ) → IsName x → IsFirstValue c z → HasFewCells c → (line : ℕ) (ms : List Mark) (rest : List ℕ) → HasMarks line ms rest
    → HasMarks line (begun line (with_semicolon (declaration_tokens (word_form_by x c z))) ++ ms) (word_line (record { name = x; cells = c; first = z }) ++ rest)
word_marks_by x None (pos n) h k few line ms rest r = five_pieces line _ (codes "shared ") x (codes " = ") (decimal n) (codes ";") rest (value_marks w.Shared x n h k line ms rest r)
word_marks_by x None (negsuc n) h k few line ms rest r =
    let value = number_marks (suc n) _ line _ k refl (semicolon_marks line ms rest r) in
    let signed = sign_marks 45 (t.Op o.Sub) _ line _ refl refl refl value in
    let assign = space_marks line _ _ (short_sign_marks 61 (t.Sign g.Assign) _ line _ refl refl refl refl (space_marks line _ _ signed)) in
    five_pieces line _ (codes "shared ") x (codes " = ") (45 ∷ decimal (suc n)) (codes ";") rest
    (word_marks w.Shared _ line (at line (Token.word w.Shared)) _ refl (refl, refl) (space_marks line _ _ (name_marks x _ line (on (Token.name x)) _ h refl refl assign)))
word_marks_by x (Some n) z h k few line ms rest r =
    let close = sign_marks 93 (t.Sign g.BracketClose) _ line _ refl refl refl (semicolon_marks line ms rest r) in
    let size = sign_marks 91 (t.Sign g.BracketOpen) _ line _ refl refl refl (number_marks n _ line _ few refl close) in
    five_pieces line _ (codes "shared ") x (codes "[") (decimal n) (codes "];") rest
    (word_marks w.Shared _ line (at line (Token.word w.Shared)) _ refl (refl, refl) (space_marks line _ _ (name_marks x _ line (on (Token.name x)) _ h refl refl size)))

-- Items one behind another. Each kind has its lines behind those of the kind before it.

abbrev pub words_before : ℕ → List Word → List ItemForm → List ItemForm
words_before line [] more = more
words_before line (x ∷ xs) more = declared line (word_form x) ∷ words_before (suc line) xs more

abbrev pub mutexes_before : ℕ → List (List ℕ) → List ItemForm → List ItemForm
mutexes_before line [] more = more
mutexes_before line (x ∷ xs) more = declared line (Declaration.mutex x) ∷ mutexes_before (suc line) xs more

abbrev pub semas_before : ℕ → List Sema → List ItemForm → List ItemForm
semas_before line [] more = more
semas_before line (s ∷ ss) more = declared line (Declaration.sema s.name (Some s.first)) ∷ semas_before (suc line) ss more

abbrev pub function_forms : ℕ → List Function → List ItemForm
function_forms line [] = []
function_forms line (f ∷ fs) = func line f.name f.params (block_form (suc line) f.body) ∷ function_forms (line + length (function_lines f)) fs

-- The lines of a text, of which the first has this number, are these items.
abbrev pub HaveItems : ℕ → List ItemForm → List (List ℕ) → Type 0
HaveItems line forms lines = HasMarks line (flat_map item_marks forms) (ended lines)

pub words_marks : (xs : List Word) (line next : ℕ) (more : List ItemForm) (lines : List (List ℕ)) → next ≡ line + length xs → AllByRecursion IsWritableWord xs → HaveItems next more lines
    → HaveItems line (words_before line xs more) (map word_line xs ++ lines)
words_marks [] line next more lines e h r = let same : next ≡ line = omega arith in subst (λ z. HaveItems z more lines) same r
words_marks (x ∷ xs) line next more lines e h r =
    let rest = words_marks xs (suc line) next more lines (omega arith) h.1 r in
    word_marks_by x.name x.cells x.first h.0.name h.0.form h.0.cells line _ _ (line_marks line (suc line) _ _ refl rest)

pub mutexes_marks : (xs : List (List ℕ)) (line next : ℕ) (more : List ItemForm) (lines : List (List ℕ)) → next ≡ line + length xs → AllByRecursion IsName xs → HaveItems next more lines
    → HaveItems line (mutexes_before line xs more) (map mutex_line xs ++ lines)
mutexes_marks [] line next more lines e h r = let same : next ≡ line = omega arith in subst (λ z. HaveItems z more lines) same r
mutexes_marks (x ∷ xs) line next more lines e h r =
    let rest = mutexes_marks xs (suc line) next more lines (omega arith) h.1 r in
    three_pieces line _ (codes "mutex ") x (codes ";") _ (word_name_marks w.Mutex x h.0 line _ _ (line_marks line (suc line) _ _ refl rest))

-- what is asked of a semaphore
pub record IsWritableSema (s : Sema) : Type 0 where
  pub name : IsName s.name
  pub form : IsWellFormedSema s

pub semas_marks : (xs : List Sema) (line next : ℕ) (more : List ItemForm) (lines : List (List ℕ)) → next ≡ line + length xs → AllByRecursion IsWritableSema xs → HaveItems next more lines
    → HaveItems line (semas_before line xs more) (map sema_line xs ++ lines)
semas_marks [] line next more lines e h r = let same : next ≡ line = omega arith in subst (λ z. HaveItems z more lines) same r
semas_marks (x ∷ xs) line next more lines e h r =
    let rest = semas_marks xs (suc line) next more lines (omega arith) h.1 r in
    let limit : x.first ≤ sema_limit = h.0.form in
    let small : x.first ≤ largest_number = omega arith in
    five_pieces line _ (codes "sema ") x.name (codes " = ") (decimal x.first) (codes ";") _ (value_marks w.Sema x.name x.first h.0.name small line _ _ (line_marks line (suc line) _ _ refl rest))

-- Functions

-- what is asked of a function
pub record IsWritableFunction (f : Function) : Type 0 where
  pub name : IsName f.name
  pub params : AllByRecursion IsName f.params
  pub names : HasBodyNames f.body
  pub form : IsWellFormedBlock 1 f.body

abbrev param_tokens : List (List ℕ) → List (List Token)
param_tokens xs = map (λ x. Token.name x ∷ []) xs

params_have_tokens : (xs : List (List ℕ)) → AllByRecursion IsName xs → EachHasTokens (param_tokens xs) xs
params_have_tokens [] h = tt
params_have_tokens (x ∷ xs) h = (λ line ts ms rest s r. name_marks x rest line (on (Token.name x)) (map on ts ++ ms) h.0 s refl r, params_have_tokens xs h.1)

pub function_size : (f : Function) → length (function_lines f) ≡ height f.body + 2
function_size f =
    let one = height_at 1 f.body in
    omega (arith, length-append {A = List ℕ})

function_grouped : (h b ms : List Mark) → (h ++ in_braces b) ++ ms ≡ h ++ (begin_brace ∷ (b ++ (end_brace ∷ ms)))
function_grouped h b ms = simp append_assoc

-- `fn f(..) {`
head_marks : (f : Function) → IsName f.name → AllByRecursion IsName f.params → (line : ℕ) (ms : List Mark) (rest : List ℕ) → HasMarks (suc line) ms rest
    → HasMarks line (begun line (head_tokens f.name f.params) ++ (begin_brace ∷ ms)) ((codes "fn " ++ f.name ++ codes "(" ++ listed f.params ++ codes ") {") ++ 10 ∷ rest)
head_marks f h k line ms rest r =
    let us : List Token = with_commas (param_tokens f.params) in
    let brace = space_marks line _ _ (sign_marks 123 (t.Sign g.BraceOpen) _ line _ refl refl refl (line_marks line (suc line) ms rest refl r)) in
    let inner : HasTokens us (listed f.params) = listed_tokens (param_tokens f.params) f.params (params_have_tokens f.params k) in
    let parens = paren_marks us (listed f.params) inner line [] (begin_brace ∷ ms) (32 ∷ 123 ∷ 10 ∷ rest) brace in
    let P : List Token → Type 0 = λ z. HasMarks line (map on z ++ (begin_brace ∷ ms)) (40 ∷ (listed f.params ++ 41 ∷ 32 ∷ 123 ∷ 10 ∷ rest)) in
    let named = name_marks f.name _ line (on (Token.name f.name)) _ h refl refl (subst P (append-nil (in_parens us)) parens) in
    five_pieces line _ (codes "fn ") f.name (codes "(") (listed f.params) (codes ") {") _ (word_marks w.Fn _ line (at line (Token.word w.Fn)) _ refl (refl, refl) (space_marks line _ _ named))

function_marks : (f : Function) → IsWritableFunction f → (line next : ℕ) (ms : List Mark) (lines : List (List ℕ)) → next ≡ line + length (function_lines f) → HasMarks next ms (ended lines)
    → HasMarks line (item_marks (func line f.name f.params (block_form (suc line) f.body)) ++ ms) (ended (function_lines f ++ lines))
function_marks f h line next ms lines e r =
    let b : List Mark = block_marks (block_form (suc line) f.body) in
    let head : List Mark = begun line (head_tokens f.name f.params) in
    let text : List ℕ = codes "fn " ++ f.name ++ codes "(" ++ listed f.params ++ codes ") {" in
    let size = function_size f in
    let close = close_marks 0 (suc line + height f.body) next ms (ended lines) (omega arith) r in
    let inner = body_marks f.body 1 1 (suc line) (suc line + height f.body) refl h.names h.form (end_brace ∷ ms) (codes "}" ∷ lines) close in
    let whole = head_marks f h.name h.params line _ _ inner in
    let P : List (List ℕ) → Type 0 = λ z. HasMarks line (head ++ (begin_brace ∷ (b ++ (end_brace ∷ ms)))) (text ++ 10 ∷ ended z) in
    let Q : List Mark → Type 0 = λ z. HasMarks line z (text ++ 10 ∷ ended ((body_text_lines 1 f.body ++ codes "}" ∷ []) ++ lines)) in
    subst Q (sym (function_grouped head b ms)) (subst P (sym (lines_grouped (body_text_lines 1 f.body) [] lines (codes "}"))) whole)

pub functions_marks : (fs : List Function) (line : ℕ) → AllByRecursion IsWritableFunction fs → HaveItems line (function_forms line fs) (functions_lines fs)
functions_marks [] line h = no_marks line
functions_marks (f ∷ fs) line h = function_marks f h.0 line (line + length (function_lines f)) _ (functions_lines fs) refl (functions_marks fs (line + length (function_lines f)) h.1)

-- The rules of the grammar

pub words_rules : (xs : List Word) (line : ℕ) (more : List ItemForm) → AllByRecursion IsItem more → AllByRecursion IsItem (words_before line xs more)
words_rules [] line more h = h
words_rules (x ∷ xs) line more h = (word_rules_by x.name x.cells x.first, words_rules xs (suc line) more h)

pub mutexes_rules : (xs : List (List ℕ)) (line : ℕ) (more : List ItemForm) → AllByRecursion IsItem more → AllByRecursion IsItem (mutexes_before line xs more)
mutexes_rules [] line more h = h
mutexes_rules (x ∷ xs) line more h = (tt, mutexes_rules xs (suc line) more h)

pub semas_rules : (xs : List Sema) (line : ℕ) (more : List ItemForm) → AllByRecursion IsWritableSema xs → AllByRecursion IsItem more → AllByRecursion IsItem (semas_before line xs more)
semas_rules [] line more k h = h
semas_rules (x ∷ xs) line more k h = (k.0.form, semas_rules xs (suc line) more k.1 h)

pub functions_rules : (fs : List Function) (line : ℕ) → AllByRecursion IsWritableFunction fs → AllByRecursion IsItem (function_forms line fs)
functions_rules [] line h = tt
functions_rules (f ∷ fs) line h = (body_rules f.body 1 (suc line) h.0.form, functions_rules fs (line + length (function_lines f)) h.1)

-- The program of the items

-- the items of a text as a program
abbrev pub source_of : List ItemForm → Source
source_of forms = source_of_items (map item_tree forms)

pub words_source : (xs : List Word) (line : ℕ) (more : List ItemForm) → AllByRecursion IsWritableWord xs → source_of (words_before line xs more) ≡ record (source_of more) { words = xs ++ (source_of more).words }
words_source [] line more h = refl
words_source (x ∷ xs) line more h =
    ap (λ z. source_of_items (z ∷ map item_tree (words_before (suc line) xs more))) (word_tree_by line x.name x.cells x.first h.0.form)
    ∙ ap (λ (z : Source). record z { words = x ∷ z.words }) (words_source xs (suc line) more h.1)

pub mutexes_source : (xs : List (List ℕ)) (line : ℕ) (more : List ItemForm) → source_of (mutexes_before line xs more) ≡ record (source_of more) { mutexes = xs ++ (source_of more).mutexes }
mutexes_source [] line more = refl
mutexes_source (x ∷ xs) line more = ap (λ (z : Source). record z { mutexes = x ∷ z.mutexes }) (mutexes_source xs (suc line) more)

pub semas_source : (xs : List Sema) (line : ℕ) (more : List ItemForm) → source_of (semas_before line xs more) ≡ record (source_of more) { semas = xs ++ (source_of more).semas }
semas_source [] line more = refl
semas_source (x ∷ xs) line more = ap (λ (z : Source). record z { semas = x ∷ z.semas }) (semas_source xs (suc line) more)

pub functions_source : (fs : List Function) (line : ℕ) → AllByRecursion IsWritableFunction fs → source_of (function_forms line fs) ≡ record { words = []; mutexes = []; semas = []; funcs = functions_from line fs }
functions_source [] line h = refl
functions_source (f ∷ fs) line h =
    let more : List tree.FileItem = map item_tree (function_forms (line + length (function_lines f)) fs) in
    ap (λ (z : Body). source_of_items (tree.FileItem.func (record { name = f.name; line = line; params = f.params; body = z }) ∷ more)) (body_tree f.body 1 (suc line) h.0.form)
    ∙ ap (λ (z : Source). record z { funcs = (record f { line = line; body = body_from (suc line) f.body }) ∷ z.funcs }) (functions_source fs (line + length (function_lines f)) h.1)
