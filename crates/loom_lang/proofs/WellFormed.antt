-- The items of a text have the form that the grammar asks for.
use Rattle.std.proofs.Common.{ℕ, zero, suc, ◌+◌, ◌≤◌, ◌≡◌, List, [], ◌∷◌, ◌++◌, map, flat_map, Some, None, zero-le, refl, sym, ap, subst, ◌∙◌}
use Rattle.std.specs.List.{AllByRecursion}
use Rattle.loom_tree.specs.declared.item.Word.{Word}
use Rattle.loom_tree.specs.declared.item.Sema.{Sema}
use Rattle.loom_tree.specs.declared.token.Keyword.{Keyword}
use Rattle.loom_tree.specs.declared.token.Keyword.TheVariants as w
use Rattle.loom_tree.specs.Token.{Token, LineToken}
use Rattle.loom_tree.specs.Tree as tree
use Rattle.loom_tree.specs.Tree.{Right, Simple, Body, Function, Source}
use Rattle.loom_lexer.specs.Name.{IsName, IsProper}
use Rattle.loom_lexer.proofs.Proper.{AreProper, tokens_proper}
use Rattle.loom_expression.specs.Text as expression
use Rattle.loom_expression.specs.Text.{Text, tokens, node_limit, IsWritten}
use Rattle.loom_syntax.specs.File.{Mark, on, at, FitsMark, FitMarks, Block, end, simple, if_, if_else, while_, none, plus, minus, Declaration, ItemForm, declared, func, behind_commas, with_commas, in_parens, right_tokens, simple_tokens, test_tokens, declaration_tokens, head_tokens, begun, with_semicolon, in_braces, block_marks, item_marks, IsRight, IsSimple, IsBlock, IsDeclaration, IsItem, right_tree, simple_tree, block_tree, declaration_tree, item_tree, IsFile}
use Rattle.loom_lang.specs.WellFormed.{node_count, HasProperNumbers, IsWellFormed, IsWellFormedRight, IsWellFormedStatement, IsWellFormedBlock, IsWellFormedWord, IsWellFormedSema}
use Rattle.loom_lang.specs.Rules.{let_names, lets, locals_of, file_names}
use Rattle.loom_lang.specs.FileItems.{source_of_items}
use Rattle.loom_lang.specs.Program.{IsTextOf}

-- lists

parts : {X : Type 0} (P : X → Type 0) (xs ys : List X) → AllByRecursion P (xs ++ ys) → AllByRecursion P xs × AllByRecursion P ys
parts P [] ys h = (tt, h)
parts P (x ∷ xs) ys h = let t = parts P xs ys h.1 in ((h.0, t.0), t.1)

joined : {X : Type 0} (P : X → Type 0) (xs ys : List X) → AllByRecursion P xs → AllByRecursion P ys → AllByRecursion P (xs ++ ys)
joined P [] ys h k = k
joined P (x ∷ xs) ys h k = (h.0, joined P xs ys h.1 k)

-- tokens and marks

abbrev AreProperTokens : List Token → Type 0
AreProperTokens ts = AllByRecursion IsProper ts

abbrev token_of : Mark → Token
token_of (on t) = t
token_of (at l t) = t

abbrev IsProperMark : Mark → Type 0
IsProperMark m = IsProper (token_of m)

abbrev AreProperMarks : List Mark → Type 0
AreProperMarks ms = AllByRecursion IsProperMark ms

mark_proper : (m : Mark) (p : LineToken) → FitsMark m p → IsProper p.token → IsProperMark m
mark_proper (on t) p h a = subst IsProper h a
mark_proper (at l t) p h a = subst IsProper h.0 a

marks_proper : (ms : List Mark) (ps : List LineToken) → FitMarks ms ps → AreProper ps → AreProperMarks ms
marks_proper [] [] h a = tt
marks_proper [] (p ∷ ps) h a = absurd h
marks_proper (m ∷ ms) [] h a = absurd h
marks_proper (m ∷ ms) (p ∷ ps) h a = (mark_proper m p h.0 a.0, marks_proper ms ps h.1 a.1)

on_proper : (ts : List Token) → AreProperMarks (map on ts) → AreProperTokens ts
on_proper [] a = tt
on_proper (t ∷ ts) a = (a.0, on_proper ts a.1)

begun_proper : (l : ℕ) (ts : List Token) → AreProperMarks (begun l ts) → AreProperTokens ts
begun_proper l [] a = tt
begun_proper l (t ∷ ts) a = (a.0, on_proper ts a.1)

ended_proper : (l : ℕ) (ts : List Token) → AreProperMarks (begun l (with_semicolon ts)) → AreProperTokens ts
ended_proper l ts a = (parts IsProper ts _ (begun_proper l (with_semicolon ts) a)).0

parens_proper : (ts : List Token) → AreProperTokens (in_parens ts) → AreProperTokens ts
parens_proper ts a = (parts IsProper ts _ a.1).0

braces_proper : (ms : List Mark) → AreProperMarks (in_braces ms) → AreProperMarks ms
braces_proper ms a = (parts IsProperMark ms _ a.1).0

-- expressions

tree_nodes : (t : Text) → node_count (expression.tree t) ≡ expression.nodes t
tree_nodes (Text.num n) = refl
tree_nodes (Text.var x) = refl
tree_nodes (Text.cell x i) = ap suc (tree_nodes i)
tree_nodes (Text.neg a) = ap suc (tree_nodes a)
tree_nodes (Text.inverse a) = ap suc (tree_nodes a)
tree_nodes (Text.bin o a b) = ap (λ n. suc (n + node_count (expression.tree b))) (tree_nodes a) ∙ ap (λ n. suc (expression.nodes a + n)) (tree_nodes b)
tree_nodes (Text.paren a) = tree_nodes a

numbers_proper : (t : Text) → AreProperTokens (tokens t) → HasProperNumbers (expression.tree t)
numbers_proper (Text.num n) a = a.0
numbers_proper (Text.var x) a = tt
numbers_proper (Text.cell x i) a = numbers_proper i (parts IsProper (tokens i) _ a.1.1).0
numbers_proper (Text.neg b) a = numbers_proper b a.1
numbers_proper (Text.inverse b) a = numbers_proper b a.1
numbers_proper (Text.bin o b c) a = let s = parts IsProper (tokens b) (Token.op o ∷ tokens c) a in (numbers_proper b s.0, numbers_proper c s.1.1)
numbers_proper (Text.paren b) a = numbers_proper b (parts IsProper (tokens b) _ a.1).0

expression_formed : (t : Text) → IsWritten t → AreProperTokens (tokens t) → IsWellFormed (expression.tree t)
expression_formed t h a = record { nodes = subst (λ n. n ≤ node_limit) (sym (tree_nodes t)) h.small; numbers = numbers_proper t a }

behind_formed : (ts : List Text) → AllByRecursion IsWritten ts → AreProperTokens (behind_commas (map tokens ts)) → AllByRecursion IsWellFormed (map expression.tree ts)
behind_formed [] h a = tt
behind_formed (t ∷ ts) h a = let s = parts IsProper (tokens t) (behind_commas (map tokens ts)) a.1 in (expression_formed t h.0 s.0, behind_formed ts h.1 s.1)

arguments_formed : (ts : List Text) → AllByRecursion IsWritten ts → AreProperTokens (with_commas (map tokens ts)) → AllByRecursion IsWellFormed (map expression.tree ts)
arguments_formed [] h a = tt
arguments_formed (t ∷ ts) h a = let s = parts IsProper (tokens t) (behind_commas (map tokens ts)) a in (expression_formed t h.0 s.0, behind_formed ts h.1 s.1)

-- statements

call_formed : (ts : List Text) → AllByRecursion IsWritten ts → AreProperTokens (in_parens (with_commas (map tokens ts))) → AllByRecursion IsWellFormed (map expression.tree ts)
call_formed ts h a = arguments_formed ts h (parens_proper (with_commas (map tokens ts)) a)

right_formed : (r : Right Text) → IsRight r → AreProperTokens (right_tokens r) → IsWellFormedRight (right_tree r)
right_formed (Right.value e) h a = expression_formed e h a
right_formed (Right.call f es) h a = call_formed es h a.1
right_formed (Right.spawn f es) h a = call_formed es h a.1.1

statement_formed : (s : Simple Text) → IsSimple s → AreProperTokens (simple_tokens s) → IsWellFormedStatement (simple_tree s)
statement_formed (Simple.let_ x r) h a = right_formed r h a.1.1.1
statement_formed (Simple.set x r) h a = right_formed r h a.1.1
statement_formed (Simple.set_cell x i e) h a = let s = parts IsProper (tokens i) _ a.1.1 in (expression_formed i h.0 s.0, expression_formed e h.1 s.1.1.1)
statement_formed (Simple.call f es) h a = call_formed es h a.1
statement_formed (Simple.return None) h a = tt
statement_formed (Simple.return (Some e)) h a = expression_formed e h a.1
statement_formed (Simple.lock x) h a = tt
statement_formed (Simple.unlock x) h a = tt
statement_formed (Simple.down x) h a = tt
statement_formed (Simple.up x) h a = tt
statement_formed (Simple.join e) h a = expression_formed e h a.1
statement_formed (Simple.print e) h a = expression_formed e h a.1
statement_formed Simple.skip h a = tt

let_named : (s : Simple Text) → AreProperTokens (simple_tokens s) → AllByRecursion IsName (let_names (simple_tree s))
let_named (Simple.let_ x r) a = (a.1.0, tt)
let_named (Simple.set x r) a = tt
let_named (Simple.set_cell x i e) a = tt
let_named (Simple.call f es) a = tt
let_named (Simple.return None) a = tt
let_named (Simple.return (Some e)) a = tt
let_named (Simple.lock x) a = tt
let_named (Simple.unlock x) a = tt
let_named (Simple.down x) a = tt
let_named (Simple.up x) a = tt
let_named (Simple.join e) a = tt
let_named (Simple.print e) a = tt
let_named Simple.skip a = tt

test_formed : (l : ℕ) (word : Keyword) (e : Text) → IsWritten e → AreProperMarks (begun l (test_tokens word e)) → IsWellFormed (expression.tree e)
test_formed l word e h a = expression_formed e h (parens_proper (tokens e) (begun_proper l (test_tokens word e) a).1)

-- what is known of the statements of a block
record IsFormed (n : ℕ) (b : Body) : Type 0 where
  pub form : IsWellFormedBlock n b
  pub names : AllByRecursion IsName (lets b)

block_formed : (n : ℕ) (b : Block) → IsBlock n b → AreProperMarks (block_marks b) → IsFormed n (block_tree b)
block_formed n end h a = record { form = tt; names = tt }
block_formed n (simple l s rest) h a =
    let m = parts IsProperMark (begun l (with_semicolon (simple_tokens s))) (block_marks rest) a in
    let own : AreProperTokens (simple_tokens s) = ended_proper l (simple_tokens s) m.0 in
    let behind = block_formed n rest h.1 m.1 in
    record {
      form = (statement_formed s h.0 own, behind.form);
      names = joined IsName (let_names (simple_tree s)) (lets (block_tree rest)) (let_named s own) behind.names;
    }
block_formed n (if_ l e a rest) h k =
    let m = parts IsProperMark (begun l (test_tokens w.If e) ++ in_braces (block_marks a)) (block_marks rest) k in
    let head = parts IsProperMark (begun l (test_tokens w.If e)) (in_braces (block_marks a)) m.0 in
    let first = block_formed (suc n) a h.0.2 (braces_proper (block_marks a) head.1) in
    let behind = block_formed n rest h.1 m.1 in
    record {
      form = ((test_formed l w.If e h.0.0 head.0, h.0.1, first.form, tt), behind.form);
      names = joined IsName (lets (block_tree a)) (lets (block_tree rest)) first.names behind.names;
    }
block_formed n (if_else l e a b rest) h k =
    let m = parts IsProperMark (begun l (test_tokens w.If e) ++ in_braces (block_marks a) ++ on (Token.word w.Else) ∷ in_braces (block_marks b)) (block_marks rest) k in
    let both = parts IsProperMark (begun l (test_tokens w.If e) ++ in_braces (block_marks a)) (on (Token.word w.Else) ∷ in_braces (block_marks b)) m.0 in
    let head = parts IsProperMark (begun l (test_tokens w.If e)) (in_braces (block_marks a)) both.0 in
    let first = block_formed (suc n) a h.0.2 (braces_proper (block_marks a) head.1) in
    let second = block_formed (suc n) b h.0.3 (braces_proper (block_marks b) both.1.1) in
    let behind = block_formed n rest h.1 m.1 in
    record {
      form = ((test_formed l w.If e h.0.0 head.0, h.0.1, first.form, second.form), behind.form);
      names = joined IsName (lets (block_tree a)) (lets (block_tree b) ++ lets (block_tree rest)) first.names (joined IsName (lets (block_tree b)) (lets (block_tree rest)) second.names behind.names);
    }
block_formed n (while_ l e a rest) h k =
    let m = parts IsProperMark (begun l (test_tokens w.While e) ++ in_braces (block_marks a)) (block_marks rest) k in
    let head = parts IsProperMark (begun l (test_tokens w.While e)) (in_braces (block_marks a)) m.0 in
    let first = block_formed (suc n) a h.0.2 (braces_proper (block_marks a) head.1) in
    let behind = block_formed n rest h.1 m.1 in
    record {
      form = ((test_formed l w.While e h.0.0 head.0, h.0.1, first.form), behind.form);
      names = joined IsName (lets (block_tree a)) (lets (block_tree rest)) first.names behind.names;
    }

-- items

pub record IsFormedFunction (f : Function) : Type 0 where
  pub names : AllByRecursion IsName (locals_of f)
  pub form : IsWellFormedBlock 1 f.body

abbrev IsFormedItem : tree.FileItem → Type 0
IsFormedItem (tree.FileItem.word l x) = IsName x.name × IsWellFormedWord x
IsFormedItem (tree.FileItem.mutex l x) = IsName x
IsFormedItem (tree.FileItem.sema l s) = IsName s.name × IsWellFormedSema s
IsFormedItem (tree.FileItem.func f) = IsName f.name × IsFormedFunction f

declaration_formed : (l : ℕ) (d : Declaration) → IsDeclaration d → AreProperTokens (declaration_tokens d) → IsFormedItem (declaration_tree l d)
declaration_formed l (Declaration.word x none) h a = (a.1.0, zero-le)
declaration_formed l (Declaration.word x (plus n)) h a = (a.1.0, a.1.1.1.0)
declaration_formed l (Declaration.word x (minus zero)) h a = (a.1.0, a.1.1.1.1.0)
declaration_formed l (Declaration.word x (minus (suc n))) h a = (a.1.0, a.1.1.1.1.0)
declaration_formed l (Declaration.array x n) h a = (a.1.0, refl)
declaration_formed l (Declaration.mutex x) h a = a.1.0
declaration_formed l (Declaration.sema x None) h a = (a.1.0, zero-le)
declaration_formed l (Declaration.sema x (Some n)) h a = (a.1.0, h)

names_behind : (xs : List (List ℕ)) → AreProperTokens (behind_commas (map (λ x. Token.name x ∷ []) xs)) → AllByRecursion IsName xs
names_behind [] a = tt
names_behind (x ∷ xs) a = (a.1.0, names_behind xs a.1.1)

params_named : (xs : List (List ℕ)) → AreProperTokens (with_commas (map (λ x. Token.name x ∷ []) xs)) → AllByRecursion IsName xs
params_named [] a = tt
params_named (x ∷ xs) a = (a.0, names_behind xs a.1)

item_formed : (i : ItemForm) → IsItem i → AreProperMarks (item_marks i) → IsFormedItem (item_tree i)
item_formed (declared l d) h a = declaration_formed l d h (ended_proper l (declaration_tokens d) a)
item_formed (func l f params body) h a =
    let m = parts IsProperMark (begun l (head_tokens f params)) (in_braces (block_marks body)) a in
    let head : AreProperTokens (head_tokens f params) = begun_proper l (head_tokens f params) m.0 in
    let b = block_formed 1 body h (braces_proper (block_marks body) m.1) in
    let own : AllByRecursion IsName params = params_named params (parens_proper (with_commas (map (λ x. Token.name x ∷ []) params)) head.1.1) in
    (head.1.0, record { names = joined IsName params (lets (block_tree body)) own b.names; form = b.form })

items_formed : (is : List ItemForm) → AllByRecursion IsItem is → AreProperMarks (flat_map item_marks is) → AllByRecursion IsFormedItem (map item_tree is)
items_formed [] h a = tt
items_formed (i ∷ is) h a = let m = parts IsProperMark (item_marks i) (flat_map item_marks is) a in (item_formed i h.0 m.0, items_formed is h.1 m.1)

-- The form of a program, by the kinds of its items.
record HasKinds (p : Source) : Type 0 where
  pub word_names : AllByRecursion IsName (map (λ (x : Word). x.name) p.words)
  pub mutex_names : AllByRecursion IsName p.mutexes
  pub sema_names : AllByRecursion IsName (map (λ (s : Sema). s.name) p.semas)
  pub function_names : AllByRecursion IsName (map (λ (f : Function). f.name) p.funcs)
  pub words : AllByRecursion IsWellFormedWord p.words
  pub semas : AllByRecursion IsWellFormedSema p.semas
  pub functions : AllByRecursion IsFormedFunction p.funcs

kinds_of : (items : List tree.FileItem) → AllByRecursion IsFormedItem items → HasKinds (source_of_items items)
kinds_of [] h = record { word_names = tt; mutex_names = tt; sema_names = tt; function_names = tt; words = tt; semas = tt; functions = tt }
kinds_of (tree.FileItem.word l x ∷ is) h =
    let k = kinds_of is h.1 in
    record { word_names = (h.0.0, k.word_names); mutex_names = k.mutex_names; sema_names = k.sema_names; function_names = k.function_names; words = (h.0.1, k.words); semas = k.semas; functions = k.functions }
kinds_of (tree.FileItem.mutex l x ∷ is) h =
    let k = kinds_of is h.1 in
    record { word_names = k.word_names; mutex_names = (h.0, k.mutex_names); sema_names = k.sema_names; function_names = k.function_names; words = k.words; semas = k.semas; functions = k.functions }
kinds_of (tree.FileItem.sema l s ∷ is) h =
    let k = kinds_of is h.1 in
    record { word_names = k.word_names; mutex_names = k.mutex_names; sema_names = (h.0.0, k.sema_names); function_names = k.function_names; words = k.words; semas = (h.0.1, k.semas); functions = k.functions }
kinds_of (tree.FileItem.func f ∷ is) h =
    let k = kinds_of is h.1 in
    record { word_names = k.word_names; mutex_names = k.mutex_names; sema_names = k.sema_names; function_names = (h.0.0, k.function_names); words = k.words; semas = k.semas; functions = (h.0.1, k.functions) }

-- The form of a program.
pub record HasForm (p : Source) : Type 0 where
  pub names : AllByRecursion IsName (file_names p)
  pub words : AllByRecursion IsWellFormedWord p.words
  pub semas : AllByRecursion IsWellFormedSema p.semas
  pub functions : AllByRecursion IsFormedFunction p.funcs

form_of : (p : Source) → HasKinds p → HasForm p
form_of p k =
    let W : List (List ℕ) = map (λ (x : Word). x.name) p.words in
    let S : List (List ℕ) = map (λ (s : Sema). s.name) p.semas in
    let F : List (List ℕ) = map (λ (f : Function). f.name) p.funcs in
    record {
      names = joined IsName (W ++ (p.mutexes ++ S)) F (joined IsName W (p.mutexes ++ S) k.word_names (joined IsName p.mutexes S k.mutex_names k.sema_names)) k.function_names;
      words = k.words;
      semas = k.semas;
      functions = k.functions;
    }

pub text_formed : (bytes : List ℕ) (items : List tree.FileItem) → IsTextOf bytes items → HasForm (source_of_items items)
text_formed bytes items h =
    let f : IsFile h.tokens items = h.file in
    let marks : AreProperMarks (flat_map item_marks f.written) = marks_proper _ h.tokens f.spelled (tokens_proper bytes h.tokens h.lexed) in
    form_of (source_of_items items) (kinds_of items (subst (λ z. AllByRecursion IsFormedItem z) f.stands (items_formed f.written f.rules marks)))
