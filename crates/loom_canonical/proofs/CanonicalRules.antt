-- A program with its canonical lines keeps the rules that it keeps.
use Rattle.std.proofs.Common.{ℕ, suc, ◌+◌, ◌≡◌, ◌==◌, ◌≤◌, ◌<◌, true, ◌&&◌, ◌||◌, List, [], ◌∷◌, ◌++◌, length, map, flat_map, Some, None, refl, sym, ap, subst, ◌∙◌, arith, append_assoc, length-append, codes}
use Rattle.std.specs.List.{AllByRecursion}
use Rattle.std.specs.Cmp.Lexicographic.{pointwise}
use Rattle.std.proofs.lemmas.Bool.{lt-ltb}
use Rattle.loom_tree.specs.Tree.{Expression, num, var, cell, neg, inverse, bin, Right, Simple, let_, set, set_cell, return, lock, unlock, down, up, join, print, skip, Body, end, simple, if_, while_, Function, Source}
use Rattle.loom_lang.specs.Rules.{is_in, is_distinct, is_apart, is_word, is_array, takes, is_function, knows, knows_all, knows_call, knows_right, knows_simple, knows_body, counts_call, counts_right, counts_simple, counts_body, let_names, lets, locals_of, statement_lines, is_ascending, shared_names, file_names, KeepsRules, FunctionKeepsRules, FunctionsKeepRules}
use Rattle.loom_lexer.specs.Name.{IsName}
use Rattle.loom_lang.specs.Limits.{function_limit, local_limit, statement_limit}
use Rattle.loom_lang.specs.WellFormed.{IsWellFormedBlock}
use Rattle.loom_lang.specs.Canonical.{height, body_from, function_lines, functions_from, with_canonical_lines}
use Rattle.loom_canonical.proofs.BlockTokens.{if_height, else_height, while_height}
use Rattle.loom_canonical.proofs.ItemTokens.{function_size}

-- Functions with other lines have the same names and parameters.

pub names_from : (fs : List Function) (line : ℕ) → map (λ (f : Function). f.name) (functions_from line fs) ≡ map (λ (f : Function). f.name) fs
names_from [] line = refl
names_from (f ∷ fs) line = ap (λ z. f.name ∷ z) (names_from fs (line + length (function_lines f)))

function_from : (fs : List Function) (line : ℕ) (x : List ℕ) → is_function (functions_from line fs) x ≡ is_function fs x
function_from [] line x = refl
function_from (f ∷ fs) line x = ap (λ z. pointwise ◌==◌ f.name x || z) (function_from fs (line + length (function_lines f)) x)

takes_from : (fs : List Function) (line : ℕ) (x : List ℕ) (n : ℕ) → takes (functions_from line fs) x n ≡ takes fs x n
takes_from [] line x n = refl
takes_from (f ∷ fs) line x n = ap (λ z. (pointwise ◌==◌ f.name x && length f.params == n) || z) (takes_from fs (line + length (function_lines f)) x n)

length_from : (fs : List Function) (line : ℕ) → length (functions_from line fs) ≡ length fs
length_from [] line = refl
length_from (f ∷ fs) line = ap suc (length_from fs (line + length (function_lines f)))

-- A statement names the same in a program with these functions.

abbrev with_functions : Source → List Function → Source
with_functions p fs = record p { funcs = fs }

-- Other functions with the same names and parameters.
record HasSameFunctions (p : Source) (fs : List Function) : Type 0 where
  pub named : (x : List ℕ) → is_function fs x ≡ is_function p.funcs x
  pub taken : (x : List ℕ) (n : ℕ) → takes fs x n ≡ takes p.funcs x n

expression_known : (p : Source) (fs : List Function) (locals : List (List ℕ)) (e : Expression) → knows (with_functions p fs) locals e ≡ knows p locals e
expression_known p fs locals (num n) = refl
expression_known p fs locals (var x) = refl
expression_known p fs locals (cell x i) = ap (λ z. is_array p.words x && z) (expression_known p fs locals i)
expression_known p fs locals (neg a) = expression_known p fs locals a
expression_known p fs locals (inverse a) = expression_known p fs locals a
expression_known p fs locals (bin o a b) = let one = expression_known p fs locals a in let two = expression_known p fs locals b in cc

expressions_known : (p : Source) (fs : List Function) (locals : List (List ℕ)) (es : List Expression) → knows_all (with_functions p fs) locals es ≡ knows_all p locals es
expressions_known p fs locals [] = refl
expressions_known p fs locals (e ∷ es) = let one = expression_known p fs locals e in let two = expressions_known p fs locals es in cc

call_known : (p : Source) (fs : List Function) (locals : List (List ℕ)) (f : List ℕ) (es : List Expression) → HasSameFunctions p fs → knows_call (with_functions p fs) locals f es ≡ knows_call p locals f es
call_known p fs locals f es h = let one = h.named f in let two = expressions_known p fs locals es in cc

right_known : (p : Source) (fs : List Function) (locals : List (List ℕ)) (x : List ℕ) (r : Right Expression) → HasSameFunctions p fs → knows_right (with_functions p fs) locals x r ≡ knows_right p locals x r
right_known p fs locals x (Right.value e) h = ap (λ z. (is_in x locals || is_word p.words x) && z) (expression_known p fs locals e)
right_known p fs locals x (Right.call f es) h = ap (λ z. is_in x locals && z) (call_known p fs locals f es h)
right_known p fs locals x (Right.spawn f es) h = ap (λ z. is_in x locals && z) (call_known p fs locals f es h)

statement_known : (p : Source) (fs : List Function) (locals : List (List ℕ)) (s : Simple Expression) → HasSameFunctions p fs → knows_simple (with_functions p fs) locals s ≡ knows_simple p locals s
statement_known p fs locals (let_ x r) h = right_known p fs locals x r h
statement_known p fs locals (set x r) h = right_known p fs locals x r h
statement_known p fs locals (set_cell x i e) h = let one = expression_known p fs locals i in let two = expression_known p fs locals e in cc
statement_known p fs locals (Simple.call f es) h = call_known p fs locals f es h
statement_known p fs locals (return None) h = refl
statement_known p fs locals (return (Some e)) h = expression_known p fs locals e
statement_known p fs locals (lock x) h = refl
statement_known p fs locals (unlock x) h = refl
statement_known p fs locals (down x) h = refl
statement_known p fs locals (up x) h = refl
statement_known p fs locals (join e) h = expression_known p fs locals e
statement_known p fs locals (print e) h = expression_known p fs locals e
statement_known p fs locals skip h = refl

call_counted : (p : Source) (fs : List Function) (f : List ℕ) (es : List Expression) → HasSameFunctions p fs → counts_call (with_functions p fs) f es ≡ counts_call p f es
call_counted p fs f es h = let one = h.named f in let two = h.taken f (length es) in cc

right_counted : (p : Source) (fs : List Function) (r : Right Expression) → HasSameFunctions p fs → counts_right (with_functions p fs) r ≡ counts_right p r
right_counted p fs (Right.value e) h = refl
right_counted p fs (Right.call f es) h = call_counted p fs f es h
right_counted p fs (Right.spawn f es) h = call_counted p fs f es h

statement_counted : (p : Source) (fs : List Function) (s : Simple Expression) → HasSameFunctions p fs → counts_simple (with_functions p fs) s ≡ counts_simple p s
statement_counted p fs (let_ x r) h = right_counted p fs r h
statement_counted p fs (set x r) h = right_counted p fs r h
statement_counted p fs (set_cell x i e) h = refl
statement_counted p fs (Simple.call f es) h = call_counted p fs f es h
statement_counted p fs (return e) h = refl
statement_counted p fs (lock x) h = refl
statement_counted p fs (unlock x) h = refl
statement_counted p fs (down x) h = refl
statement_counted p fs (up x) h = refl
statement_counted p fs (join e) h = refl
statement_counted p fs (print e) h = refl
statement_counted p fs skip h = refl

-- Statements with canonical lines

-- the line on which what is behind an `if` begins
abbrev behind_if : ℕ → Body → Body → ℕ
behind_if line a end = line + height a + 2
behind_if line a b = line + height a + height b + 3

if_from : (line l : ℕ) (e : Expression) (a b rest : Body) → body_from line (if_ l e a b rest) ≡ if_ line e (body_from (suc line) a) (body_from (line + height a + 2) b) (body_from (behind_if line a b) rest)
if_from line l e a end rest = refl
if_from line l e a (simple m s c) rest = refl
if_from line l e a (if_ m i c d more) rest = refl
if_from line l e a (while_ m i c more) rest = refl

behind_if_end : (line l : ℕ) (e : Expression) (a b rest : Body) → behind_if line a b + height rest ≡ line + height (if_ l e a b rest)
behind_if_end line l e a end rest = let size = if_height l e a rest in omega arith
behind_if_end line l e a (simple m s c) rest = let size = else_height l e a (simple m s c) rest (λ xs. refl) in omega arith
behind_if_end line l e a (if_ m i c d more) rest = let size = else_height l e a (if_ m i c d more) rest (λ xs. refl) in omega arith
behind_if_end line l e a (while_ m i c more) rest = let size = else_height l e a (while_ m i c more) rest (λ xs. refl) in omega arith

behind_else : (line : ℕ) (a b : Body) → line + height a + 2 + height b ≤ behind_if line a b
behind_else line a end = omega arith
behind_else line a (simple m s c) = omega arith
behind_else line a (if_ m i c d more) = omega arith
behind_else line a (while_ m i c more) = omega arith

-- Other statements differ in nothing of which the rules speak, but in their lines.
record AreTheSame (p : Source) (fs : List Function) (b c : Body) : Type 0 where
  pub known : (locals : List (List ℕ)) → knows_body (with_functions p fs) locals c ≡ knows_body p locals b
  pub counted : counts_body (with_functions p fs) c ≡ counts_body p b
  pub declared : lets c ≡ lets b
  pub number : length (statement_lines c) ≡ length (statement_lines b)
  pub form : (n : ℕ) → IsWellFormedBlock n b → IsWellFormedBlock n c

same_body : (p : Source) (fs : List Function) → HasSameFunctions p fs → (b : Body) (line : ℕ) → AreTheSame p fs b (body_from line b)
same_body p fs h end line = record { known = λ locals. refl; counted = refl; declared = refl; number = refl; form = λ n k. k }
same_body p fs h (simple l s rest) line =
    let more = same_body p fs h rest (suc line) in
    let count = statement_counted p fs s h in
    let declared = more.declared in
    let number = more.number in
    let counted = more.counted in
    record {
      known = λ locals. let one = statement_known p fs locals s h in let two = more.known locals in cc;
      counted = cc;
      declared = ap (λ z. let_names s ++ z) declared;
      number = ap suc number;
      form = λ n k. (k.0, more.form n k.1);
    }
same_body p fs h (if_ l e a b rest) line =
    let one = same_body p fs h a (suc line) in
    let two = same_body p fs h b (line + height a + 2) in
    let more = same_body p fs h rest (behind_if line a b) in
    let P : Body → Type 0 = λ z. AreTheSame p fs (if_ l e a b rest) z in
    let whole : P (if_ line e (body_from (suc line) a) (body_from (line + height a + 2) b) (body_from (behind_if line a b) rest)) = record {
      known = λ locals. let zero = expression_known p fs locals e in let first = one.known locals in let second = two.known locals in let third = more.known locals in cc;
      counted = let first = one.counted in let second = two.counted in let third = more.counted in cc;
      declared = let first = one.declared in let second = two.declared in let third = more.declared in cc;
      number = let first = one.number in let second = two.number in let third = more.number in omega (arith, length-append {A = ℕ});
      form = λ n k. ((k.0.0, k.0.1, one.form (suc n) k.0.2, two.form (suc n) k.0.3), more.form n k.1);
    } in
    subst P (sym (if_from line l e a b rest)) whole
same_body p fs h (while_ l e a rest) line =
    let one = same_body p fs h a (suc line) in
    let more = same_body p fs h rest (line + height a + 2) in
    record {
      known = λ locals. let zero = expression_known p fs locals e in let first = one.known locals in let third = more.known locals in cc;
      counted = let first = one.counted in let third = more.counted in cc;
      declared = let first = one.declared in let third = more.declared in cc;
      number = let first = one.number in let third = more.number in omega (arith, length-append {A = ℕ});
      form = λ n k. ((k.0.0, k.0.1, one.form (suc n) k.0.2), more.form n k.1);
    }

-- Each statement begins on a later line than the one before it.

ascends : (before line : ℕ) (ls : List ℕ) → before < line → is_ascending line ls ≡ true → is_ascending before (line ∷ ls) ≡ true
ascends before line ls h k = rw (lt-ltb before line h) k

body_ascends : (b : Body) (line before : ℕ) (more : List ℕ) → before < line → ((last : ℕ) → last < line + height b → is_ascending last more ≡ true) → is_ascending before (statement_lines (body_from line b) ++ more) ≡ true
body_ascends end line before more h k = k before (omega arith)
body_ascends (simple l s rest) line before more h k = ascends before line _ h (body_ascends rest (suc line) line more (omega arith) (λ last i. k last (omega arith)))
body_ascends (if_ l e a b rest) line before more h k =
    let A : List ℕ = statement_lines (body_from (suc line) a) in
    let B : List ℕ = statement_lines (body_from (line + height a + 2) b) in
    let R : List ℕ = statement_lines (body_from (behind_if line a b) rest) in
    let size = behind_if_end line l e a b rest in
    let above = behind_else line a b in
    let last_part : (last : ℕ) → last < line + height a + 2 + height b → is_ascending last (R ++ more) ≡ true =
    λ last i. body_ascends rest (behind_if line a b) last more (omega arith) (λ z j. k z (omega arith)) in
    let second : (last : ℕ) → last < suc line + height a → is_ascending last (B ++ (R ++ more)) ≡ true =
    λ last i. body_ascends b (line + height a + 2) last (R ++ more) (omega arith) last_part in
    let first : is_ascending line (A ++ (B ++ (R ++ more))) ≡ true = body_ascends a (suc line) line (B ++ (R ++ more)) (omega arith) second in
    let group : (A ++ (B ++ R)) ++ more ≡ A ++ (B ++ (R ++ more)) = simp append_assoc in
    let whole : is_ascending line ((A ++ (B ++ R)) ++ more) ≡ true = subst (λ z. is_ascending line z ≡ true) (sym group) first in
    subst (λ z. is_ascending before (statement_lines z ++ more) ≡ true) (sym (if_from line l e a b rest)) (ascends before line _ h whole)
body_ascends (while_ l e a rest) line before more h k =
    let A : List ℕ = statement_lines (body_from (suc line) a) in
    let R : List ℕ = statement_lines (body_from (line + height a + 2) rest) in
    let size = while_height l e a rest in
    let second : (last : ℕ) → last < suc line + height a → is_ascending last (R ++ more) ≡ true =
    λ last i. body_ascends rest (line + height a + 2) last more (omega arith) (λ z j. k z (omega arith)) in
    let first : is_ascending line (A ++ (R ++ more)) ≡ true = body_ascends a (suc line) line (R ++ more) (omega arith) second in
    let whole : is_ascending line ((A ++ R) ++ more) ≡ true = subst (λ z. is_ascending line z ≡ true) (sym (append_assoc A R more)) first in
    ascends before line _ h whole

abbrev function_statement_lines : List Function → List ℕ
function_statement_lines fs = flat_map (λ (f : Function). statement_lines f.body) fs

functions_ascend : (fs : List Function) (line before : ℕ) → before < line → is_ascending before (function_statement_lines (functions_from line fs)) ≡ true
functions_ascend [] line before h = refl
functions_ascend (f ∷ fs) line before h =
    let size = function_size f in
    body_ascends f.body (suc line) before (function_statement_lines (functions_from (line + length (function_lines f)) fs)) (omega arith)
    (λ last i. functions_ascend fs (line + length (function_lines f)) last (omega arith))

-- The rules

function_keeps : (p : Source) (fs : List Function) → HasSameFunctions p fs → file_names (with_functions p fs) ≡ file_names p → (f : Function) (line : ℕ) → FunctionKeepsRules p f
    → FunctionKeepsRules (with_functions p fs) (record f { line = line; body = body_from (suc line) f.body })
function_keeps p fs h names f line k =
    let q : Source = with_functions p fs in
    let b : Body = body_from (suc line) f.body in
    let same = same_body p fs h f.body (suc line) in
    let locals : f.params ++ lets b ≡ locals_of f = ap (λ z. f.params ++ z) same.declared in
    record {
      once = subst (λ z. is_distinct z ≡ true) (sym locals) k.once;
      apart = subst (λ z. is_apart z (file_names q) ≡ true) (sym locals) (subst (λ z. is_apart (locals_of f) z ≡ true) (sym names) k.apart);
      known = subst (λ z. knows_body q z b ≡ true) (sym locals) (same.known (locals_of f) ∙ k.known);
      counted = same.counted ∙ k.counted;
      params = k.params;
      locals = subst (λ z. length z ≤ local_limit) (sym locals) k.locals;
      names = subst (λ z. AllByRecursion IsName z) (sym locals) k.names;
      form = same.form 1 k.form;
    }

functions_keep : (p : Source) (fs : List Function) → HasSameFunctions p fs → file_names (with_functions p fs) ≡ file_names p → (gs : List Function) (line : ℕ) → FunctionsKeepRules p gs → FunctionsKeepRules (with_functions p fs) (functions_from line gs)
functions_keep p fs h names [] line k = tt
functions_keep p fs h names (g ∷ gs) line k = (function_keeps p fs h names g line k.0, functions_keep p fs h names gs (line + length (function_lines g)) k.1)

same_number : (p : Source) (fs : List Function) → HasSameFunctions p fs → (gs : List Function) (line : ℕ) → length (function_statement_lines (functions_from line gs)) ≡ length (function_statement_lines gs)
same_number p fs h [] line = refl
same_number p fs h (g ∷ gs) line =
    let one : length (statement_lines (body_from (suc line) g.body)) ≡ length (statement_lines g.body) = (same_body p fs h g.body (suc line)).number in
    let two = same_number p fs h gs (line + length (function_lines g)) in
    omega (arith, length-append {A = ℕ})

pub canonical_rules : (p : Source) → KeepsRules p → KeepsRules (with_canonical_lines p)
canonical_rules p k =
    let line : ℕ = 1 + length p.words + length p.mutexes + length p.semas in
    let fs : List Function = functions_from line p.funcs in
    let h : HasSameFunctions p fs = record { named = λ x. function_from p.funcs line x; taken = λ x n. takes_from p.funcs line x n } in
    let names : file_names (with_functions p fs) ≡ file_names p = ap (λ z. shared_names p ++ z) (names_from p.funcs line) in
    record {
      once = subst (λ z. is_distinct z ≡ true) (sym names) k.once;
      functions = functions_keep p fs h names p.funcs line k.functions;
      main = takes_from p.funcs line (codes "main") 0 ∙ k.main;
      lines = functions_ascend p.funcs line 0 (omega arith);
      function_count = subst (λ z. z ≤ function_limit) (sym (length_from p.funcs line)) k.function_count;
      name_count = k.name_count;
      cells = k.cells;
      statements = subst (λ z. z ≤ statement_limit) (sym (same_number p fs h p.funcs line)) k.statements;
      names = subst (λ z. AllByRecursion IsName z) (sym names) k.names;
      words = k.words;
      semas = k.semas;
    }
