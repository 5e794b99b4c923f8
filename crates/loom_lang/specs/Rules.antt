-- What a program must keep: its names, and the limits of its size.
use Rattle.std.specs.Prelude.{ℕ, ◌+◌, ◌≤◌, ◌≡◌, ◌==◌, nat_lt, Bool, true, false, not, ◌&&◌, ◌||◌, List, [], ◌∷◌, ◌++◌, length, map, flat_map, Option, Some, None, is_none, is_some, codes}
use Rattle.std.specs.Cmp.Lexicographic.{pointwise}
use Rattle.std.specs.List.{AllByRecursion}
use Rattle.loom_tree.specs.declared.item.Word.{Word}
use Rattle.loom_tree.specs.declared.item.Sema.{Sema}
use Rattle.loom_tree.specs.Tree.{Expression, num, var, cell, neg, inverse, bin, Right, Simple, let_, set, set_cell, return, lock, unlock, down, up, join, print, skip, Body, end, simple, if_, while_, Function, Source}
use Rattle.loom_lexer.specs.Name.{IsName}
use Rattle.loom_lang.specs.Limits.{function_limit, param_limit, local_limit, name_limit, cell_limit, statement_limit}
use Rattle.loom_lang.specs.WellFormed.{IsWellFormedBlock, IsWellFormedWord, IsWellFormedSema}

-- names

abbrev pub is_in : List ℕ → List (List ℕ) → Bool
is_in x [] = false
is_in x (y ∷ ys) = pointwise ◌==◌ y x || is_in x ys

-- no name stands twice
abbrev pub is_distinct : List (List ℕ) → Bool
is_distinct [] = true
is_distinct (x ∷ xs) = not (is_in x xs) && is_distinct xs

-- none of these names is one of those
abbrev pub is_apart : List (List ℕ) → List (List ℕ) → Bool
is_apart [] names = true
is_apart (x ∷ xs) names = not (is_in x names) && is_apart xs names

-- a plain word has that name
abbrev pub is_word : List Word → List ℕ → Bool
is_word [] x = false
is_word (w ∷ ws) x = (pointwise ◌==◌ w.name x && is_none w.cells) || is_word ws x

-- an array has that name
abbrev pub is_array : List Word → List ℕ → Bool
is_array [] x = false
is_array (w ∷ ws) x = (pointwise ◌==◌ w.name x && is_some w.cells) || is_array ws x

-- a semaphore has that name
abbrev pub is_sema : List Sema → List ℕ → Bool
is_sema [] x = false
is_sema (s ∷ ss) x = pointwise ◌==◌ s.name x || is_sema ss x

-- a function has that name and so many parameters
abbrev pub takes : List Function → List ℕ → ℕ → Bool
takes [] x n = false
takes (f ∷ fs) x n = (pointwise ◌==◌ f.name x && length f.params == n) || takes fs x n

-- a function has that name
abbrev pub is_function : List Function → List ℕ → Bool
is_function [] x = false
is_function (f ∷ fs) x = pointwise ◌==◌ f.name x || is_function fs x

-- what a function's statements name, each in its role; the locals are those of the function

abbrev pub knows : Source → List (List ℕ) → Expression → Bool
knows p locals (num n) = true
knows p locals (var x) = is_in x locals || is_word p.words x
knows p locals (cell x i) = is_array p.words x && knows p locals i
knows p locals (neg a) = knows p locals a
knows p locals (inverse a) = knows p locals a
knows p locals (bin o a b) = knows p locals a && knows p locals b

abbrev pub knows_all : Source → List (List ℕ) → List Expression → Bool
knows_all p locals [] = true
knows_all p locals (e ∷ es) = knows p locals e && knows_all p locals es

-- a call or a spawn of a function
abbrev pub knows_call : Source → List (List ℕ) → List ℕ → List Expression → Bool
knows_call p locals f es = is_function p.funcs f && knows_all p locals es

-- what is put into a name by `=`: a local takes anything, a word a value alone
abbrev pub knows_right : Source → List (List ℕ) → List ℕ → Right Expression → Bool
knows_right p locals x (Right.value e) = (is_in x locals || is_word p.words x) && knows p locals e
knows_right p locals x (Right.call f es) = is_in x locals && knows_call p locals f es
knows_right p locals x (Right.spawn f es) = is_in x locals && knows_call p locals f es

abbrev pub knows_returned : Source → List (List ℕ) → Option Expression → Bool
knows_returned p locals None = true
knows_returned p locals (Some e) = knows p locals e

abbrev pub knows_simple : Source → List (List ℕ) → Simple Expression → Bool
knows_simple p locals (let_ x r) = knows_right p locals x r
knows_simple p locals (set x r) = knows_right p locals x r
knows_simple p locals (set_cell x i e) = is_array p.words x && (knows p locals i && knows p locals e)
knows_simple p locals (Simple.call f es) = knows_call p locals f es
knows_simple p locals (return e) = knows_returned p locals e
knows_simple p locals (lock x) = is_in x p.mutexes
knows_simple p locals (unlock x) = is_in x p.mutexes
knows_simple p locals (down x) = is_sema p.semas x
knows_simple p locals (up x) = is_sema p.semas x
knows_simple p locals (join e) = knows p locals e
knows_simple p locals (print e) = knows p locals e
knows_simple p locals skip = true

abbrev pub knows_body : Source → List (List ℕ) → Body → Bool
knows_body p locals end = true
knows_body p locals (simple l s rest) = knows_simple p locals s && knows_body p locals rest
knows_body p locals (if_ l e a b rest) = knows p locals e && (knows_body p locals a && (knows_body p locals b && knows_body p locals rest))
knows_body p locals (while_ l e a rest) = knows p locals e && (knows_body p locals a && knows_body p locals rest)

-- Where a call or a spawn names a function of the program, it brings one argument for each parameter.

abbrev pub counts_call : Source → List ℕ → List Expression → Bool
counts_call p f es = not (is_function p.funcs f) || takes p.funcs f (length es)

abbrev pub counts_right : Source → Right Expression → Bool
counts_right p (Right.value e) = true
counts_right p (Right.call f es) = counts_call p f es
counts_right p (Right.spawn f es) = counts_call p f es

abbrev pub counts_simple : Source → Simple Expression → Bool
counts_simple p (let_ x r) = counts_right p r
counts_simple p (set x r) = counts_right p r
counts_simple p (Simple.call f es) = counts_call p f es
counts_simple p _ = true

abbrev pub counts_body : Source → Body → Bool
counts_body p end = true
counts_body p (simple l s rest) = counts_simple p s && counts_body p rest
counts_body p (if_ l e a b rest) = counts_body p a && (counts_body p b && counts_body p rest)
counts_body p (while_ l e a rest) = counts_body p a && counts_body p rest

-- the names of the `let` statements, in the order of the text
abbrev pub let_names : Simple Expression → List (List ℕ)
let_names (let_ x r) = x ∷ []
let_names _ = []

abbrev pub lets : Body → List (List ℕ)
lets end = []
lets (simple l s rest) = let_names s ++ lets rest
lets (if_ l e a b rest) = lets a ++ (lets b ++ lets rest)
lets (while_ l e a rest) = lets a ++ lets rest

abbrev pub locals_of : Function → List (List ℕ)
locals_of f = f.params ++ lets f.body

-- the lines on which statements begin, in the order of the text
abbrev pub statement_lines : Body → List ℕ
statement_lines end = []
statement_lines (simple l s rest) = l ∷ statement_lines rest
statement_lines (if_ l e a b rest) = l ∷ (statement_lines a ++ (statement_lines b ++ statement_lines rest))
statement_lines (while_ l e a rest) = l ∷ (statement_lines a ++ statement_lines rest)

abbrev pub lines_of : Source → List ℕ
lines_of p = flat_map (λ (f : Function). statement_lines f.body) p.funcs

-- each is above the one before it
abbrev pub is_ascending : ℕ → List ℕ → Bool
is_ascending before [] = true
is_ascending before (l ∷ ls) = nat_lt before l && is_ascending l ls

-- the names of the file: one set for the words, arrays, mutexes, semaphores and functions
abbrev pub shared_names : Source → List (List ℕ)
shared_names p = map (λ (w : Word). w.name) p.words ++ (p.mutexes ++ map (λ (s : Sema). s.name) p.semas)

abbrev pub file_names : Source → List (List ℕ)
file_names p = shared_names p ++ map (λ (f : Function). f.name) p.funcs

-- how many cells the words and arrays have, a plain word one
abbrev pub cells_in : Word → ℕ
cells_in w = cells_or_one w.cells
  where
    cells_or_one : Option ℕ → ℕ
    cells_or_one None = 1
    cells_or_one (Some n) = n

abbrev pub cell_count : List Word → ℕ
cell_count [] = 0
cell_count (w ∷ ws) = cells_in w + cell_count ws

-- what is asked of each function by itself
pub record FunctionKeepsRules (p : Source) (f : Function) : Type 0 where
  -- a local is declared once, and is no name of the file
  pub once : is_distinct (locals_of f) ≡ true
  pub apart : is_apart (locals_of f) (file_names p) ≡ true
  -- each name is known in its role
  pub known : knows_body p (locals_of f) f.body ≡ true
  -- calls and spawns have the right number of arguments
  pub counted : counts_body p f.body ≡ true
  pub params : length f.params ≤ param_limit
  pub locals : length (locals_of f) ≤ local_limit
  -- Locals are names. The names in its statements are known, and so are names too.
  pub names : AllByRecursion IsName (locals_of f)
  -- the body is the first of the blocks
  pub form : IsWellFormedBlock 1 f.body

abbrev pub FunctionsKeepRules : Source → List Function → Type 0
FunctionsKeepRules p [] = Unit {0}
FunctionsKeepRules p (f ∷ fs) = FunctionKeepsRules p f × FunctionsKeepRules p fs

-- A program keeps the rules on names and the limits, and has the form that the grammar asks for.
pub record KeepsRules (p : Source) : Type 0 where
  -- a name of the file is declared once
  pub once : is_distinct (file_names p) ≡ true
  pub functions : FunctionsKeepRules p p.funcs
  -- There is a `main`, and it takes nothing.
  pub main : takes p.funcs (codes "main") 0 ≡ true
  -- In the order of the text each statement begins on a later line than the one before it.
  pub lines : is_ascending 0 (lines_of p) ≡ true
  pub function_count : length p.funcs ≤ function_limit
  pub name_count : length (shared_names p) ≤ name_limit
  pub cells : cell_count p.words ≤ cell_limit
  pub statements : length (lines_of p) ≤ statement_limit
  pub names : AllByRecursion IsName (file_names p)
  pub words : AllByRecursion IsWellFormedWord p.words
  pub semas : AllByRecursion IsWellFormedSema p.semas
