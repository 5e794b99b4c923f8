-- The numbers in instructions are those of the program.
use Rattle.std.proofs.Common.{ℕ, suc, ◌+◌, ◌≡◌, ◌==◌, ◌≤◌, ◌<◌, List, [], ◌∷◌, ◌++◌, Bool, true, false, ◌&&◌, ◌||◌, Option, Some, None, option_map, is_none, refl, sym, ap, subst, map, slice_get, length, if◌then◌else◌, ⊎_elim, arith}
use Rattle.std.specs.Cmp.Lexicographic.{pointwise, same_text}
use Rattle.std.proofs.lemmas.Bool.{eqb-true}
use Rattle.std.proofs.lemmas.List.{length-map}
use Rattle.loom_tree.specs.declared.item.Word.{Word}
use Rattle.loom_tree.specs.declared.item.Sema.{Sema}
use Rattle.loom_tree.specs.Tree.{Function, Source}
use Rattle.loom_lang.specs.Numbers.{index_of, Cells, cells_from, cells_named, sema_number}
use Rattle.loom_lang.specs.Rules.{cells_in, cell_count, is_in, is_distinct, is_word, is_sema, takes, shared_names, KeepsRules}
use Rattle.loom_flow.specs.declared.code.CodeStep.{CodeStep}
use Rattle.loom_flow.specs.declared.code.CodeStep.TheVariants as s
use Rattle.loom_flow.specs.declared.code.Ask.TheVariants.{Read, ReadCell, Write, WriteCell, Lock, Unlock, Down, Up, Spawn}
use Rattle.loom_flow.specs.declared.code.Control.TheVariants.{Call}
use Rattle.loom_flow.specs.declared.code.Instr.{Instr}
use Rattle.loom_flow.specs.Laws.{HasParams, HasLocals, HasProgramNumbers}
use Rattle.loom_flow.specs.FlatCode.{or_zero, first_cell, array_of, lowered}
use Rattle.loom_flow.proofs.EachStep.{HoldsOf, is_unnumbered, each_step}
use Rattle.loom_flow.proofs.Roles.{never, sema_in, distinct_front}
use Rattle.loom_flow.proofs.Truths.{both, or_else}

-- Words and arrays

cells_least : (w : Word) → or_zero w.cells ≤ cells_in w
cells_least w = elim w.cells as (λ o. or_zero o ≤ cells_in (record w { cells = o })) [ None ↦ omega arith | Some k ↦ omega arith ]

one_cell : (w : Word) → is_none w.cells ≡ true → cells_in w ≡ 1
one_cell w h = elim w.cells as (λ o. is_none o ≡ true → cells_in (record w { cells = o }) ≡ 1) [ None ↦ λ e. refl | Some k ↦ λ e. cc ] h

abbrev IsWithin : Option Cells → ℕ → Type 0
IsWithin c n = (array_of c).first + (array_of c).count ≤ n

array_within : (n : ℕ) (ws : List Word) (x : List ℕ) → IsWithin (cells_from n ws x) (n + cell_count ws)
array_within n [] x = omega arith
array_within n (w ∷ ws) x = by (pointwise ◌==◌ w.name x) (cells_from (n + cells_in w) ws x) (array_within (n + cells_in w) ws x) (cells_least w)
  where
    by : (b : Bool) (o : Option Cells) → IsWithin o (n + cells_in w + cell_count ws) → or_zero w.cells ≤ cells_in w
        → IsWithin (if b then Some (record { first = n; count = w.cells }) else o) (n + (cells_in w + cell_count ws))
    by true o again least = omega arith
    by false o again least = omega arith

pub word_in : (ws : List Word) (x : List ℕ) → is_word ws x ≡ true → is_in x (map (λ (w : Word). w.name) ws) ≡ true
word_in [] x h = cc
word_in (w ∷ ws) x h =
    elim (pointwise ◌==◌ w.name x) as (λ b. ((b && is_none w.cells) || is_word ws x) ≡ true → (b || is_in x (map (λ (v : Word). v.name) ws)) ≡ true) [
      | true ↦ λ e. refl
      | false ↦ λ e. word_in ws x e
    ] h

word_within : (n : ℕ) (ws : List Word) (x : List ℕ) → is_distinct (map (λ (w : Word). w.name) ws) ≡ true → is_word ws x ≡ true → first_cell (cells_from n ws x) < n + cell_count ws
word_within n [] x d h = cc
word_within n (w ∷ ws) x d h = by (pointwise ◌==◌ w.name x) refl h (word_within (n + cells_in w) ws x (both _ _ d).1)
  where
    names : List (List ℕ)
    names = map (λ (v : Word). v.name) ws

    by : (b : Bool) → pointwise ◌==◌ w.name x ≡ b → ((b && is_none w.cells) || is_word ws x) ≡ true
        → (is_word ws x ≡ true → first_cell (cells_from (n + cells_in w) ws x) < n + cells_in w + cell_count ws)
        → first_cell (if b then Some (record { first = n; count = w.cells }) else cells_from (n + cells_in w) ws x) < n + (cells_in w + cell_count ws)
    by true e g again = ⊎_elim (λ (here : is_none w.cells ≡ true). (let one : cells_in w ≡ 1 = one_cell w here in omega (arith, one)))
        (λ (later : is_word ws x ≡ true). absurd (never (is_in w.name names) (subst (λ (y : List ℕ). is_in y names ≡ true) (sym (same_text w.name x (sym e))) (word_in ws x later)) (both _ _ d).0))
        (or_else (is_none w.cells) (is_word ws x) g)
    by false e g again = let f : first_cell (cells_from (n + cells_in w) ws x) < n + cells_in w + cell_count ws = again g in omega (arith, f)

word_there : (p : Source) (x : List ℕ) → KeepsRules p → is_word p.words x ≡ true → first_cell (cells_named p x) < cell_count p.words
word_there p x l h =
    let names : List (List ℕ) = map (λ (w : Word). w.name) p.words in
    let within : first_cell (cells_from 0 p.words x) < 0 + cell_count p.words = word_within 0 p.words x (distinct_front names _ (distinct_front (shared_names p) _ l.once)) h in
    omega (arith, within)

array_there : (p : Source) (x : List ℕ) → IsWithin (cells_named p x) (cell_count p.words)
array_there p x = let within : IsWithin (cells_from 0 p.words x) (0 + cell_count p.words) = array_within 0 p.words x in omega (arith, within)

-- Mutexes and semaphores

place_behind : (n : ℕ) (o : Option ℕ) → or_zero o < n → or_zero (option_map suc o) < suc n
place_behind n None h = omega arith
place_behind n (Some k) h = omega (arith, h)

name_within : (x : List ℕ) (ys : List (List ℕ)) → is_in x ys ≡ true → or_zero (index_of x ys) < length ys
name_within x [] h = cc
name_within x (y ∷ ys) h =
    elim (pointwise ◌==◌ y x) as (λ b. (b || is_in x ys) ≡ true → or_zero (if b then Some 0 else option_map suc (index_of x ys)) < suc (length ys)) [
      | true ↦ λ e. omega arith
      | false ↦ λ e. place_behind (length ys) (index_of x ys) (name_within x ys e)
    ] h

sema_within : (p : Source) (x : List ℕ) → is_sema p.semas x ≡ true → or_zero (sema_number p x) < length p.semas
sema_within p x h =
    let names : List (List ℕ) = map (λ (r : Sema). r.name) p.semas in
    let within : or_zero (index_of x names) < length names = name_within x names (sema_in p.semas x h) in
    let many : length names ≡ length p.semas = length-map p.semas (λ (r : Sema). r.name) in
    omega (arith, within, many)

-- Functions

distinct_behind : (xs ys : List (List ℕ)) → is_distinct (xs ++ ys) ≡ true → is_distinct ys ≡ true
distinct_behind [] ys h = h
distinct_behind (x ∷ xs) ys h = distinct_behind xs ys (both _ _ h).1

taking_in : (fs : List Function) (x : List ℕ) (n : ℕ) → takes fs x n ≡ true → is_in x (map (λ (f : Function). f.name) fs) ≡ true
taking_in [] x n h = cc
taking_in (f ∷ fs) x n h =
    elim (pointwise ◌==◌ f.name x) as (λ b. ((b && length f.params == n) || takes fs x n) ≡ true → (b || is_in x (map (λ (g : Function). g.name) fs)) ≡ true) [
      | true ↦ λ e. refl
      | false ↦ λ e. taking_in fs x n e
    ] h

-- the first function of a name, where it has so many parameters
abbrev Taken : List Function → Option ℕ → ℕ → Type 0
Taken fs o n = (k : ℕ) × (g : Function) × (o ≡ Some k) × (slice_get fs k ≡ Some g) × (n ≡ length g.params)

taken_named : (fs : List Function) (x : List ℕ) (n : ℕ) → is_distinct (map (λ (f : Function). f.name) fs) ≡ true → takes fs x n ≡ true → Taken fs (index_of x (map (λ (f : Function). f.name) fs)) n
taken_named [] x n d h = cc
taken_named (f ∷ fs) x n d h = by (pointwise ◌==◌ f.name x) refl h (taken_named fs x n (both _ _ d).1)
  where
    names : List (List ℕ)
    names = map (λ (g : Function). g.name) fs

    by : (b : Bool) → pointwise ◌==◌ f.name x ≡ b → ((b && length f.params == n) || takes fs x n) ≡ true → (takes fs x n ≡ true → Taken fs (index_of x names) n)
        → Taken (f ∷ fs) (if b then Some 0 else option_map suc (index_of x names)) n
    by true e g again = ⊎_elim (λ (here : (length f.params == n) ≡ true). (0, f, refl, refl, sym (eqb-true (length f.params) n here)))
        (λ (later : takes fs x n ≡ true). absurd (never (is_in f.name names) (subst (λ (y : List ℕ). is_in y names ≡ true) (sym (same_text f.name x (sym e))) (taking_in fs x n later)) (both _ _ d).0))
        (or_else (length f.params == n) (takes fs x n) g)
    by false e g again = let t : Taken fs (index_of x names) n = again g in (suc t.0, t.1, ap (option_map suc) t.2, t.3, t.4)

params_there : (p : Source) (f : List ℕ) (n : ℕ) → KeepsRules p → takes p.funcs f n ≡ true → HasParams p (or_zero (index_of f (map (λ (g : Function). g.name) p.funcs))) n
params_there p f n l h =
    let t : Taken p.funcs (index_of f (map (λ (g : Function). g.name) p.funcs)) n = taken_named p.funcs f n (distinct_behind (shared_names p) _ l.once) h in
    (t.1, subst (λ (o : Option ℕ). slice_get p.funcs (or_zero o) ≡ Some t.1) (sym t.2) t.3, t.4)

-- Instructions

other_numbers : (p : Source) (x : CodeStep) → is_unnumbered x ≡ true → HasProgramNumbers p x
other_numbers p (s.Ask (Read w d)) h = cc
other_numbers p (s.Ask (ReadCell a n d)) h = cc
other_numbers p (s.Ask (Write w a)) h = cc
other_numbers p (s.Ask (WriteCell a n b)) h = cc
other_numbers p (s.Ask (Lock m)) h = cc
other_numbers p (s.Ask (Unlock m)) h = cc
other_numbers p (s.Ask (Down x)) h = cc
other_numbers p (s.Ask (Up x)) h = cc
other_numbers p (s.Ask (Spawn f n d)) h = cc
other_numbers p (s.Control (Call f n)) h = cc
other_numbers p _ h = tt

numbers_hold : (p : Source) → KeepsRules p → HoldsOf p (HasProgramNumbers p)
numbers_hold p l = record {
  other = λ x none locals. other_numbers p x none;
  read = λ x d to h. word_there p x l h;
  write = λ x a from h. word_there p x l h;
  read_cell = λ x n d from to h. array_there p x;
  write_cell = λ x n b from second h. array_there p x;
  lock = λ x h. name_within x p.mutexes h;
  unlock = λ x h. name_within x p.mutexes h;
  down = λ x h. sema_within p x h;
  up = λ x h. sema_within p x h;
  spawn = λ f n d to h. params_there p f n l h;
  call = λ f n h. params_there p f n l h;
}

pub lowered_numbers : (p : Source) → KeepsRules p → (at : ℕ) (i : Instr) → slice_get (lowered p).code at ≡ Some i → HasProgramNumbers p i.step
lowered_numbers p l at i h = each_step p (HasProgramNumbers p) at i l (numbers_hold p l) h

-- Locals

locals_hold : (p : Source) → HoldsOf p HasLocals
locals_hold p = record {
  other = λ x none locals. locals;
  read = λ x d to h. to;
  write = λ x a from h. from;
  read_cell = λ x n d from to h. (from, to);
  write_cell = λ x n b from second h. (from, second);
  lock = λ x h. tt;
  unlock = λ x h. tt;
  down = λ x h. tt;
  up = λ x h. tt;
  spawn = λ f n d to h. to;
  call = λ f n h. tt;
}

pub lowered_locals : (p : Source) → KeepsRules p → (at : ℕ) (i : Instr) → slice_get (lowered p).code at ≡ Some i → HasLocals i.step
lowered_locals p l at i h = each_step p HasLocals at i l (locals_hold p) h
