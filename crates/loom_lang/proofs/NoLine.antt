-- Each rule is kept where its reason stands at no line.
use Rattle.std.proofs.Common.{ℕ, ◌+◌, suc, ◌≤◌, ◌≡◌, Bool, true, false, not, ◌&&◌, ◌||◌, cond, nat_lt, List, [], ◌∷◌, ◌++◌, length, take, drop, map, refl, ap, sym, ◌∙◌, arith, length-append, length-drop}
use Rattle.std.specs.Prelude.{◌==◌, flat_map}
use Rattle.std.specs.Cmp.Lexicographic.{pointwise, same_text}
use Rattle.std.proofs.lemmas.Bool.{le-ltb, ltb-false}
use Rattle.std.proofs.lemmas.List.{length-map, nil_from_length}
use Rattle.loom_tree.specs.declared.item.Word.{Word}
use Rattle.loom_tree.specs.declared.item.Sema.{Sema}
use Rattle.loom_tree.specs.Tree.{Body, end, simple, if_, while_, Function, FileItem, word, mutex, sema, func, Source}
use Rattle.loom_lang.specs.declared.local.Local.{Local}
use Rattle.loom_lang.specs.Limits.{cell_limit}
use Rattle.loom_lang.specs.Rules.{is_in, is_distinct, is_function, takes, knows, knows_simple, knows_body, counts_simple, counts_body, locals_of, is_ascending, shared_names, cells_in, cell_count}
use Rattle.loom_lang.specs.FileItems.{source_of_items}
use Rattle.loom_lang.specs.Refusal.{line_if, second_lines, unknown_lines, miscounted_lines, locals_at, first_excess, shared_lines, cells_over}
use Rattle.loom_lang.proofs.Empty.{is_empty, empty_append, empty_line_if}
use Rattle.loom_lang.proofs.Repetition.{locals_names}

-- a line where a test fails, and other lines
empty_more : (b : Bool) (l : ℕ) (ls : List ℕ) → is_empty (line_if (not b) l ++ ls) ≡ (b && is_empty ls)
empty_more true l ls = refl
empty_more false l ls = refl

pub empty_functions : (g : Function → List ℕ) (f : Function) (fs : List Function) → is_empty (flat_map g (f ∷ fs)) ≡ (is_empty (g f) && is_empty (flat_map g fs))
empty_functions g f fs = empty_append (g f) (flat_map g fs)

pub second_empty : (before : ℕ) (ls : List ℕ) → is_empty (second_lines before ls) ≡ is_ascending before ls
second_empty before [] = refl
second_empty before (l ∷ ls) = empty_more (nat_lt before l) l (second_lines l ls) ∙ ap (λ z. nat_lt before l && z) (second_empty l ls)

pub unknown_empty : (p : Source) (locals : List (List ℕ)) (b : Body) → is_empty (unknown_lines p locals b) ≡ knows_body p locals b
unknown_empty p locals end = refl
unknown_empty p locals (simple l s rest) = empty_more (knows_simple p locals s) l (unknown_lines p locals rest) ∙ ap (λ z. knows_simple p locals s && z) (unknown_empty p locals rest)
unknown_empty p locals (if_ l e a b rest) =
    let A : List ℕ = unknown_lines p locals a in
    let B : List ℕ = unknown_lines p locals b in
    let R : List ℕ = unknown_lines p locals rest in
    empty_more (knows p locals e) l (A ++ (B ++ R))
    ∙ ap (λ z. knows p locals e && z) (empty_append A (B ++ R) ∙ ap (λ z. z && is_empty (B ++ R)) (unknown_empty p locals a) ∙ ap (λ z. knows_body p locals a && z) (empty_append B R ∙ ap (λ z. z && is_empty R) (unknown_empty p locals b) ∙ ap (λ z. knows_body p locals b && z) (unknown_empty p locals rest)))
unknown_empty p locals (while_ l e a rest) =
    let A : List ℕ = unknown_lines p locals a in
    let R : List ℕ = unknown_lines p locals rest in
    empty_more (knows p locals e) l (A ++ R) ∙ ap (λ z. knows p locals e && z) (empty_append A R ∙ ap (λ z. z && is_empty R) (unknown_empty p locals a) ∙ ap (λ z. knows_body p locals a && z) (unknown_empty p locals rest))

pub miscounted_empty : (p : Source) (b : Body) → is_empty (miscounted_lines p b) ≡ counts_body p b
miscounted_empty p end = refl
miscounted_empty p (simple l s rest) = empty_more (counts_simple p s) l (miscounted_lines p rest) ∙ ap (λ z. counts_simple p s && z) (miscounted_empty p rest)
miscounted_empty p (if_ l e a b rest) =
    let A : List ℕ = miscounted_lines p a in
    let B : List ℕ = miscounted_lines p b in
    let R : List ℕ = miscounted_lines p rest in
    empty_append A (B ++ R) ∙ ap (λ z. z && is_empty (B ++ R)) (miscounted_empty p a) ∙ ap (λ z. counts_body p a && z) (empty_append B R ∙ ap (λ z. z && is_empty R) (miscounted_empty p b) ∙ ap (λ z. counts_body p b && z) (miscounted_empty p rest))
miscounted_empty p (while_ l e a rest) = empty_append (miscounted_lines p a) (miscounted_lines p rest) ∙ ap (λ z. z && is_empty (miscounted_lines p rest)) (miscounted_empty p a) ∙ ap (λ z. counts_body p a && z) (miscounted_empty p rest)

pub takes_function : (fs : List Function) (x : List ℕ) (n : ℕ) → takes fs x n ≡ true → is_function fs x ≡ true
takes_function [] x n h = cc
takes_function (f ∷ fs) x n h = go (pointwise ◌==◌ f.name x) (length f.params == n) (takes fs x n) (is_function fs x) h (takes_function fs x n)
  where
    go : (a b t i : Bool) → ((a && b) || t) ≡ true → (t ≡ true → i ≡ true) → (a || i) ≡ true
    go true b t i k g = refl
    go false b t i k g = g k

-- the functions of a name with another number of parameters
abbrev pub misfits : List ℕ → ℕ → List Function → List ℕ
misfits x n fs = flat_map (λ (f : Function). line_if (pointwise ◌==◌ f.name x && not (length f.params == n)) f.line) fs

one_misfit : (x : List ℕ) (n : ℕ) (f : Function) (fs : List Function) → is_empty (misfits x n (f ∷ fs)) ≡ (not (pointwise ◌==◌ f.name x && not (length f.params == n)) && is_empty (misfits x n fs))
one_misfit x n f fs =
    let test : Bool = pointwise ◌==◌ f.name x && not (length f.params == n) in
    empty_append (line_if test f.line) (misfits x n fs) ∙ ap (λ z. z && is_empty (misfits x n fs)) (empty_line_if test f.line)

-- where a function has the name and none is a misfit, one has that many parameters
pub fit_taken : (x : List ℕ) (n : ℕ) (fs : List Function) → is_empty (misfits x n fs) ≡ true → is_function fs x ≡ true → takes fs x n ≡ true
fit_taken x n [] h i = cc
fit_taken x n (f ∷ fs) h i = go (pointwise ◌==◌ f.name x) (length f.params == n) (is_empty (misfits x n fs)) (is_function fs x) (takes fs x n) (sym (one_misfit x n f fs) ∙ h) i (fit_taken x n fs)
  where
    go : (p q e i t : Bool) → (not (p && not q) && e) ≡ true → (p || i) ≡ true → (e ≡ true → i ≡ true → t ≡ true) → ((p && q) || t) ≡ true
    go true true e i t a b g = refl
    go true false e i t a b g = cc
    go false q e i t a b g = g a b

-- where no function has the name, none is a misfit
unnamed_fit : (x : List ℕ) (n : ℕ) (fs : List Function) → is_function fs x ≡ false → is_empty (misfits x n fs) ≡ true
unnamed_fit x n [] h = refl
unnamed_fit x n (f ∷ fs) h = one_misfit x n f fs ∙ go (pointwise ◌==◌ f.name x) (length f.params == n) (is_function fs x) (is_empty (misfits x n fs)) h (unnamed_fit x n fs)
  where
    go : (p q i e : Bool) → (p || i) ≡ false → (i ≡ false → e ≡ true) → (not (p && not q) && e) ≡ true
    go true q i e a g = cc
    go false q i e a g = g a

named_in : (x : List ℕ) (fs : List Function) → is_in x (map (λ (f : Function). f.name) fs) ≡ is_function fs x
named_in x [] = refl
named_in x (f ∷ fs) = ap (λ z. pointwise ◌==◌ f.name x || z) (named_in x fs)

-- where names are declared once and one function of the name has that many parameters, none is a misfit
pub taken_fit : (x : List ℕ) (n : ℕ) (fs : List Function) → is_distinct (map (λ (f : Function). f.name) fs) ≡ true → takes fs x n ≡ true → is_empty (misfits x n fs) ≡ true
taken_fit x n [] d h = refl
taken_fit x n (f ∷ fs) d h =
    one_misfit x n f fs ∙ go (pointwise ◌==◌ f.name x) (length f.params == n) (takes fs x n) (is_function fs x) (is_empty (misfits x n fs)) (is_distinct (map (λ (g : Function). g.name) fs)) (is_in f.name (map (λ (g : Function). g.name) fs)) d h
    (λ e. ap (λ z. is_in z (map (λ (g : Function). g.name) fs)) (same_text f.name x (sym e)) ∙ named_in x fs) (takes_function fs x n) (unnamed_fit x n fs) (taken_fit x n fs)
  where
    go : (p q t i e d m : Bool) → (not m && d) ≡ true → ((p && q) || t) ≡ true → (p ≡ true → m ≡ i) → (t ≡ true → i ≡ true) → (i ≡ false → e ≡ true) → (d ≡ true → t ≡ true → e ≡ true) → (not (p && not q) && e) ≡ true
    go p q t i e d true a b same named unnamed rest = cc
    go true true t true e d false a b same named unnamed rest = absurd (let s : false ≡ true = same refl in cc)
    go true true t false e d false a b same named unnamed rest = unnamed refl
    go true false true true e d false a b same named unnamed rest = absurd (let s : false ≡ true = same refl in cc)
    go true false true false e d false a b same named unnamed rest = absurd (let s : false ≡ true = named refl in cc)
    go true false false i e d false a b same named unnamed rest = cc
    go false q t i e d false a b same named unnamed rest = rest a b

-- limits

pub over_kept : (most : ℕ) (ls : List ℕ) → is_empty (first_excess most ls) ≡ true → length ls ≤ most
over_kept most ls h = let d : length (drop most ls) ≡ 0 = go (drop most ls) h in omega (arith, length-drop most ls)
  where
    go : (xs : List ℕ) → is_empty (take 1 xs) ≡ true → length xs ≡ 0
    go [] k = refl
    go (x ∷ xs) k = cc

pub kept_over : (most : ℕ) (ls : List ℕ) → length ls ≤ most → is_empty (first_excess most ls) ≡ true
kept_over most ls h = ap (λ (z : List ℕ). is_empty (take 1 z)) (nil_from_length (drop most ls) (omega (arith, length-drop most ls)))

pub local_count : (f : Function) → length (map (λ (d : Local). d.line) (locals_at f)) ≡ length (locals_of f)
local_count f = simp length-map (simp length-map at (ap length (locals_names f)))

pub shared_count : (items : List FileItem) → length (shared_lines items) ≡ length (shared_names (source_of_items items))
shared_count [] = refl
shared_count (word l w ∷ is) = ap suc (shared_count is)
shared_count (mutex l x ∷ is) =
    let p : Source = source_of_items is in
    let W : List (List ℕ) = map (λ (w : Word). w.name) p.words in
    let S : List (List ℕ) = map (λ (s : Sema). s.name) p.semas in
    omega (arith, shared_count is, length-append W (p.mutexes ++ S), length-append W (x ∷ (p.mutexes ++ S)))
shared_count (sema l s ∷ is) =
    let p : Source = source_of_items is in
    let W : List (List ℕ) = map (λ (w : Word). w.name) p.words in
    let S : List (List ℕ) = map (λ (s : Sema). s.name) p.semas in
    omega (arith, shared_count is, length-append W (p.mutexes ++ S), length-append p.mutexes S, length-append W (p.mutexes ++ (s.name ∷ S)), length-append p.mutexes (s.name ∷ S))
shared_count (func f ∷ is) = shared_count is

pub cells_kept : (before : ℕ) (items : List FileItem) → before ≤ cell_limit → is_empty (cells_over before items) ≡ true → before + cell_count (source_of_items items).words ≤ cell_limit
cells_kept before [] b h = omega arith
cells_kept before (word l w ∷ is) b h = go (nat_lt cell_limit (before + cells_in w)) refl h (cells_kept (before + cells_in w) is)
  where
    go : (t : Bool) → nat_lt cell_limit (before + cells_in w) ≡ t → is_empty (cond t (l ∷ []) (cells_over (before + cells_in w) is)) ≡ true → (before + cells_in w ≤ cell_limit → is_empty (cells_over (before + cells_in w) is) ≡ true → before + cells_in w + cell_count (source_of_items is).words ≤ cell_limit) → before + (cells_in w + cell_count (source_of_items is).words) ≤ cell_limit
    go true e k g = cc
    go false e k g = let r : before + cells_in w + cell_count (source_of_items is).words ≤ cell_limit = g (ltb-false cell_limit (before + cells_in w) e) k in omega arith
cells_kept before (mutex l x ∷ is) b h = cells_kept before is b h
cells_kept before (sema l s ∷ is) b h = cells_kept before is b h
cells_kept before (func f ∷ is) b h = cells_kept before is b h

pub kept_cells : (before : ℕ) (items : List FileItem) → before + cell_count (source_of_items items).words ≤ cell_limit → is_empty (cells_over before items) ≡ true
kept_cells before [] h = refl
kept_cells before (word l w ∷ is) h =
    ap (λ t. is_empty (cond t (l ∷ []) (cells_over (before + cells_in w) is))) (le-ltb cell_limit (before + cells_in w) (omega arith)) ∙ kept_cells (before + cells_in w) is (omega arith)
kept_cells before (mutex l x ∷ is) h = kept_cells before is h
kept_cells before (sema l s ∷ is) h = kept_cells before is h
kept_cells before (func f ∷ is) h = kept_cells before is h
