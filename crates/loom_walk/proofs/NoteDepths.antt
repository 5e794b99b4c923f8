-- The depths and the filters of notes of regions.
use Rattle.std.proofs.Common.{ℕ, zero, suc, ◌-◌, ◌<◌, ◌≤◌, ◌≡◌, ◌==◌, Bool, true, false, cond, List, [], ◌∷◌, ◌++◌, length, take, slice_get, slice_set, get_or, Some, refl, sym, ap, subst, ◌∙◌, arith}
use Rattle.std.specs.List.{AllByRecursion, filter}
use Rattle.std.proofs.lemmas.Bool.{eqb-false, ne_eqb}
use Rattle.std.proofs.lemmas.List.{get_or_default}
use Rattle.loom_law.specs.Filter.{Plan, has}
use Rattle.loom_walk.specs.declared.region_notes.RegionNote.{RegionNote}
use Rattle.loom_walk.specs.Notes.{HaveDepths, AreOfFilters}
use Rattle.loom_walk.specs.RegionSteps.{AreOfOthers, IsNoteOf, AreNotesBehind}

-- What is said of each

pub all_weaker : {A : Type 0} (P Q : A → Type 0) (xs : List A) → ((x : A) → P x → Q x) → AllByRecursion P xs → AllByRecursion Q xs
all_weaker P Q [] f h = tt
all_weaker P Q (x ∷ xs) f h = (f x h.0, all_weaker P Q xs f h.1)

pub all_set : {A : Type 0} (P : A → Type 0) (xs : List A) (i : ℕ) (y : A) → AllByRecursion P xs → P y → AllByRecursion P (slice_set xs i y)
all_set P [] i y h g = tt
all_set P (x ∷ xs) zero y h g = (g, h.1)
all_set P (x ∷ xs) (suc i) y h g = (h.0, all_set P xs i y h.1 g)

all_head : {A : Type 0} (P : A → Type 0) (b : Bool) (x : A) (ys : List A) → (b ≡ true → P x) → AllByRecursion P ys → AllByRecursion P (cond b (x ∷ ys) ys)
all_head P true x ys f h = (f refl, h)
all_head P false x ys f h = h

-- those that a test finds
pub all_found : {A : Type 0} (test : A → Bool) (xs : List A) → AllByRecursion (λ (x : A). test x ≡ true) (filter test xs)
all_found {A = A} test [] = tt
all_found {A = A} test (x ∷ xs) = all_head (λ (y : A). test y ≡ true) (test x) x (filter test xs) (λ e. e) (all_found test xs)

-- Depths

pub depths_all : (from most : ℕ) (ns : List RegionNote) → HaveDepths from most ns → AllByRecursion (λ (n : RegionNote). (from ≤ n.depth) × (n.depth ≤ most)) ns
depths_all from most [] h = tt
depths_all from most (n ∷ ns) h = (
  h.0,
  all_weaker (λ (m : RegionNote). (n.depth ≤ m.depth) × (m.depth ≤ most)) (λ (m : RegionNote). (from ≤ m.depth) × (m.depth ≤ most)) ns
      (λ m g. let low = h.0.0 in let mid = g.0 in (omega arith, g.1)) (depths_all n.depth most ns h.1),
)

depths_at : (from most : ℕ) (ns : List RegionNote) (j : ℕ) (x : RegionNote) → HaveDepths from most ns → j < length ns → x ≡ get_or ns j x → (from ≤ x.depth) × (x.depth ≤ most)
depths_at from most [] j x h low e = absurd (omega arith)
depths_at from most (n ∷ ns) zero x h low e = subst (λ (y : RegionNote). (from ≤ y.depth) × (y.depth ≤ most)) (sym e) h.0
depths_at from most (n ∷ ns) (suc j) x h low e =
    let later = depths_at n.depth most ns j x h.1 (omega arith) e in
    let first = h.0.0 in
    let mid = later.0 in
    (omega arith, later.1)

below_most : (a b most : ℕ) → a ≤ b → b ≤ most → (b == most) ≡ false → (a == most) ≡ false
below_most a b most h g e = let apart : b ≡ most → ⊥ = eqb-false b most e in ne_eqb a most (λ z. apart (omega arith))

others_at : (from most : ℕ) (ns : List RegionNote) (j : ℕ) (x : RegionNote) → HaveDepths from most ns → j < length ns → x ≡ get_or ns j x → (x.depth == most) ≡ false
    → AreOfOthers most (take (suc j) ns)
others_at from most [] j x h low e other = absurd (omega arith)
others_at from most (n ∷ ns) zero x h low e other = (subst (λ (y : RegionNote). (y.depth == most) ≡ false) e other, tt)
others_at from most (n ∷ ns) (suc j) x h low e other =
    let later = depths_at n.depth most ns j x h.1 (omega arith) e in
    (below_most n.depth x.depth most later.0 later.1 other, others_at n.depth most ns j x h.1 (omega arith) e other)

-- where the note before there is of another frame than the top one, all before there are
pub others_front : (most : ℕ) (ns : List RegionNote) (i j : ℕ) (x : RegionNote) → i ≡ suc j → i ≤ length ns → ((get_or ns j x).depth ≡ most → ⊥) → HaveDepths 1 most ns
    → AreOfOthers most (take i ns)
others_front most ns i j x n low other h =
    subst (λ (m : ℕ). AreOfOthers most (take m ns)) (sym n)
    (others_at 1 most ns j (get_or ns j x) h (omega arith) (get_or_default ns j x (get_or ns j x) (omega arith)) (ne_eqb (get_or ns j x).depth most other))

pub depths_front : (from most : ℕ) (ns : List RegionNote) (i : ℕ) → HaveDepths from most ns → AreOfOthers most (take i ns) → HaveDepths from (most - 1) (take i ns)
depths_front from most ns zero h other = tt
depths_front from most [] (suc i) h other = tt
depths_front from most (n ∷ ns) (suc i) h other =
    let apart : n.depth ≡ most → ⊥ = eqb-false n.depth most other.0 in
    let low = h.0.0 in
    let high = h.0.1 in
    ((low, less n.depth most high apart), depths_front n.depth most ns i h.1 other.1)
  where
    less : (a b : ℕ) → a ≤ b → (a ≡ b → ⊥) → a ≤ b - 1
    less a b h apart = omega arith

pub depths_push : (from most : ℕ) (ns : List RegionNote) (n : RegionNote) → HaveDepths from most ns → from ≤ most → n.depth ≡ most → HaveDepths from most (ns ++ n ∷ [])
depths_push from most [] n h low e = ((omega arith, omega arith), tt)
depths_push from most (m ∷ ns) n h low e = (h.0, depths_push m.depth most ns n h.1 h.0.1 e)

pub depths_set : (from most : ℕ) (ns : List RegionNote) (i : ℕ) (x y : RegionNote) → HaveDepths from most ns → slice_get ns i ≡ Some x → y.depth ≡ x.depth
    → HaveDepths from most (slice_set ns i y)
depths_set from most [] i x y h at e = tt
depths_set from most (n ∷ ns) zero x y h at e =
    let same : n ≡ x = cc in
    let depth : n.depth ≡ y.depth = ap (λ (m : RegionNote). m.depth) same ∙ sym e in
    subst (λ (d : ℕ). ((from ≤ d) × (d ≤ most)) × HaveDepths d most ns) depth h
depths_set from most (n ∷ ns) (suc i) x y h at e = (h.0, depths_set n.depth most ns i x y h.1 at e)

pub depths_behind : (f : Plan) (k d : ℕ) (es : List ℕ) (old new : List RegionNote) (from most : ℕ) → AreNotesBehind f k d es old new → HaveDepths from most old → HaveDepths from most new
depths_behind f k d es [] [] from most b h = tt
depths_behind f k d es [] (y ∷ ys) from most b h = absurd b
depths_behind f k d es (x ∷ xs) [] from most b h = absurd b
depths_behind f k d es (x ∷ xs) (y ∷ ys) from most b h =
    subst (λ (m : ℕ). ((from ≤ m) × (m ≤ most)) × HaveDepths m most ys) (sym b.0.depth) (h.0, depths_behind f k d es xs ys x.depth most b.1 h.1)

pub depths_from : (a b most : ℕ) (ns : List RegionNote) → HaveDepths a most ns → b ≤ a → HaveDepths b most ns
depths_from a b most [] h low = tt
depths_from a b most (n ∷ ns) h low = let first = h.0.0 in ((omega arith, h.0.1), h.1)

depths_head : (from most : ℕ) (b : Bool) (n : RegionNote) (ns : List RegionNote) → (from ≤ n.depth) × (n.depth ≤ most) → HaveDepths n.depth most ns → HaveDepths from most (cond b (n ∷ ns) ns)
depths_head from most true n ns h g = (h, g)
depths_head from most false n ns h g = depths_from n.depth from most ns g h.0

pub depths_found : (test : RegionNote → Bool) (from most : ℕ) (ns : List RegionNote) → HaveDepths from most ns → HaveDepths from most (filter test ns)
depths_found test from most [] h = tt
depths_found test from most (n ∷ ns) h = depths_head from most (test n) n (filter test ns) h.0 (depths_found test n.depth most ns h.1)

-- where more frames are open
pub depths_most : (from a b : ℕ) (ns : List RegionNote) → HaveDepths from a ns → a ≤ b → HaveDepths from b ns
depths_most from a b [] h low = tt
depths_most from a b (n ∷ ns) h low = let high = h.0.1 in ((h.0.0, omega arith), depths_most n.depth a b ns h.1 low)

-- Filters

pub filters_behind : (f : Plan) (k d : ℕ) (es : List ℕ) (ks : List ℕ) (old new : List RegionNote) → AreNotesBehind f k d es old new → AreOfFilters ks old → AreOfFilters ks new
filters_behind f k d es ks [] [] b h = tt
filters_behind f k d es ks [] (y ∷ ys) b h = absurd b
filters_behind f k d es ks (x ∷ xs) [] b h = absurd b
filters_behind f k d es ks (x ∷ xs) (y ∷ ys) b h =
    (subst (λ (m : ℕ). has ks m ≡ true) (sym b.0.filter) h.0, filters_behind f k d es ks xs ys b.1 h.1)

all_at : (P : RegionNote → Type 0) (notes : List RegionNote) (i : ℕ) (x : RegionNote) → AllByRecursion P notes → i < length notes → x ≡ get_or notes i x → P x
all_at P [] i x all low e = absurd (omega arith)
all_at P (n ∷ ns) zero x all low e = subst P (sym e) all.0
all_at P (n ∷ ns) (suc i) x all low e = all_at P ns i x all.1 (omega arith) e

pub filters_set : (ks : List ℕ) (notes : List RegionNote) (i : ℕ) (x y : RegionNote) → i < length notes → x ≡ get_or notes i x → y.filter ≡ x.filter → AreOfFilters ks notes
    → AreOfFilters ks (slice_set notes i y)
filters_set ks notes i x y low e same all =
    all_set (λ (n : RegionNote). has ks n.filter ≡ true) notes i y all
    (subst (λ (m : ℕ). has ks m ≡ true) (sym same) (all_at (λ (n : RegionNote). has ks n.filter ≡ true) notes i x all low e))

-- A note where it is looked for

pub note_at : (notes : List RegionNote) (i : ℕ) (x : RegionNote) → i < length notes → x ≡ get_or notes i x → slice_get notes i ≡ Some x
note_at [] i x low e = absurd (omega arith)
note_at (n ∷ ns) zero x low e = ap (λ (y : RegionNote). Some y) (sym e)
note_at (n ∷ ns) (suc i) x low e = note_at ns i x (omega arith) e

pub note_there : (notes : List RegionNote) (i d k : ℕ) → IsNoteOf d k (slice_get notes i) → i < length notes
note_there [] i d k h = absurd h
note_there (n ∷ ns) zero d k h = omega arith
note_there (n ∷ ns) (suc i) d k h = let low = note_there ns i d k h in omega arith

pub note_told : (notes : List RegionNote) (i d k : ℕ) (x : RegionNote) → IsNoteOf d k (slice_get notes i) → slice_get notes i ≡ Some x → (x.depth ≡ d) × (x.filter ≡ k)
note_told notes i d k x h e = subst (IsNoteOf d k) e h
