-- The clauses whose regions a thread is inside, by its notes.
use Rattle.std.proofs.Common.{ℕ, zero, suc, ◌<◌, ◌≤◌, ◌≡◌, ◌==◌, ◌⊎◌, inl, inr, Bool, true, false, ◌&&◌, ◌||◌, List, [], ◌∷◌, length, if◌then◌else◌, refl, sym, ap, subst, ◌∙◌, arith}
use Rattle.std.specs.List.{filter, list_any}
use Rattle.std.proofs.lemmas.Bool.{eq-eqb, ne_eqb, cases_eq}
use Rattle.std.proofs.lemmas.List.Folds.{list_any-append}
use Rattle.loom_law.specs.Filter.{Plan}
use Rattle.loom_law.specs.Walk.{Plans, Inside, OpenFrame, completed, in_frame, all_inside, is_inside_clause}
use Rattle.loom_plan.specs.Operations.{insides}
use Rattle.loom_walk.specs.declared.region_notes.RegionNote.{RegionNote}
use Rattle.loom_walk.specs.Notes.{insides_at, of_filter, AreRegionNotes, HaveDepths}
use Rattle.loom_walk.specs.RegionSteps.{is_staying_with, is_inside_behind}
use Rattle.loom_walk.proofs.InsideTests.{any_alike, any_alike_where, any_never, any_either, any_cut, any_kind, finds, any_at, any_of}
use Rattle.loom_walk.proofs.NoteDepths.{depths_all}

-- Depths of open frames, of which there are n

abbrev is_open : ℕ → ℕ → Bool
is_open zero d = false
is_open (suc n) d = (d == suc n) || is_open n d

or_first : (a b : Bool) → a ≡ true → (a || b) ≡ true
or_first a b h = ap (λ (t : Bool). t || b) h

or_second : (a b : Bool) → b ≡ true → (a || b) ≡ true
or_second true b h = refl
or_second false b h = h

open_in : (n d : ℕ) → 0 < d → d ≤ n → is_open n d ≡ true
open_in zero d low high = absurd (omega arith)
open_in (suc n) d low high = by (cases_eq d (suc n)) (λ apart. open_in n d low (omega arith))
  where
    by : (d ≡ suc n) ⊎ (d ≡ suc n → ⊥) → ((d ≡ suc n → ⊥) → is_open n d ≡ true) → ((d == suc n) || is_open n d) ≡ true
    by (inl e) rest = or_first (d == suc n) (is_open n d) (eq-eqb d (suc n) e)
    by (inr apart) rest = or_second (d == suc n) (is_open n d) (rest apart)

open_past : (n d : ℕ) → n < d → is_open n d ≡ false
open_past zero d h = refl
open_past (suc n) d h = ap (λ (t : Bool). t || is_open n d) (ne_eqb d (suc n) (λ e. omega arith)) ∙ open_past n d (omega arith)

-- Tests of a note

abbrev is_clause : ℕ → Inside → Bool
is_clause m i = i.clause == m

-- the note is of filter k, and the test finds one of its regions
abbrev finds_any : (Inside → Bool) → Plan → ℕ → RegionNote → Bool
finds_any test f k n = (n.filter == k) && list_any test (insides f k n.regions)

deep_step : (e g x b : Bool) → (((e && g) && x) || (b && (g && x))) ≡ ((e || b) && (g && x))
deep_step e g x b = grind arith

-- what a test of regions of filter k finds in a frame
own_found : (plans : Plans) (notes : List RegionNote) (x : OpenFrame) (d k : ℕ) (test : Inside → Bool)
    → list_any test (of_filter k x.inside) ≡ list_any test (insides_at (plans k) notes d k)
    → list_any (λ (i : Inside). (i.filter == k) && test i) x.inside ≡ list_any (finds test (plans k) d k) notes
own_found plans notes x d k test h = sym (any_of test k x.inside) ∙ (h ∙ any_at test (plans k) notes d k)

-- in all open frames
pub frames_found : (plans : Plans) (notes : List RegionNote) (fs : List OpenFrame) (k m : ℕ) → AreRegionNotes plans notes fs
    → is_inside_clause (all_inside fs) k m ≡ list_any (λ (n : RegionNote). is_open (length fs) n.depth && finds_any (is_clause m) (plans k) k n) notes
frames_found plans notes [] k m h = sym (any_never notes)
frames_found plans notes (x ∷ xs) k m h =
    list_any-append (λ (i : Inside). (i.filter == k) && is_clause m i) x.inside (all_inside xs)
    ∙ (ap (λ (t : Bool). t || is_inside_clause (all_inside xs) k m) (own_found plans notes x (suc (length xs)) k (is_clause m) (h.0 k (is_clause m)))
    ∙ (ap (λ (t : Bool). list_any (finds (is_clause m) (plans k) (suc (length xs)) k) notes || t) (frames_found plans notes xs k m h.1)
    ∙ (sym (any_either (finds (is_clause m) (plans k) (suc (length xs)) k) (λ (n : RegionNote). is_open (length xs) n.depth && finds_any (is_clause m) (plans k) k n) notes)
    ∙ any_alike (λ (n : RegionNote). finds (is_clause m) (plans k) (suc (length xs)) k n || (is_open (length xs) n.depth && finds_any (is_clause m) (plans k) k n))
    (λ (n : RegionNote). is_open (suc (length xs)) n.depth && finds_any (is_clause m) (plans k) k n) notes
    (λ n. deep_step (n.depth == suc (length xs)) (n.filter == k) (list_any (is_clause m) (insides (plans k) k n.regions)) (is_open (length xs) n.depth)))))

-- behind events in the top frame
abbrev stays_in : ℕ → List ℕ → ℕ → Inside → Bool
stays_in k es m i = is_staying_with k es i && is_clause m i

and_turn : (a b c : Bool) → (a && (b && c)) ≡ (b && (a && c))
and_turn a b c = grind arith

staying_found : (k m : ℕ) (es : List ℕ) (is : List Inside)
    → is_inside_clause (filter (is_staying_with k es) is) k m ≡ list_any (λ (i : Inside). (i.filter == k) && stays_in k es m i) is
staying_found k m es is =
    any_cut (λ (i : Inside). (i.filter == k) && is_clause m i) (is_staying_with k es) is
    ∙ any_alike (λ (i : Inside). is_staying_with k es i && ((i.filter == k) && is_clause m i)) (λ (i : Inside). (i.filter == k) && stays_in k es m i) is
    (λ i. and_turn (is_staying_with k es i) (i.filter == k) (is_clause m i))

abbrev finds_behind : Plan → ℕ → ℕ → List ℕ → ℕ → RegionNote → Bool
finds_behind f n k es m x = finds (stays_in k es m) f (suc n) k x || (is_open n x.depth && finds_any (is_clause m) f k x)

pub top_found : (plans : Plans) (notes : List RegionNote) (x : OpenFrame) (xs : List OpenFrame) (k m : ℕ) (es : List ℕ) → AreRegionNotes plans notes (x ∷ xs)
    → is_inside_clause (all_inside (in_frame (completed k es) (x ∷ xs))) k m ≡ list_any (finds_behind (plans k) (length xs) k es m) notes
top_found plans notes x xs k m es h =
    list_any-append (λ (i : Inside). (i.filter == k) && is_clause m i) (filter (is_staying_with k es) x.inside) (all_inside xs)
    ∙ (ap (λ (t : Bool). t || is_inside_clause (all_inside xs) k m)
    (staying_found k m es x.inside ∙ own_found plans notes x (suc (length xs)) k (stays_in k es m) (h.0 k (stays_in k es m)))
    ∙ (ap (λ (t : Bool). list_any (finds (stays_in k es m) (plans k) (suc (length xs)) k) notes || t) (frames_found plans notes xs k m h.1)
    ∙ sym (any_either (finds (stays_in k es m) (plans k) (suc (length xs)) k) (λ (n : RegionNote). is_open (length xs) n.depth && finds_any (is_clause m) (plans k) k n) notes)))

-- The tests of the loop

same_kind : (k : ℕ) (t : Bool) → ((k == k) && t) ≡ t
same_kind k t = ap (λ (b : Bool). b && t) (eq-eqb k k refl)

-- a note of a frame below, and one of the top frame
other_is : (f : Plan) (k d m : ℕ) (es : List ℕ) (n : RegionNote) → (n.depth == d) ≡ false → is_inside_behind f k d es m n ≡ finds_any (is_clause m) f k n
other_is f k d m es n h =
    ap (λ (t : Bool). (n.filter == k) && is_inside_clause (if t then filter (is_staying_with k es) (insides f k n.regions) else insides f k n.regions) k m) h
    ∙ ap (λ (t : Bool). (n.filter == k) && t) (any_kind (is_clause m) f k k n.regions ∙ same_kind k (list_any (is_clause m) (insides f k n.regions)))

top_is : (f : Plan) (k d m : ℕ) (es : List ℕ) (n : RegionNote) → (n.depth == d) ≡ true → is_inside_behind f k d es m n ≡ finds_any (stays_in k es m) f k n
top_is f k d m es n h =
    ap (λ (t : Bool). (n.filter == k) && is_inside_clause (if t then filter (is_staying_with k es) (insides f k n.regions) else insides f k n.regions) k m) h
    ∙ ap (λ (t : Bool). (n.filter == k) && t)
    (staying_found k m es (insides f k n.regions) ∙ (any_kind (stays_in k es m) f k k n.regions ∙ same_kind k (list_any (stays_in k es m) (insides f k n.regions))))

top_alone : (a b g x y : Bool) → a ≡ true → b ≡ false → (g && x) ≡ (((a && g) && x) || (b && (g && y)))
top_alone a b g x y h e = grind arith

below_alone : (a b g x y : Bool) → a ≡ false → b ≡ true → (g && y) ≡ (((a && g) && x) || (b && (g && y)))
below_alone a b g x y h e = grind arith

note_found : (f : Plan) (n k m : ℕ) (es : List ℕ) (x : RegionNote) → (1 ≤ x.depth) × (x.depth ≤ suc n) → is_inside_behind f k (suc n) es m x ≡ finds_behind f n k es m x
note_found f n k m es x h = by (cases_eq x.depth (suc n))
  where
    by : (x.depth ≡ suc n) ⊎ (x.depth ≡ suc n → ⊥) → is_inside_behind f k (suc n) es m x ≡ finds_behind f n k es m x
    by (inl e) =
        top_is f k (suc n) m es x (eq-eqb x.depth (suc n) e)
        ∙ top_alone (x.depth == suc n) (is_open n x.depth) (x.filter == k) (list_any (stays_in k es m) (insides f k x.regions)) (list_any (is_clause m) (insides f k x.regions))
        (eq-eqb x.depth (suc n) e) (open_past n x.depth (omega arith))
    by (inr apart) =
        let low = h.0 in
        let high = h.1 in
        other_is f k (suc n) m es x (ne_eqb x.depth (suc n) apart)
        ∙ below_alone (x.depth == suc n) (is_open n x.depth) (x.filter == k) (list_any (stays_in k es m) (insides f k x.regions)) (list_any (is_clause m) (insides f k x.regions))
        (ne_eqb x.depth (suc n) apart) (open_in n x.depth (omega arith) (omega arith))

no_note : (notes : List RegionNote) → HaveDepths 1 0 notes → (p : RegionNote → Bool) → false ≡ list_any p notes
no_note [] h p = refl
no_note (n ∷ ns) h p = let low = h.0.0 in let high = h.0.1 in absurd (omega arith)

-- what the loop finds, behind events in the top frame
pub behind_found : (plans : Plans) (f : Plan) (notes : List RegionNote) (fs : List OpenFrame) (d k m : ℕ) (es : List ℕ) → plans k ≡ f → AreRegionNotes plans notes fs → length fs ≡ d
    → HaveDepths 1 d notes → is_inside_clause (all_inside (in_frame (completed k es) fs)) k m ≡ list_any (is_inside_behind f k d es m) notes
behind_found plans f notes [] d k m es same h n depths =
    no_note notes (subst (λ (e : ℕ). HaveDepths 1 e notes) (sym n) depths) (is_inside_behind f k d es m)
behind_found plans f notes (x ∷ xs) d k m es same h n depths =
    top_found plans notes x xs k m es h
    ∙ (sym (any_alike_where (λ (y : RegionNote). (1 ≤ y.depth) × (y.depth ≤ suc (length xs))) (is_inside_behind (plans k) k (suc (length xs)) es m) (finds_behind (plans k) (length xs) k es m) notes
    (depths_all 1 (suc (length xs)) notes (subst (λ (e : ℕ). HaveDepths 1 e notes) (sym n) depths)) (λ y low. note_found (plans k) (length xs) k m es y low))
    ∙ (ap (λ (e : ℕ). list_any (is_inside_behind (plans k) k e es m) notes) n ∙ ap (λ (g : Plan). list_any (is_inside_behind g k d es m) notes) same))

all_open : (f : Plan) (n k m : ℕ) (es : List ℕ) (x : RegionNote) → (1 ≤ x.depth) × (x.depth ≤ n) → (is_open n x.depth && finds_any (is_clause m) f k x) ≡ is_inside_behind f k 0 es m x
all_open f n k m es x h =
    let low = h.0 in
    ap (λ (t : Bool). t && finds_any (is_clause m) f k x) (open_in n x.depth (omega arith) h.1)
    ∙ sym (other_is f k 0 m es x (ne_eqb x.depth 0 (λ e. omega arith)))

-- and in all frames as they are
pub inside_found : (plans : Plans) (f : Plan) (notes : List RegionNote) (fs : List OpenFrame) (k m : ℕ) (es : List ℕ) → plans k ≡ f → AreRegionNotes plans notes fs
    → HaveDepths 1 (length fs) notes → is_inside_clause (all_inside fs) k m ≡ list_any (is_inside_behind f k 0 es m) notes
inside_found plans f notes fs k m es same h depths =
    frames_found plans notes fs k m h
    ∙ (any_alike_where (λ (y : RegionNote). (1 ≤ y.depth) × (y.depth ≤ length fs)) (λ (y : RegionNote). is_open (length fs) y.depth && finds_any (is_clause m) (plans k) k y)
    (is_inside_behind (plans k) k 0 es m) notes (depths_all 1 (length fs) notes depths) (λ y low. all_open (plans k) (length fs) k m es y low)
    ∙ ap (λ (g : Plan). list_any (is_inside_behind g k 0 es m) notes) same)
