-- What calls do to notes of regions is what operations do to open frames.
use Rattle.std.proofs.Common.{ℕ, zero, suc, ◌+◌, ◌<◌, ◌≤◌, ◌≡◌, ◌==◌, Bool, true, false, ◌&&◌, ◌||◌, List, [], ◌∷◌, ◌++◌, length, take, drop, slice_get, slice_set, get_or, Some, if◌then◌else◌, refl, sym, ap, subst, ◌∙◌, arith}
use Rattle.std.specs.List.{AllByRecursion, filter, list_any}
use Rattle.std.proofs.lemmas.Bool.{eqb-true, eq-eqb, ne_eqb, and_parts, and_right}
use Rattle.std.proofs.lemmas.List.{take_more_set, drop-set-lt}
use Rattle.std.proofs.lemmas.List.Folds.{list_any-append}
use Rattle.std.proofs.lemmas.List.Elements.{all_zip_more}
use Rattle.std.proofs.lemmas.Grind.{drop_more_same}
use Rattle.loom_law.specs.Filter.{Range, Plan, has}
use Rattle.loom_law.specs.Walk.{Plans, Inside, OpenFrame, completed, in_frame, without_first, entered_regions, without_filters, frames_without}
use Rattle.loom_plan.specs.declared.sets.RegionSet.{RegionSet}
use Rattle.loom_plan.specs.Sets.{region_numbers}
use Rattle.loom_plan.specs.PlanParts.{plan_regions}
use Rattle.loom_plan.specs.Operations.{insides_from, insides}
use Rattle.loom_walk.specs.declared.region_notes.RegionNote.{RegionNote}
use Rattle.loom_walk.specs.Notes.{insides_at, of_filter, HaveSame, AreRegionNotes}
use Rattle.loom_walk.specs.RegionSteps.{AreOfFrame, HasMore, is_staying_with, insides_behind, IsNoteBehind, AreNotesBehind}
use Rattle.loom_walk.proofs.InsideTests.{any_alike, any_and, any_cut, any_last, any_kind, any_union, others_stay, behind_nil, behind_append, behind_other, behind_same, finds, any_at, any_of}

-- frames whose notes have the same regions
pub frames_alike : (plans : Plans) (old new : List RegionNote) (fs : List OpenFrame)
    → ((d k : ℕ) → 0 < d → d ≤ length fs → HaveSame (insides_at (plans k) old d k) (insides_at (plans k) new d k))
    → AreRegionNotes plans old fs → AreRegionNotes plans new fs
frames_alike plans old new [] h are = tt
frames_alike plans old new (x ∷ xs) h are =
    ((λ k test. are.0 k test ∙ h (suc (length xs)) k (omega arith) (omega arith) test), frames_alike plans old new xs (λ d k low high. h d k low (omega arith)) are.1)

-- Entering

pub more_push : (d k : ℕ) (rs : RegionSet) (old : List RegionNote) → HasMore d k rs old (old ++ record { depth = d; filter = k; regions = rs } ∷ [])
more_push d k rs old test g e j =
    any_at test g (old ++ record { depth = d; filter = k; regions = rs } ∷ []) e j
    ∙ (any_last (finds test g e j) old (record { depth = d; filter = k; regions = rs })
    ∙ ap (λ (t : Bool). finds test g e j (record { depth = d; filter = k; regions = rs }) || t) (sym (any_at test g old e j)))

or_three : (a b c : Bool) → ((a || b) || c) ≡ (a || (b || c))
or_three a b c = grind arith

or_turn : (a b c : Bool) → (a || (b || c)) ≡ (b || (a || c))
or_turn a b c = grind arith

any_set : (p : RegionNote → Bool) (q : Bool) (ns : List RegionNote) (i : ℕ) (x y : RegionNote) → slice_get ns i ≡ Some x → p y ≡ (q || p x)
    → list_any p (slice_set ns i y) ≡ (q || list_any p ns)
any_set p q [] i x y at h = cc
any_set p q (n ∷ ns) zero x y at h =
    let same : n ≡ x = cc in
    ap (λ (t : Bool). t || list_any p ns) (h ∙ ap (λ (m : RegionNote). q || p m) (sym same)) ∙ or_three q (p n) (list_any p ns)
any_set p q (n ∷ ns) (suc i) x y at h = ap (λ (t : Bool). p n || t) (any_set p q ns i x y at h) ∙ or_turn (p n) q (list_any p ns)

more_step : (t u v w : Bool) → w ≡ (u || v) → (t && w) ≡ ((t && v) || (t && u))
more_step t u v w h = grind arith

pub more_set : (d k : ℕ) (rs us : RegionSet) (old : List RegionNote) (i : ℕ) (x : RegionNote) → slice_get old i ≡ Some x → x.depth ≡ d → x.filter ≡ k
    → ((m : ℕ) → has (region_numbers us) m ≡ (has (region_numbers x.regions) m || has (region_numbers rs) m))
    → HasMore d k rs old (slice_set old i (record { depth = d; filter = k; regions = us }))
more_set d k rs us old i x at depth kind union test g e j =
    any_at test g (slice_set old i (record { depth = d; filter = k; regions = us })) e j
    ∙ (any_set (finds test g e j) (((d == e) && (k == j)) && list_any test (insides g j rs)) old i x (record { depth = d; filter = k; regions = us }) at step
    ∙ ap (λ (t : Bool). (((d == e) && (k == j)) && list_any test (insides g j rs)) || t) (sym (any_at test g old e j)))
  where
    same : (((d == e) && (k == j)) && list_any test (insides g j x.regions)) ≡ finds test g e j x
    same =
        ap (λ (m : ℕ). ((m == e) && (k == j)) && list_any test (insides g j x.regions)) (sym depth)
        ∙ ap (λ (m : ℕ). ((x.depth == e) && (m == j)) && list_any test (insides g j x.regions)) (sym kind)

    step : finds test g e j (record { depth = d; filter = k; regions = us }) ≡ ((((d == e) && (k == j)) && list_any test (insides g j rs)) || finds test g e j x)
    step =
        more_step ((d == e) && (k == j)) (list_any test (insides g j x.regions)) (list_any test (insides g j rs)) (list_any test (insides g j us))
        (any_union test g j us x.regions rs union)
        ∙ ap (λ (t : Bool). (((d == e) && (k == j)) && list_any test (insides g j rs)) || t) same

-- nothing is entered
pub more_none : (d k : ℕ) (rs : RegionSet) (old : List RegionNote) → ((g : Plan) (j : ℕ) → insides g j rs ≡ []) → HasMore d k rs old old
more_none d k rs old none test g e j =
    ap (λ (t : Bool). t || list_any test (insides_at g old e j))
    (no ((d == e) && (k == j)) ∙ ap (λ (is : List Inside). ((d == e) && (k == j)) && list_any test is) (sym (none g j)))
  where
    no : (b : Bool) → false ≡ (b && false)
    no true = refl
    no false = refl

and_where : (b x y : Bool) → (b ≡ true → x ≡ y) → (b && x) ≡ (b && y)
and_where true x y h = h refl
and_where false x y h = refl

no_more : (a b c r : Bool) → a ≡ false → (((a && b) && c) || r) ≡ r
no_more a b c r h = grind arith

-- no regions
empty_from : (k n : ℕ) (xs : List (ℕ × Range)) → insides_from k n [] xs ≡ []
empty_from k n [] = refl
empty_from k n (x ∷ xs) = empty_from k (suc n) xs

pub empty_insides : (rs : RegionSet) → region_numbers rs ≡ [] → (g : Plan) (j : ℕ) → insides g j rs ≡ []
empty_insides rs e g j = ap (λ (ns : List ℕ). insides_from j 1 ns (plan_regions g)) e ∙ empty_from j 1 (plan_regions g)

-- where all has gone on to the new notes, the thread is inside them in the top frame
pub enter_told : (plans : Plans) (f : Plan) (old new : List RegionNote) (fs : List OpenFrame) (d k : ℕ) (es : List ℕ) (rs : RegionSet) → HasMore d k rs old new
    → plans k ≡ f → entered_regions f k es ≡ insides f k rs → length fs ≡ d → AreRegionNotes plans old fs
    → AreRegionNotes plans new (in_frame (λ (x : OpenFrame). record x { inside = entered_regions f k es ++ x.inside }) fs)
enter_told plans f old new [] d k es rs more same are n h = tt
enter_told plans f old new (x ∷ xs) d k es rs more same are n h =
    (top, frames_alike plans old new xs below h.1)
  where
    below : (e j : ℕ) → 0 < e → e ≤ length xs → HaveSame (insides_at (plans j) old e j) (insides_at (plans j) new e j)
    below e j low high test =
        sym (more test (plans j) e j
        ∙ no_more (d == e) (k == j) (list_any test (insides (plans j) j rs)) (list_any test (insides_at (plans j) old e j)) (ne_eqb d e (λ z. omega arith)))

    entered : (j : ℕ) (test : Inside → Bool)
        → list_any (λ (i : Inside). (i.filter == j) && test i) (entered_regions f k es) ≡ (((d == suc (length xs)) && (k == j)) && list_any test (insides (plans j) j rs))
    entered j test =
        ap (λ (is : List Inside). list_any (λ (i : Inside). (i.filter == j) && test i) is) are
        ∙ (any_kind test f j k rs
        ∙ (and_where (k == j) (list_any test (insides f k rs)) (list_any test (insides (plans j) j rs))
        (λ e. ap (λ (g : Plan). list_any test (insides g k rs)) (sym same) ∙ ap (λ (m : ℕ). list_any test (insides (plans m) m rs)) (eqb-true k j e))
        ∙ ap (λ (t : Bool). (t && (k == j)) && list_any test (insides (plans j) j rs)) (sym (eq-eqb d (suc (length xs)) (sym n)))))

    top : (j : ℕ) → HaveSame (of_filter j (entered_regions f k es ++ x.inside)) (insides_at (plans j) new (suc (length xs)) j)
    top j test =
        any_of test j (entered_regions f k es ++ x.inside)
        ∙ (list_any-append (λ (i : Inside). (i.filter == j) && test i) (entered_regions f k es) x.inside
        ∙ (ap (λ (t : Bool). t || list_any (λ (i : Inside). (i.filter == j) && test i) x.inside) (entered j test)
        ∙ (ap (λ (t : Bool). (((d == suc (length xs)) && (k == j)) && list_any test (insides (plans j) j rs)) || t) (sym (any_of test j x.inside) ∙ h.0 j test)
        ∙ sym (more test (plans j) (suc (length xs)) j))))

-- Completing

behind_head : (f g : Plan) (k d e j : ℕ) (es : List ℕ) (x y : RegionNote) (is js : List Inside) → IsNoteBehind f k d es x y → (j ≡ k → g ≡ f) → js ≡ insides_behind k d es e is
    → (b : Bool) → ((x.depth == e) && (x.filter == j)) ≡ b
    → (if b then insides g j y.regions ++ js else js) ≡ insides_behind k d es e (if b then insides g j x.regions ++ is else is)
behind_head f g k d e j es x y is js behind plan rest true h =
    let two = and_parts (x.depth == e) (x.filter == j) h in
    ap (λ (us : List Inside). us ++ js) (behind.regions j g (eqb-true x.filter j two.1) plan ∙ ap (λ (m : ℕ). insides_behind k d es m (insides g j x.regions)) (eqb-true x.depth e two.0))
    ∙ (ap (λ (us : List Inside). insides_behind k d es e (insides g j x.regions) ++ us) rest ∙ behind_append k d es e (insides g j x.regions) is)
behind_head f g k d e j es x y is js behind plan rest false h = rest

pub behind_at : (f g : Plan) (k d e j : ℕ) (es : List ℕ) (old new : List RegionNote) → AreNotesBehind f k d es old new → (j ≡ k → g ≡ f)
    → insides_at g new e j ≡ insides_behind k d es e (insides_at g old e j)
behind_at f g k d e j es [] [] behind plan = behind_nil k d es e
behind_at f g k d e j es [] (y ∷ ys) behind plan = absurd behind
behind_at f g k d e j es (x ∷ xs) [] behind plan = absurd behind
behind_at f g k d e j es (x ∷ xs) (y ∷ ys) behind plan =
    ap (λ (m : ℕ). if (m == e) && (y.filter == j) then insides g j y.regions ++ insides_at g ys e j else insides_at g ys e j) behind.0.depth
    ∙ (ap (λ (m : ℕ). if (x.depth == e) && (m == j) then insides g j y.regions ++ insides_at g ys e j else insides_at g ys e j) behind.0.filter
    ∙ behind_head f g k d e j es x y (insides_at g xs e j) (insides_at g ys e j) behind.0 plan (behind_at f g k d e j es xs ys behind.1 plan)
    ((x.depth == e) && (x.filter == j)) refl)

and_turn : (a b c : Bool) → (a && (b && c)) ≡ (b && (a && c))
and_turn a b c = grind arith

pub complete_told : (plans : Plans) (f : Plan) (old new : List RegionNote) (fs : List OpenFrame) (d k : ℕ) (es : List ℕ) → AreNotesBehind f k d es old new → plans k ≡ f
    → length fs ≡ d → AreRegionNotes plans old fs → AreRegionNotes plans new (in_frame (completed k es) fs)
complete_told plans f old new [] d k es behind same n h = tt
complete_told plans f old new (x ∷ xs) d k es behind same n h =
    (top, frames_alike plans old new xs below h.1)
  where
    of_plan : (j : ℕ) → j ≡ k → plans j ≡ f
    of_plan j e = ap plans e ∙ same

    below : (e j : ℕ) → 0 < e → e ≤ length xs → HaveSame (insides_at (plans j) old e j) (insides_at (plans j) new e j)
    below e j low high test =
        sym (ap (λ (is : List Inside). list_any test is)
        (behind_at f (plans j) k d e j es old new behind (of_plan j) ∙ behind_other k d es e (insides_at (plans j) old e j) (ne_eqb e d (λ z. omega arith))))

    noted : (j : ℕ) → insides_at (plans j) new (suc (length xs)) j ≡ filter (is_staying_with k es) (insides_at (plans j) old (suc (length xs)) j)
    noted j =
        behind_at f (plans j) k d (suc (length xs)) j es old new behind (of_plan j)
        ∙ behind_same k d es (suc (length xs)) (insides_at (plans j) old (suc (length xs)) j) (eq-eqb (suc (length xs)) d n)

    top : (j : ℕ) → HaveSame (of_filter j (filter (is_staying_with k es) x.inside)) (insides_at (plans j) new (suc (length xs)) j)
    top j test =
        any_of test j (filter (is_staying_with k es) x.inside)
        ∙ (any_cut (λ (i : Inside). (i.filter == j) && test i) (is_staying_with k es) x.inside
        ∙ (any_alike (λ (i : Inside). is_staying_with k es i && ((i.filter == j) && test i)) (λ (i : Inside). (i.filter == j) && (is_staying_with k es i && test i)) x.inside
        (λ i. and_turn (is_staying_with k es i) (i.filter == j) (test i))
        ∙ (sym (any_of (λ (i : Inside). is_staying_with k es i && test i) j x.inside)
        ∙ (h.0 j (λ (i : Inside). is_staying_with k es i && test i)
        ∙ (sym (any_cut test (is_staying_with k es) (insides_at (plans j) old (suc (length xs)) j))
        ∙ ap (λ (is : List Inside). list_any test is) (sym (noted j)))))))

-- Ending

none_at : (g : Plan) (notes : List RegionNote) (d e j : ℕ) → AreOfFrame d notes → (d == e) ≡ false → insides_at g notes e j ≡ []
none_at g [] d e j all h = refl
none_at g (n ∷ ns) d e j all h =
    ap (λ (m : ℕ). if (m == e) && (n.filter == j) then insides g j n.regions ++ insides_at g ns e j else insides_at g ns e j) all.0
    ∙ (ap (λ (t : Bool). if t && (n.filter == j) then insides g j n.regions ++ insides_at g ns e j else insides_at g ns e j) h ∙ none_at g ns d e j all.1 h)

front_at : (g : Plan) (i : ℕ) (notes : List RegionNote) (d e j : ℕ) → AreOfFrame d (drop i notes) → (d == e) ≡ false → insides_at g notes e j ≡ insides_at g (take i notes) e j
front_at g zero notes d e j all h = none_at g notes d e j all h
front_at g (suc i) [] d e j all h = refl
front_at g (suc i) (n ∷ ns) d e j all h =
    ap (λ (is : List Inside). if (n.depth == e) && (n.filter == j) then insides g j n.regions ++ is else is) (front_at g i ns d e j all h)

pub out_told : (plans : Plans) (old new : List RegionNote) (i : ℕ) (fs : List OpenFrame) (d : ℕ) → new ≡ take i old → AreOfFrame d (drop i old) → length fs ≡ d
    → AreRegionNotes plans old fs → AreRegionNotes plans new (without_first fs)
out_told plans old new i [] d is all n h = tt
out_told plans old new i (x ∷ xs) d is all n h =
    subst (λ (ns : List RegionNote). AreRegionNotes plans ns xs) (sym is)
    (frames_alike plans old (take i old) xs (λ e j low high test. ap (λ (us : List Inside). list_any test us) (front_at (plans j) i old d e j all (ne_eqb d e (λ z. omega arith)))) h.1)

-- Another version

kind_found : (ks : List ℕ) (a b : ℕ) (t : Bool) → (has ks a && ((a == b) && t)) ≡ (has ks b && ((a == b) && t))
kind_found ks a b t = by (a == b) refl
  where
    by : (s : Bool) → (a == b) ≡ s → (has ks a && (s && t)) ≡ (has ks b && (s && t))
    by true e = ap (λ (m : ℕ). has ks m && t) (eqb-true a b e)
    by false e = and_right (has ks a) false refl ∙ sym (and_right (has ks b) false refl)

swap_tests : (a b c x : Bool) → (a && ((b && c) && x)) ≡ (a && (c && (b && x)))
swap_tests a b c x = grind arith

-- the notes of these filters
abbrev pub notes_of : List ℕ → List RegionNote → List RegionNote
notes_of ks notes = filter (λ (n : RegionNote). has ks n.filter) notes

pub version_at : (test : Inside → Bool) (g : Plan) (ks : List ℕ) (notes : List RegionNote) (e j : ℕ)
    → list_any test (insides_at g (notes_of ks notes) e j) ≡ (has ks j && list_any test (insides_at g notes e j))
version_at test g ks notes e j =
    any_at test g (notes_of ks notes) e j
    ∙ (any_cut (finds test g e j) (λ (n : RegionNote). has ks n.filter) notes
    ∙ (any_alike (λ (n : RegionNote). has ks n.filter && finds test g e j n) (λ (n : RegionNote). has ks j && finds test g e j n) notes one
    ∙ (any_and (has ks j) (finds test g e j) notes ∙ ap (λ (t : Bool). has ks j && t) (sym (any_at test g notes e j)))))
  where
    one : (n : RegionNote) → (has ks n.filter && finds test g e j n) ≡ (has ks j && finds test g e j n)
    one n =
        swap_tests (has ks n.filter) (n.depth == e) (n.filter == j) (list_any test (insides g j n.regions))
        ∙ (kind_found ks n.filter j ((n.depth == e) && list_any test (insides g j n.regions))
        ∙ sym (swap_tests (has ks j) (n.depth == e) (n.filter == j) (list_any test (insides g j n.regions))))

pub as_many_frames : (ks : List ℕ) (fs : List OpenFrame) → length (frames_without ks fs) ≡ length fs
as_many_frames ks [] = refl
as_many_frames ks (x ∷ xs) = ap suc (as_many_frames ks xs)

pub go_over_told : (plans : Plans) (ks : List ℕ) (notes : List RegionNote) (fs : List OpenFrame) → AreRegionNotes plans notes fs
    → AreRegionNotes plans (notes_of ks notes) (frames_without ks fs)
go_over_told plans ks notes [] h = tt
go_over_told plans ks notes (x ∷ xs) h = (top, go_over_told plans ks notes xs h.1)
  where
    top : (j : ℕ) → HaveSame (of_filter j (without_filters ks x.inside)) (insides_at (plans j) (notes_of ks notes) (suc (length (frames_without ks xs))) j)
    top j test =
        any_of test j (without_filters ks x.inside)
        ∙ (any_cut (λ (i : Inside). (i.filter == j) && test i) (λ (i : Inside). has ks i.filter) x.inside
        ∙ (any_alike (λ (i : Inside). has ks i.filter && ((i.filter == j) && test i)) (λ (i : Inside). has ks j && ((i.filter == j) && test i)) x.inside
        (λ i. kind_found ks i.filter j (test i))
        ∙ (any_and (has ks j) (λ (i : Inside). (i.filter == j) && test i) x.inside
        ∙ (ap (λ (t : Bool). has ks j && t) (sym (any_of test j x.inside) ∙ h.0 j test)
        ∙ (sym (version_at test (plans j) ks notes (suc (length xs)) j)
        ∙ ap (λ (m : ℕ). list_any test (insides_at (plans j) (notes_of ks notes) (suc m) j)) (sym (as_many_frames ks xs)))))))

-- What is left of a note

pub note_stays : (f : Plan) (k d : ℕ) (es : List ℕ) (n : RegionNote) → (n.depth ≡ d → ⊥) → IsNoteBehind f k d es n n
note_stays f k d es n other = record {
  depth = refl;
  filter = refl;
  regions = λ j g own plan. sym (behind_other k d es n.depth (insides g j n.regions) (ne_eqb n.depth d other));
}

by_place : (k d e : ℕ) (es : List ℕ) (is : List Inside) → filter (is_staying_with k es) is ≡ is → (b : Bool) → (e == d) ≡ b → is ≡ insides_behind k d es e is
by_place k d e es is all true h = sym (behind_same k d es e is h ∙ all)
by_place k d e es is all false h = sym (behind_other k d es e is h)

pub note_other : (f : Plan) (k d : ℕ) (es : List ℕ) (n : RegionNote) → (n.filter ≡ k → ⊥) → IsNoteBehind f k d es n n
note_other f k d es n other = record {
  depth = refl;
  filter = refl;
  regions = λ j g own plan.
      by_place k d n.depth es (insides g j n.regions) (others_stay g k j es n.regions (ne_eqb j k (λ e. other (own ∙ e)))) (n.depth == d) refl;
}

-- the notes before the frame's stay as they are
pub front_stays : (f : Plan) (k d : ℕ) (es : List ℕ) (notes : List RegionNote) → AllByRecursion (λ (n : RegionNote). (n.depth == d) ≡ false) notes → AreNotesBehind f k d es notes notes
front_stays f k d es [] h = tt
front_stays f k d es (n ∷ ns) h = (note_stays f k d es n (λ e. no (eq-eqb n.depth d e)), front_stays f k d es ns h.1)
  where
    no : (n.depth == d) ≡ true → ⊥
    no e = let clash : true ≡ false = sym e ∙ h.0 in cc

-- A step of the loop that goes through the frame's notes

at_drop : (ns : List RegionNote) (i : ℕ) (x : RegionNote) → get_or ns i x ≡ get_or (drop i ns) 0 x
at_drop ns zero x = refl
at_drop [] (suc i) x = refl
at_drop (n ∷ ns) (suc i) x = at_drop ns i x

pub behind_more : (f : Plan) (k d : ℕ) (es : List ℕ) (old new : List RegionNote) (i : ℕ) (x y : RegionNote) → i < length new → length new ≡ length old → drop i new ≡ drop i old
    → x ≡ get_or new i x → IsNoteBehind f k d es x y → AreNotesBehind f k d es (take i old) (take i new) → AreNotesBehind f k d es (take (i + 1) old) (take (i + 1) (slice_set new i y))
behind_more f k d es old new i x y low n rest at one all =
    let same : x ≡ get_or old i x = at ∙ (at_drop new i x ∙ (ap (λ (ns : List RegionNote). get_or ns 0 x) rest ∙ sym (at_drop old i x))) in
    subst (AreNotesBehind f k d es (take (i + 1) old)) (sym (take_more_set new i y low))
    (all_zip_more (IsNoteBehind f k d es) old (take i new) i x y (omega arith) same all one)

pub rest_more : (old new : List RegionNote) (i : ℕ) (y : RegionNote) → drop i new ≡ drop i old → drop (i + 1) (slice_set new i y) ≡ drop (i + 1) old
rest_more old new i y rest = drop-set-lt (i + 1) new i y (omega arith) ∙ drop_more_same new old i rest
