-- Tests over regions that a thread is inside.
use Rattle.std.proofs.Common.{ℕ, suc, ◌≡◌, ◌==◌, Bool, true, false, not, ◌&&◌, ◌||◌, cond, List, [], ◌∷◌, ◌++◌, refl, sym, ap, ◌∙◌, if◌then◌else◌, arith}
use Rattle.std.specs.List.{AllByRecursion, filter, list_any}
use Rattle.std.proofs.lemmas.List.Folds.{list_any-append}
use Rattle.std.proofs.lemmas.List.Elements.{filter-append}
use Rattle.loom_law.specs.Filter.{Range, Plan, has, share, exit_events}
use Rattle.loom_law.specs.Walk.{Inside}
use Rattle.loom_plan.specs.declared.sets.RegionSet.{RegionSet}
use Rattle.loom_plan.specs.Sets.{region_numbers}
use Rattle.loom_plan.specs.PlanParts.{plan_regions}
use Rattle.loom_plan.specs.Operations.{insides_from, insides}
use Rattle.loom_walk.specs.declared.region_notes.RegionNote.{RegionNote}
use Rattle.loom_walk.specs.Notes.{insides_at, of_filter}
use Rattle.loom_walk.specs.RegionSteps.{is_staying_with, insides_behind}

-- Any of a list

pub any_alike : {A : Type 0} (p q : A → Bool) (xs : List A) → ((x : A) → p x ≡ q x) → list_any p xs ≡ list_any q xs
any_alike p q [] h = refl
any_alike p q (x ∷ xs) h = ap (λ (t : Bool). t || list_any p xs) (h x) ∙ ap (λ (t : Bool). q x || t) (any_alike p q xs h)

pub any_alike_where : {A : Type 0} (P : A → Type 0) (p q : A → Bool) (xs : List A) → AllByRecursion P xs → ((x : A) → P x → p x ≡ q x) → list_any p xs ≡ list_any q xs
any_alike_where P p q [] all h = refl
any_alike_where P p q (x ∷ xs) all h =
    ap (λ (t : Bool). t || list_any p xs) (h x all.0) ∙ ap (λ (t : Bool). q x || t) (any_alike_where P p q xs all.1 h)

pub any_never : {A : Type 0} (xs : List A) → list_any (λ (x : A). false) xs ≡ false
any_never [] = refl
any_never (x ∷ xs) = any_never xs

four : (a b x y : Bool) → ((a || b) || (x || y)) ≡ ((a || x) || (b || y))
four a b x y = grind arith

pub any_either : {A : Type 0} (p q : A → Bool) (xs : List A) → list_any (λ (x : A). p x || q x) xs ≡ (list_any p xs || list_any q xs)
any_either p q [] = refl
any_either p q (x ∷ xs) = ap (λ (t : Bool). (p x || q x) || t) (any_either p q xs) ∙ four (p x) (q x) (list_any p xs) (list_any q xs)

spread : (a x y : Bool) → ((a && x) || (a && y)) ≡ (a && (x || y))
spread a x y = grind arith

none_of : (b : Bool) → false ≡ (b && false)
none_of true = refl
none_of false = refl

pub any_and : {A : Type 0} (b : Bool) (p : A → Bool) (xs : List A) → list_any (λ (x : A). b && p x) xs ≡ (b && list_any p xs)
any_and b p [] = none_of b
any_and b p (x ∷ xs) = ap (λ (t : Bool). (b && p x) || t) (any_and b p xs) ∙ spread b (p x) (list_any p xs)

pub any_head : {A : Type 0} (test : A → Bool) (b : Bool) (x : A) (ys : List A) → list_any test (cond b (x ∷ ys) ys) ≡ ((b && test x) || list_any test ys)
any_head test true x ys = refl
any_head test false x ys = refl

-- of those of a list that another test finds
pub any_cut : {A : Type 0} (test p : A → Bool) (xs : List A) → list_any test (filter p xs) ≡ list_any (λ (x : A). p x && test x) xs
any_cut test p [] = refl
any_cut test p (x ∷ xs) = any_head test (p x) x (filter p xs) ∙ ap (λ (t : Bool). (p x && test x) || t) (any_cut test p xs)

pub any_last : {A : Type 0} (p : A → Bool) (xs : List A) (x : A) → list_any p (xs ++ x ∷ []) ≡ (p x || list_any p xs)
any_last p xs x = list_any-append p xs (x ∷ []) ∙ turned (list_any p xs) (p x)
  where
    turned : (a b : Bool) → (a || (b || false)) ≡ (b || a)
    turned a b = grind arith

-- Regions by their numbers

abbrev inside_of : ℕ → (ℕ × Range) → Inside
inside_of k x = record { filter = k; clause = x.0; range = x.1 }

kind_step : (b e t r s : Bool) → s ≡ (e && r) → ((b && (e && t)) || s) ≡ (e && ((b && t) || r))
kind_step b e t r s h = grind arith

kind_from : (test : Inside → Bool) (j k n : ℕ) (rs : List ℕ) (xs : List (ℕ × Range))
    → list_any (λ (i : Inside). (i.filter == j) && test i) (insides_from k n rs xs) ≡ ((k == j) && list_any test (insides_from k n rs xs))
kind_from test j k n rs [] = none_of (k == j)
kind_from test j k n rs (x ∷ xs) =
    any_head (λ (i : Inside). (i.filter == j) && test i) (has rs n) (inside_of k x) (insides_from k (suc n) rs xs)
    ∙ (kind_step (has rs n) (k == j) (test (inside_of k x)) (list_any test (insides_from k (suc n) rs xs))
    (list_any (λ (i : Inside). (i.filter == j) && test i) (insides_from k (suc n) rs xs)) (kind_from test j k (suc n) rs xs)
    ∙ ap (λ (t : Bool). (k == j) && t) (sym (any_head test (has rs n) (inside_of k x) (insides_from k (suc n) rs xs))))

-- regions of filter k are of filter k alone
pub any_kind : (test : Inside → Bool) (f : Plan) (j k : ℕ) (rs : RegionSet)
    → list_any (λ (i : Inside). (i.filter == j) && test i) (insides f k rs) ≡ ((k == j) && list_any test (insides f k rs))
any_kind test f j k rs = kind_from test j k 1 (region_numbers rs) (plan_regions f)

union_step : (h a b t r x y : Bool) → h ≡ (a || b) → r ≡ (x || y) → ((h && t) || r) ≡ (((a && t) || x) || ((b && t) || y))
union_step h a b t r x y e g = grind arith

union_from : (test : Inside → Bool) (k n : ℕ) (rs us vs : List ℕ) (xs : List (ℕ × Range)) → ((m : ℕ) → has rs m ≡ (has us m || has vs m))
    → list_any test (insides_from k n rs xs) ≡ (list_any test (insides_from k n us xs) || list_any test (insides_from k n vs xs))
union_from test k n rs us vs [] h = refl
union_from test k n rs us vs (x ∷ xs) h =
    any_head test (has rs n) (inside_of k x) (insides_from k (suc n) rs xs)
    ∙ (union_step (has rs n) (has us n) (has vs n) (test (inside_of k x)) (list_any test (insides_from k (suc n) rs xs))
    (list_any test (insides_from k (suc n) us xs)) (list_any test (insides_from k (suc n) vs xs)) (h n) (union_from test k (suc n) rs us vs xs h)
    ∙ (ap (λ (t : Bool). t || ((has vs n && test (inside_of k x)) || list_any test (insides_from k (suc n) vs xs))) (sym (any_head test (has us n) (inside_of k x) (insides_from k (suc n) us xs)))
    ∙ ap (λ (t : Bool). list_any test (insides_from k n us (x ∷ xs)) || t) (sym (any_head test (has vs n) (inside_of k x) (insides_from k (suc n) vs xs)))))

pub any_union : (test : Inside → Bool) (f : Plan) (k : ℕ) (rs us vs : RegionSet) → ((m : ℕ) → has (region_numbers rs) m ≡ (has (region_numbers us) m || has (region_numbers vs) m))
    → list_any test (insides f k rs) ≡ (list_any test (insides f k us) || list_any test (insides f k vs))
any_union test f k rs us vs h = union_from test k 1 (region_numbers rs) (region_numbers us) (region_numbers vs) (plan_regions f) h

keep_head : (p : Inside → Bool) (b : Bool) (i : Inside) (is js : List Inside) → p i ≡ true → filter p is ≡ js → filter p (cond b (i ∷ is) is) ≡ cond b (i ∷ js) js
keep_head p true i is js e h = ap (λ (t : Bool). cond t (i ∷ filter p is) (filter p is)) e ∙ ap (λ (z : List Inside). i ∷ z) h
keep_head p false i is js e h = h

others_from : (k j n : ℕ) (ns rs : List ℕ) (xs : List (ℕ × Range)) → (j == k) ≡ false
    → filter (is_staying_with k ns) (insides_from j n rs xs) ≡ insides_from j n rs xs
others_from k j n ns rs [] h = refl
others_from k j n ns rs (x ∷ xs) h =
    keep_head (is_staying_with k ns) (has rs n) (inside_of j x) (insides_from j (suc n) rs xs) (insides_from j (suc n) rs xs)
    (ap (λ (t : Bool). not (t && share (exit_events x.1) ns)) h) (others_from k j (suc n) ns rs xs h)

-- regions of other filters stay
pub others_stay : (f : Plan) (k j : ℕ) (ns : List ℕ) (rs : RegionSet) → (j == k) ≡ false → filter (is_staying_with k ns) (insides f j rs) ≡ insides f j rs
others_stay f k j ns rs h = others_from k j 1 ns (region_numbers rs) (plan_regions f) h

-- What is left behind events

pub behind_nil : (k d : ℕ) (ns : List ℕ) (e : ℕ) → [] ≡ insides_behind k d ns e []
behind_nil k d ns e = by (e == d)
  where
    by : (b : Bool) → [] ≡ (if b then filter (is_staying_with k ns) [] else [])
    by true = refl
    by false = refl

pub behind_append : (k d : ℕ) (ns : List ℕ) (e : ℕ) (is js : List Inside)
    → insides_behind k d ns e is ++ insides_behind k d ns e js ≡ insides_behind k d ns e (is ++ js)
behind_append k d ns e is js = by (e == d)
  where
    by : (b : Bool) → (if b then filter (is_staying_with k ns) is else is) ++ (if b then filter (is_staying_with k ns) js else js) ≡ (if b then filter (is_staying_with k ns) (is ++ js) else is ++ js)
    by true = sym (filter-append (is_staying_with k ns) is js)
    by false = refl

pub behind_other : (k d : ℕ) (ns : List ℕ) (e : ℕ) (is : List Inside) → (e == d) ≡ false → insides_behind k d ns e is ≡ is
behind_other k d ns e is h = ap (λ (b : Bool). if b then filter (is_staying_with k ns) is else is) h

pub behind_same : (k d : ℕ) (ns : List ℕ) (e : ℕ) (is : List Inside) → (e == d) ≡ true → insides_behind k d ns e is ≡ filter (is_staying_with k ns) is
behind_same k d ns e is h = ap (λ (b : Bool). if b then filter (is_staying_with k ns) is else is) h

-- Notes of a frame and a filter

-- the note is of that frame and that filter, and the test finds one of its regions
abbrev pub finds : (Inside → Bool) → Plan → ℕ → ℕ → RegionNote → Bool
finds test f d k n = ((n.depth == d) && (n.filter == k)) && list_any test (insides f k n.regions)

at_head : (test : Inside → Bool) (b : Bool) (is js : List Inside) → list_any test (if b then is ++ js else js) ≡ ((b && list_any test is) || list_any test js)
at_head test true is js = list_any-append test is js
at_head test false is js = refl

pub any_at : (test : Inside → Bool) (f : Plan) (notes : List RegionNote) (d k : ℕ) → list_any test (insides_at f notes d k) ≡ list_any (finds test f d k) notes
any_at test f [] d k = refl
any_at test f (n ∷ ns) d k =
    at_head test ((n.depth == d) && (n.filter == k)) (insides f k n.regions) (insides_at f ns d k)
    ∙ ap (λ (t : Bool). finds test f d k n || t) (any_at test f ns d k)

-- of the regions of filter k
pub any_of : (test : Inside → Bool) (k : ℕ) (is : List Inside) → list_any test (of_filter k is) ≡ list_any (λ (i : Inside). (i.filter == k) && test i) is
any_of test k is = any_cut test (λ (i : Inside). i.filter == k) is
