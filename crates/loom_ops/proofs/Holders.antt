-- Who holds a clause is found as the first one, since there is one at most.
use Rattle.std.proofs.Common.{ℕ, ◌≡◌, ◌==◌, Bool, true, false, not, ◌&&◌, ◌||◌, List, [], ◌∷◌, Option, Some, None, if◌then◌else◌, refl, sym, ap, ◌∙◌, subst, arith}
use Rattle.std.specs.List.{AllByRecursion, IsDistinct}
use Rattle.std.proofs.lemmas.Bool.{and_parts}
use Rattle.loom_law.specs.Filter.{is_number}
use Rattle.loom_law.specs.Control.{Holder}
use Rattle.loom_law.proofs.Holdings.{or_right, same_number}
use Rattle.loom_ops.specs.Ops.{FilterLocks, has_alone, has_holder, is_holder, owns, have_one_clause}
use Rattle.loom_ops.specs.Rows.{first_holder, first_owner, is_other}

pub eq_same : (n : ℕ) → (n == n) ≡ true
eq_same n = grind arith

-- The holder of a clause

none_by : (hs : List Holder) (k c t : ℕ) → AllByRecursion (λ (h : Holder). ((h.filter == k) && (h.clause == c)) ≡ false) hs → is_holder hs k c t ≡ false
none_by [] k c t h = refl
none_by (x ∷ hs) k c t h = neither (x.filter == k) (x.clause == c) (x.thread == t) (is_holder hs k c t) h.0 (none_by hs k c t h.1)
  where
    neither : (a b d rest : Bool) → (a && b) ≡ false → rest ≡ false → ((a && (b && d)) || rest) ≡ false
    neither true true d rest e g = cc
    neither true false d rest e g = g
    neither false b d rest e g = g

none_later : (hs : List Holder) (h : Holder) (k c t : ℕ) → AllByRecursion (λ (y : Holder). have_one_clause h y ≡ false) hs → ((h.filter == k) && (h.clause == c)) ≡ true
    → is_holder hs k c t ≡ false
none_later hs h k c t apart e =
    let two = and_parts (h.filter == k) (h.clause == c) e in
    none_by hs k c t (subst (λ z. AllByRecursion (λ (y : Holder). ((y.filter == z) && (y.clause == c)) ≡ false) hs) (same_number h.filter k two.0)
    (subst (λ z. AllByRecursion (λ (y : Holder). ((y.filter == h.filter) && (y.clause == z)) ≡ false) hs) (same_number h.clause c two.1) apart))

holder_step : (a b : Bool) (n t : ℕ) (x : Option ℕ) (rest : Bool) → ((a && b) ≡ true → rest ≡ false) → is_number t x ≡ rest
    → is_number t (if a && b then Some n else x) ≡ ((a && (b && (n == t))) || rest)
holder_step true true n t x rest f h = last (n == t) rest (f refl)
  where
    last : (d r : Bool) → r ≡ false → d ≡ (d || r)
    last true r e = refl
    last false r e = sym e
holder_step true false n t x rest f h = h
holder_step false b n t x rest f h = h

pub holder_told : (hs : List Holder) (k c t : ℕ) → IsDistinct have_one_clause hs → is_number t (first_holder hs k c) ≡ is_holder hs k c t
unfolding IsDistinct
holder_told [] k c t d = refl
holder_told (h ∷ hs) k c t d =
    holder_step (h.filter == k) (h.clause == c) h.thread t (first_holder hs k c) (is_holder hs k c t) (λ e. none_later hs h k c t d.0 e) (holder_told hs k c t d.1)

pub none_holds : (hs : List Holder) (k c : ℕ) → first_holder hs k c ≡ None → has_holder hs k c ≡ false
none_holds [] k c h = refl
none_holds (x ∷ hs) k c h = step ((x.filter == k) && (x.clause == c)) x.thread (first_holder hs k c) (has_holder hs k c) (λ e. none_holds hs k c e) h
  where
    step : (b : Bool) (n : ℕ) (o : Option ℕ) (rest : Bool) → (o ≡ None → rest ≡ false) → (if b then Some n else o) ≡ None → (b || rest) ≡ false
    step true n o rest f e = cc
    step false n o rest f e = f e

pub holder_holds : (hs : List Holder) (k c u : ℕ) → IsDistinct have_one_clause hs → first_holder hs k c ≡ Some u → is_holder hs k c u ≡ true
holder_holds hs k c u d e = sym (holder_told hs k c u d) ∙ (ap (is_number u) e ∙ eq_same u)

-- what differs in this is not the same
pub differ : (P : ℕ → Bool) (u t : ℕ) → P u ≡ true → P t ≡ false → (u == t) ≡ false
differ P u t h g = by_test (u == t) (λ e. same_number u t e)
  where
    by_test : (b : Bool) → (b ≡ true → u ≡ t) → b ≡ false
    by_test false f = refl
    by_test true f = let no : true ≡ false = sym h ∙ (ap P (f refl) ∙ g) in cc

-- The owner

owner_step : (b : Bool) (n t : ℕ) (x : Option ℕ) (rest : Bool) → (b ≡ true → rest ≡ true → (n == t) ≡ true) → is_number t x ≡ rest
    → is_number t (if b then Some n else x) ≡ ((b && (n == t)) || rest)
owner_step true n t x rest f h = last (n == t) rest (λ e. f refl e)
  where
    last : (d r : Bool) → (r ≡ true → d ≡ true) → d ≡ (d || r)
    last true r g = refl
    last false true g = g refl
    last false false g = refl
owner_step false n t x rest f h = h

pub owner_told : (fs : List FilterLocks) (hs : List Holder) (t : ℕ)
    → ((u v : ℕ) → owns (record { filters = fs; holders = hs; posts = [] }) u ≡ true → owns (record { filters = fs; holders = hs; posts = [] }) v ≡ true → u ≡ v)
    → is_number t (first_owner fs hs) ≡ owns (record { filters = fs; holders = hs; posts = [] }) t
owner_told fs [] t one = refl
owner_told fs (h ∷ hs) t one =
    owner_step (has_alone fs h.filter h.clause) h.thread t (first_owner fs hs) (owns (record { filters = fs; holders = hs; posts = [] }) t)
    (λ b r. same b r) (owner_told fs hs t (λ u v a b. one u v (later u a) (later v b)))
  where
    later : (u : ℕ) → owns (record { filters = fs; holders = hs; posts = [] }) u ≡ true → owns (record { filters = fs; holders = h ∷ hs; posts = [] }) u ≡ true
    later u a = or_right (has_alone fs h.filter h.clause && (h.thread == u)) (owns (record { filters = fs; holders = hs; posts = [] }) u) a

    first : has_alone fs h.filter h.clause ≡ true → owns (record { filters = fs; holders = h ∷ hs; posts = [] }) h.thread ≡ true
    first b = here (has_alone fs h.filter h.clause) (h.thread == h.thread) (owns (record { filters = fs; holders = hs; posts = [] }) h.thread) b (eq_same h.thread)
      where
        here : (a d r : Bool) → a ≡ true → d ≡ true → ((a && d) || r) ≡ true
        here true true r e g = refl
        here true false r e g = cc
        here false d r e g = cc

    same : has_alone fs h.filter h.clause ≡ true → owns (record { filters = fs; holders = hs; posts = [] }) t ≡ true → (h.thread == t) ≡ true
    same b r = subst (λ z. (h.thread == z) ≡ true) (one h.thread t (first b) (later t r)) (eq_same h.thread)

-- Another thread

pub other_holds : (x : Option ℕ) (P : ℕ → Bool) (t : ℕ) → ((u : ℕ) → is_number u x ≡ P u) → is_other t x ≡ true
    → (u : ℕ) × (((u == t) ≡ false) × (P u ≡ true))
other_holds None P t told h = cc
other_holds (Some v) P t told h = (v, (swap (v == t) h, sym (told v) ∙ eq_same v))
  where
    swap : (b : Bool) → not b ≡ true → b ≡ false
    swap true e = cc
    swap false e = refl

pub no_other_holds : (x : Option ℕ) (P : ℕ → Bool) (t u : ℕ) → ((v : ℕ) → is_number v x ≡ P v) → is_other t x ≡ false → (u == t) ≡ false → P u ≡ true → ⊥
no_other_holds None P t u told h e g = let no : false ≡ true = told u ∙ g in cc
no_other_holds (Some v) P t u told h e g =
    let same : v ≡ u = same_number v u (told u ∙ g) in
    let is : (v == t) ≡ true = swap (v == t) h in
    let no : true ≡ false = sym is ∙ (ap (λ z. z == t) same ∙ e) in cc
  where
    swap : (b : Bool) → not b ≡ false → b ≡ true
    swap true e = refl
    swap false e = cc
