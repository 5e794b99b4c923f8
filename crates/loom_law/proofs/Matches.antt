-- Lists and tests, and the events that match at a site.
use Rattle.std.proofs.Common.{ℕ, zero, suc, ◌+◌, ◌≡◌, ◌==◌, ◌⊎◌, inl, inr, ◌&&◌, ◌||◌, Bool, true, false, List, [], ◌∷◌, slice_get, Some, None, refl, sym, ap, subst, arith, if◌then◌else◌}
use Rattle.std.specs.List.{Contains, list_any, filter}
use Rattle.std.proofs.lemmas.Bool.{and_parts}
use Rattle.loom_lang.specs.Trace.{Locals}
use Rattle.loom_law.specs.Filter.{Site, statement, function, Watch, Plan, is_site, passes, matching_from, matching, has, share}
use Rattle.loom_law.specs.Paths.{watch_at}
use Rattle.loom_law.proofs.Course.{contains_first, contains_later, no_member, contains_cases, any_contains}

pub same_number : (m l : ℕ) → (m == l) ≡ true → m ≡ l
same_number m l h = grind arith

pub is_same : (m : ℕ) → (m == m) ≡ true
is_same m = grind arith

-- one of these is added by a test, or it was there
pub if_cases : {A : Type 0} (b : Bool) (n m : A) (xs : List A) → Contains (if b then n ∷ xs else xs) m → ((b ≡ true) × (n ≡ m)) ⊎ Contains xs m
if_cases true n m xs c = first_or (contains_cases n m xs c)
  where
    first_or : (n ≡ m) ⊎ Contains xs m → ((true ≡ true) × (n ≡ m)) ⊎ Contains xs m
    first_or (inl e) = inl (refl, e)
    first_or (inr h) = inr h
if_cases false n m xs c = inr c

pub if_first : {A : Type 0} (b : Bool) (n : A) (xs : List A) → b ≡ true → Contains (if b then n ∷ xs else xs) n
if_first true n xs h = contains_first n xs
if_first false n xs h = cc

pub if_later : {A : Type 0} (b : Bool) (n m : A) (xs : List A) → Contains xs m → Contains (if b then n ∷ xs else xs) m
if_later true n m xs c = contains_later n m xs c
if_later false n m xs c = c

-- what stands in a filtered list passes the test
pub filter_member : {A : Type 0} (test : A → Bool) (xs : List A) (m : A) → Contains (filter test xs) m → (test m ≡ true) × Contains xs m
filter_member test [] m c = absurd (no_member m c)
filter_member {A} test (x ∷ xs) m c = by_test (filter_member test xs m) (if_cases (test x) x m (filter test xs) c)
  where
    by_test : (Contains (filter test xs) m → (test m ≡ true) × Contains xs m) → ((test x ≡ true) × (x ≡ m)) ⊎ Contains (filter test xs) m
        → (test m ≡ true) × Contains (x ∷ xs) m
    by_test ih (inl h) =
        let P : A → Type 0 = λ z. test z ≡ true in
        let Q : A → Type 0 = λ z. Contains (x ∷ xs) z in
        (subst P h.1 h.0, subst Q h.1 (contains_first x xs))
    by_test ih (inr h) = let r = ih h in (r.0, contains_later x m xs r.1)

-- a test that finds something
pub any_found : {A : Type 0} (test : A → Bool) (xs : List A) → list_any test xs ≡ true → (x : A) × (Contains xs x × (test x ≡ true))
any_found test [] h = cc
any_found {A} test (y ∷ ys) h = by_test (any_found test ys) (test y) refl h
  where
    by_test : (list_any test ys ≡ true → (x : A) × (Contains ys x × (test x ≡ true))) → (b : Bool) → test y ≡ b → (b || list_any test ys) ≡ true
        → (x : A) × (Contains (y ∷ ys) x × (test x ≡ true))
    by_test ih true is g = (y, (contains_first y ys, is))
    by_test ih false is g = let r = ih g in (r.0, (contains_later y r.0 ys r.1.0, r.1.1))

pub has_member : (ns : List ℕ) (n : ℕ) → has ns n ≡ true → Contains ns n
has_member ns n h =
    let r = any_found (λ m. m == n) ns h in
    let P : ℕ → Type 0 = λ z. Contains ns z in
    subst P (same_number r.0 n r.1.1) r.1.0

pub member_has : (ns : List ℕ) (n : ℕ) → Contains ns n → has ns n ≡ true
member_has ns n c = any_contains (λ m. m == n) ns n c (is_same n)

-- two lists of events share one
pub shared_one : (ms ns : List ℕ) → share ms ns ≡ true → (n : ℕ) × (Contains ms n × Contains ns n)
shared_one ms ns h = let r = any_found (has ns) ms h in (r.0, (r.1.0, has_member ns r.0 r.1.1))

pub one_shared : (ms ns : List ℕ) (n : ℕ) → Contains ms n → Contains ns n → share ms ns ≡ true
one_shared ms ns n a b = any_contains (has ns) ms n a (member_has ns n b)

-- nothing stands in an empty list
pub none_there : {A : Type 0} (xs : List A) → ((x : A) → Contains xs x → ⊥) → xs ≡ []
none_there [] h = refl
none_there (x ∷ xs) h = absurd (h x (contains_first x xs))

-- Events that match

abbrev pub Found : List Watch → ℕ → ℕ → Site → Type 0
Found ws n m at = (w : Watch) × ((k : ℕ) × ((m ≡ k + n) × ((slice_get ws k ≡ Some w) × (is_site at w.site ≡ true))))

matching_found : (n : ℕ) (at : Site) (env : Locals) (ws : List Watch) (m : ℕ) → Contains (matching_from n at env ws) m → Found ws n m at
matching_found n at env [] m c = absurd (no_member m c)
matching_found n at env (w ∷ ws) m c =
    by_cases (matching_found (suc n) at env ws m) (if_cases (is_site at w.site && passes env w.test) n m (matching_from (suc n) at env ws) c)
  where
    by_cases : (Contains (matching_from (suc n) at env ws) m → Found ws (suc n) m at) → (((is_site at w.site && passes env w.test) ≡ true) × (n ≡ m)) ⊎ Contains (matching_from (suc n) at env ws) m → Found (w ∷ ws) n m at
    by_cases ih (inl h) = let e = h.1 in (w, (0, (omega arith, (refl, (and_parts _ _ h.0).0))))
    by_cases ih (inr h) = let r = ih h in let e = r.1.1.0 in (r.0, (suc r.1.0, (omega arith, (r.1.1.1.0, r.1.1.1.1))))

and_true : (a b : Bool) → a ≡ true → b ≡ true → (a && b) ≡ true
and_true true b h g = g
and_true false b h g = cc

matching_has : (n : ℕ) (at : Site) (env : Locals) (ws : List Watch) (k m : ℕ) (w : Watch) → slice_get ws k ≡ Some w → is_site at w.site ≡ true
    → passes env w.test ≡ true → m ≡ k + n → Contains (matching_from n at env ws) m
matching_has n at env [] k m w is s t e = cc
matching_has n at env (v ∷ ws) zero m w is s t e =
    let same : v ≡ w = cc in
    let P : Watch → Type 0 = λ z. (is_site at z.site && passes env z.test) ≡ true in
    let Q : ℕ → Type 0 = λ z. Contains (matching_from n at env (v ∷ ws)) z in
    let met : (is_site at v.site && passes env v.test) ≡ true = subst P (sym same) (and_true _ _ s t) in
    let is_n : n ≡ m = omega arith in
    subst Q is_n (if_first (is_site at v.site && passes env v.test) n (matching_from (suc n) at env ws) met)
matching_has n at env (v ∷ ws) (suc k) m w is s t e =
    if_later (is_site at v.site && passes env v.test) n m (matching_from (suc n) at env ws) (matching_has (suc n) at env ws k m w is s t (omega arith))

statement_site : (l : ℕ) (s : Site) → is_site (statement l) s ≡ true → s ≡ statement l
statement_site l (statement m) h = ap statement (same_number m l h)
statement_site l (function g) h = cc

function_site : (g : ℕ) (s : Site) → is_site (function (Some g)) s ≡ true → s ≡ function (Some g)
function_site g (statement m) h = cc
function_site g (function None) h = cc
function_site g (function (Some h)) is = ap (λ z. function (Some z)) (same_number h g is)

-- the event watches this site
pub record Watches (f : Plan) (n : ℕ) (at : Site) : Type 0 where
  pub watch : Watch
  pub is : watch_at f n ≡ Some watch
  pub site : watch.site ≡ at

found_watch : (f : Plan) (m k : ℕ) (w : Watch) → m ≡ k + 1 → slice_get f.watches k ≡ Some w → watch_at f m ≡ Some w
found_watch f m k w e is =
    let P : ℕ → Type 0 = λ z. watch_at f z ≡ Some w in
    let same : suc k ≡ m = omega arith in
    subst P same is

-- what matches where a statement of this line begins watches this line
pub matches_statement : (f : Plan) (l : ℕ) (env : Locals) (n : ℕ) → Contains (matching f (statement l) env) n → Watches f n (statement l)
matches_statement f l env n c =
    let r = matching_found 1 (statement l) env f.watches n c in
    record { watch = r.0; is = found_watch f n r.1.0 r.0 r.1.1.0 r.1.1.1.0; site = statement_site l _ r.1.1.1.1 }

pub matches_function : (f : Plan) (g : ℕ) (env : Locals) (n : ℕ) → Contains (matching f (function (Some g)) env) n → Watches f n (function (Some g))
matches_function f g env n c =
    let r = matching_found 1 (function (Some g)) env f.watches n c in
    record { watch = r.0; is = found_watch f n r.1.0 r.0 r.1.1.0 r.1.1.1.0; site = function_site g _ r.1.1.1.1 }

-- an event without test matches at its line
pub untested_matches : (f : Plan) (l : ℕ) (env : Locals) (n : ℕ) → watch_at f n ≡ Some (record { site = statement l; test = None }) → Contains (matching f (statement l) env) n
untested_matches f l env zero is = cc
untested_matches f l env (suc k) is = matching_has 1 (statement l) env f.watches k (suc k) (record { site = statement l; test = None }) is (is_same l) refl (omega arith)
