-- The keys of the steps so far tell whether two steps have one event.
use Rattle.std.proofs.Common.{ℕ, ◌+◌, ◌<◌, ◌≡◌, ◌⊎◌, inl, inr, Bool, true, false, cond, not, List, [], ◌∷◌, length, get_or, drop, suc, Vec, Ordering, refl, sym, ap, subst, ◌∙◌, add-one, drop-cons}
use Rattle.std.specs.Global.{Global}
use Rattle.std.specs.Ordering.{nat_cmp, eq_by_cmp}
use Rattle.std.specs.Cmp.Lexicographic.{slice_cmp}
use Rattle.std.specs.BTreeMap.{is_at}
use Rattle.std.specs.BTreeSet.{BTreeSet, contains}
use Rattle.std.proofs.lemmas.Cmp.{nat_list_cmp_total, eq_by_cmp_equiv}
use Rattle.std.specs.List.{list_any}
use Rattle.std.proofs.lemmas.Map.Lookups.{exact_bytes}
use Rattle.std.proofs.lemmas.Map.Views.{tells_apart}
use Rattle.loom_command.specs.Filter as tree
use Rattle.loom_filter.specs.Fault.{IsStepAmong, HaveTwins}
use Rattle.loom_filter.specs.Key.{event_key}
use Rattle.loom_filter.proofs.Keys.{one_event}

pub drop_at : {X : Type 0} (xs : List X) (i : ℕ) (x : X) → i < length xs → x ≡ get_or xs i x → drop i xs ≡ x ∷ drop (i + 1) xs
drop_at xs i x l e = rw add-one (drop-cons xs i x l ∙ ap (λ z. z ∷ drop (suc i) xs) (sym e))

-- the key of one of these steps is such
abbrev pub IsKeyAmong : (List ℕ → Type 0) → List tree.OrderStep → Type 0
IsKeyAmong P [] = ⊥
IsKeyAmong P (s ∷ ss) = P (event_key s.event) ⊎ IsKeyAmong P ss

-- all have twins where these have some, or one of these has a key that was met
pub record TwinsAreLeft (P : List ℕ → Type 0) (rest all : List tree.OrderStep) : Type 0 where
  pub there : HaveTwins all → HaveTwins rest ⊎ IsKeyAmong P rest
  pub back : HaveTwins rest ⊎ IsKeyAmong P rest → HaveTwins all

none_in : (P : List ℕ → Type 0) → ((k : List ℕ) → P k → ⊥) → (ss : List tree.OrderStep) → IsKeyAmong P ss → ⊥
none_in P none [] h = h
none_in P none (s ∷ ss) (inl h) = none (event_key s.event) h
none_in P none (s ∷ ss) (inr h) = none_in P none ss h

more_in : (P Q : List ℕ → Type 0) → ((k : List ℕ) → P k → Q k) → (ss : List tree.OrderStep) → IsKeyAmong P ss → IsKeyAmong Q ss
more_in P Q f [] h = h
more_in P Q f (s ∷ ss) (inl h) = inl (f (event_key s.event) h)
more_in P Q f (s ∷ ss) (inr h) = inr (more_in P Q f ss h)

among_in : (Q : List ℕ → Type 0) (e : tree.LineEvent) → Q (event_key e) → (ss : List tree.OrderStep) → IsStepAmong e ss → IsKeyAmong Q ss
among_in Q e q [] h = h
among_in Q e q (s ∷ ss) (inl h) = inl (subst (λ (z : tree.LineEvent). Q (event_key z)) h q)
among_in Q e q (s ∷ ss) (inr h) = inr (among_in Q e q ss h)

in_among : (P Q : List ℕ → Type 0) (e : tree.LineEvent) → ((k : List ℕ) → Q k → P k ⊎ (k ≡ event_key e)) → (ss : List tree.OrderStep) → IsKeyAmong Q ss → IsKeyAmong P ss ⊎ IsStepAmong e ss
in_among P Q e f [] h = absurd h
in_among P Q e f (s ∷ ss) (inl h) = go (f (event_key s.event) h)
  where
    go : P (event_key s.event) ⊎ (event_key s.event ≡ event_key e) → IsKeyAmong P (s ∷ ss) ⊎ IsStepAmong e (s ∷ ss)
    go (inl p) = inl (inl p)
    go (inr k) = inr (inl (sym (one_event s.event e k)))
in_among P Q e f (s ∷ ss) (inr h) = go (in_among P Q e f ss h)
  where
    go : IsKeyAmong P ss ⊎ IsStepAmong e ss → IsKeyAmong P (s ∷ ss) ⊎ IsStepAmong e (s ∷ ss)
    go (inl p) = inl (inr p)
    go (inr a) = inr (inr a)

left_first : (P : List ℕ → Type 0) → ((k : List ℕ) → P k → ⊥) → (all : List tree.OrderStep) → TwinsAreLeft P all all
left_first P none all = record { there = λ h. inl h; back = λ h. go h }
  where
    go : HaveTwins all ⊎ IsKeyAmong P all → HaveTwins all
    go (inl h) = h
    go (inr h) = absurd (none_in P none all h)

left_on : (P Q : List ℕ → Type 0) (s : tree.OrderStep) (ss all : List tree.OrderStep) → (P (event_key s.event) → ⊥) → ((k : List ℕ) → Q k → P k ⊎ (k ≡ event_key s.event)) → ((k : List ℕ) → P k → Q k) → Q (event_key s.event) → TwinsAreLeft P (s ∷ ss) all → TwinsAreLeft Q ss all
left_on P Q s ss all new split more own l = record { there = λ h. there (l.there h); back = λ h. l.back (back h) }
  where
    there : HaveTwins (s ∷ ss) ⊎ IsKeyAmong P (s ∷ ss) → HaveTwins ss ⊎ IsKeyAmong Q ss
    there (inl (inl a)) = inr (among_in Q s.event own ss a)
    there (inl (inr t)) = inl t
    there (inr (inl p)) = absurd (new p)
    there (inr (inr r)) = inr (more_in P Q more ss r)

    again : IsKeyAmong P ss ⊎ IsStepAmong s.event ss → HaveTwins (s ∷ ss) ⊎ IsKeyAmong P (s ∷ ss)
    again (inl p) = inr (inr p)
    again (inr a) = inl (inl a)

    back : HaveTwins ss ⊎ IsKeyAmong Q ss → HaveTwins (s ∷ ss) ⊎ IsKeyAmong P (s ∷ ss)
    back (inl t) = inl (inr t)
    back (inr q) = again (in_among P Q s.event split ss q)

-- Keys in an ordered set

abbrev pub EventKey : Type 0
EventKey = Vec ℕ Global

abbrev pub by_items : EventKey → EventKey → Ordering
by_items x y = slice_cmp nat_cmp x.items y.items

-- the key with these numbers is in the set
pub record HasKey (t : BTreeSet EventKey) (k : List ℕ) : Type 0 where
  pub key : EventKey
  pub items : key.items ≡ k
  pub is : contains by_items t key ≡ true

same_at : (x y : EventKey) → is_at (by_items x) y ≡ true → x.items ≡ y.items
same_at x y h = tells_apart exact_bytes x.items y.items h

at_same : (x y : EventKey) → x.items ≡ y.items → is_at (by_items x) y ≡ true
at_same x y h = subst (λ z. eq_by_cmp (slice_cmp nat_cmp) x.items z ≡ true) h ((eq_by_cmp_equiv nat_list_cmp_total).refl x.items)

contains_same : (t : BTreeSet EventKey) (x y : EventKey) → x.items ≡ y.items → contains by_items t x ≡ contains by_items t y
contains_same t x y h = ap (λ z. list_any (λ (q : EventKey). eq_by_cmp (slice_cmp nat_cmp) z q.items) t.keys) h

abbrev pub TakesKey : BTreeSet EventKey → BTreeSet EventKey → EventKey → Type 0
TakesKey old new key = (q : EventKey) → contains by_items new q ≡ cond (is_at (by_items key) q) true (contains by_items old q)

split : (old new : BTreeSet EventKey) (key : EventKey) → TakesKey old new key → (k : List ℕ) → HasKey new k → HasKey old k ⊎ (k ≡ key.items)
split old new key u k h = go (is_at (by_items key) h.key) refl
  where
    go : (b : Bool) → is_at (by_items key) h.key ≡ b → HasKey old k ⊎ (k ≡ key.items)
    go true e = inr (sym h.items ∙ sym (same_at key h.key e))
    go false e = inl (record { key = h.key; items = h.items; is = sym (u h.key ∙ ap (λ z. cond z true (contains by_items old h.key)) e) ∙ h.is })

more : (old new : BTreeSet EventKey) (key : EventKey) → TakesKey old new key → (k : List ℕ) → HasKey old k → HasKey new k
more old new key u k h = record { key = h.key; items = h.items; is = u h.key ∙ ap (cond (is_at (by_items key) h.key) true) h.is ∙ go (is_at (by_items key) h.key) }
  where
    go : (b : Bool) → cond b true true ≡ true
    go true = refl
    go false = refl

own : (old new : BTreeSet EventKey) (key : EventKey) → TakesKey old new key → HasKey new key.items
own old new key u = record { key = key; items = refl; is = u key ∙ ap (λ z. cond z true (contains by_items old key)) (at_same key key refl) }

absent : (old : BTreeSet EventKey) (key : EventKey) → contains by_items old key ≡ false → HasKey old key.items → ⊥
absent old key n h = let e = sym (contains_same old h.key key h.items ∙ n) ∙ h.is in cc

-- what the set's answer tells

pub seen_told : (a b : Bool) → a ≡ not b → a ≡ false → b ≡ true
seen_told a true e h = refl
seen_told a false e h = cc

pub new_told : (a b : Bool) → a ≡ not b → a ≡ true → b ≡ false
new_told a true e h = cc
new_told a false e h = refl

pub twins_first : (t : BTreeSet EventKey) (all : List tree.OrderStep) → t.keys ≡ [] → TwinsAreLeft (HasKey t) all all
twins_first t all e = left_first (HasKey t) (λ k h. none k h) all
  where
    none : (k : List ℕ) → HasKey t k → ⊥
    none k h = let f = sym (ap (list_any (is_at (by_items h.key))) e) ∙ h.is in cc

pub twins_on : (old new : BTreeSet EventKey) (key : EventKey) (s : tree.OrderStep) (ss rest all : List tree.OrderStep) → rest ≡ s ∷ ss → key.items ≡ event_key s.event → contains by_items old key ≡ false → TakesKey old new key → TwinsAreLeft (HasKey old) rest all → TwinsAreLeft (HasKey new) ss all
twins_on old new key s ss rest all r e n u l =
    left_on (HasKey old) (HasKey new) s ss all
    (λ h. absent old key n (subst (HasKey old) (sym e) h))
    (λ k h. subst (λ z. HasKey old k ⊎ (k ≡ z)) e (split old new key u k h))
    (more old new key u)
    (subst (HasKey new) e (own old new key u))
    (subst (λ z. TwinsAreLeft (HasKey old) z all) r l)

pub twins_found : (old : BTreeSet EventKey) (key : EventKey) (s : tree.OrderStep) (ss rest all : List tree.OrderStep) → rest ≡ s ∷ ss → key.items ≡ event_key s.event → contains by_items old key ≡ true → TwinsAreLeft (HasKey old) rest all → HaveTwins all
twins_found old key s ss rest all r e h l =
    let i : TwinsAreLeft (HasKey old) (s ∷ ss) all = subst (λ z. TwinsAreLeft (HasKey old) z all) r l in
    i.back (inr (inl (record { key = key; items = e; is = h })))

pub no_twins : (P : List ℕ → Type 0) (rest all : List tree.OrderStep) → rest ≡ [] → TwinsAreLeft P rest all → HaveTwins all → ⊥
no_twins P rest all r l h = go (i.there h)
  where
    i : TwinsAreLeft P [] all
    i = subst (λ z. TwinsAreLeft P z all) r l

    go : ⊥ ⊎ ⊥ → ⊥
    go (inl x) = x
    go (inr x) = x
