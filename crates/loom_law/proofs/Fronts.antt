-- Facts on journals whose entries are written out.
use Rattle.std.proofs.Common.{ℕ, ◌≤◌, ◌<◌, ◌≡◌, Bool, true, false, ◌&&◌, nat_lt, List, [], ◌∷◌, ◌++◌, Option, Some, None, refl, sym, ap, subst, arith}
use Rattle.std.proofs.lemmas.Bool.{and_parts, ltb-true, ne_eqb}
use Rattle.loom_trace.specs.declared.entry.Entry.{Entry}
use Rattle.loom_event.specs.TargetEvent.{TargetEvent}
use Rattle.loom_event.specs.Entries.{thread_of, is_thread}
use Rattle.loom_law.specs.Control.{entries_of}
use Rattle.loom_law.specs.Lawful.{Setting, front_at, MayFollow}

-- what is asked of each entry of the second list, behind the first list and those before it
abbrev pub Each : (List Entry → Entry → List Entry → Type 0) → List Entry → List Entry → Type 0
Each Q done [] = Unit {0}
Each Q done (x ∷ rest) = Q done x rest × Each Q (done ++ x ∷ []) rest

-- what is asked of one, and of those behind it
pub behind : {A B : Type 0} → A → B → A × B
behind a b = (a, b)

append_none : (xs : List Entry) → xs ++ [] ≡ xs
append_none [] = refl
append_none (x ∷ xs) = ap (◌∷◌ x) (append_none xs)

append_one : (xs : List Entry) (y : Entry) (ys : List Entry) → (xs ++ y ∷ []) ++ ys ≡ xs ++ y ∷ ys
append_one [] y ys = refl
append_one (x ∷ xs) y ys = ap (◌∷◌ x) (append_one xs y ys)

one_of_each : (Q : List Entry → Entry → List Entry → Type 0) (done todo front : List Entry) (x : Entry) (rest : List Entry) → Each Q done todo
    → todo ≡ front ++ x ∷ rest → Q (done ++ front) x rest
one_of_each Q done [] [] x rest h is = cc
one_of_each Q done [] (y ∷ front) x rest h is = cc
one_of_each Q done (z ∷ todo) [] x rest h is =
    let first : z ≡ x = cc in
    let others : todo ≡ rest = cc in
    let P : Entry → Type 0 = λ u. Q done u todo in
    let R : List Entry → Type 0 = λ us. Q us x rest in
    subst R (sym (append_none done)) (subst (Q done x) others (subst P first h.0))
one_of_each Q done (z ∷ todo) (y ∷ front) x rest h is =
    let first : z ≡ y = cc in
    let others : todo ≡ front ++ x ∷ rest = cc in
    let ih : Q ((done ++ z ∷ []) ++ front) x rest = one_of_each Q (done ++ z ∷ []) todo front x rest h.1 others in
    let R : List Entry → Type 0 = λ us. Q us x rest in
    let T : Entry → Type 0 = λ u. Q (done ++ u ∷ front) x rest in
    subst T first (subst R (append_one done z front) ih)

pub each_one : (Q : List Entry → Entry → List Entry → Type 0) (es : List Entry) → Each Q [] es → (front : List Entry) (x : Entry) (rest : List Entry)
    → es ≡ front ++ x ∷ rest → Q front x rest
each_one Q es h front x rest is = one_of_each Q [] es front x rest h is

abbrev pub FollowsBehind : Setting → List TargetEvent → List Entry → Entry → List Entry → Type 0
FollowsBehind s xs front x rest = MayFollow s (front_at s xs front) x rest

-- these entries are of threads below this one, or of none
abbrev pub is_below : ℕ → Option ℕ → Bool
is_below n None = true
is_below n (Some t) = nat_lt t n

abbrev pub are_below : ℕ → List Entry → Bool
are_below n [] = true
are_below n (x ∷ xs) = is_below n (thread_of x) && are_below n xs

not_of : (n t : ℕ) (o : Option ℕ) → n ≤ t → is_below n o ≡ true → is_thread t o ≡ false
not_of n t None h b = refl
not_of n t (Some u) h b =
    let below : u < n = ltb-true u n b in
    ne_eqb u t (λ e. omega arith)

pub nothing_made : (n t : ℕ) (xs : List Entry) → n ≤ t → are_below n xs ≡ true → entries_of t xs ≡ []
nothing_made n t [] h b = refl
nothing_made n t (x ∷ xs) h b =
    let parts = and_parts (is_below n (thread_of x)) (are_below n xs) b in
    rw (not_of n t (thread_of x) h parts.0) (nothing_made n t xs h parts.1)
