-- No more clauses are held than there are, so there is room for one more.
use Rattle.std.proofs.Common.{ℕ, zero, suc, ◌+◌, ◌*◌, ◌≤◌, ◌<◌, ◌≡◌, ◌==◌, Bool, true, false, ◌&&◌, ◌||◌, List, [], ◌∷◌, ◌++◌, length, slice_get, refl, sym, ap, ◌∙◌, subst, arith}
use Rattle.std.specs.List.{AllByRecursion, list_any}
use Rattle.std.specs.Cmp.{IsEquivalence}
use Rattle.std.proofs.lemmas.Bool.{and_parts}
use Rattle.std.proofs.lemmas.List.{length-append}
use Rattle.std.proofs.lemmas.List.Folds.{list_any-append}
use Rattle.std.proofs.lemmas.Map.Made.{length-le_from_is_member}
use Rattle.loom_command.specs.FilterFault.{most_clauses}
use Rattle.loom_law.specs.Filter.{is_some}
use Rattle.loom_law.specs.Control.{Holder}
use Rattle.loom_law.proofs.Holdings.{or_cases, or_left, or_right, either_of, same_number}
use Rattle.loom_ops.specs.Ops.{FilterLocks, Ops, flag_of, has_lock, has_holder, owns, with_holder, have_one_clause, KeepsLocks}
use Rattle.loom_ops.proofs.Holders.{eq_same}
use Rattle.loom_ops.proofs.Keeping.{enter_keeps}

swap : (a b : ℕ) → (a == b) ≡ (b == a)
swap a b = grind arith

both : (a b : Bool) → a ≡ true → b ≡ true → (a && b) ≡ true
both true b h g = g
both false b h g = cc

one_clause : IsEquivalence have_one_clause
one_clause = record {
  refl = λ x. both (x.filter == x.filter) (x.clause == x.clause) (eq_same x.filter) (eq_same x.clause);
  symm = λ x y. ap (λ z. z && (y.clause == x.clause)) (swap y.filter x.filter) ∙ ap (λ z. (x.filter == y.filter) && z) (swap y.clause x.clause);
  congr = λ x y z h.
      let two = and_parts (y.filter == x.filter) (y.clause == x.clause) h in
      ap (λ w. (z.filter == w) && (z.clause == x.clause)) (sym (same_number y.filter x.filter two.0))
      ∙ ap (λ w. (z.filter == y.filter) && (z.clause == w)) (sym (same_number y.clause x.clause two.1));
}

-- The clauses that there are

abbrev clauses_from : ℕ → ℕ → List Bool → List Holder
clauses_from k n [] = []
clauses_from k n (b ∷ bs) = record { filter = k; clause = n; thread = 0 } ∷ clauses_from k (suc n) bs

abbrev all_clauses : List FilterLocks → List Holder
all_clauses [] = []
all_clauses (f ∷ fs) = clauses_from f.number 1 f.alone ++ all_clauses fs

length_from : (k n : ℕ) (bs : List Bool) → length (clauses_from k n bs) ≡ length bs
length_from k n [] = refl
length_from k n (b ∷ bs) = ap suc (length_from k (suc n) bs)

few_clauses : (fs : List FilterLocks) → AllByRecursion (λ (f : FilterLocks). length f.alone ≤ most_clauses) fs → length (all_clauses fs) ≤ 8 * length fs
few_clauses [] h = omega arith
few_clauses (f ∷ fs) h =
    omega (arith, h.0, few_clauses fs h.1, length_from f.number 1 f.alone, length-append (clauses_from f.number 1 f.alone) (all_clauses fs))

from_flag : (q : Holder) (n i : ℕ) (bs : List Bool) → q.clause ≡ n + i → is_some (slice_get bs i) ≡ true → list_any (have_one_clause q) (clauses_from q.filter n bs) ≡ true
from_flag q n i [] e h = h
from_flag q n zero (b ∷ bs) e h =
    let here : q.clause ≡ n = omega (arith, e) in
    or_left ((q.filter == q.filter) && (n == q.clause)) (list_any (have_one_clause q) (clauses_from q.filter (suc n) bs))
    (both (q.filter == q.filter) (n == q.clause) (eq_same q.filter) (subst (λ z. (n == z) ≡ true) (sym here) (eq_same n)))
from_flag q n (suc i) (b ∷ bs) e h =
    or_right ((q.filter == q.filter) && (n == q.clause)) (list_any (have_one_clause q) (clauses_from q.filter (suc n) bs)) (from_flag q (suc n) i bs (omega (arith, e)) h)

of_flag : (q : Holder) (c : ℕ) (bs : List Bool) → q.clause ≡ c → is_some (flag_of bs c) ≡ true → list_any (have_one_clause q) (clauses_from q.filter 1 bs) ≡ true
of_flag q zero bs e h = cc
of_flag q (suc i) bs e h = from_flag q 1 i bs (omega (arith, e)) h

among_all : (fs : List FilterLocks) (q : Holder) → has_lock fs q.filter q.clause ≡ true → list_any (have_one_clause q) (all_clauses fs) ≡ true
among_all [] q h = h
among_all (f ∷ fs) q h =
    let split : list_any (have_one_clause q) (all_clauses (f ∷ fs)) ≡ (list_any (have_one_clause q) (clauses_from f.number 1 f.alone) || list_any (have_one_clause q) (all_clauses fs))
    = list_any-append (have_one_clause q) (clauses_from f.number 1 f.alone) (all_clauses fs) in
    split ∙ either_of (or_cases ((f.number == q.filter) && is_some (flag_of f.alone q.clause)) (has_lock fs q.filter q.clause) h)
    (λ m. let two = and_parts (f.number == q.filter) (is_some (flag_of f.alone q.clause)) m in
    or_left (list_any (have_one_clause q) (clauses_from f.number 1 f.alone)) (list_any (have_one_clause q) (all_clauses fs))
    (subst (λ z. list_any (have_one_clause q) (clauses_from z 1 f.alone) ≡ true) (sym (same_number f.number q.filter two.0)) (of_flag q q.clause f.alone refl two.1)))
    (λ m. or_right (list_any (have_one_clause q) (clauses_from f.number 1 f.alone)) (list_any (have_one_clause q) (all_clauses fs)) (among_all fs q m))

clause_there : (fs : List FilterLocks) (hs : List Holder) (q : Holder) → AllByRecursion (λ (h : Holder). has_lock fs h.filter h.clause ≡ true) hs
    → list_any (have_one_clause q) hs ≡ true → has_lock fs q.filter q.clause ≡ true
clause_there fs [] q s h = absurd cc
clause_there fs (x ∷ hs) q s h =
    either_of (or_cases ((x.filter == q.filter) && (x.clause == q.clause)) (list_any (have_one_clause q) hs) h)
    (λ m. let two = and_parts (x.filter == q.filter) (x.clause == q.clause) m in
    subst (λ z. has_lock fs z q.clause ≡ true) (same_number x.filter q.filter two.0)
    (subst (λ z. has_lock fs x.filter z ≡ true) (same_number x.clause q.clause two.1) s.0))
    (λ m. clause_there fs hs q s.1 m)

few_holders : (o : Ops) → KeepsLocks o → length o.holders ≤ 128
few_holders o s =
    let least : length o.holders ≤ length (all_clauses o.filters)
    = length-le_from_is_member one_clause o.holders (all_clauses o.filters) s.one (λ q m. among_all o.filters q (clause_there o.filters o.holders q s.there m)) in
    omega (arith, least, s.few, few_clauses o.filters s.small)

-- so there is room where a clause is free
pub has_room : (o : Ops) (k c t : ℕ) → KeepsLocks o → has_lock o.filters k c ≡ true → has_holder o.holders k c ≡ false → ((u : ℕ) → owns o u ≡ true → u ≡ t)
    → length o.holders < 128
has_room o k c t s there free alone =
    let more : length (record { filter = k; clause = c; thread = t } ∷ o.holders) ≤ 128 = few_holders (with_holder o k c t) (enter_keeps o k c t s there free alone) in
    omega (arith, more)
