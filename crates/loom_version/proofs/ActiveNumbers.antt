-- The numbers of installed filters, behind a change.
use Rattle.std.proofs.Common.{ℕ, suc, ◌+◌, ◌<◌, ◌≤◌, ◌≡◌, ◌⊎◌, inl, inr, nat_lt, Bool, true, false, not, ◌&&◌, ◌||◌, List, [], ◌∷◌, ◌++◌, length, length-append, refl, sym, ap, ◌∙◌, arith}
use Rattle.std.specs.Prelude.{◌==◌}
use Rattle.std.specs.List.{filter}
use Rattle.std.proofs.lemmas.Bool.{and_parts, eq-eqb, ltb-true, lt-ltb}
use Rattle.std.proofs.lemmas.List.Folds.{list_any-append}
use Rattle.loom_lang.specs.Rules.{is_ascending}
use Rattle.loom_command.specs.Script.{most_commands}
use Rattle.loom_law.specs.Filter.{has}
use Rattle.loom_law.specs.Walk.{Version}
use Rattle.loom_law.specs.Lawful.{filter_limit}
use Rattle.loom_law.proofs.Holdings.{either_of, or_cases, or_left, or_right, pick, same_number}
use Rattle.loom_version.specs.Version.{version_limit, AreBelow, IsVersion, without_number}

and_both : (a b : Bool) → a ≡ true → b ≡ true → (a && b) ≡ true
and_both true b h g = g
and_both false b h g = cc

-- Which numbers there are

pub has_more : (ks : List ℕ) (k j : ℕ) → has (ks ++ k ∷ []) j ≡ true → (has ks j ≡ true) ⊎ (k ≡ j)
has_more ks k j h =
    either_of (or_cases (has ks j) (has (k ∷ []) j) (sym (list_any-append (λ (m : ℕ). m == j) ks (k ∷ [])) ∙ h)) (λ m. inl m)
    (λ m. either_of (or_cases (k == j) false m) (λ g. inr (same_number k j g)) (λ g. cc))

pub has_filter : (q : ℕ → Bool) (ks : List ℕ) (j : ℕ) → has (filter q ks) j ≡ true → has ks j ≡ true
has_filter q [] j h = h
has_filter q (k ∷ ks) j h =
    let ih : has (filter q ks) j ≡ true → has ks j ≡ true = has_filter q ks j in
    let P : List ℕ → Type 0 = λ z. has z j ≡ true → ((k == j) || has ks j) ≡ true in
    pick P (q k) (k ∷ filter q ks) (filter q ks)
    (λ b g. either_of (or_cases (k == j) (has (filter q ks) j) g) (λ e. or_left (k == j) (has ks j) e) (λ e. or_right (k == j) (has ks j) (ih e)))
    (λ b g. or_right (k == j) (has ks j) (ih g)) h

few_filter : (q : ℕ → Bool) (ks : List ℕ) → length (filter q ks) ≤ length ks
few_filter q [] = omega arith
few_filter q (k ∷ ks) =
    let ih = few_filter q ks in
    let P : List ℕ → Type 0 = λ z. length z ≤ suc (length ks) in
    pick P (q k) (k ∷ filter q ks) (filter q ks) (λ b. omega (arith, ih)) (λ b. omega (arith, ih))

-- Their order

ascending_from : (ks : List ℕ) (a b : ℕ) → a ≤ b → is_ascending b ks ≡ true → is_ascending a ks ≡ true
ascending_from [] a b l h = refl
ascending_from (k ∷ ks) a b l h =
    let g = and_parts (nat_lt b k) (is_ascending k ks) h in
    let low : b < k = ltb-true b k g.0 in
    and_both (nat_lt a k) (is_ascending k ks) (lt-ltb a k (omega arith)) g.1

ascending_filter : (q : ℕ → Bool) (ks : List ℕ) (b : ℕ) → is_ascending b ks ≡ true → is_ascending b (filter q ks) ≡ true
ascending_filter q [] b h = refl
ascending_filter q (k ∷ ks) b h =
    let g = and_parts (nat_lt b k) (is_ascending k ks) h in
    let low : b < k = ltb-true b k g.0 in
    let ih : is_ascending k (filter q ks) ≡ true = ascending_filter q ks k g.1 in
    let P : List ℕ → Type 0 = λ z. is_ascending b z ≡ true in
    pick P (q k) (k ∷ filter q ks) (filter q ks) (λ t. and_both (nat_lt b k) (is_ascending k (filter q ks)) g.0 ih) (λ t. ascending_from (filter q ks) b k (omega arith) ih)

ascending_more : (ks : List ℕ) (b k : ℕ) → is_ascending b ks ≡ true → b < k → AreBelow k ks → is_ascending b (ks ++ k ∷ []) ≡ true
ascending_more [] b k h low below = and_both (nat_lt b k) true (lt-ltb b k low) refl
ascending_more (j ∷ js) b k h low below =
    let g = and_parts (nat_lt b j) (is_ascending j js) h in
    and_both (nat_lt b j) (is_ascending j (js ++ k ∷ [])) g.0
    (ascending_more js j k g.1 (below j (or_left (j == j) (has js j) (eq-eqb j j refl))) (λ i m. below i (or_right (j == i) (has js i) m)))

-- Bounds

pub below_more : (n : ℕ) (ks : List ℕ) (k : ℕ) → AreBelow n ks → k < n → AreBelow n (ks ++ k ∷ [])
below_more n ks k h low j m = either_of (has_more ks k j m) (λ g. h j g) (λ e. omega (arith, e))

pub below_filter : (n : ℕ) (q : ℕ → Bool) (ks : List ℕ) → AreBelow n ks → AreBelow n (filter q ks)
below_filter n q ks h j m = h j (has_filter q ks j m)

-- Versions

pub first_version : IsVersion (record { number = 0; active = [] })
first_version = record {
  number = omega arith;
  few = omega arith;
  ascending = refl;
  commands = λ j m. cc;
}

pub with_one : (v : Version) (n : ℕ) (ks : List ℕ) (k : ℕ) → IsVersion v → 0 < k → k ≤ most_commands → AreBelow k v.active → length v.active < filter_limit → v.number < version_limit
    → n ≡ v.number + 1 → ks ≡ v.active ++ k ∷ [] → IsVersion (record { number = n; active = ks })
with_one v n ks k h first last behind room number is more =
    let long = length-append v.active (k ∷ []) in
    let same = ap length more in
    record {
      number = omega arith;
      few = omega (arith, long, same);
      ascending = ap (is_ascending 0) more ∙ ascending_more v.active 0 k h.ascending first behind;
      commands = λ j m. below_more (suc most_commands) v.active k h.commands (omega arith) j (ap (λ (z : List ℕ). has z j) (sym more) ∙ m);
    }

pub without_one : (v : Version) (n : ℕ) (ks : List ℕ) (k : ℕ) → IsVersion v → v.number < version_limit → n ≡ v.number + 1 → ks ≡ without_number k v.active
    → IsVersion (record { number = n; active = ks })
without_one v n ks k h number is less =
    let q : ℕ → Bool = λ j. not (j == k) in
    let fewer = few_filter q v.active in
    let same = ap length less in
    let few = h.few in
    record {
      number = omega arith;
      few = omega (arith, fewer, same, few);
      ascending = ap (is_ascending 0) less ∙ ascending_filter q v.active 0 h.ascending;
      commands = λ j m. below_filter (suc most_commands) q v.active h.commands j (ap (λ (z : List ℕ). has z j) (sym less) ∙ m);
    }
