-- Rows of the record.
use Rattle.std.proofs.Common.{◌≡◌, ℕ, zero, suc, ◌+◌, ◌<◌, ◌≤◌, ◌==◌, ◌&&◌, eq-eqb, ne_eqb, leb, le-leb, leb-true, leb-false, Bool, true, false, true≢false, if◌then◌else◌, List, [], ◌∷◌, ◌++◌, length, sym, refl, ap, ◌∙◌, arith, All}
use Rattle.std.proofs.lemmas.Bool.{lt-leb}
use Rattle.loom_gate.specs.declared.log.PassRow.{PassRow}
use Rattle.loom_gate.specs.Record.{is_from, place_from, has_version, IsBefore, AreInOrder}

pub all_snoc : {A : Type 0} (P : A → Type 0) (xs : List A) (x : A) → All P xs → P x → All P (xs ++ x ∷ [])
all_snoc P [] x h p zero d l = p
all_snoc P [] x h p (suc k) d l = absurd (omega arith)
all_snoc P (y ∷ ys) x h p zero d l = h 0 d (omega arith)
all_snoc P (y ∷ ys) x h p (suc k) d l = all_snoc P ys x (λ k d l. h (suc k) d (omega arith)) p k d (omega arith)

pub all_append : {A : Type 0} (P : A → Type 0) (xs ys : List A) → All P xs → All P ys → All P (xs ++ ys)
all_append P [] ys a b k d l = b k d l
all_append P (x ∷ xs) ys a b zero d l = a 0 d (omega arith)
all_append P (x ∷ xs) ys a b (suc k) d l = all_append P xs ys (λ k d l. a (suc k) d (omega arith)) b k d (omega arith)

pub all_map : {A : Type 0} (P Q : A → Type 0) (xs : List A) → ((x : A) → P x → Q x) → All P xs → All Q xs
all_map P Q xs f h k d l = f _ (h k d l)

pub length_snoc : {A : Type 0} (xs : List A) (x : A) → length (xs ++ x ∷ []) ≡ length xs + 1
length_snoc [] x = omega arith
length_snoc (y ∷ ys) x = let h = length_snoc ys x in omega arith

-- a row put last comes in where no earlier row does
pub from_snoc : (t v end : ℕ) (rs : List PassRow) (r : PassRow) → place_from t v end (rs ++ r ∷ []) ≡ place_from t v (if is_from t v r then r.place else end) rs
from_snoc t v end [] r = refl
from_snoc t v end (x ∷ xs) r = ap (λ (y : ℕ). if is_from t v x then x.place else y) (from_snoc t v end xs r)

pub is_none : (t v : ℕ) (r : PassRow) → (r.thread ≡ t) × (r.version < v) → is_from t v r ≡ false
is_none t v r h = ap (λ (b : Bool). b && leb v r.version) (eq-eqb r.thread t h.0) ∙ lt-leb v r.version h.1

pub is_here : (t v : ℕ) (r : PassRow) → r.thread ≡ t → v ≤ r.version → is_from t v r ≡ true
is_here t v r a b = ap (λ (x : Bool). x && leb v r.version) (eq-eqb r.thread t a) ∙ le-leb v r.version b

-- no row is of this version or a later one
pub from_none : (t v end : ℕ) (rs : List PassRow) → All (λ (r : PassRow). (r.thread ≡ t) × (r.version < v)) rs → place_from t v end rs ≡ end
from_none t v end [] h = refl
from_none t v end (x ∷ xs) h =
    ap (λ (b : Bool). if b then x.place else place_from t v end xs) (is_none t v x (h 0 x (omega arith)))
    ∙ from_none t v end xs (λ k d l. h (suc k) d (omega arith))

-- some row is of this version or a later one, so the end does not matter
pub from_some : (t v k x y : ℕ) (rs : List PassRow) → All (λ (r : PassRow). r.thread ≡ t) rs → has_version k rs ≡ true → v ≤ k → place_from t v x rs ≡ place_from t v y rs
from_some t v k x y [] ts h low = absurd (true≢false (sym h))
from_some t v k x y (r ∷ rs) ts h low =
    let go : (b : Bool) → leb v r.version ≡ b → place_from t v x (r ∷ rs) ≡ place_from t v y (r ∷ rs) = elim [
      | true ↦ λ e. let here = is_here t v r (ts 0 r (omega arith)) (leb-true v r.version e) in
          ap (λ (c : Bool). if c then r.place else place_from t v x rs) here ∙ sym (ap (λ (c : Bool). if c then r.place else place_from t v y rs) here)
      | false ↦ λ e. let early = leb-false v r.version e in
          ap (λ (z : ℕ). if is_from t v r then r.place else z)
          (from_some t v k x y rs (λ i d l. ts (suc i) d (omega arith)) (sym (ap (λ (b : Bool). if b then true else has_version k rs) (ne_eqb r.version k (λ e2. omega arith))) ∙ h) low)
    ] in
    go (leb v r.version) refl

pub version_last : (v : ℕ) (rs : List PassRow) (r : PassRow) → r.version ≡ v → has_version v (rs ++ r ∷ []) ≡ true
version_last v [] r e = ap (λ (b : Bool). if b then true else false) (eq-eqb r.version v e)
version_last v (x ∷ xs) r e = ap (λ (z : Bool). if x.version == v then true else z) (version_last v xs r e) ∙ same (x.version == v)
  where
    same : (b : Bool) → (if b then true else true) ≡ true
    same true = refl
    same false = refl

-- rows of earlier versions have none with this one
pub version_none : (v : ℕ) (rs : List PassRow) → All (λ (r : PassRow). r.version < v) rs → has_version v rs ≡ false
version_none v [] h = refl
version_none v (x ∷ xs) h =
    let low = h 0 x (omega arith) in
    ap (λ (b : Bool). if b then true else has_version v xs) (ne_eqb x.version v (λ e. omega arith))
    ∙ version_none v xs (λ k d l. h (suc k) d (omega arith))

pub order_append : (xs ys : List PassRow) → AreInOrder xs → AreInOrder ys → All (λ (x : PassRow). All (IsBefore x) ys) xs → AreInOrder (xs ++ ys)
order_append [] ys a b across = b
order_append (x ∷ xs) ys a b across = (all_append (IsBefore x) xs ys a.0 (across 0 x (omega arith)), order_append xs ys a.1 b (λ k d l. across (suc k) d (omega arith)))

all_one : {A : Type 0} (P : A → Type 0) (x : A) → P x → All P (x ∷ [])
all_one P x p zero d l = p
all_one P x p (suc k) d l = absurd (omega arith)

pub order_snoc : (xs : List PassRow) (r : PassRow) → AreInOrder xs → All (λ (x : PassRow). IsBefore x r) xs → AreInOrder (xs ++ r ∷ [])
order_snoc xs r a before = order_append xs (r ∷ []) a (λ k d l. absurd (omega arith), tt) (all_map (λ (x : PassRow). IsBefore x r) (λ (x : PassRow). All (IsBefore x) (r ∷ [])) xs (λ x h. all_one (IsBefore x) r h) before)
