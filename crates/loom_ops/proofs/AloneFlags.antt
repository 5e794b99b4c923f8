-- Which clauses of a plan are `r <> *`.
use Rattle.std.proofs.Common.{ℕ, zero, suc, ◌+◌, ◌<◌, ◌≡◌, ◌==◌, Bool, true, false, ◌&&◌, ◌||◌, List, [], ◌∷◌, ◌++◌, length, map, take, get_or, slice_get, refl, sym, ap, ◌∙◌, arith, eq-eqb, ne_eqb}
use Rattle.std.specs.List.{list_any}
use Rattle.std.proofs.lemmas.List.{take_more, length-map}
use Rattle.loom_law.specs.Filter.{Ruling, Plan, numbered_from, is_unilateral, is_alone}
use Rattle.loom_ops.specs.Ops.{flag_of, is_yes}

none_before : (n m : ℕ) (rs : List Ruling) → m < n → list_any (λ (x : ℕ × Ruling). (x.0 == m) && is_unilateral x.1) (numbered_from n rs) ≡ false
none_before n m [] low = refl
none_before n m (r ∷ rs) low = both (n == m) (is_unilateral r) _ (ne_eqb n m (λ e. omega arith)) (none_before (suc n) m rs (omega arith))
  where
    both : (a b c : Bool) → a ≡ false → c ≡ false → ((a && b) || c) ≡ false
    both true b c e h = cc
    both false b c e h = h

flag_from : (rs : List Ruling) (n i m : ℕ) → m ≡ n + i
    → is_yes (slice_get (map is_unilateral rs) i) ≡ list_any (λ (x : ℕ × Ruling). (x.0 == m) && is_unilateral x.1) (numbered_from n rs)
flag_from [] n i m e = refl
flag_from (r ∷ rs) n zero m e = here (n == m) (is_unilateral r) _ (eq-eqb n m (omega arith)) (none_before (suc n) m rs (omega arith))
  where
    here : (a b c : Bool) → a ≡ true → c ≡ false → b ≡ ((a && b) || c)
    here true true c e h = refl
    here true false c e h = sym h
    here false b c e h = cc
flag_from (r ∷ rs) n (suc i) m e = flag_from rs (suc n) i m (omega arith) ∙ there (n == m) (is_unilateral r) _ (ne_eqb n m (λ q. omega arith))
  where
    there : (a b c : Bool) → a ≡ false → c ≡ ((a && b) || c)
    there true b c e = cc
    there false b c e = refl

pub flag_told : (f : Plan) (c : ℕ) → is_yes (flag_of (map is_unilateral f.rulings) c) ≡ is_alone f c
flag_told f zero = sym (none_before 1 0 f.rulings (omega arith))
flag_told f (suc i) = flag_from f.rulings 1 i (suc i) (omega arith)

yes_at : (bs : List Bool) (i : ℕ) → i < length bs → is_yes (slice_get bs i) ≡ get_or bs i false
yes_at [] i low = absurd (omega arith)
yes_at (b ∷ bs) zero low = refl
yes_at (b ∷ bs) (suc i) low = yes_at bs i (omega arith)

-- one flag more
pub flag_more : (f : Plan) (n : ℕ) (b : Bool) → n < length f.rulings → b ≡ is_alone f (n + 1) → take (n + 1) (map is_unilateral f.rulings) ≡ take n (map is_unilateral f.rulings) ++ b ∷ []
flag_more f n b low is =
    let few : n < length (map is_unilateral f.rulings) = omega (arith, low, length-map f.rulings is_unilateral) in
    let next : n + 1 ≡ suc n = omega arith in
    take_more (map is_unilateral f.rulings) n false few
    ∙ ap (λ z. take n (map is_unilateral f.rulings) ++ z ∷ []) (sym (yes_at (map is_unilateral f.rulings) n few) ∙ (flag_told f (suc n) ∙ (ap (is_alone f) (sym next) ∙ sym is)))
