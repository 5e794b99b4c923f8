-- The event before each event of a filter.
use Rattle.std.proofs.Common.{ℕ, zero, suc, ◌+◌, ◌<◌, ◌≤◌, ◌≡◌, List, [], ◌∷◌, ◌++◌, length, map, take, get_or, slice_get, Option, Some, None, refl, sym, ap, ◌∙◌, arith}
use Rattle.std.specs.Prelude.{option_map}
use Rattle.std.proofs.lemmas.List.{take_more, length-map, map-append}
use Rattle.loom_plan.specs.declared.plan.OrderEvent.{OrderEvent}
use Rattle.loom_plan.specs.PlanView.{counted_of}
use Rattle.loom_law.specs.Filter.{Watch, Plan, numbers, before_in}
use Rattle.loom_ops.specs.Ops.{flat_option, befores_in, before_of}
use Rattle.loom_ops.specs.Rows.{befores_of}

number_got : {A : Type 0} (g : ℕ → A) (ws : List Watch) (m i q : ℕ) → q ≡ m + i → i < length ws → slice_get (map g (numbers m ws)) i ≡ Some (g q)
number_got g [] m i q e low = absurd (omega (arith, low))
number_got g (w ∷ ws) m zero q e low = let same : m ≡ q = omega (arith, e) in ap (λ z. Some (g z)) same
number_got g (w ∷ ws) m (suc i) q e low = number_got g ws (suc m) i q (omega (arith, e)) (omega (arith, low))

number_at : {A : Type 0} (g : ℕ → A) (ws : List Watch) (m i q : ℕ) (d : A) → q ≡ m + i → i < length ws → get_or (map g (numbers m ws)) i d ≡ g q
number_at g [] m i q d e low = absurd (omega (arith, low))
number_at g (w ∷ ws) m zero q d e low = let same : m ≡ q = omega (arith, e) in ap g same
number_at g (w ∷ ws) m (suc i) q d e low = number_at g ws (suc m) i q d (omega (arith, e)) (omega (arith, low))

number_count : (ws : List Watch) (m : ℕ) → length (numbers m ws) ≡ length ws
number_count [] m = refl
number_count (w ∷ ws) m = ap suc (number_count ws (suc m))

pub before_told : (f : Plan) (n : ℕ) → 0 < n → n ≤ length f.watches → before_of (befores_in f) n ≡ before_in n f.rulings
before_told f zero low high = absurd (omega (arith, low))
before_told f (suc i) low high = ap flat_option (number_got (λ (m : ℕ). before_in m f.rulings) f.watches 1 i (suc i) (omega arith) (omega (arith, high)))

-- one event more
pub before_more : (f : Plan) (n : ℕ) (rows new : List (Option OrderEvent)) (b : Option OrderEvent) → n < length f.watches → new ≡ rows ++ b ∷ []
    → befores_of rows ≡ take n (befores_in f) → option_map counted_of b ≡ before_in (n + 1) f.rulings → befores_of new ≡ take (n + 1) (befores_in f)
before_more f n rows new b low more are is =
    let few : n < length (befores_in f) = omega (arith, low, length-map (numbers 1 f.watches) (λ (m : ℕ). before_in m f.rulings), number_count f.watches 1) in
    let next : get_or (befores_in f) n None ≡ before_in (n + 1) f.rulings
    = number_at (λ (m : ℕ). before_in m f.rulings) f.watches 1 n (n + 1) None (omega arith) low in
    ap befores_of more
    ∙ (map-append (option_map counted_of) rows (b ∷ [])
    ∙ (ap (λ (z : List (Option (ℕ × ℕ))). z ++ option_map counted_of b ∷ []) are
    ∙ (ap (λ (z : Option (ℕ × ℕ)). take n (befores_in f) ++ z ∷ []) (is ∙ sym next) ∙ sym (take_more (befores_in f) n None few))))

pub before_all : (f : Plan) (n : ℕ) (rows : List (Option OrderEvent)) → length f.watches ≤ n → befores_of rows ≡ take n (befores_in f) → befores_of rows ≡ befores_in f
before_all f n rows high are = are ∙ all (befores_in f) n (omega (arith, high, length-map (numbers 1 f.watches) (λ (m : ℕ). before_in m f.rulings), number_count f.watches 1))
  where
    all : {A : Type 0} (xs : List A) (n : ℕ) → length xs ≤ n → take n xs ≡ xs
    all [] zero h = refl
    all [] (suc n) h = refl
    all (x ∷ xs) zero h = absurd (omega (arith, h))
    all (x ∷ xs) (suc n) h = ap (λ z. x ∷ z) (all xs n (omega (arith, h)))

-- The event before one, in the rows

pub row_before : (rows : List (Option OrderEvent)) (n i : ℕ) (d : Option OrderEvent) → n ≡ suc i → i < length rows
    → option_map counted_of (get_or rows i d) ≡ before_of (befores_of rows) n
row_before rows n i d e low = got rows i low ∙ ap (before_of (befores_of rows)) (sym e)
  where
    got : (rows : List (Option OrderEvent)) (i : ℕ) → i < length rows → option_map counted_of (get_or rows i d) ≡ flat_option (slice_get (befores_of rows) i)
    got [] i low = absurd (omega (arith, low))
    got (r ∷ rows) zero low = refl
    got (r ∷ rows) (suc i) low = got rows i (omega (arith, low))

pub no_row_before : (rows : List (Option OrderEvent)) (n : ℕ) → (0 < n → n ≤ length rows → ⊥) → before_of (befores_of rows) n ≡ None
no_row_before rows zero h = refl
no_row_before rows (suc i) h = past rows i (λ low. h (omega arith) (omega (arith, low)))
  where
    past : (rows : List (Option OrderEvent)) (i : ℕ) → (i < length rows → ⊥) → flat_option (slice_get (befores_of rows) i) ≡ None
    past [] i h = refl
    past (r ∷ rows) zero h = absurd (h (omega arith))
    past (r ∷ rows) (suc i) h = past rows i (λ low. h (omega (arith, low)))
