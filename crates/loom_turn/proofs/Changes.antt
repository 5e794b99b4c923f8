-- Functions changed at one number, and their sums.
use Rattle.std.proofs.Common.{◌≡◌, ◌≢◌, ℕ, zero, suc, ◌+◌, ◌<◌, ◌≤◌, eq-eqb, ne_eqb, Bool, if◌then◌else◌, List, [], ◌∷◌, ◌++◌, length, set, length-set, length-append, sym, refl, ap, ◌∙◌, subst, ◌⊎◌, inl, inr, ⊎_elim, arith}
use mathlib.Core.Option.{some, some-injective, some-ne-none}
use mathlib.Core.Logic.{dite}
use native.Mathlib.Decide.{ℕ_discrete}
use lib.ListN.{get_elem?}
use Rattle.atomic_table.proofs.Lists.{at_set}
use Rattle.loom_turn.specs.Lock.{changed, sum_below}
use Rattle.loom_turn.specs.TicketRule.{AreViews}

module _ {A : Type 0} where
  pub changed_here : (f : ℕ → A) (i : ℕ) (x : A) → changed f i x i ≡ x
  changed_here f i x = ap (λ (b : Bool). if b then x else f i) (eq-eqb i i refl)

  pub changed_else : (f : ℕ → A) (i : ℕ) (x : A) (j : ℕ) → j ≢ i → changed f i x j ≡ f j
  changed_else f i x j n = ap (λ (b : Bool). if b then x else f j) (ne_eqb j i n)

  -- a fact of each number, after the change
  pub changed_all : (F : ℕ → A → Type 0) (f : ℕ → A) (i : ℕ) (x : A) → F i x → ((j : ℕ) → j ≢ i → F j (f j)) → (j : ℕ) → F j (changed f i x j)
  changed_all F f i x mine others j = dite (ℕ_discrete j i)
      (λ e. subst (F j) (ap (λ (b : Bool). if b then x else f j) (sym (eq-eqb j i e))) (subst (λ (k : ℕ). F k x) (sym e) mine))
      (λ n. subst (F j) (sym (changed_else f i x j n)) (others j n))

  sum_out : (g : A → ℕ) (f : ℕ → A) (i : ℕ) (x : A) (n : ℕ) → n ≤ i → sum_below n (λ j. g (changed f i x j)) ≡ sum_below n (λ j. g (f j))
  sum_out g f i x zero le = refl
  sum_out g f i x (suc n) le =
      let h = sum_out g f i x n (omega arith) in
      let e = ap g (changed_else f i x n (λ (e : n ≡ i). omega arith)) in omega arith

  pub sum_changed : (g : A → ℕ) (f : ℕ → A) (i : ℕ) (x : A) (n : ℕ) → i < n → sum_below n (λ j. g (changed f i x j)) + g (f i) ≡ sum_below n (λ j. g (f j)) + g x
  sum_changed g f i x zero lt = absurd (omega arith)
  sum_changed g f i x (suc n) lt = dite (ℕ_discrete i n)
      (λ e. let out = sum_out g f i x n (omega arith) in
      let here : g (changed f i x n) ≡ g x = ap (λ (k : ℕ). g (changed f i x k)) (sym e) ∙ ap g (changed_here f i x) in
      let old : g (f i) ≡ g (f n) = ap (λ (k : ℕ). g (f k)) e in omega arith)
      (λ ne. let h = sum_changed g f i x n (omega arith) in
      let e = ap g (changed_else f i x n (λ (e : n ≡ i). ne (sym e))) in omega arith)

pub sum_le : (f g : ℕ → ℕ) (n : ℕ) → ((i : ℕ) → f i ≤ g i) → sum_below n f ≤ sum_below n g
sum_le f g zero h = omega arith
sum_le f g (suc n) h = let a = h n in let b = sum_le f g n h in omega arith

sum_at : (f : ℕ → ℕ) (i n : ℕ) → i < n → f i ≤ sum_below n f
sum_at f i zero lt = absurd (omega arith)
sum_at f i (suc n) lt = dite (ℕ_discrete i n)
    (λ e. let old : f i ≡ f n = ap f e in omega arith)
    (λ ne. let h = sum_at f i n (omega arith) in omega arith)

pub sum_two : (f : ℕ → ℕ) (i j n : ℕ) → i ≢ j → i < n → j < n → f i + f j ≤ sum_below n f
sum_two f i j n ne lt lt' =
    let h = sum_changed (λ x. x) f i 0 n lt in
    let a = sum_at (changed f i 0) j n lt' in
    let e = changed_else f i 0 j (λ (e : j ≡ i). ne (sym e)) in omega arith

-- Lists of views

module _ {V : Type 0} where
  below : (vs : List V) (i : ℕ) (v : V) → get_elem? vs i ≡ some v → i < length vs
  below [] i v e = absurd (some-ne-none v (sym e))
  below (x ∷ xs) zero v e = omega arith
  below (x ∷ xs) (suc i) v e = let h = below xs i v e in omega arith

  pub is_seat : (vs : List V) (n : ℕ) (f : ℕ → V) (i : ℕ) (v : V) → AreViews vs n f → get_elem? vs i ≡ some v → i < n
  is_seat vs n f i v a e = let l = a.0 in let b = below vs i v e in omega arith

  pub views_changed : (vs : List V) (n : ℕ) (f : ℕ → V) (i : ℕ) (w : V) → AreViews vs n f → AreViews (set vs i w) n (changed f i w)
  views_changed vs n f i w a = (
    length-set vs i w ∙ a.0,
    λ j u e. ⊎_elim
        (λ (x : (j ≡ i) × (w ≡ u)). ap (changed f i w) x.0 ∙ (changed_here f i w ∙ x.1))
        (λ (x : (j ≢ i) × (get_elem? vs j ≡ some u)). changed_else f i w j x.0 ∙ a.1 j u x.1)
        (at_set vs i j w u e),
  )

  at_more : (vs : List V) (w u : V) (j : ℕ) → get_elem? (vs ++ w ∷ []) j ≡ some u → ((j ≢ length vs) × (get_elem? vs j ≡ some u)) ⊎ ((j ≡ length vs) × (w ≡ u))
  at_more [] w u zero e = inr (refl, some-injective w u e)
  at_more [] w u (suc j) e = absurd (some-ne-none u (sym e))
  at_more (x ∷ xs) w u zero e = inl ((λ h. omega arith), e)
  at_more (x ∷ xs) w u (suc j) e = ⊎_elim
      (λ (y : (j ≢ length xs) × (get_elem? xs j ≡ some u)). let n = y.0 in inl ((λ h. n (omega arith)), y.1))
      (λ (y : (j ≡ length xs) × (w ≡ u)). inr (ap suc y.0, y.1))
      (at_more xs w u j e)

  pub views_more : (vs : List V) (n : ℕ) (f : ℕ → V) (w : V) → AreViews vs n f → AreViews (vs ++ w ∷ []) (suc n) (changed f n w)
  views_more vs n f w a = let l = a.0 in (
    omega (arith, length-append vs (w ∷ [])),
    λ j u e. ⊎_elim
        (λ (x : (j ≢ length vs) × (get_elem? vs j ≡ some u)). changed_else f n w j (λ h. x.0 (h ∙ sym l)) ∙ a.1 j u x.1)
        (λ (x : (j ≡ length vs) × (w ≡ u)). ap (changed f n w) (x.0 ∙ l) ∙ (changed_here f n w ∙ x.1))
        (at_more vs w u j e),
  )
