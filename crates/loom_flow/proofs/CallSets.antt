-- The set of the functions that a body calls.
use Rattle.std.proofs.Common.{ℕ, zero, suc, ◌^◌, ◌≡◌, ◌⊎◌, inl, inr, List, [], ◌∷◌, ◌++◌, map, refl, ap, sym, ◌∙◌, subst, arith, append_assoc}
use Rattle.std.specs.Prelude.{slice_get, option_map, bit_or, Contains, IsBitSet}
use Rattle.std.specs.Int.{bit_at}
use Rattle.std.proofs.Math.Decide.{ℕ_discrete}
use Rattle.std.proofs.lemmas.Nat.{bit_set_by_shift}
use Rattle.std.proofs.lemmas.Nat.Bits.{shr_and_one, bit_at_or, bit_at-zero, bit_at-pow_same, bit_at-pow_other, bit_at-lt}
use Rattle.std.proofs.lemmas.List.Elements.{Contains-append_right, Contains-append_cases}
use Rattle.std.proofs.lemmas.Option.{slice_get-map}
use Rattle.std.proofs.lemmas.List.{append-nil}
use Rattle.loom_tree.specs.declared.statement.Kind.{Kind}
use Rattle.loom_tree.specs.declared.statement.Kind.TheVariants as k
use Rattle.loom_tree.specs.Tree.{Function, Source, Body, end, behind}
use Rattle.loom_flow.specs.Laws.{HasCalls}
use Rattle.loom_flow.specs.FlatCode.{lowered, or_zero, calls_body, set_of}

-- one number more in a set
bit_tells : (bits n g : ℕ) → bit_at (bit_or bits (2 ^ n)) g ≡ 1 → (bit_at bits g ≡ 1) ⊎ (n ≡ g)
bit_tells bits n g h =
    let both = bit_at_or bits (2 ^ n) g in
    let few = bit_at-lt bits g in
    elim (ℕ_discrete n g) [ yes e ↦ inr e | no d ↦ inl (let none = bit_at-pow_other n g (λ e. d (sym e)) in omega arith) ]

bit_has : (bits n g : ℕ) → (bit_at bits g ≡ 1) ⊎ (n ≡ g) → bit_at (bit_or bits (2 ^ n)) g ≡ 1
bit_has bits n g (inl h) =
    let both = bit_at_or bits (2 ^ n) g in
    let few = bit_at-lt (2 ^ n) g in
    omega arith
bit_has bits n g (inr e) =
    let both = bit_at_or bits (2 ^ n) n in
    let few = bit_at-lt bits n in
    let one = bit_at-pow_same n in
    ap (bit_at (bit_or bits (2 ^ n))) (sym e) ∙ omega arith

only : (n g : ℕ) → Contains (n ∷ []) g → n ≡ g
only n g (zero, h, e) = e
only n g (suc k, h, e) = absurd (omega arith)

set_tells : (ns : List ℕ) (bits g : ℕ) → bit_at (set_of bits ns) g ≡ 1 → (bit_at bits g ≡ 1) ⊎ Contains ns g
set_tells [] bits g h = inl h
set_tells (n ∷ ns) bits g h =
    let more : (bit_at bits g ≡ 1) ⊎ (n ≡ g) → (bit_at bits g ≡ 1) ⊎ Contains (n ∷ ns) g = λ k. elim k [ inl b ↦ inl b | inr e ↦ inr (0, omega arith, e) ] in
    elim (set_tells ns (bit_or bits (2 ^ n)) g h) [ inl b ↦ more (bit_tells bits n g b) | inr c ↦ inr (Contains-append_right (n ∷ []) ns g c) ]

set_has : (ns : List ℕ) (bits g : ℕ) → (bit_at bits g ≡ 1) ⊎ Contains ns g → bit_at (set_of bits ns) g ≡ 1
set_has [] bits g (inl b) = b
set_has [] bits g (inr (k, h, e)) = absurd (omega arith)
set_has (n ∷ ns) bits g (inl b) = set_has ns _ g (inl (bit_has bits n g (inl b)))
set_has (n ∷ ns) bits g (inr c) = elim (Contains-append_cases (n ∷ []) ns g c) [ inl one ↦ set_has ns _ g (inl (bit_has bits n g (inr (only n g one)))) | inr more ↦ set_has ns _ g (inr more) ]

is_one : (n k : ℕ) → IsBitSet n k → bit_at n k ≡ 1
is_one n k h = sym (shr_and_one n k) ∙ (bit_set_by_shift n k).1 h

is_set : (n k : ℕ) → bit_at n k ≡ 1 → IsBitSet n k
is_set n k h = (bit_set_by_shift n k).0 (shr_and_one n k ∙ h)

of_set : (ns : List ℕ) (g : ℕ) → IsBitSet (set_of 0 ns) g → Contains ns g
of_set ns g h = elim (set_tells ns 0 g (is_one _ g h)) [ inl b ↦ absurd (let none = bit_at-zero g in omega arith) | inr c ↦ c ]

pub lowered_calls : (p : Source) → HasCalls (lowered p) p
lowered_calls p f h g e =
    let calls : Function → ℕ = λ (k : Function). set_of 0 (calls_body p k.body) in
    let is : or_zero (slice_get (map calls p.funcs) f) ≡ set_of 0 (calls_body p h.body) = ap or_zero (slice_get-map calls p.funcs f ∙ ap (option_map calls) e) in
    let P : ℕ → Type 0 = λ z. IsBitSet z g in
    (λ s. of_set (calls_body p h.body) g (subst P is s), λ c. subst P (sym is) (is_set _ g (set_has (calls_body p h.body) 0 g (inr c))))

-- statements one after another

set_of_append : (xs ys : List ℕ) (bits : ℕ) → set_of bits (xs ++ ys) ≡ set_of (set_of bits xs) ys
set_of_append [] ys bits = refl
set_of_append (x ∷ xs) ys bits = set_of_append xs ys _

pub set_of_one : (bits : ℕ) (xs : List ℕ) → set_of bits (xs ++ []) ≡ set_of bits xs
set_of_one bits xs = ap (set_of bits) (append-nil xs)

pub set_of_two : (bits : ℕ) (xs ys : List ℕ) → set_of bits (xs ++ (ys ++ [])) ≡ set_of (set_of bits xs) ys
set_of_two bits xs ys = set_of_append xs (ys ++ []) bits ∙ set_of_one (set_of bits xs) ys

calls_behind : (p : Source) (l : ℕ) (s : Kind) (rest : Body) → calls_body p (behind l s rest) ≡ calls_body p (behind 0 s end) ++ calls_body p rest
calls_behind p l (k.Let x e) rest = ap (λ z. z ++ calls_body p rest) (sym (append-nil _))
calls_behind p l (k.Set x e) rest = ap (λ z. z ++ calls_body p rest) (sym (append-nil _))
calls_behind p l (k.If e a b) rest = simp (append-nil, append_assoc)
calls_behind p l (k.While e a) rest = simp append-nil
calls_behind p l _ rest = refl

pub calls_step : (p : Source) (l : ℕ) (s : Kind) (all rest : Body) (bits more : ℕ) → all ≡ behind l s rest → more ≡ set_of bits (calls_body p (behind 0 s end)) → set_of more (calls_body p rest) ≡ set_of bits (calls_body p all)
calls_step p l s all rest bits more e h =
    ap (λ z. set_of z (calls_body p rest)) h
    ∙ sym (set_of_append (calls_body p (behind 0 s end)) (calls_body p rest) bits)
    ∙ ap (set_of bits) (sym (ap (calls_body p) e ∙ calls_behind p l s rest))
