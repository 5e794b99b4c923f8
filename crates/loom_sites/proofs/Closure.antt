-- The closure of a set of functions under calls.
use Rattle.std.proofs.Common.{ℕ, ◌<◌, ◌≡◌, ◌==◌, ◌⊎◌, ◌↔◌, inl, inr, Bool, true, false, not, ◌&&◌, ◌||◌, ◌^◌, length, refl, sym, ap, subst, ◌∙◌, arith, eqb-true, eq-eqb, ne_eqb}
use Rattle.std.specs.Int.RustNames.{bit_or, bit_xor}
use Rattle.std.proofs.Math.Decide.{ℕ_discrete}
use Rattle.loom_tree.specs.Tree.{Source}
use Rattle.loom_law.specs.Paths.{statements_of, CallsFunction}
use Rattle.loom_law.proofs.Holdings.{or_cases, or_left, or_right}
use Rattle.loom_sites.specs.Reach.{left_out}
use Rattle.loom_sites.specs.Functions.{has_function, AreFunctions, IsReachedFrom, one, through}
use Rattle.loom_sites.proofs.Bits.{has_either, has_other, has_one, none_of_zero}
use Rattle.loom_sites.proofs.Walk.{left_falls}

-- What was found so far, and what is left of it to be gone on from.
pub record IsClosing (p : Source) (called found left : ℕ) : Type 0 where
  pub sound : (g : ℕ) → has_function found g ≡ true → IsReachedFrom p called g
  pub first : (g : ℕ) → has_function called g ≡ true → has_function found g ≡ true
  pub within : (g : ℕ) → has_function left g ≡ true → has_function found g ≡ true
  pub functions : AreFunctions p found
  pub closed : (f g : ℕ) → has_function found f ≡ true → CallsFunction p (statements_of p f) g → (has_function found g ≡ true) ⊎ (has_function left f ≡ true)

pub first_closing : (p : Source) (called : ℕ) → AreFunctions p called → IsClosing p called called called
first_closing p called h = record { sound = λ g e. one e; first = λ g e. e; within = λ g e. e; functions = h; closed = λ f g e c. inr e }

all_found : (p : Source) (called found left : ℕ) → IsClosing p called found left → left ≡ 0 → (g : ℕ) → IsReachedFrom p called g → has_function found g ≡ true
all_found p called found left x e g (one h) = x.first g h
all_found p called found left x e g (through {f = f} r c) =
    elim (x.closed f g (all_found p called found left x e f r) c) [ inl h ↦ h | inr h ↦ (let clash : true ≡ false = sym h ∙ (ap (λ (z : ℕ). has_function z f) e ∙ none_of_zero f) in cc) ]

pub closed_all : (p : Source) (called found left : ℕ) → IsClosing p called found left → left ≡ 0 → (g : ℕ) → (has_function found g ≡ true) ↔ IsReachedFrom p called g
closed_all p called found left x e g = (x.sound g, all_found p called found left x e g)

-- A step: function f is gone on from; those that it calls are these.

next_of : ℕ → ℕ → ℕ
next_of found calls = bit_or found calls

abbrev left_of : ℕ → ℕ → ℕ → ℕ → ℕ
left_of f found left next = bit_or (bit_xor left (2 ^ f)) (bit_xor next found)

left_has : (f found left next g : ℕ)
    → has_function (left_of f found left next) g
    ≡ (((has_function left g && not (f == g)) || (not (has_function left g) && (f == g)))
    || ((has_function next g && not (has_function found g)) || (not (has_function next g) && has_function found g)))
left_has f found left next g =
    has_either (bit_xor left (2 ^ f)) (bit_xor next found) g
    ∙ (ap (λ (t : Bool). t || has_function (bit_xor next found) g) (has_other left (2 ^ f) g ∙ ap (λ (t : Bool). (has_function left g && not t) || (not (has_function left g) && t)) (has_one f g))
    ∙ ap (λ (t : Bool). ((has_function left g && not (f == g)) || (not (has_function left g) && (f == g))) || t) (has_other next found g))

-- of one function: where it was left, is the one gone on from, was found and is found then
left_rule : (l e x n m : Bool) → m ≡ (((l && not e) || (not l && e)) || ((n && not x) || (not n && x))) → (e ≡ true → l ≡ true) → (l ≡ true → x ≡ true) → (x ≡ true → n ≡ true)
    → m ≡ ((l && not e) || (n && not x))
left_rule true true true true m h a b c = h
left_rule true true true false m h a b c = let k = c refl in cc
left_rule true true false n m h a b c = let k = b refl in cc
left_rule true false true true m h a b c = h
left_rule true false true false m h a b c = let k = c refl in cc
left_rule true false false n m h a b c = let k = b refl in cc
left_rule false true x n m h a b c = let k = a refl in cc
left_rule false false true true m h a b c = h
left_rule false false true false m h a b c = let k = c refl in cc
left_rule false false false true m h a b c = h
left_rule false false false false m h a b c = h

-- what the bits of a function tell of the statements of its body
abbrev pub TellsCalls : Source → ℕ → ℕ → Type 0
TellsCalls p f calls = (g : ℕ) → (has_function calls g ≡ true) ↔ CallsFunction p (statements_of p f) g

record Step (f found left calls next more : ℕ) : Type 0 where
  next_is : next ≡ bit_or found calls
  more_is : more ≡ left_of f found left next
  own : has_function left f ≡ true

next_has : {f found left calls next more : ℕ} → Step f found left calls next more → (g : ℕ) → has_function next g ≡ (has_function found g || has_function calls g)
next_has {found = found} {calls = calls} z g = ap (λ (t : ℕ). has_function t g) z.next_is ∙ has_either found calls g

more_has : (p : Source) (called : ℕ) {f found left calls next more : ℕ} → Step f found left calls next more → IsClosing p called found left → (g : ℕ)
    → has_function more g ≡ ((has_function left g && not (f == g)) || (has_function next g && not (has_function found g)))
more_has p called {f = f} {found = found} {left = left} {calls = calls} {next = next} {more = more} z x g =
    left_rule (has_function left g) (f == g) (has_function found g) (has_function next g) (has_function more g)
    (ap (λ (t : ℕ). has_function t g) z.more_is ∙ left_has f found left next g)
    (λ e. (let P : ℕ → Type 0 = λ t. has_function left t ≡ true in subst P (eqb-true f g e) z.own))
    (x.within g)
    (λ h. next_has z g ∙ or_left (has_function found g) (has_function calls g) h)

and_true : (a b : Bool) → (a && b) ≡ true → (a ≡ true) × (b ≡ true)
and_true true b h = (refl, h)
and_true false b h = cc

both_true : (a b : Bool) → a ≡ true → b ≡ true → (a && b) ≡ true
both_true true b h g = g
both_true false b h g = cc

pub closing_step : (p : Source) (called f found left calls next more : ℕ) → IsClosing p called found left → has_function left f ≡ true → TellsCalls p f calls
    → ((g : ℕ) → has_function calls g ≡ true → g < length p.funcs) → next ≡ bit_or found calls → more ≡ bit_or (bit_xor left (2 ^ f)) (bit_xor next found) → IsClosing p called next more
closing_step p called f found left calls next more x own tells few e g = record {
  sound = λ h i. sound_at h (or_cases (has_function found h) (has_function calls h) (sym (next_has z h) ∙ i));
  first = λ h i. grown h (x.first h i);
  within = λ h i. within_at h (or_cases _ _ (sym (more_has p called z x h) ∙ i));
  functions = λ h i. functions_at h (or_cases (has_function found h) (has_function calls h) (sym (next_has z h) ∙ i));
  closed = λ h k i c. closed_at h k c i;
}
  where
    z : Step f found left calls next more
    z = record { next_is = e; more_is = g; own = own }

    grown : (h : ℕ) → has_function found h ≡ true → has_function next h ≡ true
    grown h i = next_has z h ∙ or_left (has_function found h) (has_function calls h) i

    sound_at : (h : ℕ) → (has_function found h ≡ true) ⊎ (has_function calls h ≡ true) → IsReachedFrom p called h
    sound_at h (inl i) = x.sound h i
    sound_at h (inr i) = through (x.sound f (x.within f own)) ((tells h).0 i)

    functions_at : (h : ℕ) → (has_function found h ≡ true) ⊎ (has_function calls h ≡ true) → h < length p.funcs
    functions_at h (inl i) = x.functions h i
    functions_at h (inr i) = few h i

    within_at : (h : ℕ) → ((has_function left h && not (f == h)) ≡ true) ⊎ ((has_function next h && not (has_function found h)) ≡ true) → has_function next h ≡ true
    within_at h (inl i) = grown h (x.within h (and_true (has_function left h) (not (f == h)) i).0)
    within_at h (inr i) = (and_true (has_function next h) (not (has_function found h)) i).0

    -- a function that was found is gone on from, or still left
    later : (h k : ℕ) → CallsFunction p (statements_of p h) k → (f ≡ h → ⊥) → (has_function found k ≡ true) ⊎ (has_function left h ≡ true) → (has_function next k ≡ true) ⊎ (has_function more h ≡ true)
    later h k c d (inl i) = inl (grown k i)
    later h k c d (inr i) = inr (more_has p called z x h ∙ or_left _ _ (both_true (has_function left h) (not (f == h)) i (ap not (ne_eqb f h d))))

    is_found : (h k : ℕ) → CallsFunction p (statements_of p h) k → has_function found h ≡ true → (has_function next k ≡ true) ⊎ (has_function more h ≡ true)
    is_found h k c i =
        elim (ℕ_discrete f h) [
          | yes same ↦ (let P : ℕ → Type 0 = λ t. CallsFunction p (statements_of p t) k in
              inl (next_has z k ∙ or_right (has_function found k) (has_function calls k) ((tells k).1 (subst P (sym same) c))))
          | no other ↦ later h k c other (x.closed h k i c)
        ]

    closed_at : (h k : ℕ) → CallsFunction p (statements_of p h) k → has_function next h ≡ true → (has_function next k ≡ true) ⊎ (has_function more h ≡ true)
    closed_at h k c i = by_test (has_function found h) refl
      where
        by_test : (t : Bool) → has_function found h ≡ t → (has_function next k ≡ true) ⊎ (has_function more h ≡ true)
        by_test true j = is_found h k c j
        by_test false j = inr (more_has p called z x h ∙ or_right _ _ (both_true (has_function next h) (not (has_function found h)) i (ap not j)))

-- The measure: how many of 64 are not gone on from.

abbrev pub is_past : ℕ → ℕ → ℕ → Bool
is_past found left g = has_function found g && not (has_function left g)

past_rule : (x l n m e : Bool) → e ≡ false → (l ≡ true → x ≡ true) → (x ≡ true → n ≡ true) → m ≡ ((l && not e) || (n && not x)) → (n && not m) ≡ (x && not l)
past_rule x l n m true q a b h = cc
past_rule true true true m false q a b h = grind arith
past_rule true true false m false q a b h = let k = b refl in cc
past_rule true false true m false q a b h = grind arith
past_rule true false false m false q a b h = let k = b refl in cc
past_rule false true n m false q a b h = let k = a refl in cc
past_rule false false true m false q a b h = grind arith
past_rule false false false m false q a b h = grind arith

own_rule : (x l n m e : Bool) → e ≡ true → l ≡ true → x ≡ true → n ≡ true → m ≡ ((l && not e) || (n && not x)) → (n && not m) ≡ true
own_rule true true true m true q a b c h = grind arith
own_rule x l n m false q a b c h = cc
own_rule x false n m true q a b c h = cc
own_rule false true n m true q a b c h = cc
own_rule true true false m true q a b c h = cc

past_none : (x l : Bool) → l ≡ true → (x && not l) ≡ false
past_none true true h = refl
past_none false true h = refl
past_none x false h = cc

pub closing_less : (p : Source) (called f found left calls next more : ℕ) → IsClosing p called found left → has_function left f ≡ true → f < 64
    → next ≡ bit_or found calls → more ≡ bit_or (bit_xor left (2 ^ f)) (bit_xor next found) → left_out (is_past next more) 64 < left_out (is_past found left) 64
closing_less p called f found left calls next more x own low e g =
    let z : Step f found left calls next more = record { next_is = e; more_is = g; own = own } in
    let grown : (h : ℕ) → has_function found h ≡ true → has_function next h ≡ true = λ h i. next_has z h ∙ or_left (has_function found h) (has_function calls h) i in
    let falls = left_falls (is_past found left) (is_past next more) 64 f low (past_none (has_function found f) (has_function left f) own)
    (own_rule (has_function found f) (has_function left f) (has_function next f) (has_function more f) (f == f) (eq-eqb f f refl) own (x.within f own) (grown f (x.within f own)) (more_has p called z x f))
    (λ h d. past_rule (has_function found h) (has_function left h) (has_function next h) (has_function more h) (f == h) (ne_eqb f h (λ same. d (sym same))) (x.within h) (grown h) (more_has p called z x h)) in
    omega (arith, falls)
