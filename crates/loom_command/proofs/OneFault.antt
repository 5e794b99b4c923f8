-- A text is refused in one way, and what is refused is no filter.
use Rattle.std.proofs.Common.{ℕ, ◌≤◌, ◌≡◌, inl, inr, List, ◌∷◌, refl, sym, ap, subst, ◌∙◌, arith}
use Rattle.loom_command.specs.FilterFault.{FilterFault, IsNoLater, clause_behind, LeavesGrammar, IsFaultOf, IsFaultyFilter}
use Rattle.loom_command.specs.Laws.{HasOneFault, HasNoFaultyFilter}
use Rattle.loom_command.proofs.OneForm.{one_form}

same : (a b m n : ℕ) → a ≡ b → m ≡ n → ◌≡◌ {A = FilterFault} (record { clause = a; number = m }) (record { clause = b; number = n })
same a b m n e f = rw (e, f) refl

same_fault : (x y : FilterFault) → x.clause ≡ y.clause → x.number ≡ y.number → x ≡ y
same_fault x y e f = same x.clause y.clause x.number y.number e f

-- neither is later: they are one
pub one_least : (x y : FilterFault) → IsNoLater x y → IsNoLater y x → x ≡ y
one_least x y (inl h) (inl k) = absurd (omega (arith, h, k))
one_least x y (inl h) (inr k) = absurd (omega (arith, h, k.0))
one_least x y (inr h) (inl k) = absurd (omega (arith, h.0, k))
one_least x y (inr h) (inr k) = same_fault x y h.0 (omega (arith, h.1, k.1))

one_place : (bytes : List ℕ) (a b : ℕ) → LeavesGrammar bytes a → LeavesGrammar bytes b → a ≡ b
one_place bytes a b h k =
    let l : k.whole ≤ h.whole = h.most k.whole k.begins in
    let r : h.whole ≤ k.whole = k.most h.whole h.begins in
    let e : h.whole ≡ k.whole = omega (arith, l, r) in
    h.is ∙ ap clause_behind e ∙ sym k.is

-- a text of the grammar isn't left
in_grammar : (bytes : List ℕ) (clause : ℕ) (x : FilterFault) → LeavesGrammar bytes clause → IsFaultyFilter bytes x → ⊥
in_grammar bytes clause x h k = h.no_text (record { first = k.first; others = k.others; form = k.form })

one_faulty : (bytes : List ℕ) (x y : FilterFault) → IsFaultyFilter bytes x → IsFaultyFilter bytes y → x ≡ y
one_faulty bytes x y h k =
    let e : h.first ∷ h.others ≡ k.first ∷ k.others = one_form bytes h.first k.first h.others k.others h.form k.form in
    let there : IsFaultOf 1 0 (h.first ∷ h.others) y = subst (λ cs. IsFaultOf 1 0 cs y) (sym e) k.is in
    let here : IsFaultOf 1 0 (k.first ∷ k.others) x = subst (λ cs. IsFaultOf 1 0 cs x) e h.is in
    one_least x y (h.least y there) (k.least x here)

pub one_fault : HasOneFault
one_fault bytes x y (inl h) (inl k) = same_fault x y (one_place bytes x.clause y.clause h.1 k.1) (h.0 ∙ sym k.0)
one_fault bytes x y (inl h) (inr k) = absurd (in_grammar bytes x.clause y h.1 k)
one_fault bytes x y (inr h) (inl k) = absurd (in_grammar bytes y.clause x k.1 h)
one_fault bytes x y (inr h) (inr k) = one_faulty bytes x y h k

pub no_faulty_filter : HasNoFaultyFilter
no_faulty_filter bytes f x h (inl k) = k.1.no_text (record { first = h.first; others = h.others; form = h.form })
no_faulty_filter bytes f x h (inr k) =
    let e : k.first ∷ k.others ≡ h.first ∷ h.others = one_form bytes k.first h.first k.others h.others k.form h.form in
    h.faultless x (subst (λ cs. IsFaultOf 1 0 cs x) e k.is)
