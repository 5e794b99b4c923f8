-- Lists without an element, and the lines of no reason.
use Rattle.std.proofs.Common.{ℕ, ◌≡◌, Bool, true, false, not, ◌&&◌, List, [], ◌∷◌, ◌++◌, inl, refl}
use Rattle.loom_lang.specs.Refusal.{line_if, IsAmong}

abbrev pub is_empty : List ℕ → Bool
is_empty [] = true
is_empty (l ∷ ls) = false

pub empty_append : (xs ys : List ℕ) → is_empty (xs ++ ys) ≡ (is_empty xs && is_empty ys)
empty_append [] ys = refl
empty_append (x ∷ xs) ys = refl

pub empty_line_if : (b : Bool) (l : ℕ) → is_empty (line_if b l) ≡ not b
empty_line_if true l = refl
empty_line_if false l = refl

pub none_among : (ls : List ℕ) → ((l : ℕ) → IsAmong l ls → ⊥) → is_empty ls ≡ true
none_among [] h = refl
none_among (l ∷ ls) h = absurd (h l (inl refl))

pub among_none : (ls : List ℕ) (l : ℕ) → is_empty ls ≡ true → IsAmong l ls → ⊥
among_none [] l h a = a
among_none (k ∷ ls) l h a = cc
