-- Rows of cells, of which the first are in use.
use Rattle.std.specs.Prelude.{ℕ, ◌-◌, ◌≤◌, ◌≡◌, List, ◌++◌, length, take, drop, replicate}
use Rattle.std.proofs.Common.{sym, ap, ◌∙◌, subst}
use Rattle.std.proofs.lemmas.List.{length-take-le, take-append-drop}

-- so many of the cells are in use, and the others hold one value
pub record IsRow {A : Type 0} (unused : A) (most : ℕ) (cells : List A) (len : ℕ) : Type 0 where
  pub within : len ≤ most
  pub whole : length cells ≡ most
  pub rest : drop len cells ≡ replicate (most - len) unused

-- the cells of a row that holds this list
abbrev pub cells_of : {A : Type 0} → A → ℕ → List A → List A
cells_of unused most xs = xs ++ replicate (most - length xs) unused

pub used_length : {A : Type 0} (unused : A) (most : ℕ) (cells : List A) (len : ℕ) → IsRow unused most cells len → length (take len cells) ≡ len
used_length unused most cells len h = length-take-le len cells (subst (λ (n : ℕ). len ≤ n) (sym h.whole) h.within)

-- the list in use gives the cells back
pub cells_back : {A : Type 0} (unused : A) (most : ℕ) (cells : List A) (len : ℕ) → IsRow unused most cells len → cells_of unused most (take len cells) ≡ cells
cells_back unused most cells len h =
    ap (λ (n : ℕ). take len cells ++ replicate (most - n) unused) (used_length unused most cells len h)
    ∙ ap (λ t. take len cells ++ t) (sym h.rest)
    ∙ take-append-drop len cells
