-- The line of a statement without a block.
use Rattle.std.proofs.Common.{ℕ, zero, suc, ◌+◌, ◌≡◌, List, [], ◌++◌, codes, refl, sym, ap, append_assoc, add-one}
use Rattle.loom_lang.specs.Canonical.{indented}

-- the spaces before a line
pub indented_is : (n : ℕ) (text : List ℕ) → indented n text ≡ indented n [] ++ text
indented_is zero text = refl
indented_is (suc n) text = ap (λ z. codes "  " ++ z) (indented_is n text)

-- the spaces for one block more
pub margin_more : (n : ℕ) → indented n [] ++ codes "  " ≡ indented (n + 1) []
margin_more n = rw add-one (inside n)
  where
    inside : (n : ℕ) → indented n [] ++ codes "  " ≡ indented (suc n) []
    inside zero = refl
    inside (suc n) = ap (λ z. codes "  " ++ z) (inside n)

-- a text is indented at its beginning
pub indented_more : (n : ℕ) (a b : List ℕ) → indented n (a ++ b) ≡ indented n a ++ b
indented_more n a b = rw (indented_is n (a ++ b), indented_is n a) (sym (append_assoc (indented n []) a b))
