-- Texts with a comma between them, written one by one.
use Rattle.std.proofs.Common.{ℕ, ◌+◌, ◌<◌, ◌≡◌, length, get_or, drop, List, [], ◌∷◌, ◌++◌, codes, refl, sym, ap, ◌∙◌, append_assoc, append-nil}
use Rattle.loom_lang.specs.Canonical.{listed}
use Rattle.loom_lang.proofs.Faults.{drop_at}

-- what is left to write, with what stands before the first
abbrev pub listed_behind : List ℕ → List (List ℕ) → List ℕ
listed_behind comma [] = []
listed_behind comma (x ∷ xs) = comma ++ (x ++ listed_behind (codes ", ") xs)

pub listed_is : (xs : List (List ℕ)) → listed_behind [] xs ≡ listed xs
listed_is [] = refl
listed_is (x ∷ []) = append-nil x
listed_is (x ∷ y ∷ ys) = ap (λ z. x ++ (codes ", " ++ z)) (listed_is (y ∷ ys)) ∙ sym (append_assoc x (codes ", ") (listed (y ∷ ys)))

-- one text more is written
pub listed_more : {X : Type 0} (text : X → List ℕ) (texts : List X → List (List ℕ)) → ((x : X) (xs : List X) → texts (x ∷ xs) ≡ text x ∷ texts xs) → (xs : List X) (i : ℕ) (x : X) (old mid new comma : List ℕ) → i < length xs → x ≡ get_or xs i x → mid ≡ old ++ comma → new ≡ mid ++ text x → new ++ listed_behind (codes ", ") (texts (drop (i + 1) xs)) ≡ old ++ listed_behind comma (texts (drop i xs))
listed_more text texts is xs i x old mid new comma l e h g = rw (drop_at xs i x l e, is x (drop (i + 1) xs), g, h) (simp append_assoc)
