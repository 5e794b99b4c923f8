-- Tokens that are written out lie within their text where a test says so.
use Rattle.std.proofs.Common.{ℕ, ◌≡◌, ◌≤◌, refl, nat_le, List, [], ◌∷◌, length, All, Bool, true, false, if◌then◌else◌}
use Rattle.std.proofs.lemmas.Bool.{leb-true}
use Rattle.std.proofs.lemmas.List.Elements.{All-nil, All-cons}
use Rattle.loom_tree.specs.declared.token.Token.{Token}
use Rattle.loom_tree.specs.Token.{IsWithin}

abbrev pub each_fits : ℕ → List Token → Bool
each_fits n [] = true
each_fits n (t ∷ ts) = if nat_le t.start t.end then (if nat_le t.end n then each_fits n ts else false) else false

pub all_within : (bytes : List ℕ) (ts : List Token) → each_fits (length bytes) ts ≡ true → All (IsWithin bytes) ts
all_within bytes [] h = All-nil (IsWithin bytes)
all_within bytes (t ∷ ts) h = go (nat_le t.start t.end) (nat_le t.end (length bytes)) (leb-true t.start t.end) (leb-true t.end (length bytes)) (all_within bytes ts) h
  where
    go : (a b : Bool) → (a ≡ true → t.start ≤ t.end) → (b ≡ true → t.end ≤ length bytes) → (each_fits (length bytes) ts ≡ true → All (IsWithin bytes) ts) → (if a then (if b then each_fits (length bytes) ts else false) else false) ≡ true → All (IsWithin bytes) (t ∷ ts)
    go true true f g rest h' = All-cons (IsWithin bytes) t ts (f refl, g refl) (rest h')
    go true false f g rest h' = cc
    go false b f g rest h' = cc
