-- Limits that are passed.
use Rattle.std.proofs.Common.{ℕ, ◌<◌, ◌≤◌, ◌≡◌, List, [], ◌∷◌, length, get_or, take, drop, map, ap, ◌∙◌, arith, length-drop, drop-cons}
use Rattle.std.proofs.lemmas.List.{nil_from_length, drop-map}
use Rattle.loom_lang.specs.Refusal.{first_excess}

pub over_more : {X : Type 0} (f : X → ℕ) (xs : List X) (n : ℕ) (d : X) → n < length xs → first_excess n (map f xs) ≡ f (get_or xs n d) ∷ []
over_more f xs n d l = ap (take 1) (drop-map f n xs ∙ ap (map f) (drop-cons xs n d l))

pub over_none : {X : Type 0} (f : X → ℕ) (xs : List X) (n : ℕ) → length xs ≤ n → first_excess n (map f xs) ≡ []
over_none f xs n l = ap (take 1) (drop-map f n xs ∙ ap (map f) (nil_from_length (drop n xs) (omega (arith, length-drop n xs))))
