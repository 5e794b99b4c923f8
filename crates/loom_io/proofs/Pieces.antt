-- A text that is taken in pieces.
use Rattle.std.proofs.Common.{ℕ, ◌+◌, ◌-◌, ◌≤◌, ◌≡◌, List, ◌++◌, Option, Some, None, take, drop, length, ap, sym, ◌∙◌, append_assoc, arith, length-drop}
use Rattle.std.proofs.lemmas.List.{take_all}
use Rattle.std.proofs.Math.Seq.{take-add}
use Rattle.std.specs.Io.KnownBytes.{Appends}

-- what stands behind a place of the text, as a range of it
pub rest_is : (text : List ℕ) (at : ℕ) → take (length text - at) (drop at text) ≡ drop at text
rest_is text at = take_all (length text - at) (drop at text) (omega (arith, length-drop at text))

pub appends_more : (a b c : Option (List ℕ)) (text : List ℕ) (at n : ℕ) → Appends a b (take at text) → Appends b c (take n (drop at text)) → Appends a c (take (at + n) text)
appends_more None b c text at n h k = tt
appends_more (Some xs) None c text at n h k = absurd h
appends_more (Some xs) (Some ys) None text at n h k = absurd k
appends_more (Some xs) (Some ys) (Some zs) text at n h k =
    k ∙ ap (λ z. z ++ take n (drop at text)) h ∙ append_assoc xs (take at text) (take n (drop at text)) ∙ ap (λ z. xs ++ z) (sym (take-add at n text))

-- a front was taken, and then a front of the rest
pub appends_piece : (a b c : Option (List ℕ)) (text : List ℕ) (at n : ℕ) → Appends a b (take at text) → Appends b c (take n (take (length text - at) (drop at text))) → Appends a c (take (at + n) text)
appends_piece a b c text at n h k = appends_more a b c text at n h (rw rest_is at k)

-- a front of the rest stays within the text
pub within_piece : (text : List ℕ) (at n : ℕ) → at ≤ length text → n ≤ length (take (length text - at) (drop at text)) → at + n ≤ length text
within_piece text at n h k = let e = rw rest_is at k in omega (arith, h, e, length-drop at text)
