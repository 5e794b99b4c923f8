-- Keywords and numbers, byte by byte.
use Rattle.std.proofs.Common.{ℕ, ◌+◌, ◌-◌, ◌*◌, ◌≡◌, ◌≤◌, ◌<◌, Bool, true, false, cond, nat_le, List, [], ◌∷◌, length, get_or, drop, find, refl, sym, ap, ◌∙◌, arith}
use Rattle.std.proofs.lemmas.List.{drop_more}
use Rattle.std.proofs.lemmas.Bool.{leb-true}
use Rattle.loom_tree.specs.declared.token.TokenKind.TheVariants as t
use Rattle.loom_lexer.specs.Tokens.{value_from, number_of}

-- an element that fails the test is not the one that is looked for
pub find_past : {X : Type 0} (p : X → Bool) (xs : List X) (i : ℕ) (d : X) → i < length xs → p (get_or xs i d) ≡ false → find p (drop (i + 1) xs) ≡ find p (drop i xs)
find_past p xs i d l h = rw (drop_more xs i d l, h) refl

-- more digits make no smaller number
pub value_grows : (ds : List ℕ) (v : ℕ) → v ≤ value_from v ds
value_grows [] v = omega arith
value_grows (d ∷ ds) v = omega (arith, value_grows ds (10 * v + (d - 48)))

pub too_large : (v : ℕ) → 9223372036854775807 < v → t.Bad ≡ number_of v
too_large v l = go (nat_le v 9223372036854775807) refl
  where
    go : (b : Bool) → nat_le v 9223372036854775807 ≡ b → t.Bad ≡ cond b (t.Number v) t.Bad
    go true h = absurd (omega (arith, l, leb-true v 9223372036854775807 h))
    go false h = refl

-- a number that is too large so far is too large
pub too_large_at : (ds : List ℕ) (v i : ℕ) → i < length ds → value_from v (drop i ds) ≡ value_from 0 ds → 9223372036854775807 < 10 * v + (get_or ds i 0 - 48) → t.Bad ≡ number_of (value_from 0 ds)
too_large_at ds v i l same h =
    let more = value_grows (drop (i + 1) ds) (10 * v + (get_or ds i 0 - 48)) in
    let whole : value_from (10 * v + (get_or ds i 0 - 48)) (drop (i + 1) ds) ≡ value_from 0 ds = ap (value_from v) (sym (drop_more ds i 0 l)) ∙ same in
    too_large (value_from 0 ds) (omega arith)
