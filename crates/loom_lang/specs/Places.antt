-- The places of a program: where a thread can stand.
use Rattle.std.specs.Prelude.{slice_get, ℕ, suc, List, [], ◌∷◌, ◌++◌, Option, Some, None}
use Rattle.loom_tree.specs.Tree.{Body, end, simple, if_, while_, Function, Source}

-- A statement is told by the line on which it begins, a function by its number.
pub data Place : Type 0 where
  -- where an unborn or ended thread stands
  nowhere : Place
  entry : ℕ → Place
  inside : ℕ → Place
  back_edge : ℕ → Place
  out : ℕ → Place

-- in the order in which statements begin; a loop's back edge stands directly behind its own place
abbrev pub body_places : Body → List Place
body_places end = []
body_places (simple l s rest) = inside l ∷ body_places rest
body_places (if_ l e a b rest) = inside l ∷ (body_places a ++ (body_places b ++ body_places rest))
body_places (while_ l e a rest) = inside l ∷ (back_edge l ∷ (body_places a ++ body_places rest))

-- function by function, from the function of this number on
abbrev pub places_from : ℕ → List Function → List Place
places_from n [] = []
places_from n (f ∷ fs) = entry n ∷ (body_places f.body ++ out n ∷ places_from (suc n) fs)

-- The place of number k is the k-th of these; nowhere is place 0.
abbrev pub places : Source → List Place
places p = nowhere ∷ places_from 0 p.funcs

abbrev pub place_at : Source → ℕ → Option Place
place_at p k = slice_get (places p) k

abbrev pub line_of_function : Option Function → ℕ
line_of_function None = 0
line_of_function (Some f) = f.line

-- the line of a place: an entry or out place has that of the `fn`
abbrev pub line_of_place : Source → Place → ℕ
line_of_place p nowhere = 0
line_of_place p (entry n) = line_of_function (slice_get p.funcs n)
line_of_place p (inside l) = l
line_of_place p (back_edge l) = l
line_of_place p (out n) = line_of_function (slice_get p.funcs n)
