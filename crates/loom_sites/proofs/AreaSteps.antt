-- Areas, one region after the other.
use Rattle.std.proofs.Common.{ℕ, ◌+◌, ◌<◌, ◌≡◌, ◌⊎◌, inl, inr, true, List, [], ◌∷◌, ◌++◌, length, take, get_or, ap, ◌∙◌}
use Rattle.std.proofs.lemmas.List.{map-append, take_more}
use Rattle.loom_tree.specs.Tree.{Source}
use Rattle.loom_trace.specs.Places.{has_place}
use Rattle.loom_law.specs.Filter.{Range, Plan}
use Rattle.loom_law.proofs.Holdings.{either_of}
use Rattle.loom_plan.specs.declared.plan.RegionRow.{RegionRow}
use Rattle.loom_plan.specs.PlanView.{region_of, regions_in}
use Rattle.loom_sites.specs.declared.area.Area.{Area}
use Rattle.loom_sites.specs.Areas.{IsOwnNumber, TellsArea, AreAreas, IsOwnAmong, AreWith}

pub areas_more : (p : Source) (f : Plan) (rs : List (ℕ × Range)) (r : ℕ × Range) (xs : List Area) (x : Area) → AreAreas p f rs xs → TellsArea p f r.0 r.1 x → AreAreas p f (rs ++ r ∷ []) (xs ++ x ∷ [])
areas_more p f [] r [] x h t = (t, tt)
areas_more p f (s ∷ rs) r (y ∷ xs) x h t = (h.0, areas_more p f rs r xs x h.1 t)
areas_more p f [] r (y ∷ xs) x h t = absurd h
areas_more p f (s ∷ rs) r [] x h t = absurd h

among_cases : (p : Source) (f : Plan) (rs : List (ℕ × Range)) (r : ℕ × Range) (k : ℕ) → IsOwnAmong p f (rs ++ r ∷ []) k → IsOwnAmong p f rs k ⊎ IsOwnNumber p f r.1 k
among_cases p f [] r k (inl h) = inr h
among_cases p f [] r k (inr h) = absurd h
among_cases p f (s ∷ rs) r k (inl h) = inl (inl h)
among_cases p f (s ∷ rs) r k (inr h) = either_of (among_cases p f rs r k h) (λ i. inl (inr i)) (λ i. inr i)

among_left : (p : Source) (f : Plan) (rs : List (ℕ × Range)) (r : ℕ × Range) (k : ℕ) → IsOwnAmong p f rs k → IsOwnAmong p f (rs ++ r ∷ []) k
among_left p f [] r k h = absurd h
among_left p f (s ∷ rs) r k (inl h) = inl h
among_left p f (s ∷ rs) r k (inr h) = inr (among_left p f rs r k h)

among_last : (p : Source) (f : Plan) (rs : List (ℕ × Range)) (r : ℕ × Range) (k : ℕ) → IsOwnNumber p f r.1 k → IsOwnAmong p f (rs ++ r ∷ []) k
among_last p f [] r k h = inl h
among_last p f (s ∷ rs) r k h = inr (among_last p f rs r k h)

pub with_more : (p : Source) (f : Plan) (rs : List (ℕ × Range)) (r : ℕ × Range) (old mid new : List ℕ) → AreWith (IsOwnAmong p f rs) old mid → AreWith (IsOwnNumber p f r.1) mid new → AreWith (IsOwnAmong p f (rs ++ r ∷ [])) old new
with_more p f rs r old mid new h g k = (told, found)
  where
    told : has_place new k ≡ true → (has_place old k ≡ true) ⊎ IsOwnAmong p f (rs ++ r ∷ []) k
    told e = either_of ((g k).0 e) (λ i. either_of ((h k).0 i) (λ j. inl j) (λ j. inr (among_left p f rs r k j))) (λ i. inr (among_last p f rs r k i))

    found : (has_place old k ≡ true) ⊎ IsOwnAmong p f (rs ++ r ∷ []) k → has_place new k ≡ true
    found (inl e) = (g k).1 (inl ((h k).1 (inl e)))
    found (inr i) = either_of (among_cases p f rs r k i) (λ j. (g k).1 (inl ((h k).1 (inr j)))) (λ j. (g k).1 (inr j))

-- the regions of one row more
pub regions_more : (xs : List RegionRow) (i : ℕ) (d : RegionRow) → i < length xs → regions_in (take (i + 1) xs) ≡ regions_in (take i xs) ++ region_of (get_or xs i d) ∷ []
regions_more xs i d low = ap regions_in (take_more xs i d low) ∙ map-append region_of (take i xs) (get_or xs i d ∷ [])
