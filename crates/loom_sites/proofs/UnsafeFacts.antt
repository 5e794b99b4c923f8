-- What the calls for all regions and events have told, for the table of the program.
use Rattle.std.proofs.Common.{ℕ, ◌≡◌, ◌⊎◌, ◌↔◌, inl, inr, Bool, true, false, ◌||◌, List, sym, ap, ◌∙◌}
use Rattle.std.specs.Int.RustNames.{bit_or}
use Rattle.loom_tree.specs.Tree.{Source}
use Rattle.loom_lang.specs.Rules.{KeepsRules}
use Rattle.loom_trace.specs.Places.{has_place}
use Rattle.loom_law.specs.Filter.{Plan}
use Rattle.loom_law.proofs.Holdings.{either_of, or_cases, or_left, or_right}
use Rattle.loom_plan.specs.PlanParts.{plan_regions}
use Rattle.loom_sites.specs.declared.links.PlaceLinks.{PlaceLinks}
use Rattle.loom_sites.specs.declared.area.Area.{Area}
use Rattle.loom_sites.specs.Links.{program_rows}
use Rattle.loom_sites.specs.Rows.{meets_at, any_meets}
use Rattle.loom_sites.specs.Functions.{has_function, AreFunctions, IsReachedFrom, is_of}
use Rattle.loom_sites.specs.Events.{makes_unsafe, calls_by_event}
use Rattle.loom_sites.specs.Areas.{IsOwnAmong, AreAreas, AreWith, any_calls}
use Rattle.loom_sites.specs.UnsafePlaces.{AreUnsafe}
use Rattle.loom_sites.proofs.Bits.{has_either}
use Rattle.loom_sites.proofs.Frames.{events_within}
use Rattle.loom_sites.proofs.Unions.{all_unsafe}

calls_at : (p q : Source) (f : Plan) (calls : ℕ) (rows : List PlaceLinks) → q ≡ p → rows ≡ program_rows p → ((g : ℕ) → has_function calls g ≡ any_meets (calls_by_event q f rows g) 0 rows)
    → (g : ℕ) → has_function calls g ≡ any_meets (calls_by_event p f (program_rows p) g) 0 (program_rows p)
calls_at p q f calls rows e t h g =
    h g ∙ (ap (λ (z : Source). any_meets (calls_by_event z f rows g) 0 rows) e ∙ ap (λ (z : List PlaceLinks). any_meets (calls_by_event p f z g) 0 z) t)

pub event_calls_within : (p q : Source) (f : Plan) (calls : ℕ) (rows : List PlaceLinks) → q ≡ p → rows ≡ program_rows p → ((g : ℕ) → has_function calls g ≡ any_meets (calls_by_event q f rows g) 0 rows) → AreFunctions p calls
event_calls_within p q f calls rows e t h = events_within p f calls (calls_at p q f calls rows e t h)

both_reached : (p : Source) (xs : List Area) (calls one other all : ℕ) → ((g : ℕ) → (has_function one g ≡ true) ↔ IsReachedFrom p calls g) → ((g : ℕ) → has_function other g ≡ any_calls xs g) → all ≡ bit_or one other
    → (g : ℕ) → (has_function all g ≡ true) ↔ (IsReachedFrom p calls g ⊎ (any_calls xs g ≡ true))
both_reached p xs calls one other all r a e g = (told, found)
  where
    whole : has_function all g ≡ (has_function one g || has_function other g)
    whole = ap (λ (z : ℕ). has_function z g) e ∙ has_either one other g

    told : has_function all g ≡ true → IsReachedFrom p calls g ⊎ (any_calls xs g ≡ true)
    told h = either_of (or_cases (has_function one g) (has_function other g) (sym whole ∙ h)) (λ i. inl ((r g).0 i)) (λ i. inr (sym (a g) ∙ i))

    found : IsReachedFrom p calls g ⊎ (any_calls xs g ≡ true) → has_function all g ≡ true
    found (inl i) = whole ∙ or_left (has_function one g) (has_function other g) ((r g).1 i)
    found (inr i) = whole ∙ or_right (has_function one g) (has_function other g) (a g ∙ i)

pub unsafe_facts : (p q : Source) (f : Plan) (xs : List Area) (none own events set : List ℕ) (calls one other all : ℕ) (rows : List PlaceLinks) → KeepsRules p → q ≡ p → rows ≡ program_rows p → AreAreas p f (plan_regions f) xs
    → ((k : ℕ) → has_place none k ≡ false) → AreWith (IsOwnAmong p f (plan_regions f)) none own
    → ((k : ℕ) → has_place events k ≡ (has_place own k || any_meets (makes_unsafe q f rows k) 0 rows)) → ((g : ℕ) → has_function calls g ≡ any_meets (calls_by_event q f rows g) 0 rows)
    → ((g : ℕ) → (has_function one g ≡ true) ↔ IsReachedFrom p calls g) → ((g : ℕ) → has_function other g ≡ any_calls xs g) → all ≡ bit_or one other
    → ((k : ℕ) → has_place set k ≡ (has_place events k || meets_at (is_of all) rows k)) → AreUnsafe p f set
unsafe_facts p q f xs none own events set calls one other all rows rules e t areas n w v c r a b s =
    all_unsafe p f xs none own events set calls all rules areas n w
    (λ k. v k ∙ ap (λ (z : Bool). has_place own k || z) (ap (λ (z : Source). any_meets (makes_unsafe z f rows k) 0 rows) e ∙ ap (λ (z : List PlaceLinks). any_meets (makes_unsafe p f z k) 0 z) t)) (calls_at p q f calls rows e t c)
    (both_reached p xs calls one other all r a b) (λ k. s k ∙ ap (λ (z : List PlaceLinks). has_place events k || meets_at (is_of all) z k) t)
