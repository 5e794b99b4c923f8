-- What is written of a filter for a program.
use Rattle.std.specs.Prelude.{ℕ, suc, ◌≡◌, ◌↔◌, IsTrue, Bool, List, [], ◌∷◌, ◌++◌, length, codes, Some, if◌then◌else◌}
use Rattle.loom_tree.specs.Tree.{Source}
use Rattle.loom_tree.specs.Decimal.{decimal}
use Rattle.loom_tree.specs.Lines.{ended}
use Rattle.loom_lang.specs.Places.{Place, places, place_at, line_of_place}
use Rattle.loom_law.specs.Filter.{Watch, Plan}
use Rattle.loom_law.specs.Paths.{IsUnsafe}
use Rattle.loom_law.specs.Control.{Judgement, refused, means}
use Rattle.loom_law.specs.Judgement.{IsJudged}
use Rattle.loom_plan.specs.PlaceEvents.{line_of_site}

-- Lines

-- `event N line L`
abbrev pub event_line : ℕ → ℕ → List ℕ
event_line n line = codes "event " ++ (decimal n ++ (codes " line " ++ decimal line))

-- one for each event, from the first number on
abbrev pub event_lines : Source → ℕ → List Watch → List (List ℕ)
event_lines p n [] = []
event_lines p n (w ∷ ws) = event_line n (line_of_site p w.site) ∷ event_lines p (suc n) ws

-- `unsafe P line L`
abbrev pub unsafe_line : ℕ → ℕ → List ℕ
unsafe_line k line = codes "unsafe " ++ (decimal k ++ (codes " line " ++ decimal line))

-- one for each of these places whose number meets the test, in their order; the first of them has this number
abbrev pub unsafe_lines : Source → (ℕ → Bool) → ℕ → List Place → List (List ℕ)
unsafe_lines p is_unsafe k [] = []
unsafe_lines p is_unsafe k (y ∷ ys) =
    if is_unsafe k then unsafe_line k (line_of_place p y) ∷ unsafe_lines p is_unsafe (suc k) ys else unsafe_lines p is_unsafe (suc k) ys

-- `clauses C`
abbrev pub clauses_line : ℕ → List ℕ
clauses_line clauses = codes "clauses " ++ decimal clauses

-- the clauses, the events, and the places whose numbers meet the test
abbrev pub plan_lines : Source → Plan → (ℕ → Bool) → List (List ℕ)
plan_lines p f is_unsafe = clauses_line (length f.rulings) ∷ (event_lines p 1 f.watches ++ unsafe_lines p is_unsafe 0 (places p))

-- `refused N C`
abbrev pub fault_line : ℕ → ℕ → List ℕ
fault_line number clause = codes "refused " ++ (decimal number ++ (codes " " ++ decimal clause))

-- Texts

-- The numbers that meet the test are those of the unsafe places, of each of them and of no other place.
abbrev pub TellsUnsafe : Source → Plan → (ℕ → Bool) → Type 0
TellsUnsafe p f is_unsafe = (k : ℕ) (y : Place) → place_at p k ≡ Some y → IsTrue (is_unsafe k) ↔ IsUnsafe p f y

-- what is written of a filter that isn't refused
abbrev pub IsPlanText : Source → Plan → List ℕ → Type 0
IsPlanText p f out = (is_unsafe : ℕ → Bool) × (TellsUnsafe p f is_unsafe × (out ≡ ended (plan_lines p f is_unsafe)))

-- what is written of a judgement
abbrev pub IsJudgementText : Source → Judgement → List ℕ → Type 0
IsJudgementText p (refused number clause) out = out ≡ ended (fault_line number clause ∷ [])
IsJudgementText p (means f) out = IsPlanText p f out

-- What is written of the text of a filter for a program in the file of this name: that of its judgement, for which the text itself goes first, then what
-- it names, then its paths.
abbrev pub IsFilterText : Source → List ℕ → List ℕ → List ℕ → Type 0
IsFilterText p file text out = (j : Judgement) × (IsJudged p file text j × IsJudgementText p j out)
