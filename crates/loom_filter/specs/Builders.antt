-- The two things that the reader builds: forms, and trees with what is asked of counts.
use Rattle.std.specs.Prelude.{ℕ, Bool, true, false, ◌||◌, List, [], ◌∷◌, ◌++◌, map, Option, Some, None}
use Rattle.std.specs.List.{list_any}
use Rattle.loom_tree.specs.Tree.{Expression}
use Rattle.loom_lexer.specs.Tokens.{value_from}
use Rattle.loom_command.specs.Filter as tree
use Rattle.loom_command.specs.FilterForm.{TestForm, EventForm, StepForm, RegionForm, between, whole, ClauseForm, order, exclusive, unilateral, event_tree, region_tree, clause_tree}
use Rattle.loom_command.specs.FilterFault.{is_region_counted, is_miscounted}
use Rattle.loom_filter.specs.Machine.{FilterBuilder}

-- Trees

-- an event, and its count where one is written
pub record CountedEvent : Type 0 where
  pub event : tree.LineEvent
  pub count : Option ℕ

-- a region, and whether a count is written in it
pub record CountedRegion : Type 0 where
  pub region : tree.Region
  pub is_counted : Bool

-- a clause, and whether a count is written where none may be
pub record CountedClause : Type 0 where
  pub clause : tree.Clause
  pub is_miscounted : Bool

abbrev pub has_count : Option ℕ → Bool
has_count None = false
has_count (Some n) = true

abbrev pub is_counted : List CountedEvent → Bool
is_counted ss = list_any (λ (s : CountedEvent). has_count s.count) ss

abbrev pub events_tree : List CountedEvent → List tree.LineEvent
events_tree ss = map (λ (s : CountedEvent). s.event) ss

abbrev pub count_of : Option ℕ → ℕ
count_of None = 1
count_of (Some n) = n

abbrev pub step_tree : CountedEvent → tree.OrderStep
step_tree s = record { event = s.event; count = count_of s.count }

abbrev pub steps_tree : List CountedEvent → List tree.OrderStep
steps_tree ss = map step_tree ss

abbrev pub regions_tree : List CountedRegion → List tree.Region
regions_tree rs = map (λ (r : CountedRegion). r.region) rs

abbrev pub has_counts : List CountedRegion → Bool
has_counts rs = list_any (λ (r : CountedRegion). r.is_counted) rs

abbrev pub with_test : tree.LineEvent → Expression → tree.LineEvent
with_test e x = record { file = e.file; line = e.line; test = Some x }

abbrev pub plain_between : List CountedEvent → CountedEvent → List CountedEvent → CountedEvent → CountedRegion
plain_between es e xs x =
    record { region = tree.between (events_tree (es ++ e ∷ [])) (events_tree (xs ++ x ∷ [])); is_counted = is_counted (es ++ e ∷ []) || is_counted (xs ++ x ∷ []) }

abbrev pub plain_function : List ℕ → Option Expression → CountedRegion
plain_function f x = record { region = tree.whole f x; is_counted = false }

abbrev pub plain_order : CountedEvent → List CountedEvent → CountedEvent → CountedClause
plain_order a ss s = record { clause = tree.order (steps_tree ((a ∷ ss) ++ s ∷ [])); is_miscounted = has_count s.count }

abbrev pub plain_exclusive : List CountedRegion → CountedRegion → CountedClause
plain_exclusive rs r = record { clause = tree.exclusive (regions_tree (rs ++ r ∷ [])); is_miscounted = has_counts (rs ++ r ∷ []) }

abbrev pub plain : FilterBuilder Expression tree.LineEvent CountedEvent CountedRegion CountedClause
plain = record {
  event = λ f digits n. record { file = f; line = n; test = None };
  tested = with_test;
  uncounted = λ e. record { event = e; count = None };
  counted = λ e digits n. record { event = e; count = Some n };
  between = plain_between;
  function = plain_function;
  order = plain_order;
  exclusive = plain_exclusive;
  unilateral = λ r. record { clause = tree.unilateral r.region; is_miscounted = r.is_counted };
}

-- Forms

abbrev pub form_tested : EventForm → TestForm → EventForm
form_tested e x = record { file = e.file; line = e.line; test = Some x }

abbrev pub form_between : List StepForm → StepForm → List StepForm → StepForm → RegionForm
form_between [] e [] x = between e [] x []
form_between [] e (y ∷ ys) x = between e [] y (ys ++ x ∷ [])
form_between (d ∷ ds) e [] x = between d (ds ++ e ∷ []) x []
form_between (d ∷ ds) e (y ∷ ys) x = between d (ds ++ e ∷ []) y (ys ++ x ∷ [])

abbrev pub form_order : StepForm → List StepForm → StepForm → ClauseForm
form_order a [] s = order a s []
form_order a (t ∷ ts) s = order a t (ts ++ s ∷ [])

abbrev pub form_exclusive : List RegionForm → RegionForm → ClauseForm
form_exclusive [] r = exclusive r []
form_exclusive (q ∷ qs) r = exclusive q (qs ++ r ∷ [])

abbrev pub written : FilterBuilder TestForm EventForm StepForm RegionForm ClauseForm
written = record {
  event = λ f digits n. record { file = f; line = digits; test = None };
  tested = form_tested;
  uncounted = λ e. record { event = e; count = None };
  counted = λ e digits n. record { event = e; count = Some digits };
  between = form_between;
  function = whole;
  order = form_order;
  exclusive = form_exclusive;
  unilateral = unilateral;
}

-- what a form is as a tree with counts

abbrev pub counted_value : Option (List ℕ) → Option ℕ
counted_value None = None
counted_value (Some digits) = Some (value_from 0 digits)

abbrev pub counted_step : StepForm → CountedEvent
counted_step x = record { event = event_tree x.event; count = counted_value x.count }

abbrev pub counted_steps : List StepForm → List CountedEvent
counted_steps xs = map counted_step xs

abbrev pub counted_region : RegionForm → CountedRegion
counted_region r = record { region = region_tree r; is_counted = is_region_counted r }

abbrev pub counted_regions : List RegionForm → List CountedRegion
counted_regions rs = map counted_region rs

abbrev pub counted_clause : ClauseForm → CountedClause
counted_clause c = record { clause = clause_tree c; is_miscounted = is_miscounted c }

abbrev pub counted_clauses : List ClauseForm → List CountedClause
counted_clauses cs = map counted_clause cs
