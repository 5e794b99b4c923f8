-- What the reader builds of forms is, as trees with counts, what it builds of trees.
use Rattle.std.proofs.Common.{ℕ, ◌≡◌, ◌||◌, List, [], ◌∷◌, ◌++◌, map, Option, Some, None, refl, sym, ap, ◌∙◌}
use Rattle.std.specs.List.{list_any}
use Rattle.std.proofs.lemmas.List.{map-append}
use Rattle.loom_command.specs.Filter as tree
use Rattle.loom_command.specs.FilterForm.{EventForm, StepForm, RegionForm, event_tree, events_tree, step_tree, region_tree}
use Rattle.loom_command.specs.FilterFault as fault
use Rattle.loom_filter.specs.Builders as c
use Rattle.loom_filter.specs.Builders.{CountedEvent, CountedRegion, CountedClause, counted_value, counted_step, counted_steps, counted_region, counted_regions, counted_clause, plain_between, plain_order, plain_exclusive, form_between, form_order, form_exclusive}

-- Lists of steps

events_are : (ss : List StepForm) → c.events_tree (counted_steps ss) ≡ events_tree ss
events_are [] = refl
events_are (s ∷ ss) = ap (λ z. event_tree s.event ∷ z) (events_are ss)

counted_is : (o : Option (List ℕ)) (e : EventForm) → c.has_count (counted_value o) ≡ fault.is_counted (record { event = e; count = o })
counted_is None e = refl
counted_is (Some ds) e = refl

counts_are : (ss : List StepForm) → c.is_counted (counted_steps ss) ≡ list_any fault.is_counted ss
counts_are [] = refl
counts_are (s ∷ ss) = rw (counted_is s.count s.event, counts_are ss) refl

count_is : (o : Option (List ℕ)) (e : EventForm) → c.step_tree (counted_step (record { event = e; count = o })) ≡ step_tree (record { event = e; count = o })
count_is None e = refl
count_is (Some ds) e = refl

steps_are : (ss : List StepForm) → c.steps_tree (counted_steps ss) ≡ map step_tree ss
steps_are [] = refl
steps_are (s ∷ ss) = rw (count_is s.count s.event, steps_are ss) refl

last_is : (xs : List StepForm) (x : StepForm) → counted_steps xs ++ counted_step x ∷ [] ≡ counted_steps (xs ++ x ∷ [])
last_is xs x = sym (map-append counted_step xs (x ∷ []))

-- a region between events, where the lists that it has are these
abbrev between_of : List StepForm → List StepForm → CountedRegion
between_of es xs = record { region = tree.between (events_tree es) (events_tree xs); is_counted = list_any fault.is_counted es || list_any fault.is_counted xs }

plain_is : (es : List StepForm) (e : StepForm) (xs : List StepForm) (x : StepForm) → plain_between (counted_steps es) (counted_step e) (counted_steps xs) (counted_step x) ≡ between_of (es ++ e ∷ []) (xs ++ x ∷ [])
plain_is es e xs x = rw (last_is es e, last_is xs x, events_are (es ++ e ∷ []), events_are (xs ++ x ∷ []), counts_are (es ++ e ∷ []), counts_are (xs ++ x ∷ [])) refl

form_is : (es : List StepForm) (e : StepForm) (xs : List StepForm) (x : StepForm) → counted_region (form_between es e xs x) ≡ between_of (es ++ e ∷ []) (xs ++ x ∷ [])
form_is [] e [] x = refl
form_is [] e (y ∷ ys) x = refl
form_is (d ∷ ds) e [] x = refl
form_is (d ∷ ds) e (y ∷ ys) x = refl

pub between_is : (es : List StepForm) (e : StepForm) (xs : List StepForm) (x : StepForm) → plain_between (counted_steps es) (counted_step e) (counted_steps xs) (counted_step x) ≡ counted_region (form_between es e xs x)
between_is es e xs x = plain_is es e xs x ∙ sym (form_is es e xs x)

-- Orders

-- the last of a list with a last one
last_counted : (t : StepForm) (ts : List StepForm) (s : StepForm) → fault.is_last_counted t (ts ++ s ∷ []) ≡ fault.is_counted s
last_counted t [] s = refl
last_counted t (u ∷ us) s = last_counted u us s

pub order_is : (a : StepForm) (ss : List StepForm) (s : StepForm) → plain_order (counted_step a) (counted_steps ss) (counted_step s) ≡ counted_clause (form_order a ss s)
order_is a [] s = rw (count_is a.count a.event, count_is s.count s.event, counted_is s.count s.event) refl
order_is a (t ∷ ts) s = rw (last_is ts s, count_is a.count a.event, count_is t.count t.event, steps_are (ts ++ s ∷ []), counted_is s.count s.event, last_counted t ts s) refl

-- Regions

regions_are : (rs : List RegionForm) → c.regions_tree (counted_regions rs) ≡ map region_tree rs
regions_are [] = refl
regions_are (r ∷ rs) = ap (λ z. region_tree r ∷ z) (regions_are rs)

has_are : (rs : List RegionForm) → c.has_counts (counted_regions rs) ≡ list_any fault.is_region_counted rs
has_are [] = refl
has_are (r ∷ rs) = ap (λ z. fault.is_region_counted r || z) (has_are rs)

last_region : (rs : List RegionForm) (r : RegionForm) → counted_regions rs ++ counted_region r ∷ [] ≡ counted_regions (rs ++ r ∷ [])
last_region rs r = sym (map-append counted_region rs (r ∷ []))

pub exclusive_is : (rs : List RegionForm) (r : RegionForm) → plain_exclusive (counted_regions rs) (counted_region r) ≡ counted_clause (form_exclusive rs r)
exclusive_is [] r = refl
exclusive_is (q ∷ qs) r = rw (last_region qs r, regions_are (qs ++ r ∷ []), has_are (qs ++ r ∷ [])) refl
