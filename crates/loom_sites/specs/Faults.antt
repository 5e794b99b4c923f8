-- What areas say of clauses.
use Rattle.std.specs.Prelude.{ℕ, suc, zero, ◌==◌, bit_and, Bool, false, not, ◌&&◌, ◌||◌, List, [], ◌∷◌, Option, Some, None, if◌then◌else◌}
use Rattle.loom_command.specs.FilterFault.{FilterFault}
use Rattle.loom_law.specs.Filter.{share}
use Rattle.loom_plan.specs.Sets.{event_numbers}
use Rattle.loom_plan.specs.Fault.{fault_at}
use Rattle.loom_sites.specs.declared.area.Area.{Area}

abbrev pub is_reentered : Area → Bool
is_reentered x = not (bit_and x.contents.functions x.contents.calls == 0)

abbrev pub has_reentered : List Area → ℕ → Bool
has_reentered [] c = false
has_reentered (x ∷ xs) c = ((x.clause == c) && is_reentered x) || has_reentered xs c

-- an entry event of one can begin inside the other
abbrev pub are_nested : Area → Area → Bool
are_nested x y = share (event_numbers y.entries) (event_numbers x.contents.events) || share (event_numbers x.entries) (event_numbers y.contents.events)

abbrev pub nests_among : Area → List Area → Bool
nests_among x [] = false
nests_among x (y ∷ ys) = ((y.clause == x.clause) && are_nested x y) || nests_among x ys

abbrev pub has_nested : List Area → ℕ → Bool
has_nested [] c = false
has_nested (x ∷ xs) c = ((x.clause == c) && nests_among x xs) || has_nested xs c

abbrev pub area_fault : List Area → ℕ → Option ℕ
area_fault xs c = if has_reentered xs c then Some 7 else if has_nested xs c then Some 8 else None

-- of so many clauses, from this one on
abbrev pub first_among : List Area → ℕ → ℕ → Option FilterFault
first_among xs c zero = None
first_among xs c (suc k) = fault_at c (area_fault xs c) (first_among xs (suc c) k)
