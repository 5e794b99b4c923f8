-- What the rows of the code stand for.
use Rattle.std.specs.Prelude.{ℕ, suc, List, [], ◌∷◌, map, ◌==◌, ◌&&◌, Bool, false, not, Option, Some, None, option_map, if◌then◌else◌}
use Rattle.loom_law.specs.Control.{Holder}
use Rattle.loom_ops.specs.declared.rows.FilterRow.{FilterRow}
use Rattle.loom_plan.specs.declared.plan.OrderEvent.{OrderEvent}
use Rattle.loom_plan.specs.PlanView.{counted_of}
use Rattle.loom_ops.specs.declared.rows.HolderRow.{HolderRow}
use Rattle.loom_ops.specs.declared.rows.PostRow.{PostRow}
use Rattle.loom_ops.specs.Ops.{FilterLocks, PostTable, Ops, has_alone}

abbrev pub befores_of : List (Option OrderEvent) → List (Option (ℕ × ℕ))
befores_of rs = map (option_map counted_of) rs

abbrev pub locks_of : FilterRow → FilterLocks
locks_of r = record { number = r.number; alone = r.alone.items; befores = befores_of r.befores.items }

abbrev pub holder_of : HolderRow → Holder
holder_of r = record { filter = r.filter; clause = r.clause; thread = r.thread }

abbrev pub filters_of_rows : List FilterRow → List FilterLocks
filters_of_rows rs = map locks_of rs

abbrev pub holders_of_rows : List HolderRow → List Holder
holders_of_rows rs = map holder_of rs

abbrev pub table_of : PostRow → PostTable
table_of r = record { number = r.number; counts = r.counts }

abbrev pub tables_of : List PostRow → List PostTable
tables_of rs = map table_of rs

abbrev pub ops_of : List FilterRow → List HolderRow → List PostRow → Ops
ops_of fs hs ps = record { filters = filters_of_rows fs; holders = holders_of_rows hs; posts = tables_of ps }

-- how many tables stand before that of filter k; if it has none, before the end
abbrev pub table_index : List PostTable → ℕ → ℕ
table_index [] k = 0
table_index (t ∷ ts) k = if t.number == k then 0 else suc (table_index ts k)

-- the thread of the first one that holds the clause
abbrev pub first_holder : List Holder → ℕ → ℕ → Option ℕ
first_holder [] k c = None
first_holder (h ∷ hs) k c = if (h.filter == k) && (h.clause == c) then Some h.thread else first_holder hs k c

-- the thread of the first one that holds a clause that is `r <> *`
abbrev pub first_owner : List FilterLocks → List Holder → Option ℕ
first_owner fs [] = None
first_owner fs (h ∷ hs) = if has_alone fs h.filter h.clause then Some h.thread else first_owner fs hs

-- it is one, and not thread t
abbrev pub is_other : ℕ → Option ℕ → Bool
is_other t None = false
is_other t (Some u) = not (u == t)
