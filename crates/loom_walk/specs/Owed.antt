-- What a thread owes where it is: a tick, `Back`, and then what each filter makes it do.
use Rattle.std.specs.Prelude.{ℕ, ◌≡◌, ◌⊎◌, Bool, true, false, not, List, [], ◌∷◌, ◌++◌, map, Option, Some, None, if◌then◌else◌}
use Rattle.std.specs.List.{filter}
use Rattle.loom_law.specs.Filter.{has}
use Rattle.loom_law.specs.FilterView.{is_empty}
use Rattle.loom_law.specs.Walk.{Operation, wait, enters, at, past, post, leave, back, tick, Queue}
use Rattle.loom_plan.specs.declared.operations.Before.{Before}
use Rattle.loom_plan.specs.declared.operations.Behind.{Behind}
use Rattle.loom_plan.specs.Sets.{event_numbers}
use Rattle.loom_plan.specs.Operations.{queue_before, queue_behind}
use Rattle.loom_walk.specs.declared.owed.OwedRow.{OwedRow}
use Rattle.loom_walk.specs.declared.owed.OwedTick.{OwedTick}
use Rattle.loom_walk.specs.declared.owed.OwedOperation.{OwedOperation}
use Rattle.loom_walk.specs.declared.owed.OwedOperation.TheVariants as o

-- `rows` has what filters make the thread do on this line, the last one first.
pub record Owed : Type 0 where
  pub line : ℕ
  pub tick : Option OwedTick
  pub back : Bool
  pub rows : List OwedRow

abbrev pub row_of : ℕ → Before → Behind → OwedRow
row_of k b d = record { filter = k; before = b; behind = d }

-- Queues

abbrev pub row_queue : ℕ → OwedRow → Queue → Queue
row_queue l r more = queue_before r.filter l r.before (queue_behind r.filter l r.behind more)

-- the operations of these rows, and `more` behind them
abbrev pub rows_queue : ℕ → List OwedRow → Queue → Queue
rows_queue l [] more = more
rows_queue l (r ∷ rs) more = rows_queue l rs (row_queue l r more)

abbrev pub back_queue : Bool → ℕ → Queue → Queue
back_queue true l more = (l, back) ∷ more
back_queue false l more = more

abbrev pub tick_queue : Option OwedTick → Queue → Queue
tick_queue None more = more
tick_queue (Some t) more = (t.line, tick t.place) ∷ more

abbrev pub queue : Owed → Queue
queue x = tick_queue x.tick (back_queue x.back x.line (rows_queue x.line x.rows []))

-- A row has something.

abbrev pub has_operations : OwedRow → Bool
has_operations r = not (is_empty (row_queue 0 r []))

abbrev pub HasOperations : OwedRow → Type 0
HasOperations r = has_operations r ≡ true

-- Changes of rows

-- these rows, and behind them this one, if it has something
abbrev pub with_row : List OwedRow → OwedRow → List OwedRow
with_row rs r = if has_operations r then rs ++ r ∷ [] else rs

-- those of these filters
abbrev pub rows_of : List ℕ → List OwedRow → List OwedRow
rows_of ks rs = filter (λ (r : OwedRow). has ks r.filter) rs

-- the filters of the rows
abbrev pub filters_owed : List OwedRow → List ℕ
filters_owed rs = map (λ (r : OwedRow). r.filter) rs

-- The second list has what the first has, and maybe this number behind it.
abbrev pub IsOrHasMore : List ℕ → ℕ → List ℕ → Type 0
IsOrHasMore xs k ys = (ys ≡ xs) ⊎ (ys ≡ xs ++ k ∷ [])

-- Operations

-- an operation that is owed, as the law of journals has it
abbrev pub operation_of : OwedOperation → Operation
operation_of (o.Tick place) = tick place
operation_of o.Back = back
operation_of (o.Wait k n) = wait k n
operation_of (o.Enter k c) = enters k c
operation_of (o.At k ns) = at k (event_numbers ns)
operation_of (o.Past k ns) = past k (event_numbers ns)
operation_of (o.Post k n) = post k n
operation_of (o.Leave k c) = leave k c

-- the first operation of a queue, with its line
abbrev pub IsFirstOf : Queue → Option (ℕ × OwedOperation) → Type 0
IsFirstOf [] None = Unit {0}
IsFirstOf (x ∷ xs) (Some y) = x ≡ (y.0, operation_of y.1)
IsFirstOf _ _ = ⊥

-- The first operation was taken out, if there is one: of what filter k makes a thread do at a beginning, behind it, and of a row.
abbrev pub TakesBefore : ℕ → Before → Before → Option OwedOperation → Type 0
TakesBefore k old new None = (l : ℕ) (more : Queue) → (queue_before k l old more ≡ more) × (queue_before k l new more ≡ more)
TakesBefore k old new (Some x) = (l : ℕ) (more : Queue) → queue_before k l old more ≡ (l, operation_of x) ∷ queue_before k l new more

abbrev pub TakesBehind : ℕ → Behind → Behind → Option OwedOperation → Type 0
TakesBehind k old new None = (l : ℕ) (more : Queue) → queue_behind k l old more ≡ more
TakesBehind k old new (Some x) = (l : ℕ) (more : Queue) → queue_behind k l old more ≡ (l, operation_of x) ∷ queue_behind k l new more

abbrev pub TakesOperation : OwedRow → OwedRow → Option OwedOperation → Type 0
TakesOperation old new None = (l : ℕ) (more : Queue) → row_queue l old more ≡ more
TakesOperation old new (Some x) = (l : ℕ) (more : Queue) → row_queue l old more ≡ (l, operation_of x) ∷ row_queue l new more
