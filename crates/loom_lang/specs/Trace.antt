-- Marked traces: what one thread may make, whatever its reads give.
--
-- A part of a program stands for the lists of items that it may give, each part with what comes behind it.
use Rattle.std.specs.Prelude.{slice_get, ℕ, zero, suc, ◌+◌, ◌≡◌, ◌⊎◌, ◌==◌, List, [], ◌∷◌, ◌++◌, ℤ, pos, negsuc, Option, Some, None, Bool, true, false, nat_lt, ◌&&◌, if◌then◌else◌, map}
use Rattle.std.specs.Cmp.Lexicographic.{pointwise}
use Rattle.loom_tree.specs.declared.expression.Op.{Op}
use Rattle.loom_tree.specs.Tree.{Expression, num, var, cell, neg, inverse, bin, Right, Simple, let_, set, set_cell, return, Body, simple, if_, while_, Function, Source}
use Rattle.loom_tree.specs.Tree as tree
use Rattle.loom_lang.specs.Rules.{lets}
use Rattle.loom_lang.specs.Numbers.{Cells, cells_named, mutex_number, sema_number, function_number}
use Rattle.loom_lang.specs.Values.{is_zero, op_value, divides, negated, inverted}

-- the locals of a frame and their values
abbrev pub Locals : Type 0
Locals = List (List ℕ × ℤ)

-- why a thread traps: a divisor of 0, an index outside its array, `unlock` of a mutex, `join` of a value, a `spawn`,
-- a call, `up` of a semaphore
pub data Cause : Type 0 where
  division : Cause
  index : Cause
  not_held : ℕ → Cause
  not_spawned : ℤ → Cause
  threads : Cause
  frames : Cause
  overflow : ℕ → Cause

-- the number of a cause in the journal
abbrev pub reason : Cause → ℕ
reason division = 1
reason index = 2
reason (not_held m) = 3
reason (not_spawned v) = 4
reason threads = 5
reason frames = 6
reason (overflow s) = 7

-- what a thread does that the journal tells
pub data Act : Type 0 where
  begin : Act
  end : Act
  trap : Cause → Act
  read : ℕ → ℤ → Act
  write : ℕ → ℤ → Act
  lock : ℕ → Act
  unlock : ℕ → Act
  down : ℕ → Act
  up : ℕ → Act
  -- the new thread, its function and its arguments
  spawn : ℕ → ℕ → List ℤ → Act
  join : ℕ → Act
  print : ℤ → Act

-- an act with its line, or a mark
pub data Item : Type 0 where
  made : ℕ → Act → Item
  -- the statement of this line begins, with the locals at that moment
  begins : ℕ → Locals → Item
  -- it is complete
  done : ℕ → Item
  -- the back edge of the loop of this line
  edge : ℕ → Item
  -- a frame of the function of this number begins, with its locals at that moment, and ends
  enter : ℕ → Locals → Item
  out : ℕ → Item

-- A list is whole, or breaks off somewhere.
pub data Outcome : Type 0 where
  Finished : Outcome
  Open : Outcome

abbrev pub Lists : Type 1
Lists = List Item → Outcome → Type 0

-- nothing follows, and the list isn't whole
abbrev pub broken : Lists
broken es r = (es ≡ []) × (r ≡ Open)

-- nothing follows
abbrev pub finished : Lists
finished es r = (es ≡ []) × ((r ≡ Finished) ⊎ (r ≡ Open))

-- the list breaks off, or this item stands there and more behind it
abbrev pub emit : Item → Lists → Lists
emit i more es r = broken es r ⊎ ((fs : List Item) × (es ≡ i ∷ fs) × more fs r)

abbrev pub any : {A : Type 0} → (A → Lists) → Lists
any {A = A} f es r = (v : A) × f v es r

abbrev pub choice : Bool → Lists → Lists → Lists
choice true first second = first
choice false first second = second

abbrev pub either : Lists → Lists → Lists
either first second es r = first es r ⊎ second es r

-- What holds throughout a thread: its program, and what comes behind a trap.
pub record Thread : Type 1 where
  pub program : Source
  pub stopped : Lists

abbrev pub trap_lists : Thread → ℕ → Cause → Lists
trap_lists t line c = emit (made line (trap c)) t.stopped

-- with the number of a name; in a program each name has one
abbrev pub numbered : Option ℕ → (ℕ → Lists) → Lists
numbered None more = broken
numbered (Some n) more = more n

-- Expressions

abbrev pub value_in : Locals → List ℕ → Option ℤ
value_in [] x = None
value_in (p ∷ env) x = if pointwise ◌==◌ p.0 x then Some p.1 else value_in env x

-- A read may give any value.
abbrev pub reading : ℕ → ℕ → (ℤ → Lists) → Lists
reading line w more = any (λ v. emit (made line (read w v)) (more v))

abbrev pub reading_word : ℕ → Option Cells → (ℤ → Lists) → Lists
reading_word line None more = broken
reading_word line (Some c) more = reading line c.first more

-- a local, or else a word
abbrev pub variable : Thread → ℕ → Option ℤ → List ℕ → (ℤ → Lists) → Lists
variable t line (Some v) x more = more v
variable t line None x more = reading_word line (cells_named t.program x) more

-- with the number of an array's cell, where the index is one of the array
abbrev pub within : Thread → ℕ → ℕ → Option ℕ → ℤ → (ℕ → Lists) → Lists
within t line first None v more = broken
within t line first (Some n) (pos i) more = choice (nat_lt i n) (more (first + i)) (trap_lists t line index)
within t line first (Some n) (negsuc i) more = trap_lists t line index

abbrev pub at_index : Thread → ℕ → Option Cells → ℤ → (ℕ → Lists) → Lists
at_index t line None v more = broken
at_index t line (Some c) v more = within t line c.first c.count v more

-- a division by 0 traps
abbrev pub operated : Thread → ℕ → Op → ℤ → ℤ → (ℤ → Lists) → Lists
operated t line o a b more = choice (divides o && is_zero b) (trap_lists t line division) (more (op_value o a b))

-- operands from left to right, both sides of each operator
abbrev pub expression : Thread → ℕ → Locals → Expression → (ℤ → Lists) → Lists
expression t line env (num n) more = more n
expression t line env (var x) more = variable t line (value_in env x) x more
expression t line env (cell x i) more = expression t line env i (λ v. at_index t line (cells_named t.program x) v (λ w. reading line w more))
expression t line env (neg a) more = expression t line env a (λ v. more (negated v))
expression t line env (inverse a) more = expression t line env a (λ v. more (inverted v))
expression t line env (bin o a b) more = expression t line env a (λ v. expression t line env b (λ w. operated t line o v w more))

abbrev pub each_argument : Thread → ℕ → Locals → List Expression → (List ℤ → Lists) → Lists
each_argument t line env [] more = more []
each_argument t line env (e ∷ es) more = expression t line env e (λ v. each_argument t line env es (λ vs. more (v ∷ vs)))

-- Statements

-- a call on this line, of the function of this number
abbrev pub Calls : Type 1
Calls = ℕ → ℕ → List ℤ → (ℤ → Lists) → Lists

abbrev pub right : Thread → Calls → ℕ → Locals → Right Expression → (ℤ → Lists) → Lists
right t calls line env (Right.value e) more = expression t line env e more
right t calls line env (Right.call f es) more = each_argument t line env es (λ vs. numbered (function_number t.program f) (λ n. calls line n vs more))
right t calls line env (Right.spawn f es) more =
    each_argument t line env es (λ vs. numbered (function_number t.program f) (λ n.
    either (trap_lists t line threads) (any (λ c. emit (made line (spawn c n vs)) (more (pos c))))))

abbrev pub updated : Locals → List ℕ → ℤ → Locals
updated [] x v = []
updated (p ∷ env) x v = if pointwise ◌==◌ p.0 x then (p.0, v) ∷ env else p ∷ updated env x v

abbrev pub writing_word : ℕ → Option Cells → ℤ → Lists → Lists
writing_word line None v more = broken
writing_word line (Some c) v more = emit (made line (write c.first v)) more

-- Locals are written privately, a word by an entry.
abbrev pub stored : Thread → ℕ → Locals → Option ℤ → List ℕ → ℤ → (Locals → Lists) → Lists
stored t line env (Some old) x v more = more (updated env x v)
stored t line env None x v more = writing_word line (cells_named t.program x) v (more env)

-- `join` needs a thread's number
abbrev pub join_of : Thread → ℕ → ℤ → Lists → Lists
join_of t line (pos c) more = either (trap_lists t line (not_spawned (pos c))) (emit (made line (join c)) more)
join_of t line (negsuc c) more = trap_lists t line (not_spawned (negsuc c))

-- Where the store decides whether a statement traps, both its entry and the trap are allowed.
abbrev pub effect : Thread → Calls → ℕ → Locals → Simple Expression → (ℤ → Lists) → (Locals → Lists) → Lists
effect t calls line env (let_ x r) ret more = right t calls line env r (λ v. stored t line env (value_in env x) x v more)
effect t calls line env (set x r) ret more = right t calls line env r (λ v. stored t line env (value_in env x) x v more)
effect t calls line env (set_cell x i e) ret more =
    expression t line env i (λ a. expression t line env e (λ v. at_index t line (cells_named t.program x) a (λ w. emit (made line (write w v)) (more env))))
effect t calls line env (Simple.call f es) ret more = each_argument t line env es (λ vs. numbered (function_number t.program f) (λ n. calls line n vs (λ v. more env)))
effect t calls line env (return None) ret more = emit (done line) (ret (pos 0))
effect t calls line env (return (Some e)) ret more = expression t line env e (λ v. emit (done line) (ret v))
effect t calls line env (tree.lock x) ret more = numbered (mutex_number t.program x) (λ m. emit (made line (lock m)) (more env))
effect t calls line env (tree.unlock x) ret more = numbered (mutex_number t.program x) (λ m. either (trap_lists t line (not_held m)) (emit (made line (unlock m)) (more env)))
effect t calls line env (tree.down x) ret more = numbered (sema_number t.program x) (λ s. emit (made line (down s)) (more env))
effect t calls line env (tree.up x) ret more = numbered (sema_number t.program x) (λ s. either (trap_lists t line (overflow s)) (emit (made line (up s)) (more env)))
effect t calls line env (tree.join e) ret more = expression t line env e (λ v. join_of t line v (more env))
effect t calls line env (tree.print e) ret more = expression t line env e (λ v. emit (made line (print v)) (more env))
effect t calls line env tree.skip ret more = more env

-- by whether a condition isn't 0
abbrev pub chosen : ℤ → Lists → Lists → Lists
chosen v first second = choice (is_zero v) second first

-- A loop that makes at most so many turns, and is broken off behind them.
abbrev pub turns : ℕ → (Locals → (Locals → Lists) → (Locals → Lists) → Lists) → (Locals → Lists) → Locals → Lists
turns zero turn more env = broken
turns (suc n) turn more env = turn env (λ env'. turns n turn more env') more

-- `ret` is what comes behind a `return`, which completes its own statement and none round it.
abbrev pub body : Thread → Calls → ℕ → Locals → Body → (ℤ → Lists) → (Locals → Lists) → Lists
body t calls n env tree.end ret more = more env
body t calls n env (simple l s rest) ret more =
    emit (begins l env) (effect t calls l env s ret (λ env'. emit (done l) (body t calls n env' rest ret more)))
body t calls n env (if_ l e a b rest) ret more =
    emit (begins l env) (expression t l env e (λ v.
    chosen v
    (body t calls n env a ret (λ env'. emit (done l) (body t calls n env' rest ret more)))
    (body t calls n env b ret (λ env'. emit (done l) (body t calls n env' rest ret more)))))
body t calls n env (while_ l e a rest) ret more =
    emit (begins l env) (turns n
    (λ env' again leave. expression t l env' e (λ v. chosen v (body t calls n env' a ret (λ env''. emit (edge l) (again env''))) (leave env')))
    (λ env'. emit (done l) (body t calls n env' rest ret more))
    env)

-- Frames and threads

-- the parameters with the arguments
abbrev pub bound : List (List ℕ) → List ℤ → Locals
bound [] vs = []
bound (x ∷ xs) [] = (x, pos 0) ∷ bound xs []
bound (x ∷ xs) (v ∷ vs) = (x, v) ∷ bound xs vs

-- Locals begin with 0.
abbrev pub frame_locals : Function → List ℤ → Locals
frame_locals f vs = bound f.params vs ++ map (λ x. (x, pos 0)) (lets f.body)

abbrev pub framed : Thread → Calls → ℕ → ℕ → List ℤ → (ℤ → Lists) → Option Function → Lists
framed t deeper n f vs more None = broken
framed t deeper n f vs more (Some g) =
    emit (enter f (frame_locals g vs)) (body t deeper n (frame_locals g vs) g.body (λ v. emit (out f) (more v)) (λ env. emit (out f) (more (pos 0))))

-- Calls, where so many frames more fit: the next one traps.
abbrev pub calls_to : Thread → ℕ → ℕ → Calls
calls_to t n zero line f vs more = trap_lists t line frames
calls_to t n (suc d) line f vs more = framed t (calls_to t n d) n f vs more (slice_get t.program.funcs f)

abbrev pub frame_limit : ℕ
frame_limit = 256

abbrev pub thread_end : ℕ → Lists
thread_end line = emit (made line end) finished

abbrev pub thread : Source → Option Function → ℕ → List ℤ → ℕ → Lists
thread p None f vs n = broken
thread p (Some g) f vs n =
    emit (made g.line begin) (calls_to (record { program = p; stopped = thread_end g.line }) n frame_limit g.line f vs (λ v. thread_end g.line))

-- These items are a trace of a thread of this function with these arguments, whole or broken off.
pub record IsTrace (p : Source) (f : ℕ) (vs : List ℤ) (items : List Item) (r : Outcome) : Type 0 where
  -- no loop makes more turns
  pub most_turns : ℕ
  pub gives : thread p (slice_get p.funcs f) f vs most_turns items r
