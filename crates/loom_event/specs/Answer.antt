-- What answers a thread's request, and the numbers that a request may have.
use Rattle.std.specs.Prelude.{ℕ, ◌==◌, ◌≡◌, ◌<◌, ◌⊎◌, Bool, true, false, length, List, ℤ, pos, negsuc, Option, Some, None, slice_get, if◌then◌else◌}
use Rattle.loom_tree.specs.Tree.{Function, Source}
use Rattle.loom_lang.specs.Rules.{cell_count}
use Rattle.loom_lang.specs.Trace.{Cause, division, index, not_held, not_spawned, threads, frames, overflow, Act, begin, end, trap, read, write, lock, unlock, down, up, spawn, join, print}
use Rattle.loom_lang.specs.Acts.{Deed}
use Rattle.loom_trace.specs.declared.entry.Entry.{Entry}
use Rattle.loom_trace.specs.declared.entry.Entry.TheVariants as e
use Rattle.loom_trace.specs.declared.entry.What.{What}
use Rattle.loom_trace.specs.declared.entry.What.TheVariants as what
use Rattle.loom_trace.specs.declared.request.Request.{Request}
use Rattle.loom_trace.specs.declared.request.Request.TheVariants as r
use Rattle.loom_event.specs.TargetEvent.{entry_by}

abbrev pub asks_begin : Request → Bool
asks_begin (r.Begin l) = true
asks_begin _ = false

abbrev pub deed : ℕ → Act → Option Deed
deed line a = Some (record { line = line; act = a })

-- What grants a request, and gives it this value: what a read finds, or how a spawned thread is numbered; it is of no account for the others.
abbrev pub grant_deed : Request → ℤ → Option Deed
grant_deed (r.Begin l) v = deed l begin
grant_deed (r.End l) v = deed l end
grant_deed (r.Trap l n) v = None
grant_deed (r.Read l w) v = deed l (read w v)
grant_deed (r.Write l w u) v = deed l (write w u)
grant_deed (r.Lock l m) v = deed l (lock m)
grant_deed (r.Unlock l m) v = deed l (unlock m)
grant_deed (r.Down l s) v = deed l (down s)
grant_deed (r.Up l s) v = deed l (up s)
grant_deed (r.Spawn l f vs) (pos c) = deed l (spawn c f vs)
grant_deed (r.Spawn l f vs) (negsuc c) = None
grant_deed (r.Join l (pos c)) v = deed l (join c)
grant_deed (r.Join l (negsuc c)) v = None
grant_deed (r.Print l u) v = deed l (print u)
grant_deed _ v = None

-- the traps that a thread finds by itself
abbrev pub cause_of : ℕ → Option Cause
cause_of n = if n == 1 then Some division else (if n == 2 then Some index else (if n == 6 then Some frames else None))

abbrev pub trap_at : ℕ → Option Cause → Option Deed
trap_at line None = None
trap_at line (Some c) = deed line (trap c)

-- The trap that stands in a request's place: the thread's own, or one of the store.
abbrev pub trap_deed : Request → Option Deed
trap_deed (r.Begin l) = None
trap_deed (r.End l) = None
trap_deed (r.Trap l n) = trap_at l (cause_of n)
trap_deed (r.Read l w) = None
trap_deed (r.Write l w u) = None
trap_deed (r.Lock l m) = None
trap_deed (r.Unlock l m) = deed l (trap (not_held m))
trap_deed (r.Down l s) = None
trap_deed (r.Up l s) = deed l (trap (overflow s))
trap_deed (r.Spawn l f vs) = deed l (trap threads)
trap_deed (r.Join l u) = deed l (trap (not_spawned u))
trap_deed (r.Print l u) = None
trap_deed _ = None

-- The deed grants the request, with some value, or it is the trap that may stand in its place.
abbrev pub IsAnswered : Request → Deed → Type 0
IsAnswered q d = ((v : ℤ) × (grant_deed q v ≡ Some d)) ⊎ (trap_deed q ≡ Some d)

-- the request on a line for which a thread may be blocked, where no filter makes it ask
abbrev pub request_for : ℕ → What → Option Request
request_for l (what.Lock m) = Some (r.Lock l m)
request_for l (what.Down k) = Some (r.Down l k)
request_for l (what.Join c) = Some (r.Join l (pos c))
request_for l (what.Enter k c) = None
request_for l (what.Wait k n) = None

-- the entry of what a thread did
abbrev pub IsEntryOf : ℕ → Option Deed → Entry → Type 0
IsEntryOf t None x = ⊥
IsEntryOf t (Some d) x = x ≡ entry_by t d.line d.act

-- The entry grants the request of thread `t`, with some value.
abbrev pub IsGrantOf : ℕ → Request → Entry → Type 0
IsGrantOf t q x = (v : ℤ) × IsEntryOf t (grant_deed q v) x

-- The entry answers the request of thread `t`: it grants the request, or it is the trap that may stand in its place. What no act is asked for is
-- told as it stands.
abbrev pub IsAnswerTo : ℕ → Request → Entry → Type 0
IsAnswerTo t (r.Tick l k) x = x ≡ e.Tick t l k
IsAnswerTo t (r.At l k ns) x = x ≡ e.At t l k ns
IsAnswerTo t (r.Past l k ns) x = x ≡ e.Past t l k ns
IsAnswerTo t (r.Back l) x = x ≡ e.Back t l
IsAnswerTo t (r.Enter l k c) x = x ≡ e.Enter t l k c
IsAnswerTo t (r.Leave l k c) x = x ≡ e.Leave t l k c
IsAnswerTo t (r.Post l k n) x = x ≡ e.Post t l k n
IsAnswerTo t (r.Wait l k n) x = x ≡ e.Wait t l k n
IsAnswerTo t (r.Cross l y v n) x = x ≡ e.Cross t l y v n
IsAnswerTo t q x = IsGrantOf t q x ⊎ IsEntryOf t (trap_deed q) x

-- The entry tells thread `t` that its request is disabled. Only what waits for a mutex, a semaphore or a thread can be.
abbrev pub IsBlockedFor : ℕ → Request → Entry → Type 0
IsBlockedFor t (r.Lock l m) x = x ≡ e.Blocked t l (what.Lock m)
IsBlockedFor t (r.Down l s) x = x ≡ e.Blocked t l (what.Down s)
IsBlockedFor t (r.Join l (pos c)) x = x ≡ e.Blocked t l (what.Join c)
IsBlockedFor t _ x = ⊥

-- The same, also of what filters make a thread ask for: it may have to wait for a clause, or for a post.
abbrev pub IsBlockedAt : ℕ → Request → Entry → Type 0
IsBlockedAt t (r.Enter l k c) x = x ≡ e.Blocked t l (what.Enter k c)
IsBlockedAt t (r.Wait l k n) x = x ≡ e.Blocked t l (what.Wait k n)
IsBlockedAt t q x = IsBlockedFor t q x

-- the function of this number has as many parameters
abbrev pub IsFunctionWith : Source → ℕ → List ℤ → Type 0
IsFunctionWith p f vs = (g : Function) × (slice_get p.funcs f ≡ Some g) × (length vs ≡ length g.params)

-- It is asked for because of a filter or a version, and the store has no part in it.
abbrev pub asks_operation : Request → Bool
asks_operation (r.At l k ns) = true
asks_operation (r.Past l k ns) = true
asks_operation (r.Back l) = true
asks_operation (r.Enter l k c) = true
asks_operation (r.Leave l k c) = true
asks_operation (r.Post l k n) = true
asks_operation (r.Wait l k n) = true
asks_operation (r.Cross l y v n) = true
asks_operation _ = false

-- The numbers of a request are those of the program, and a trap is one that a thread finds by itself. A store is asked for no other requests.
abbrev pub HasNumbers : Source → Request → Type 0
HasNumbers p (r.Trap l n) = (n ≡ 1) ⊎ ((n ≡ 2) ⊎ (n ≡ 6))
HasNumbers p (r.Read l w) = w < cell_count p.words
HasNumbers p (r.Write l w v) = w < cell_count p.words
HasNumbers p (r.Lock l m) = m < length p.mutexes
HasNumbers p (r.Unlock l m) = m < length p.mutexes
HasNumbers p (r.Down l s) = s < length p.semas
HasNumbers p (r.Up l s) = s < length p.semas
HasNumbers p (r.Spawn l f vs) = IsFunctionWith p f vs
HasNumbers p (r.At l k ns) = ⊥
HasNumbers p (r.Past l k ns) = ⊥
HasNumbers p (r.Back l) = ⊥
HasNumbers p (r.Enter l k c) = ⊥
HasNumbers p (r.Leave l k c) = ⊥
HasNumbers p (r.Post l k n) = ⊥
HasNumbers p (r.Wait l k n) = ⊥
HasNumbers p (r.Cross l y v n) = ⊥
HasNumbers p _ = Unit {0}
