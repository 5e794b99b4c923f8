-- Which thread made an entry, how many entries threads made, and where a run is over.
use Rattle.std.specs.Prelude.{ℕ, suc, ◌≡◌, ◌==◌, Bool, true, false, ◌||◌, List, [], ◌∷◌, ◌++◌, Option, Some, None, if◌then◌else◌}
use Rattle.loom_trace.specs.declared.entry.Entry.{Entry}
use Rattle.loom_trace.specs.declared.entry.Entry.TheVariants as e
use Rattle.loom_trace.specs.declared.entry.Ending.{Ending}

-- the thread that made an entry; control entries are made by none
abbrev pub thread_of : Entry → Option ℕ
thread_of (e.Begin t l) = Some t
thread_of (e.End t l) = Some t
thread_of (e.Trap t l r) = Some t
thread_of (e.Read t l x v) = Some t
thread_of (e.Write t l x v) = Some t
thread_of (e.Lock t l m) = Some t
thread_of (e.Unlock t l m) = Some t
thread_of (e.Down t l s) = Some t
thread_of (e.Up t l s) = Some t
thread_of (e.Spawn t l c f vs) = Some t
thread_of (e.Join t l c) = Some t
thread_of (e.Print t l v) = Some t
thread_of (e.Tick t l p) = Some t
thread_of (e.Blocked t l x) = Some t
thread_of (e.At t l k ns) = Some t
thread_of (e.Past t l k ns) = Some t
thread_of (e.Back t l) = Some t
thread_of (e.Enter t l k c) = Some t
thread_of (e.Leave t l k c) = Some t
thread_of (e.Post t l k n) = Some t
thread_of (e.Wait t l k n) = Some t
thread_of (e.Cross t l p v n) = Some t
thread_of _ = None

abbrev pub is_some_thread : Option ℕ → Bool
is_some_thread None = false
is_some_thread (Some t) = true

abbrev pub is_thread : ℕ → Option ℕ → Bool
is_thread t None = false
is_thread t (Some u) = u == t

-- how many entries threads made
abbrev pub thread_entries : List Entry → ℕ
thread_entries [] = 0
thread_entries (x ∷ xs) = if is_some_thread (thread_of x) then suc (thread_entries xs) else thread_entries xs

-- the last entry of this thread; `so_far` is the one that stands before the list
abbrev pub last_of_thread : ℕ → Option Entry → List Entry → Option Entry
last_of_thread t so_far [] = so_far
last_of_thread t so_far (x ∷ xs) = last_of_thread t (if is_thread t (thread_of x) then Some x else so_far) xs

-- The end of a run

-- What a stop test answers behind the last entry of a thread: it is asked with all entries up to that one. `so_far` stands before the list, and
-- `answer` is what the test said there.
abbrev pub stops_behind : (List Entry → Bool) → List Entry → Bool → List Entry → Bool
stops_behind stop so_far answer [] = answer
stops_behind stop so_far answer (x ∷ xs) =
    stops_behind stop (so_far ++ x ∷ []) (if is_some_thread (thread_of x) then stop (so_far ++ x ∷ []) else answer) xs

abbrev pub is_stopped : (List Entry → Bool) → List Entry → Bool
is_stopped stop front = stops_behind stop [] false front

abbrev pub is_at_limit : ℕ → List Entry → Bool
is_at_limit limit front = thread_entries front == limit

-- no thread entry follows: the run is stopped, or has as many thread entries as it may
abbrev pub is_over : ℕ → (List Entry → Bool) → List Entry → Bool
is_over limit stop front = is_stopped stop front || is_at_limit limit front

-- The journal is finished: its last entry is `Finish`.
pub record IsFinished (es : List Entry) (kind : Ending) : Type 0 where
  pub front : List Entry
  pub is : es ≡ front ++ e.Finish kind ∷ []
