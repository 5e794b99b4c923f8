-- Lawful journals of a program with commands.
use Rattle.std.specs.Prelude.{ℕ, suc, map, take, length, ◌<◌, ◌≤◌, ◌≡◌, ◌⊎◌, ◌==◌, Bool, true, false, not, ◌&&◌, List, [], ◌∷◌, ◌++◌, Option, Some, None, if◌then◌else◌}
use Rattle.std.specs.List.{AllByRecursion, list_any, count_by}
use Rattle.loom_tree.specs.Tree.{Source}
use Rattle.loom_trace.specs.declared.entry.Entry.{Entry}
use Rattle.loom_trace.specs.declared.entry.Entry.TheVariants as e
use Rattle.loom_trace.specs.declared.entry.Ending.{Ending}
use Rattle.loom_trace.specs.declared.entry.Ending.TheVariants as k
use Rattle.loom_trace.specs.declared.entry.What.{What}
use Rattle.loom_trace.specs.declared.entry.What.TheVariants as w
use Rattle.loom_lang.specs.Places.{Place, nowhere, line_of_place}
use Rattle.loom_event.specs.TargetEvent.{TargetEvent, entry_of, targets}
use Rattle.loom_event.specs.Replay.{ThreadState, Store, start, thread_at, replay, IsDisabled, AllEnded}
use Rattle.loom_event.specs.Run.{AreRun}
use Rattle.loom_event.specs.Entries.{thread_of, thread_entries, last_of_thread, is_stopped, is_over, is_at_limit}
use Rattle.loom_law.specs.Filter.{Plan, numbers, is_alone, before_in, has}
use Rattle.loom_law.specs.Walk.{Version, Plans, PartStep, place_number}
use Rattle.loom_law.specs.ThreadPart.{Own, walk_of, IsPart, Point, IsPlaceOf, ComesTo, HasMoved, KeepsAway, IsInside}
use Rattle.loom_law.specs.FilterView.{IsClear, view_behind}
use Rattle.loom_law.specs.Paths.{IsUnsafe}
use Rattle.loom_command.specs.Script.{Trigger, at, stall}
use Rattle.loom_law.specs.Control.{Judgement, refused, means, Action, install, remove, Command, command_at, plans_of, have_one_name, Holder, Control, control, versions_of, entries_of, listed_places, since_asked, is_post, is_past}

-- what a run is judged by
pub record Setting : Type 0 where
  pub program : Source
  pub commands : List Command
  -- how many entries threads may make
  pub limit : ℕ
  -- how many threads there may be
  pub threads : ℕ
  -- the stop test, of the entries so far
  pub stop : List Entry → Bool

-- The end of a journal: its entries, the events that they tell, and what they say of commands.
pub record Front : Type 0 where
  pub entries : List Entry
  pub store : Store
  pub control : Control

abbrev pub front_of : Setting → List Entry → List TargetEvent → Front
front_of s es xs = record { entries = es; store = replay (start s.program s.threads) xs; control = control s.commands es }

-- the end of the front of a journal that tells these events
abbrev pub front_at : Setting → List TargetEvent → List Entry → Front
front_at s xs es = front_of s es (take (length (targets es)) xs)

-- what the filter of each command is in the program
abbrev pub plans : Setting → Plans
plans s = plans_of s.commands

-- Threads

-- what is the thread's own behind these entries
abbrev pub own : Setting → List Entry → ℕ → ThreadState → Own
own s es t x = record { thread = t; func = x.func; args = x.args; versions = versions_of s.commands t es; entries = entries_of t es }

-- its entries are those of a full part; a thread that wasn't spawned has none
abbrev pub HasPart : Setting → List Entry → ℕ → Option ThreadState → Type 0
HasPart s es t None = entries_of t es ≡ []
HasPart s es t (Some x) = IsPart s.program (plans s) (own s es t x)

-- the thread, if it has begun and not ended
abbrev pub running_thread : Option ThreadState → Option ThreadState
running_thread None = None
running_thread (Some x) = if x.begun && not x.ended then Some x else None

-- where a thread stands: at place 0 before its begin and behind its end
abbrev pub StandsAs : Setting → List Entry → ℕ → Option ThreadState → Place → Type 0
StandsAs s es t None y = y ≡ nowhere
StandsAs s es t (Some x) y = ComesTo s.program (plans s) (own s es t x) y

abbrev pub StandsAt : Setting → Front → ℕ → Place → Type 0
StandsAt s f t y = StandsAs s f.entries t (running_thread (thread_at f.store t)) y

-- the thread was spawned and hasn't ended
pub record Lives (s : Store) (t : ℕ) : Type 0 where
  pub state : ThreadState
  pub is : thread_at s t ≡ Some state
  pub not_ended : state.ended ≡ false

-- Disabled requests, and threads that can't go on

-- A wait for the event that follows this one lacks posts of it. `k` is the filter, and the pair has the event and its count.
abbrev pub Lacks : Front → ℕ → Option (ℕ × ℕ) → Type 0
Lacks f k None = ⊥
Lacks f k (Some a) = count_by (is_post k a.0) f.entries < a.1

-- another thread holds the clause
pub record IsHeldByOther (f : Front) (k c t : ℕ) : Type 0 where
  pub by : ℕ
  pub other : (by == t) ≡ false
  pub holds : list_any (λ (h : Holder). (h.filter == k) && ((h.clause == c) && (h.thread == by))) f.control.holders ≡ true

-- what the thread asks for can't be granted now
abbrev pub IsDisabledFor : Setting → Front → ℕ → What → Type 0
IsDisabledFor s f t (w.Enter k c) = IsHeldByOther f k c t
IsDisabledFor s f t (w.Wait k n) = Lacks f k (before_in n (Plan.rulings (plans s k)))
IsDisabledFor s f t what = IsDisabled f.store what

-- Another thread holds a unilateral clause.
pub record IsHeldOff (s : Setting) (f : Front) (t : ℕ) : Type 0 where
  pub filter : ℕ
  pub clause : ℕ
  pub alone : is_alone (plans s filter) clause ≡ true
  pub held : IsHeldByOther f filter clause t

-- its last entry is `Blocked`, for what is still disabled, and it owes no `Cross`
abbrev pub IsBlockedBy : Setting → Front → ℕ → Option Entry → Type 0
IsBlockedBy s f t (Some (e.Blocked u l what)) = IsDisabledFor s f t what × (listed_places t f.entries ≡ [])
IsBlockedBy s f t _ = ⊥

abbrev pub IsBlocked : Setting → Front → ℕ → Type 0
IsBlocked s f t = IsBlockedBy s f t (last_of_thread t None f.entries)

-- some thread lives, and each that lives is blocked or held off
pub record IsStalled (s : Setting) (f : Front) : Type 0 where
  pub live : ℕ
  pub lives : Lives f.store live
  pub stuck : (t : ℕ) → Lives f.store t → IsBlocked s f t ⊎ IsHeldOff s f t

-- Commands

-- how many filters may be installed
abbrev pub filter_limit : ℕ
filter_limit = 16

-- why a filter's text is refused, with its clause
abbrev pub text_refusal : Judgement → Option (ℕ × ℕ)
text_refusal (refused n c) = Some (n, c)
text_refusal (means f) = None

-- Why a command is refused, tested in this order. For an install: its name is in use (11), as many filters are installed as may be (14), its text. For
-- a removal: no filter has the name (12). `n` filters are installed.
abbrev pub refusal_of : Action → Bool → ℕ → Option (ℕ × ℕ)
refusal_of (install j) used n = if used then Some (11, 0) else (if n == filter_limit then Some (14, 0) else text_refusal j)
refusal_of remove used n = if used then None else Some (12, 0)

-- an installed filter has the name in the command
abbrev pub is_name_used : Setting → Control → ℕ → Bool
is_name_used s c k = list_any (λ j. have_one_name s.commands j k) c.version.active

abbrev pub refusal_in : Setting → Control → ℕ → Option Command → Option (ℕ × ℕ)
refusal_in s c k None = None
refusal_in s c k (Some x) = refusal_of x.action (is_name_used s c k) (length c.version.active)

abbrev pub refusal : Setting → Control → ℕ → Option (ℕ × ℕ)
refusal s c k = refusal_in s c k (command_at s.commands k)

-- the places that are flagged for a command: for an install all but the unsafe ones, for a removal all
abbrev pub IsFlaggedBy : Source → Option Command → Place → Type 0
IsFlaggedBy p None y = ⊥
IsFlaggedBy p (Some x) y = by_action x.action
  where
    by_action : Action → Type 0
    by_action (install (means f)) = (y ≡ nowhere) ⊎ (IsUnsafe p f y → ⊥)
    by_action (install (refused n c)) = ⊥
    by_action remove = Unit {0}

abbrev pub IsFlagged : Setting → ℕ → Place → Type 0
IsFlagged s k y = IsFlaggedBy s.program (command_at s.commands k) y

-- at least so many entries of threads stand, or the program is stalled
abbrev pub IsTriggered : Setting → Front → Trigger → Type 0
IsTriggered s f (at n) = n ≤ thread_entries f.entries
IsTriggered s f stall = IsStalled s f

abbrev pub run_is_over : Setting → Front → Bool
run_is_over s f = is_over s.limit s.stop f.entries

-- The next command is due: all earlier ones are answered, and its trigger holds. Once the end is chosen none is.
pub record IsDue (s : Setting) (f : Front) : Type 0 where
  pub command : Command
  pub is : command_at s.commands f.control.next ≡ Some command
  pub answered : f.control.asked ≡ None
  pub not_closing : f.control.closing ≡ false
  pub runs : run_is_over s f ≡ false
  pub triggered : IsTriggered s f command.trigger

-- The answers

-- At each point behind the thread's last entry at which it may stand at this place, the filter sees nothing of it.
abbrev pub SeesNothing : Setting → Own → Plan → Place → Type 0
SeesNothing s x g y = (h : Point s.program (plans s) x) → IsPlaceOf s.program (plans s) x h y → IsClear (view_behind s.program (plans s) g x.versions h.steps)

-- so it is with a thread that runs; of one that doesn't there is nothing to see
abbrev pub IsOutside : Setting → List Entry → ℕ → Option ThreadState → Plan → Place → Type 0
IsOutside s es t None g y = Unit {0}
IsOutside s es t (Some x) g y = SeesNothing s (own s es t x) g y

-- the row lists for each thread that there may be a flagged place at which it stands
pub record ListsPlaces (s : Setting) (f : Front) (k : ℕ) (row : List ℕ) : Type 0 where
  pub count : length row ≡ s.threads
  pub place : ℕ → Place
  pub are : row ≡ map (λ t. place_number s.program (place t)) (numbers 1 row)
  pub stands : (t : ℕ) → StandsAt s f t (place t)
  pub flagged : (t : ℕ) → IsFlagged s k (place t)

-- The command that was asked installs this filter: no thread is inside its regions, and no event of it is under way.
pub record MayInstall (s : Setting) (f : Front) (k v : ℕ) (row : List ℕ) : Type 0 where
  pub command : Command
  pub is : command_at s.commands k ≡ Some command
  pub plan : Plan
  pub installs : command.action ≡ install (means plan)
  pub asked : f.control.asked ≡ Some k
  pub not_refused : refusal s f.control k ≡ None
  pub version : v ≡ suc (Version.number f.control.version)
  pub lists : ListsPlaces s f k row
  pub outside : (t : ℕ) → IsOutside s f.entries t (running_thread (thread_at f.store t)) plan (lists.place t)

-- the command that was asked removes the filter of its name
pub record MayRemove (s : Setting) (f : Front) (k v : ℕ) (row : List ℕ) : Type 0 where
  pub command : Command
  pub is : command_at s.commands k ≡ Some command
  pub removes : command.action ≡ remove
  pub asked : f.control.asked ≡ Some k
  pub not_refused : refusal s f.control k ≡ None
  pub version : v ≡ suc (Version.number f.control.version)
  pub lists : ListsPlaces s f k row

-- Each live thread stands at a place that is flagged, or is blocked or held off; thread t is the lowest one at a place that isn't flagged.
pub record MayStall (s : Setting) (f : Front) (k t l : ℕ) : Type 0 where
  pub asked : f.control.asked ≡ Some k
  pub not_refused : refusal s f.control k ≡ None
  pub place : ℕ → Place
  pub stands : (u : ℕ) → Lives f.store u → StandsAt s f u (place u)
  pub waits : (u : ℕ) → Lives f.store u → IsFlagged s k (place u) ⊎ (IsBlocked s f u ⊎ IsHeldOff s f u)
  pub lives : Lives f.store t
  pub not_flagged : IsFlagged s k (place t) → ⊥
  pub lowest : (u : ℕ) → Lives f.store u → u < t → IsFlagged s k (place u)
  pub line : l ≡ line_of_place s.program (place t)

-- The end

-- tested in this order: stopped, limit, done, stuck
abbrev pub Ends : Setting → Front → Ending → Type 0
Ends s f k.Stopped = is_stopped s.stop f.entries ≡ true
Ends s f k.Limit = (is_stopped s.stop f.entries ≡ false) × (is_at_limit s.limit f.entries ≡ true)
Ends s f k.Done = (run_is_over s f ≡ false) × (AllEnded f.store × (IsDue s f → ⊥))
Ends s f k.Stuck = (run_is_over s f ≡ false) × (IsStalled s f × (IsDue s f → ⊥))

-- the run ends here
abbrev pub EndsSo : Setting → Front → Type 0
EndsSo s f = (kind : Ending) × Ends s f kind

-- Threads

-- No thread entry stands behind the end, nor where a command is due, nor where the command that was asked is refused.
pub record IsOpen (s : Setting) (f : Front) : Type 0 where
  pub runs : run_is_over s f ≡ false
  pub not_closing : f.control.closing ≡ false
  pub not_due : IsDue s f → ⊥
  pub not_refused : (k : ℕ) → f.control.asked ≡ Some k → refusal s f.control k ≡ None

abbrev pub is_cross : Entry → Bool
is_cross (e.Cross t l x v n) = true
is_cross _ = false

abbrev pub is_begin : Entry → Bool
is_begin (e.Begin t l) = true
is_begin _ = false

-- places are listed for the thread, and the entry isn't its first
abbrev pub owes_cross : Entry → List ℕ → Bool
owes_cross (e.Begin t l) places = false
owes_cross x [] = false
owes_cross x (y ∷ ys) = true

-- Between a command that is asked and its answer the thread keeps away from flagged places: it passed none of them since its last entry, and isn't
-- blocked at one.
pub record StaysAway (s : Setting) (x : Own) (k : ℕ) : Type 0 where
  pub steps : List PartStep
  pub moved : HasMoved s.program (plans s) x steps
  pub away : KeepsAway (IsFlagged s k) (walk_of s.program (plans s) x steps)

abbrev pub Parks : Setting → List Entry → ℕ → ℕ → Option ThreadState → Type 0
Parks s es k t None = ⊥
Parks s es k t (Some x) = StaysAway s (own s es t x) k

-- the thread is spawned with this entry
abbrev pub is_spawn_of : ℕ → Entry → Bool
is_spawn_of t (e.Spawn u l c g vs) = c == t
is_spawn_of t _ = false

abbrev pub has_any : List Entry → Bool
has_any [] = false
has_any (x ∷ xs) = true

-- Between `Asked` and the answer: so it is from the thread's second entry there on, and a thread that is spawned there makes no `Begin`.
abbrev pub IsParked : Setting → Front → ℕ → Entry → Option ℕ → Type 0
IsParked s f t x None = Unit {0}
IsParked s f t x (Some k) =
    (has_any (entries_of t (since_asked f.entries)) ≡ true → Parks s (f.entries ++ x ∷ []) k t (thread_at f.store t))
    × (is_begin x ≡ true → list_any (is_spawn_of t) (since_asked f.entries) ≡ false)

-- Behind the entries of the front the thread may make this one: the run is open, no other thread holds it off, it makes `Cross` exactly where it owes
-- one, and it keeps away from flagged places.
pub record MayMove (s : Setting) (f : Front) (t : ℕ) (x : Entry) : Type 0 where
  pub goes_on : IsOpen s f
  pub not_held_off : IsHeldOff s f t → ⊥
  pub crosses : is_cross x ≡ owes_cross x (listed_places t f.entries)
  pub parked : IsParked s f t x f.control.asked

-- An event of an order begins where the one before it was complete often enough, and a wait is over where it was posted so often.
abbrev pub HasCompletions : List Entry → ℕ → Option (ℕ × ℕ) → Type 0
HasCompletions es k None = Unit {0}
HasCompletions es k (Some a) = a.1 ≤ count_by (is_past k a.0) es

abbrev pub HasPosts : List Entry → ℕ → Option (ℕ × ℕ) → Type 0
HasPosts es k None = ⊥
HasPosts es k (Some a) = a.1 ≤ count_by (is_post k a.0) es

-- thread t holds clause n of filter k
abbrev pub is_held_by : Control → ℕ → ℕ → ℕ → Bool
is_held_by c k n t = list_any (λ (h : Holder). (h.filter == k) && ((h.clause == n) && (h.thread == t))) c.holders

abbrev pub is_installed : Control → ℕ → Bool
is_installed c k = has c.version.active k

-- What an entry of a thread asks of the entries before it: the place of a `Cross` is the one that was listed, what blocks a thread is disabled, a
-- clause that is entered is free, and orders are kept. Nothing else is asked: the thread's part gives the rest.
abbrev pub Permits : Setting → Front → Entry → Type 0
Permits s f (e.Cross t l x v n) = AllByRecursion (λ y. y ≡ x) (listed_places t f.entries)
Permits s f (e.Blocked t l what) = IsDisabledFor s f t what
Permits s f (e.Enter t l k c) = list_any (λ (h : Holder). (h.filter == k) && (h.clause == c)) f.control.holders ≡ false
Permits s f (e.Wait t l k n) = HasPosts f.entries k (before_in n (Plan.rulings (plans s k)))
Permits s f (e.At t l k ns) = AllByRecursion (λ n. HasCompletions f.entries k (before_in n (Plan.rulings (plans s k)))) ns
Permits s f _ = Unit {0}

-- Behind the entries of the front this control entry may stand, with `rest` behind it.
abbrev pub MayControl : Setting → Front → Entry → List Entry → Type 0
MayControl s f (e.Asked k) rest = IsDue s f × (k ≡ f.control.next)
MayControl s f (e.Refused k n c) rest = (f.control.asked ≡ Some k) × (refusal s f.control k ≡ Some (n, c))
MayControl s f (e.Installed k v row) rest = (run_is_over s f ≡ false) × MayInstall s f k v row
MayControl s f (e.Removed k v row) rest = (run_is_over s f ≡ false) × MayRemove s f k v row
MayControl s f (e.Stalled k t l) rest = (run_is_over s f ≡ false) × MayStall s f k t l
MayControl s f (e.Cut k) rest = (run_is_over s f ≡ true) × (f.control.asked ≡ Some k)
MayControl s f (e.Unreached k) rest = (f.control.asked ≡ None) × ((k ≡ f.control.next) × ((k ≤ length s.commands) × EndsSo s f))
MayControl s f (e.Finish kind) rest = (rest ≡ []) × ((f.control.asked ≡ None) × ((length s.commands < f.control.next) × Ends s f kind))
MayControl s f _ rest = ⊥

-- an entry of a thread, or of none
abbrev pub MayFollowBy : Setting → Front → Entry → List Entry → Option ℕ → Type 0
MayFollowBy s f x rest None = MayControl s f x rest
MayFollowBy s f x rest (Some t) = MayMove s f t x × Permits s f x

-- Behind the entries of the front this entry may stand, with `rest` behind it.
abbrev pub MayFollow : Setting → Front → Entry → List Entry → Type 0
MayFollow s f x rest = MayFollowBy s f x rest (thread_of x)

-- Filters are obeyed

-- the clause has a region in which the thread is
abbrev pub IsInsideIf : Setting → List Entry → ℕ → Option ThreadState → ℕ → ℕ → Type 0
IsInsideIf s es t None k c = ⊥
IsInsideIf s es t (Some x) k c = IsInside s.program (plans s) (own s es t x) k c

abbrev pub InsideAt : Setting → Front → ℕ → ℕ → ℕ → Type 0
InsideAt s f t k c = IsInsideIf s f.entries t (thread_at f.store t) k c

-- At the end of the front at most one thread is inside the regions of a clause, and where it is `r <> *` no other thread's entry stands there.
pub record IsObeyed (s : Setting) (f : Front) (x : Entry) : Type 0 where
  pub one : (k c t u : ℕ) → is_installed f.control k ≡ true → InsideAt s f t k c → InsideAt s f u k c → t ≡ u
  pub alone : (k c t u : ℕ) → is_installed f.control k ≡ true → is_alone (plans s k) c ≡ true → InsideAt s f t k c → thread_of x ≡ Some u → t ≡ u

-- Lawful journals

-- The journal is lawful for a program, a list of commands, a limit of thread entries, a number of threads and a stop test.
pub record IsLawful (s : Setting) (es : List Entry) : Type 0 where
  -- its target entries are a run of the program
  pub events : List TargetEvent
  pub tells : map entry_of events ≡ targets es
  pub run : AreRun s.program s.threads events
  -- each thread has its full part
  pub parts : (t : ℕ) → HasPart s es t (thread_at (replay (start s.program s.threads) events) t)
  -- each entry follows those before it
  pub follows : (front : List Entry) (x : Entry) (rest : List Entry) → es ≡ front ++ x ∷ rest → MayFollow s (front_at s events front) x rest
