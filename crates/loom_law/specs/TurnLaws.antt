-- From what a thread asks for to one more entry of a lawful journal.
use Rattle.std.specs.Prelude.{ℕ, ◌≡◌, ◌++◌, ◌∷◌, Bool, false, true, List, [], Some}
use Rattle.std.specs.List.{list_any}
use Rattle.loom_tree.specs.Tree.{Source}
use Rattle.loom_trace.specs.declared.entry.Entry.{Entry}
use Rattle.loom_trace.specs.declared.entry.Entry.TheVariants as e
use Rattle.loom_trace.specs.declared.entry.What.{What}
use Rattle.loom_trace.specs.declared.request.Request.{Request}
use Rattle.loom_lang.specs.Trace.{made}
use Rattle.loom_lang.specs.Acts.{Deed, IsAlike}
use Rattle.loom_event.specs.Answer.{IsAnswered, IsBlockedFor}
use Rattle.loom_event.specs.TargetEvent.{TargetEvent, event_of_deed, entry_by}
use Rattle.loom_event.specs.Replay.{ThreadState, start, thread_at, replay, IsAllowed}
use Rattle.loom_law.specs.Walk.{Plans, Operation, cross, blocked, goes, makes, entry_of_operation}
use Rattle.loom_law.specs.Walk as walk
use Rattle.loom_law.specs.ThreadPart.{Own, walk_of, KeepsAway, with_entry, AsksToMake, AsksToCross, AsksToAct}
use Rattle.loom_law.specs.Control.{Control, control, listed_places, since_asked, entries_of}
use Rattle.loom_law.specs.Lawful.{Setting, front_of, plans, own, IsFlagged, IsHeldOff, IsOpen, is_cross, owes_cross, is_begin, is_spawn_of, has_any, StaysAway, Permits, IsLawful}
use Rattle.loom_law.specs.Laws.{IsUnfinished, own_with, MayTurn}

-- Behind the entries and events so far thread t asks for an act, the store allows this answer, and nothing keeps the thread from making it.
pub record MayAnswer (s : Setting) (es : List Entry) (xs : List TargetEvent) (t : ℕ) (q : Request) (d : Deed) : Type 0 where
  pub state : ThreadState
  pub there : thread_at (replay (start s.program s.threads) xs) t ≡ Some state
  pub asks : AsksToAct s.program (plans s) (own s es t state) q
  pub answer : IsAnswered q d
  pub allowed : IsAllowed (replay (start s.program s.threads) xs) (event_of_deed t d)
  pub goes_on : IsOpen s (front_of s es xs)
  pub not_held_off : IsHeldOff s (front_of s es xs) t → ⊥
  pub no_cross : owes_cross (entry_by t d.line d.act) (listed_places t es) ≡ false
  -- the thread keeps away from the places that are flagged for the command that was asked
  pub away : (k : ℕ) → Control.asked (control s.commands es) ≡ Some k → has_any (entries_of t (since_asked es)) ≡ true
      → KeepsAway (IsFlagged s k) (walk_of s.program (plans s) (own s es t state) asks.steps)
  pub no_begin : (k : ℕ) → Control.asked (control s.commands es) ≡ Some k → is_begin (entry_by t d.line d.act) ≡ true
      → list_any (is_spawn_of t) (since_asked es) ≡ false

-- So it may make that turn: the steps before it are those with which it asks.
abbrev pub HasAnswers : Type 0
HasAnswers = (s : Setting) (es : List Entry) (h : IsLawful s es) (t : ℕ) (q : Request) (d : Deed) (m : MayAnswer s es h.events t q d)
    → (turn : MayTurn s es h.events t (entry_by t d.line d.act) (goes (made d.line d.act)))
    × ((turn.state ≡ m.state) × (turn.before ≡ m.asks.steps))

-- And the journal with the answer is lawful.
abbrev pub HasAnswerTurns : Type 0
HasAnswerTurns = (s : Setting) (es : List Entry) (h : IsLawful s es) → IsUnfinished es → (t : ℕ) (q : Request) (d : Deed) → MayAnswer s es h.events t q d
    → (h' : IsLawful s (es ++ entry_by t d.line d.act ∷ [])) × (h'.events ≡ h.events ++ event_of_deed t d ∷ [])

-- The thread asks to make an operation: for `Cross` with the newest version.
abbrev pub AsksToDo : Setting → List Entry → Own → ℕ → Operation → Type 0
AsksToDo s es x l (cross y n m) =
    (n ≡ walk.Version.number (Control.version (control s.commands es))) × AsksToCross s.program (plans s) x l y m (Control.version (control s.commands es))
AsksToDo s es x l o = AsksToMake s.program (plans s) x l o

-- Behind the entries and events so far thread t asks to make an operation, and nothing keeps it from making it.
pub record MayMake (s : Setting) (es : List Entry) (xs : List TargetEvent) (t l : ℕ) (o : Operation) : Type 0 where
  pub state : ThreadState
  pub there : thread_at (replay (start s.program s.threads) xs) t ≡ Some state
  pub asks : AsksToDo s es (own s es t state) l o
  pub goes_on : IsOpen s (front_of s es xs)
  pub not_held_off : IsHeldOff s (front_of s es xs) t → ⊥
  pub crosses : is_cross (entry_of_operation t l o) ≡ owes_cross (entry_of_operation t l o) (listed_places t es)
  pub away : (k : ℕ) → Control.asked (control s.commands es) ≡ Some k → has_any (entries_of t (since_asked es)) ≡ true
      → StaysAway s (own_with s es t state (entry_of_operation t l o)) k
  pub permits : Permits s (front_of s es xs) (entry_of_operation t l o)

-- So the journal with the operation is lawful.
abbrev pub HasMakingTurns : Type 0
HasMakingTurns = (s : Setting) (es : List Entry) (h : IsLawful s es) → IsUnfinished es → (t l : ℕ) (o : Operation) → MayMake s es h.events t l o
    → (h' : IsLawful s (es ++ entry_of_operation t l o ∷ [])) × (h'.events ≡ h.events)

-- Requests that are disabled

-- the last of these entries is `Blocked`
abbrev pub is_blocked_entry : Entry → Bool
is_blocked_entry (e.Blocked t l what) = true
is_blocked_entry _ = false

abbrev pub blocked_behind : Bool → List Entry → Bool
blocked_behind b [] = b
blocked_behind b (x ∷ xs) = blocked_behind (is_blocked_entry x) xs

abbrev pub ends_blocked : List Entry → Bool
ends_blocked es = blocked_behind false es

-- A thread that asks for what can be disabled, and whose last entry isn't `Blocked`, may ask to be told as blocked there.
abbrev pub HasBlocks : Type 0
HasBlocks = (p : Source) (plans : Plans) (x : Own) (q : Request) (l : ℕ) (what : What) → AsksToAct p plans x q
    → IsBlockedFor x.thread q (e.Blocked x.thread l what) → ends_blocked x.entries ≡ false → AsksToMake p plans x l (blocked what)

-- And behind that it asks for the same.
abbrev pub HasSameRequest : Type 0
HasSameRequest = (p : Source) (plans : Plans) (x : Own) (q : Request) (l : ℕ) (what : What) → AsksToAct p plans x q
    → IsBlockedFor x.thread q (e.Blocked x.thread l what) → ends_blocked x.entries ≡ false
    → AsksToAct p plans (with_entry x (e.Blocked x.thread l what)) q

-- What a thread asks for is one

-- an operation that a filter or a limit makes a thread owe
abbrev pub is_owed : Operation → Bool
is_owed (cross x v n) = false
is_owed (blocked what) = false
is_owed _ = true

-- Two acts for which a thread asks answer the same.
abbrev pub HasOneRequest : Type 0
HasOneRequest = (p : Source) (plans : Plans) (x : Own) (q q' : Request) (d d' : Deed) → AsksToAct p plans x q → IsAnswered q d → AsksToAct p plans x q' → IsAnswered q' d'
    → IsAlike d d'

-- Where it asks for an act it owes no operation.
abbrev pub HasNoSplit : Type 0
HasNoSplit = (p : Source) (plans : Plans) (x : Own) (q : Request) (d : Deed) (l : ℕ) (o : Operation) → AsksToAct p plans x q → IsAnswered q d → is_owed o ≡ true
    → AsksToMake p plans x l o → ⊥

-- It owes one operation at a time.
abbrev pub HasOneOperation : Type 0
HasOneOperation = (p : Source) (plans : Plans) (x : Own) (l l' : ℕ) (o o' : Operation) → is_owed o ≡ true → is_owed o' ≡ true → AsksToMake p plans x l o
    → AsksToMake p plans x l' o' → (l ≡ l') × (o ≡ o')
