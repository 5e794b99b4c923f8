-- Laws of stores.
use Rattle.std.specs.Prelude.{ℕ, ◌≡◌, Bool, true, false, List, [], ◌∷◌, ◌++◌, Option, Some, None}
use Rattle.loom_tree.specs.Tree.{Source}
use Rattle.loom_trace.specs.declared.entry.What.{What}
use Rattle.loom_trace.specs.declared.request.Request.{Request}
use Rattle.loom_trace.specs.declared.request.Request.TheVariants as r
use Rattle.loom_lang.specs.Trace.{Cause, trap, reason}
use Rattle.loom_lang.specs.Acts.{Deed}
use Rattle.loom_event.specs.TargetEvent.{TargetEvent, event_of_deed}
use Rattle.loom_event.specs.Replay.{Store, start, IsAllowed, after_event, replay, AreAllowed, IsCaused, IsDisabled}
use Rattle.loom_event.specs.Answer.{deed, trap_deed, HasNumbers, IsAnswered, request_for}
use Rattle.loom_store.specs.declared.answer.Answer.{Answer}
use Rattle.loom_store.specs.declared.answer.Answer.TheVariants as a
use Rattle.loom_store.specs.Answer.{MayAsk, CanAnswer, CanWait, Answers, deed_of}

-- What is answered

-- A request has at most one answer.
abbrev pub HasOneAnswer : Type 0
HasOneAnswer = (s : Store) (t : ℕ) (q : Request) (x y : Answer) (new other : Store) → Answers s t q x new → Answers s t q y other → x ≡ y

-- What is disabled is answered so.
abbrev pub HasExactWaits : Type 0
HasExactWaits = (s : Store) (t : ℕ) (q : Request) (x : Answer) (new : Store) → Answers s t q x new → (l : ℕ) (what : What) → request_for l what ≡ Some q
    → IsDisabled s what → x ≡ a.Disabled what

-- the thread's own trap
abbrev pub is_own_trap : Request → Bool
is_own_trap (r.Trap l n) = true
is_own_trap _ = false

-- Where a trap of the store may stand in the request's place, and has its cause, it is the answer.
abbrev pub HasExactTraps : Type 0
HasExactTraps = (s : Store) (t : ℕ) (q : Request) (x : Answer) (new : Store) → MayAsk s t q → Answers s t q x new → is_own_trap q ≡ false
    → (l : ℕ) (c : Cause) → trap_deed q ≡ deed l (trap c) → IsCaused s t c → x ≡ a.Trapped (reason c)

-- What an answer leaves

-- The deed answers the request, is allowed, and leads to the store `new`. Without one the store stays as it was.
abbrev pub LeadsTo : Store → ℕ → Request → Option Deed → Store → Type 0
LeadsTo s t q None new = new ≡ s
LeadsTo s t q (Some d) new = IsAnswered q d × (IsAllowed s (event_of_deed t d) × (new ≡ after_event s (event_of_deed t d)))

-- So it is with each answer.
abbrev pub HasDeeds : Type 0
HasDeeds = (s : Store) (t : ℕ) (q : Request) (x : Answer) (new : Store) → Answers s t q x new → LeadsTo s t q (deed_of q x) new

-- the events of one deed
abbrev pub deed_events : ℕ → Option Deed → List TargetEvent
deed_events t None = []
deed_events t (Some d) = event_of_deed t d ∷ []

-- The store of allowed events is, behind an answer, that of these and of what was answered, and they are allowed.
abbrev pub HasReplays : Type 0
HasReplays = (s : Store) (xs : List TargetEvent) (t : ℕ) (q : Request) (x : Answer) (new : Store) → AreAllowed s xs → Answers (replay s xs) t q x new
    → (new ≡ replay s (xs ++ deed_events t (deed_of q x))) × AreAllowed s (xs ++ deed_events t (deed_of q x))

-- What a store is asked

-- What is disabled is what a thread can wait for.
abbrev pub CanAllWait : Type 0
CanAllWait = (s : Store) (what : What) → IsDisabled s what → CanWait s what

-- What a thread can wait for it still can behind any events: a thread that was spawned stays so.
abbrev pub HasLastingWaits : Type 0
HasLastingWaits = (s : Store) (xs : List TargetEvent) (what : What) → CanWait s what → CanWait (replay s xs) what

-- The store of a run can answer each request that has the program's numbers.
abbrev pub CanAlwaysAnswer : Type 0
CanAlwaysAnswer = (p : Source) (most : ℕ) (xs : List TargetEvent) (q : Request) → HasNumbers p q → CanAnswer (replay (start p most) xs) q
