-- Laws of full parts and of journals.
use Rattle.std.specs.Prelude.{ℕ, ◌⊎◌, suc, ◌<◌, ◌≡◌, ◌==◌, true, false, List, [], ◌++◌, ◌∷◌, Some, None}
use Rattle.std.specs.List.{list_any, count_by}
use Rattle.loom_tree.specs.Tree.{Source}
use Rattle.loom_trace.specs.declared.entry.Entry.{Entry}
use Rattle.loom_trace.specs.declared.entry.Entry.TheVariants as e
use Rattle.loom_trace.specs.declared.entry.Ending.{Ending}
use Rattle.loom_lang.specs.Places.{Place, nowhere, place_at}
use Rattle.loom_lang.specs.Rules as rules
use Rattle.loom_lang.specs.Trace.{end, made}
use Rattle.loom_command.specs.Filter.{Filter}
use Rattle.loom_law.specs.Filter.{Plan, has, plan_of}
use Rattle.loom_law.specs.Walk.{Version, Plans, place_number, Operation, leave, entry_of_operation, PartStep, goes, makes, holds, filter_entries, operation_filter, Owes}
use Rattle.loom_law.specs.ThreadPart.{Own, walk_of, IsPart, Point, IsPlaceOf, HasMoved, KeepsAway, IsInside}
use Rattle.loom_law.specs.FilterView.{IsClear, view_behind}
use Rattle.loom_law.specs.Paths.{IsUnsafe}
use Rattle.loom_event.specs.TargetEvent.{TargetEvent, entry_of}
use Rattle.loom_event.specs.Replay.{ThreadState, start, thread_at, replay, IsAllowed}
use Rattle.loom_event.specs.Entries.{thread_of, IsFinished}
use Rattle.loom_law.specs.Judgement.{IsJudged, IsCommandList}
use Rattle.loom_law.specs.Control.{Holder, Judgement, Command, Control, control, versions_of, entries_of, listed_places, since_asked, is_post, is_past}
use Rattle.loom_law.specs.Lawful.{Setting, Front, front_of, front_at, plans, own, is_held_by, is_installed, IsHeldOff, IsFlagged, IsOpen, is_cross, is_begin, owes_cross, is_spawn_of, has_any, Permits, MayFollow, IsObeyed, IsLawful, SeesNothing}

-- At each point of a full part a thread holds each clause whose regions it is inside.
abbrev pub HasHeldRegions : Type 0
HasHeldRegions = (p : Source) (plans : Plans) (x : Own) (k c : ℕ) (h : IsInside p plans x k c) → holds (walk_of p plans x h.part.steps).held k c ≡ true

-- the last of these steps tells an entry
abbrev pub EndsWithEntry : Own → List PartStep → Type 0
EndsWithEntry x steps = (front : List PartStep) × ((last : PartStep) × ((steps ≡ front ++ last ∷ []) × ((y : Entry) × (filter_entries x.thread (last ∷ []) ≡ y ∷ []))))

-- A thread has at most one full part: two whose last steps tell an entry are the same.
abbrev pub HasOnePart : Type 0
HasOnePart = (p : Source) (plans : Plans) (x : Own) (a b : IsPart p plans x) → EndsWithEntry x a.steps → EndsWithEntry x b.steps → a.steps ≡ b.steps

-- So there is one list of steps before its last entry.
abbrev pub HasOneMove : Type 0
HasOneMove = (p : Source) (plans : Plans) (x : Own) (before before' : List PartStep) → HasMoved p plans x before → HasMoved p plans x before' → before ≡ before'

-- Of two parts of a thread each is the steps up to its last entry, the same for both, and marks behind.
pub record SameSteps (x : Own) (a b : List PartStep) : Type 0 where
  pub made : List PartStep
  pub behind : List PartStep
  pub behind' : List PartStep
  pub first : a ≡ made ++ behind
  pub second : b ≡ made ++ behind'
  pub marks : filter_entries x.thread behind ≡ []
  pub marks' : filter_entries x.thread behind' ≡ []

abbrev pub HasOneMade : Type 0
HasOneMade = (p : Source) (plans : Plans) (x : Own) (a b : IsPart p plans x) → SameSteps x a.steps b.steps

-- The unsafe places of a filter are sound: where a thread comes to a safe place, while the filter isn't active, the filter sees nothing of it.
abbrev pub IsSound : Source → Plan → Type 0
IsSound p f = (plans : Plans) (x : Own) (h : Point p plans x) (y : Place) → IsPlaceOf p plans x h y → (IsUnsafe p f y → ⊥)
    → IsClear (view_behind p plans f x.versions h.steps)

-- Those of each filter are sound, whether it is refused or not.
abbrev pub HasSoundPlaces : Type 0
HasSoundPlaces = (p : Source) (t : Filter) → IsSound p (plan_of p t)

-- So at an install each thread that stands at a flagged place is outside.
abbrev pub IsOutsideWhereFlagged : Type 0
IsOutsideWhereFlagged = (s : Setting) (x : Own) (t : Filter) (y : Place) → (y ≡ nowhere) ⊎ (IsUnsafe s.program (plan_of s.program t) y → ⊥)
    → SeesNothing s x (plan_of s.program t) y

-- What a thread holds of an installed filter behind its entries is what the journal says.
abbrev pub HasBalance : Type 0
HasBalance = (s : Setting) (front rest : List Entry) → IsLawful s (front ++ rest) → (t : ℕ) (x : ThreadState) (h : IsPart s.program (plans s) (own s front t x)) (k c : ℕ)
    → is_installed (control s.commands front) k ≡ true
    → holds (walk_of s.program (plans s) (own s front t x) h.steps).held k c ≡ is_held_by (control s.commands front) k c t

-- An install begins anew: its filter wasn't installed before, nobody holds a clause of it, and none of its events was posted or complete.
pub record BeginsAnew (front : List Entry) (c : Control) (k : ℕ) : Type 0 where
  pub not_installed : is_installed c k ≡ false
  pub no_holder : (n t : ℕ) → is_held_by c k n t ≡ false
  pub no_posts : (n : ℕ) → count_by (is_post k n) front ≡ 0
  pub no_completions : (n : ℕ) → count_by (is_past k n) front ≡ 0

abbrev pub HasNewInstalls : Type 0
HasNewInstalls = (s : Setting) (es : List Entry) → IsLawful s es → (front : List Entry) (k v : ℕ) (row : List ℕ) (rest : List Entry)
    → es ≡ front ++ e.Installed k v row ∷ rest → BeginsAnew front (control s.commands front) k

-- At each front of a lawful journal, itself too, at most one thread is inside the regions of a clause of an installed filter.
abbrev pub HasExclusion : Type 0
HasExclusion = (s : Setting) (front rest : List Entry) → IsLawful s (front ++ rest) → (k c t u : ℕ) (x y : ThreadState) → is_installed (control s.commands front) k ≡ true
    → IsInside s.program (plans s) (own s front t x) k c → IsInside s.program (plans s) (own s front u y) k c → t ≡ u

-- Installed filters are obeyed in each lawful journal.
abbrev pub IsAlwaysObeyed : Type 0
IsAlwaysObeyed = (s : Setting) (es : List Entry) (h : IsLawful s es) (front : List Entry) (x : Entry) (rest : List Entry) → es ≡ front ++ x ∷ rest
    → IsObeyed s (front_at s h.events front) x

-- What holds of a thread's entry though it isn't asked: filters that it names are installed, `Leave` is made by the holder, by `Cross` the newest
-- version is taken, and a thread that ends holds nothing.
abbrev pub Balances : Front → Entry → Type 0
Balances f (e.Cross t l x v n) = v ≡ Version.number f.control.version
Balances f (e.Enter t l k c) = is_installed f.control k ≡ true
Balances f (e.Leave t l k c) = is_held_by f.control k c t ≡ true
Balances f (e.Wait t l k n) = is_installed f.control k ≡ true
Balances f (e.Post t l k n) = is_installed f.control k ≡ true
Balances f (e.At t l k ns) = is_installed f.control k ≡ true
Balances f (e.Past t l k ns) = is_installed f.control k ≡ true
Balances f (e.End t l) = list_any (λ (h : Holder). h.thread == t) f.control.holders ≡ false
Balances f _ = Unit {0}

-- So it is in each lawful journal.
abbrev pub IsAlwaysBalanced : Type 0
IsAlwaysBalanced = (s : Setting) (es : List Entry) (h : IsLawful s es) (front : List Entry) (x : Entry) (rest : List Entry) → es ≡ front ++ x ∷ rest
    → Balances (front_at s h.events front) x

-- A thread that made an entry, and for which no new version is listed behind its last one, has the newest version.
abbrev pub HasNewest : Type 0
HasNewest = (s : Setting) (front rest : List Entry) → IsLawful s (front ++ rest) → (i : ℕ) → i < s.threads → (x : ThreadState)
    (h : IsPart s.program (plans s) (own s front (suc i) x)) (y : Entry) (ys : List Entry) → entries_of (suc i) front ≡ y ∷ ys → listed_places (suc i) front ≡ []
    → (walk_of s.program (plans s) (own s front (suc i) x) h.steps).active ≡ Version.active (control s.commands front).version

-- What a thread owes first is of a filter of its version.
abbrev pub HasOwedActive : Type 0
HasOwedActive = (p : Source) (plans : Plans) (x : Own) (h : IsPart p plans x) (l : ℕ) (o : Operation) (k : ℕ) → Owes (walk_of p plans x h.steps).owed l o → operation_filter o ≡ Some k
    → has (walk_of p plans x h.steps).active k ≡ true

-- So it is of an installed filter, where no new version is listed for the thread.
abbrev pub HasOwedInstalled : Type 0
HasOwedInstalled = (s : Setting) (front rest : List Entry) → IsLawful s (front ++ rest) → (i : ℕ) → i < s.threads → (x : ThreadState)
    (h : IsPart s.program (plans s) (own s front (suc i) x)) (y : Entry) (ys : List Entry) → entries_of (suc i) front ≡ y ∷ ys → listed_places (suc i) front ≡ []
    → (l : ℕ) (o : Operation) (k : ℕ) → Owes (walk_of s.program (plans s) (own s front (suc i) x) h.steps).owed l o → operation_filter o ≡ Some k
    → is_installed (control s.commands front) k ≡ true

-- no number stands twice, in no version a filter
abbrev pub AreOnce : List ℕ → Type 0
AreOnce [] = Unit {0}
AreOnce (k ∷ ks) = (has ks k ≡ false) × AreOnce ks

abbrev pub HaveOnce : List Version → Type 0
HaveOnce [] = Unit {0}
HaveOnce (v ∷ vs) = AreOnce v.active × HaveOnce vs

-- A thread that owes a leave holds the clause.
abbrev pub HasHeldLeaves : Type 0
HasHeldLeaves = (p : Source) (plans : Plans) (x : Own) (h : IsPart p plans x) → HaveOnce x.versions → (l k c : ℕ) → Owes (walk_of p plans x h.steps).owed l (leave k c)
    → holds (walk_of p plans x h.steps).held k c ≡ true

-- The journal says so too, where no new version is listed for the thread.
abbrev pub HasRightLeaves : Type 0
HasRightLeaves = (s : Setting) (front rest : List Entry) → IsLawful s (front ++ rest) → (i : ℕ) → i < s.threads → (x : ThreadState)
    (h : IsPart s.program (plans s) (own s front (suc i) x)) (y : Entry) (ys : List Entry) → entries_of (suc i) front ≡ y ∷ ys → listed_places (suc i) front ≡ []
    → (l k c : ℕ) → Owes (walk_of s.program (plans s) (own s front (suc i) x) h.steps).owed l (leave k c)
    → is_held_by (control s.commands front) k c (suc i) ≡ true

-- What stands before the last entry of a lawful journal is lawful.
abbrev pub HasFronts : Type 0
HasFronts = (s : Setting) (front rest : List Entry) → IsLawful s (front ++ rest) → IsLawful s front

-- A thread that ends holds nothing.
abbrev pub HasEmptyEnds : Type 0
HasEmptyEnds = (p : Source) (plans : Plans) (x : Own) (h : IsPart p plans x) (before : List PartStep) (l : ℕ) → h.steps ≡ before ++ goes (made l end) ∷ []
    → (walk_of p plans x before).held ≡ []

-- One more entry

-- The journal isn't finished.
abbrev pub IsUnfinished : List Entry → Type 0
IsUnfinished es = (k : Ending) → IsFinished es k → ⊥

-- by `Begin` and `Cross` a thread takes the newest version
abbrev pub with_newest : Entry → Version → List Version → List Version
with_newest (e.Begin t l) v vs = vs ++ v ∷ []
with_newest (e.Cross t l x n m) v vs = vs ++ v ∷ []
with_newest _ v vs = vs

-- what is a thread's own with this entry behind its entries
abbrev pub own_with : Setting → List Entry → ℕ → ThreadState → Entry → Own
own_with s es t z x = record {
  thread = t;
  func = z.func;
  args = z.args;
  versions = with_newest x (Control.version (control s.commands es)) (versions_of s.commands t es);
  entries = entries_of t es ++ x ∷ [];
}

-- A journal with no entry is lawful.
abbrev pub HasBeginning : Type 0
HasBeginning = (s : Setting) → (h : IsLawful s []) × (h.events ≡ [])

-- Behind the entries and events so far thread t may make this entry, with this step of its part.
pub record MayTurn (s : Setting) (es : List Entry) (xs : List TargetEvent) (t : ℕ) (x : Entry) (step : PartStep) : Type 0 where
  pub state : ThreadState
  pub there : thread_at (replay (start s.program s.threads) xs) t ≡ Some state
  -- with it the thread's own entries are a part
  pub part : IsPart s.program (plans s) (own_with s es t state x)
  pub before : List PartStep
  pub last : part.steps ≡ before ++ step ∷ []
  pub goes_on : IsOpen s (front_of s es xs)
  pub not_held_off : IsHeldOff s (front_of s es xs) t → ⊥
  pub crosses : is_cross x ≡ owes_cross x (listed_places t es)
  -- the thread keeps away from the places that are flagged for the command that was asked
  pub away : (k : ℕ) → Control.asked (control s.commands es) ≡ Some k → has_any (entries_of t (since_asked es)) ≡ true
      → KeepsAway (IsFlagged s k) (walk_of s.program (plans s) (own_with s es t state x) before)
  pub no_begin : (k : ℕ) → Control.asked (control s.commands es) ≡ Some k → is_begin x ≡ true → list_any (is_spawn_of t) (since_asked es) ≡ false
  pub permits : Permits s (front_of s es xs) x

-- A lawful journal with one more event of a thread is lawful, where the store allows the event.
abbrev pub HasEventTurns : Type 0
HasEventTurns = (s : Setting) (es : List Entry) (h : IsLawful s es) → IsUnfinished es
    → (y : TargetEvent) → MayTurn s es h.events y.thread (entry_of y) (goes (made y.line y.act)) → IsAllowed (replay (start s.program s.threads) h.events) y
    → (h' : IsLawful s (es ++ entry_of y ∷ [])) × (h'.events ≡ h.events ++ y ∷ [])

-- So it is with one more operation of a thread, `Cross` and `Blocked` too.
abbrev pub HasOperationTurns : Type 0
HasOperationTurns = (s : Setting) (es : List Entry) (h : IsLawful s es) → IsUnfinished es
    → (t l : ℕ) (o : Operation) → MayTurn s es h.events t (entry_of_operation t l o) (makes l o)
    → (h' : IsLawful s (es ++ entry_of_operation t l o ∷ [])) × (h'.events ≡ h.events)

-- And with one more control entry.
abbrev pub HasControlTurns : Type 0
HasControlTurns = (s : Setting) (es : List Entry) (h : IsLawful s es) → IsUnfinished es
    → (x : Entry) → thread_of x ≡ None → MayFollow s (front_of s es h.events) x []
    → (h' : IsLawful s (es ++ x ∷ [])) × (h'.events ≡ h.events)

-- A place has one number, as a number has one place.
abbrev pub HasOneNumber : Type 0
HasOneNumber = (p : Source) → rules.KeepsRules p → (k : ℕ) (x : Place) → place_at p k ≡ Some x → place_number p x ≡ k

-- In a program, in the file of this name, a filter's text is one thing at most: a refusal, or a plan.
abbrev pub HasOneJudgement : Type 0
HasOneJudgement = (p : Source) (file text : List ℕ) (x y : Judgement) → IsJudged p file text x → IsJudged p file text y → x ≡ y

-- So a script's bytes are at most one list of commands.
abbrev pub HasOneCommandList : Type 0
HasOneCommandList = (p : Source) (word bytes : List ℕ) (cs ds : List Command) → IsCommandList p word bytes cs → IsCommandList p word bytes ds → cs ≡ ds
