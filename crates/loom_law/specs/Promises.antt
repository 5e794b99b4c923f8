-- What a lawful journal promises to an operator, entry by entry.
use Rattle.std.specs.Prelude.{ℕ, ◌≡◌, true, List, [], ◌∷◌, ◌++◌, Some}
use Rattle.std.specs.List.{AllByRecursion}
use Rattle.loom_trace.specs.declared.entry.Entry.{Entry}
use Rattle.loom_trace.specs.declared.entry.Entry.TheVariants as e
use Rattle.loom_event.specs.Entries.{thread_of}
use Rattle.loom_event.specs.TargetEvent.{targets}
use Rattle.loom_event.specs.Replay.{ThreadState, thread_at}
use Rattle.loom_event.specs.Run.{IsRun}
use Rattle.loom_law.specs.Filter.{Plan, before_in}
use Rattle.loom_law.specs.Control.{install, means, Command, command_at, Control, control, listed_places}
use Rattle.loom_law.specs.ThreadPart.{IsInside}
use Rattle.loom_law.specs.Lawful.{Setting, Front, front_at, plans, own, running_thread, IsHeldOff, ListsPlaces, IsOutside, HasCompletions, is_held_by, is_installed, Permits, IsObeyed, IsLawful}
use Rattle.loom_law.specs.Laws.{Balances}

-- An event of an order begins behind as many completions of the one before it as the order asks for.
abbrev pub FollowsOrders : Setting → Front → Entry → Type 0
FollowsOrders s f (e.At t l k ns) = AllByRecursion (λ n. HasCompletions f.entries k (before_in n (Plan.rulings (plans s k)))) ns
FollowsOrders s f x = Unit {0}

-- The installed filters are obeyed: orders, regions that exclude each other, and regions that exclude everything.
pub record ObeysFilters (s : Setting) (f : Front) (x : Entry) : Type 0 where
  pub orders : FollowsOrders s f x
  pub regions : IsObeyed s f x

-- The command installs this filter. Each thread stands at the place that the row lists for it; wherever it may be there, it is inside none of the
-- regions, and none of the events is under way.
pub record FindsNobodyInside (s : Setting) (f : Front) (k : ℕ) (row : List ℕ) : Type 0 where
  pub command : Command
  pub is : command_at s.commands k ≡ Some command
  pub plan : Plan
  pub installs : command.action ≡ install (means plan)
  pub lists : ListsPlaces s f k row
  pub outside : (t : ℕ) → IsOutside s f.entries t (running_thread (thread_at f.store t)) plan (lists.place t)

abbrev pub InstallsOutside : Setting → Front → Entry → Type 0
InstallsOutside s f (e.Installed k v row) = FindsNobodyInside s f k row
InstallsOutside s f x = Unit {0}

-- A clause has one holder at most.
abbrev pub HasOneHolder : Control → Type 0
HasOneHolder c = (k n t u : ℕ) → is_held_by c k n t ≡ true → is_held_by c k n u ≡ true → t ≡ u

-- Behind the entry the version, the holders of clauses and what threads owe are as before.
abbrev pub StaysAsItWas : Setting → Front → Entry → Type 0
StaysAsItWas s f x =
    ((control s.commands (f.entries ++ x ∷ [])).version ≡ f.control.version)
    × (((control s.commands (f.entries ++ x ∷ [])).holders ≡ f.control.holders) × ((t : ℕ) → listed_places t (f.entries ++ x ∷ []) ≡ listed_places t f.entries))

-- What is refused, stalls, is cut or isn't reached changes neither the version nor its filters.
abbrev pub ChangesNothing : Setting → Front → Entry → Type 0
ChangesNothing s f (e.Refused k n c) = StaysAsItWas s f (e.Refused k n c)
ChangesNothing s f (e.Stalled k t l) = StaysAsItWas s f (e.Stalled k t l)
ChangesNothing s f (e.Cut k) = StaysAsItWas s f (e.Cut k)
ChangesNothing s f (e.Unreached k) = StaysAsItWas s f (e.Unreached k)
ChangesNothing s f x = Unit {0}

-- What holds where an entry stands, behind those of the front.
pub record KeepsPromises (s : Setting) (f : Front) (x : Entry) : Type 0 where
  -- from its installation to its removal a filter is obeyed
  pub obeyed : ObeysFilters s f x
  -- at an installation no thread is inside the regions
  pub outside : InstallsOutside s f x
  -- filter locks balance: a clause that is entered is free, a wait was posted, a clause has one holder, which leaves it, and no thread ends with one
  pub permitted : Permits s f x
  pub balanced : Balances f x
  pub one_holder : HasOneHolder f.control
  -- while a thread holds a clause that excludes everything no other thread makes an entry
  pub not_held_off : (t : ℕ) → thread_of x ≡ Some t → IsHeldOff s f t → ⊥
  -- refused commands change nothing
  pub unchanged : ChangesNothing s f x

-- Without the entries of filters and commands the journal is a run of the program, and each of its entries keeps the promises.
pub record Promises (s : Setting) (es : List Entry) (h : IsLawful s es) : Type 0 where
  pub run : IsRun s.program s.threads (targets es)
  pub entries : (front : List Entry) (x : Entry) (rest : List Entry) → es ≡ front ++ x ∷ rest → KeepsPromises s (front_at s h.events front) x
  -- and behind the last entry too
  pub last_holders : HasOneHolder (control s.commands es)
  pub last_inside : (k c t u : ℕ) (x y : ThreadState) → is_installed (control s.commands es) k ≡ true → IsInside s.program (plans s) (own s es t x) k c
      → IsInside s.program (plans s) (own s es u y) k c → t ≡ u

-- So it is with each lawful journal.
abbrev pub AlwaysPromises : Type 0
AlwaysPromises = (s : Setting) (es : List Entry) (h : IsLawful s es) → Promises s es h
