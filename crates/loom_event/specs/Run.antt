-- Runs of a program.
use Rattle.std.specs.Prelude.{ℕ, ◌≡◌, ℤ, List, [], map, Option, Some, None}
use Rattle.loom_tree.specs.Tree.{Source}
use Rattle.loom_trace.specs.declared.entry.Entry.{Entry}
use Rattle.loom_lang.specs.Trace.{Item, Outcome, IsTrace}
use Rattle.loom_lang.specs.Acts.{Deed, acts}
use Rattle.loom_event.specs.TargetEvent.{TargetEvent, entry_of, deeds}
use Rattle.loom_event.specs.Replay.{ThreadState, start, thread_at, replay, AreAllowed}

-- these are the acts of a trace of a thread of this function with these arguments
pub record IsTraced (p : Source) (f : ℕ) (vs : List ℤ) (ds : List Deed) : Type 0 where
  pub items : List Item
  pub outcome : Outcome
  pub trace : IsTrace p f vs items outcome
  pub same : acts items ≡ ds

-- what a thread did is a trace of the function with which it was spawned
abbrev pub IsThreadTraced : Source → List TargetEvent → ℕ → Option ThreadState → Type 0
IsThreadTraced p xs t None = deeds t xs ≡ []
IsThreadTraced p xs t (Some x) = IsTraced p x.func x.args (deeds t xs)

-- Each thread does what a trace of its function has, and each event is allowed by those before it. There may be `most` threads.
pub record AreRun (p : Source) (most : ℕ) (xs : List TargetEvent) : Type 0 where
  pub traced : (t : ℕ) → IsThreadTraced p xs t (thread_at (replay (start p most) xs) t)
  pub allowed : AreAllowed (start p most) xs

-- the entries are a run of the program with so many threads at most
pub record IsRun (p : Source) (most : ℕ) (es : List Entry) : Type 0 where
  pub events : List TargetEvent
  pub told : map entry_of events ≡ es
  pub run : AreRun p most events
