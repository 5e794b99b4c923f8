-- The steps that a thread made, and what may come behind them.
use Rattle.std.specs.Prelude.{ℕ, ◌≡◌, pos, List, [], ◌∷◌, ◌++◌, slice_get, Option, Some, None}
use Rattle.loom_tree.specs.Tree.{Source}
use Rattle.loom_lang.specs.Places.{Place, entry, back_edge, line_of_function}
use Rattle.loom_lang.specs.Trace.{Item, made, edge, enter, trap, Outcome, Thread, thread_end}
use Rattle.loom_flow.specs.declared.code.Entrance.{Entrance}
use Rattle.loom_flow.specs.Flow.{Flow}
use Rattle.loom_flow.specs.State.{at_start}
use Rattle.loom_flow.specs.Question.{join}
use Rattle.loom_flow.specs.Progress.{Progress, goes, asks, nothing, enters, progress}
use Rattle.loom_flow.specs.FlatTrace.{progress_lists, runs, IsFlatTrace}
use Rattle.loom_law.specs.Walk.{Plans, PartStep, items, filter_entries, Queue, Walk, request_place, unborn, AreWoven}
use Rattle.loom_law.specs.ThreadPart.{Own, walk_of}
use Rattle.loom_strand.specs.declared.stage.Birth.{Birth}
use Rattle.loom_strand.specs.declared.stage.Stage.{Stage}
use Rattle.loom_strand.specs.declared.stage.Stage.TheVariants as stage
use Rattle.loom_strand.specs.Machine.{Machine, position}

-- What comes next

abbrev pub end_line : Source → ℕ → ℕ
end_line p f = line_of_function (slice_get p.funcs f)

abbrev pub thread_with : Source → ℕ → Thread
thread_with p f = record { program = p; stopped = thread_end (end_line p f) }

-- the first frame of a thread of this birth, behind its begin
abbrev pub first_frame : Flow → Birth → Option Entrance → Progress
first_frame c b None = nothing
first_frame c b (Some e) = enters c b.func (at_start b.func e b.args [] [])

-- what comes of the next step of a thread
abbrev pub next_step : Flow → Birth → Stage → Machine → Progress
next_step c b stage.Enters m = first_frame c b (slice_get c.entrances b.func)
next_step c b _ m = progress c (position m)

-- These items may come then, with so many steps behind that one, in a thread of function `f`.
abbrev pub MayCome : Flow → ℕ → Progress → ℕ → List Item → Outcome → Type 0
MayCome c f w n is q = progress_lists (thread_with c.program f) (runs c (thread_with c.program f) n) w is q

-- How far the last steps look at what comes: not at all; that something comes, as `Cross` and `Blocked` do; or that it is no trap, as the `Blocked`
-- of a `join` does.
pub data Look : Type 0 where
  looks_nowhere : Look
  looks_ahead : Look
  looks_for_grant : Look

-- It waits for the end of a thread.
abbrev pub IsJoining : Progress → Type 0
IsJoining (asks line (join (pos c)) behind) = Unit {0}
IsJoining _ = ⊥

abbrev pub IsNoTrap : Item → Type 0
IsNoTrap (made l (trap c)) = ⊥
IsNoTrap _ = Unit {0}

-- These items are such as the last steps look for.
abbrev pub IsSeen : Look → List Item → Type 0
IsSeen looks_nowhere is = Unit {0}
IsSeen looks_ahead [] = ⊥
IsSeen looks_ahead (i ∷ is) = Unit {0}
IsSeen looks_for_grant [] = ⊥
IsSeen looks_for_grant (i ∷ is) = IsNoTrap i

-- The steps tell the entries of the thread, it has taken its versions, whatever comes next goes on its trace, and the steps stand rightly before it.
pub record IsWay (c : Flow) (plans : Plans) (x : Own) (w : Progress) (look : Look) (steps : List PartStep) : Type 0 where
  pub tells : filter_entries x.thread steps ≡ x.entries
  pub taken : (walk_of c.program plans x steps).coming ≡ []
  pub trace : (is : List Item) (q : Outcome) (n : ℕ) → MayCome c x.func w n is q → IsFlatTrace c x.func x.args (items steps ++ is) q
  pub woven : (is : List Item) (q : Outcome) (n : ℕ) → MayCome c x.func w n is q → IsSeen look is → AreWoven c.program plans (unborn x.versions) steps is

-- Places

-- The place of what comes next, where nothing is owed: that of a mark `edge` or `enter`, or of a request.
abbrev pub IsNextPlace : Walk → Progress → Place → Type 0
IsNextPlace z (goes (Some (edge l)) y) x = back_edge l ≡ x
IsNextPlace z (goes (Some (enter f env)) y) x = entry f ≡ x
IsNextPlace z (goes _ y) x = ⊥
IsNextPlace z nothing x = ⊥
IsNextPlace z _ x = request_place z ≡ x

-- The mark of this place comes next.
abbrev pub IsNextMark : Progress → Place → Type 0
IsNextMark (goes (Some (edge l)) y) x = back_edge l ≡ x
IsNextMark (goes (Some (enter f env)) y) x = entry f ≡ x
IsNextMark _ x = ⊥

-- and where something is owed, that of its request
abbrev pub IsPlaceAhead : Queue → Walk → Progress → Place → Type 0
IsPlaceAhead [] z w x = IsNextPlace z w x
IsPlaceAhead (o ∷ os) z w x = request_place z ≡ x
