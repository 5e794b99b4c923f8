-- Where a thread is in its part.
use Rattle.std.specs.Prelude.{ℕ, ◌≡◌, ◌≤◌, ◌<◌, ◌⊎◌, true, false, List, [], ◌∷◌, ◌++◌, length, Option, Some}
use Rattle.std.specs.List.{AllByRecursion}
use Rattle.loom_tree.specs.Tree.{Source}
use Rattle.loom_lang.specs.Places.{Place, place_at}
use Rattle.loom_lang.specs.Places as site
use Rattle.loom_lang.specs.Trace.{Item, begins, done, edge, enter, out, frame_limit}
use Rattle.loom_flow.specs.Flow.{Flow}
use Rattle.loom_flow.specs.State.{State, named}
use Rattle.loom_flow.specs.Progress.{Progress, ends}
use Rattle.loom_trace.specs.Places.{has_place}
use Rattle.loom_law.specs.OpenStatements.{frame_lines, StandsIn}
use Rattle.loom_law.specs.Walk.{Version, PartStep, Walk, tick_after, request_place, after_item}
use Rattle.loom_law.specs.ThreadPart.{Own, walk_of}
use Rattle.loom_plan.specs.Compiled.{Compiled}
use Rattle.loom_plan.specs.PlaceEvents.{names_at}
use Rattle.loom_version.specs.Plans.{plans_in}
use Rattle.loom_walk.specs.FilterWalk.{FilterWalk, IsAt, HasFilters, HasLocalsAt}
use Rattle.loom_strand.specs.declared.execution.Execution.{Execution}
use Rattle.loom_strand.specs.declared.stage.Birth.{Birth}
use Rattle.loom_strand.specs.declared.step_result.Mark.{Mark}
use Rattle.loom_strand.specs.declared.step_result.Mark.TheVariants as m
use Rattle.loom_strand.specs.Way.{Look, looks_nowhere, looks_for_grant, next_step, IsWay}

-- the filters of the last one of these versions
abbrev pub last_active : List Version → List ℕ
last_active [] = []
last_active (v ∷ []) = v.active
last_active (v ∷ u ∷ vs) = last_active (u ∷ vs)

-- What is owed is made at the place of this number, and so is what ends the thread.
pub record HasPlace (p : Source) (z : Walk) (w : Progress) (k : ℕ) : Type 0 where
  pub owing : (z.owed ≡ [] → ⊥) → place_at p k ≡ Some (request_place z)
  pub ending : w ≡ ends → place_at p k ≡ Some (request_place z)

-- The walk of a thread that has taken these versions is there, and what it owes goes with its place and its locals.
pub record IsThere (c : Flow) (cs : List (Option Compiled)) (b : Birth) (vs : List Version) (e : Execution) (look : Look) (z : Walk) : Type 0 where
  pub at : IsAt c.program (plans_in cs) e.walk z
  pub active : z.active ≡ last_active vs
  pub filters : HasFilters c.program cs e.walk.version
  -- where something is owed no step looks ahead
  pub rests : (look ≡ looks_nowhere) ⊎ (z.owed ≡ [])
  pub few : z.owed ≡ [] → length z.passed < tick_after
  pub place : HasPlace c.program z (next_step c b e.stage e.machine) e.place
  pub locals : (z.owed ≡ []) ⊎ HasLocalsAt c.program e.walk.spot e.machine.state.locals z.spot

-- The steps are the thread's way, and lead it to where it is.
pub record IsInPart (c : Flow) (cs : List (Option Compiled)) (b : Birth) (x : Own) (e : Execution) (look : Look) (steps : List PartStep) : Type 0 where
  pub way : IsWay c (plans_in cs) x (next_step c b e.stage e.machine) look steps
  pub there : IsThere c cs b x.versions e look (walk_of c.program (plans_in cs) x steps)

-- Some steps lead it there.
pub record IsSomewhere (c : Flow) (cs : List (Option Compiled)) (b : Birth) (e : Execution) : Type 0 where
  pub own : Own
  pub look : Look
  pub steps : List PartStep
  pub there : IsInPart c cs b own e look steps

-- Places that are flagged

-- It is a place of the program, and none of this set.
abbrev pub IsNoneOf : Source → List ℕ → Place → Type 0
IsNoneOf p places y = (k : ℕ) × ((place_at p k ≡ Some y) × (has_place places k ≡ false))

-- each place of the one set is in the other
abbrev pub AreIn : List ℕ → List ℕ → Type 0
AreIn places flags = (k : ℕ) → has_place places k ≡ true → has_place flags k ≡ true

-- none of those passed is in the set
abbrev pub ArePassedBy : Source → List ℕ → List Place → Type 0
ArePassedBy p places xs = AllByRecursion (IsNoneOf p places) xs

-- From the old walk to the new one no flagged place is passed: the new one has passed what the old one had, and since then these places (the latest is the first), of
-- which none is flagged.
pub record PassesUnflagged (p : Source) (flags : List ℕ) (old new : Walk) : Type 0 where
  pub places : List Place
  pub unflagged : ArePassedBy p flags places
  pub adds : new.passed ≡ places ++ old.passed

-- The thread went on past marks of which none is flagged.
pub record HasGone (c : Flow) (cs : List (Option Compiled)) (b : Birth) (flags : List ℕ) (new : Execution) (x : Own) (first : Look) (steps : List PartStep) : Type 0 where
  pub look : Look
  -- no grant is looked for that wasn't before
  pub looks : look ≡ looks_for_grant → first ≡ looks_for_grant
  pub marks : List PartStep
  pub there : IsInPart c cs b x new look (steps ++ marks)
  pub passes : PassesUnflagged c.program flags (walk_of c.program (plans_in cs) x steps) (walk_of c.program (plans_in cs) x (steps ++ marks))

-- Whatever led it to where it was leads on to where it is.
abbrev pub GoesOn : Flow → List (Option Compiled) → Birth → List ℕ → Execution → Execution → Type 0
GoesOn c cs b flags old new = (x : Own) (look : Look) (steps : List PartStep) → IsInPart c cs b x old look steps → HasGone c cs b flags new x look steps

-- Marks

-- The mark is that of the item, with the numbers of its places, and the locals are those of the frame behind it.
abbrev pub IsMarkOf : Flow → State → Mark → Item → Type 0
IsMarkOf c y (m.Begins k) (begins l env) = (place_at c.program k ≡ Some (site.inside l)) × (env ≡ named (names_at c.program k) y.locals)
IsMarkOf c y (m.Done n k) (done l) = (n ≡ l) × (place_at c.program k ≡ Some (site.inside l))
IsMarkOf c y (m.Edge k) (edge l) = place_at c.program k ≡ Some (site.back_edge l)
IsMarkOf c y (m.Enter g k) (enter f env) = (g ≡ f) × ((place_at c.program k ≡ Some (site.entry f)) × (env ≡ named (names_at c.program k) y.locals))
IsMarkOf c y (m.Out g) (out f) = (g ≡ f) × (f < length c.program.funcs)
IsMarkOf c y _ _ = ⊥

-- where a thread is behind a mark, but for what it goes on to
abbrev pub place_behind : Item → Place → Place
place_behind (begins l env) x = site.inside l
place_behind (done l) x = site.inside l
place_behind (edge l) x = site.inside l
place_behind (enter f env) x = site.entry f
place_behind (out f) x = site.out f
place_behind _ x = x

-- The walk can pass the mark.
pub record CanPass (c : Flow) (cs : List (Option Compiled)) (w : FilterWalk) (y : State) (mark : Mark) : Type 0 where
  pub walk : Walk
  pub item : Item
  pub is : IsMarkOf c y mark item
  pub stands : StandsIn (frame_lines walk.frames) item
  pub at : IsAt c.program (plans_in cs) w walk
  pub filters : HasFilters c.program cs w.version
  pub few : length walk.passed < tick_after
  pub frames : length (after_item c.program (plans_in cs) walk item).frames ≤ frame_limit
