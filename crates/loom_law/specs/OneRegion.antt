-- A thread is inside one region of a clause at a time, where no path refuses the filter.
use Rattle.std.specs.Prelude.{ℕ, ◌≡◌, true, false, List, ◌∷◌, ◌++◌, map, Some, slice_get}
use Rattle.std.specs.List.{Contains}
use Rattle.loom_tree.specs.Tree.{Source}
use Rattle.loom_trace.specs.declared.entry.Entry.{Entry}
use Rattle.loom_lang.specs.Places.{Place}
use Rattle.loom_lang.specs.Trace.{Item}
use Rattle.loom_event.specs.Replay.{ThreadState}
use Rattle.loom_command.specs.Filter.{Filter}
use Rattle.loom_law.specs.Filter.{has, plan_of}
use Rattle.loom_law.specs.Walk.{Plans, PartStep, makes, cross, items, Inside, OpenFrame, Walk, unborn, after_operation, walk_from, place_of_next}
use Rattle.loom_law.specs.ThreadPart.{Own, walk_of, IsPart, leaving}
use Rattle.loom_law.specs.Paths.{IsUnsafe}
use Rattle.loom_law.specs.FilterRefusal.{IsPathFault}
use Rattle.loom_law.specs.Judgement.{HasNone, IsCommandList}
use Rattle.loom_law.specs.Lawful.{Setting, plans, own, IsLawful}

-- The regions that a thread is inside, frame by frame: first those of the frame that it leaves, until its `Back`, then those of each open frame, the
-- innermost first.
abbrev pub inside_by_frame : Walk → List (List Inside)
inside_by_frame z = leaving z.spot ∷ map (λ (x : OpenFrame). x.inside) z.frames

-- In the frame of this position it is inside this region.
pub record IsInsideInFrame (z : Walk) (n : ℕ) (i : Inside) : Type 0 where
  pub inside : List Inside
  pub frame : slice_get (inside_by_frame z) n ≡ Some inside
  pub there : Contains inside i

-- Of all its frames together, it is inside at most one region of each clause of filter k, in one frame. A region that is begun anew in its own
-- frame, by one of its own entry events, is noted there again: that is the same region.
abbrev pub IsInOneRegion : ℕ → Walk → Type 0
IsInOneRegion k z = (m n : ℕ) (i j : Inside) → IsInsideInFrame z m i → IsInsideInFrame z n j → i.filter ≡ k → j.filter ≡ k → i.clause ≡ j.clause → (m ≡ n) × (i ≡ j)

-- Filter k comes in where that is safe: at each `Cross` among these steps by which it becomes active, the place isn't unsafe for it.
abbrev pub ComesInSafely : Source → Plans → Walk → List PartStep → List Item → ℕ → Type 0
ComesInSafely p plans z steps ahead k = (before : List PartStep) (l y v n : ℕ) (behind : List PartStep) → steps ≡ before ++ makes l (cross y v n) ∷ behind
    → has (walk_from p plans z before).active k ≡ false → has (after_operation p plans (walk_from p plans z before) (cross y v n)).active k ≡ true
    → (place : Place) → place_of_next (walk_from p plans z before) (walk_from p plans z before).owed (items behind ++ ahead) ≡ Some place
    → IsUnsafe p (plans k) place → ⊥

-- At each point of a full part a thread is inside at most one region of a clause, of a filter that no path refuses and that came in where that is
-- safe. Other filters may be active beside it, refused or not.
abbrev pub HasOneRegion : Type 0
HasOneRegion = (p : Source) (plans : Plans) (x : Own) (h : IsPart p plans x) (k : ℕ) (t : Filter) → plans k ≡ plan_of p t → HasNone (IsPathFault p (plans k))
    → ComesInSafely p plans (unborn x.versions) h.steps h.ahead k
    → (before behind : List PartStep) → h.steps ≡ before ++ behind → IsInOneRegion k (walk_of p plans x before)

-- At each front of a lawful journal, and at each point of a thread's full part there, so it is with each filter that no path refuses.
abbrev pub IsAlwaysInOneRegion : Type 0
IsAlwaysInOneRegion = (s : Setting) (front rest : List Entry) → IsLawful s (front ++ rest) → (u : ℕ) (x : ThreadState) (h : IsPart s.program (plans s) (own s front u x))
    (k : ℕ) (t : Filter) → plans s k ≡ plan_of s.program t → HasNone (IsPathFault s.program (plans s k))
    → (before behind : List PartStep) → h.steps ≡ before ++ behind → IsInOneRegion k (walk_of s.program (plans s) (own s front u x) before)

-- No filter of a script is installed that its paths refuse. So where the commands are those of a script, this is so with each filter.
abbrev pub HasOneRegionUnderScript : Type 0
HasOneRegionUnderScript = (s : Setting) (front rest : List Entry) → IsLawful s (front ++ rest) → (word bytes : List ℕ) → IsCommandList s.program word bytes s.commands
    → (u : ℕ) (x : ThreadState) (h : IsPart s.program (plans s) (own s front u x)) (before behind : List PartStep) → h.steps ≡ before ++ behind
    → (k : ℕ) → IsInOneRegion k (walk_of s.program (plans s) (own s front u x) before)
