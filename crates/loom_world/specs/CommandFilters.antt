-- The filters of a run's commands, and the flags that go with them.
use Rattle.std.specs.Prelude.{ℕ, suc, ◌≡◌, ◌==◌, ◌⊎◌, ◌↔◌, IsTrue, false, List, [], ◌∷◌, Option, Some, None}
use Rattle.loom_tree.specs.Tree.{Source}
use Rattle.loom_lang.specs.Places.{Place, nowhere, place_at}
use Rattle.loom_trace.specs.Places.{has_place}
use Rattle.loom_law.specs.Filter.{Plan}
use Rattle.loom_law.specs.Paths.{IsUnsafe}
use Rattle.loom_law.specs.Control.{Judgement, refused, means, plans_of}
use Rattle.loom_plan.specs.Compiled.{Compiled}
use Rattle.loom_plan.specs.PlanParts.{first_other}
use Rattle.loom_version.specs.Plans.{compiled_at, plans_in, AreFiltersOf}
use Rattle.loom_world.specs.declared.command.Judged.TheVariants as j
use Rattle.loom_world.specs.declared.command.Action.{Action}
use Rattle.loom_world.specs.declared.command.Action.TheVariants as a
use Rattle.loom_world.specs.declared.command.Command.{Command}
use Rattle.loom_world.specs.Commands.{not_built}
use Rattle.loom_world.specs.CommandView.{law_commands}

-- What a filter is that nothing else refuses: it has exclusions alone, or it is refused at the first other clause.
abbrev pub IsPutFilter : Plan → Judgement → Type 0
IsPutFilter f (refused n c) = (n ≡ not_built) × (first_other 1 f.rulings ≡ Some c)
IsPutFilter f (means g) = (g ≡ f) × (first_other 1 f.rulings ≡ None)

-- the set has the numbers of place 0 and of the places that are safe for the filter
abbrev pub AreSafePlaces : Source → Plan → List ℕ → Type 0
AreSafePlaces p f set = (q : ℕ) (y : Place) → place_at p q ≡ Some y → IsTrue (has_place set q) ↔ ((y ≡ nowhere) ⊎ (IsUnsafe p f y → ⊥))

-- A command that puts a filter in has one, with its flags, and no other command has any.
abbrev pub HasFlagsFor : Source → Option Compiled → Action → Type 0
HasFlagsFor p o (a.Install (j.Flags set)) = (c : Compiled) × ((o ≡ Some c) × AreSafePlaces p c.plan set)
HasFlagsFor p o (a.Install (j.Refused r)) = o ≡ None
HasFlagsFor p o a.Remove = o ≡ None

-- At most the filter of command k comes to them.
pub record PutsOnly (p : Source) (old : List (Option Compiled)) (k : ℕ) (new : List (Option Compiled)) : Type 0 where
  pub filters : AreFiltersOf p new
  pub others : (i : ℕ) → (i == k) ≡ false → compiled_at new i ≡ compiled_at old i

-- the same of each command of a list, the first of which has this number
abbrev pub HaveFlagsFrom : Source → List (Option Compiled) → ℕ → List Command → Type 0
HaveFlagsFrom p fs n [] = Unit {0}
HaveFlagsFrom p fs n (c ∷ cs) = HasFlagsFor p (compiled_at fs n) c.action × HaveFlagsFrom p fs (suc n) cs

-- The filters are in the program, they are those of the commands and no others, and each has its flags.
pub record HaveFilters (p : Source) (fs : List (Option Compiled)) (cs : List Command) : Type 0 where
  pub filters : AreFiltersOf p fs
  pub same : (k : ℕ) → plans_in fs k ≡ plans_of (law_commands (plans_in fs) cs) k
  pub flags : HaveFlagsFrom p fs 1 cs
