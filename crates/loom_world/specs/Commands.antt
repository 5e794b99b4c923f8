-- The commands of a run, as far as they are built: filters of exclusions go in.
use Rattle.std.specs.Prelude.{ℕ, ◌≡◌, ◌⊎◌, List, [], ◌∷◌, Some, None}
use Rattle.loom_tree.specs.Tree.{Source}
use Rattle.loom_command.specs.Filter.{Filter}
use Rattle.loom_command.specs.Script.{ScriptAction, ScriptCommand}
use Rattle.loom_command.specs.Script as script
use Rattle.loom_law.specs.Filter.{Plan, plan_of}
use Rattle.loom_law.specs.Control.{Judgement, refused, means, Action, install, remove, Command, command_at}
use Rattle.loom_law.specs.Judgement.{IsJudged}
use Rattle.loom_plan.specs.PlanParts.{first_other}

-- the number of a refusal: it can't be done yet
abbrev pub not_built : ℕ
not_built = 15

-- Nothing refuses the text, but a clause of it is an order, or holds all other threads off: it is refused with this number, at the first such clause.
pub record IsNotBuilt (p : Source) (file text : List ℕ) (n c : ℕ) : Type 0 where
  pub number : n ≡ not_built
  pub plan : Plan
  pub is : IsJudged p file text (means plan)
  pub clause : first_other 1 plan.rulings ≡ Some c

-- What a filter's text is for now, in a program in the file of this name: what isn't refused otherwise, and has exclusions alone, is a filter.
abbrev pub IsJudgedSoFar : Source → List ℕ → List ℕ → Judgement → Type 0
IsJudgedSoFar p file text (refused n c) = IsJudged p file text (refused n c) ⊎ IsNotBuilt p file text n c
IsJudgedSoFar p file text (means f) = IsJudged p file text (means f) × (first_other 1 f.rulings ≡ None)

abbrev pub IsActionSoFar : Source → List ℕ → ScriptAction → Action → Type 0
IsActionSoFar p file (script.install text) (install j) = IsJudgedSoFar p file text j
IsActionSoFar p file script.remove remove = Unit {0}
IsActionSoFar p file _ _ = ⊥

pub record IsCommandSoFar (p : Source) (file : List ℕ) (s : ScriptCommand) (c : Command) : Type 0 where
  pub trigger : c.trigger ≡ s.trigger
  pub name : c.name ≡ s.name
  pub action : IsActionSoFar p file s.action c.action

-- what the commands of a script are for now
abbrev pub AreCommandsSoFar : Source → List ℕ → List ScriptCommand → List Command → Type 0
AreCommandsSoFar p file [] cs = cs ≡ []
AreCommandsSoFar p file (s ∷ ss) [] = ⊥
AreCommandsSoFar p file (s ∷ ss) (c ∷ cs) = IsCommandSoFar p file s c × AreCommandsSoFar p file ss cs

-- The plan is that of a filter, whose clauses are exclusions.
pub record IsExclusionPlan (p : Source) (f : Plan) : Type 0 where
  pub filter : Filter
  pub plan : f ≡ plan_of p filter
  pub exclusions : first_other 1 f.rulings ≡ None

-- So it is with each filter that a command may put in.
abbrev pub HaveExclusions : Source → List Command → Type 0
HaveExclusions p cs = (k : ℕ) (c : Command) (f : Plan) → command_at cs k ≡ Some c → c.action ≡ install (means f) → IsExclusionPlan p f
