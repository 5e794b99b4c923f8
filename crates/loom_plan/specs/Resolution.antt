-- What it means to resolve a filter against a program.
use Rattle.std.specs.Prelude.{ℕ, ◌≡◌, List, Result, Ok, Err}
use Rattle.loom_tree.specs.Tree.{Source}
use Rattle.loom_command.specs.Filter.{Filter}
use Rattle.loom_filter.specs.declared.parse.FilterError.{FilterError}
use Rattle.loom_filter.specs.declared.parse.FilterError.TheVariants as e
use Rattle.loom_filter.specs.FilterError.{fault_of}
use Rattle.loom_law.specs.Filter.{plan_of}
use Rattle.loom_law.specs.FilterRefusal.{IsNameFault}
use Rattle.loom_law.specs.Judgement.{IsFirst, HasNone}
use Rattle.loom_plan.specs.Compiled.{Compiled}

-- It is the filter's plan in the program, which has all that the filter names.
pub record IsCompiled (p : Source) (file : List ℕ) (f : Filter) (c : Compiled) : Type 0 where
  pub program : c.program ≡ p
  pub plan : c.plan ≡ plan_of p f
  pub names : HasNone (IsNameFault p file f)

abbrev pub TellsCompiled : Source → List ℕ → Filter → Result Compiled FilterError → Type 0
TellsCompiled p file f (Ok c) = IsCompiled p file f c
TellsCompiled p file f (Err (e.Refused r)) = IsFirst (IsNameFault p file f) (fault_of r)
TellsCompiled p file f (Err e.NoMemory) = Unit {0}
