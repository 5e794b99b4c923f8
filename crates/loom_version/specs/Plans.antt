-- The filters of commands, by the numbers of the commands.
use Rattle.std.specs.Prelude.{ℕ, zero, suc, ◌≡◌, List, slice_get, Option, Some, None}
use Rattle.std.specs.Option.{option_flatten}
use Rattle.loom_tree.specs.Tree.{Source}
use Rattle.loom_law.specs.Filter.{Plan}
use Rattle.loom_law.specs.Walk.{Plans}
use Rattle.loom_law.specs.Control.{no_plan}
use Rattle.loom_plan.specs.Compiled.{Compiled}

-- the filter of a command's number, from 1
abbrev pub compiled_at : List (Option Compiled) → ℕ → Option Compiled
compiled_at cs zero = None
compiled_at cs (suc n) = option_flatten (slice_get cs n)

abbrev pub compiled_plan : Option Compiled → Plan
compiled_plan None = no_plan
compiled_plan (Some c) = c.plan

-- what the filter of each command is in the program
abbrev pub plans_in : List (Option Compiled) → Plans
plans_in cs k = compiled_plan (compiled_at cs k)

-- all are filters in this program
abbrev pub AreFiltersOf : Source → List (Option Compiled) → Type 0
AreFiltersOf p cs = (k : ℕ) (c : Compiled) → compiled_at cs k ≡ Some c → c.program ≡ p
