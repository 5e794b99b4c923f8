use Rattle.std.proofs.Common.{◌≡◌, drop}
use Rattle.loom_tree.specs.Tree.{functions_of}
use Rattle.loom_plan.specs.Statements.{function_from}
use Rattle.loom_plan.proofs.statements.first_with.Given as goal

abbrev pub invariant-functions : goal.invariant-functions
invariant-functions l = function_from l.number (functions_of (drop l.number l.funcs)) l.line ≡ function_from 0 (functions_of l.funcs) l.line
