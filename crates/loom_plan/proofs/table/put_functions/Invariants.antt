use Rattle.std.proofs.Common.{[], take}
use Rattle.loom_tree.specs.Tree.{functions_of}
use Rattle.loom_lang.specs.Places.{places_from}
use Rattle.loom_plan.specs.PlanView.{plan_of_rows}
use Rattle.loom_plan.specs.PlaceEvents.{names_from}
use Rattle.loom_plan.specs.Table.{GoOn, sites_at}
use Rattle.loom_plan.proofs.table.put_functions.Given as goal

abbrev pub invariant-put : goal.invariant-put
invariant-put l = GoOn (plan_of_rows l.events []) l.fn.rows.items l.rows.items (names_from (functions_of (take l.i l.funcs))) (sites_at (places_from 0 (functions_of (take l.i l.funcs))))
