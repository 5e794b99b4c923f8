use Rattle.std.proofs.Common.{◌+◌, ◌≤◌, ◌∷◌, [], length, sym, subst, arith}
use Rattle.loom_tree.specs.Tree.{function_of}
use Rattle.loom_tree.specs.declared.statement.Func.{Func}
use Rattle.loom_lang.specs.Limits.{local_limit}
use Rattle.loom_lang.specs.Places.{places_from}
use Rattle.loom_lang.specs.Rules.{locals_of}
use Rattle.loom_plan.specs.PlanView.{plan_of_rows}
use Rattle.loom_plan.specs.PlaceEvents.{names_from}
use Rattle.loom_plan.specs.Table.{GoOn, sites_at}
use Rattle.loom_plan.proofs.TableSteps.{few_at, functions_on}
use Rattle.loom_plan.proofs.table.put_functions.Goals as goal

pub put_function-requires-clause-locals : goal.put_function-requires-clause-locals
put_function-requires-clause-locals c =
    subst (λ (f : Func). length (locals_of (function_of f)) ≤ local_limit) (sym c.index-funcs-i.is) (few_at c.args.funcs.now c.put.i c.index-funcs-i.result c.put-test.true c.requires.locals)

pub put-preserved : goal.put-preserved
put-preserved c =
    functions_on (plan_of_rows c.args.events.now []) c.args.rows.now.items c.put.rows.items c.put_function.new.rows.items c.args.funcs.now c.put.i (c.put.i + 1) c.index-funcs-i.result (omega arith) c.put-test.true
    c.put.invariant
    (subst (λ (f : Func). GoOn (plan_of_rows c.args.events.now []) c.put.rows.items c.put_function.new.rows.items (names_from (function_of f ∷ [])) (sites_at (places_from c.put.i (function_of f ∷ [])))) c.index-funcs-i.is c.in_ok-put_function.ensures)
