use Rattle.std.proofs.Common.{[], ap, ◌∙◌}
use Rattle.loom_tree.specs.Tree.{function_of}
use Rattle.loom_plan.specs.PlanView.{plan_of_rows}
use Rattle.loom_plan.specs.Table.{sites_of}
use Rattle.loom_plan.proofs.TableSteps.{function_on}
use Rattle.loom_plan.proofs.table.put_function.Goals as goal

pub returns : goal.returns
returns c =
    function_on (plan_of_rows c.args.events.now []) c.args.rows.now.items c.put_rows.new.rows.items c.args.n (function_of c.args.f.now) c.in_ok-names.names (sites_of c.deref.result.now)
    c.in_ok-names.ensures (ap sites_of c.deref.ensures.value ∙ c.in_ok-sites.ensures) c.in_ok-put_rows.ensures
