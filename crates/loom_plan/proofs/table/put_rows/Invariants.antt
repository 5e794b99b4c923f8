use Rattle.std.proofs.Common.{[], take}
use Rattle.loom_plan.specs.PlanView.{plan_of_rows}
use Rattle.loom_plan.specs.Table.{GoOn, same_names, sites_of}
use Rattle.loom_plan.proofs.table.put_rows.Given as goal

abbrev pub invariant-put : goal.invariant-put
invariant-put l = GoOn (plan_of_rows l.events []) l.fn.rows.items l.rows.items (same_names l.names (sites_of (take l.site-index l.sites))) (sites_of (take l.site-index l.sites))
