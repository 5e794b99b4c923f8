use Rattle.std.proofs.Common.{[]}
use Rattle.loom_plan.specs.PlanView.{plan_of_rows}
use Rattle.loom_plan.specs.Table.{site_if}
use Rattle.loom_plan.proofs.TableSteps.{row_on}
use Rattle.loom_plan.proofs.table.put_row.Goals as goal

pub returns : goal.returns
returns c = row_on (plan_of_rows c.args.events.now []) c.args.rows.now.items c.push.new.self.items c.args.names.now (site_if c.args.at) c.in_ok-row.row c.in_ok-push.ensures.items c.in_ok-row.ensures
