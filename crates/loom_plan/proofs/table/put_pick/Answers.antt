use Rattle.std.proofs.Common.{sym, ◌∙◌}
use Rattle.loom_plan.specs.PlanView.{site_of, event_watch_of}
use Rattle.loom_plan.proofs.TableSteps.{pick_on}
use Rattle.loom_plan.proofs.table.put_pick.Goals as goal

pub returns-in_ok-push : goal.returns-in_ok-push
returns-in_ok-push c =
    pick_on c.args.names.now (site_of c.args.at) c.args.picks.now.items c.push.new.self.items (record { event = c.args.n; test = c.in_ok-test.test }) (event_watch_of c.args.x.now)
    c.in_ok-push.ensures.items (sym c.is_site.ensures ∙ c.if-is_site.true) c.in_ok-test.ensures
