use Rattle.std.proofs.Common.{◌+◌, ◌++◌, get_or, subst, arith}
use Rattle.loom_plan.specs.declared.plan.EventWatch.{EventWatch}
use Rattle.loom_plan.specs.PlanView.{site_of, event_watch_of}
use Rattle.loom_plan.specs.Table.{pick_if, HasPick}
use Rattle.loom_plan.proofs.TableSteps.{picks_more}
use Rattle.loom_plan.proofs.table.picks.Goals as goal

pub put-preserved : goal.put-preserved
put-preserved c =
    let x : EventWatch = get_or c.args.events.now c.put.i c.index-events-i.result in
    let has : HasPick c.args.names.now c.put.picks.items c.put_pick.new.picks.items (pick_if (site_of c.args.at) (c.put.i + 1) (event_watch_of x))
    = subst (λ (y : EventWatch). HasPick c.args.names.now c.put.picks.items c.put_pick.new.picks.items (pick_if (site_of c.args.at) (c.put.i + 1) (event_watch_of y))) c.index-events-i.is c.in_ok-put_pick.ensures in (
      c.put.invariant.0 ++ pick_if (site_of c.args.at) (c.put.i + 1) (event_watch_of x),
      has c.put.invariant.0 c.put.invariant.1,
      picks_more (site_of c.args.at) (c.put.i + 1) (c.put.i + 1 + 1) c.put.i (c.put.i + 1) c.args.events.now c.index-events-i.result c.put.invariant.0 _ (omega arith) (omega arith) c.put-test.true c.put.invariant.2,
    )
