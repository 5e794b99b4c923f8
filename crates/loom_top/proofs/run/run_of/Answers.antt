use Rattle.loom_top.proofs.Top.{world_run}
use Rattle.loom_top.proofs.run.run_of.Goals as goal

pub returns : goal.returns
returns c =
    let made = c.in_ok-world.ensures.new in
    (made.0, (made.1.0, world_run _ made.0 c.args.limit _ c.run_alone.new.world made.1.1 c.run_alone.ensures.run c.run_alone.ensures.lawful c.run_alone.ensures.finished))
