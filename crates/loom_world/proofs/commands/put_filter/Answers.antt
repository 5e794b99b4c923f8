use Rattle.loom_world.proofs.FlagSets.{safe_places}
use Rattle.loom_world.proofs.ScriptCommands.{put_here}
use Rattle.loom_world.proofs.commands.put_filter.Goals as goal

pub returns-in-None-clause-flags : goal.returns-in-None-clause-flags
returns-in-None-clause-flags c = (
  c.args.x.filter,
  (
    put_here c.args.plans.now c.put.new.self c.args.k c.args.x.filter c.put.ensures,
    safe_places c.args.flow.now.program c.args.x.filter.plan c.args.x.unsafe_places c.other_places-flags.result c.requires.places c.other_places-flags.ensures,
  ),
)
