use Rattle.loom_strand.proofs.WantSteps.{flag_room}
use Rattle.loom_strand.proofs.execution.Execution.is_blocked_at.Goals as goal

pub has-requires : goal.has-requires
has-requires c = flag_room c.args.flow.now c.args.self.now.place c.requires.lowered c.requires.place
