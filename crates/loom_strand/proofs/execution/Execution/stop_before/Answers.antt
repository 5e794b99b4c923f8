use Rattle.std.proofs.Common.{◌≡◌, Some, sym}
use Rattle.loom_flow.specs.Progress.{progress}
use Rattle.loom_strand.specs.Machine.{position}
use Rattle.loom_strand.specs.StepResult.{place_here, place_coming}
use Rattle.loom_strand.proofs.FlagRoom.{coming_room}
use Rattle.loom_strand.proofs.execution.Execution.stop_before.Goals as goal

pub has-requires : goal.has-requires
has-requires c =
    let comes : place_coming c.args.flow.now (place_here c.args.flow.now (position c.args.self.now.machine)) (progress c.args.flow.now (position c.args.self.now.machine)) ≡ Some c.in_ok-place.place = sym c.in_ok-place.ensures in
    coming_room c.args.flow.now c.args.self.now.machine c.in_ok-place.place c.requires.lowered c.requires.running comes
