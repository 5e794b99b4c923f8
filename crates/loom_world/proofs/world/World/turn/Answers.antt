use Rattle.std.proofs.Common.{◌∙◌, sym}
use Rattle.loom_world.proofs.Strands.{strands_controlled}
use Rattle.loom_world.proofs.world.World.turn.Goals as goal

pub invariant_of-self : goal.invariant_of-self
invariant_of-self c =
    let e = c.control.ensures in (
      c.self.invariant.0 ∙ sym e.run.program,
      e.lawful,
      strands_controlled c.self.inside.book c.control.new.self c.self.inside.strands.items c.control.result c.self.invariant.2 e.run e.store e.stands e.turns,
    )
