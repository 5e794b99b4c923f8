use Rattle.std.proofs.Common.{subst}
use Rattle.loom_strand.specs.declared.step_result.Mark.{Mark}
use Rattle.loom_strand.specs.InPart.{IsMarkOf}
use Rattle.loom_strand.proofs.PassSteps.{edge_behind}
use Rattle.loom_strand.proofs.place.place_of.Goals as goal

pub returns-in-Edge : goal.returns-in-Edge
returns-in-Edge c y i h = edge_behind c.args.flow.now y c.in-Edge.place i c.requires.lowered (subst (λ (k : Mark). IsMarkOf c.args.flow.now y k i) c.in-Edge.is h)
