use Rattle.loom_walk.specs.Owed.{queue}
use Rattle.loom_strand.proofs.LiveSteps.{owes_first, first_request}
use Rattle.loom_strand.proofs.execution.Execution.owed_request.Goals as goal

pub unreachable-requires : goal.unreachable-requires
unreachable-requires c = c.requires (owes_first (queue c.args.self.now.walk.owed) c.in-None.ensures)

pub returns : goal.returns
returns c = first_request (queue c.args.self.now.walk.owed) c.in-Some.line c.in-Some.operation c.request_for.result c.in-Some.ensures c.request_for.ensures
