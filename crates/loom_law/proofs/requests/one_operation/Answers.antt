use Rattle.loom_law.proofs.OneRequest.{one_operation}
use Rattle.loom_law.proofs.requests.one_operation.Goals as goal

pub returns : goal.returns
returns c = one_operation
