use Rattle.loom_law.proofs.OneRequest.{one_request}
use Rattle.loom_law.proofs.requests.one_request.Goals as goal

pub returns : goal.returns
returns c = one_request
