use Rattle.loom_law.proofs.SameRequest.{same_request}
use Rattle.loom_law.proofs.requests.same_request.Goals as goal

pub returns : goal.returns
returns c = same_request
