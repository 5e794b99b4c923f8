use Rattle.std.proofs.Common.{ap, Some}
use Rattle.loom_flow.proofs.Sizes.{number_behind}
use Rattle.loom_flow.proofs.statement.set.Goals as goal

pub returns-in_ok-store-in-Call-clause-resume : goal.returns-in_ok-store-in-Call-clause-resume
returns-in_ok-store-in-Call-clause-resume c =
    λ at h. rw c.in-Call.is (ap Some (number_behind c.args.spot.line c.args.spot.place _ _ _ _ at c.in_ok-resume-in-Call.ensures.resume c.in_ok-resume-in-Call.ensures.code h))
