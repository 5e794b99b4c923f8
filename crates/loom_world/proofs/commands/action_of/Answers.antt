use Rattle.std.proofs.Common.{subst}
use Rattle.loom_version.specs.Plans.{plans_in}
use Rattle.loom_world.specs.Commands.{IsJudgedSoFar}
use Rattle.loom_world.specs.CommandView.{judgement_of}
use Rattle.loom_world.proofs.commands.action_of.Goals as goal

pub returns-in_ok-x-in-Install-clause-is : goal.returns-in_ok-x-in-Install-clause-is
returns-in_ok-x-in-Install-clause-is c =
    rw c.in-Install.is
    (subst (λ t. IsJudgedSoFar c.args.flow.now.program c.args.file.now t (judgement_of (plans_in c.judged.new.plans c.args.k) c.in_ok-x-in-Install.x)) c.bytes.ensures c.in_ok-x-in-Install.ensures.judged)
