use Rattle.std.proofs.Common.{◌∙◌}
use Rattle.loom_walk.proofs.OwedParts.{same_but_rows, only_before}
use Rattle.loom_walk.proofs.owed.Owed.put_before.Goals as goal

pub returns-clause-same : goal.returns-clause-same
returns-clause-same c = same_but_rows c.args.self.now c.put.new.self _ c.put.ensures.put

pub returns-clause-queue : goal.returns-clause-queue
returns-clause-queue c l = c.put.ensures.queue l ∙ only_before c.args.filter l c.args.before c.nothing.result _ c.nothing.ensures.past c.nothing.ensures.posts c.nothing.ensures.leaves
