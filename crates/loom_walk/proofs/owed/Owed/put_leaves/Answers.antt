use Rattle.std.proofs.Common.{◌∙◌}
use Rattle.loom_walk.proofs.OwedParts.{same_but_rows, only_leaves}
use Rattle.loom_walk.proofs.owed.Owed.put_leaves.Goals as goal

pub returns-clause-same : goal.returns-clause-same
returns-clause-same c = same_but_rows c.args.self.now c.put.new.self _ c.put.ensures.put

pub returns-clause-queue : goal.returns-clause-queue
returns-clause-queue c l = c.put.ensures.queue l ∙ only_leaves c.args.filter l c.nothing.result _ _ c.nothing.ensures.waits c.nothing.ensures.enters c.nothing.ensures.at c.none.ensures c.none-2.ensures
