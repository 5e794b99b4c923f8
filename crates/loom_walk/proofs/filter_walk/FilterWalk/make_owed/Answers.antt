use Rattle.std.proofs.Common.{◌≡◌, [], Some, subst}
use Rattle.loom_walk.specs.Owed.{queue}
use Rattle.loom_walk.specs.FilterWalk.{FilterWalk, IsFirstOperation}
use Rattle.loom_walk.proofs.OwnOperations.{no_first}
use Rattle.loom_walk.proofs.filter_walk.FilterWalk.make_owed.Goals as goal

pub first_operation-requires : goal.first_operation-requires
first_operation-requires c = c.self.invariant.rows.owed

pub make_first-requires-clause-first : goal.make_first-requires-clause-first
make_first-requires-clause-first c = subst (λ (w : FilterWalk). IsFirstOperation (queue w.owed) (Some c.in-Some.operation)) c.self.view_is c.in-Some.ensures

pub returns-in-None : goal.returns-in-None
returns-in-None c = absurd (c.requires.owes (subst (λ (w : FilterWalk). queue w.owed ≡ []) c.self.view_is (no_first (queue c.self.inside.owed) c.in-None.ensures)))
