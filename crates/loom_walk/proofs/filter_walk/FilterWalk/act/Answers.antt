use Rattle.std.proofs.Common.{refl, sym, subst, arith}
use Rattle.loom_walk.specs.FilterWalk.{FilterWalk, IsAt}
use Rattle.loom_walk.proofs.ItemSteps.{acts}
use Rattle.loom_walk.proofs.WalkCalls.{room_kept}
use Rattle.loom_walk.proofs.filter_walk.FilterWalk.act.Goals as goal

pub returns-clause-at : goal.returns-clause-at
returns-clause-at c p plans z l a own h = acts p plans _ z l a own (subst (λ (w : FilterWalk). IsAt p plans w z) (sym c.self.view_is) h)

pub returns-clause-room : goal.returns-clause-room
returns-clause-room c = room_kept c.args.self.now _ _ c.self.view_is refl (omega arith) (omega arith)
