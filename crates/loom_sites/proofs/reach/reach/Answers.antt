use Rattle.std.proofs.Common.{rules, ◌≡◌, List, [], length, subst}
use Rattle.loom_sites.specs.declared.node.TableNode.{TableNode}
use Rattle.loom_sites.specs.Reach.{IsWalked}
use Rattle.loom_sites.proofs.Walk.{walk_step, walk_done, walk_less}
use Rattle.loom_sites.proofs.reach.reach.Goals as goal

pub walk-smaller : goal.walk-smaller
walk-smaller c =
    walk_less c.args.links.now c.args.halts.now c.in-Some.n c.walk.reached c.visit_behind.new.reached c.walk.todo.items c.pop.new.self.items c.visit_behind.new.todo.items c.requires c.in-Some.ensures.items c.in_ok-visit_behind.ensures

pub walk-preserved : goal.walk-preserved
walk-preserved c =
    walk_step c.args.links.now c.args.starts.now c.args.halts.now (length c.args.links.now) c.in-Some.n c.walk.reached c.visit_behind.new.reached c.walk.todo.items c.pop.new.self.items c.visit_behind.new.todo.items c.requires
    c.in-Some.ensures.items c.walk.invariant c.in_ok-visit_behind.ensures

pub returns : goal.returns
returns c m =
    let none : c.walk.todo.items ≡ [] = search rules in
    let P : List TableNode → Type 0 = λ z. IsWalked c.args.links.now c.args.starts.now c.args.halts.now (length c.args.links.now) c.walk.reached z in
    walk_done c.args.links.now c.args.starts.now c.args.halts.now c.walk.reached (subst P none c.walk.invariant) m
