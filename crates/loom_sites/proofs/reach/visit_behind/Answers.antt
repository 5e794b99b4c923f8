use Rattle.loom_sites.proofs.Walk.{second_low, behind_low, visits_behind, visits_both}
use Rattle.loom_sites.proofs.reach.visit_behind.Goals as goal

pub visit-requires-in-Start : goal.visit-requires-in-Start
visit-requires-in-Start c = second_low c.args.links.now c.in-Start.k c.args.n _ c.requires.table c.in-Start.is c.requires.within

pub visit-requires-in-Complete : goal.visit-requires-in-Complete
visit-requires-in-Complete c = behind_low c.args.links.now c.in-Complete.k c.args.n _ c.requires.table c.in-Complete.is c.requires.within

pub returns-in_ok-visit-in-Start-2 : goal.returns-in_ok-visit-in-Start-2
returns-in_ok-visit-in-Start-2 c =
    visits_both c.args.links.now c.args.halts.now c.in-Start.k c.args.n _ c.args.reached.now c.visit.new.reached c.visit-in-Start.new.reached c.args.todo.now.items c.visit.new.todo.items c.visit-in-Start.new.todo.items c.in-Start.is c.requires.within
    c.in_ok-visit-in-Start.ensures c.in_ok-visit-in-Start-2.ensures

pub returns-in_ok-visit-in-Complete : goal.returns-in_ok-visit-in-Complete
returns-in_ok-visit-in-Complete c =
    visits_behind c.args.links.now c.args.halts.now c.in-Complete.k c.args.n _ c.args.reached.now c.visit-in-Complete.new.reached c.args.todo.now.items c.visit-in-Complete.new.todo.items c.in-Complete.is c.requires.within
    c.in_ok-visit-in-Complete.ensures
