use Rattle.loom_lang.specs.Places.{places}
use Rattle.loom_plan.specs.Sets.{event_numbers}
use Rattle.loom_plan.proofs.Rows.{get_some}
use Rattle.loom_sites.proofs.Watches.{watched_is}
use Rattle.loom_sites.proofs.events.watched_at.Goals as goal

pub returns : goal.returns
returns c =
    let y = get_some (places c.args.c.now.program) c.args.k c.requires in
    watched_is c.args.c.now.program c.args.c.now.plan c.args.k y.0 (event_numbers c.watched.result) y.1 c.watched.ensures
