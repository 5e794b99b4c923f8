use Rattle.loom_strand.proofs.pass.pass.Goals as goal

pub place_of-requires-clause-mark : goal.place_of-requires-clause-mark
place_of-requires-clause-mark c = (c.args.machine.now.state, (c.requires.passes.item, c.requires.passes.is))

pub returns-clause-place : goal.returns-clause-place
returns-clause-place c = c.place_of.ensures c.args.machine.now.state
