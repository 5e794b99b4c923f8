use Rattle.loom_strand.proofs.EnterSteps.{somewhere_entered, runs_behind}
use Rattle.loom_strand.proofs.execution.Execution.go_on.Goals as goal

pub run-requires-clause-somewhere : goal.run-requires-clause-somewhere
run-requires-clause-somewhere c =
    (c.args.birth, somewhere_entered c.args.flow.now c.args.plans.now c.args.birth c.args.flags.now c.args.newer c.args.self.now c.enter.new.self c.in-None.ensures.enters c.requires.somewhere)

pub returns-in-None : goal.returns-in-None
returns-in-None c =
    runs_behind c.args.flow.now c.args.plans.now c.args.birth c.args.flags.now c.args.newer c.args.self.now c.enter.new.self c.run.new.self c.run.result c.in-Enters.is c.requires.may c.in-None.ensures.enters
    (c.run.ensures c.args.birth)

pub returns : goal.returns
returns c = c.run-2.ensures c.args.birth
