use Rattle.std.proofs.Common.{◌≡◌, sym, subst, to_z, of_z, w64, rules}
use Rattle.std.proofs.lemmas.Int.{to_z-of_z}
use Rattle.loom_flow.specs.Progress.{progress}
use Rattle.loom_strand.specs.Machine.{position, TakesAnswer}
use Rattle.loom_strand.specs.Reply.{Takes}
use Rattle.loom_strand.proofs.Takings.{takes_begin, takes_wait, takes_value, takes_trap}
use Rattle.loom_strand.proofs.execution.Execution.take.Goals as goal

pub returns-in-Begins : goal.returns-in-Begins
returns-in-Begins c =
    subst (Takes c.args.flow.now c.args.plans.now c.args.newest c.args.self.now _) (sym c.in-Begins.is)
    (takes_begin c.args.flow.now c.args.plans.now c.args.newest c.args.self.now c.begin.new.self c.begin.ensures.at c.begin.ensures.room)

pub returns-in-Waits : goal.returns-in-Waits
returns-in-Waits c =
    subst (Takes c.args.flow.now c.args.plans.now c.args.newest c.args.self.now _) (sym c.in-Waits.is)
    (takes_wait c.args.flow.now c.args.plans.now c.args.newest c.args.self.now c.block.new.self c.block.ensures.at c.block.ensures.room)

pub returns-in-Gives : goal.returns-in-Gives
returns-in-Gives c =
    let same : to_z w64 (of_z w64 c.in-Gives.v) ≡ c.in-Gives.v = to_z-of_z w64 c.in-Gives.v (search rules) in
    subst (Takes c.args.flow.now c.args.plans.now c.args.newest c.args.self.now _) (sym c.in-Gives.is)
    (takes_value c.args.flow.now c.args.plans.now c.args.newest c.args.self.now c.give.new.machine c.act.new.self c.in-Gives.v
    (subst (λ v. TakesAnswer c.args.self.now.machine c.give.new.machine v (progress c.args.flow.now (position c.args.self.now.machine))) same c.give.ensures) c.act.ensures.at c.act.ensures.room)

pub returns-in-Traps : goal.returns-in-Traps
returns-in-Traps c =
    subst (Takes c.args.flow.now c.args.plans.now c.args.newest c.args.self.now _) (sym c.in-Traps.is)
    (takes_trap c.args.flow.now c.args.plans.now c.args.newest c.args.self.now c.stop.new.self c.trap.new.self c.in-Traps.line c.stop.ensures c.trap.ensures.at c.trap.ensures.room)
