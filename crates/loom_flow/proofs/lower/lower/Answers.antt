use Rattle.std.proofs.Common.{◌≡◌, ap, ◌∙◌}
use Rattle.loom_flow.specs.Flow.{Flow}
use Rattle.loom_flow.proofs.FlowLaws.{traces_of, calls_of}
use Rattle.loom_flow.proofs.lower.lower.Goals as goal

pub returns-clause-traces : goal.returns-clause-traces
returns-clause-traces c =
    let is : c.new-3.result.program ≡ c.args.p.now = ap (λ (z : Flow). z.program) c.new-3.ensures.flat ∙ c.in_ok-program.ensures.ok ∙ c.in_ok-code.ensures.program ∙ c.in_ok-copied.ensures in
    traces_of c.new-3.result c.args.p.now c.new-3.ensures.lowered is

pub returns-clause-calls : goal.returns-clause-calls
returns-clause-calls c =
    let is : c.new-3.result.program ≡ c.args.p.now = ap (λ (z : Flow). z.program) c.new-3.ensures.flat ∙ c.in_ok-program.ensures.ok ∙ c.in_ok-code.ensures.program ∙ c.in_ok-copied.ensures in
    calls_of c.new-3.result c.args.p.now c.new-3.ensures.lowered is
