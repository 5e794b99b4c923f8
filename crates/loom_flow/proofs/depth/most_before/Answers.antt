use Rattle.std.proofs.Common.{◌-◌, ◌≤◌, ◌∙◌, ap, sym, arith}
use Rattle.loom_flow.proofs.Deepest.{most_more, most_all}
use Rattle.loom_flow.proofs.depth.most_before.Goals as goal

pub overflow_add-depth : goal.overflow_add-depth
overflow_add-depth c =
    let few : c.pass.depth ≤ c.pass.i-index = c.pass.invariant.few in
    omega arith

pub pass-preserved : goal.pass-preserved
pass-preserved c =
    let few : c.pass.depth ≤ c.pass.i-index = c.pass.invariant.few in
    record {
      few = omega (arith, c.saturating_sub.ensures, c.puts_on.ensures.few);
      is = most_more c.args.code.now c.pass.i-index c.pass.most c.pass.depth _ _ _ _ c.pass-test.true c.max-most.ensures (c.saturating_sub.ensures ∙ ap (λ m. c.pass.depth - m) c.takes_off.ensures) c.puts_on.ensures.is ∙ c.pass.invariant.is;
    }

pub returns : goal.returns
returns c = sym (most_all c.args.code.now c.pass.i-index c.pass.most c.pass.depth (omega arith)) ∙ c.pass.invariant.is
