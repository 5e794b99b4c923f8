use Rattle.std.proofs.Common.{◌<◌, length, ap, arith}
use Rattle.loom_ops.specs.Rows.{befores_of}
use Rattle.loom_ops.proofs.Befores.{before_more, before_all}
use Rattle.loom_ops.proofs.rows.events_before.Goals as goal

pub events-init : goal.events-init
events-init c = record {
  low = omega arith;
  few = omega (arith, ap length c.new-befores.ensures);
  are = ap befores_of c.new-befores.ensures;
}

pub events-preserved : goal.events-preserved
events-preserved c =
    let low : c.events.n < length c.args.c.now.plan.watches = omega (arith, c.events-test.true, c.events-count.ensures.is) in
    record {
      low = omega arith;
      few = omega (arith, c.push.ensures.len, c.events.invariant.few);
      are = before_more c.args.c.now.plan c.events.n c.events.befores.items c.push.new.self.items c.order_before.result low c.push.ensures.items c.events.invariant.are c.order_before.ensures;
    }

pub returns : goal.returns
returns c =
    before_all c.args.c.now.plan c.events.n c.events.befores.items (omega (arith, c.events-test.false, c.events-count.ensures.is)) c.events.invariant.are
