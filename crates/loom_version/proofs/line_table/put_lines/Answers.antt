use Rattle.std.proofs.Common.{◌-◌, length, refl, arith}
use Rattle.loom_version.proofs.TableLines.{nothing_in, one_more, all_of}
use Rattle.loom_version.proofs.line_table.put_lines.Goals as goal

pub down-init : goal.down-init
down-init c = record {
  within = omega arith;
  old = λ p h. h;
  new = nothing_in c.args.table.now c.args.events.now (length c.args.events.now) refl;
}

pub down-preserved : goal.down-preserved
down-preserved c = record {
  within = omega arith;
  old = λ p h. c.put_line.ensures.old p (c.down.invariant.old p h);
  new = one_more c.down.table c.put_line.new.table c.args.events.now c.down.n (c.down.n - 1) c.index-events-n.result (omega arith) (omega arith) c.index-events-n.is
      c.put_line.ensures.old c.put_line.ensures.new c.down.invariant.new;
}

pub returns-clause-new : goal.returns-clause-new
returns-clause-new c = all_of c.down.table c.args.events.now c.down.n (omega arith) c.down.invariant.new
