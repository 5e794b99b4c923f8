use Rattle.loom_io.proofs.Counts.{failed_put, calm_put, within_put, told_put}
use Rattle.loom_io.proofs.memory.MemSinkSink.TheImpl.Goals as goal

pub put-tells : goal.put-tells
put-tells c = record {
  some = c.ensures.some;
  within = within_put c.result c.args.piece.now _ c.ensures.count;
  later = c.ensures.later;
  calm = calm_put c.result c.args.self.now.faults c.new.self.now.faults c.ensures.faults;
  took = told_put c.result c.args.self.now.taken c.new.self.now.taken c.args.piece.now c.ensures.ok c.ensures.err;
  failed = failed_put c.result c.args.self.now.faults c.new.self.now.faults c.ensures.faults;
}
