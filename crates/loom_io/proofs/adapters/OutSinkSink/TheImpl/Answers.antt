use Rattle.loom_io.proofs.Counts.{failed_put, calm_put, untold_put}
use Rattle.loom_io.proofs.adapters.OutSinkSink.TheImpl.Goals as goal

pub put-tells : goal.put-tells
put-tells g c = record {
  some = c.ensures.some;
  within = c.ensures.within;
  later = c.ensures.later;
  calm = calm_put c.result c.args.self.now.faults c.new.self.now.faults c.ensures.faults;
  took = untold_put c.result c.args.piece.now;
  failed = failed_put c.result c.args.self.now.faults c.new.self.now.faults c.ensures.faults;
}
