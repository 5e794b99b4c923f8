use Rattle.std.proofs.Common.{refl}
use Rattle.loom_io.proofs.Counts.{failed_read, untold_read, never_missing}
use Rattle.loom_io.proofs.adapters.DirShelfShelf.TheImpl.Goals as goal

pub read-tells : goal.read-tells
read-tells g c = record {
  kept = λ _. refl;
  later = λ _. c.ensures.later;
  short = c.ensures.short;
  whole = untold_read c.result c.args.limit;
  missing = never_missing;
  failed = failed_read c.result c.args.self.now.faults c.new.self.now.faults c.ensures.faults;
}
