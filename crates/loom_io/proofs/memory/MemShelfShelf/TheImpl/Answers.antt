use Rattle.std.proofs.Common.{ap, inr}
use Rattle.loom_io.specs.Files.{bytes_of}
use Rattle.loom_io.specs.Shelf.{state_of}
use Rattle.loom_io.proofs.Counts.{failed_read, short_read, whole_read, no_file}
use Rattle.loom_io.proofs.memory.MemShelfShelf.TheImpl.Goals as goal

pub read-tells : goal.read-tells
read-tells c = record {
  kept = λ n. ap (λ files. state_of (bytes_of files n)) c.ensures.files;
  later = λ _. c.ensures.later;
  short = short_read c.result (bytes_of c.args.self.now.files c.args.name.now) c.args.limit c.ensures.ok;
  whole = whole_read c.result (bytes_of c.args.self.now.files c.args.name.now) c.args.limit c.ensures.ok;
  missing = λ h. c.ensures.failed.1 (inr (no_file (bytes_of c.args.self.now.files c.args.name.now) h));
  failed = failed_read c.result c.args.self.now.faults c.new.self.now.faults c.ensures.faults;
}
