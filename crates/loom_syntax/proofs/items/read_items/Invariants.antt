use Rattle.loom_syntax.specs.FileView.{reader_of}
use Rattle.loom_syntax.proofs.Refusal.{Taken}
use Rattle.loom_syntax.proofs.items.read_items.Given as goal

abbrev pub invariant-read : goal.invariant-read
invariant-read l = Taken l.bytes l.tokens l.i (reader_of l.reader)
