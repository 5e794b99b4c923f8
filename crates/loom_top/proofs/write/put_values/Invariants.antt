use Rattle.std.proofs.Common.{◌≤◌, ◌≡◌, take}
use Rattle.loom_io.specs.Page.{PageTook}
use Rattle.loom_top.proofs.JournalLines.{printed_text}
use Rattle.loom_top.proofs.write.put_values.Given as goal

abbrev pub invariant-values : goal.invariant-values
invariant-values g l = record {
  later : g.K.Sink.faults l.fn.sink ≤ g.K.Sink.faults l.sink;
  calm : g.K.Sink.faults l.sink ≡ g.K.Sink.faults l.fn.sink;
  paged : PageTook (g.K.Sink.taken l.fn.sink) (g.K.Sink.taken l.sink) l.fn.page l.page (printed_text (take l.i l.journal.entries));
}
