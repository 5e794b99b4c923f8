use Rattle.std.proofs.Common.{◌≤◌, ◌≡◌, take}
use Rattle.loom_io.specs.Page.{PageTook}
use Rattle.loom_top.proofs.JournalLines.{entries_text}
use Rattle.loom_top.proofs.write.put_entries.Given as goal

abbrev pub invariant-entries : goal.invariant-entries
invariant-entries g l = record {
  later : g.K.Sink.faults l.fn.sink ≤ g.K.Sink.faults l.sink;
  calm : g.K.Sink.faults l.sink ≡ g.K.Sink.faults l.fn.sink;
  paged : PageTook (g.K.Sink.taken l.fn.sink) (g.K.Sink.taken l.sink) l.fn.page l.page (entries_text (take l.i l.journal.entries));
}
