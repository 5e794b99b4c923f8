use Rattle.loom_trace.proofs.Unique.{one_entry}
use Rattle.loom_trace.proofs.laws.one_entry_of_a_line.Goals as goal

pub returns : goal.returns
returns c = one_entry
