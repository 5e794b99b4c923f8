use Rattle.loom_trace.proofs.Unique.{one_journal}
use Rattle.loom_trace.proofs.laws.one_journal_of_a_text.Goals as goal

pub returns : goal.returns
returns c = one_journal
