use Rattle.std.proofs.Common.{ℕ, List, take}
use Rattle.loom_report.specs.OpenLine.{line_behind, HasLine}
use Rattle.loom_report.proofs.refusal_notes.RefusalNotes.add.Given as goal

abbrev pub invariant-bytes : goal.invariant-bytes
invariant-bytes l = (line : List ℕ) → HasLine line l.fn.self → HasLine (line_behind line (take l.b-index l.text)) l.self
