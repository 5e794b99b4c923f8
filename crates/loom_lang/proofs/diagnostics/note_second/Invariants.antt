use Rattle.std.proofs.Common.{◌≡◌, drop}
use Rattle.loom_lang.specs.declared.refusal.Reason.TheVariants as reason
use Rattle.loom_lang.specs.Refusal.{second_lines}
use Rattle.loom_lang.specs.Fault.{behind_faults}
use Rattle.loom_lang.proofs.diagnostics.note_second.Given as goal

abbrev pub invariant-scan : goal.invariant-scan
invariant-scan l = behind_faults l.first reason.SecondOnLine (second_lines l.before (drop l.line-index l.lines)) ≡ behind_faults l.fn.first reason.SecondOnLine (second_lines 0 l.lines)
