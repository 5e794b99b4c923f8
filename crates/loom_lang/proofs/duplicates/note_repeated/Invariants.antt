use Rattle.std.proofs.Common.{◌≡◌, ◌++◌, take, drop}
use Rattle.loom_lang.specs.declared.refusal.Reason.TheVariants as reason
use Rattle.loom_lang.specs.Refusal.{repeated}
use Rattle.loom_lang.specs.Fault.{behind_faults}
use Rattle.loom_lang.specs.Fault.{names_of}
use Rattle.loom_lang.proofs.duplicates.note_repeated.Given as goal

abbrev pub invariant-scan : goal.invariant-scan
invariant-scan l = behind_faults l.first reason.NameTwice (repeated (l.names ++ names_of (take l.i l.locals)) (drop l.i l.locals)) ≡ behind_faults l.fn.first reason.NameTwice (repeated l.names l.locals)
