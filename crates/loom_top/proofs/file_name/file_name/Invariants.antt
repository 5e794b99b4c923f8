use Rattle.std.proofs.Common.{◌≡◌, ◌≤◌, drop, length}
use Rattle.loom_law.specs.Judgement.{behind_last_slash, file_name}
use Rattle.loom_top.proofs.file_name.file_name.Given as goal

abbrev pub invariant-bytes : goal.invariant-bytes
invariant-bytes l = record {
  within : l.start ≤ l.i;
  same : behind_last_slash (drop l.start l.word) (drop l.i l.word) ≡ file_name l.word;
}
