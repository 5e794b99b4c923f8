use Rattle.std.proofs.Common.{length, ◌≡◌, ◌≤◌, take}
use Rattle.loom_script.specs.Words.{without_blank_end}
use Rattle.loom_script.proofs.word.without_blank_end.Given as goal

abbrev pub invariant-back : goal.invariant-back
invariant-back l = record {
  within : l.end ≤ length l.bytes;
  same : without_blank_end (take l.end l.bytes) ≡ without_blank_end l.bytes;
}

abbrev pub decreases-back : goal.decreases-back
decreases-back l = l.end
