use Rattle.std.proofs.Common.{◌≡◌, ◌≤◌, max, drop}
use Rattle.loom_flow.specs.Depth.{most_before}
use Rattle.loom_flow.proofs.depth.most_before.Given as goal

abbrev pub invariant-pass : goal.invariant-pass
invariant-pass l = record {
  few : l.depth ≤ l.i-index;
  is : max l.most (most_before l.depth (drop l.i-index l.code)) ≡ most_before 0 l.code;
}
