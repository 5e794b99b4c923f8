use Rattle.std.proofs.Common.{◌≡◌, ◌++◌, suc, drop}
use Rattle.loom_tree.specs.Lines.{ended}
use Rattle.loom_top.specs.ShowText.{event_lines}
use Rattle.loom_top.proofs.filter_lines.put_event_lines.Given as goal

abbrev pub invariant-events : goal.invariant-events
invariant-events l = record {
  left : l.out ++ ended (event_lines l.plan.program (suc l.n) (drop l.n l.plan.plan.watches)) ≡ l.fn.out ++ ended (event_lines l.plan.program 1 l.plan.plan.watches);
}
