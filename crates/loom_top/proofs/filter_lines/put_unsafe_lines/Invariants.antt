use Rattle.std.proofs.Common.{◌≡◌, ◌++◌, drop}
use Rattle.loom_tree.specs.Lines.{ended}
use Rattle.loom_lang.specs.Places.{places}
use Rattle.loom_trace.specs.Places.{has_place}
use Rattle.loom_top.specs.ShowText.{unsafe_lines}
use Rattle.loom_top.proofs.filter_lines.put_unsafe_lines.Given as goal

abbrev pub invariant-numbers : goal.invariant-numbers
invariant-numbers l = record {
  left : l.out ++ ended (unsafe_lines l.flow.program (has_place l.set) l.place (drop l.place (places l.flow.program))) ≡ l.fn.out ++ ended (unsafe_lines l.flow.program (has_place l.set) 0 (places l.flow.program));
}
