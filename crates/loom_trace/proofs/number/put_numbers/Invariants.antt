use Rattle.std.proofs.Common.{◌≡◌, ◌≤◌, ◌+◌, ◌*◌, ◌++◌, length, map, take}
use Rattle.loom_trace.specs.Text.{spaced}
use Rattle.loom_trace.proofs.number.put_numbers.Given as goal

abbrev pub invariant-loop-n : goal.invariant-loop-n
invariant-loop-n g l = record {
  text : take l.end l.cells ≡ take l.at l.fn.cells ++ spaced (map g.N.Number.text (take l.n-index l.numbers));
  short : l.end ≤ l.at + (g.N.Number.most + 1) * l.n-index;
  len : length l.cells ≡ length l.fn.cells;
}
