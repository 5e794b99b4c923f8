use Rattle.std.proofs.Common.{◌≡◌, ◌+◌, ◌≤◌, true, map, drop}
use Rattle.loom_tree.specs.declared.item.Word.{Word}
use Rattle.loom_lang.specs.Limits.{cell_limit}
use Rattle.loom_lang.specs.Numbers.{cells_from}
use Rattle.loom_lang.specs.Rules.{cell_count, is_in}
use Rattle.loom_lang.proofs.numbers.cells.Given as goal

abbrev pub invariant-scan : goal.invariant-scan
invariant-scan l = record {
  room : l.first + cell_count (drop l.w-index l.words) ≤ cell_limit;
  there : is_in l.x (map (λ (w : Word). w.name) (drop l.w-index l.words)) ≡ true;
  cells : cells_from l.first (drop l.w-index l.words) l.x ≡ cells_from 0 l.words l.x;
}
