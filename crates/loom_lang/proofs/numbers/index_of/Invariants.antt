use Rattle.std.proofs.Common.{◌≡◌, drop, map}
use Rattle.loom_lang.specs.Numbers.{index_of}
use Rattle.loom_lang.proofs.Lookups.{position_from}
use Rattle.loom_lang.proofs.numbers.index_of.Given as goal

abbrev pub invariant-scan : goal.invariant-scan
invariant-scan g l = position_from l.i l.name (map g.D.Declared.name (drop l.i l.items)) ≡ index_of l.name (map g.D.Declared.name l.items)
