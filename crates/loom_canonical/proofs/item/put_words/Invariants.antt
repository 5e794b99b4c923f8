use Rattle.std.proofs.Common.{◌≡◌, ◌++◌, map, drop}
use Rattle.loom_tree.specs.Lines.{ended}
use Rattle.loom_lang.specs.Canonical.{word_line}
use Rattle.loom_canonical.proofs.item.put_words.Given as goal

abbrev pub invariant-each : goal.invariant-each
invariant-each l = l.out ++ ended (map word_line (drop l.w-index l.w-items)) ≡ l.fn.out ++ ended (map word_line l.words)
