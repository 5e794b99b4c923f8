use Rattle.std.proofs.Common.{◌≡◌, ◌+◌, ◌≤◌, ◌++◌, drop, length, flat_map}
use Rattle.loom_tree.specs.declared.item.Word.{Word}
use Rattle.loom_lang.specs.Limits.{cell_limit}
use Rattle.loom_lang.specs.Rules.{cell_count}
use Rattle.loom_event.specs.Replay.{first_values}
use Rattle.loom_store.proofs.start.first_words.Given as goal

abbrev pub invariant-words : goal.invariant-words
invariant-words l = record {
  room : length l.values.items + cell_count (drop l.word-index l.words) ≤ cell_limit;
  values :
      l.values.items ++ flat_map (λ (x : Word). first_values x.cells x.first) (drop l.word-index l.words)
      ≡ flat_map (λ (x : Word). first_values x.cells x.first) l.words;
}
