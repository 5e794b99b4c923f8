use Rattle.std.proofs.Common.{◌≡◌}
use Rattle.loom_tree.specs.Tree.{items_of}
use Rattle.loom_lang.specs.FileItems.{nothing, gathered}
use Rattle.loom_lang.proofs.gather.gather.Given as goal

abbrev pub invariant-items : goal.invariant-items
invariant-items l = record {
  next : (goal.iterator-items).can_next l.item-iterator;
  finite : (goal.iterator-items).is_finite l.item-iterator;
  all : gathered l.p (items_of l.item-iterator.rest.items) ≡ gathered nothing (items_of l.fn.items);
}
