use Rattle.std.proofs.Common.{◌≡◌, [], ap, sym, ◌∙◌}
use Rattle.std.proofs.lemmas.List.{nil_from_length}
use Rattle.loom_tree.specs.Tree.{items_of, item_of}
use Rattle.loom_lang.specs.FileItems.{gathered}
use Rattle.loom_lang.proofs.FileItems.{gathered-all, few_cells}
use Rattle.loom_lang.proofs.gather.gather.Goals as goal

pub put-requires : goal.put-requires
put-requires c = few_cells c.items.p (item_of c.in-Some.item) (items_of c.next.new.self.rest.items) (items_of c.args.items) (ap (λ z. gathered c.items.p (items_of z)) (sym c.in-Some.ensures.steps.0) ∙ c.items.invariant.all) c.requires

pub returns : goal.returns
returns c =
    let none : c.items.item-iterator.rest.items ≡ [] = nil_from_length _ (sym c.items.item-iterator.rest.ok.0 ∙ c.in-None.ensures.steps.0) in
    ap (λ z. gathered c.items.p (items_of z)) (sym none) ∙ c.items.invariant.all ∙ gathered-all (items_of c.args.items)
