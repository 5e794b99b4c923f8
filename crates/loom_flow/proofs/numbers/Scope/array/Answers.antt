use Rattle.std.proofs.Common.{◌≡◌, ◌∙◌, List, sym, ap}
use Rattle.loom_tree.specs.declared.item.Word.{Word}
use Rattle.loom_lang.specs.Numbers.{cells_from}
use Rattle.loom_flow.proofs.Roles.{array_counted}
use Rattle.loom_flow.proofs.numbers.Scope.array.Goals as goal

pub unreachable-requires : goal.unreachable-requires
unreachable-requires c =
    let words : c.deref.result.now ≡ c.args.self.now.program.words = c.deref.ensures.value ∙ c.behind-self.view_is ∙ c.words.ensures.words in
    array_counted c.args.self.now.program c.args.x.now c.cells-first.result.0 c.cells-first.result.1 c.words.ensures.rules c.requires
    (ap (λ (ws : List Word). cells_from 0 ws c.args.x.now) (sym words) ∙ c.cells-first.ensures) c.in-None.is
