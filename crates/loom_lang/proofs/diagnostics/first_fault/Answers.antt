use Rattle.loom_tree.specs.Tree.{items_of}
use Rattle.loom_lang.proofs.Least.{first_told}
use Rattle.loom_lang.proofs.diagnostics.first_fault.Goals as goal

pub returns : goal.returns
returns c = first_told (items_of c.args.items.now) c.args.last_line _ c.in_ok-note_all.ensures
