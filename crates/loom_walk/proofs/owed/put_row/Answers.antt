use Rattle.std.proofs.Common.{[], ◌∷◌, ◌++◌, if◌then◌else◌, Bool, sym, ap, ◌∙◌}
use Rattle.loom_walk.proofs.owed.put_row.Goals as goal

pub returns-then-not-has_operations : goal.returns-then-not-has_operations
returns-then-not-has_operations c = ap (λ (b : Bool). if b then c.args.rows.now.items ++ c.args.row ∷ [] else c.args.rows.now.items) (sym c.if-not-has_operations.true ∙ c.has_operations.ensures)

pub returns : goal.returns
returns c = c.push.ensures.items ∙ ap (λ (b : Bool). if b then c.args.rows.now.items ++ c.args.row ∷ [] else c.args.rows.now.items) (sym c.if-not-has_operations.false ∙ c.has_operations.ensures)
