use Rattle.std.proofs.Common.{Bool, [], Some, refl, sym, subst}
use Rattle.loom_walk.specs.declared.owed.OwedOperation.TheVariants as o
use Rattle.loom_walk.specs.Owed.{rows_queue, back_queue, IsFirstOf}
use Rattle.loom_walk.proofs.owed.first_behind.Goals as goal

pub returns-then-back : goal.returns-then-back
returns-then-back c =
    subst (λ (b : Bool). IsFirstOf (back_queue b c.args.line (rows_queue c.args.line c.args.rows.now [])) (Some (c.args.line, o.Back))) (sym c.if-back.true) refl

pub returns : goal.returns
returns c = subst (λ (b : Bool). IsFirstOf (back_queue b c.args.line (rows_queue c.args.line c.args.rows.now [])) c.first_in.result) (sym c.if-back.false) c.first_in.ensures
