use Rattle.std.proofs.Common.{List, [], sym, subst}
use Rattle.loom_ops.specs.declared.rows.FilterRow.{FilterRow}
use Rattle.loom_ops.specs.declared.rows.HolderRow.{HolderRow}
use Rattle.loom_ops.specs.declared.rows.PostRow.{PostRow}
use Rattle.loom_ops.specs.Ops.{KeepsLocks}
use Rattle.loom_ops.specs.Rows.{ops_of}
use Rattle.loom_ops.proofs.Keeping.{none_keeps}
use Rattle.loom_ops.proofs.ops.Ops.make.Goals as goal

pub invariant_of-result : goal.invariant_of-result
invariant_of-result c =
    subst (λ (ps : List PostRow). KeepsLocks (ops_of c.new.result.items c.new-2.result.items ps)) (sym c.new-3.ensures)
    (subst (λ (hs : List HolderRow). KeepsLocks (ops_of c.new.result.items hs [])) (sym c.new-2.ensures)
    (subst (λ (fs : List FilterRow). KeepsLocks (ops_of fs [] [])) (sym c.new.ensures) none_keeps))
