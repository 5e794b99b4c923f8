use Rattle.std.proofs.Common.{rules, ◌≡◌, ◌==◌, not, ◌&&◌, sym, ap, ◌∙◌, subst}
use Rattle.std.specs.List.{filter}
use Rattle.arrayvec.proofs.ArrayVecLemmas.{filter-from_retain}
use Rattle.loom_ops.specs.declared.rows.HolderRow.{HolderRow}
use Rattle.loom_ops.specs.Ops.{Ops, free_clause, KeepsLocks}
use Rattle.loom_ops.specs.Rows.{ops_of}
use Rattle.loom_ops.proofs.Keeping.{leave_keeps}
use Rattle.loom_ops.proofs.RowChanges.{leave_rows}
use Rattle.loom_ops.proofs.ops.Ops.leave.Goals as goal

pub invariant_of-self : goal.invariant_of-self
invariant_of-self c =
    let rest : c.retain.new.self.items ≡ filter (λ (r : HolderRow). not ((r.filter == c.args.k) && (r.clause == c.args.clause))) c.self.inside.holders.items
    = filter-from_retain _ _ _ (λ x b f' y called. search rules) _ _ c.retain.ensures.filtered in
    subst KeepsLocks (sym (leave_rows c.self.inside.filters.items c.self.inside.holders.items c.retain.new.self.items c.self.inside.posts.items c.args.k c.args.clause rest))
    (leave_keeps (ops_of c.self.inside.filters.items c.self.inside.holders.items c.self.inside.posts.items) c.args.k c.args.clause c.self.invariant)

pub returns : goal.returns
returns c =
    let rest : c.retain.new.self.items ≡ filter (λ (r : HolderRow). not ((r.filter == c.args.k) && (r.clause == c.args.clause))) c.self.inside.holders.items
    = filter-from_retain _ _ _ (λ x b f' y called. search rules) _ _ c.retain.ensures.filtered in
    leave_rows c.self.inside.filters.items c.self.inside.holders.items c.retain.new.self.items c.self.inside.posts.items c.args.k c.args.clause rest
    ∙ ap (λ (o : Ops). free_clause o c.args.k c.args.clause) c.self.view_is
