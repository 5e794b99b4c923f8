use Rattle.std.proofs.Common.{rules, ◌≡◌, ◌==◌, not, sym, ap, ◌∙◌, subst}
use Rattle.std.specs.List.{filter}
use Rattle.arrayvec.proofs.ArrayVecLemmas.{filter-from_retain}
use Rattle.loom_ops.specs.declared.rows.FilterRow.{FilterRow}
use Rattle.loom_ops.specs.declared.rows.HolderRow.{HolderRow}
use Rattle.loom_ops.specs.declared.rows.PostRow.{PostRow}
use Rattle.loom_ops.specs.Ops.{Ops, without_filter, KeepsLocks}
use Rattle.loom_ops.specs.Rows.{ops_of}
use Rattle.loom_ops.proofs.Keeping.{remove_keeps}
use Rattle.loom_ops.proofs.RowChanges.{remove_rows}
use Rattle.loom_ops.proofs.ops.Ops.remove.Goals as goal

pub invariant_of-self : goal.invariant_of-self
invariant_of-self c =
    let less : c.retain.new.self.items ≡ filter (λ (r : FilterRow). not (r.number == c.args.k)) c.self.inside.filters.items
    = filter-from_retain _ _ _ (λ x b f' y called. search rules) _ _ c.retain.ensures.filtered in
    let rest : c.retain-2.new.self.items ≡ filter (λ (r : HolderRow). not (r.filter == c.args.k)) c.self.inside.holders.items
    = filter-from_retain _ _ _ (λ x b f' y called. search rules) _ _ c.retain-2.ensures.filtered in
    let tables : c.retain-3.new.self.items ≡ filter (λ (r : PostRow). not (r.number == c.args.k)) c.self.inside.posts.items
    = filter-from_retain _ _ _ (λ x b f' y called. search rules) _ _ c.retain-3.ensures.filtered in
    subst KeepsLocks
    (sym (remove_rows c.self.inside.filters.items c.retain.new.self.items c.self.inside.holders.items c.retain-2.new.self.items c.self.inside.posts.items c.retain-3.new.self.items c.args.k less rest tables))
    (remove_keeps (ops_of c.self.inside.filters.items c.self.inside.holders.items c.self.inside.posts.items) c.args.k c.self.invariant)

pub returns : goal.returns
returns c =
    let less : c.retain.new.self.items ≡ filter (λ (r : FilterRow). not (r.number == c.args.k)) c.self.inside.filters.items
    = filter-from_retain _ _ _ (λ x b f' y called. search rules) _ _ c.retain.ensures.filtered in
    let rest : c.retain-2.new.self.items ≡ filter (λ (r : HolderRow). not (r.filter == c.args.k)) c.self.inside.holders.items
    = filter-from_retain _ _ _ (λ x b f' y called. search rules) _ _ c.retain-2.ensures.filtered in
    let tables : c.retain-3.new.self.items ≡ filter (λ (r : PostRow). not (r.number == c.args.k)) c.self.inside.posts.items
    = filter-from_retain _ _ _ (λ x b f' y called. search rules) _ _ c.retain-3.ensures.filtered in
    remove_rows c.self.inside.filters.items c.retain.new.self.items c.self.inside.holders.items c.retain-2.new.self.items c.self.inside.posts.items c.retain-3.new.self.items c.args.k less rest tables
    ∙ ap (λ (o : Ops). without_filter o c.args.k) c.self.view_is
