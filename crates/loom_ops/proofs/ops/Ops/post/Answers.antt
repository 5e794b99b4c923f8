use Rattle.std.proofs.Common.{◌≡◌, ◌<◌, List, ap, sym, subst, ◌∙◌}
use Rattle.arrayvec.proofs.ArrayVecLemmas.{items-with_items}
use Rattle.loom_ops.specs.declared.rows.PostRow.{PostRow}
use Rattle.loom_ops.specs.Ops.{Ops, most_posts, posts_at, tables_with, with_post, KeepsLocks}
use Rattle.loom_ops.specs.Rows.{tables_of, ops_of}
use Rattle.loom_ops.proofs.PostTables.{rows_stay, post_keeps}
use Rattle.loom_ops.proofs.RowChanges.{post_rows}
use Rattle.loom_ops.proofs.ops.Ops.post.Goals as goal

pub raise-requires-clause-few : goal.raise-requires-clause-few
raise-requires-clause-few c =
    subst (λ (z : List PostRow). posts_at (tables_of z) c.args.k c.args.event < most_posts) (sym c.as_mut_slice.ensures.value)
    (subst (λ (o : Ops). posts_at o.posts c.args.k c.args.event < most_posts) (sym c.self.view_is) c.requires.few)

pub invariant_of-self : goal.invariant_of-self
invariant_of-self c =
    let old : List PostRow = c.self.inside.posts.items in
    let set : tables_of c.raise.new.rows ≡ tables_with (tables_of old) c.args.k c.args.event
    = c.raise.ensures ∙ ap (λ (z : List PostRow). tables_with (tables_of z) c.args.k c.args.event) c.as_mut_slice.ensures.value in
    let new = items-with_items c.self.inside.posts c.raise.new.rows (rows_stay old c.raise.new.rows c.args.k c.args.event set) in
    subst KeepsLocks
    (sym (post_rows c.self.inside.filters.items c.self.inside.holders.items old _ c.args.k c.args.event (ap tables_of new ∙ set)))
    (post_keeps (ops_of c.self.inside.filters.items c.self.inside.holders.items old) c.args.k c.args.event c.self.invariant)

pub returns : goal.returns
returns c =
    let old : List PostRow = c.self.inside.posts.items in
    let set : tables_of c.raise.new.rows ≡ tables_with (tables_of old) c.args.k c.args.event
    = c.raise.ensures ∙ ap (λ (z : List PostRow). tables_with (tables_of z) c.args.k c.args.event) c.as_mut_slice.ensures.value in
    let new = items-with_items c.self.inside.posts c.raise.new.rows (rows_stay old c.raise.new.rows c.args.k c.args.event set) in
    post_rows c.self.inside.filters.items c.self.inside.holders.items old _ c.args.k c.args.event (ap tables_of new ∙ set)
    ∙ ap (λ (o : Ops). with_post o c.args.k c.args.event) c.self.view_is
