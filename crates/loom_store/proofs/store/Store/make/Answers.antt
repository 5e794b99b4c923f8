use Rattle.std.proofs.Common.{◌≡◌, List, map, rules, sym, ap, ◌∙◌, subst}
use Rattle.loom_tree.specs.declared.item.Sema.{Sema}
use Rattle.loom_store.specs.Parts.{AreCounts}
use Rattle.loom_store.proofs.Counts.{first_counts}
use Rattle.loom_store.proofs.store.Store.make.Goals as goal

pub invariant_of-result : goal.invariant_of-result
invariant_of-result c =
    let semas : List Sema = c.as_slice-3.result.now in
    let same : semas ≡ c.args.p.now.semas = cc (c.as_slice-3.ensures.value, c.behind-p-3.view_is, c.semas.ensures.semas) in
    subst AreCounts (sym (c.in_ok-semas.ensures ∙ ap (map (λ (x : Sema). x.first)) same)) (first_counts c.args.p.now.semas (c.semas.ensures.rules).semas)

pub returns : goal.returns
returns c = search rules
