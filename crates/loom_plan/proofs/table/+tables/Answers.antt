use Rattle.std.proofs.Common.{List, Option, None, [], ◌∷◌, ◌++◌, ap, sym, ◌∙◌, append_assoc}
use Rattle.std.proofs.lemmas.List.{map-append}
use Rattle.loom_tree.specs.Tree.{body_of}
use Rattle.loom_tree.specs.declared.statement.Kind.{Kind}
use Rattle.loom_lang.specs.Places.{body_places}
use Rattle.loom_law.specs.Filter.{Site}
use Rattle.loom_plan.specs.declared.plan.EventSite.{EventSite}
use Rattle.loom_plan.specs.Table.{site_if, sites_of, sites_at, inner_places}
use Rattle.loom_plan.proofs.table.+tables.Goals as goal

pub put_inner-returns-in_ok-put_body-in-While : goal.put_inner-returns-in_ok-put_body-in-While
put_inner-returns-in_ok-put_body-in-While t c =
    c.in_ok-put_body-in-While.ensures
    ∙ (ap (λ (xs : List (Option EventSite)). sites_of xs ++ sites_at (body_places (body_of c.in-While.a))) c.in_ok-push-in-While.ensures.items
    ∙ (ap (λ (ys : List (Option Site)). ys ++ sites_at (body_places (body_of c.in-While.a))) (map-append site_if c.args.sites.now.items (None ∷ []))
    ∙ (append_assoc (sites_of c.args.sites.now.items) (None ∷ []) (sites_at (body_places (body_of c.in-While.a)))
    ∙ ap (λ (k : Kind). sites_of c.args.sites.now.items ++ sites_at (inner_places k)) (sym c.in-While.is))))
