use Rattle.std.proofs.Common.{◌≡◌, sym, ap, ◌∙◌}
use Rattle.loom_tree.specs.Tree.{Body, body_of, behind}
use Rattle.loom_sites.specs.Links.{first_at}
use Rattle.loom_sites.proofs.Rows.{first_behind}
use Rattle.loom_sites.proofs.links.first_at.Goals as goal

pub returns-in-More : goal.returns-in-More
returns-in-More c =
    let is : body_of c.args.body.now ≡ behind c.in-More.field-0.value.line c.in-More.field-0.value.kind (body_of c.in-More.field-1.value) = ap body_of c.in-More.is in
    first_behind c.in-More.field-0.value.line c.args.place c.in-More.field-0.value.kind (body_of c.in-More.field-1.value) c.args.next ∙ ap (λ (b : Body). first_at b c.args.place c.args.next) (sym is)
