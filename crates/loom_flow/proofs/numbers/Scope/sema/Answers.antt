use Rattle.std.proofs.Common.{◌≡◌, ◌∙◌, sym, map}
use Rattle.loom_tree.specs.declared.item.Sema.{Sema}
use Rattle.loom_flow.proofs.Roles.{not_in, sema_in}
use Rattle.loom_flow.proofs.numbers.Scope.sema.Goals as goal

pub unreachable-requires : goal.unreachable-requires
unreachable-requires c =
    let p = c.args.self.now.program in
    not_in c.args.x.now (map (λ (s : Sema). s.name) p.semas) (sym c.sema_number.ensures ∙ c.in-None.is) (sema_in p.semas c.args.x.now c.requires)
