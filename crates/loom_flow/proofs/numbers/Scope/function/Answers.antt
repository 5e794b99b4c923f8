use Rattle.std.proofs.Common.{◌≡◌, ◌∙◌, sym, map}
use Rattle.loom_tree.specs.Tree.{Function}
use Rattle.loom_flow.proofs.Roles.{not_in, function_in}
use Rattle.loom_flow.proofs.numbers.Scope.function.Goals as goal

pub unreachable-requires : goal.unreachable-requires
unreachable-requires c =
    let p = c.args.self.now.program in
    not_in c.args.x.now (map (λ (f : Function). f.name) p.funcs) (sym c.function_number.ensures.number ∙ c.in-None.is) (function_in p.funcs c.args.x.now c.requires)
