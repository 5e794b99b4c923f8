use Rattle.std.proofs.Common.{ℕ, ℤ, take, drop, refl, length, reverse, ◌∙◌, ◌-◌, ap, arith}
use Rattle.loom_strand.specs.Stack.{Stack}
use Rattle.loom_strand.proofs.Stacks.{part_last}
use Rattle.loom_strand.proofs.stack.Stack+i64.last.Goals as goal

pub returns : goal.returns
returns c =
    let from : ℕ = c.len.result - c.args.n in
    c.args_of.ensures
    ∙ ap (λ xs. take (length xs - from) (drop from xs)) c.deref.ensures.value
    ∙ part_last c.args.n c.self.inside.items.items from (length c.self.inside.items.items - from) (omega arith) refl
    ∙ ap (λ (s : Stack ℤ). reverse (take c.args.n s.items)) c.self.view_is
