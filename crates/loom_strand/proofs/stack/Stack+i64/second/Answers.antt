use Rattle.std.proofs.Common.{ℤ, ◌≡◌, ◌≤◌, drop, ◌∙◌, length, reverse, sym, ap, subst, to_z, of_z, w64, arith, rules}
use Rattle.std.proofs.lemmas.Int.{to_z-of_z}
use Rattle.std.proofs.lemmas.List.{length-reverse}
use Rattle.loom_flow.specs.State.{top}
use Rattle.loom_strand.specs.Stack.{Stack}
use Rattle.loom_strand.proofs.Stacks.{second_read}
use Rattle.loom_strand.proofs.stack.Stack+i64.second.Goals as goal

pub returns : goal.returns
returns c =
    let same : to_z w64 (of_z w64 c.index.result.now) ≡ c.index.result.now = to_z-of_z w64 c.index.result.now (search rules) in
    let some : 2 ≤ length (reverse c.self.inside.items.items) = subst (λ (s : Stack ℤ). 2 ≤ length s.items) (sym c.self.view_is) c.requires in
    same ∙ second_read c.self.inside.items.items c.len.result c.index.result.now (omega arith) (omega (arith, some, length-reverse c.self.inside.items.items)) c.index.ensures
    ∙ ap (λ (s : Stack ℤ). top (drop 1 s.items)) c.self.view_is
