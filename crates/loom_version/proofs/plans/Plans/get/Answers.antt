use Rattle.std.proofs.Common.{ℕ, ◌≡◌, List, Option, None, ap, sym, subst, ◌∙◌, arith}
use Rattle.loom_plan.specs.Compiled.{Compiled}
use Rattle.loom_version.specs.Plans.{compiled_at}
use Rattle.loom_version.proofs.PlanRows.{row_at, none_past}
use Rattle.loom_version.proofs.plans.Plans.get.Goals as goal

pub returns-then-k-eq0 : goal.returns-then-k-eq0
returns-then-k-eq0 c = ap (λ (k : ℕ). compiled_at c.args.self.now k) (sym c.if-k-eq0.true)

pub returns-then-i-len : goal.returns-then-i-len
returns-then-i-len c =
    let P : List (Option Compiled) → Type 0 = λ cs. None ≡ compiled_at cs c.args.k in
    subst P c.self.view_is (none_past c.self.inside.rows.items c.args.k (omega arith) (omega (arith, c.len.ensures)))

pub returns : goal.returns
returns c =
    c.as_ref.ensures.value
    ∙ row_at c.self.inside.rows.items c.args.k c.index.result.now (omega arith) (omega (arith, c.len.ensures)) c.index.ensures
    ∙ ap (λ (cs : List (Option Compiled)). compiled_at cs c.args.k) c.self.view_is
