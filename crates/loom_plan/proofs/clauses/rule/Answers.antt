use Rattle.std.proofs.Common.{List, ap, sym, ◌∙◌}
use Rattle.loom_filter.specs.declared.filter.Region.{Region}
use Rattle.loom_filter.specs.declared.filter.Clause.{Clause}
use Rattle.loom_filter.specs.View.{regions_of, clause_of}
use Rattle.loom_law.specs.Filter.{exclusive, ranges_from, ruling_from}
use Rattle.loom_plan.proofs.clauses.rule.Goals as goal

pub returns-in_ok-spans-in-Exclusive : goal.returns-in_ok-spans-in-Exclusive
returns-in_ok-spans-in-Exclusive c p =
    ap exclusive (c.in_ok-spans-in-Exclusive.ensures p
    ∙ ap (λ (rs : List Region). ranges_from p c.args.first (regions_of rs)) (c.deref-in-Exclusive.ensures.value ∙ c.regions.view_is))
    ∙ ap (λ (x : Clause). ruling_from p c.args.first (clause_of x)) (sym c.in-Exclusive.is)
