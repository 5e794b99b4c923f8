use Rattle.std.proofs.Common.{List, ap, sym, subst, ◌∙◌}
use Rattle.loom_filter.specs.declared.filter.Clause.{Clause}
use Rattle.loom_filter.specs.declared.filter.Filter.{Filter}
use Rattle.loom_filter.specs.View.{clauses_of, filter_of}
use Rattle.loom_plan.specs.Counts.{IsSmallFilter}
use Rattle.loom_plan.proofs.FewParts.{small_filter}
use Rattle.loom_plan.proofs.compile.compile.Goals as goal

pub compiled-requires : goal.compiled-requires
compiled-requires c =
    subst (λ (cs : List Clause). IsSmallFilter (clauses_of cs)) (sym (c.deref.ensures.value ∙ ap (λ (f : Filter). f.clauses) c.filter.view_is)) (small_filter (filter_of c.args.filter.now) c.requires)
