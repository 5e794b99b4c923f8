use Rattle.std.proofs.Common.{ℕ, List, ap, sym, ◌∙◌}
use Rattle.loom_law.specs.Filter.{has}
use Rattle.loom_walk.specs.declared.clause_rows.ClauseRow.{ClauseRow}
use Rattle.loom_walk.specs.ClauseRows.{clauses_at}
use Rattle.loom_walk.proofs.clause_rows.ClauseRows.of.Goals as goal

pub returns-clause-of : goal.returns-clause-of
returns-clause-of c = c.clauses_in.ensures ∙ ap (λ (z : List ClauseRow). clauses_at z c.args.k) (c.as_slice.ensures.value ∙ c.self.view_is)

pub returns-clause-holds : goal.returns-clause-holds
returns-clause-holds c hs h n =
    h c.args.k n ∙ ap (λ (ns : List ℕ). has ns n) (sym (c.clauses_in.ensures ∙ ap (λ (z : List ClauseRow). clauses_at z c.args.k) (c.as_slice.ensures.value ∙ c.self.view_is)))
