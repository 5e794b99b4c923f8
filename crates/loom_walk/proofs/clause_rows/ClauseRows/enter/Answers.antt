use Rattle.std.proofs.Common.{ℕ, ◌≡◌, ◌==◌, true, if◌then◌else◌, List, length, ap, sym, subst, ◌∙◌}
use Rattle.arrayvec.proofs.ArrayVecLemmas.{items-with_items}
use Rattle.loom_law.specs.Filter.{has}
use Rattle.loom_plan.specs.declared.sets.ClauseSet.{ClauseSet}
use Rattle.loom_plan.specs.Sets.{clause_numbers}
use Rattle.loom_walk.specs.declared.clause_rows.ClauseRow.{ClauseRow}
use Rattle.loom_walk.specs.ClauseRows.{filters_of, clauses_at, with_clauses, AreHoldings}
use Rattle.loom_walk.proofs.HeldClauses.{length_stays, filters_stay, enter_holds}
use Rattle.loom_walk.proofs.clause_rows.ClauseRows.enter.Goals as goal

pub returns-clause-filters : goal.returns-clause-filters
returns-clause-filters c =
    let old : List ClauseRow = c.self.inside.rows.items in
    let cs : ClauseSet = c.put.new.self in
    let set : c.set_clauses.new.rows ≡ with_clauses old c.args.k cs
    = c.set_clauses.ensures ∙ ap (λ (z : List ClauseRow). with_clauses z c.args.k cs) c.as_mut_slice.ensures.value in
    let new = items-with_items c.self.inside.rows c.set_clauses.new.rows (ap length set ∙ length_stays old c.args.k cs) ∙ set in
    ap filters_of new ∙ (filters_stay old c.args.k cs ∙ ap filters_of c.self.view_is)

pub returns-clause-holdings : goal.returns-clause-holdings
returns-clause-holdings c hs h =
    let old : List ClauseRow = c.self.inside.rows.items in
    let cs : ClauseSet = c.put.new.self in
    let set : c.set_clauses.new.rows ≡ with_clauses old c.args.k cs
    = c.set_clauses.ensures ∙ ap (λ (z : List ClauseRow). with_clauses z c.args.k cs) c.as_mut_slice.ensures.value in
    let new = items-with_items c.self.inside.rows c.set_clauses.new.rows (ap length set ∙ length_stays old c.args.k cs) ∙ set in
    let was : clause_numbers c.clauses_in-clauses.result ≡ clauses_at old c.args.k
    = c.clauses_in-clauses.ensures ∙ ap (λ (z : List ClauseRow). clauses_at z c.args.k) c.as_slice.ensures.value in
    enter_holds old _ c.args.k c.args.clause cs hs (subst (λ (z : List ClauseRow). has (filters_of z) c.args.k ≡ true) (sym c.self.view_is) c.requires.there)
    (λ d. c.put.ensures.put d ∙ ap (λ (ns : List ℕ). if d == c.args.clause then true else has ns d) was) new (subst (λ (z : List ClauseRow). AreHoldings z hs) (sym c.self.view_is) h)
