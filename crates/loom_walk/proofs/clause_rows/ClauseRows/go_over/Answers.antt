use Rattle.std.proofs.Common.{ℕ, List, length, ap, subst, ◌∙◌, arith}
use Rattle.loom_walk.specs.declared.clause_rows.ClauseRow.{ClauseRow}
use Rattle.loom_walk.specs.ClauseRows.{AreRowsFor}
use Rattle.loom_walk.proofs.HeldClauses.{gone_over, gone_filters}
use Rattle.loom_walk.proofs.clause_rows.ClauseRows.go_over.Goals as goal

pub rows_for-rows-requires : goal.rows_for-rows-requires
rows_for-rows-requires c =
    let same = ap length c.active.ensures.is in
    let few = c.active.ensures.version.few in
    omega (arith, same, few)

pub returns-clause-filters : goal.returns-clause-filters
returns-clause-filters c =
    gone_filters c.args.self.now c.rows_for-rows.result.items c.args.version.now.active
    (subst (λ (ks : List ℕ). AreRowsFor c.args.self.now ks c.rows_for-rows.result.items) c.active.ensures.is
    (subst (λ (z : List ClauseRow). AreRowsFor z c.active.result.now c.rows_for-rows.result.items) (c.as_slice.ensures.value ∙ c.self.view_is) c.rows_for-rows.ensures))

pub returns-clause-holdings : goal.returns-clause-holdings
returns-clause-holdings c hs h =
    gone_over c.args.self.now c.rows_for-rows.result.items c.args.version.now.active hs
    (subst (λ (ks : List ℕ). AreRowsFor c.args.self.now ks c.rows_for-rows.result.items) c.active.ensures.is
    (subst (λ (z : List ClauseRow). AreRowsFor z c.active.result.now c.rows_for-rows.result.items) (c.as_slice.ensures.value ∙ c.self.view_is) c.rows_for-rows.ensures)) h
