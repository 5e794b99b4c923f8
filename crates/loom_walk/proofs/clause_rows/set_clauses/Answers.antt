use Rattle.std.proofs.Common.{ℕ, ap, ◌∙◌, arith}
use Rattle.std.specs.Prelude.{slice_set}
use Rattle.loom_walk.proofs.HeldClauses.{set_some, set_none}
use Rattle.loom_walk.proofs.clause_rows.set_clauses.Goals as goal

pub returns-then-i-rows : goal.returns-then-i-rows
returns-then-i-rows c = set_none c.args.rows.now c.args.k c.args.clauses (omega (arith, c.row_index-i.ensures))

pub returns : goal.returns
returns c =
    ap (λ (i : ℕ). slice_set c.args.rows.now i (record { filter = c.args.k; clauses = c.args.clauses })) c.row_index-i.ensures
    ∙ set_some c.args.rows.now c.args.k c.args.clauses (omega (arith, c.row_index-i.ensures))
