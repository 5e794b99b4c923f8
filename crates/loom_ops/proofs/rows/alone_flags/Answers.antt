use Rattle.std.proofs.Common.{◌<◌, Bool, List, [], ◌∷◌, ◌++◌, length, sym, ap, ◌∙◌, arith}
use Rattle.loom_ops.proofs.AloneFlags.{flag_more}
use Rattle.loom_ops.proofs.rows.alone_flags.Goals as goal

pub clauses-preserved : goal.clauses-preserved
clauses-preserved c =
    let low : c.clauses.n < length c.args.c.now.plan.rulings = omega (arith, c.clauses-test.true, c.clauses-count.ensures.is) in
    record {
      low = omega arith;
      are = c.push.ensures.items
          ∙ (ap (λ (z : List Bool). z ++ c.is_alone.result ∷ []) c.clauses.invariant.are
          ∙ sym (flag_more c.args.c.now.plan c.clauses.n c.is_alone.result low c.is_alone.ensures));
    }
