use Rattle.std.proofs.Common.{ℕ, ◌≡◌, ◌+◌, ◌*◌, List, [], ◌∷◌, ◌++◌, length, get_or, take, ap, ◌≤◌, ◌∙◌, arith}
use Rattle.std.proofs.Math.Nat.{mul-add}
use Rattle.loom_trace.specs.Text.{spaced}
use Rattle.loom_trace.proofs.Fields.{spaced_more}
use Rattle.loom_trace.proofs.number.put_numbers.Goals as goal

-- one number more, and what stands before it
longer : (most i a c d : ℕ) → a ≤ c + (most + 1) → c ≤ d + (most + 1) * i → a ≤ d + (most + 1) * (i + 1)
longer most i a c d h l = omega (arith, h, l, mul-add (most + 1) i 1)

pub loop-n-preserved : goal.loop-n-preserved
loop-n-preserved g c =
    let text = g.N.Number.text in
    record {
      text =
          spaced_more text c.args.numbers.now c.loop-n.n-index c.n-item.result (take c.args.at c.args.cells.now) (take c.loop-n.end c.loop-n.cells) _ c.loop-n-test.true c.loop-n.invariant.text
          (c.put_field-end.ensures.text ∙ ap (λ z. take c.loop-n.end c.loop-n.cells ++ spaced (text z ∷ [])) c.n-item.is);
      short = longer g.N.Number.most c.loop-n.n-index c.put_field-end.result c.loop-n.end c.args.at c.put_field-end.ensures.short c.loop-n.invariant.short;
      len = c.put_field-end.ensures.len ∙ c.loop-n.invariant.len;
    }
