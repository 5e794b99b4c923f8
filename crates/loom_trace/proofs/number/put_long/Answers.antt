use Rattle.std.proofs.Common.{ℕ, ◌≡◌, ◌+◌, ◌<◌, ◌^◌, List, ◌++◌, length, take, drop, sym, ap, subst, ◌∙◌, arith}
use Rattle.std.specs.Fmt as std
use Rattle.loom_tree.specs.Decimal.{decimal}
use Rattle.loom_trace.proofs.Decimal.{same_decimal}
use Rattle.loom_trace.proofs.Written.{written_text, written_length}
use Rattle.loom_trace.proofs.number.put_long.Goals as goal

pub write_digits-requires : goal.write_digits-requires
write_digits-requires c = let e = ap length (same_decimal c.args.n (omega arith)) in (omega (arith, e), omega arith)

pub returns-clause-text : goal.returns-clause-text
returns-clause-text c =
    let same = same_decimal c.args.n (omega arith) in
    let e = ap length same in
    let start : c.write_digits.result ≡ c.args.at = omega (arith, e) in
    written_text c.args.cells.now c.write_digits.new.buf (decimal c.args.n) c.args.at _ (omega (arith, e))
    (subst (λ (k : ℕ). take k c.write_digits.new.buf ≡ take k c.args.cells.now) start c.write_digits.ensures.before)
    (subst (λ (k : ℕ). drop k c.write_digits.new.buf ≡ decimal c.args.n ++ drop (c.args.at + c.digit_count.result) c.args.cells.now) start
    (c.write_digits.ensures.written ∙ ap (λ (z : List ℕ). z ++ drop (c.args.at + c.digit_count.result) c.args.cells.now) same))

pub returns-clause-len : goal.returns-clause-len
returns-clause-len c =
    let same = same_decimal c.args.n (omega arith) in
    let e = ap length same in
    let start : c.write_digits.result ≡ c.args.at = omega (arith, e) in
    written_length c.args.cells.now c.write_digits.new.buf (decimal c.args.n) c.args.at (c.args.at + c.digit_count.result) (omega (arith, e)) (omega (arith, e))
    (subst (λ (k : ℕ). take k c.write_digits.new.buf ≡ take k c.args.cells.now) start c.write_digits.ensures.before)
    (subst (λ (k : ℕ). drop k c.write_digits.new.buf ≡ decimal c.args.n ++ drop (c.args.at + c.digit_count.result) c.args.cells.now) start
    (c.write_digits.ensures.written ∙ ap (λ (z : List ℕ). z ++ drop (c.args.at + c.digit_count.result) c.args.cells.now) same))
