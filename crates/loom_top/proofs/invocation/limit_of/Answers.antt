use Rattle.std.proofs.Common.{◌≡◌, ℕ, Ok, true, sym, subst, arith}
use Rattle.loom_tree.specs.Decimal.{decimal}
use Rattle.loom_top.proofs.Words.{limit_read}
use Rattle.loom_top.proofs.invocation.limit_of.Goals.{else-limit-ge1-via-then-limit-ge1+then-limit-le-ENTRY_LIMIT+else-is_decimal, else-limit-ge1-via-then-limit-ge1+else-limit-le-ENTRY_LIMIT, else-limit-ge1-via-else-limit-ge1}
use Rattle.loom_top.proofs.invocation.limit_of.Goals as goal

pub returns-else-limit-ge1-clause-none : goal.returns-else-limit-ge1-clause-none
returns-else-limit-ge1-clause-none c limit least most is =
    let read : c.parse.result ≡ Ok limit = limit_read c.args.text.now c.parse.result limit c.parse.ensures.value.0 most is in
    let same : c.in-Ok.limit ≡ limit = cc (c.in-Ok.is) in
    let P : ℕ → Type 0 = λ z. c.args.text.now ≡ decimal z in
    elim c.else-limit-ge1.branch [
      | else-limit-ge1-via-then-limit-ge1+then-limit-le-ENTRY_LIMIT+else-is_decimal w ↦
          let written : w.is_decimal.result ≡ true = w.is_decimal.ensures.1 (subst P (sym same) is) in
          cc (w.if-is_decimal.false)
      | else-limit-ge1-via-then-limit-ge1+else-limit-le-ENTRY_LIMIT w ↦ omega (arith, same, most, w.if-limit-le-ENTRY_LIMIT.false)
      | else-limit-ge1-via-else-limit-ge1 w ↦ omega (arith, same, least, w.if-limit-ge1.false)
    ]

pub returns-in-Err-clause-none : goal.returns-in-Err-clause-none
returns-in-Err-clause-none c limit least most is =
    let read : c.parse.result ≡ Ok limit = limit_read c.args.text.now c.parse.result limit c.parse.ensures.value.0 most is in
    cc (c.in-Err.is)
