use Rattle.std.proofs.Common.{sym, inl, inr, arith}
use Rattle.loom_plan.proofs.Select.{has_bit, has_none_at}
use Rattle.loom_plan.proofs.numbers.Numbers.has.Goals as goal
use Rattle.loom_plan.proofs.numbers.Numbers.has.Goals.{then-n-eq0-via-then-n-eq0, then-n-eq0-via-else-n-eq0+then-n-gt32}

pub returns-then-n-eq0 : goal.returns-then-n-eq0
returns-then-n-eq0 c =
    elim c.then-n-eq0.branch [
      | then-n-eq0-via-then-n-eq0 w ↦ sym (has_none_at c.args.self.bits c.args.n (inl w.if-n-eq0.true))
      | then-n-eq0-via-else-n-eq0+then-n-gt32 w ↦ sym (has_none_at c.args.self.bits c.args.n (inr w.if-n-gt32.true))
    ]

pub returns : goal.returns
returns c = sym (has_bit c.args.self.bits c.args.n (omega arith) (omega arith))
