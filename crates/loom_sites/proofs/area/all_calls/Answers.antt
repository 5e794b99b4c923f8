use Rattle.std.proofs.Common.{ℕ, ◌+◌, arith}
use Rattle.loom_sites.proofs.Sweeps.{calls_on}
use Rattle.loom_sites.proofs.area.all_calls.Goals as goal

pub areas-preserved : goal.areas-preserved
areas-preserved c g = let i : ℕ = c.areas.area-index in calls_on c.args.areas.now i (i + 1) g c.areas.bits _ _ (omega arith) c.areas-test.true (c.areas.invariant g)
