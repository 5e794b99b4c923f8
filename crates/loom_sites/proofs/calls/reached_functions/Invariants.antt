use Rattle.loom_sites.specs.Reach.{left_out}
use Rattle.loom_sites.proofs.Closure.{IsClosing, is_past}
use Rattle.loom_sites.proofs.calls.reached_functions.Given as goal

abbrev pub invariant-walk : goal.invariant-walk
invariant-walk l = IsClosing l.flow.program l.called l.found l.left

abbrev pub decreases-walk : goal.decreases-walk
decreases-walk l = left_out (is_past l.found l.left) 64
