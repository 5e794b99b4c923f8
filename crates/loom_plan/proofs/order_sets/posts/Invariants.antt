use Rattle.std.proofs.Common.{◌≡◌, drop, []}
use Rattle.loom_law.specs.Filter.{posts}
use Rattle.loom_plan.specs.PlanView.{rulings_of}
use Rattle.loom_plan.proofs.order_sets.posts.Given as goal

abbrev pub invariant-scan : goal.invariant-scan
invariant-scan l = posts (record { watches = []; rulings = rulings_of (drop l.rule-index l.rules) }) l.n ≡ posts (record { watches = []; rulings = rulings_of l.rules }) l.n
