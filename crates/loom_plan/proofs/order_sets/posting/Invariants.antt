use Rattle.std.proofs.Common.{ℕ, ◌≡◌, ◌<◌, ◌≤◌, false, []}
use Rattle.loom_law.specs.Filter.{has, posts}
use Rattle.loom_plan.specs.Sets.{event_numbers}
use Rattle.loom_plan.specs.PlanView.{rulings_of}
use Rattle.loom_plan.proofs.order_sets.posting.Given as goal

abbrev pub invariant-events : goal.invariant-events
invariant-events l = record {
  past : (m : ℕ) → 0 < m → m ≤ l.n → has (event_numbers l.found) m ≡ posts (record { watches = []; rulings = rulings_of l.rules }) m;
  ahead : (m : ℕ) → l.n < m → has (event_numbers l.found) m ≡ false;
}
