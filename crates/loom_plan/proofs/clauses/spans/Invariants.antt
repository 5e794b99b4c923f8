use Rattle.std.proofs.Common.{◌≡◌, ◌<◌, ◌≤◌, ◌+◌, ◌++◌, drop}
use Rattle.loom_tree.specs.Tree.{Source}
use Rattle.loom_law.specs.Filter.{ranges_from}
use Rattle.loom_filter.specs.View.{regions_of}
use Rattle.loom_filter.specs.Fault.{regions_events}
use Rattle.loom_plan.specs.PlanView.{span_ranges}
use Rattle.loom_plan.proofs.clauses.spans.Given as goal

abbrev pub invariant-put : goal.invariant-put
invariant-put l = record {
  low : 0 < l.n;
  high : l.n + regions_events (regions_of (drop l.region-index l.regions)) ≤ 33;
  is : (p : Source) → span_ranges l.spans.items ++ ranges_from p l.n (regions_of (drop l.region-index l.regions)) ≡ ranges_from p l.first (regions_of l.regions);
}
