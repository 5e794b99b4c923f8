use Rattle.std.proofs.Common.{◌≡◌, drop}
use Rattle.std.specs.List.{list_any}
use Rattle.loom_law.specs.Filter.{Range, share, entry_events}
use Rattle.loom_plan.specs.Sets.{event_numbers}
use Rattle.loom_plan.specs.PlanView.{span_ranges}
use Rattle.loom_plan.proofs.rules.any_begins.Given as goal

abbrev pub invariant-scan : goal.invariant-scan
invariant-scan l = list_any (λ (x : Range). share (entry_events x) (event_numbers l.events)) (span_ranges (drop l.span-index l.spans)) ≡ list_any (λ (x : Range). share (entry_events x) (event_numbers l.events)) (span_ranges l.spans)
