use Rattle.std.proofs.Common.{◌≡◌, ◌++◌, drop}
use Rattle.loom_plan.specs.PlanView.{span_ranges, regions_in}
use Rattle.loom_plan.specs.PlanParts.{of_clause}
use Rattle.loom_plan.proofs.regions.put_spans.Given as goal

abbrev pub invariant-put : goal.invariant-put
invariant-put l = regions_in l.rows.items ++ of_clause l.clause (span_ranges (drop l.span-index l.spans)) ≡ regions_in l.fn.rows.items ++ of_clause l.clause (span_ranges l.spans)
