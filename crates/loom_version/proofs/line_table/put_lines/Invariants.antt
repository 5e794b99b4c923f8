use Rattle.std.proofs.Common.{ℕ, ◌≡◌, ◌≤◌, true, length, drop}
use Rattle.loom_trace.specs.Places.{has_place}
use Rattle.loom_plan.specs.PlanView.{watches_of}
use Rattle.loom_version.specs.LineTable.{AreInTable}
use Rattle.loom_version.proofs.line_table.put_lines.Given as goal

abbrev pub invariant-down : goal.invariant-down
invariant-down l = record {
  within : l.n ≤ length l.events;
  old : (p : ℕ) → has_place l.initial.table p ≡ true → has_place l.table p ≡ true;
  new : AreInTable l.table (watches_of (drop l.n l.events));
}

abbrev pub decreases-down : goal.decreases-down
decreases-down l = l.n
