use Rattle.std.proofs.Common.{◌≡◌, length}
use Rattle.std.specs.Prelude.{vec_capacity}
use Rattle.loom_command.specs.Script.{most_commands}
use Rattle.loom_version.proofs.PlanRows.{HaveNoFilter}
use Rattle.loom_version.proofs.plans.Plans.make.Given as goal

abbrev pub invariant-rows : goal.invariant-rows
invariant-rows l = record {
  count : length l.rows.items ≡ l._row;
  room : vec_capacity l.rows ≡ most_commands;
  none : HaveNoFilter l.rows.items;
}
