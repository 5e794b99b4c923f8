use Rattle.std.proofs.Common.{◌≡◌, ◌≤◌, ◌+◌}
use Rattle.loom_tree.specs.declared.statement.Stmts.{size-Stmts}
use Rattle.loom_tree.specs.Tree.{body_of}
use Rattle.loom_flow.specs.FlatCode.{place_count}
use Rattle.loom_sites.proofs.size.+sizes.Given as goal

abbrev pub invariant-place_count-walk : goal.invariant-place_count-walk
invariant-place_count-walk l = record {
  within : size-Stmts l.at ≤ size-Stmts l.body;
  is : l.count + place_count (body_of l.at) ≡ place_count (body_of l.body);
}
