use Rattle.std.proofs.Common.{◌≡◌, ◌≤◌, ◌++◌}
use Rattle.loom_tree.specs.declared.statement.Stmts.{size-Stmts}
use Rattle.loom_tree.specs.Tree.{body_of}
use Rattle.loom_lang.specs.Places.{body_places}
use Rattle.loom_plan.specs.Table.{sites_of, sites_at}
use Rattle.loom_plan.proofs.table.+tables.Given as goal

abbrev pub invariant-put_body-walk : goal.invariant-put_body-walk
invariant-put_body-walk l = record {
  within : size-Stmts l.at ≤ size-Stmts l.body;
  is : sites_of l.sites.items ++ sites_at (body_places (body_of l.at)) ≡ sites_of l.fn.sites.items ++ sites_at (body_places (body_of l.body));
}
