use Rattle.std.proofs.Common.{◌≡◌, ◌≤◌, ◌+◌, ◌*◌, ◌++◌, max, length}
use Rattle.loom_tree.specs.declared.statement.Kind.{size-Kind}
use Rattle.loom_tree.specs.declared.statement.Stmts.{size-Stmts}
use Rattle.loom_tree.specs.Tree.{body_of}
use Rattle.loom_trace.specs.Limits.{place_limit}
use Rattle.loom_flow.specs.FlatCode.{place_count}
use Rattle.loom_sites.specs.Links.{body_rows}
use Rattle.loom_sites.proofs.links.+tables.Given as goal

abbrev pub decreases-put_body : goal.decreases-put_body
decreases-put_body l = 3 * size-Stmts l.body.now

abbrev pub decreases-put_choice : goal.decreases-put_choice
decreases-put_choice l = 3 * max (size-Stmts l.a.now) (size-Stmts l.b.now) + 1

abbrev pub decreases-put_loop : goal.decreases-put_loop
decreases-put_loop l = 3 * size-Stmts l.a.now + 1

abbrev pub decreases-put_statement : goal.decreases-put_statement
decreases-put_statement l = 3 * size-Kind l.kind.now

abbrev pub invariant-put_body-walk : goal.invariant-put_body-walk
invariant-put_body-walk l = record {
  within : size-Stmts l.at ≤ size-Stmts l.body;
  room : length l.rows.items + place_count (body_of l.at) ≤ place_limit;
  is :
      l.rows.items ++ body_rows l.program l.owner (length l.rows.items) (body_of l.at) l.next
      ≡ l.fn.rows.items ++ body_rows l.program l.owner (length l.fn.rows.items) (body_of l.body) l.next;
}
