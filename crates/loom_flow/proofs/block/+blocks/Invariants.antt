use Rattle.std.proofs.Common.{◌≡◌, ◌≤◌, ◌+◌, ◌*◌, ◌++◌, max, true, length}
use Rattle.loom_tree.specs.declared.statement.Kind.{size-Kind}
use Rattle.loom_tree.specs.declared.statement.Stmts.{size-Stmts}
use Rattle.loom_tree.specs.Tree.{body_of}
use Rattle.loom_lang.specs.Rules.{knows_body}
use Rattle.loom_flow.specs.Arguments.{takes_body}
use Rattle.loom_flow.specs.FlatCode.{place_count, flat_body, body_sites, site_limit}
use Rattle.loom_flow.proofs.block.+blocks.Given as goal

abbrev pub decreases-body : goal.decreases-body
decreases-body l = 3 * size-Stmts l.body.now

abbrev pub decreases-choice : goal.decreases-choice
decreases-choice l = 3 * max (size-Stmts l.a.now) (size-Stmts l.b.now) + 1

abbrev pub decreases-repeat : goal.decreases-repeat
decreases-repeat l = 3 * size-Stmts l.a.now + 1

abbrev pub decreases-statement : goal.decreases-statement
decreases-statement l = 3 * size-Kind l.kind.now

abbrev pub invariant-body-walk : goal.invariant-body-walk
invariant-body-walk l = record {
  within : size-Stmts l.at ≤ size-Stmts l.body;
  known : knows_body l.scope.program l.scope.locals (body_of l.at) ≡ true;
  counted : takes_body l.scope.program (body_of l.at) ≡ true;
  room : length l.sites.items + place_count (body_of l.at) ≤ site_limit;
  code :
      l.code.items ++ flat_body l.scope.program l.scope.locals (length l.code.items) (length l.sites.items) (body_of l.at)
      ≡ l.fn.code.items ++ flat_body l.scope.program l.scope.locals (length l.fn.code.items) (length l.fn.sites.items) (body_of l.body);
  sites :
      l.sites.items ++ body_sites l.scope.program l.scope.locals (length l.code.items) (body_of l.at)
      ≡ l.fn.sites.items ++ body_sites l.scope.program l.scope.locals (length l.fn.code.items) (body_of l.body);
}
