use Rattle.std.proofs.Common.{◌≡◌, rules, ap, ◌∙◌}
use Rattle.loom_tree.specs.declared.statement.Stmts.{the_lemmas}
use Rattle.loom_tree.specs.Tree.{body_of, behind}
use Rattle.loom_plan.proofs.Walks.{begins_own, begins_first, begins_later}
use Rattle.loom_version.proofs.slow.+lines.Goals as goal

pub has_line_at-returns-then-own-line : goal.has_line_at-returns-then-own-line
has_line_at-returns-then-own-line t c = begins_own c.args.line c.args.own c.args.kind.now c.if-own-line.true

pub has_line-returns-then-has_line_at : goal.has_line-returns-then-has_line_at
has_line-returns-then-has_line_at t c =
    let is : body_of c.walk.at.now ≡ behind c.deref.result.now.line c.deref-in-More.result.now.kind (body_of c.in-More.rest.value) = rw (c.deref.ensures, c.deref-in-More.ensures) (ap body_of c.in-More.is) in
    begins_first _ _ c.deref-in-More.result.now.kind _ _ _ is c.has_line_at.ensures c.if-has_line_at.true ∙ c.walk.invariant.rest

pub has_line-walk-preserved : goal.has_line-walk-preserved
has_line-walk-preserved t c =
    let is : body_of c.walk.at.now ≡ behind c.deref.result.now.line c.deref-in-More.result.now.kind (body_of c.deref-at.result.now) = rw (c.deref.ensures, c.deref-in-More.ensures, c.deref-at.ensures) (ap body_of c.in-More.is) in
    record {
      within = search (rules, the_lemmas);
      rest = begins_later _ _ c.deref-in-More.result.now.kind _ _ _ is c.has_line_at.ensures c.if-has_line_at.false ∙ c.walk.invariant.rest;
    }
