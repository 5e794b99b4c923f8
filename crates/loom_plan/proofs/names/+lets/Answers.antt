use Rattle.std.proofs.Common.{◌≡◌, rules, ap, ◌∙◌}
use Rattle.loom_tree.specs.declared.statement.Stmts.{the_lemmas}
use Rattle.loom_tree.specs.Tree.{body_of, behind}
use Rattle.loom_plan.proofs.Walks.{let_first, let_later}
use Rattle.loom_plan.proofs.names.+lets.Goals as goal

pub is_let-returns-then-is_let_at : goal.is_let-returns-then-is_let_at
is_let-returns-then-is_let_at t c =
    let is : body_of c.walk.at.now ≡ behind c.in-More.first.value.line c.deref.result.now.kind (body_of c.in-More.rest.value) = rw (c.deref.ensures) (ap body_of c.in-More.is) in
    let_first _ _ c.deref.result.now.kind _ _ _ is c.is_let_at.ensures c.if-is_let_at.true ∙ c.walk.invariant.rest

pub is_let-walk-preserved : goal.is_let-walk-preserved
is_let-walk-preserved t c =
    let is : body_of c.walk.at.now ≡ behind c.in-More.first.value.line c.deref.result.now.kind (body_of c.deref-at.result.now) = rw (c.deref.ensures, c.deref-at.ensures) (ap body_of c.in-More.is) in
    record {
      within = search (rules, the_lemmas);
      rest = let_later _ _ c.deref.result.now.kind _ _ _ is c.is_let_at.ensures c.if-is_let_at.false ∙ c.walk.invariant.rest;
    }
