use Rattle.std.proofs.Common.{◌≡◌, rules, ap, ◌∙◌}
use Rattle.loom_tree.specs.declared.statement.Stmts.{the_lemmas}
use Rattle.loom_tree.specs.Tree.{body_of, behind}
use Rattle.loom_tree.proofs.Copies.{copied_one}
use Rattle.loom_tree.proofs.+copies.Goals as goal

pub statement::Stmts::copied-walk-preserved : goal.statement::Stmts::copied-walk-preserved
statement::Stmts::copied-walk-preserved t c =
    let is : body_of c.walk.at.now ≡ behind c.deref.result.now.line c.deref-in-More.result.now.kind (body_of c.deref-at.result.now) = rw (c.deref.ensures, c.deref-in-More.ensures, c.deref-at.ensures) (ap body_of c.in-More.is) in
    record {
      within = search (rules, the_lemmas);
      copies = copied_one _ _ _ _ _ _ _ c.in_ok-push.ensures.items is c.in_ok-kind.ensures ∙ c.walk.invariant.copies;
    }
