use Rattle.std.proofs.Common.{◌≡◌, rules, ap, ◌∙◌}
use Rattle.loom_tree.specs.declared.statement.Stmts.{the_lemmas}
use Rattle.loom_tree.specs.Tree.{body_of, behind}
use Rattle.loom_lang.specs.Rules.{statement_lines}
use Rattle.loom_lang.proofs.Behind.{lines_behind}
use Rattle.loom_lang.proofs.Faults.{put_on}
use Rattle.loom_lang.proofs.walk.+lines.Goals as goal

pub put_lines-walk-preserved : goal.put_lines-walk-preserved
put_lines-walk-preserved t c =
    let is : body_of c.walk.at.now ≡ behind c.deref.result.now.line c.deref-in-More.result.now.kind (body_of c.deref-at.result.now) = rw (c.deref.ensures, c.deref-in-More.ensures, c.deref-at.ensures) (ap body_of c.in-More.is) in
    record {
      within = search (rules, the_lemmas);
      lines = put_on _ _ _ _ _ _ (ap statement_lines is ∙ lines_behind _ c.deref-in-More.result.now.kind _) c.in_ok-put_lines_in.ensures c.walk.invariant.lines;
    }
