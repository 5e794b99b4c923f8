use Rattle.std.proofs.Common.{◌≡◌, rules, ap, ◌∙◌}
use Rattle.loom_tree.specs.declared.statement.Stmts.{the_lemmas}
use Rattle.loom_tree.specs.Tree.{body_of, behind}
use Rattle.loom_lang.specs.Refusal.{lets_at}
use Rattle.loom_lang.proofs.Behind.{lets_behind}
use Rattle.loom_lang.proofs.Faults.{put_on}
use Rattle.loom_lang.proofs.walk.+gather.Goals as goal

pub put_lets-walk-preserved : goal.put_lets-walk-preserved
put_lets-walk-preserved t c =
    let is : body_of c.walk.at.now ≡ behind c.deref.result.now.line c.deref-in-More.result.now.kind (body_of c.deref-at.result.now) = rw (c.deref.ensures, c.deref-in-More.ensures, c.deref-at.ensures) (ap body_of c.in-More.is) in
    record {
      within = search (rules, the_lemmas);
      locals = put_on _ _ _ _ _ _ (ap lets_at is ∙ lets_behind _ c.deref-in-More.result.now.kind _) c.in_ok-put_lets_in.ensures c.walk.invariant.locals;
    }
