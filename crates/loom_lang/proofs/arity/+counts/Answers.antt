use Rattle.std.proofs.Common.{◌≡◌, rules, ap, ◌∙◌}
use Rattle.loom_tree.specs.declared.statement.Stmts.{the_lemmas}
use Rattle.loom_tree.specs.Tree.{Source, body_of, behind, items_of}
use Rattle.loom_lang.specs.declared.refusal.Reason.TheVariants as reason
use Rattle.loom_lang.specs.FileItems.{source_of_items}
use Rattle.loom_lang.proofs.Behind.{miscounted_step}
use Rattle.loom_lang.proofs.arity.+counts.Goals as goal

pub note_body-walk-preserved : goal.note_body-walk-preserved
note_body-walk-preserved t c =
    let is : body_of c.walk.at.now ≡ behind c.deref.result.now.line c.deref-in-More.result.now.kind (body_of c.deref-at.result.now) = rw (c.deref.ensures, c.deref-in-More.ensures, c.deref-at.ensures) (ap body_of c.in-More.is) in
    let p : Source = source_of_items (items_of c.args.items.now) in
    record {
      within = search (rules, the_lemmas);
      noted = miscounted_step _ _ reason.WrongCount p c.deref.result.now.line c.deref-in-More.result.now.kind _ _ is c.note_statement.ensures ∙ c.walk.invariant.noted;
    }
