use Rattle.std.proofs.Common.{◌≡◌, rules, ap, ◌∙◌}
use Rattle.loom_tree.specs.declared.statement.Stmts.{the_lemmas}
use Rattle.loom_tree.specs.Tree.{body_of, behind, expression_of}
use Rattle.loom_canonical.proofs.BlockText.{block_more, form_first, form_rest, else_more, choice_is, loop_is}
use Rattle.loom_canonical.proofs.statement.+blocks.Goals as goal

pub put_block-put_statement-requires : goal.put_block-put_statement-requires
put_block-put_statement-requires t c =
    let is : body_of c.walk.at.now ≡ behind c.deref.result.now.line c.deref.result.now.kind (body_of c.in-More.rest.value) = rw c.deref.ensures (ap body_of c.in-More.is) in
    (search (rules, the_lemmas), form_first c.args.depth _ _ _ _ is c.walk.invariant.form)

pub put_block-walk-preserved : goal.put_block-walk-preserved
put_block-walk-preserved t c =
    let is : body_of c.walk.at.now ≡ behind c.deref.result.now.line c.deref.result.now.kind (body_of c.deref-at.result.now) = rw (c.deref.ensures, c.deref-at.ensures) (ap body_of c.in-More.is) in
    record {
      within = search (rules, the_lemmas);
      form = form_rest c.args.depth _ _ _ _ is c.walk.invariant.form;
      text = block_more c.args.depth _ _ _ _ _ _ is c.in_ok-put_statement.ensures ∙ c.walk.invariant.text;
    }

pub put_choice-returns : goal.put_choice-returns
put_choice-returns t c =
    choice_is c.args.depth (expression_of c.args.e.now) (body_of c.args.a.now) (body_of c.args.b.now) _ _ _ _ _ c.in_ok-put_head.ensures c.in_ok-put_block.ensures c.in_ok-put_else.ensures c.in_ok-put_line.ensures

pub put_loop-returns : goal.put_loop-returns
put_loop-returns t c =
    loop_is c.args.depth (expression_of c.args.e.now) (body_of c.args.a.now) _ _ _ _ c.in_ok-put_head.ensures c.in_ok-put_block.ensures c.in_ok-put_line.ensures

pub put_else-returns-in_ok-put_block-in-More : goal.put_else-returns-in_ok-put_block-in-More
put_else-returns-in_ok-put_block-in-More t c =
    let is : body_of c.args.b.now ≡ behind c.in-More.field-0.value.line c.in-More.field-0.value.kind (body_of c.in-More.field-1.value) = ap body_of c.in-More.is in
    else_more c.args.depth _ _ _ _ _ _ _ is c.in_ok-put_line-in-More.ensures c.in_ok-put_block-in-More.ensures
