use Rattle.std.proofs.Common.{◌++◌, [], map, refl, ap, ◌∙◌}
use Rattle.loom_tree.specs.Tree.{expression_of, expressions_of}
use Rattle.loom_lang.specs.Canonical.{expression_text}
use Rattle.loom_canonical.proofs.ExpressionText.{listed_behind, listed_is, listed_more}
use Rattle.loom_canonical.proofs.expression.put_value_list.Goals as goal

pub each-init : goal.each-init
each-init c =
    ap (λ z. c.args.out.now ++ listed_behind [] (map expression_text (expressions_of z))) (c.deref-e-items.ensures.value ∙ c.es.view_is)
    ∙ ap (λ z. c.args.out.now ++ z) (listed_is (map expression_text (expressions_of c.args.es.now)))

pub each-preserved : goal.each-preserved
each-preserved c =
    listed_more (λ e. expression_text (expression_of e)) (λ es. map expression_text (expressions_of es)) (λ e es. refl) _ _ c.e-item.result _ _ _ _ c.each-test.true c.e-item.is c.in_ok-put_bytes.ensures c.in_ok-put_expression.ensures
    ∙ c.each.invariant
