use Rattle.std.proofs.Common.{◌++◌, [], refl, ap, ◌∙◌}
use Rattle.loom_canonical.proofs.ExpressionText.{listed_behind, listed_is, listed_more}
use Rattle.loom_canonical.proofs.expression.put_name_list.Goals as goal

pub each-init : goal.each-init
each-init c = ap (λ z. c.args.out.now ++ listed_behind [] z) (c.deref-x-items.ensures.value ∙ c.names.view_is) ∙ ap (λ z. c.args.out.now ++ z) (listed_is c.args.names.now)

pub each-preserved : goal.each-preserved
each-preserved c =
    listed_more (λ x. x) (λ xs. xs) (λ x xs. refl) _ _ c.x-item.result _ _ _ _ c.each-test.true c.x-item.is c.in_ok-put_bytes.ensures (c.in_ok-put_bytes-2.ensures ∙ ap (λ z. c.put_bytes.new.out ++ z) c.bytes.ensures)
    ∙ c.each.invariant
