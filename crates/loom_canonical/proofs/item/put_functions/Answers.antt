use Rattle.std.proofs.Common.{◌∙◌}
use Rattle.loom_canonical.proofs.ItemText.{form_at, functions_more}
use Rattle.loom_canonical.proofs.item.put_functions.Goals as goal

pub put_function_lines-requires : goal.put_function_lines-requires
put_function_lines-requires c = (form_at _ _ c.f-item.result c.each-test.true c.f-item.is c.each.invariant.forms).0

pub each-preserved : goal.each-preserved
each-preserved c = record {
  forms = (form_at _ _ c.f-item.result c.each-test.true c.f-item.is c.each.invariant.forms).1;
  text = functions_more _ _ c.f-item.result _ _ c.each-test.true c.f-item.is c.in_ok-put_function_lines.ensures ∙ c.each.invariant.text;
}
