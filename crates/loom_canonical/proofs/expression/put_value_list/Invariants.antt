use Rattle.std.proofs.Common.{◌≡◌, ◌++◌, map, drop}
use Rattle.loom_tree.specs.Tree.{expressions_of}
use Rattle.loom_lang.specs.Canonical.{expression_text, listed}
use Rattle.loom_canonical.proofs.ExpressionText.{listed_behind}
use Rattle.loom_canonical.proofs.expression.put_value_list.Given as goal

abbrev pub invariant-each : goal.invariant-each
invariant-each l = l.out ++ listed_behind l.comma (map expression_text (expressions_of (drop l.e-index l.e-items))) ≡ l.fn.out ++ listed (map expression_text (expressions_of l.es))
