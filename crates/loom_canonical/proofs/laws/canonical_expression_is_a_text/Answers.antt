use Rattle.loom_canonical.proofs.CanonicalExpression.{canonical_expression_is_text}
use Rattle.loom_canonical.proofs.laws.canonical_expression_is_a_text.Goals as goal

pub returns : goal.returns
returns c = canonical_expression_is_text
