use Rattle.loom_canonical.proofs.CanonicalText.{canonical_text_is_text}
use Rattle.loom_canonical.proofs.laws.canonical_text_is_a_text.Goals as goal

pub returns : goal.returns
returns c = canonical_text_is_text
