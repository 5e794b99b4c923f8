use Rattle.loom_lang.proofs.OneRefusal.{one_refusal}
use Rattle.loom_lang.proofs.laws.one_refusal.Goals as goal

pub returns : goal.returns
returns c = one_refusal
