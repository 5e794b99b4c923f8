use Rattle.loom_lang.proofs.OneRefusal.{no_refusal}
use Rattle.loom_lang.proofs.laws.no_refusal.Goals as goal

pub returns : goal.returns
returns c = no_refusal
