use Rattle.loom_script.proofs.OneReading.{no_refusal_without_stall}
use Rattle.loom_script.proofs.laws.no_refusal_without_stall.Goals as goal

pub returns : goal.returns
returns c = no_refusal_without_stall
