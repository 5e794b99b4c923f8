use Rattle.loom_script.proofs.ShortTexts.{texts_are_short}
use Rattle.loom_script.proofs.laws.texts_are_short.Goals as goal

pub returns : goal.returns
returns c = texts_are_short
