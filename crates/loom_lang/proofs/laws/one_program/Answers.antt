use Rattle.loom_lang.proofs.Texts.{one_program}
use Rattle.loom_lang.proofs.laws.one_program.Goals as goal

pub returns : goal.returns
returns c = one_program
