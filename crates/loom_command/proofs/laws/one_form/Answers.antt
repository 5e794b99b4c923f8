use Rattle.loom_command.proofs.OneForm.{one_form}
use Rattle.loom_command.proofs.laws.one_form.Goals as goal

pub returns : goal.returns
returns c = one_form
