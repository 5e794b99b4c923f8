use Rattle.loom_law.proofs.OpenStatements.{nested_statements}
use Rattle.loom_law.proofs.laws.nested_statements.Goals as goal

pub returns : goal.returns
returns c = nested_statements
