use Rattle.loom_tree.specs.Tree.{function_of}
use Rattle.loom_flow.proofs.Counts.{function_takes}
use Rattle.loom_flow.proofs.lower.put.Goals as goal

pub with_body-requires : goal.with_body-requires
with_body-requires c = function_takes c.args.scope.now.program (function_of c.args.f.now) c.requires.lawful
