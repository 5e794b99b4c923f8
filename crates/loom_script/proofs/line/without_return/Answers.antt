use Rattle.std.proofs.Common.{◌<◌, length, rules}
use Rattle.loom_script.proofs.LineCuts.{return_there, no_return_there}
use Rattle.loom_script.proofs.line.without_return.Goals as goal

pub returns-then-line-last-eq13 : goal.returns-then-line-last-eq13
returns-then-line-last-eq13 c = let some : 0 < length c.args.line.now = search rules in return_there c.args.line.now some c.if-line-last-eq13.true

pub returns-else-line-last-eq13 : goal.returns-else-line-last-eq13
returns-else-line-last-eq13 c = let some : 0 < length c.args.line.now = search rules in no_return_there c.args.line.now some c.if-line-last-eq13.false
