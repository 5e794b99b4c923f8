use Rattle.std.proofs.Common.{◌≡◌, take}
use Rattle.loom_strand.proofs.args.args_of.Given as goal

abbrev pub invariant-values : goal.invariant-values
invariant-values l = l.args ≡ take l.v-index l.values
