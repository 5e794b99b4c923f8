use Rattle.std.proofs.Common.{arith}
use Rattle.loom_flow.proofs.FlowLaws.{few_sites}
use Rattle.loom_world.proofs.flags.all_places.Goals as goal

pub put-requires : goal.put-requires
put-requires c = let few = few_sites c.args.flow.now c.code.ensures.lowered in omega (arith, few, c.places-test.true, c.places-p-end.ensures.places)
