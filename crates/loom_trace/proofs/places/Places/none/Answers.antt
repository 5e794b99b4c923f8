use Rattle.loom_trace.specs.Places.{word_count}
use Rattle.loom_trace.proofs.Bits.{has_none}
use Rattle.loom_trace.proofs.places.Places.none.Goals as goal

pub returns : goal.returns
returns c = has_none word_count
