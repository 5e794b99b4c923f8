-- Where a thread is.
use Rattle.std.specs.Prelude.{ℤ}
use Rattle.loom_flow.specs.State.{State}

pub data Position : Type 0 where
  -- before its next instruction
  before : State → Position
  -- its frame is to end with this result: the last statement of the frame is complete
  leaves : State → ℤ → Position
  -- its last frame has ended
  over : Position
