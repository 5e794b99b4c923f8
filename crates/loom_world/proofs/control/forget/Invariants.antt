use Rattle.std.proofs.Common.{ℕ, ◌≡◌, ◌<◌, Option, None, Some, length, slice_get}
use Rattle.loom_trace.specs.Limits.{thread_limit}
use Rattle.loom_trace.specs.declared.entry.What.{What}
use Rattle.loom_world.proofs.control.forget.Given as goal

abbrev pub invariant-threads : goal.invariant-threads
invariant-threads l = record {
  count : length l.waits.items ≡ thread_limit;
  none : (i : ℕ) (w : Option What) → i < l.t → slice_get l.waits.items i ≡ Some w → w ≡ None;
}
