use Rattle.std.proofs.Common.{ℕ, ◌≡◌, Option, None, Some, length, slice_get}
use Rattle.std.specs.Prelude.{vec_capacity}
use Rattle.loom_trace.specs.Limits.{thread_limit}
use Rattle.loom_world.proofs.book.no_stands.Given as goal

abbrev pub invariant-threads : goal.invariant-threads
invariant-threads l = record {
  count : length l.stands.items ≡ l.counter;
  room : vec_capacity l.stands ≡ thread_limit;
  none : (i : ℕ) (w : Option ℕ) → slice_get l.stands.items i ≡ Some w → w ≡ None;
}
