use Rattle.std.proofs.Common.{ℕ, suc, ◌+◌, ◌≡◌, Some, length, slice_get}
use Rattle.std.specs.Prelude.{vec_capacity}
use Rattle.std.specs.Arc.{arc_value}
use Rattle.loom_trace.specs.Limits.{thread_limit}
use Rattle.loom_strand.specs.Strand.{Strand, IsNew}
use Rattle.loom_world.proofs.world.strands_of.Given as goal

abbrev pub invariant-threads : goal.invariant-threads
invariant-threads l = record {
  count : length l.strands.items + 1 ≡ l.t;
  room : vec_capacity l.strands ≡ thread_limit;
  each : (i : ℕ) (s : Strand) → slice_get l.strands.items i ≡ Some s → IsNew l.flow.program (arc_value l.plans) (suc i) l.limit s;
}
