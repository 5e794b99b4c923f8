use Rattle.std.proofs.Common.{◌≡◌, ◌≤◌, length, [], All}
use Rattle.std.specs.Vec.{vec_capacity}
use Rattle.loom_gate.specs.declared.view.View.TheVariants.{Key}
use Rattle.loom_gate.specs.View.{first_key}
use Rattle.loom_gate.specs.Seats.{ArePassesFrom, IsStanding}
use Rattle.loom_gate.proofs.gate.Gate.make.Given as goal

abbrev pub invariant-threads : goal.invariant-threads
invariant-threads l = record {
  are : ArePassesFrom l.table.shared.table_id l.threads l.places 1 l.passes.items;
  stand : All (λ p. IsStanding p × (p.place ≡ 0) × (p.rows.items ≡ [])) l.passes.items;
  table : l.seat.table_id ≡ l.table.shared.table_id;
  view : l.seat.me ≡ (Key (record (first_key l.threads l.places) { born = l.t }), []);
  count : length l.passes.items ≡ l.t;
  room : l.n ≤ vec_capacity l.passes;
  within : l.t ≤ l.threads;
}
