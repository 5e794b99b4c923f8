use Rattle.std.proofs.Common.{◌≡◌, ◌+◌, ◌*◌, ◌≤◌, ◌++◌, [], map, length}
use Rattle.std.specs.Vec.{vec_capacity}
use Rattle.std.specs.Vec.Iter.{into_iter_items, into_iter_len}
use Rattle.loom_gate.specs.declared.view.View.TheVariants.{Key}
use Rattle.loom_gate.specs.View.{key_of}
use Rattle.loom_gate.specs.Seats.{view_of_pass, ArePassesFrom, rows_of, ends_of}
use Rattle.loom_gate.proofs.settle.settle.Given as goal

abbrev pub invariant-passes : goal.invariant-passes
invariant-passes l = record {
  left : into_iter_len l.pass-iterator ≡ length (into_iter_items l.pass-iterator);
  views : (key_of l.seat.me.0).finals ++ map view_of_pass (into_iter_items l.pass-iterator) ≡ map view_of_pass l.fn.passes.0.items;
  rows : l.rows.items ++ rows_of (into_iter_items l.pass-iterator) ≡ rows_of l.fn.passes.0.items;
  ends : l.ends.items ++ ends_of (into_iter_items l.pass-iterator) ≡ ends_of l.fn.passes.0.items;
  are : ArePassesFrom l.table.shared.table_id l.table.shared.key.threads l.table.shared.key.places (length (key_of l.seat.me.0).finals + 1) (into_iter_items l.pass-iterator);
  count : length (key_of l.seat.me.0).finals + length (into_iter_items l.pass-iterator) ≡ l.table.shared.key.threads;
  table : l.seat.table_id ≡ l.table.shared.table_id;
  view : l.seat.me ≡ (Key (key_of l.seat.me.0), []);
  switches : (key_of l.seat.me.0).switches ≡ l.fn.key.rows.items;
  room : length l.rows.items + length (into_iter_items l.pass-iterator) * 129 ≤ vec_capacity l.rows;
  space : length l.ends.items + length (into_iter_items l.pass-iterator) ≤ vec_capacity l.ends;
}
