use Rattle.std.proofs.Common.{◌≡◌, ℕ, ◌+◌, ◌<◌, ◌≤◌, length, replicate}
use Rattle.std.specs.Prelude.{slice_index_or}
use Rattle.loom_gate.specs.declared.view.Look.TheVariants.{Unknown}
use Rattle.loom_gate.specs.Seats.{threads_of, view_of_key, IsKeyOf}
use Rattle.loom_gate.proofs.key.Key.store.Given as goal

abbrev pub invariant-words : goal.invariant-words
invariant-words l =
    IsKeyOf l.gate l.self
    × ((w : ℕ) → w < l.w → slice_index_or (view_of_key l.self).up w 0 ≡ slice_index_or l.words w 0)
    × (0 < l.w → (view_of_key l.self).looks ≡ replicate (threads_of l.gate + 1) Unknown)
    × (l.self.version ≡ l.fn.self.version) × (l.self.left ≡ l.fn.self.left) × (l.self.rows.items ≡ l.fn.self.rows.items)
    × (l.w ≤ l.gate.flags)
    × (length (view_of_key l.self).ever ≡ length (view_of_key l.fn.self).ever + l.w)
