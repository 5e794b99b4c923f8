-- The record of a gate.
use Rattle.std.specs.Prelude.{◌≡◌, ◌⊎◌, ℕ, ◌-◌, ◌<◌, ◌==◌, ◌&&◌, leb, Bool, true, false, if◌then◌else◌, List, [], ◌∷◌, slice_index_or, All}
use Rattle.loom_gate.specs.declared.log.PassRow.{PassRow}
use Rattle.loom_gate.specs.declared.log.SwitchRow.{SwitchRow}
use Rattle.loom_gate.specs.declared.log.GateLog.{GateLog}

-- thread t entered here, with this version or a later one
abbrev pub is_from : ℕ → ℕ → PassRow → Bool
is_from t version r = (r.thread == t) && leb version r.version

-- the place of the first row in which thread t entered with this version or a later one; where there is none, the place at the end
abbrev pub place_from : ℕ → ℕ → ℕ → List PassRow → ℕ
place_from t version end [] = end
place_from t version end (r ∷ rs) = if is_from t version r then r.place else place_from t version end rs

-- there is a row with this version
abbrev pub has_version : ℕ → List PassRow → Bool
has_version version [] = false
has_version version (r ∷ rs) = if r.version == version then true else has_version version rs

-- the threads rise, and of each thread the versions
abbrev pub IsBefore : PassRow → PassRow → Type 0
IsBefore r s = (r.thread < s.thread) ⊎ ((r.thread ≡ s.thread) × (r.version < s.version))

abbrev pub AreInOrder : List PassRow → Type 0
AreInOrder [] = Unit {0}
AreInOrder (r ∷ rs) = All (IsBefore r) rs × AreInOrder rs

-- each place read at a switch is where that thread's pass next entered from, or stands at the end
abbrev pub IsSound : GateLog → Type 0
IsSound log = All (λ (w : SwitchRow). place_from w.thread w.version (slice_index_or log.ends.0.items (w.thread - 1) 0) log.rows.0.items ≡ w.place) log.switches.0.items
