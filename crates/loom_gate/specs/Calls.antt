-- What the calls of a pass and of the key answer.
use Rattle.std.specs.Prelude.{◌≡◌, ℕ, ◌<◌, true, false, if◌then◌else◌, List, [], ◌∷◌, ◌++◌}
use Rattle.loom_gate.specs.declared.log.PassRow.{PassRow}
use Rattle.loom_gate.specs.declared.pass.Pass as pass
use Rattle.loom_gate.specs.declared.pass.Entered as answer
use Rattle.loom_gate.specs.declared.pass.Entered.TheVariants as answers
use Rattle.loom_gate.specs.declared.key.Looked as look
use Rattle.loom_gate.specs.declared.key.Looked.TheVariants as looks
use Rattle.loom_gate.specs.declared.view.Look.{Look}
use Rattle.loom_gate.specs.declared.view.Look.TheVariants.{SawInside, SawPlace}
use Rattle.loom_gate.specs.Record.{has_version}
use Rattle.loom_gate.specs.Seats.{IsStanding, IsInsideAt, FoundBit}

-- the pass's own check found the bit of the place, in the word i of the table: down, and it is inside; up, and it stands as before
abbrev pub HasEntered : ℕ → ℕ → answer.Entered → pass.Pass → Type 0
HasEntered i place (answers.Inside v) p = IsInsideAt v p × FoundBit i place false p
HasEntered i place (answers.Flagged q) p = (q ≡ place) × IsStanding p × FoundBit i place true p

-- the rows, with one more where this is the first entering with the version
abbrev pub rows_after : ℕ → ℕ → answer.Entered → List PassRow → List PassRow
rows_after t place (answers.Inside v) rows = if has_version v rows then rows else rows ++ record { thread = t; version = v; place = place } ∷ []
rows_after t place (answers.Flagged q) rows = rows

-- the place found is one of so many
abbrev pub IsPlaceBelow : ℕ → look.Looked → Type 0
IsPlaceBelow places looks.Inside = Unit {0}
IsPlaceBelow places (looks.Stands p) = p < places

-- what the look answered
abbrev pub look_told : look.Looked → Look
look_told looks.Inside = SawInside
look_told (looks.Stands p) = SawPlace p
