-- A table of the lines of statements at which filters have events.
use Rattle.std.specs.Prelude.{ℕ, ◌≡◌, ◌%◌, true, List, Option, length}
use Rattle.std.specs.List.{AllByRecursion}
use Rattle.loom_trace.specs.Places.{has_place}
use Rattle.loom_command.specs.Script.{most_commands}
use Rattle.loom_law.specs.Filter.{Site, statement, Watch}
use Rattle.loom_plan.specs.Compiled.{Compiled}
use Rattle.loom_version.specs.Plans.{plans_in}

-- lines that differ by a multiple of this share an entry
abbrev pub line_entries : ℕ
line_entries = 8192

-- the line of an event at a statement is in the table
abbrev pub IsInTable : List ℕ → Site → Type 0
IsInTable words (statement l) = has_place words (l % line_entries) ≡ true
IsInTable words _ = Unit {0}

abbrev pub AreInTable : List ℕ → List Watch → Type 0
AreInTable words ws = AllByRecursion (λ (w : Watch). IsInTable words w.site) ws

-- There is a row for each command, and the lines of all filters are in the table.
pub record KeepsLines (rows : List (Option Compiled)) (words : List ℕ) : Type 0 where
  pub count : length rows ≡ most_commands
  pub lines : (k : ℕ) → AreInTable words (plans_in rows k).watches
