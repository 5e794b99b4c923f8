-- What is asked of the rows of a table.
use Rattle.std.specs.Prelude.{ℕ, zero, suc, ◌≡◌, ◌<◌, ◌≤◌, Bool, false, ◌||◌, List, [], ◌∷◌, length, slice_get, Option, Some, None}
use Rattle.loom_trace.specs.Limits.{place_limit}
use Rattle.loom_lang.specs.Limits.{function_limit}
use Rattle.loom_sites.specs.declared.links.PlaceLinks.{PlaceLinks}
use Rattle.loom_sites.specs.declared.links.PlaceKind.{PlaceKind}
use Rattle.loom_sites.specs.declared.links.PlaceKind.TheVariants as kind
use Rattle.loom_sites.specs.Nodes.{node_number}

-- a test of places with their numbers
abbrev pub RowTest : Type 0
RowTest = ℕ → PlaceLinks → Bool

abbrev pub test_if : RowTest → ℕ → Option PlaceLinks → Bool
test_if test k None = false
test_if test k (Some row) = test k row

-- the place of this number meets it
abbrev pub meets_at : RowTest → List PlaceLinks → ℕ → Bool
meets_at test rows k = test_if test k (slice_get rows k)

-- one of these meets it, the first having this number
abbrev pub any_meets : RowTest → ℕ → List PlaceLinks → Bool
any_meets test k [] = false
any_meets test k (row ∷ rows) = test k row || any_meets test (suc k) rows

-- one of so many from this number on
abbrev pub any_run : RowTest → List PlaceLinks → ℕ → ℕ → Bool
any_run test rows k zero = false
any_run test rows k (suc n) = meets_at test rows k || any_run test rows (suc k) n

abbrev pub IsFewCall : PlaceKind → Type 0
IsFewCall (kind.Call f) = f < function_limit
IsFewCall _ = Unit {0}

-- a row leads to places of the table, and its function has a bit
pub record IsRowOf (count : ℕ) (row : PlaceLinks) : Type 0 where
  pub first : node_number row.first < count
  pub second : node_number row.second < count
  pub behind : node_number row.behind < count
  pub end : row.end ≤ count
  pub function : row.function < function_limit
  pub call : IsFewCall row.kind

-- the table leads nowhere else
pub record IsTable (rows : List PlaceLinks) : Type 0 where
  pub few : length rows ≤ place_limit
  pub each : (k : ℕ) (row : PlaceLinks) → slice_get rows k ≡ Some row → IsRowOf (length rows) row
