-- What a shelf tells of its files, and what it gives of them.
use Rattle.std.specs.Prelude.{ℕ, ◌+◌, ◌≡◌, List, take, Option, Some, None, Result, Ok, Err}
use Rattle.loom_io.specs.FaultCount.{next}
use Rattle.loom_io.specs.declared.shelf.ShelfError.{ShelfError}
use Rattle.loom_io.specs.declared.shelf.ShelfError.TheVariants as error

-- what a shelf tells of a name: nothing, that no file has it, or what the file holds
pub data FileState : Type 0 where
  Untold : FileState
  Missing : FileState
  Present : List ℕ → FileState

-- what a shelf tells that knows all of its files
abbrev pub state_of : Option (List ℕ) → FileState
state_of None = Missing
state_of (Some bytes) = Present bytes

-- The bytes are what a read with this limit gives: the whole file, or one byte more than the limit where the file has more. A
-- missing file gives none.
abbrev pub IsRead : FileState → ℕ → List ℕ → Type 0
IsRead Untold limit bytes = Unit {0}
IsRead Missing limit bytes = ⊥
IsRead (Present file) limit bytes = bytes ≡ take (limit + 1) file

-- the count of faults behind a read: one more where it failed, and as it was at want of memory
abbrev pub faults_after_read : {T : Type 0} → ℕ → Result T ShelfError → ℕ
faults_after_read count (Ok bytes) = count
faults_after_read count (Err error.Failed) = next count
faults_after_read count (Err error.NoMemory) = count
