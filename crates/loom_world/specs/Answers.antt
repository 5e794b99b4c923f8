-- The answer that a command gets, by where threads were found to stand.
use Rattle.std.specs.Prelude.{ℕ, zero, suc, ◌≡◌, ◌<◌, ◌≤◌, ◌⊎◌, List, [], length, Option, Some, None, slice_get}
use Rattle.loom_lang.specs.Places.{Place, place_at, line_of_place}
use Rattle.loom_trace.specs.declared.entry.Entry.{Entry}
use Rattle.loom_trace.specs.declared.entry.Entry.TheVariants as e
use Rattle.loom_trace.specs.Limits.{thread_limit}
use Rattle.loom_law.specs.Lawful.{Lives, IsBlocked, IsFlagged, MayControl}
use Rattle.loom_world.specs.Book.{Book, setting, front, found_place}

-- Thread t was found at the place of this number, which is flagged for command k.
pub record IsFoundFlagged (b : Book) (k t : ℕ) : Type 0 where
  pub number : ℕ
  pub found : found_place b t ≡ Some number
  pub place : Place
  pub is : place_at b.program number ≡ Some place
  pub flagged : IsFlagged (setting b) k place

-- and at one that isn't
pub record IsFoundUnflagged (b : Book) (k t l : ℕ) : Type 0 where
  pub number : ℕ
  pub found : found_place b t ≡ Some number
  pub place : Place
  pub is : place_at b.program number ≡ Some place
  pub not_flagged : IsFlagged (setting b) k place → ⊥
  pub line : l ≡ line_of_place b.program place

-- the place that a row lists for a thread, counted from 1
abbrev pub row_number : List ℕ → ℕ → Option ℕ
row_number row zero = None
row_number row (suc i) = slice_get row i

-- Each thread was found at a flagged place, and the row lists these places.
pub record AreFound (b : Book) (k : ℕ) (row : List ℕ) : Type 0 where
  pub each : (t : ℕ) → 1 ≤ t → t ≤ thread_limit → IsFoundFlagged b k t
  pub count : length row ≡ thread_limit
  pub listed : (t : ℕ) → 1 ≤ t → t ≤ thread_limit → found_place b t ≡ row_number row t

-- Each live thread was found at a flagged place, or at another one and is blocked there; thread t is the lowest of those.
pub record IsFoundStalled (b : Book) (k t l : ℕ) : Type 0 where
  pub lives : Lives b.store t
  pub here : IsFoundUnflagged b k t l
  pub each : (u : ℕ) → Lives b.store u → IsFoundFlagged b k u ⊎ (((m : ℕ) × IsFoundUnflagged b k u m) × IsBlocked (setting b) (front b) u)
  pub lowest : (u : ℕ) → Lives b.store u → u < t → IsFoundFlagged b k u

-- By where threads were found, this entry may be made.
abbrev pub IsAsFound : Book → Entry → Type 0
IsAsFound b (e.Installed k v row) = AreFound b k row
IsAsFound b (e.Removed k v row) = AreFound b k row
IsAsFound b (e.Stalled k t l) = IsFoundStalled b k t l
IsAsFound b _ = Unit {0}

-- The control entry stands next.
pub record StandsNext (b : Book) (x : Entry) : Type 0 where
  pub may : MayControl (setting b) (front b) x []
  pub found : IsAsFound b x
