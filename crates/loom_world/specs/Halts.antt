-- What a command that is asked finds of threads.
use Rattle.std.specs.Prelude.{ℕ, ◌≡◌, ◌⊎◌, Option, Some, None}
use Rattle.loom_law.specs.Lawful.{Lives, IsBlocked}
use Rattle.loom_world.specs.Answers.{IsFoundFlagged, IsFoundUnflagged}
use Rattle.loom_world.specs.Book.{Book, setting, front, found_place}
use Rattle.loom_world.specs.declared.found.Halt.{Halt}
use Rattle.loom_world.specs.declared.found.Halt.TheVariants as h
use Rattle.loom_world.specs.declared.found.Stall.{Stall}

-- It is blocked at this place, which isn't flagged.
pub record IsHaltedAt (b : Book) (k t y : ℕ) : Type 0 where
  pub lives : Lives b.store t
  pub line : ℕ
  pub found : found_place b t ≡ Some y
  pub unflagged : IsFoundUnflagged b k t line
  pub blocked : IsBlocked (setting b) (front b) t

-- It lives, wasn't found at a flagged place, and isn't blocked, or wasn't found at all.
pub record MayStillMove (b : Book) (k t : ℕ) : Type 0 where
  pub lives : Lives b.store t
  pub not_flagged : IsFoundFlagged b k t → ⊥
  pub free : (IsBlocked (setting b) (front b) t → ⊥) ⊎ (found_place b t ≡ None)

abbrev pub HaltsSo : Book → ℕ → ℕ → Halt → Type 0
HaltsSo b k t h.None = MayStillMove b k t
HaltsSo b k t h.Flagged = (Lives b.store t → ⊥) ⊎ IsFoundFlagged b k t
HaltsSo b k t (h.Blocked y) = IsHaltedAt b k t y

abbrev pub first_stall : Option Stall → ℕ → ℕ → Option Stall
first_stall None t l = Some (record { thread = t; line = l })
first_stall (Some x) t l = Some x
