-- Bytes with room for more.
use Rattle.std.specs.Prelude.{ℕ, List}

pub record Buffer : Type 0 where
  pub bytes : List ℕ
  -- how many more it takes
  pub room : ℕ
