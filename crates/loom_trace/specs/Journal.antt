-- What a journal holds.
use Rattle.std.specs.Prelude.{ℕ, List}
use Rattle.loom_trace.specs.declared.entry.Entry.{Entry}

pub record Contents : Type 0 where
  pub entries : List Entry
  -- how many may still be pushed
  pub room : ℕ
