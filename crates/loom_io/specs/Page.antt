-- What goes to a sink through a page.
use Rattle.std.specs.Prelude.{◌≡◌, ℕ, List, ◌++◌, Option}
use Rattle.std.specs.Io.KnownBytes.{Appends}
use Rattle.loom_io.specs.declared.page.TheConstants.{PAGE_SIZE}

-- bytes that a page holds at most
abbrev pub page_size : ℕ
page_size = PAGE_SIZE

-- What a sink took and what a page holds, together, grew by the text: what the page held before, and then the text, is what
-- was taken since, and then what the page holds now.
pub record PageTook (old new : Option (List ℕ)) (before now text : List ℕ) : Type 0 where
  pub taken : List ℕ
  pub appended : Appends old new taken
  pub whole : before ++ text ≡ taken ++ now
