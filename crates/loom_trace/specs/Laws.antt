-- What the text of a journal tells.
use Rattle.std.specs.Prelude.{◌≡◌, List}
use Rattle.loom_trace.specs.declared.entry.Entry.{Entry}
use Rattle.loom_trace.specs.Text.{entry_line, journal_text}

-- two entries with the same line are equal
abbrev pub LineTellsEntry : Type 0
LineTellsEntry = (x y : Entry) → entry_line x ≡ entry_line y → x ≡ y

-- two lists of entries with the same text are equal
abbrev pub TextTellsJournal : Type 0
TextTellsJournal = (es fs : List Entry) → journal_text es ≡ journal_text fs → es ≡ fs
