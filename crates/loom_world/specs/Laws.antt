-- Laws of lawful journals.
use Rattle.std.specs.Prelude.{suc, ◌+◌, ◌*◌, ◌≤◌, List, length}
use Rattle.loom_trace.specs.declared.entry.Entry.{Entry}
use Rattle.loom_law.specs.Lawful.{Setting, IsLawful}

-- A journal has at most as many entries as threads may make, two for each command, and `Finish`.
abbrev pub HasFewEntries : Type 0
HasFewEntries = (s : Setting) (es : List Entry) → IsLawful s es → length es ≤ suc (s.limit + 2 * length s.commands)
