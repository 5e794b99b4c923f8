-- What it means to read a program, and what an error says of the bytes.
use Rattle.std.specs.Prelude.{ℕ, List, Result, Ok, Err}
use Rattle.loom_tree.specs.declared.item.FileItem.{FileItem}
use Rattle.loom_tree.specs.Tree.{items_of}
use Rattle.loom_lang.specs.declared.parse.LangError.{LangError}
use Rattle.loom_lang.specs.declared.parse.LangError.TheVariants as e
use Rattle.loom_lang.specs.Rules.{KeepsRules}
use Rattle.loom_lang.specs.FileItems.{source_of_items}
use Rattle.loom_lang.specs.Program.{IsTextOf}
use Rattle.loom_lang.specs.Refusal.{IsRefusedProgram}

-- The bytes are refused at this line and for this reason. Want of memory says nothing of them.
abbrev pub TellsRefusal : List ℕ → LangError → Type 0
TellsRefusal bytes (e.Refused r) = IsRefusedProgram bytes r.line r.reason
TellsRefusal bytes e.NoMemory = Unit {0}

abbrev pub IsReading : List ℕ → Result (List FileItem) LangError → Type 0
IsReading bytes (Ok items) = IsTextOf bytes (items_of items) × KeepsRules (source_of_items (items_of items))
IsReading bytes (Err error) = TellsRefusal bytes error
