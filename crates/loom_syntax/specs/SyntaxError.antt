-- What it means to read the items of a file.
use Rattle.std.specs.Prelude.{List, Result, Ok, Err}
use Rattle.loom_tree.specs.declared.item.FileItem.{FileItem}
use Rattle.loom_tree.specs.Token.{LineToken}
use Rattle.loom_tree.specs.Tree.{items_of}
use Rattle.loom_syntax.specs.declared.items.SyntaxError.{SyntaxError}
use Rattle.loom_syntax.specs.declared.items.SyntaxError.TheVariants as e
use Rattle.loom_syntax.specs.File.{IsFile, IsRefusedAt}

abbrev pub TellsFile : List LineToken → Result (List FileItem) SyntaxError → Type 0
TellsFile ps (Ok items) = IsFile ps (items_of items)
TellsFile ps (Err (e.Syntax n)) = IsRefusedAt ps n
TellsFile ps (Err e.NoMemory) = Unit {0}
