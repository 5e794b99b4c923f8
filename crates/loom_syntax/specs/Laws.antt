-- Laws of the grammar.
use Rattle.std.specs.Prelude.{◌≡◌, List}
use Rattle.loom_tree.specs.Token.{LineToken}
use Rattle.loom_tree.specs.Tree.{FileItem}
use Rattle.loom_syntax.specs.File.{IsFile}

-- Tokens are the file of at most one list of items.
abbrev pub HasOneTree : Type 0
HasOneTree = (ps : List LineToken) (a b : List FileItem) → IsFile ps a → IsFile ps b → a ≡ b
