-- The programs that bytes are.
use Rattle.std.specs.Prelude.{ℕ, ◌≡◌, List}
use Rattle.loom_tree.specs.Token.{LineToken}
use Rattle.loom_tree.specs.Tree.{FileItem, Source}
use Rattle.loom_lexer.specs.Tokens.{AreTokens}
use Rattle.loom_syntax.specs.File.{IsFile}
use Rattle.loom_lang.specs.Rules.{KeepsRules}
use Rattle.loom_lang.specs.FileItems.{source_of_items}

-- the bytes are a text of these items
pub record IsTextOf (bytes : List ℕ) (items : List FileItem) : Type 0 where
  pub tokens : List LineToken
  pub lexed : AreTokens bytes tokens
  pub file : IsFile tokens items

-- The bytes are a program: a text of the grammar, whose items keep the rules on names and the limits.
pub record IsProgram (bytes : List ℕ) (p : Source) : Type 0 where
  pub items : List FileItem
  pub text : IsTextOf bytes items
  pub gathered : source_of_items items ≡ p
  pub lawful : KeepsRules p
