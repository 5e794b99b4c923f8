-- Files as trees without pointers.
use Rattle.std.specs.Prelude.{ℕ, List, map}
use Rattle.loom_tree.specs.declared.token.Token as rust
use Rattle.loom_tree.specs.Token.{LineToken, line_token_of}
use Rattle.loom_tree.specs.Tree as tree
use Rattle.loom_tree.specs.Tree.{Expression, Simple, Body}
use Rattle.loom_expression.specs.Reader as expression
use Rattle.loom_syntax.specs.File.{declaration_tree}
use Rattle.loom_syntax.specs.FileReader.{FileBuilder}

-- a statement of a block
pub data Statement : Type 0 where
  simple : ℕ → Simple Expression → Statement
  if_ : ℕ → Expression → Body → Body → Statement
  while_ : ℕ → Expression → Body → Statement

abbrev pub chain : Statement → Body → Body
chain (simple l s) rest = Body.simple l s rest
chain (if_ l e a b) rest = Body.if_ l e a b rest
chain (while_ l e a) rest = Body.while_ l e a rest

abbrev pub plain : FileBuilder Expression Statement Body tree.FileItem
plain = record {
  expressions = expression.plain;
  simple = simple;
  if_ = λ l e a. if_ l e a Body.end;
  if_else = if_;
  while_ = while_;
  end = Body.end;
  more = chain;
  declared = declaration_tree;
  func = λ l f params a. tree.FileItem.func (record { name = f; line = l; params = params; body = a });
}

-- the tokens of a text, with their lines
abbrev pub line_tokens : List ℕ → List rust.Token → List LineToken
line_tokens bytes ts = map (line_token_of bytes) ts
