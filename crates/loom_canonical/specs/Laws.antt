-- Laws of canonical texts.
use Rattle.std.specs.Prelude.{ℕ, ◌≤◌, List, length}
use Rattle.loom_tree.specs.Tree.{Expression, Source}
use Rattle.loom_lang.specs.Limits.{file_limit}
use Rattle.loom_lang.specs.Expression.{IsExpressionText}
use Rattle.loom_lang.specs.Program.{IsProgram}
use Rattle.loom_lang.specs.Canonical.{expression_text, canonical_text, with_canonical_lines}

-- The canonical text of an expression that has a text is one of its texts.
abbrev pub HasCanonicalExpression : Type 0
HasCanonicalExpression = (bytes : List ℕ) (e : Expression) → IsExpressionText bytes e → IsExpressionText (expression_text e) e

-- The canonical text of a program, where it has at most 65,536 bytes, is a text of that program with the lines of that text.
abbrev pub HasCanonicalText : Type 0
HasCanonicalText = (bytes : List ℕ) (p : Source) → IsProgram bytes p → length (canonical_text p) ≤ file_limit → IsProgram (canonical_text p) (with_canonical_lines p)
