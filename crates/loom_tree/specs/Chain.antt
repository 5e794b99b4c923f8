-- Statements one after another.
use Rattle.std.specs.Prelude.{List, [], ◌∷◌}
use Rattle.loom_tree.specs.declared.statement.Stmt.{Stmt}
use Rattle.loom_tree.specs.Tree.{Body, behind}

-- these statements, and those behind them
abbrev pub before : List Stmt → Body → Body
before [] rest = rest
before (s ∷ ss) rest = behind s.line s.kind (before ss rest)
