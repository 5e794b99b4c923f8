-- What the reader's variables stand for, in the block of a function.
use Rattle.std.specs.Prelude.{ℕ, List, [], ◌∷◌, map, Option, Some, None}
use Rattle.loom_tree.specs.declared.statement.Kind.{Kind}
use Rattle.loom_tree.specs.declared.statement.Kind.TheVariants as k
use Rattle.loom_tree.specs.declared.statement.Stmt.{Stmt}
use Rattle.loom_tree.specs.Tree as tree
use Rattle.loom_tree.specs.Tree.{Expression, Body, body_of, expression_of, expressions_of, returned_of, right_of}
use Rattle.loom_syntax.specs.declared.block.Around as rust_around
use Rattle.loom_syntax.specs.declared.block.Around.TheVariants as a
use Rattle.loom_syntax.specs.declared.block.OpenBlock as rust_open
use Rattle.loom_syntax.specs.declared.block.BlockPosition as rust_position
use Rattle.loom_syntax.specs.declared.block.BlockPosition.TheVariants as p
use Rattle.loom_syntax.specs.declared.block.BlockReader as rust_block
use Rattle.loom_syntax.specs.declared.block.BlockNext as rust_next
use Rattle.loom_syntax.specs.declared.block.BlockNext.TheVariants as n
use Rattle.loom_syntax.specs.View.{Statement, simple, if_, while_}
use Rattle.loom_syntax.specs.StatementView.{part_of}
use Rattle.loom_syntax.specs.FileReader as m

abbrev pub statement_by : ℕ → Kind → Statement
statement_by l (k.Let x e) = simple l (tree.Simple.let_ x (right_of e))
statement_by l (k.Set x e) = simple l (tree.Simple.set x (right_of e))
statement_by l (k.SetCell x i e) = simple l (tree.Simple.set_cell x (expression_of i) (expression_of e))
statement_by l (k.If e a b) = if_ l (expression_of e) (body_of a) (body_of b)
statement_by l (k.While e a) = while_ l (expression_of e) (body_of a)
statement_by l (k.Call f es) = simple l (tree.Simple.call f (expressions_of es))
statement_by l (k.Return e) = simple l (tree.Simple.return (returned_of e))
statement_by l (k.Lock x) = simple l (tree.Simple.lock x)
statement_by l (k.Unlock x) = simple l (tree.Simple.unlock x)
statement_by l (k.Down x) = simple l (tree.Simple.down x)
statement_by l (k.Up x) = simple l (tree.Simple.up x)
statement_by l (k.Join e) = simple l (tree.Simple.join (expression_of e))
statement_by l (k.Print e) = simple l (tree.Simple.print (expression_of e))
statement_by l k.Skip = simple l tree.Simple.skip

abbrev pub statement_of : Stmt → Statement
statement_of s = statement_by s.line s.kind

abbrev pub statements_of : List Stmt → List Statement
statements_of ss = map statement_of ss

abbrev pub around_of : rust_around.Around → m.Around Expression Body
around_of (a.Then e) = m.Then (expression_of e)
around_of (a.Else e first) = m.Else (expression_of e) (body_of first)
around_of (a.Loop e) = m.Loop (expression_of e)

abbrev pub opened_of : rust_open.OpenBlock → m.OpenBlock Expression Statement Body
opened_of o = record { line = o.line; around = around_of o.around; before = statements_of o.before.items }

-- the last block is the innermost
abbrev pub onto : List rust_open.OpenBlock → List (m.OpenBlock Expression Statement Body) → List (m.OpenBlock Expression Statement Body)
onto [] os = os
onto (o ∷ rest) os = onto rest (opened_of o ∷ os)

abbrev pub stack_of : List rust_open.OpenBlock → List (m.OpenBlock Expression Statement Body)
stack_of os = onto os []

abbrev pub position_of : rust_position.BlockPosition → m.BlockPosition Expression Body
position_of p.Start = m.Start
position_of (p.AfterIf i) = m.AfterIf i.line (expression_of i.condition) (body_of i.body)
position_of (p.ElseBrace i) = m.ElseBrace i.line (expression_of i.condition) (body_of i.body)
position_of (p.Within l q) = m.Within l (part_of q.value)

abbrev pub block_of : rust_block.BlockReader → m.BlockReader Expression Statement Body
block_of i = m.At (stack_of i.opened.items) (statements_of i.before.items) (position_of i.point)

abbrev pub next_of : rust_next.BlockNext → m.BlockNext Expression Statement Body
next_of (n.Goes i) = m.BlockNext.Goes (block_of i)
next_of (n.Ends a) = m.BlockNext.Ends (body_of a)

abbrev pub next_if : Option rust_next.BlockNext → Option (m.BlockNext Expression Statement Body)
next_if None = None
next_if (Some n) = Some (next_of n)
