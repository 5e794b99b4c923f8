-- What the reader's variables stand for, in a statement up to its block.
use Rattle.std.specs.Prelude.{ℕ, List, Option, Some, None}
use Rattle.loom_tree.specs.Tree as tree
use Rattle.loom_tree.specs.Tree.{Expression, expression_of, expressions_of, returned_of}
use Rattle.loom_expression.specs.ReaderView.{reader_of}
use Rattle.loom_syntax.specs.declared.statement.Binding.{Binding}
use Rattle.loom_syntax.specs.declared.statement.Binding.TheVariants as b
use Rattle.loom_syntax.specs.declared.statement.Assignee as rust_target
use Rattle.loom_syntax.specs.declared.statement.Arguing.TheVariants as a
use Rattle.loom_syntax.specs.declared.statement.Goal as rust_goal
use Rattle.loom_syntax.specs.declared.statement.Goal.TheVariants as g
use Rattle.loom_syntax.specs.declared.statement.SyncKind.{SyncKind}
use Rattle.loom_syntax.specs.declared.statement.SyncKind.TheVariants as y
use Rattle.loom_syntax.specs.declared.statement.Test as rust_test
use Rattle.loom_syntax.specs.declared.statement.Test.TheVariants as e
use Rattle.loom_syntax.specs.declared.statement.Purpose as rust_purpose
use Rattle.loom_syntax.specs.declared.statement.Purpose.TheVariants as p
use Rattle.loom_syntax.specs.declared.statement.Simple as rust_simple
use Rattle.loom_syntax.specs.declared.statement.Simple.TheVariants as s
use Rattle.loom_syntax.specs.declared.statement.Part as rust_part
use Rattle.loom_syntax.specs.declared.statement.Part.TheVariants as q
use Rattle.loom_syntax.specs.declared.statement.PartNext as rust_next
use Rattle.loom_syntax.specs.declared.statement.PartNext.TheVariants as n
use Rattle.loom_syntax.specs.Part as m

abbrev pub bound_by : Binding → List ℕ → m.Assignee
bound_by b.Let x = m.Let x
bound_by b.Set x = m.Set x

abbrev pub assignee_of : rust_target.Assignee → m.Assignee
assignee_of t = bound_by t.binding t.name

abbrev pub goal_of : rust_goal.Goal → m.Goal
goal_of (g.Call f) = m.Call f
goal_of (g.Right a.Call target f) = m.RightCall (assignee_of target) f
goal_of (g.Right a.Spawn target f) = m.RightSpawn (assignee_of target) f

abbrev pub sync_of : SyncKind → m.Sync
sync_of y.Lock = m.Lock
sync_of y.Unlock = m.Unlock
sync_of y.Down = m.Down
sync_of y.Up = m.Up

abbrev pub test_of : rust_test.Test → m.Test
test_of e.If = m.If
test_of e.While = m.While

abbrev pub purpose_of : rust_purpose.Purpose → m.Purpose Expression
purpose_of (p.Value target) = m.Value (assignee_of target)
purpose_of (p.Argument goal before) = m.Argument (goal_of goal) (expressions_of before.items)
purpose_of (p.Index x) = m.Index x
purpose_of (p.CellValue x i) = m.CellValue x (expression_of i)
purpose_of (p.Condition test) = m.Condition (test_of test)
purpose_of p.Return = m.Return
purpose_of p.Join = m.Join
purpose_of p.Print = m.Print

abbrev pub simple_of : rust_simple.Simple → tree.Simple Expression
simple_of (s.Let x r) = tree.Simple.let_ x (tree.right_of r)
simple_of (s.Set x r) = tree.Simple.set x (tree.right_of r)
simple_of (s.SetCell x i e) = tree.Simple.set_cell x (expression_of i) (expression_of e)
simple_of (s.Call f es) = tree.Simple.call f (expressions_of es)
simple_of (s.Return e) = tree.Simple.return (returned_of e)
simple_of (s.Lock x) = tree.Simple.lock x
simple_of (s.Unlock x) = tree.Simple.unlock x
simple_of (s.Down x) = tree.Simple.down x
simple_of (s.Up x) = tree.Simple.up x
simple_of (s.Join e) = tree.Simple.join (expression_of e)
simple_of (s.Print e) = tree.Simple.print (expression_of e)
simple_of s.Skip = tree.Simple.skip

abbrev pub part_of : rust_part.Part → m.Part Expression
part_of q.LetName = m.LetName
part_of (q.LetAssign x) = m.LetAssign x
part_of (q.Started x) = m.Started x
part_of (q.RightOf target) = m.RightOf (assignee_of target)
part_of (q.RightNamed target f) = m.RightNamed (assignee_of target) f
part_of (q.SpawnName target) = m.SpawnName (assignee_of target)
part_of (q.SpawnOpen target f) = m.SpawnOpen (assignee_of target) f
part_of (q.SyncName sync) = m.SyncName (sync_of sync)
part_of (q.TestOpen test) = m.TestOpen (test_of test)
part_of (q.Arguments goal) = m.Arguments (goal_of goal)
part_of q.Returned = m.Returned
part_of (q.SetAssign x i) = m.SetAssign x (expression_of i)
part_of (q.Reading purpose reader) = m.Reading (purpose_of purpose.value) (reader_of reader)
part_of (q.Ending s) = m.Ending (simple_of s.value)
part_of (q.TestBrace test e) = m.TestBrace (test_of test) (expression_of e)

abbrev pub part_if : Option rust_part.Part → Option (m.Part Expression)
part_if None = None
part_if (Some q) = Some (part_of q)

abbrev pub next_of : rust_next.PartNext → m.PartNext Expression
next_of (n.Goes q) = m.PartNext.Goes (part_of q)
next_of (n.Ends s) = m.PartNext.Ends (simple_of s.value)
next_of (n.Opens test e) = m.PartNext.Opens (test_of test) (expression_of e)

abbrev pub next_if : Option rust_next.PartNext → Option (m.PartNext Expression)
next_if None = None
next_if (Some n) = Some (next_of n)
