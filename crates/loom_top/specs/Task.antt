-- The task that a value of the code stands for.
use Rattle.std.specs.Prelude.{ℕ, List, Option, Some, None}
use Rattle.std.specs.Borrow.{Bor}
use Rattle.loom_top.specs.declared.invocation.Task.{Task}
use Rattle.loom_top.specs.declared.invocation.Task.TheVariants as t
use Rattle.loom_top.specs.Invocation.{run, show, show_filter}
use Rattle.loom_top.specs.Invocation as asked

-- the name of a script, if there is one
abbrev pub name_if : Option (Bor (List ℕ)) → Option (List ℕ)
name_if None = None
name_if (Some name) = Some name.now

abbrev pub task_of : Task → asked.Task
task_of (t.Run script limit) = run (name_if script) limit
task_of t.Show = show
task_of (t.ShowFilter text) = show_filter text.now
