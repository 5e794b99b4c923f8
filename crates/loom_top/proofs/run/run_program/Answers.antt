use Rattle.std.proofs.Common.{List, sym, subst}
use Rattle.loom_command.specs.Script.{ScriptCommand}
use Rattle.loom_script.specs.View.{script_of}
use Rattle.loom_top.specs.Read.{CanBeRun}
use Rattle.loom_top.proofs.Scripts.{script_can_be_run, none_can_be_run}
use Rattle.loom_top.proofs.run.run_program.Goals as goal

pub run_commands-requires-clause-can : goal.run_commands-requires-clause-can
run_commands-requires-clause-can g c = let P : List ScriptCommand → Type 0 = λ z. CanBeRun z in subst P (sym c.empty_script.ensures) none_can_be_run

pub run_commands-requires-in-Ok-clause-can : goal.run_commands-requires-in-Ok-clause-can
run_commands-requires-in-Ok-clause-can g c = let read = c.in-Ok.ensures in script_can_be_run read.0 (script_of c.in-Ok.commands) read.1.1.0 read.1.1.1
