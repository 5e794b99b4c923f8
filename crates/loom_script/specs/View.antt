-- The commands that commands of the program stand for.
use Rattle.std.specs.Prelude.{ℕ, List, map, Option, Some, None}
use Rattle.loom_command.specs.Script.{ScriptAction, ScriptCommand}
use Rattle.loom_command.specs.Script as script
use Rattle.loom_script.specs.declared.script.Trigger.{Trigger}
use Rattle.loom_script.specs.declared.script.Trigger.TheVariants as t
use Rattle.loom_script.specs.declared.script.Action.{Action}
use Rattle.loom_script.specs.declared.script.Action.TheVariants as a
use Rattle.loom_script.specs.declared.script.Command.{Command}
use Rattle.loom_script.specs.declared.script.Script.{Script}

abbrev pub trigger_of : Trigger → script.Trigger
trigger_of (t.At n) = script.at n
trigger_of t.Stall = script.stall

abbrev pub trigger_if : Option Trigger → Option script.Trigger
trigger_if None = None
trigger_if (Some x) = Some (trigger_of x)

-- the name of the filter
abbrev pub name_of : Action → List ℕ
name_of (a.Install name text) = name
name_of (a.Remove name) = name

abbrev pub action_of : Action → ScriptAction
action_of (a.Install name text) = script.install text
action_of (a.Remove name) = script.remove

abbrev pub action_if : Option Action → Option ScriptAction
action_if None = None
action_if (Some x) = Some (action_of x)

abbrev pub command_of : Command → ScriptCommand
command_of c = record { line = c.line; trigger = trigger_of c.trigger; name = name_of c.action; action = action_of c.action }

abbrev pub command_if : Option Command → Option ScriptCommand
command_if None = None
command_if (Some c) = Some (command_of c)

abbrev pub commands_of : List Command → List ScriptCommand
commands_of cs = map command_of cs

abbrev pub script_of : Script → List ScriptCommand
script_of s = commands_of s.commands
