use Rattle.std.proofs.Common.{◌≡◌, length, drop}
use Rattle.loom_filter.specs.FilterError.{text_limit}
use Rattle.loom_script.specs.Laws.{HaveShortTexts}
use Rattle.loom_script.specs.Stalls.{HasNoStall}
use Rattle.loom_script.specs.View.{commands_of}
use Rattle.loom_version.specs.Plans.{plans_in}
use Rattle.loom_world.proofs.ScriptCommands.{AreSoFar, AreFilled}
use Rattle.loom_world.proofs.commands.run_commands.Given as goal

abbrev pub invariant-all : goal.invariant-all
invariant-all l = record {
  so_far : AreSoFar l.flow.program l.file l.script l.command-index (plans_in l.plans) l.commands.items;
  filled : AreFilled l.flow.program l.plans l.commands.items;
  number : l.k ≡ length l.commands.items;
  index : length l.commands.items ≡ l.command-index;
  short : HaveShortTexts text_limit (commands_of (drop l.command-index l.script));
  no_stall : HasNoStall (commands_of (drop l.command-index l.script));
}
