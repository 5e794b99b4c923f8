use Rattle.std.proofs.Common.{suc, ◌+◌, ◌*◌, ◌≤◌, List, length, ◌∙◌, refl, ap, arith}
use Rattle.loom_law.specs.Control.{Command}
use Rattle.loom_world.proofs.ControlState.{few_entries}
use Rattle.loom_crew.proofs.Progress.{progress}
use Rattle.loom_crew.proofs.Rounds.{two_more}
use Rattle.loom_crew.proofs.alone.run_alone.Goals as goal

pub rounds-init : goal.rounds-init
rounds-init c = record { run = record { program = refl; filters = refl; commands = refl; limit = refl }; led = (0, refl) }

pub rounds-preserved : goal.rounds-preserved
rounds-preserved c =
    let before = c.rounds.invariant in
    record {
      run = record {
        program = c.run_two_rounds.ensures.run.program ∙ before.run.program;
        filters = c.run_two_rounds.ensures.run.filters ∙ before.run.filters;
        commands = c.run_two_rounds.ensures.run.commands ∙ before.run.commands;
        limit = c.run_two_rounds.ensures.run.limit ∙ before.run.limit;
      };
      led = (suc (suc before.led.0), two_more _ _ _ before.led.0 before.led.1 c.run_two_rounds.ensures.led);
    }

pub rounds-smaller : goal.rounds-smaller
rounds-smaller c =
    let more = progress _ _ c.finished.ensures.lawful (c.finished.ensures.unfinished c.rounds-test.true) c.run_two_rounds.ensures.led in
    let few : length c.run_two_rounds.new.world.entries ≤ suc (c.run_two_rounds.new.world.limit + 2 * length c.run_two_rounds.new.world.commands) =
    few_entries _ _ c.run_two_rounds.ensures.lawful.lawful in
    let many = ap (λ (cs : List Command). length cs) c.run_two_rounds.ensures.run.commands in
    omega (arith, more, few, many, c.run_two_rounds.ensures.run.limit)
