use Rattle.std.proofs.Common.{◌∙◌}
use Rattle.loom_crew.specs.Round.{round}
use Rattle.loom_crew.proofs.Rounds.{lead_on}
use Rattle.loom_crew.proofs.alone.run_two_rounds.Goals as goal

pub returns-clause-run : goal.returns-clause-run
returns-clause-run c =
    let a = c.run_round.ensures.run in
    let b = c.run_round-2.ensures.run in
    record { program = b.program ∙ a.program; filters = b.filters ∙ a.filters; commands = b.commands ∙ a.commands; limit = b.limit ∙ a.limit }

pub returns-clause-led : goal.returns-clause-led
returns-clause-led c = lead_on _ _ _ round round c.run_round.ensures.led c.run_round-2.ensures.led
