use Rattle.std.proofs.Common.{◌∙◌, refl, sym, subst}
use Rattle.std.proofs.lemmas.List.{at_drop_more, at_drop_all}
use Rattle.loom_world.specs.declared.choice.Choice.TheVariants as choice
use Rattle.loom_world.specs.Book.{Book, HasLawfulJournal}
use Rattle.loom_world.specs.World.{Lead}
use Rattle.loom_world.proofs.world.World.run_choices.Goals as goal

pub turns-init : goal.turns-init
turns-init c = record {
  run = record { program = refl; filters = refl; commands = refl; limit = refl };
  led = λ new h. h;
  lawful = subst (λ (b : Book). HasLawfulJournal b) c.self.view_is c.self.invariant.1;
}

pub turns-preserved : goal.turns-preserved
turns-preserved c = record {
  run = record { program = c.turn.ensures.run.program ∙ c.turns.invariant.run.program; filters = c.turn.ensures.run.filters ∙ c.turns.invariant.run.filters; commands = c.turn.ensures.run.commands ∙ c.turns.invariant.run.commands; limit = c.turn.ensures.run.limit ∙ c.turns.invariant.run.limit };
  led =
      λ new h.
      c.turns.invariant.led new
      (subst (λ cs. Lead c.turns.self cs new) (sym (at_drop_more (λ cs. cs) c.args.cs.now c.turns.c-index (choice.Thread 0) c.turns-test.true)) (c.turn.new.self, record { run = c.turn.ensures.run; lawful = c.turn.ensures.lawful; told = c.turn.result; turns = c.turn.ensures.turns }, h));
  lawful = c.turn.ensures.lawful;
}

pub returns-clause-led : goal.returns-clause-led
returns-clause-led c = c.turns.invariant.led c.turns.self (subst (λ cs. Lead c.turns.self cs c.turns.self) (sym (at_drop_all (λ cs. cs) c.args.cs.now c.turns.c-index c.turns-test.false)) refl)
