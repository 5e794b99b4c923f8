use Rattle.std.proofs.Common.{◌+◌, ◌-◌, ◌∙◌, refl, sym, arith, subst}
use Rattle.loom_trace.specs.Limits.{thread_limit}
use Rattle.loom_world.specs.World.{Lead}
use Rattle.loom_crew.proofs.Rounds.{threads_next, threads_end}
use Rattle.loom_crew.proofs.alone.run_round.Goals as goal

pub threads-init : goal.threads-init
threads-init c = record {
  run = c.turn.ensures.run;
  led = λ new h. (c.turn.new.self, record { run = c.turn.ensures.run; lawful = c.turn.ensures.lawful; told = c.turn.result; turns = c.turn.ensures.turns }, h);
  lawful = c.turn.ensures.lawful;
}

pub threads-preserved : goal.threads-preserved
threads-preserved c = record {
  run = record { program = c.turn-in-threads.ensures.run.program ∙ c.threads.invariant.run.program; filters = c.turn-in-threads.ensures.run.filters ∙ c.threads.invariant.run.filters; commands = c.turn-in-threads.ensures.run.commands ∙ c.threads.invariant.run.commands; limit = c.turn-in-threads.ensures.run.limit ∙ c.threads.invariant.run.limit };
  led =
      λ new h.
      c.threads.invariant.led new
      (subst (λ cs. Lead c.threads.world cs new) (sym (threads_next c.threads.t (omega (arith, c.threads-test.true)))) (c.turn-in-threads.new.self, record { run = c.turn-in-threads.ensures.run; lawful = c.turn-in-threads.ensures.lawful; told = c.turn-in-threads.result; turns = c.turn-in-threads.ensures.turns }, h));
  lawful = c.turn-in-threads.ensures.lawful;
}

pub returns-clause-led : goal.returns-clause-led
returns-clause-led c =
    c.threads.invariant.led c.threads.world
    (subst (λ cs. Lead c.threads.world cs c.threads.world) (sym (threads_end c.threads.t (thread_limit + 1 - c.threads.t) (omega (arith, c.threads.auto.t-end, c.threads-test.false)))) refl)
