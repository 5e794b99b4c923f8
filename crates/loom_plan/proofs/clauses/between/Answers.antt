use Rattle.std.proofs.Common.{ℕ, List, ◌+◌, length, ap, sym, ◌∙◌}
use Rattle.loom_filter.specs.View.{events_of}
use Rattle.loom_law.specs.Filter.{between, numbers}
use Rattle.loom_plan.specs.Numbers.{consecutive}
use Rattle.loom_plan.specs.Sets as sets
use Rattle.loom_plan.proofs.Steps.{as_many_events, events_run}
use Rattle.loom_plan.proofs.clauses.between.Goals as goal

pub returns : goal.returns
returns c =
    ap (λ (ns : List ℕ). between ns (sets.event_numbers c.run-2.result)) (c.run.ensures ∙ events_run c.args.first c.args.entries.now)
    ∙ ap (λ (ns : List ℕ). between (numbers c.args.first (events_of c.args.entries.now)) ns)
    (c.run-2.ensures ∙ (ap (λ (n : ℕ). consecutive (c.args.first + n) (length c.args.exits.now)) (sym (as_many_events c.args.entries.now))
    ∙ events_run (c.args.first + length (events_of c.args.entries.now)) c.args.exits.now))
