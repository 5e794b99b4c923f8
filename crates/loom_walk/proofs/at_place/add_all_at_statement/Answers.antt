use Rattle.std.proofs.Common.{List, [], refl, ap, ◌∙◌}
use Rattle.loom_lang.specs.Places.{inside}
use Rattle.loom_flow.specs.State.{named}
use Rattle.loom_law.specs.Filter.{statement}
use Rattle.loom_plan.specs.PlaceEvents.{names_at}
use Rattle.loom_version.specs.Plans.{plans_in}
use Rattle.loom_walk.specs.declared.owed.OwedRow.{OwedRow}
use Rattle.loom_walk.specs.Owed.{rows_queue}
use Rattle.loom_walk.proofs.FilterQueues.{none_begun}
use Rattle.loom_walk.proofs.GrowthSteps.{nothing_grows}
use Rattle.loom_walk.proofs.at_place.add_all_at_statement.Goals as goal

pub returns-then-not-may_watch-clause-grows : goal.returns-then-not-may_watch-clause-grows
returns-then-not-may_watch-clause-grows c = nothing_grows c.args.ks.now c.args.owed.now c.requires.nothing

pub returns-then-not-may_watch-clause-queue : goal.returns-then-not-may_watch-clause-queue
returns-then-not-may_watch-clause-queue c p hs l all there held =
    ap (λ (rows : List OwedRow). rows_queue l rows []) c.requires.nothing
    ∙ none_begun (plans_in c.args.plans.now) hs l (statement c.args.line) (named (names_at p c.args.place) c.args.locals.now) c.args.ks.now
    (λ k. c.may_watch.ensures c.if-not-may_watch.true k (named (names_at p c.args.place) c.args.locals.now))

pub returns-clause-queue : goal.returns-clause-queue
returns-clause-queue c p hs l all there held = c.add_all_before.ensures.queue p (inside c.args.line) (statement c.args.line) hs l all there refl held
