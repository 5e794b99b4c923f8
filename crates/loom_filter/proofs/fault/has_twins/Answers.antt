use Rattle.std.proofs.Common.{◌≡◌, ◌+◌, true, false, drop, refl, ap}
use Rattle.std.proofs.lemmas.List.{drop_all}
use Rattle.loom_filter.specs.View.{step_of, steps_of}
use Rattle.loom_filter.proofs.Twins.{drop_at, HasKey, seen_told, new_told, twins_first, twins_on, twins_found, no_twins}
use Rattle.loom_filter.proofs.fault.has_twins.Goals as goal

pub steps-init : goal.steps-init
steps-init c = twins_first c.new-seen.result (steps_of c.args.steps.now) c.new-seen.ensures.empty

pub returns-then-not-branch : goal.returns-then-not-branch
returns-then-not-branch c =
    let found = twins_found c.steps.seen c.in_ok-key.key (step_of c.step-item.result) (steps_of (drop (c.steps.step-index + 1) c.args.steps.now)) _ _ (ap steps_of (drop_at c.args.steps.now c.steps.step-index c.step-item.result c.steps-test.true c.step-item.is)) c.in_ok-key.ensures (seen_told c.in_ok-insert.field-0 _ c.in_ok-insert.ensures.added c.if-not-branch.true) c.steps.invariant in
    (λ h. found, λ h. refl)

pub steps-preserved : goal.steps-preserved
steps-preserved c = twins_on c.steps.seen c.insert.new.self c.in_ok-key.key (step_of c.step-item.result) (steps_of (drop (c.steps.step-index + 1) c.args.steps.now)) _ _ (ap steps_of (drop_at c.args.steps.now c.steps.step-index c.step-item.result c.steps-test.true c.step-item.is)) c.in_ok-key.ensures (new_told c.in_ok-insert.field-0 _ c.in_ok-insert.ensures.added c.if-not-branch.false) c.in_ok-insert.ensures.updates.0 c.steps.invariant

pub returns : goal.returns
returns c = (λ h. absurd (let e : false ≡ true = h in cc), λ h. absurd (no_twins (HasKey c.steps.seen) _ _ (ap steps_of (drop_all c.steps.step-index c.args.steps.now c.steps-test.false)) c.steps.invariant h))
