use Rattle.std.proofs.Common.{◌≡◌, [], Some, None, sym, ap, ◌∙◌}
use Rattle.loom_law.specs.Filter.{Plan}
use Rattle.loom_plan.specs.Sets.{event_numbers}
use Rattle.loom_sites.specs.declared.area.AreaContents.{AreaContents}
use Rattle.loom_sites.proofs.Frames.{nothing_own, nothing_inside}
use Rattle.loom_sites.proofs.area.whole.Goals as goal

pub returns-in-None-clause-contents : goal.returns-in-None-clause-contents
returns-in-None-clause-contents c =
    let f : Plan = c.args.c.now.plan in
    let none : event_numbers c.nothing.result.events ≡ [] = ap (λ (x : AreaContents). event_numbers x.events) c.nothing.ensures ∙ c.none.ensures in
    nothing_inside c.args.flow.now.program f c.args.n c.nothing.result (λ g w. (let clash : None ≡ Some g = sym c.in-None.is ∙ (c.whole_function.ensures g).1 w in cc)) (cc) (cc)
    (λ m. rw none (λ e. cc, λ h. (let clash : None ≡ Some h.0 = sym c.in-None.is ∙ (c.whole_function.ensures h.0).1 h.1.0 in cc)))

pub returns-in-None-clause-places : goal.returns-in-None-clause-places
returns-in-None-clause-places c = nothing_own c.args.flow.now.program c.args.c.now.plan c.args.n c.args.places.now (λ g w. (let clash : None ≡ Some g = sym c.in-None.is ∙ (c.whole_function.ensures g).1 w in cc))

pub returns-in-Some-clause-contents : goal.returns-in-Some-clause-contents
returns-in-Some-clause-contents c = c.frame.ensures.contents c.args.n ((c.whole_function.ensures c.in-Some.f).0 c.in-Some.is)

pub returns-in-Some-clause-places : goal.returns-in-Some-clause-places
returns-in-Some-clause-places c = c.frame.ensures.places c.args.n ((c.whole_function.ensures c.in-Some.f).0 c.in-Some.is)
