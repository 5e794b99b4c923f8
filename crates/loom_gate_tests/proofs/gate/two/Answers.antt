use Rattle.std.proofs.Common.{◌∙◌, ap, if◌then◌else◌, true, ◌==◌}
use Rattle.loom_gate_tests.proofs.Trials.{two_below}
use Rattle.loom_gate_tests.proofs.gate.two.Goals as goal

pub returns-clause-below : goal.returns-clause-below
returns-clause-below c p =
    two_below c.put-2.new.self c.args.a c.args.b c.args.limit p c.requires.0 c.requires.1
    (c.put-2.ensures p ∙ ap (λ x. if p == c.args.b then true else x) (c.put.ensures p ∙ ap (λ x. if p == c.args.a then true else x) (c.none-places.ensures p)))
