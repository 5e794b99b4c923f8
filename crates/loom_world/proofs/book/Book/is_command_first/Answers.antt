use Rattle.std.proofs.Common.{◌≡◌, Some, sym, subst, ◌∙◌}
use Rattle.loom_law.specs.Control.{Control}
use Rattle.loom_law.specs.Lawful.{IsDue}
use Rattle.loom_world.specs.Book.{Book, setting, front}
use Rattle.loom_world.specs.Idle.{CommandGoesFirst}
use Rattle.loom_world.specs.contracts.book.Book.{the_view}
use Rattle.loom_world.proofs.CommandReadings.{refused_goes_first, accepted_goes_later, none_goes_first}
use Rattle.loom_world.proofs.book.Book.is_command_first.Goals as goal

pub refusal-requires : goal.refusal-requires
refusal-requires c = subst (λ (z : Book). Control.asked (front z).control ≡ Some c.in-Some.k) c.self.view_is (sym c.self.invariant.commands.asked ∙ c.in-Some.is)

pub returns-in-Some-clause-yes : goal.returns-in-Some-clause-yes
returns-in-Some-clause-yes c h =
    let asked = subst (λ (z : Book). Control.asked (front z).control ≡ Some c.in-Some.k) c.self.view_is (sym c.self.invariant.commands.asked ∙ c.in-Some.is) in
    refused_goes_first c.args.self.now c.in-Some.k c.refusal.result asked c.refusal.ensures (sym c.is_some.ensures ∙ h)

pub returns-in-Some-clause-no : goal.returns-in-Some-clause-no
returns-in-Some-clause-no c h =
    let asked = subst (λ (z : Book). Control.asked (front z).control ≡ Some c.in-Some.k) c.self.view_is (sym c.self.invariant.commands.asked ∙ c.in-Some.is) in
    accepted_goes_later c.args.self.now c.in-Some.k c.refusal.result asked c.refusal.ensures (sym c.is_some.ensures ∙ h)

pub returns-in-None-clause-no : goal.returns-in-None-clause-no
returns-in-None-clause-no c h first =
    none_goes_first (the_view c.self.inside) _ c.self.invariant c.in-None.is
    (subst (λ (z : Book). IsDue (setting z) (front z) → ⊥) (sym c.self.view_is) (c.is_due.ensures.not_due h)) (subst CommandGoesFirst (sym c.self.view_is) first)
