use Rattle.std.proofs.Common.{◌≡◌, false, inr, refl, subst}
use Rattle.std.proofs.lemmas.Bool.{ne_eqb}
use Rattle.loom_law.specs.Lawful.{run_is_over}
use Rattle.loom_world.specs.Book.{Book, setting, front}
use Rattle.loom_world.specs.contracts.book.Book.{the_view}
use Rattle.loom_world.proofs.InvariantReadings.{less_goes_on}
use Rattle.loom_world.proofs.ControlTurns.{no_answer}
use Rattle.loom_world.proofs.book.Book.done.Goals as goal

pub switch-requires-clause-goes_on : goal.switch-requires-clause-goes_on
switch-requires-clause-goes_on c =
    subst (λ (z : Book). run_is_over (setting z) (front z) ≡ false) c.self.view_is
    (less_goes_on (the_view c.self.inside) _ c.self.invariant (ne_eqb c.self.inside.entry_count c.self.inside.limit c.if-self.false))

pub give_up-requires-clause-goes_on : goal.give_up-requires-clause-goes_on
give_up-requires-clause-goes_on c =
    subst (λ (z : Book). run_is_over (setting z) (front z) ≡ false) c.self.view_is
    (less_goes_on (the_view c.self.inside) _ c.self.invariant (ne_eqb c.self.inside.entry_count c.self.inside.limit c.if-self.false))

pub returns-in-None-clause-turns : goal.returns-in-None-clause-turns
returns-in-None-clause-turns c =
    let goes_on = subst (λ (z : Book). run_is_over (setting z) (front z) ≡ false) c.self.view_is
    (less_goes_on (the_view c.self.inside) _ c.self.invariant (ne_eqb c.self.inside.entry_count c.self.inside.limit c.if-self.false)) in
    (inr (no_answer c.args.self.now c.args.k c.requires.asked c.requires.not_refused goes_on c.in_default.ensures.none c.in-None.ensures.none), refl)
