use Rattle.std.proofs.Common.{◌≡◌, Some, None, sym, ◌∙◌, subst}
use Rattle.loom_law.specs.Control.{Control}
use Rattle.loom_world.specs.Book.{Book, front}
use Rattle.loom_world.proofs.book.Book.control.Goals as goal

pub reply-requires-clause-asked : goal.reply-requires-clause-asked
reply-requires-clause-asked c =
    subst (λ (z : Book). Control.asked (front z).control ≡ Some c.in-Some.k) c.self.view_is (sym c.self.invariant.commands.asked ∙ c.in-Some.is)

pub ask_or_end-requires-clause-asked : goal.ask_or_end-requires-clause-asked
ask_or_end-requires-clause-asked c =
    subst (λ (z : Book). Control.asked (front z).control ≡ None) c.self.view_is (sym c.self.invariant.commands.asked ∙ c.in-None.is)
