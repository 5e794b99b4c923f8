use Rattle.std.proofs.Common.{◌≡◌, ◌≤◌, ◌<◌, Some, length, refl, sym, subst, arith}
use Rattle.std.specs.Arc.{arc_value}
use Rattle.loom_law.specs.Control.{command_at, Control}
use Rattle.loom_law.specs.Walk.{Plans}
use Rattle.loom_version.specs.Plans.{plans_in}
use Rattle.loom_world.specs.CommandView.{law_command}
use Rattle.loom_world.specs.Book.{Book, front}
use Rattle.loom_world.specs.contracts.book.Book.{the_view}
use Rattle.loom_world.proofs.CommandReadings.{next_is, none_next}
use Rattle.loom_world.proofs.book.Book.next_moment.Goals as goal

pub returns-then-self-len-clause-none : goal.returns-then-self-len-clause-none
returns-then-self-len-clause-none c x is =
    let ps : Plans = plans_in (arc_value c.self.inside.plans) in
    let beyond : length c.self.inside.commands.items < c.self.inside.next = omega arith in
    none_next (the_view c.self.inside) _ c.self.invariant ps c.self.inside.commands.items refl beyond x
    (subst (λ (z : Book). command_at z.commands (Control.next (front z).control) ≡ Some x) (sym c.self.view_is) is)

pub returns-else-self-len-clause-some : goal.returns-else-self-len-clause-some
returns-else-self-len-clause-some c =
    let ps : Plans = plans_in (arc_value c.self.inside.plans) in
    let within : c.self.inside.next ≤ length c.self.inside.commands.items = omega arith in
    let there = next_is (the_view c.self.inside) _ c.self.invariant ps c.self.inside.commands.items refl c.index.result.now within c.index.ensures in (
      law_command (ps c.self.inside.next) c.index.result.now,
      (subst (λ (z : Book). command_at z.commands (Control.next (front z).control) ≡ Some (law_command (ps c.self.inside.next) c.index.result.now)) c.self.view_is there, refl),
    )
