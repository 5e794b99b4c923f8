use Rattle.std.proofs.Common.{◌≡◌, ◌<◌, ◌≤◌, length, subst, arith}
use Rattle.std.specs.Arc.{arc_value}
use Rattle.loom_law.specs.Control.{Control}
use Rattle.loom_version.specs.Plans.{plans_in}
use Rattle.loom_world.specs.Book.{Book, front}
use Rattle.loom_world.specs.contracts.book.Book.{the_view}
use Rattle.loom_world.proofs.CommandReadings.{many_commands}
use Rattle.loom_world.proofs.book.Book.end.Goals as goal

pub finish-requires-clause-last : goal.finish-requires-clause-last
finish-requires-clause-last c =
    let b : Book = the_view c.self.inside in
    let many : length b.commands ≡ length c.self.inside.commands.items = many_commands (plans_in (arc_value c.self.inside.plans)) c.self.inside.commands.items in
    let last : length b.commands < Control.next (front b).control = omega (arith, many, c.len.ensures, c.if-self-len.true, c.self.invariant.commands.next) in
    subst (λ (z : Book). length z.commands < Control.next (front z).control) c.self.view_is last

pub leave_out-requires-clause-left : goal.leave_out-requires-clause-left
leave_out-requires-clause-left c =
    let b : Book = the_view c.self.inside in
    let many : length b.commands ≡ length c.self.inside.commands.items = many_commands (plans_in (arc_value c.self.inside.plans)) c.self.inside.commands.items in
    let left : Control.next (front b).control ≤ length b.commands = omega (arith, many, c.len.ensures, c.if-self-len.false, c.self.invariant.commands.next) in
    subst (λ (z : Book). Control.next (front z).control ≤ length z.commands) c.self.view_is left
