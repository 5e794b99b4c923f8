use Rattle.std.proofs.Common.{◌≡◌, ◌≤◌, None, length, refl, sym, subst}
use Rattle.loom_trace.specs.declared.entry.Entry.TheVariants as e
use Rattle.loom_law.specs.Control.{Control}
use Rattle.loom_world.specs.declared.choice.Choice.TheVariants as choice
use Rattle.loom_world.specs.declared.choice.Turned.TheVariants as turned
use Rattle.loom_world.specs.Book.{Book, setting, front}
use Rattle.loom_world.specs.Idle.{HasFinish}
use Rattle.loom_world.specs.Turned.{Turns}
use Rattle.loom_world.specs.contracts.book.Book.{the_view}
use Rattle.loom_world.specs.BookInvariant.{BookInvariant}
use Rattle.loom_world.proofs.InvariantReadings.{unfinished_by, room_left}
use Rattle.loom_law.specs.Lawful.{EndsSo}
use Rattle.loom_world.proofs.ControlTurns.{may_leave_out}
use Rattle.loom_world.proofs.ControlledBook.{unreached_kept, control_moves}
use Rattle.loom_world.proofs.book.Book.leave_out.Goals as goal

pub push-requires : goal.push-requires
push-requires c =
    let b : Book = the_view c.self.inside in
    let open_ = unfinished_by b _ c.self.invariant (subst (λ (z : Book). HasFinish z → ⊥) (sym c.self.view_is) c.requires.unfinished) in
    room_left b _ c.self.invariant open_

pub invariant_of-self : goal.invariant_of-self
invariant_of-self c =
    let b : Book = the_view c.self.inside in
    let open_ = unfinished_by b _ c.self.invariant (subst (λ (z : Book). HasFinish z → ⊥) (sym c.self.view_is) c.requires.unfinished) in
    let none : Control.asked (front b).control ≡ None = subst (λ (z : Book). Control.asked (front z).control ≡ None) (sym c.self.view_is) c.requires.asked in
    let most : Control.next (front b).control ≤ length b.commands = subst (λ (z : Book). Control.next (front z).control ≤ length z.commands) (sym c.self.view_is) c.requires.left in
    let ends : EndsSo (setting b) (front b) = subst (λ (z : Book). EndsSo (setting z) (front z)) (sym c.self.view_is) c.requires.ends in
    rw c.push.ensures.appended (unreached_kept b _ c.self.invariant open_ none most ends c.push.new.self.room c.push.ensures.room)

pub returns-clause-turns : goal.returns-clause-turns
returns-clause-turns c =
    let b : Book = the_view c.self.inside in
    let open_ = unfinished_by b _ c.self.invariant (subst (λ (z : Book). HasFinish z → ⊥) (sym c.self.view_is) c.requires.unfinished) in
    let none : Control.asked (front b).control ≡ None = subst (λ (z : Book). Control.asked (front z).control ≡ None) (sym c.self.view_is) c.requires.asked in
    let most : Control.next (front b).control ≤ length b.commands = subst (λ (z : Book). Control.next (front z).control ≤ length z.commands) (sym c.self.view_is) c.requires.left in
    let ends : EndsSo (setting b) (front b) = subst (λ (z : Book). EndsSo (setting z) (front z)) (sym c.self.view_is) c.requires.ends in
    let new : Book = record b { entries = c.push.new.self.entries } in
    subst (λ (z : Book). Turns z choice.Control new turned.Moved) c.self.view_is
    (control_moves b _ c.self.invariant open_ (e.Unreached c.self.inside.next) refl (record { may = may_leave_out b none c.self.inside.next c.self.invariant.commands.next most ends; found = tt }) c.push.new.self.entries c.push.ensures.appended)

pub returns-clause-lawful : goal.returns-clause-lawful
returns-clause-lawful c = BookInvariant.journal (invariant_of-self c)
