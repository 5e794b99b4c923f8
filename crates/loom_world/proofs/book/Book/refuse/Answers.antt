use Rattle.std.proofs.Common.{◌≡◌, Some, refl, sym, subst}
use Rattle.loom_trace.specs.declared.entry.Entry.TheVariants as e
use Rattle.loom_law.specs.Control.{Control}
use Rattle.loom_world.specs.declared.choice.Choice.TheVariants as choice
use Rattle.loom_world.specs.declared.choice.Turned.TheVariants as turned
use Rattle.loom_world.specs.Book.{Book, setting, front}
use Rattle.loom_world.specs.Idle.{HasFinish}
use Rattle.loom_world.specs.Turned.{Turns}
use Rattle.loom_world.specs.contracts.book.Book.{the_view}
use Rattle.loom_world.specs.BookInvariant.{BookInvariant}
use Rattle.loom_world.proofs.InvariantReadings.{unfinished_by, room_left}
use Rattle.loom_law.specs.Lawful.{refusal}
use Rattle.loom_world.specs.Refusals.{number_and_clause}
use Rattle.loom_world.proofs.ControlTurns.{may_refuse}
use Rattle.loom_world.proofs.ControlledBook.{refused_kept, control_moves}
use Rattle.loom_world.proofs.book.Book.refuse.Goals as goal

pub push-requires : goal.push-requires
push-requires c =
    let b : Book = the_view c.self.inside in
    let open_ = unfinished_by b _ c.self.invariant (subst (λ (z : Book). HasFinish z → ⊥) (sym c.self.view_is) c.requires.unfinished) in
    room_left b _ c.self.invariant open_

pub invariant_of-self : goal.invariant_of-self
invariant_of-self c =
    let b : Book = the_view c.self.inside in
    let open_ = unfinished_by b _ c.self.invariant (subst (λ (z : Book). HasFinish z → ⊥) (sym c.self.view_is) c.requires.unfinished) in
    let asked : Control.asked (front b).control ≡ Some c.args.k = subst (λ (z : Book). Control.asked (front z).control ≡ Some c.args.k) (sym c.self.view_is) c.requires.asked in
    let why : refusal (setting b) (front b).control c.args.k ≡ Some (number_and_clause c.args.told) =
    subst (λ (z : Book). refusal (setting z) (front z).control c.args.k ≡ Some (number_and_clause c.args.told)) (sym c.self.view_is) c.requires.why in
    rw c.push.ensures.appended (refused_kept b _ c.self.invariant open_ c.args.k c.args.told.number c.args.told.clause asked why c.push.new.self.room c.push.ensures.room)

pub returns-clause-turns : goal.returns-clause-turns
returns-clause-turns c =
    let b : Book = the_view c.self.inside in
    let open_ = unfinished_by b _ c.self.invariant (subst (λ (z : Book). HasFinish z → ⊥) (sym c.self.view_is) c.requires.unfinished) in
    let asked : Control.asked (front b).control ≡ Some c.args.k = subst (λ (z : Book). Control.asked (front z).control ≡ Some c.args.k) (sym c.self.view_is) c.requires.asked in
    let why : refusal (setting b) (front b).control c.args.k ≡ Some (number_and_clause c.args.told) =
    subst (λ (z : Book). refusal (setting z) (front z).control c.args.k ≡ Some (number_and_clause c.args.told)) (sym c.self.view_is) c.requires.why in
    let new : Book = record b { entries = c.push.new.self.entries } in
    subst (λ (z : Book). Turns z choice.Control new turned.Moved) c.self.view_is
    (control_moves b _ c.self.invariant open_ (e.Refused c.args.k c.args.told.number c.args.told.clause) refl (record { may = may_refuse b c.args.k c.args.told.number c.args.told.clause asked why; found = tt }) c.push.new.self.entries c.push.ensures.appended)

pub returns-clause-lawful : goal.returns-clause-lawful
returns-clause-lawful c = BookInvariant.journal (invariant_of-self c)
