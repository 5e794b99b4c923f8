use Rattle.std.proofs.Common.{suc, ◌≡◌, true, false, Some, None, refl, sym, ap, ◌∙◌, subst}
use Rattle.loom_trace.specs.declared.entry.Entry.TheVariants as e
use Rattle.loom_law.specs.Control.{Control}
use Rattle.loom_world.specs.declared.choice.Choice.TheVariants as choice
use Rattle.loom_world.specs.declared.choice.Turned.TheVariants as turned
use Rattle.loom_world.specs.Book.{Book, setting, front}
use Rattle.loom_world.specs.Idle.{HasFinish}
use Rattle.loom_world.specs.Turned.{Turns}
use Rattle.loom_world.specs.contracts.book.Book.{the_view}
use Rattle.loom_world.specs.BookInvariant.{BookInvariant}
use Rattle.loom_world.proofs.InvariantReadings.{unfinished_by, room_left}
use Rattle.loom_law.specs.Filter.{has}
use Rattle.loom_law.specs.Walk.{Version}
use Rattle.loom_law.specs.Control.{have_one_name}
use Rattle.loom_law.specs.Lawful.{run_is_over, is_installed, refusal}
use Rattle.loom_world.specs.Answers.{AreFound}
use Rattle.loom_world.proofs.Switches.{may_remove}
use Rattle.loom_world.proofs.CommandReadings.{used}
use Rattle.loom_world.proofs.NewVersions.{Removes, removes, few_changes}
use Rattle.loom_world.proofs.ControlledBook.{removed_kept, control_moves}
use Rattle.loom_world.proofs.book.Book.take_out.Goals as goal

pub push-requires : goal.push-requires
push-requires c =
    let b : Book = the_view c.self.inside in
    let open_ = unfinished_by b _ c.self.invariant (subst (λ (z : Book). HasFinish z → ⊥) (sym c.self.view_is) c.requires.unfinished) in
    room_left b _ c.self.invariant open_

pub without-self-inside-requires-clause-there : goal.without-self-inside-requires-clause-there
without-self-inside-requires-clause-there c =
    let b : Book = the_view c.self.inside in
    let there : is_installed (front b).control c.args.j ≡ true = subst (λ (z : Book). is_installed (front z).control c.args.j ≡ true) (sym c.self.view_is) c.requires.installed in
    let named : have_one_name b.commands c.args.j c.args.k ≡ true = subst (λ (z : Book). have_one_name z.commands c.args.j c.args.k ≡ true) (sym c.self.view_is) c.requires.name in
    ap (λ (v : Version). has v.active c.args.j) c.self.invariant.version.version ∙ there

pub without-self-inside-requires-clause-number : goal.without-self-inside-requires-clause-number
without-self-inside-requires-clause-number c =
    let b : Book = the_view c.self.inside in
    let asked : Control.asked (front b).control ≡ Some c.args.k = subst (λ (z : Book). Control.asked (front z).control ≡ Some c.args.k) (sym c.self.view_is) c.requires.asked in
    few_changes b _ c.self.invariant c.args.k asked

pub invariant_of-self : goal.invariant_of-self
invariant_of-self c =
    let b : Book = the_view c.self.inside in
    let open_ = unfinished_by b _ c.self.invariant (subst (λ (z : Book). HasFinish z → ⊥) (sym c.self.view_is) c.requires.unfinished) in
    let asked : Control.asked (front b).control ≡ Some c.args.k = subst (λ (z : Book). Control.asked (front z).control ≡ Some c.args.k) (sym c.self.view_is) c.requires.asked in
    let accepted : refusal (setting b) (front b).control c.args.k ≡ None = subst (λ (z : Book). refusal (setting z) (front z).control c.args.k ≡ None) (sym c.self.view_is) c.requires.not_refused in
    let goes_on : run_is_over (setting b) (front b) ≡ false = subst (λ (z : Book). run_is_over (setting z) (front z) ≡ false) (sym c.self.view_is) c.requires.goes_on in
    let there : is_installed (front b).control c.args.j ≡ true = subst (λ (z : Book). is_installed (front z).control c.args.j ≡ true) (sym c.self.view_is) c.requires.installed in
    let named : have_one_name b.commands c.args.j c.args.k ≡ true = subst (λ (z : Book). have_one_name z.commands c.args.j c.args.k ≡ true) (sym c.self.view_is) c.requires.name in
    let found : AreFound b c.args.k c.args.places = subst (λ (z : Book). AreFound z c.args.k c.args.places) (sym c.self.view_is) c.requires.found in
    let x : Removes b c.args.k = removes b c.self.invariant.journal c.args.k asked accepted (used b c.args.j c.args.k there named) in
    let number : c.number.result ≡ suc (Version.number c.self.inside.version) = c.number.ensures.is ∙ ap (λ (v : Version). v.number) c.without-self-inside.ensures in
    let told : c.number.result ≡ suc (Version.number (Control.version (front b).control)) = number ∙ ap (λ (v : Version). suc v.number) c.self.invariant.version.version in
    rw (c.push.ensures.appended, c.remove.ensures, c.without-self-inside.ensures) (removed_kept b _ c.self.invariant open_ c.owner-self-inside.ensures.keeps c.args.k c.number.result c.args.j x.command c.args.places x.is x.removes asked accepted goes_on there named found number c.push.new.self.room c.push.ensures.room c.forget.new.waits.items c.forget.ensures)

pub returns-clause-turns : goal.returns-clause-turns
returns-clause-turns c =
    let b : Book = the_view c.self.inside in
    let open_ = unfinished_by b _ c.self.invariant (subst (λ (z : Book). HasFinish z → ⊥) (sym c.self.view_is) c.requires.unfinished) in
    let asked : Control.asked (front b).control ≡ Some c.args.k = subst (λ (z : Book). Control.asked (front z).control ≡ Some c.args.k) (sym c.self.view_is) c.requires.asked in
    let accepted : refusal (setting b) (front b).control c.args.k ≡ None = subst (λ (z : Book). refusal (setting z) (front z).control c.args.k ≡ None) (sym c.self.view_is) c.requires.not_refused in
    let goes_on : run_is_over (setting b) (front b) ≡ false = subst (λ (z : Book). run_is_over (setting z) (front z) ≡ false) (sym c.self.view_is) c.requires.goes_on in
    let there : is_installed (front b).control c.args.j ≡ true = subst (λ (z : Book). is_installed (front z).control c.args.j ≡ true) (sym c.self.view_is) c.requires.installed in
    let named : have_one_name b.commands c.args.j c.args.k ≡ true = subst (λ (z : Book). have_one_name z.commands c.args.j c.args.k ≡ true) (sym c.self.view_is) c.requires.name in
    let found : AreFound b c.args.k c.args.places = subst (λ (z : Book). AreFound z c.args.k c.args.places) (sym c.self.view_is) c.requires.found in
    let x : Removes b c.args.k = removes b c.self.invariant.journal c.args.k asked accepted (used b c.args.j c.args.k there named) in
    let number : c.number.result ≡ suc (Version.number c.self.inside.version) = c.number.ensures.is ∙ ap (λ (v : Version). v.number) c.without-self-inside.ensures in
    let told : c.number.result ≡ suc (Version.number (Control.version (front b).control)) = number ∙ ap (λ (v : Version). suc v.number) c.self.invariant.version.version in
    let new : Book = record b { entries = c.push.new.self.entries } in
    subst (λ (z : Book). Turns z choice.Control new turned.Moved) c.self.view_is
    (control_moves b _ c.self.invariant open_ (e.Removed c.args.k c.number.result c.args.places) refl (record { may = may_remove b c.self.invariant.journal c.args.k c.number.result x.command c.args.places x.is x.removes asked accepted goes_on told found; found = found }) c.push.new.self.entries c.push.ensures.appended)

pub returns-clause-lawful : goal.returns-clause-lawful
returns-clause-lawful c = BookInvariant.journal (invariant_of-self c)
