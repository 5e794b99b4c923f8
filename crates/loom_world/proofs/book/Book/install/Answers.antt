use Rattle.std.proofs.Common.{suc, ◌≡◌, false, Some, None, refl, sym, ap, ◌∙◌, subst}
use Rattle.loom_trace.specs.declared.entry.Entry.TheVariants as e
use Rattle.loom_law.specs.Control.{Control}
use Rattle.loom_world.specs.declared.choice.Choice.TheVariants as choice
use Rattle.loom_world.specs.declared.choice.Turned.TheVariants as turned
use Rattle.loom_world.specs.Book.{Book, setting, front}
use Rattle.loom_world.specs.Idle.{HasFinish}
use Rattle.loom_world.specs.Turned.{Turns}
use Rattle.loom_world.specs.contracts.book.Book.{the_view}
use Rattle.loom_world.specs.BookInvariant.{BookInvariant}
use Rattle.loom_world.proofs.InvariantReadings.{unfinished_by, room_left}
use Rattle.loom_law.specs.Walk.{Version}
use Rattle.loom_law.specs.Lawful.{plans, run_is_over, is_name_used, refusal}
use Rattle.loom_plan.specs.Compiled.{Compiled}
use Rattle.loom_version.specs.Plans.{compiled_at, plans_in}
use Rattle.loom_ops.specs.Ops.{with_filter}
use Rattle.loom_world.specs.Answers.{AreFound}
use Rattle.loom_world.proofs.Switches.{may_install}
use Rattle.loom_world.proofs.NewVersions.{Installs, installs, filter_there, has_room, room_for_locks, room_for_filter, below_asked, not_locked, few_changes, few_commands}
use Rattle.loom_world.proofs.ControlledBook.{installed_kept, control_moves}
use Rattle.loom_world.proofs.book.Book.install.Goals as goal

pub push-requires : goal.push-requires
push-requires c =
    let b : Book = the_view c.self.inside in
    let open_ = unfinished_by b _ c.self.invariant (subst (λ (z : Book). HasFinish z → ⊥) (sym c.self.view_is) c.requires.unfinished) in
    room_left b _ c.self.invariant open_

pub put_in-requires-clause-there : goal.put_in-requires-clause-there
put_in-requires-clause-there c =
    let b : Book = the_view c.self.inside in
    let asked : Control.asked (front b).control ≡ Some c.args.k = subst (λ (z : Book). Control.asked (front z).control ≡ Some c.args.k) (sym c.self.view_is) c.requires.asked in
    let accepted : refusal (setting b) (front b).control c.args.k ≡ None = subst (λ (z : Book). refusal (setting z) (front z).control c.args.k ≡ None) (sym c.self.view_is) c.requires.not_refused in
    let unused : is_name_used (setting b) (front b).control c.args.k ≡ false = subst (λ (z : Book). is_name_used (setting z) (front z).control c.args.k ≡ false) (sym c.self.view_is) c.requires.unused in
    subst (λ fs. (x : Compiled) × (compiled_at fs c.args.k ≡ Some x)) (sym c.deref.ensures) (filter_there b c.self.invariant.journal c.args.k (installs b c.self.invariant.journal c.args.k asked accepted unused))

pub put_in-requires-clause-new : goal.put_in-requires-clause-new
put_in-requires-clause-new c =
    let b : Book = the_view c.self.inside in
    let asked : Control.asked (front b).control ≡ Some c.args.k = subst (λ (z : Book). Control.asked (front z).control ≡ Some c.args.k) (sym c.self.view_is) c.requires.asked in
    not_locked b _ c.self.invariant c.args.k asked

pub put_in-requires-clause-room : goal.put_in-requires-clause-room
put_in-requires-clause-room c =
    let b : Book = the_view c.self.inside in
    let asked : Control.asked (front b).control ≡ Some c.args.k = subst (λ (z : Book). Control.asked (front z).control ≡ Some c.args.k) (sym c.self.view_is) c.requires.asked in
    let accepted : refusal (setting b) (front b).control c.args.k ≡ None = subst (λ (z : Book). refusal (setting z) (front z).control c.args.k ≡ None) (sym c.self.view_is) c.requires.not_refused in
    let unused : is_name_used (setting b) (front b).control c.args.k ≡ false = subst (λ (z : Book). is_name_used (setting z) (front z).control c.args.k ≡ false) (sym c.self.view_is) c.requires.unused in
    room_for_locks b _ c.self.invariant c.is_full.ensures.most (has_room b c.args.k (installs b c.self.invariant.journal c.args.k asked accepted unused) accepted unused)

pub with-self-inside-requires-clause-first : goal.with-self-inside-requires-clause-first
with-self-inside-requires-clause-first c =
    let b : Book = the_view c.self.inside in
    let asked : Control.asked (front b).control ≡ Some c.args.k = subst (λ (z : Book). Control.asked (front z).control ≡ Some c.args.k) (sym c.self.view_is) c.requires.asked in
    (few_commands b _ c.self.invariant c.args.k asked).0

pub with-self-inside-requires-clause-last : goal.with-self-inside-requires-clause-last
with-self-inside-requires-clause-last c =
    let b : Book = the_view c.self.inside in
    let asked : Control.asked (front b).control ≡ Some c.args.k = subst (λ (z : Book). Control.asked (front z).control ≡ Some c.args.k) (sym c.self.view_is) c.requires.asked in
    (few_commands b _ c.self.invariant c.args.k asked).1

pub with-self-inside-requires-clause-behind : goal.with-self-inside-requires-clause-behind
with-self-inside-requires-clause-behind c =
    let b : Book = the_view c.self.inside in
    let asked : Control.asked (front b).control ≡ Some c.args.k = subst (λ (z : Book). Control.asked (front z).control ≡ Some c.args.k) (sym c.self.view_is) c.requires.asked in
    below_asked b _ c.self.invariant c.args.k asked

pub with-self-inside-requires-clause-room : goal.with-self-inside-requires-clause-room
with-self-inside-requires-clause-room c =
    let b : Book = the_view c.self.inside in
    let asked : Control.asked (front b).control ≡ Some c.args.k = subst (λ (z : Book). Control.asked (front z).control ≡ Some c.args.k) (sym c.self.view_is) c.requires.asked in
    let accepted : refusal (setting b) (front b).control c.args.k ≡ None = subst (λ (z : Book). refusal (setting z) (front z).control c.args.k ≡ None) (sym c.self.view_is) c.requires.not_refused in
    let unused : is_name_used (setting b) (front b).control c.args.k ≡ false = subst (λ (z : Book). is_name_used (setting z) (front z).control c.args.k ≡ false) (sym c.self.view_is) c.requires.unused in
    room_for_filter b _ c.self.invariant (room_for_locks b _ c.self.invariant c.is_full.ensures.most (has_room b c.args.k (installs b c.self.invariant.journal c.args.k asked accepted unused) accepted unused))

pub with-self-inside-requires-clause-number : goal.with-self-inside-requires-clause-number
with-self-inside-requires-clause-number c =
    let b : Book = the_view c.self.inside in
    let asked : Control.asked (front b).control ≡ Some c.args.k = subst (λ (z : Book). Control.asked (front z).control ≡ Some c.args.k) (sym c.self.view_is) c.requires.asked in
    few_changes b _ c.self.invariant c.args.k asked

pub invariant_of-self : goal.invariant_of-self
invariant_of-self c =
    let b : Book = the_view c.self.inside in
    let open_ = unfinished_by b _ c.self.invariant (subst (λ (z : Book). HasFinish z → ⊥) (sym c.self.view_is) c.requires.unfinished) in
    let asked : Control.asked (front b).control ≡ Some c.args.k = subst (λ (z : Book). Control.asked (front z).control ≡ Some c.args.k) (sym c.self.view_is) c.requires.asked in
    let accepted : refusal (setting b) (front b).control c.args.k ≡ None = subst (λ (z : Book). refusal (setting z) (front z).control c.args.k ≡ None) (sym c.self.view_is) c.requires.not_refused in
    let goes_on : run_is_over (setting b) (front b) ≡ false = subst (λ (z : Book). run_is_over (setting z) (front z) ≡ false) (sym c.self.view_is) c.requires.goes_on in
    let unused : is_name_used (setting b) (front b).control c.args.k ≡ false = subst (λ (z : Book). is_name_used (setting z) (front z).control c.args.k ≡ false) (sym c.self.view_is) c.requires.unused in
    let found : AreFound b c.args.k c.args.places = subst (λ (z : Book). AreFound z c.args.k c.args.places) (sym c.self.view_is) c.requires.found in
    let x : Installs b c.args.k = installs b c.self.invariant.journal c.args.k asked accepted unused in
    let locks : c.put_in.new.ops ≡ with_filter c.self.inside.ops c.args.k (plans (setting b) c.args.k) =
    c.put_in.ensures ∙ ap (λ f. with_filter c.self.inside.ops c.args.k f) (ap (λ z. plans_in z c.args.k) c.deref.ensures ∙ c.self.invariant.journal.plans.same c.args.k) in
    let number : c.number.result ≡ suc (Version.number c.self.inside.version) = c.number.ensures.is ∙ ap (λ (v : Version). v.number) c.with-self-inside.ensures in
    let told : c.number.result ≡ suc (Version.number (Control.version (front b).control)) = number ∙ ap (λ (v : Version). suc v.number) c.self.invariant.version.version in
    rw (c.push.ensures.appended, locks, c.with-self-inside.ensures) (installed_kept b _ c.self.invariant open_ c.args.k c.number.result x.command x.plan c.args.places x.is x.installs asked accepted goes_on unused found number c.push.new.self.room c.push.ensures.room c.forget.new.waits.items c.forget.ensures)

pub returns-clause-turns : goal.returns-clause-turns
returns-clause-turns c =
    let b : Book = the_view c.self.inside in
    let open_ = unfinished_by b _ c.self.invariant (subst (λ (z : Book). HasFinish z → ⊥) (sym c.self.view_is) c.requires.unfinished) in
    let asked : Control.asked (front b).control ≡ Some c.args.k = subst (λ (z : Book). Control.asked (front z).control ≡ Some c.args.k) (sym c.self.view_is) c.requires.asked in
    let accepted : refusal (setting b) (front b).control c.args.k ≡ None = subst (λ (z : Book). refusal (setting z) (front z).control c.args.k ≡ None) (sym c.self.view_is) c.requires.not_refused in
    let goes_on : run_is_over (setting b) (front b) ≡ false = subst (λ (z : Book). run_is_over (setting z) (front z) ≡ false) (sym c.self.view_is) c.requires.goes_on in
    let unused : is_name_used (setting b) (front b).control c.args.k ≡ false = subst (λ (z : Book). is_name_used (setting z) (front z).control c.args.k ≡ false) (sym c.self.view_is) c.requires.unused in
    let found : AreFound b c.args.k c.args.places = subst (λ (z : Book). AreFound z c.args.k c.args.places) (sym c.self.view_is) c.requires.found in
    let x : Installs b c.args.k = installs b c.self.invariant.journal c.args.k asked accepted unused in
    let locks : c.put_in.new.ops ≡ with_filter c.self.inside.ops c.args.k (plans (setting b) c.args.k) =
    c.put_in.ensures ∙ ap (λ f. with_filter c.self.inside.ops c.args.k f) (ap (λ z. plans_in z c.args.k) c.deref.ensures ∙ c.self.invariant.journal.plans.same c.args.k) in
    let number : c.number.result ≡ suc (Version.number c.self.inside.version) = c.number.ensures.is ∙ ap (λ (v : Version). v.number) c.with-self-inside.ensures in
    let told : c.number.result ≡ suc (Version.number (Control.version (front b).control)) = number ∙ ap (λ (v : Version). suc v.number) c.self.invariant.version.version in
    let new : Book = record b { entries = c.push.new.self.entries } in
    subst (λ (z : Book). Turns z choice.Control new turned.Moved) c.self.view_is
    (control_moves b _ c.self.invariant open_ (e.Installed c.args.k c.number.result c.args.places) refl (record { may = may_install b c.self.invariant.journal c.args.k c.number.result x.command x.plan c.args.places x.is x.installs asked accepted goes_on told found; found = found }) c.push.new.self.entries c.push.ensures.appended)

pub returns-clause-lawful : goal.returns-clause-lawful
returns-clause-lawful c = BookInvariant.journal (invariant_of-self c)
