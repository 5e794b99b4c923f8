use Rattle.std.proofs.Common.{◌≡◌, Some, None, refl, sym, ap, ◌∙◌, subst, arith}
use Rattle.std.specs.Arc.{arc_value}
use Rattle.loom_law.specs.Walk.{Plans}
use Rattle.loom_law.specs.Control.{Control}
use Rattle.loom_law.specs.Lawful.{refusal}
use Rattle.loom_version.specs.Plans.{plans_in}
use Rattle.loom_world.specs.declared.command.Action.TheVariants as action
use Rattle.loom_world.specs.declared.command.Judged.TheVariants as judged
use Rattle.loom_world.specs.CommandView.{flags_in}
use Rattle.loom_world.specs.Book.{Book, setting, front}
use Rattle.loom_world.specs.Flags.{AreFlagsFor}
use Rattle.loom_world.specs.contracts.book.Book.{the_view}
use Rattle.loom_world.proofs.CommandReadings.{asked_number, command_is, text_accepted}
use Rattle.loom_world.proofs.FlagSets.{flags_read, flags_for_removal}
use Rattle.loom_world.proofs.book.Book.flags_for.Goals as goal

pub index-requires : goal.index-requires
index-requires c =
    let b : Book = the_view c.self.inside in
    let asked : Control.asked (front b).control ≡ Some c.args.k = subst (λ (z : Book). Control.asked (front z).control ≡ Some c.args.k) (sym c.self.view_is) c.requires in
    let number = asked_number b _ c.self.invariant (plans_in (arc_value c.self.inside.plans)) c.self.inside.commands.items refl c.args.k asked in
    omega (arith, number.0, number.1)

pub returns-in-Flags : goal.returns-in-Flags
returns-in-Flags c accepted =
    let b : Book = the_view c.self.inside in
    let asked : Control.asked (front b).control ≡ Some c.args.k = subst (λ (z : Book). Control.asked (front z).control ≡ Some c.args.k) (sym c.self.view_is) c.requires in
    let number = asked_number b _ c.self.invariant (plans_in (arc_value c.self.inside.plans)) c.self.inside.commands.items refl c.args.k asked in
    let does : c.index.result.now.action ≡ action.Install (judged.Flags c.in-Flags.flags) = c.in-Install.is ∙ ap action.Install c.in-Flags.is in
    let read = flags_read c.self.inside.commands.items c.args.k c.index.result.now number.0 number.1 c.index.ensures in
    subst (λ (z : Book). AreFlagsFor z c.args.k c.in-Flags.flags) c.self.view_is
    (c.self.invariant.flags.each c.args.k c.in-Flags.flags (read ∙ ap flags_in does))

pub returns-in-Refused : goal.returns-in-Refused
returns-in-Refused c accepted =
    let b : Book = the_view c.self.inside in
    let ps : Plans = plans_in (arc_value c.self.inside.plans) in
    let asked : Control.asked (front b).control ≡ Some c.args.k = subst (λ (z : Book). Control.asked (front z).control ≡ Some c.args.k) (sym c.self.view_is) c.requires in
    let number = asked_number b _ c.self.invariant ps c.self.inside.commands.items refl c.args.k asked in
    let is = command_is ps c.self.inside.commands.items c.args.k c.index.result.now number.0 number.1 c.index.ensures in
    let does : c.index.result.now.action ≡ action.Install (judged.Refused c.in-Refused.field-0) = c.in-Install.is ∙ ap action.Install c.in-Refused.is in
    let none : refusal (setting b) (front b).control c.args.k ≡ None = subst (λ (z : Book). refusal (setting z) (front z).control c.args.k ≡ None) (sym c.self.view_is) accepted in
    absurd (text_accepted b c.args.k (ps c.args.k) c.index.result.now c.in-Refused.field-0 is does none)

pub returns-in-Remove : goal.returns-in-Remove
returns-in-Remove c accepted =
    let b : Book = the_view c.self.inside in
    let ps : Plans = plans_in (arc_value c.self.inside.plans) in
    let asked : Control.asked (front b).control ≡ Some c.args.k = subst (λ (z : Book). Control.asked (front z).control ≡ Some c.args.k) (sym c.self.view_is) c.requires in
    let number = asked_number b _ c.self.invariant ps c.self.inside.commands.items refl c.args.k asked in
    let is = command_is ps c.self.inside.commands.items c.args.k c.index.result.now number.0 number.1 c.index.ensures in
    subst (λ (z : Book). AreFlagsFor z c.args.k c.self.inside.all_places) c.self.view_is
    (flags_for_removal b c.args.k (ps c.args.k) c.index.result.now c.self.inside.all_places is c.in-Remove.is c.self.invariant.flags.all)
