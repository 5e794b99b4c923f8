use Rattle.std.proofs.Common.{◌≡◌, ◌==◌, true, false, Some, refl, sym, ◌∙◌, subst, arith}
use Rattle.std.specs.Arc.{arc_value}
use Rattle.loom_law.specs.Filter.{Plan}
use Rattle.loom_law.specs.Walk.{Plans}
use Rattle.loom_law.specs.Control.{command_at, Control}
use Rattle.loom_law.specs.Lawful.{filter_limit}
use Rattle.loom_version.specs.Plans.{plans_in}
use Rattle.loom_world.specs.declared.command.Command.{Command}
use Rattle.loom_world.specs.CommandView.{law_command}
use Rattle.loom_world.specs.Book.{Book, front, HasLawfulJournal}
use Rattle.loom_world.specs.contracts.book.Book.{the_view}
use Rattle.loom_world.proofs.CommandReadings.{asked_number, command_is, many_installed, used, removal_used, removal_unused, install_used, install_full, install_text}
use Rattle.loom_world.proofs.ControlTurns.{asked_there}
use Rattle.loom_world.proofs.NewVersions.{is_full}
use Rattle.loom_world.proofs.book.Book.refusal.Goals as goal

pub named-named-requires : goal.named-named-requires
named-named-requires c =
    let j : HasLawfulJournal c.args.self.now = subst HasLawfulJournal c.self.view_is c.self.invariant.journal in
    record { there = asked_there c.args.self.now j c.args.k c.requires }

pub index-requires : goal.index-requires
index-requires c =
    let b : Book = the_view c.self.inside in
    let asked : Control.asked (front b).control ≡ Some c.args.k = subst (λ (z : Book). Control.asked (front z).control ≡ Some c.args.k) (sym c.self.view_is) c.requires in
    let number = asked_number b _ c.self.invariant (plans_in (arc_value c.self.inside.plans)) c.self.inside.commands.items refl c.args.k asked in
    omega (arith, number.0, number.1)

pub returns-in-Some : goal.returns-in-Some
returns-in-Some c =
    let b : Book = the_view c.self.inside in
    let ps : Plans = plans_in (arc_value c.self.inside.plans) in
    let asked : Control.asked (front b).control ≡ Some c.args.k = subst (λ (z : Book). Control.asked (front z).control ≡ Some c.args.k) (sym c.self.view_is) c.requires in
    let number = asked_number b _ c.self.invariant ps c.self.inside.commands.items refl c.args.k asked in
    let x : Command = c.index.result.now in
    let f : Plan = ps c.args.k in
    let is : command_at c.args.self.now.commands c.args.k ≡ Some (law_command f x) =
    subst (λ (z : Book). command_at z.commands c.args.k ≡ Some (law_command f x)) c.self.view_is (command_is ps c.self.inside.commands.items c.args.k x number.0 number.1 c.index.ensures) in
    let named = c.in-Some.ensures.some in
    removal_used c.args.self.now c.args.k f x is c.in-Remove.is (used c.args.self.now c.in-Some.field-0 c.args.k named.0 named.1)

pub returns-in-None : goal.returns-in-None
returns-in-None c =
    let b : Book = the_view c.self.inside in
    let ps : Plans = plans_in (arc_value c.self.inside.plans) in
    let asked : Control.asked (front b).control ≡ Some c.args.k = subst (λ (z : Book). Control.asked (front z).control ≡ Some c.args.k) (sym c.self.view_is) c.requires in
    let number = asked_number b _ c.self.invariant ps c.self.inside.commands.items refl c.args.k asked in
    let x : Command = c.index.result.now in
    let f : Plan = ps c.args.k in
    let is : command_at c.args.self.now.commands c.args.k ≡ Some (law_command f x) =
    subst (λ (z : Book). command_at z.commands c.args.k ≡ Some (law_command f x)) c.self.view_is (command_is ps c.self.inside.commands.items c.args.k x number.0 number.1 c.index.ensures) in
    removal_unused c.args.self.now c.args.k f x (record { clause = 0; number = 12 }) is c.in-Remove.is c.in-None.ensures.none refl

pub returns-in-Some-named : goal.returns-in-Some-named
returns-in-Some-named c =
    let b : Book = the_view c.self.inside in
    let ps : Plans = plans_in (arc_value c.self.inside.plans) in
    let asked : Control.asked (front b).control ≡ Some c.args.k = subst (λ (z : Book). Control.asked (front z).control ≡ Some c.args.k) (sym c.self.view_is) c.requires in
    let number = asked_number b _ c.self.invariant ps c.self.inside.commands.items refl c.args.k asked in
    let x : Command = c.index.result.now in
    let f : Plan = ps c.args.k in
    let is : command_at c.args.self.now.commands c.args.k ≡ Some (law_command f x) =
    subst (λ (z : Book). command_at z.commands c.args.k ≡ Some (law_command f x)) c.self.view_is (command_is ps c.self.inside.commands.items c.args.k x number.0 number.1 c.index.ensures) in
    let named = c.in-Some-named.ensures.some in
    install_used c.args.self.now c.args.k f x c.in-Install.judged (record { clause = 0; number = 11 }) is c.in-Install.is (used c.args.self.now c.in-Some-named.field-0 c.args.k named.0 named.1) refl

pub returns-then-is_full : goal.returns-then-is_full
returns-then-is_full c =
    let b : Book = the_view c.self.inside in
    let ps : Plans = plans_in (arc_value c.self.inside.plans) in
    let asked : Control.asked (front b).control ≡ Some c.args.k = subst (λ (z : Book). Control.asked (front z).control ≡ Some c.args.k) (sym c.self.view_is) c.requires in
    let number = asked_number b _ c.self.invariant ps c.self.inside.commands.items refl c.args.k asked in
    let x : Command = c.index.result.now in
    let f : Plan = ps c.args.k in
    let is : command_at c.args.self.now.commands c.args.k ≡ Some (law_command f x) =
    subst (λ (z : Book). command_at z.commands c.args.k ≡ Some (law_command f x)) c.self.view_is (command_is ps c.self.inside.commands.items c.args.k x number.0 number.1 c.index.ensures) in
    let full : (many_installed c.args.self.now == filter_limit) ≡ true =
    subst (λ (z : Book). (many_installed z == filter_limit) ≡ true) c.self.view_is (is_full b _ c.self.invariant true (sym c.is_full.ensures.full ∙ c.if-is_full.true)) in
    install_full c.args.self.now c.args.k f x c.in-Install.judged (record { clause = 0; number = 14 }) is c.in-Install.is c.in-None-named.ensures.none full refl

pub returns-else-is_full : goal.returns-else-is_full
returns-else-is_full c =
    let b : Book = the_view c.self.inside in
    let ps : Plans = plans_in (arc_value c.self.inside.plans) in
    let asked : Control.asked (front b).control ≡ Some c.args.k = subst (λ (z : Book). Control.asked (front z).control ≡ Some c.args.k) (sym c.self.view_is) c.requires in
    let number = asked_number b _ c.self.invariant ps c.self.inside.commands.items refl c.args.k asked in
    let x : Command = c.index.result.now in
    let f : Plan = ps c.args.k in
    let is : command_at c.args.self.now.commands c.args.k ≡ Some (law_command f x) =
    subst (λ (z : Book). command_at z.commands c.args.k ≡ Some (law_command f x)) c.self.view_is (command_is ps c.self.inside.commands.items c.args.k x number.0 number.1 c.index.ensures) in
    let room : (many_installed c.args.self.now == filter_limit) ≡ false =
    subst (λ (z : Book). (many_installed z == filter_limit) ≡ false) c.self.view_is (is_full b _ c.self.invariant false (sym c.is_full.ensures.full ∙ c.if-is_full.false)) in
    install_text c.args.self.now c.args.k f x c.in-Install.judged c.text_refusal.result is c.in-Install.is c.in-None-named.ensures.none room c.text_refusal.ensures
