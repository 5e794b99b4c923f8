use Rattle.std.proofs.Common.{◌≡◌, refl, subst, arith}
use Rattle.std.specs.Arc.{arc_value}
use Rattle.loom_tree.specs.Tree.{Source}
use Rattle.loom_lang.specs.Rules.{KeepsRules}
use Rattle.loom_law.specs.Walk.{Plans}
use Rattle.loom_trace.specs.Limits.{thread_limit}
use Rattle.loom_event.specs.Replay.{start}
use Rattle.loom_version.specs.Plans.{plans_in}
use Rattle.loom_world.specs.Book.{Book}
use Rattle.loom_world.specs.BookInvariant.{BookInvariant}
use Rattle.loom_world.specs.CommandView.{law_commands, flag_sets}
use Rattle.loom_world.proofs.CommandReadings.{many_commands}
use Rattle.loom_world.proofs.FlagSets.{have_sets, have_plans}
use Rattle.loom_world.proofs.ControlledBook.{first_book, new_kept}
use Rattle.loom_world.proofs.book.Book.make.Goals as goal

pub invariant_of-result : goal.invariant_of-result
invariant_of-result c =
    let p : Source = arc_value c.args.program in
    let ps : Plans = plans_in (arc_value c.args.plans) in
    let rules : KeepsRules p = subst KeepsRules c.deref.ensures c.semas.ensures.rules in
    let store : c.in_ok-store.store ≡ start p thread_limit = subst (λ (z : Source). c.in_ok-store.store ≡ start z thread_limit) c.deref-2.ensures c.in_ok-store.ensures in
    let b : Book = first_book p (arc_value c.args.plans) (law_commands ps c.args.commands.items) c.args.limit c.in_ok-stands.stands.items in
    rw (c.in_ok-journal.ensures.empty, store, c.first.ensures, c.make-3.ensures)
    (new_kept p (arc_value c.args.plans) (law_commands ps c.args.commands.items) c.args.limit c.in_ok-journal.journal.room c.in_ok-stands.stands.items c.in_ok-waits.waits.items
    (flag_sets c.args.commands.items) c.args.all_places c.none.result rules
    (have_plans b (arc_value c.args.plans) c.args.commands.items refl refl c.requires.filters c.requires.exclusions)
    (have_sets b (arc_value c.args.plans) c.args.commands.items c.args.all_places c.none.result refl refl c.requires.filters c.requires.places c.none.ensures)
    (omega (arith, many_commands ps c.args.commands.items, c.requires.few)) c.requires.least c.requires.most c.in_ok-journal.ensures.room c.in_ok-stands.ensures c.in_ok-waits.ensures)

pub returns-clause-lawful : goal.returns-clause-lawful
returns-clause-lawful c = BookInvariant.journal (invariant_of-result c)
