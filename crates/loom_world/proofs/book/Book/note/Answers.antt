use Rattle.std.proofs.Common.{◌≡◌, Some, sym, subst}
use Rattle.std.specs.List.{AllByRecursion}
use Rattle.loom_event.specs.Replay.{ThreadState, thread_at}
use Rattle.loom_law.specs.Control.{listed_places}
use Rattle.loom_law.specs.Lawful.{running_thread}
use Rattle.loom_world.specs.Book.{Book, IsStandOf}
use Rattle.loom_world.specs.contracts.book.Book.{the_view}
use Rattle.loom_world.specs.BookInvariant.{BookInvariant}
use Rattle.loom_world.proofs.StandsBehind.{noted_is}
use Rattle.loom_world.proofs.NotedBook.{noted_kept}
use Rattle.loom_world.proofs.book.Book.note.Goals as goal

pub invariant_of-self : goal.invariant_of-self
invariant_of-self c =
    let b : Book = the_view c.self.inside in
    let stands : (z : ThreadState) → running_thread (thread_at b.store c.args.t) ≡ Some z → IsStandOf b c.args.t z c.args.place =
    subst (λ (y : Book). (z : ThreadState) → running_thread (thread_at y.store c.args.t) ≡ Some z → IsStandOf y c.args.t z c.args.place) (sym c.self.view_is) c.requires.stands in
    let listed : AllByRecursion (λ k. k ≡ c.args.place) (listed_places c.args.t b.entries) =
    subst (λ (y : Book). AllByRecursion (λ k. k ≡ c.args.place) (listed_places c.args.t y.entries)) (sym c.self.view_is) c.requires.listed in
    rw (noted_is c.self.inside.stands.items c.args.t c.args.place c.requires.first)
    (noted_kept b _ c.self.invariant c.args.t c.args.place c.requires.first c.requires.last stands listed)

pub returns-clause-lawful : goal.returns-clause-lawful
returns-clause-lawful c = BookInvariant.journal (invariant_of-self c)
