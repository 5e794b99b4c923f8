use Rattle.std.proofs.Common.{◌≡◌, true, subst}
use Rattle.loom_law.specs.Filter.{has}
use Rattle.loom_law.specs.Walk.{Version}
use Rattle.loom_walk.specs.FilterWalk.{HasFilters}
use Rattle.loom_world.specs.Book.{Book}
use Rattle.loom_world.specs.contracts.book.Book.{the_view}
use Rattle.loom_world.proofs.book.Book.version.Goals as goal

pub returns-clause-filters : goal.returns-clause-filters
returns-clause-filters c =
    let b : Book = the_view c.self.inside in
    subst (λ (z : Book). HasFilters z.program z.filters c.self.inside.version) c.self.view_is
    (record {
      all = λ k is.
          let put = c.self.invariant.version.there k (subst (λ (v : Version). has v.active k ≡ true) c.self.invariant.version.version is) in
          let x = c.self.invariant.journal.plans.there k put.0 put.1.0 put.1.1.0 put.1.1.1 in
          (x.0, (x.1, c.self.invariant.journal.plans.filters k x.0 x.1));
    })
