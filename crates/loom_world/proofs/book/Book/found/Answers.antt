use Rattle.std.proofs.Common.{◌≡◌, sym, ◌∙◌, subst, arith}
use Rattle.loom_world.specs.Book.{Book, stand_at}
use Rattle.loom_world.proofs.FoundThreads.{stand_read, found_runs}
use Rattle.loom_world.proofs.book.Book.found.Goals as goal

pub returns : goal.returns
returns c =
    let noted = stand_read c.self.inside.stands.items c.args.t c.index.result.now c.requires.first (omega (arith, c.requires.last, c.self.invariant.journal.stands.count)) c.index.ensures in
    let so : stand_at c.args.self.now.stands c.args.t ≡ c.index.result.now = subst (λ (z : Book). stand_at z.stands c.args.t ≡ c.index.result.now) c.self.view_is noted in
    found_runs c.args.self.now c.args.t c.index.result.now (sym c.runs.ensures ∙ c.if-not-runs.false) so
