use Rattle.std.proofs.Common.{arith}
use Rattle.loom_world.proofs.FoundThreads.{found_more}
use Rattle.loom_world.proofs.book.Book.found_row.Goals as goal

pub threads-preserved : goal.threads-preserved
threads-preserved c =
    let at = c.in-Some.ensures.some in
    rw c.put.ensures
    (found_more c.args.self.now c.args.k c.threads.t c.in-Some.place c.threads.row c.threads.auto.t (omega (arith, c.threads-test.true)) c.threads.invariant at.0 at.1)
