use Rattle.std.proofs.Common.{◌≤◌, length, subst, arith}
use Rattle.loom_trace.specs.Limits.{thread_limit}
use Rattle.loom_world.specs.Book.{Book}
use Rattle.loom_world.proofs.InvariantReadings.{all_blocked}
use Rattle.loom_world.proofs.book.Book.is_stuck.Goals as goal

pub returns-clause-stuck : goal.returns-clause-stuck
returns-clause-stuck c h =
    all_blocked c.args.self.now (subst (λ (b : Book). length b.store.spawned ≤ thread_limit) c.self.view_is c.self.invariant.few_threads) c.threads.t (omega (arith, c.threads.auto.t-end, c.threads-test.false)) c.threads.invariant
