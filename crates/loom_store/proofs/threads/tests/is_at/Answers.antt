use Rattle.std.proofs.Common.{ℕ, suc, ◌-◌, ◌<◌, ◌≡◌, length, slice_get, Some, Bool, not, refl, true, false, subst, arith}
use Rattle.std.proofs.Math.Bool.{beq}
use Rattle.loom_event.specs.Replay.{ThreadState}
use Rattle.loom_store.specs.Threads.{Threads, state_of}
use Rattle.loom_store.proofs.ThreadList.{spawned_at}
use Rattle.loom_store.proofs.threads.tests.is_at.Goals as goal

lives : (b : Bool) → not b ≡ true → b ≡ false
lives true h = cc
lives false h = refl

same : (a b : Bool) → beq a b ≡ true → a ≡ b
same true true h = refl
same true false h = cc
same false true h = cc
same false false h = refl

pub returns-then-thread-begun : goal.returns-then-thread-begun
returns-then-thread-begun c h =
    let i : ℕ = c.args.t - 1 in
    let x : ThreadState = state_of c.index-thread.result.now in
    let few : i < length c.threads.inside.items.items = omega (arith, c.len.ensures) in
    let is : c.args.t ≡ suc i = omega arith in
    let there : slice_get c.args.threads.now.spawned i ≡ Some x =
    subst (λ (z : Threads). slice_get z.spawned i ≡ Some x) c.threads.view_is (spawned_at c.threads.inside.items.items i c.index-thread.result.now few c.index-thread.ensures) in
    (i, x, is, there, lives c.index-thread.result.now.ended h, same c.index-thread.result.now.begun c.args.begun c.if-thread-begun.true)
