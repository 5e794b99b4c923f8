use Rattle.std.proofs.Common.{suc, ◌+◌, ◌<◌, ◌≡◌, length, slice_get, Some, to_z, of_z, w64, rules, refl, sym, ap, ◌∙◌, subst, arith}
use Rattle.std.proofs.lemmas.Int.{to_z-of_z}
use Rattle.loom_trace.specs.declared.entry.What.TheVariants as w
use Rattle.loom_event.specs.Replay.{ThreadState}
use Rattle.loom_store.specs.Threads.{Threads, state_of}
use Rattle.loom_store.proofs.ThreadList.{spawned_at}
use Rattle.loom_store.proofs.threads.Threads.join.Goals as goal

pub returns-then-index : goal.returns-then-index
returns-then-index c =
    let i = c.in-Some.i in
    let names = c.in-Some.ensures in
    let same : to_z w64 (of_z w64 c.args.value) ≡ c.args.value = to_z-of_z w64 c.args.value (search rules) in
    let few : i < length c.self.inside.items.items = omega (arith, names.1, c.len.ensures) in
    let x : ThreadState = state_of c.index.result.now in
    let there : slice_get c.args.self.now.spawned i ≡ Some x =
    subst (λ (z : Threads). slice_get z.spawned i ≡ Some x) c.self.view_is (spawned_at c.self.inside.items.items i c.index.result.now few c.index.ensures) in
    (refl, (i, x, sym same ∙ names.0, there, c.if-index.true))

pub returns-else-index : goal.returns-else-index
returns-else-index c =
    let i = c.in-Some.i in
    let names = c.in-Some.ensures in
    let same : to_z w64 (of_z w64 c.args.value) ≡ c.args.value = to_z-of_z w64 c.args.value (search rules) in
    let few : i < length c.self.inside.items.items = omega (arith, names.1, c.len.ensures) in
    let x : ThreadState = state_of c.index.result.now in
    let there : slice_get c.args.self.now.spawned i ≡ Some x =
    subst (λ (z : Threads). slice_get z.spawned i ≡ Some x) c.self.view_is (spawned_at c.self.inside.items.items i c.index.result.now few c.index.ensures) in
    let next : i + 1 ≡ suc i = omega arith in
    (i, x, sym same ∙ names.0, there, c.if-index.false, ap w.Join next)
