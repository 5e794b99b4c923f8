use Rattle.std.proofs.Common.{◌≡◌, ◌-◌, List, map, slice_get, Some, true, refl, sym, subst, ◌∙◌, ap}
use Rattle.loom_event.specs.Replay.{ThreadState}
use Rattle.loom_store.specs.Threads.{Threads, state_of}
use Rattle.loom_store.proofs.ThreadList.{changed_at}
use Rattle.loom_store.proofs.threads.Threads.begin.Goals as goal
use Rattle.std.specs.Prelude.{slice_set}

pub returns : goal.returns
returns c x h =
    let i = c.args.t - 1 in
    let thread = c.index_mut.result.now in
    let there : slice_get (map state_of c.self.inside.items.items) i ≡ Some x = subst (λ (z : Threads). slice_get z.spawned i ≡ Some x) (sym c.self.view_is) h in
    let f : ThreadState → ThreadState = λ z. record z { begun = true } in
    ap (λ (z : List ThreadState). record { spawned = z; most = c.self.inside.most })
    (changed_at c.self.inside.items.items i thread (record thread { begun = true }) x f c.index_mut.ensures.value there refl)
    ∙ ap (λ (z : Threads). record z { spawned = slice_set z.spawned i (f x) }) c.self.view_is
