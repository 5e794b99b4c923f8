-- How many threads the store of a lawful journal has.
use Rattle.std.proofs.Common.{ℕ, ◌≤◌, ◌≡◌, List, [], ◌∷◌, length, Option, Some, None, subst, arith, codes}
use Rattle.loom_trace.specs.Limits.{thread_limit}
use Rattle.loom_lang.specs.Numbers.{function_number}
use Rattle.loom_event.specs.TargetEvent.{TargetEvent}
use Rattle.loom_event.specs.Replay.{Store, main_thread, start, after_event, replay, AreAllowed}
use Rattle.loom_law.proofs.Turns.{replay_most}
use Rattle.loom_world.specs.Book.{Book, HasLawfulJournal}
use Rattle.loom_world.proofs.States.{few_threads}

few_along : (s : Store) (xs : List TargetEvent) → s.most ≤ thread_limit → AreAllowed s xs → length s.spawned ≤ thread_limit → length (Store.spawned (replay s xs)) ≤ thread_limit
few_along s [] small ok few = few
few_along s (x ∷ xs) small ok few =
    let same : Store.most (after_event s x) ≡ s.most = replay_most s (x ∷ []) in
    let still : Store.most (after_event s x) ≤ thread_limit = omega (arith, same, small) in
    few_along (after_event s x) xs still ok.1 (few_threads s x.thread x.act small ok.0 few)

few_first : (f : Option ℕ) → length (main_thread thread_limit f) ≤ thread_limit
few_first None = omega arith
few_first (Some g) = omega arith

pub few_spawned : (b : Book) → HasLawfulJournal b → length b.store.spawned ≤ thread_limit
few_spawned b h =
    let small : thread_limit ≤ thread_limit = omega arith in
    let few = few_along (start b.program thread_limit) h.lawful.events small h.lawful.run.allowed (few_first (function_number b.program (codes "main"))) in
    subst (λ (s : Store). length s.spawned ≤ thread_limit) h.store few
