-- Threads that flags bind, and what such a thread passes with its next entry.
use Rattle.std.proofs.Common.{ℕ, ◌≡◌, ◌⊎◌, inl, inr, Bool, true, false, not, ◌&&◌, ◌||◌, List, Option, Some, None, refl, sym, ap, ◌∙◌, subst, if◌then◌else◌}
use Rattle.std.specs.List.{AllByRecursion}
use Rattle.loom_lang.specs.Places.{Place}
use Rattle.loom_trace.specs.declared.entry.Entry.{Entry}
use Rattle.loom_event.specs.Replay.{ThreadState, thread_at}
use Rattle.loom_law.specs.Walk.{PartStep, Walk}
use Rattle.loom_law.specs.ThreadPart.{Own, walk_of, HasMoved}
use Rattle.loom_law.specs.Control.{entries_of, since_asked}
use Rattle.loom_law.specs.Lawful.{plans, running_thread, has_any, IsFlagged, StaysAway}
use Rattle.loom_law.specs.Laws.{own_with}
use Rattle.loom_law.specs.TurnLaws.{ends_blocked}
use Rattle.loom_law.proofs.OnePart.{one_move}
use Rattle.loom_strand.specs.Life.{has_none}
use Rattle.loom_world.specs.Book.{Book, setting, stand_at}
use Rattle.loom_world.specs.Flags.{IsUnderWay}
use Rattle.loom_world.specs.Asking.{has_note, minds_flags, PassesNoFlag}
use Rattle.loom_world.proofs.OneStand.{passes_nothing}

-- The test

by_tests : (a n : Bool) (o : Option ℕ) → (a || (not n && not (has_note o))) ≡ true → (a ≡ true) ⊎ ((n ≡ false) × (o ≡ None))
by_tests true n o h = inl refl
by_tests false true o h = cc
by_tests false false None h = inr (refl, refl)
by_tests false false (Some k) h = cc

pub minds_so : (b : Book) (t : ℕ) → minds_flags b t ≡ true → (has_any (entries_of t (since_asked b.entries)) ≡ true) ⊎ ((has_none (entries_of t b.entries) ≡ false) × (stand_at b.stands t ≡ None))
minds_so b t h = by_tests (has_any (entries_of t (since_asked b.entries))) (has_none (entries_of t b.entries)) (stand_at b.stands t) h

-- it made an entry since a command was asked
pub minds_since : (b : Book) (t : ℕ) → has_any (entries_of t (since_asked b.entries)) ≡ true → minds_flags b t ≡ true
minds_since b t h = ap (λ (a : Bool). a || (not (has_none (entries_of t b.entries)) && not (has_note (stand_at b.stands t)))) h

none_noted : (a n : Bool) (o : Option ℕ) → n ≡ false → o ≡ None → (a || (not n && not (has_note o))) ≡ true
none_noted true n o h g = refl
none_noted false true o h g = cc
none_noted false false None h g = refl
none_noted false false (Some k) h g = cc

-- nothing is noted of it
pub minds_unnoted : (b : Book) (t : ℕ) → has_none (entries_of t b.entries) ≡ false → stand_at b.stands t ≡ None → minds_flags b t ≡ true
minds_unnoted b t some none = none_noted (has_any (entries_of t (since_asked b.entries))) (has_none (entries_of t b.entries)) (stand_at b.stands t) some none

-- A thread that runs

pub running_there : (o : Option ThreadState) (z u : ThreadState) → o ≡ Some z → running_thread o ≡ Some u → (z ≡ u) × (z.begun ≡ true)
running_there o z u there running = by_tests_of z.begun z.ended refl (sym (ap running_thread there) ∙ running)
  where
    by_tests_of : (c d : Bool) → z.begun ≡ c → (if c && not d then Some z else None) ≡ Some u → (z ≡ u) × (z.begun ≡ true)
    by_tests_of true false is h = (cc, is)
    by_tests_of true true is h = cc
    by_tests_of false d is h = cc

some_made : (c n : Bool) → c ≡ not n → c ≡ true → n ≡ false
some_made c true h g = cc
some_made c false h g = refl

-- What keeps it away from flags where they bind it keeps it from passing them.
pub passes_so : (b : Book) (t : ℕ) (z : ThreadState) (x : Entry) → thread_at b.store t ≡ Some z → z.begun ≡ not (has_none (entries_of t b.entries))
    → (z.begun ≡ true → (k : ℕ) → IsUnderWay b k → minds_flags b t ≡ true → StaysAway (setting b) (own_with (setting b) b.entries t z x) k) → PassesNoFlag b t x
passes_so b t z x there begun stays = record {
  passes = λ k under state running note steps moved.
      let r = running_there (thread_at b.store t) z state there running in
      subst (λ (u : ThreadState). Passes k u steps) r.0 (by_note k under r.1 note steps (subst (λ (u : ThreadState). HasMoved b.program (plans (setting b)) (its u) steps) (sym r.0) moved));
}
  where
    its : ThreadState → Own
    its u = own_with (setting b) b.entries t u x

    Passes : ℕ → ThreadState → List PartStep → Type 0
    Passes k u steps = AllByRecursion (λ y. IsFlagged (setting b) k y → ⊥) (Walk.passed (walk_of b.program (plans (setting b)) (own_with (setting b) b.entries t u x) steps))

    by_note : (k : ℕ) → IsUnderWay b k → z.begun ≡ true → (stand_at b.stands t ≡ None) ⊎ (ends_blocked (entries_of t b.entries) ≡ true) → (steps : List PartStep)
        → HasMoved b.program (plans (setting b)) (own_with (setting b) b.entries t z x) steps → Passes k z steps
    by_note k under runs (inl none) steps moved =
        let a = stays runs k under (minds_unnoted b t (some_made z.begun (has_none (entries_of t b.entries)) begun runs) none) in
        subst (λ ss. Passes k z ss) (one_move b.program (plans (setting b)) (own_with (setting b) b.entries t z x) a.steps steps a.moved moved) a.away.passed
    by_note k under runs (inr told) steps moved =
        let nothing = passes_nothing b.program (plans (setting b)) (own_with (setting b) b.entries t z x) (entries_of t b.entries) x steps refl told moved in
        subst (λ (ys : List Place). AllByRecursion (λ y. IsFlagged (setting b) k y → ⊥) ys) (sym nothing) tt
