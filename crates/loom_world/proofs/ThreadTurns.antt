-- A turn of a thread, from its strand to the book and back.
use Rattle.std.proofs.Common.{ℕ, ◌≤◌, ◌≡◌, ◌⊎◌, inl, inr, Bool, true, false, List, [], ◌∷◌, Option, Some, None, refl, sym, ap, ◌∙◌, subst}
use Rattle.std.specs.List.{AllByRecursion}
use Rattle.loom_trace.specs.Places.{has_place}
use Rattle.loom_trace.specs.Limits.{thread_limit}
use Rattle.loom_trace.specs.declared.request.Request.{Request}
use Rattle.loom_event.specs.Replay.{ThreadState, thread_at}
use Rattle.loom_law.specs.Walk.{Version}
use Rattle.loom_law.specs.Control.{Control, entries_of, listed_places, since_asked}
use Rattle.loom_law.specs.Lawful.{running_thread, has_any}
use Rattle.loom_law.specs.TurnLaws.{ends_blocked}
use Rattle.loom_strand.specs.declared.stage.Birth.{Birth}
use Rattle.loom_strand.specs.declared.stage.Want.TheVariants as want
use Rattle.loom_strand.specs.Life.{has_none, has_ended}
use Rattle.loom_strand.specs.Strand.{Strand, IsSameThread, IsStarted, IsOutrun, Requests, WaitsAt, StandsFlagged, StaysAt, KeepsFrom, Parks, MayPark, KeepsParking, Wants, IsOver, HeedsFlags}
use Rattle.loom_world.specs.Book.{Book, front, stand_at, found_at, found_place, IsStandOf, HasLawfulJournal}
use Rattle.loom_world.specs.Flags.{IsUnderWay, AreFlagsFor, AreFlags, IsFlaggedNow}
use Rattle.loom_world.specs.Idle.{IsLive, IsAtFlagBy, IsAtFlag, IsFoundAtFlag, StaysFound}
use Rattle.loom_world.specs.Asking.{minds_flags, Asks}
use Rattle.loom_world.specs.Threads.{IsBirthOf, HasKeptAway, HasPassedNone, WaitsFound, HasStrandPart, IsStrandOf, RequestsSo, WaitsFree}
use Rattle.loom_world.proofs.Turning.{flags_up, IsItsOwn, keeps_from, its_own, stand_of, passes_of, asks_of, none_since, none_taken, none_there, runs, all_there, outrun_listed, flags_down}
use Rattle.loom_world.proofs.LongerBook.{under_way, flags_nowhere}
use Rattle.loom_world.proofs.InvariantReadings.{not_true}
use Rattle.loom_world.proofs.MindsFlags.{minds_so, minds_since}

-- A strand that is started

-- its birth is the thread's
pub record IsAwake (b : Book) (t : ℕ) (s : Strand) (z : ThreadState) : Type 0 where
  pub birth : Birth
  pub is : s.birth ≡ Some birth
  pub func : birth.func ≡ z.func
  pub args : birth.args ≡ z.args

pub awake : (b : Book) (t : ℕ) (s : Strand) (z : ThreadState) → thread_at b.store t ≡ Some z → IsBirthOf (thread_at b.store t) s.birth → IsStarted s.birth → IsAwake b t s z
awake b t s z there birth started = by_birth s.birth refl started birth
  where
    by_birth : (o : Option Birth) → s.birth ≡ o → IsStarted o → IsBirthOf (thread_at b.store t) o → IsAwake b t s z
    by_birth None is started h = absurd started
    by_birth (Some x) is started h = let both = subst (λ y. IsBirthOf y (Some x)) there h in record { birth = x; is = is; func = both.0; args = both.1 }

-- Just started
pub started_so : (b : Book) (t : ℕ) (x : Birth) (live : IsLive b t x) (old new : Strand) → IsStrandOf b t old → old.birth ≡ None → IsSameThread old (Some x) [] [] new → IsStrandOf b t new
started_so b t x live old new whole unborn same =
    let h = whole.part in
    let nothing : entries_of t b.entries ≡ [] = sym h.entries ∙ h.unborn unborn in
    record {
      part = record {
        program = same.program ∙ h.program;
        filters = same.filters ∙ h.filters;
        versions = same.versions ∙ sym (none_taken b.commands t b.entries nothing);
        keeps_away = subst (HasKeptAway b t new) (sym same.birth) (λ k set under flags any lives. absurd (none_since t b.entries nothing any));
        thread = same.thread ∙ h.thread;
        limit = same.limit ∙ h.limit;
        birth = subst (IsBirthOf (thread_at b.store t)) (sym same.birth) (subst (λ o. IsBirthOf o (Some x)) (sym live.lives.is) (live.func, live.args));
        unborn = λ none. (let no : None ≡ Some x = sym none ∙ same.birth in cc);
        entries = same.entries ∙ sym nothing;
      };
      stands = λ k there. absurd (subst (λ o. WaitsFound old o k) unborn (whole.stands k there));
      passes = subst (HasPassedNone b t new) (sym same.birth) (λ note some lives places. let no : true ≡ false = sym (ap has_none same.entries) ∙ some in cc);
    }

-- What a run of the strand leaves

-- the strand of the thread, from one call to the next
pub its : (b : Book) → HasLawfulJournal b → (t : ℕ) (s new : Strand) (z : ThreadState) → HasStrandPart b t s → (a : IsAwake b t s z) → IsSameThread s s.birth s.versions s.entries new → IsItsOwn b t new a.birth z
its b h t s new z k a same =
    its_own b h.plans t new a.birth z (same.program ∙ k.program) (same.filters ∙ k.filters) (same.thread ∙ k.thread) a.func a.args (same.versions ∙ k.versions) (same.entries ∙ k.entries)

-- with what it asks for
pub ran_to_request : (b : Book) (h : HasLawfulJournal b) (t : ℕ) (birth : Birth) → 1 ≤ t → t ≤ thread_limit → (live : IsLive b t birth) → (s new : Strand) → IsStrandOf b t s → IsStarted s.birth
    → (v : Version) (flags : List ℕ) → v ≡ Control.version (front b).control → AreFlags b flags → IsSameThread s s.birth s.versions s.entries new → new.newest ≡ v → (q : Request)
    → Wants new new.birth flags (want.Ask q) → KeepsParking s new new.birth flags (want.Ask q) → StaysAt s new new.birth flags v → Asks b t q × (HasStrandPart b t new × RequestsSo new new.birth q)
ran_to_request b h t birth first last live s new whole started v flags newest_is are same newest q wants parks stays =
    (asks_of b h t birth first last live new x.birth own (same.thread ∙ k.thread) (same.entries ∙ k.entries) (same.versions ∙ k.versions) (newest ∙ newest_is) q asks stays_at parks_at, (strand, subst (λ o. RequestsSo new o q) (sym born) asks))
  where
    k : HasStrandPart b t s
    k = whole.part

    x : IsAwake b t s live.lives.state
    x = awake b t s live.lives.state live.lives.is k.birth started

    born : new.birth ≡ Some x.birth
    born = same.birth ∙ x.is

    own : IsItsOwn b t new x.birth live.lives.state
    own = its b h t s new live.lives.state k x same

    asks : Requests new x.birth q
    asks = subst (λ o. Wants new o flags (want.Ask q)) born wants

    stays_so : StaysAt s new (Some x.birth) flags v
    stays_so = subst (λ o. StaysAt s new o flags v) born stays

    parks_so : KeepsParking s new (Some x.birth) flags (want.Ask q)
    parks_so = subst (λ o. KeepsParking s new o flags (want.Ask q)) born parks

    stays_at : (j : ℕ) → stand_at b.stands t ≡ Some j → IsOutrun new.versions new.newest → new.execution.place ≡ j
    stays_at j there outrun =
        let waits : WaitsAt s x.birth j = subst (λ o. WaitsFound s o j) x.is (whole.stands j there) in
        stays_so j waits (inr (subst (λ u. IsOutrun s.versions u) newest (subst (λ vs. IsOutrun vs new.newest) same.versions outrun)))

    -- where flags bind it
    kept : (j : ℕ) → IsUnderWay b j → minds_flags b t ≡ true → MayPark new new x.birth flags × Parks new x.birth q flags
    kept j under minds = parks_so flags (λ i there. there) (inl (by_minds (minds_so b t minds)))
      where
        by_minds : (has_any (entries_of t (since_asked b.entries)) ≡ true) ⊎ ((has_none (entries_of t b.entries) ≡ false) × (stand_at b.stands t ≡ None)) → KeepsFrom s x.birth flags
        by_minds (inl any) = subst (HasKeptAway b t s) x.is k.keeps_away j flags under (are.up j under) any (ap has_ended k.entries ∙ live.not_ended)
        by_minds (inr h) = subst (HasPassedNone b t s) x.is whole.passes h.1 (ap has_none k.entries ∙ h.0) (ap has_ended k.entries ∙ live.not_ended) flags

    parks_at : (j : ℕ) → IsUnderWay b j → minds_flags b t ≡ true → (set : List ℕ) × (AreFlagsFor b j set × Parks new x.birth q set)
    parks_at j under any = (flags, (are.up j under, (kept j under any).1))

    keeps_still : HasKeptAway b t new (Some x.birth)
    keeps_still j set under flagged any lives = by_park (kept j under (minds_since b t any)).0
      where
        by_park : MayPark new new x.birth flags → KeepsFrom new x.birth set
        by_park (inl f) = keeps_from b j flags set new x.birth (same.program ∙ k.program) (are.up j under) flagged f
        by_park (inr none) =
            let nothing : entries_of t b.entries ≡ [] = none_there (entries_of t b.entries) (ap has_none (sym (same.entries ∙ k.entries)) ∙ none) in
            absurd (none_since t b.entries nothing any)

    strand : HasStrandPart b t new
    strand = record {
      program = same.program ∙ k.program;
      filters = same.filters ∙ k.filters;
      versions = same.versions ∙ k.versions;
      keeps_away = subst (HasKeptAway b t new) (sym born) keeps_still;
      thread = same.thread ∙ k.thread;
      limit = same.limit ∙ k.limit;
      birth = subst (IsBirthOf (thread_at b.store t)) (sym same.birth) k.birth;
      unborn = λ none. (let no : None ≡ Some x.birth = sym none ∙ born in cc);
      entries = same.entries ∙ k.entries;
    }

-- at a flagged place
pub record IsHalted (b : Book) (t j : ℕ) (new : Strand) : Type 0 where
  pub at : IsAtFlag b t j
  pub runs : (z : ThreadState) × (running_thread (thread_at b.store t) ≡ Some z)
  pub listed : AllByRecursion (λ i. i ≡ j) (listed_places t b.entries)
  pub part : HasStrandPart b t new
  pub waits : WaitsFound new new.birth j

pub ran_to_place : (b : Book) (h : HasLawfulJournal b) (t : ℕ) (birth : Birth) → 1 ≤ t → t ≤ thread_limit → (live : IsLive b t birth) → (s new : Strand) → IsStrandOf b t s → IsStarted s.birth
    → (v : Version) (flags : List ℕ) → v ≡ Control.version (front b).control → AreFlags b flags → IsSameThread s s.birth s.versions s.entries new → (j : ℕ)
    → Wants new new.birth flags (want.Place j) → KeepsParking s new new.birth flags (want.Place j) → StaysAt s new new.birth flags v → IsHalted b t j new
ran_to_place b h t birth first last live s new whole started v flags newest_is are same j wants parks stays = record {
  at = subst (IsAtFlagBy b t j) (sym running) (record { stand = stand; flagged = now; passes = λ free. passes_of j own waits.stands stand (halt.passes (ap ends_blocked (same.entries ∙ k.entries) ∙ free)) });
  runs = (z, running);
  listed = all_at (listed_places t b.entries) refl (h.stands.listed t);
  part = record {
    program = same.program ∙ k.program;
    filters = same.filters ∙ k.filters;
    versions = same.versions ∙ k.versions;
    keeps_away = subst (HasKeptAway b t new) (sym born) keeps_still;
    thread = same.thread ∙ k.thread;
    limit = same.limit ∙ k.limit;
    birth = subst (IsBirthOf (thread_at b.store t)) (sym same.birth) k.birth;
    unborn = λ none. (let no : None ≡ Some x.birth = sym none ∙ born in cc);
    entries = same.entries ∙ k.entries;
  };
  waits = subst (λ o. WaitsFound new o j) (sym born) waits;
}
  where
    k : HasStrandPart b t s
    k = whole.part

    z : ThreadState
    z = live.lives.state

    x : IsAwake b t s live.lives.state
    x = awake b t s live.lives.state live.lives.is k.birth started

    born : new.birth ≡ Some x.birth
    born = same.birth ∙ x.is

    own : IsItsOwn b t new x.birth live.lives.state
    own = its b h t s new live.lives.state k x same

    halt : StandsFlagged new x.birth flags j
    halt = subst (λ o. Wants new o flags (want.Place j)) born wants

    waits : WaitsAt new x.birth j
    waits = halt.waits

    stand : IsStandOf b t live.lives.state j
    stand = stand_of j own waits.stands

    now : IsFlaggedNow b stand.place
    now = flags_up b flags are (under_way b live.no_command) j stand.place stand.number halt.flagged

    begun : z.begun ≡ true
    begun = by_begun z.begun refl
      where
        by_begun : (c : Bool) → z.begun ≡ c → z.begun ≡ true
        by_begun true is = is
        by_begun false is = absurd (live.begins is (flags_nowhere b h now.command now.under_way))

    running : running_thread (thread_at b.store t) ≡ Some z
    running = ap running_thread live.lives.is ∙ runs z begun live.lives.not_ended

    stays_so : StaysAt s new (Some x.birth) flags v
    stays_so = subst (λ o. StaysAt s new o flags v) born stays

    keeps_still : HasKeptAway b t new (Some x.birth)
    keeps_still i set under flagged any lives =
        let old : KeepsFrom s x.birth flags = subst (HasKeptAway b t s) x.is k.keeps_away i flags under (are.up i under) any (ap has_ended k.entries ∙ live.not_ended) in
        keeps_from b i flags set new x.birth (same.program ∙ k.program) (are.up i under) flagged (subst (λ o. KeepsParking s new o flags (want.Place j)) born parks flags (λ m there. there) old)

    -- a version that it is still to take lists the place where it stays
    some_begun : has_none (entries_of t b.entries) ≡ false
    some_begun = not_true (has_none (entries_of t b.entries)) (sym live.begun ∙ begun)

    all_at : (ys : List ℕ) → listed_places t b.entries ≡ ys → AllByRecursion (λ i. found_place b t ≡ Some i) (listed_places t b.entries) → AllByRecursion (λ i. i ≡ j) (listed_places t b.entries)
    all_at [] is found = subst (AllByRecursion (λ i. i ≡ j)) (sym is) tt
    all_at (y ∷ ys) is found =
        let outrun : IsOutrun s.versions v = outrun_listed b h t first last z live.lives.is some_begun y ys is s.versions k.versions v newest_is in
        all_there (λ i. found_place b t ≡ Some i) (λ i. i ≡ j) (listed_places t b.entries)
        (λ i at.
        let there : stand_at b.stands t ≡ Some i = sym (ap (λ (o : Option ThreadState). found_at o (stand_at b.stands t)) running) ∙ at in
        let was : WaitsAt s x.birth i = subst (λ o. WaitsFound s o i) x.is (whole.stands i there) in
        sym (stays_so i was (inr outrun)) ∙ waits.stands.here)
        found

-- Where it asks for something it wasn't found at a flagged place.
pub found_free : (b : Book) (t : ℕ) (s new : Strand) → IsStrandOf b t s → (flags : List ℕ) → AreFlags b flags → IsSameThread s s.birth s.versions s.entries new → (q : Request)
    → HeedsFlags s new new.birth flags (want.Ask q) → (k : ℕ) → IsFoundAtFlag b t k → ⊥
found_free b t s new whole flags are same q heeds k h = by_birth new.birth (subst (λ o. WaitsFound s o k) (sym same.birth) (whole.stands k h.found)) heeds
  where
    by_birth : (o : Option Birth) → WaitsFound s o k → HeedsFlags s new o flags (want.Ask q) → ⊥
    by_birth None waits g = absurd waits
    by_birth (Some x) waits g = flags_down b flags are k h.place h.number (g.0 k waits) h.flagged

-- and waits at none
pub waits_free : (b : Book) (s new : Strand) (flags : List ℕ) → AreFlags b flags → (q : Request) → HeedsFlags s new new.birth flags (want.Ask q) → WaitsFree b new new.birth
waits_free b s new flags are q heeds = by_birth new.birth heeds
  where
    by_birth : (o : Option Birth) → HeedsFlags s new o flags (want.Ask q) → WaitsFree b new o
    by_birth None g = absurd g
    by_birth (Some x) g = λ k place number waits now. flags_down b flags are k place number (g.1 k waits) now

-- Where it halts at a flagged place it stays at the one at which it was found.
pub stays_found : (b : Book) (t : ℕ) (s new : Strand) → IsStrandOf b t s → (flags : List ℕ) → AreFlags b flags → IsSameThread s s.birth s.versions s.entries new → (v : Version) (k : ℕ)
    → Wants new new.birth flags (want.Place k) → StaysAt s new new.birth flags v → StaysFound b t k
stays_found b t s new whole flags are same v k wants stays j h = by_birth new.birth (subst (λ o. WaitsFound s o j) (sym same.birth) (whole.stands j h.found)) wants stays
  where
    flag : has_place flags j ≡ true
    flag = (are.up h.flagged.command h.flagged.under_way j h.place h.number).1 h.flagged.flagged

    by_birth : (o : Option Birth) → WaitsFound s o j → Wants new o flags (want.Place k) → StaysAt s new o flags v → j ≡ k
    by_birth None waits g stay = absurd waits
    by_birth (Some x) waits g stay = sym (stay j waits (inl flag)) ∙ g.waits.stands.here

-- It hasn't ended.
pub ran_out : (b : Book) (t : ℕ) (birth : Birth) → (live : IsLive b t birth) → (s new : Strand) → IsStrandOf b t s → IsStarted s.birth → (flags : List ℕ) → IsSameThread s s.birth s.versions s.entries new
    → Wants new new.birth flags want.Ended → ⊥
ran_out b t birth live s new whole started flags same wants =
    let x = awake b t s live.lives.state live.lives.is whole.part.birth started in
    let over : IsOver new x.birth = subst (λ o. Wants new o flags want.Ended) (same.birth ∙ x.is) wants in
    let lives : has_ended new.entries ≡ false = ap has_ended (same.entries ∙ whole.part.entries) ∙ live.not_ended in
    let no : true ≡ false = sym over.ended ∙ lives in cc
