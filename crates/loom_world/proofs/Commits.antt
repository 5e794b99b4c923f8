-- A turn of a thread: what its entry, or a note of where it stands, leaves of strands.
use Rattle.std.proofs.Common.{ℕ, ◌≤◌, ◌≡◌, inl, inr, ◌==◌, Bool, true, false, not, ◌&&◌, List, [], ◌∷◌, ◌++◌, length, Option, Some, None, refl, sym, ap, ◌∙◌, subst, arith, if◌then◌else◌}
use Rattle.std.proofs.lemmas.Bool.{eq-eqb}
use Rattle.loom_lang.specs.Places.{Place, nowhere, place_at}
use Rattle.loom_trace.specs.Limits.{thread_limit}
use Rattle.loom_trace.specs.declared.entry.Entry.{Entry}
use Rattle.loom_trace.specs.declared.entry.Entry.TheVariants as e
use Rattle.loom_trace.specs.declared.request.Request.{Request}
use Rattle.loom_event.specs.Answer.{asks_begin}
use Rattle.loom_event.specs.Entries.{thread_of, is_thread, thread_entries}
use Rattle.loom_event.specs.Replay.{ThreadState, thread_at}
use Rattle.loom_law.specs.Control.{Control, control, first_control, after_entry, entries_of, versions_of, listed_places, since_asked}
use Rattle.loom_law.specs.Lawful.{Setting, Front, plans, own, running_thread, IsBlockedBy, IsBlocked}
use Rattle.loom_law.specs.Laws.{with_newest}
use Rattle.loom_law.specs.TurnLaws.{is_blocked_entry, blocked_behind, ends_blocked}
use Rattle.loom_law.proofs.Longer.{mine, not_mine, not_taken, newest_taken}
use Rattle.loom_law.proofs.Obedience.{control_after_last}
use Rattle.loom_strand.specs.declared.stage.Birth.{Birth}
use Rattle.loom_strand.specs.Life.{has_none, awaits_end}
use Rattle.loom_strand.specs.Strand.{WaitsAt, Strand, IsSameThread, IsStarted, StandsAt, WaitsOn, IsPlaceOfRequest, IsReplyTo, PassesAnew}
use Rattle.loom_world.specs.declared.choice.Why.{Why}
use Rattle.loom_world.specs.declared.choice.Why.TheVariants as why
use Rattle.loom_world.specs.declared.choice.Choice.TheVariants as c
use Rattle.loom_world.specs.Book.{Book, IsOfSameRun, setting, front, stand_at, IsStandOf, HasLawfulJournal}
use Rattle.loom_world.specs.Idle.{CanTurn, HindersThread, IsFoundAtFlag, IsKeptByFlag, StandsAtFlag, IsAtFlagBy, IsAtFlag}
use Rattle.loom_world.specs.Turned.{StandsAtPlace, NotesBehind, NotesBy, IsNoted, Moves}
use Rattle.loom_world.specs.Flags.{IsFlaggedNow}
use Rattle.loom_world.specs.Asking.{Asks, MakesAnswer}
use Rattle.loom_world.specs.Threads.{IsBirthOf, HasKeptAway, HasPassedNone, WaitsFound, WaitsFree, HasStrandPart, IsStrandOf, RequestsSo, IsBehind, KeepsOthers}
use Rattle.loom_world.proofs.ControlState.{thread_keeps}
use Rattle.loom_world.proofs.OwnVersions.{version_stays}
use Rattle.loom_world.proofs.SinceAsked.{since_other, none_listed}
use Rattle.loom_world.proofs.Replies.{last_in, last_is}
use Rattle.loom_world.proofs.Strands.{entries_few, birth_kept}
use Rattle.loom_world.proofs.StandsBehind.{forgotten_here, forgotten_other, noted_other, noted_here, some_noted, book_noted}
use Rattle.loom_world.proofs.Turning.{its_own, stand_of}
use Rattle.loom_world.proofs.OneStand.{one_stand}

differ : (u t : ℕ) → (u == t) ≡ false → t ≡ u → ⊥
differ u t other same = let yes : (u == t) ≡ true = eq-eqb u t (sym same) in let no : true ≡ false = sym yes ∙ other in cc

turned : (u t : ℕ) → (u == t) ≡ false → (t == u) ≡ false
turned u t other = by_test (t == u) refl
  where
    by_test : (b : Bool) → (t == u) ≡ b → (t == u) ≡ false
    by_test false is = is
    by_test true is = let same : t ≡ u = grind (arith, is) in absurd (differ u t other same)

-- Blocked threads

abbrev is_blocked_option : Option Entry → Bool
is_blocked_option None = false
is_blocked_option (Some x) = is_blocked_entry x

last_blocked : (o : Option Entry) (ys : List Entry) (b : Bool) → is_blocked_option o ≡ b → is_blocked_option (last_in o ys) ≡ blocked_behind b ys
last_blocked o [] b h = h
last_blocked o (y ∷ ys) b h = last_blocked (Some y) ys (is_blocked_entry y) refl

blocked_so : (s : Setting) (f : Front) (t : ℕ) (o : Option Entry) → IsBlockedBy s f t o → is_blocked_option o ≡ true
blocked_so s f t (Some (e.Blocked u l what)) h = refl
blocked_so s f t _ h = absurd h

-- its last entry is `Blocked`
pub blocked_last : (b : Book) (t : ℕ) → IsBlocked (setting b) (front b) t → ends_blocked (entries_of t b.entries) ≡ true
blocked_last b t h =
    sym (last_blocked None (entries_of t b.entries) false refl) ∙ (ap is_blocked_option (sym (last_is t None b.entries)) ∙ blocked_so (setting b) (front b) t _ h)

some_there : (ys : List Entry) → ends_blocked ys ≡ true → has_none ys ≡ false
some_there [] h = cc
some_there (y ∷ ys) h = refl

running_is : (o : Option ThreadState) (z : ThreadState) → running_thread o ≡ Some z → o ≡ Some z
running_is None z h = cc
running_is (Some y) z h = by_test (y.begun && not y.ended) h
  where
    by_test : (b : Bool) → (if b then Some y else None) ≡ Some z → Some y ≡ Some z
    by_test true g = g
    by_test false g = cc

-- where it asks for something it stands
stands_at : (s : Strand) (x : Birth) (b : Bool) → b ≡ false → IsPlaceOfRequest s x b → StandsAt s x s.execution.place
stands_at s x true is h = cc
stands_at s x false is h = h

pub waits_here : (b : Book) (t : ℕ) (s : Strand) (q : Request) → HasStrandPart b t s → RequestsSo s s.birth q → IsBlocked (setting b) (front b) t → WaitsFound s s.birth s.execution.place
waits_here b t s q part requests blocked = by_birth s.birth requests
  where
    ends : ends_blocked s.entries ≡ true
    ends = ap ends_blocked part.entries ∙ blocked_last b t blocked

    by_birth : (o : Option Birth) → RequestsSo s o q → WaitsFound s o s.execution.place
    by_birth None r = absurd r
    by_birth (Some x) r = record { stands = stands_at s x (asks_begin q) (r.begins ∙ some_there s.entries ends) r.place; rests = inr ends }

-- A strand waits where its thread stands.
pub stand_found : (b : Book) → HasLawfulJournal b → (t : ℕ) (s : Strand) (k : ℕ) → HasStrandPart b t s → WaitsFound s s.birth k → (z : ThreadState) → running_thread (thread_at b.store t) ≡ Some z
    → IsStandOf b t z k
stand_found b h t s k part waits z running = by_birth s.birth refl waits part.birth
  where
    there : thread_at b.store t ≡ Some z
    there = running_is (thread_at b.store t) z running

    by_birth : (o : Option Birth) → s.birth ≡ o → WaitsFound s o k → IsBirthOf (thread_at b.store t) o → IsStandOf b t z k
    by_birth None is w birth = absurd w
    by_birth (Some x) is w birth =
        let both = subst (λ y. IsBirthOf y (Some x)) there birth in
        stand_of k (its_own b h.plans t s x z part.program part.filters part.thread both.0 both.1 part.versions part.entries) w.stands

pub stands_there : (b : Book) → HasLawfulJournal b → (t : ℕ) (s : Strand) (k : ℕ) → HasStrandPart b t s → WaitsFound s s.birth k → StandsAtPlace b t k
stands_there b h t s k part waits = by_birth s.birth waits part.birth
  where
    by_state : (x : Birth) (o : Option ThreadState) → thread_at b.store t ≡ o → IsBirthOf o (Some x) → WaitsFound s (Some x) k → StandsAtPlace b t k
    by_state x None is birth w = absurd birth
    by_state x (Some z) is birth w =
        record { state = z; there = is; stand = stand_of k (its_own b h.plans t s x z part.program part.filters part.thread birth.0 birth.1 part.versions part.entries) w.stands }

    by_birth : (o : Option Birth) → WaitsFound s o k → IsBirthOf (thread_at b.store t) o → StandsAtPlace b t k
    by_birth None w birth = absurd w
    by_birth (Some x) w birth = by_state x (thread_at b.store t) refl birth w

-- A thread that asks for something lives, and where it made an entry it runs.
pub asking_runs : (b : Book) (t : ℕ) (q : Request) → (asks : Asks b t q) → asks.state.begun ≡ true → running_thread (thread_at b.store t) ≡ Some asks.state
asking_runs b t q asks is =
    ap running_thread asks.there ∙ (ap (λ (d : Bool). if d && not asks.state.ended then Some asks.state else None) is ∙ ap (λ (d : Bool). if not d then Some asks.state else None) asks.lives)

-- Where it is blocked, and its strand waits at no flagged place, it is at none.
pub blocked_away : (b : Book) → HasLawfulJournal b → (t : ℕ) (s : Strand) (q : Request) → HasStrandPart b t s → Asks b t q → IsBlocked (setting b) (front b) t → WaitsFound s s.birth s.execution.place → WaitsFree b s s.birth
    → (k : ℕ) → IsAtFlag b t k → ⊥
blocked_away b h t s q part asks blocked waits free k at = by_birth s.birth waits free
  where
    told : ends_blocked (entries_of t b.entries) ≡ true
    told = blocked_last b t blocked

    begun : asks.state.begun ≡ true
    begun = asks.begun ∙ ap not (asks.begins ∙ some_there (entries_of t b.entries) told)

    runs : running_thread (thread_at b.store t) ≡ Some asks.state
    runs = asking_runs b t q asks begun

    flag : StandsAtFlag b t k asks.state
    flag = subst (IsAtFlagBy b t k) runs at

    stand : IsStandOf b t asks.state s.execution.place
    stand = stand_found b h t s s.execution.place part waits asks.state runs

    same : stand.place ≡ flag.stand.place
    same = one_stand b.program (plans (setting b)) (own (setting b) b.entries t asks.state) stand.place flag.stand.place told stand.comes flag.stand.comes

    by_birth : (o : Option Birth) → WaitsFound s o s.execution.place → WaitsFree b s o → ⊥
    by_birth None w f = absurd w
    by_birth (Some x) w f = f s.execution.place stand.place stand.number w (subst (IsFlaggedNow b) (sym same) flag.flagged)

-- A note of where it stands

-- with a note it stands where it stood
pub stands_still : (b new : Book) (t j k : ℕ) → IsNoted b t j new → StandsAtPlace b t k → StandsAtPlace new t k
stands_still b new t j k is h =
    subst (λ (y : Book). StandsAtPlace y t k) (sym is)
    (record { state = h.state; there = h.there; stand = record { place = h.stand.place; number = h.stand.number; comes = h.stand.comes } })

kept_noted : (b : Book) (t j : ℕ) (s : Strand) (o : Option Birth) (k : ℕ) → HasKeptAway b t s o → HasKeptAway (book_noted b j k) t s o
kept_noted b t j s None k h = tt
kept_noted b t j s (Some x) k h = λ i set under flags any lives. h i set (record { asked = under.asked; not_refused = under.not_refused }) flags any lives

part_noted : (b : Book) (t k : ℕ) (s : Strand) → HasStrandPart b t s → HasStrandPart (book_noted b t k) t s
part_noted b t k s h = record {
  program = h.program;
  filters = h.filters;
  versions = h.versions;
  keeps_away = kept_noted b t t s s.birth k h.keeps_away;
  thread = h.thread;
  limit = h.limit;
  birth = h.birth;
  unborn = h.unborn;
  entries = h.entries;
}

flagged_before : (b : Book) (t k : ℕ) (y : Place) → IsFlaggedNow (book_noted b t k) y → IsFlaggedNow b y
flagged_before b t k y f = record { command = f.command; under_way = record { asked = f.under_way.asked; not_refused = f.under_way.not_refused }; flagged = f.flagged }

pub strand_noted : (b new : Book) (t k : ℕ) (s : Strand) → 1 ≤ t → t ≤ thread_limit → HasLawfulJournal b → IsNoted b t k new → HasStrandPart b t s → WaitsFound s s.birth k → IsStrandOf new t s
strand_noted b new t k s first last h is part waits =
    subst (λ (y : Book). IsStrandOf y t s) (sym is)
    (record {
      part = part_noted b t k s part;
      stands = λ j there. subst (λ i. WaitsFound s s.birth i) (noted_here b.stands t k j first there) waits;
      passes = passed_noted s.birth;
    })
  where
    passed_noted : (o : Option Birth) → HasPassedNone (book_noted b t k) t s o
    passed_noted None = tt
    passed_noted (Some x) = λ note some lives places. absurd (some_noted b.stands t k first (omega (arith, last, h.stands.count)) note)

-- and that place isn't flagged
pub noted_free : (b new : Book) (t k : ℕ) (s : Strand) → 1 ≤ t → IsNoted b t k new → b.program ≡ s.program → WaitsFound s s.birth k → WaitsFree b s s.birth → (j : ℕ) → IsFoundAtFlag new t j → ⊥
noted_free b new t k s first is same waits free j h = by_birth s.birth waits free
  where
    here : k ≡ j
    here = noted_here b.stands t k j first (ap (λ (y : Book). stand_at y.stands t) (sym is) ∙ h.found)

    number : place_at b.program j ≡ Some h.place
    number = ap (λ (y : Book). place_at y.program j) (sym is) ∙ h.number

    now : IsFlaggedNow b h.place
    now = flagged_before b t k h.place (subst (λ (y : Book). IsFlaggedNow y h.place) is h.flagged)

    by_birth : (o : Option Birth) → WaitsFound s o k → WaitsFree b s o → ⊥
    by_birth None w f = absurd w
    by_birth (Some x) w f = f j h.place number (subst (WaitsAt s x) here w) now

pub others_noted : (b new : Book) (t k : ℕ) → IsNoted b t k new → KeepsOthers b t new
others_noted b new t k is =
    subst (λ (y : Book). KeepsOthers b t y) (sym is)
    (record {
      stands = λ u other. noted_other b.stands t u k (differ u t other);
      entries = λ u other. refl;
      since = λ u other. refl;
      versions = λ u other. refl;
      asked = refl;
      version = refl;
    })

pub stands_elsewhere : (b new : Book) (t k : ℕ) → IsNoted b t k new → (u : ℕ) → (u == t) ≡ false → stand_at new.stands u ≡ stand_at b.stands u
stands_elsewhere b new t k is = KeepsOthers.stands (others_noted b new t k is)

-- An entry

pub behind_so : (b new : Book) (t : ℕ) (s : Strand) (q : Request) (x : Entry) → HasStrandPart b t s → RequestsSo s s.birth q → s.newest ≡ Control.version (front b).control → MakesAnswer b t q x new
    → HasLawfulJournal new → IsBehind new t s x
behind_so b new t s q x part requests newest made lawful = record {
  program = part.program ∙ sym made.run.program;
  filters = part.filters ∙ sym made.run.filters;
  thread = part.thread;
  limit = part.limit ∙ sym made.run.limit;
  started = started s.birth requests;
  birth = birth_kept (thread_at b.store t) (thread_at new.store t) s.birth (made.threads t) part.birth;
  answers = subst (λ o. IsReplyTo (ends_blocked s.entries) (awaits_end s.entries) s.thread o x) (sym (wants s.birth requests))
      (subst (λ n. IsReplyTo (ends_blocked s.entries) (awaits_end s.entries) n (Some q) x) (sym part.thread)
      (subst (λ es. IsReplyTo (ends_blocked es) (awaits_end es) t (Some q) x) (sym part.entries) made.replies));
  room = (
      let few : length (entries_of t b.entries) ≤ thread_entries b.entries = entries_few t b.entries in
      let same : length s.entries ≡ length (entries_of t b.entries) = ap length part.entries in
      omega (arith, few, same, part.limit, made.few));
  versions = subst (λ cs. with_newest x s.newest s.versions ≡ versions_of cs t new.entries) (sym made.run.commands)
      (ap (λ v. with_newest x v s.versions) newest ∙ (ap (λ vs. with_newest x (Control.version (front b).control) vs) part.versions
      ∙ (sym (newest_taken b.commands t x b.entries its) ∙ ap (versions_of b.commands t) (sym made.appended))));
  entries = ap (λ es. es ++ x ∷ []) part.entries ∙ (sym (mine t x b.entries its) ∙ ap (entries_of t) (sym made.appended));
  forgotten = ap (λ ys. stand_at ys t) made.noted ∙ forgotten_here b.stands t;
  unlisted = ap (listed_places t) made.appended ∙ none_listed b.entries x t t made.thread (eq-eqb t t refl);
  lawful = lawful;
}
  where
    its : is_thread t (thread_of x) ≡ true
    its = ap (is_thread t) made.thread ∙ eq-eqb t t refl

    started : (o : Option Birth) → RequestsSo s o q → IsStarted o
    started None r = absurd r
    started (Some y) r = tt

    wants : (o : Option Birth) → RequestsSo s o q → s.want ≡ Some q
    wants None r = absurd r
    wants (Some y) r = r.want

pub took_part : (b : Book) (t : ℕ) (s new : Strand) (x : Entry) → IsBehind b t s x → IsSameThread s s.birth (with_newest x s.newest s.versions) (s.entries ++ x ∷ []) new → PassesAnew new new.birth
    → HasStrandPart b t new
took_part b t s new x h same passes = record {
  program = same.program ∙ h.program;
  filters = same.filters ∙ h.filters;
  versions = same.versions ∙ h.versions;
  keeps_away = anew new.birth passes;
  thread = same.thread ∙ h.thread;
  limit = same.limit ∙ h.limit;
  birth = subst (IsBirthOf (thread_at b.store t)) (sym same.birth) h.birth;
  unborn = λ none. absurd (subst IsStarted (sym same.birth ∙ none) h.started);
  entries = same.entries ∙ h.entries;
}
  where
    anew : (o : Option Birth) → PassesAnew new o → HasKeptAway b t new o
    anew None p = absurd p
    anew (Some y) p = λ k set under flags any lives. p lives set

-- Behind its entry nothing is noted of it, unless it is blocked.
pub took_strand : (b : Book) (t : ℕ) (s new : Strand) (x : Entry) → IsBehind b t s x → IsSameThread s s.birth (with_newest x s.newest s.versions) (s.entries ++ x ∷ []) new → PassesAnew new new.birth
    → IsStrandOf b t new
took_strand b t s new x h same passes = record {
  part = took_part b t s new x h same passes;
  stands = λ k there. let no : None ≡ Some k = sym h.forgotten ∙ there in cc;
  passes = anew new.birth passes;
}
  where
    anew : (o : Option Birth) → PassesAnew new o → HasPassedNone b t new o
    anew None p = absurd p
    anew (Some y) p = λ note some lives places. p lives places

pub waits_on : (s new : Strand) (o : Option Birth) → WaitsOn s new o → WaitsFound new o new.execution.place
waits_on s new None h = absurd h
waits_on s new (Some y) h = h.1

-- The others

pub others_made : (b mid new : Book) (t : ℕ) (q : Request) (x : Entry) → MakesAnswer b t q x mid → IsOfSameRun mid new → new.entries ≡ mid.entries
    → ((u : ℕ) → (u == t) ≡ false → stand_at new.stands u ≡ stand_at mid.stands u) → KeepsOthers b t new
others_made b mid new t q x made run entries stands = record {
  stands = λ u other. stands u other ∙ (ap (λ ys. stand_at ys u) made.noted ∙ forgotten_other b.stands t u (differ u t other));
  entries = λ u other. ap (entries_of u) appended ∙ not_mine u x b.entries (not_its u other);
  since = λ u other. ap (λ es. entries_of u (since_asked es)) appended ∙ since_other b.entries x t u made.thread (turned u t other);
  versions = λ u other. subst (λ cs. versions_of cs u new.entries ≡ versions_of b.commands u b.entries) (sym commands)
      (ap (versions_of b.commands u) appended ∙ not_taken b.commands u x b.entries (not_its u other));
  asked = ap Control.asked controlled ∙ (thread_keeps b.commands (control b.commands b.entries) x t made.thread).1.0;
  version = ap Control.version controlled ∙ version_stays b.commands (control b.commands b.entries) x t made.thread;
}
  where
    commands : new.commands ≡ b.commands
    commands = run.commands ∙ made.run.commands

    appended : new.entries ≡ b.entries ++ x ∷ []
    appended = entries ∙ made.appended

    not_its : (u : ℕ) → (u == t) ≡ false → is_thread u (thread_of x) ≡ false
    not_its u other = ap (is_thread u) made.thread ∙ turned u t other

    controlled : (front new).control ≡ after_entry b.commands (control b.commands b.entries) x
    controlled = ap (λ cs. control cs new.entries) commands ∙ (ap (control b.commands) appended ∙ control_after_last b.commands first_control b.entries x)

-- A turn that makes an entry: nothing kept the thread from it.
pub moved_so : (b mid new : Book) (t : ℕ) (q : Request) (x : Entry) → CanTurn b t → Asks b t q → ((k : ℕ) → IsFoundAtFlag b t k → ⊥) → MakesAnswer b t q x mid → new.entries ≡ mid.entries
    → NotesBehind mid.stands t (is_blocked_entry x) new → Moves b (c.Thread t) new × ((w : Why) → HindersThread b t w → ⊥)
moved_so b mid new t q x turns asks unflagged made entries notes =
    (record { makes = record { entry = x; one = entries ∙ made.appended; maker = made.thread }; next = tt; notes = noted_so; unflagged = made.unflagged }, hindered)
  where
    noted_so : NotesBy b (thread_of x) (is_blocked_entry x) new
    noted_so = subst (λ o. NotesBy b o (is_blocked_entry x) new) (sym made.thread) (subst (λ ys. NotesBehind ys t (is_blocked_entry x) new) made.noted notes)

    hindered : (w : Why) → HindersThread b t w → ⊥
    hindered why.Over h = turns.goes_on h
    hindered why.Ended h = let same : h.1.state ≡ asks.state = cc (h.1.is, asks.there) in let yes : asks.state.ended ≡ true = subst (λ (z : ThreadState). z.ended ≡ true) same h.1.ended in let no : true ≡ false = sym yes ∙ asks.lives in cc
    hindered why.Unborn h = let no : None ≡ Some asks.state = sym h.1 ∙ asks.there in cc
    hindered why.Due h = turns.no_command h.1.1
    hindered (why.Flagged k) h = by_flag h.1
      where
        by_begun : (running_thread (thread_at b.store t) ≡ None) × IsFlaggedNow b nowhere → (d : Bool) → asks.state.begun ≡ d → ⊥
        by_begun g false is = asks.unflagged (begins (asks_begin q) (sym asks.begun ∙ is)) g.1
          where
            begins : (d : Bool) → not d ≡ false → d ≡ true
            begins true g = refl
            begins false g = cc
        by_begun g true is =
            let runs : running_thread (thread_at b.store t) ≡ Some asks.state = asking_runs b t q asks is in
            let no : None ≡ Some asks.state = sym g.0 ∙ runs in cc

        by_flag : IsKeptByFlag b t k → ⊥
        by_flag (inl g) = by_begun g asks.state.begun refl
        by_flag (inr g) = unflagged k g
    hindered why.Blocked h = made.free h.1
    hindered why.Nothing h = h
