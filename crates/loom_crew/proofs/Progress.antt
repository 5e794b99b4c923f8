-- Two rounds of a run that isn't finished make an entry.
use Rattle.std.proofs.Common.{ℕ, zero, suc, ◌+◌, ◌<◌, ◌≤◌, ◌≡◌, ◌==◌, ◌⊎◌, inl, inr, Bool, true, false, not, ◌&&◌, List, [], ◌∷◌, ◌++◌, length, length-append, slice_get, Option, Some, None, refl, sym, ap, ◌∙◌, subst, arith, if◌then◌else◌}
use Rattle.std.specs.Prelude.{slice_set}
use Rattle.std.specs.Option.{option_flatten}
use Rattle.std.proofs.lemmas.Option.{slice_get_within}
use Rattle.loom_lang.specs.Places.{Place, nowhere, place_at, line_of_place}
use Rattle.loom_trace.specs.Limits.{thread_limit}
use Rattle.loom_trace.specs.declared.entry.Entry.{Entry}
use Rattle.loom_trace.specs.declared.entry.Entry.TheVariants as e
use Rattle.loom_trace.specs.declared.entry.Ending.TheVariants as k
use Rattle.loom_event.specs.Entries.{thread_entries}
use Rattle.loom_event.specs.Replay.{ThreadState, Store, thread_at, HasEnded, AllEnded}
use Rattle.loom_law.specs.Filter.{Plan}
use Rattle.loom_law.specs.Walk.{Version}
use Rattle.loom_law.specs.Control.{Command, Control, install, remove, means, command_at}
use Rattle.loom_law.specs.Lawful.{running_thread, run_is_over, Lives, IsBlocked, refusal, IsFlagged}
use Rattle.loom_law.proofs.Earlier.{same_number}
use Rattle.loom_world.specs.declared.choice.Choice.{Choice}
use Rattle.loom_world.specs.declared.choice.Choice.TheVariants as c
use Rattle.loom_world.specs.declared.choice.Why.{Why}
use Rattle.loom_world.specs.declared.choice.Why.TheVariants as why
use Rattle.loom_world.specs.declared.choice.Turned.{Turned}
use Rattle.loom_world.specs.declared.choice.Turned.TheVariants as r
use Rattle.loom_world.specs.Book.{Book, setting, front, stand_at, found_at, found_place, HasLawfulJournal}
use Rattle.loom_world.specs.Flags.{IsFlaggedNow}
use Rattle.loom_world.specs.Answers.{IsFoundFlagged, IsFoundUnflagged, row_number, AreFound, IsFoundStalled}
use Rattle.loom_world.specs.Idle.{HasFinish, IsClosed, CommandGoesFirst, IsAtFlagBy, IsIdle, IsIdleThread, IsIdleControl}
use Rattle.loom_world.specs.Turned.{noted, NotesStand, Leaves, Turns}
use Rattle.loom_world.specs.World.{Lead}
use Rattle.loom_world.proofs.Counts.{not_equal}
use Rattle.loom_world.proofs.StandsBehind.{noted_other}
use Rattle.loom_world.proofs.Ends.{over_is, not_yes, ends_at_limit, ends_done, ends_stuck}
use Rattle.loom_world.proofs.ControlTurns.{NoneStands, asked_there, not_first, not_refused, not_cut, not_due, not_over}
use Rattle.loom_world.proofs.Switches.{accepted, nowhere_flagged, may_install, may_remove, may_stall}
use Rattle.loom_world.proofs.FewThreads.{few_spawned}
use Rattle.loom_crew.specs.Round.{threads_from, round, two_rounds, HasProgress}

-- Books that differ in where threads were found alone

abbrev with_stands : Book → List (Option ℕ) → Book
with_stands b xs = record b { stands = xs }

abbrev IsSameBut : Book → Book → Type 0
IsSameBut a b = (xs : List (Option ℕ)) × (b ≡ with_stands a xs)

same_on : (a b d : Book) → IsSameBut a b → IsSameBut b d → IsSameBut a d
same_on a b d h g = (g.0, g.1 ∙ ap (λ z. with_stands z g.0) h.1)

-- back again
same_back : (a b : Book) → IsSameBut a b → a ≡ with_stands b a.stands
same_back a b h = ap (λ z. with_stands z a.stands) (sym h.1)

noted_same : (a : Book) (t k : ℕ) (o : Option ThreadState) (b : Book) → NotesStand a t k o b → IsSameBut a b
noted_same a t k None b l = (a.stands, l)
noted_same a t k (Some x) b l = (noted a.stands t k, l)

leaves_same : (a : Book) (h : Choice) (w : Why) (b : Book) → Leaves a h w b → IsSameBut a b
leaves_same a (c.Thread t) (why.Flagged k) b l = noted_same a t k (running_thread (thread_at a.store t)) b l
leaves_same a (c.Thread t) why.Over b l = (a.stands, l)
leaves_same a (c.Thread t) why.Ended b l = (a.stands, l)
leaves_same a (c.Thread t) why.Unborn b l = (a.stands, l)
leaves_same a (c.Thread t) why.Due b l = (a.stands, l)
leaves_same a (c.Thread t) why.Blocked b l = (noted a.stands t l.number, l.noted)
leaves_same a (c.Thread t) why.Nothing b l = (a.stands, l)
leaves_same a c.Control why.Over b l = (a.stands, l)
leaves_same a c.Control why.Ended b l = (a.stands, l)
leaves_same a c.Control why.Unborn b l = (a.stands, l)
leaves_same a c.Control why.Due b l = (a.stands, l)
leaves_same a c.Control (why.Flagged k) b l = (a.stands, l)
leaves_same a c.Control why.Blocked b l = (a.stands, l)
leaves_same a c.Control why.Nothing b l = (a.stands, l)

same_length : (a b : Book) → IsSameBut a b → length b.entries ≡ length a.entries
same_length a b h = ap (λ (z : Book). length z.entries) h.1

-- Turns

turn_longer : (old new : Book) (h : Choice) (t : Turned) → Turns old h new t → length old.entries ≤ length new.entries
turn_longer old new h r.Moved turns =
    let more : length new.entries ≡ length old.entries + 1 = ap (λ (zs : List Entry). length zs) turns.0.makes.one ∙ length-append old.entries (turns.0.makes.entry ∷ []) in
    omega (arith, more)
turn_longer old new h (r.Idle w) turns = let same = same_length old new (leaves_same old h w new turns.1) in omega (arith, same)

lead_longer : (old new : Book) (hs : List Choice) → Lead old hs new → length old.entries ≤ length new.entries
lead_longer old new [] lead = let same : length new.entries ≡ length old.entries = ap (λ (b : Book). length b.entries) lead in omega (arith, same)
lead_longer old new (h ∷ hs) lead =
    let one = turn_longer old lead.0 h lead.1.told lead.1.turns in
    let others = lead_longer lead.0 new hs lead.2 in
    omega (arith, one, others)

-- each of these turns makes no entry, and they lead from the one book to the other
abbrev AreIdle : Book → List Choice → Book → Type 0
AreIdle a [] b = b ≡ a
AreIdle a (h ∷ hs) b = (next : Book) × (((w : Why) × (IsIdle a h w × Leaves a h w next)) × (HasLawfulJournal next × AreIdle next hs b))

one_moves : (old new : Book) (h : Choice) (hs : List Choice) (next : Book) (t : Turned) → Turns old h next t → HasLawfulJournal next → Lead next hs new
    → (length next.entries < length new.entries) ⊎ AreIdle next hs new → (length old.entries < length new.entries) ⊎ AreIdle old (h ∷ hs) new
one_moves old new h hs next r.Moved turns lawful lead rest =
    let more : length next.entries ≡ length old.entries + 1 = ap (λ (zs : List Entry). length zs) turns.0.makes.one ∙ length-append old.entries (turns.0.makes.entry ∷ []) in
    let later = lead_longer next new hs lead in
    inl (omega (arith, more, later))
one_moves old new h hs next (r.Idle w) turns lawful lead (inl more) = let same = same_length old next (leaves_same old h w next turns.1) in inl (omega (arith, same, more))
one_moves old new h hs next (r.Idle w) turns lawful lead (inr idle) = inr (next, ((w, (turns.0, turns.1)), (lawful, idle)))

-- Some of the turns makes an entry, or each is idle.
moves : (old new : Book) (hs : List Choice) → Lead old hs new → (length old.entries < length new.entries) ⊎ AreIdle old hs new
moves old new [] lead = inr lead
moves old new (h ∷ hs) lead = one_moves old new h hs lead.0 lead.1.told lead.1.turns lead.1.lawful lead.2 (moves lead.0 new hs lead.2)

split : (a b : Book) (xs ys : List Choice) → AreIdle a (xs ++ ys) b → (m : Book) × (AreIdle a xs m × AreIdle m ys b)
split a b [] ys idle = (a, (refl, idle))
split a b (x ∷ xs) ys idle = let rest = split idle.0 b xs ys idle.1.1.1 in (rest.0, ((idle.0, (idle.1.0, (idle.1.1.0, rest.1.0))), rest.1.1))

idle_same : (a b : Book) (hs : List Choice) → AreIdle a hs b → IsSameBut a b
idle_same a b [] idle = (a.stands, idle)
idle_same a b (h ∷ hs) idle = same_on a idle.0 b (leaves_same a h idle.1.0.0 idle.0 idle.1.0.1.1) (idle_same idle.0 b hs idle.1.1.1)

-- What is noted of a thread

set_there : (xs : List (Option ℕ)) (i : ℕ) (x : ℕ) → i < length xs → slice_get (slice_set xs i (Some x)) i ≡ Some (Some x)
set_there [] i x h = let less : i < 0 = h in let no : ⊥ = omega (arith, less) in absurd no
set_there (y ∷ xs) zero x h = refl
set_there (y ∷ xs) (suc i) x h = let less : suc i < suc (length xs) = h in set_there xs i x (omega (arith, less))

noted_here : (xs : List (Option ℕ)) (i : ℕ) (x : ℕ) → i < length xs → stand_at (noted xs (suc i) x) (suc i) ≡ Some x
noted_here xs i x h = ap option_flatten (set_there xs i x h)

note_other : (a : Book) (t u : ℕ) (w : Why) (b : Book) → Leaves a (c.Thread t) w b → (t ≡ u → ⊥) → stand_at b.stands u ≡ stand_at a.stands u
note_other a t u (why.Flagged k) b l ne = by_state (running_thread (thread_at a.store t)) l
  where
    by_state : (o : Option ThreadState) → NotesStand a t k o b → stand_at b.stands u ≡ stand_at a.stands u
    by_state None g = ap (λ (z : Book). stand_at z.stands u) g
    by_state (Some x) g = ap (λ (z : Book). stand_at z.stands u) g ∙ noted_other a.stands t u k ne
note_other a t u why.Over b l ne = ap (λ (z : Book). stand_at z.stands u) l
note_other a t u why.Ended b l ne = ap (λ (z : Book). stand_at z.stands u) l
note_other a t u why.Unborn b l ne = ap (λ (z : Book). stand_at z.stands u) l
note_other a t u why.Due b l ne = ap (λ (z : Book). stand_at z.stands u) l
note_other a t u why.Blocked b l ne = ap (λ (z : Book). stand_at z.stands u) l.noted ∙ noted_other a.stands t u l.number ne
note_other a t u why.Nothing b l ne = ap (λ (z : Book). stand_at z.stands u) l

notes_later : (a b : Book) (n t : ℕ) → AreIdle a (threads_from t n) b → (u : ℕ) → u < t → stand_at b.stands u ≡ stand_at a.stands u
notes_later a b zero t idle u less = ap (λ (z : Book). stand_at z.stands u) idle
notes_later a b (suc n) t idle u less =
    notes_later idle.0 b n (suc t) idle.1.1.1 u (omega (arith, less))
    ∙ note_other a t u idle.1.0.0 idle.0 idle.1.0.1.1 (λ same. let no : ⊥ = omega (arith, less, same) in no)

-- Thread u had an idle turn in a round that left no more than notes, up to this book.
record WasIdle (m : Book) (u : ℕ) : Type 0 where
  before : Book
  lawful : HasLawfulJournal before
  behind : Book
  reason : Why
  idle : IsIdleThread before u reason
  leaves : Leaves before (c.Thread u) reason behind
  same : IsSameBut behind m
  note : stand_at m.stands u ≡ stand_at behind.stands u

was_idle : (a m : Book) → HasLawfulJournal a → (n t : ℕ) → AreIdle a (threads_from t n) m → (u : ℕ) → t ≤ u → u < t + n → WasIdle m u
was_idle a m law zero t idle u first last = absurd (let no : ⊥ = omega (arith, first, last) in no)
was_idle a m law (suc n) t idle u first last =
    by_number (t == u) refl (λ other. was_idle idle.0 m idle.1.1.0 n (suc t) idle.1.1.1 u (omega (arith, first, other)) (omega (arith, last)))
  where
    by_number : (h : Bool) → (t == u) ≡ h → ((t ≡ u → ⊥) → WasIdle m u) → WasIdle m u
    by_number true is later = subst (WasIdle m) (same_number t u is) (record {
      before = a;
      lawful = law;
      behind = idle.0;
      reason = idle.1.0.0;
      idle = idle.1.0.1.0;
      leaves = idle.1.0.1.1;
      same = idle_same idle.0 m (threads_from (suc t) n) idle.1.1.1;
      note = notes_later idle.0 m n (suc t) idle.1.1.1 t (omega arith);
    })
    by_number false is later = later (not_equal t u is)

-- Thread u, which lives, was found somewhere: at a place that is flagged now, or it is blocked.
record IsHalted (m : Book) (u : ℕ) : Type 0 where
  number : ℕ
  found : found_place m u ≡ Some number
  place : Place
  is : place_at m.program number ≡ Some place
  halts : IsFlaggedNow m place ⊎ IsBlocked (setting m) (front m) u

-- Each thread has ended, or one lives.

abbrev HaveEnded : List ThreadState → Type 0
HaveEnded xs = (i : ℕ) (x : ThreadState) → slice_get xs i ≡ Some x → x.ended ≡ true

abbrev HasLive : List ThreadState → Type 0
HasLive xs = (i : ℕ) × ((x : ThreadState) × ((slice_get xs i ≡ Some x) × (x.ended ≡ false)))

ended_more : (y : ThreadState) (xs : List ThreadState) → y.ended ≡ true → HaveEnded xs → (i : ℕ) (x : ThreadState) → slice_get (y ∷ xs) i ≡ Some x → x.ended ≡ true
ended_more y xs here others zero x is = let same : y ≡ x = cc in ap (λ (o : ThreadState). o.ended) (sym same) ∙ here
ended_more y xs here others (suc i) x is = others i x is

first_lives : (y : ThreadState) (xs : List ThreadState) (h : Bool) → y.ended ≡ h → HaveEnded xs ⊎ HasLive xs → HaveEnded (y ∷ xs) ⊎ HasLive (y ∷ xs)
first_lives y xs false here others = inr (0, (y, (refl, here)))
first_lives y xs true here (inl ended) = inl (ended_more y xs here ended)
first_lives y xs true here (inr found) = inr (suc found.0, found.1)

one_lives : (xs : List ThreadState) → HaveEnded xs ⊎ HasLive xs
one_lives [] = inl (λ i x is. cc)
one_lives (y ∷ xs) = first_lives y xs y.ended refl (one_lives xs)

lives_or_ended : (s : Store) → AllEnded s ⊎ ((t : ℕ) × Lives s t)
lives_or_ended s = by_list (one_lives s.spawned)
  where
    all_ended : HaveEnded s.spawned → (t : ℕ) (x : ThreadState) → thread_at s t ≡ Some x → x.ended ≡ true
    all_ended h zero x is = cc
    all_ended h (suc i) x is = h i x is

    by_list : HaveEnded s.spawned ⊎ HasLive s.spawned → AllEnded s ⊎ ((t : ℕ) × Lives s t)
    by_list (inl h) = inl (all_ended h)
    by_list (inr h) = inr (suc h.0, record { state = h.1.0; is = h.1.1.0; not_ended = h.1.1.1 })

live_number : (b : Book) → HasLawfulJournal b → (t : ℕ) → Lives b.store t → (1 ≤ t) × (t < 1 + thread_limit)
live_number b h zero lives = cc (lives.is)
live_number b h (suc i) lives =
    let there : i < length b.store.spawned = slice_get_within b.store.spawned i lives.state lives.is in
    let few = few_spawned b h in
    (omega arith, omega (arith, there, few))

-- Idle threads

-- the number of a place at which a thread was found is one of the program
place_there : (m : Book) → HasLawfulJournal m → (u n : ℕ) → found_place m u ≡ Some n → (y : Place) × (place_at m.program n ≡ Some y)
place_there m h u n found = by_state (running_thread (thread_at m.store u)) refl
  where
    by_note : (x : ThreadState) (o : Option ℕ) → running_thread (thread_at m.store u) ≡ Some x → stand_at m.stands u ≡ o → found_at (Some x) o ≡ Some n
        → (y : Place) × (place_at m.program n ≡ Some y)
    by_note x None runs note g = cc
    by_note x (Some s) runs note g =
        let there = h.stands.each u x s runs note in
        let same : s ≡ n = cc in
        (there.place, subst (λ z. place_at m.program z ≡ Some there.place) same there.number)

    by_state : (o : Option ThreadState) → running_thread (thread_at m.store u) ≡ o → (y : Place) × (place_at m.program n ≡ Some y)
    by_state None rests =
        let none : Some 0 ≡ Some n = sym (ap (λ (o : Option ThreadState). found_at o (stand_at m.stands u)) rests) ∙ found in
        let zero_so : 0 ≡ n = cc in
        (nowhere, subst (λ z. place_at m.program z ≡ Some nowhere) zero_so refl)
    by_state (Some x) runs =
        by_note x (stand_at m.stands u) runs refl (sym (ap (λ (o : Option ThreadState). found_at o (stand_at m.stands u)) runs) ∙ found)

-- what is flagged, and what goes first, whatever is noted
flagged_same : (m : Book) (xs : List (Option ℕ)) (y : Place) → IsFlaggedNow (with_stands m xs) y → IsFlaggedNow m y
flagged_same m xs y f = record { command = f.command; under_way = record { asked = f.under_way.asked; not_refused = f.under_way.not_refused }; flagged = f.flagged }

first_same : (m : Book) (xs : List (Option ℕ)) → CommandGoesFirst (with_stands m xs) → CommandGoesFirst m
first_same m xs (inl due) = inl due
first_same m xs (inr vain) = inr (record { command = vain.command; asked = vain.asked; refused = vain.refused })

-- found at a flagged place in its turn, and so still
halted_at_flag : (m : Book) → HasLawfulJournal m → (u k : ℕ) (w : WasIdle m u) → w.before ≡ with_stands m w.before.stands → (o : Option ThreadState)
    → running_thread (thread_at m.store u) ≡ o → IsAtFlagBy w.before u k o → NotesStand w.before u k o w.behind → 1 ≤ u → u ≤ thread_limit → IsHalted m u
halted_at_flag m h u k w back None rests at notes first last = record {
  number = 0;
  found = ap (λ (o : Option ThreadState). found_at o (stand_at m.stands u)) rests;
  place = nowhere;
  is = refl;
  halts = inl (flagged_same m w.before.stands nowhere (subst (λ (z : Book). IsFlaggedNow z nowhere) back at.1));
}
halted_at_flag m h zero k w back (Some x) runs at notes first last = absurd (let no : ⊥ = omega (arith, first) in no)
halted_at_flag m h (suc i) k w back (Some x) runs at notes first last =
    let within : i < length w.before.stands = omega (arith, last, w.lawful.stands.count) in
    let here : stand_at m.stands (suc i) ≡ Some k =
    w.note ∙ (ap (λ (z : Book). stand_at z.stands (suc i)) notes ∙ noted_here w.before.stands i k within) in
    record {
      number = k;
      found = ap (λ (o : Option ThreadState). found_at o (stand_at m.stands (suc i))) runs ∙ ap (found_at (Some x)) here;
      place = at.stand.place;
      is = subst (λ (z : Book). place_at z.program k ≡ Some at.stand.place) back at.stand.number;
      halts = inl (flagged_same m w.before.stands at.stand.place (subst (λ (z : Book). IsFlaggedNow z at.stand.place) back at.flagged));
    }

-- blocked in its turn, which notes where it stands, and so still
halted_where_blocked : (m : Book) → HasLawfulJournal m → (u : ℕ) (w : WasIdle m u) → (o : Option ThreadState) → running_thread (thread_at m.store u) ≡ o
    → IsBlocked (setting m) (front m) u → Leaves w.before (c.Thread u) why.Blocked w.behind → 1 ≤ u → u ≤ thread_limit → IsHalted m u
halted_where_blocked m h u w None rests blocked l first last = record {
  number = 0;
  found = ap (λ (o : Option ThreadState). found_at o (stand_at m.stands u)) rests;
  place = nowhere;
  is = refl;
  halts = inr blocked;
}
halted_where_blocked m h zero w (Some x) runs blocked l first last = absurd (let no : ⊥ = omega (arith, first) in no)
halted_where_blocked m h (suc i) w (Some x) runs blocked l first last =
    let within : i < length w.before.stands = omega (arith, last, w.lawful.stands.count) in
    let here : stand_at m.stands (suc i) ≡ Some l.number =
    w.note ∙ (ap (λ (z : Book). stand_at z.stands (suc i)) l.noted ∙ noted_here w.before.stands i l.number within) in
    let found : found_place m (suc i) ≡ Some l.number =
    ap (λ (o : Option ThreadState). found_at o (stand_at m.stands (suc i))) runs ∙ ap (found_at (Some x)) here in
    let place = place_there m h (suc i) l.number found in
    record { number = l.number; found = found; place = place.0; is = place.1; halts = inr blocked }

halted : (m : Book) (h : HasLawfulJournal m) (u : ℕ) (w : WasIdle m u) → (IsClosed m → ⊥) → (CommandGoesFirst m → ⊥) → Lives m.store u → 1 ≤ u → u ≤ thread_limit → IsHalted m u
halted m h u w goes_on no_command lives first last = by_why w.reason w.idle w.leaves
  where
    back : w.before ≡ with_stands m w.before.stands
    back = same_back w.before m (same_on w.before w.behind m (leaves_same w.before (c.Thread u) w.reason w.behind w.leaves) w.same)

    by_why : (y : Why) → IsIdleThread w.before u y → Leaves w.before (c.Thread u) y w.behind → IsHalted m u
    by_why why.Over idle l = absurd (goes_on (subst IsClosed back idle))
    by_why why.Ended idle l =
        let there : HasEnded m.store u = subst (λ (z : Book). HasEnded z.store u) back idle.1 in
        let same : there.state ≡ lives.state = cc (there.is, lives.is) in
        let no : true ≡ false = sym there.ended ∙ (ap (λ (o : ThreadState). o.ended) same ∙ lives.not_ended) in cc
    by_why why.Unborn idle l =
        let none : thread_at m.store u ≡ None = subst (λ (z : Book). thread_at z.store u ≡ None) back idle.1 in
        let no : None ≡ Some lives.state = sym none ∙ lives.is in cc
    by_why why.Due idle l = absurd (no_command (first_same m w.before.stands (subst CommandGoesFirst back idle.1.1)))
    by_why (why.Flagged k) idle l =
        let same : running_thread (thread_at w.before.store u) ≡ running_thread (thread_at m.store u) = ap (λ (z : Book). running_thread (thread_at z.store u)) back in
        halted_at_flag m h u k w back (running_thread (thread_at m.store u)) refl (subst (λ o. IsAtFlagBy w.before u k o) same idle.1)
        (subst (λ o. NotesStand w.before u k o w.behind) same l) first last
    by_why why.Blocked idle l =
        let blocked : IsBlocked (setting m) (front m) u = subst (λ (z : Book). IsBlocked (setting z) (front z) u) back idle.blocked in
        halted_where_blocked m h u w (running_thread (thread_at m.store u)) refl blocked l first last
    by_why why.Nothing idle l = absurd idle

-- Where no command is asked no place is flagged, so each live thread is blocked.

blocked_unasked : (m : Book) (u : ℕ) → Control.asked (front m).control ≡ None → IsHalted m u → IsBlocked (setting m) (front m) u
blocked_unasked m u none x = either x.halts
  where
    either : IsFlaggedNow m x.place ⊎ IsBlocked (setting m) (front m) u → IsBlocked (setting m) (front m) u
    either (inl f) = let no : None ≡ Some f.command = sym none ∙ f.under_way.asked in cc
    either (inr g) = g

ends_unasked : (m : Book) → HasLawfulJournal m → NoneStands m → Control.asked (front m).control ≡ None → (thread_entries m.entries == m.limit) ≡ false
    → ((u : ℕ) → Lives m.store u → IsHalted m u) → ⊥
ends_unasked m h none asked less halts = by_threads (lives_or_ended m.store)
  where
    by_threads : AllEnded m.store ⊎ ((t : ℕ) × Lives m.store t) → ⊥
    by_threads (inl ended) = not_over m none asked k.Done (ends_done m less (not_due m none) ended)
    by_threads (inr live) = not_over m none asked k.Stuck (ends_stuck m less (not_due m none) live.0 live.1 (λ u lives. blocked_unasked m u asked (halts u lives)))

-- Where one is asked, each thread was found at a flagged place, or at another one and is blocked there. Which it is can't be told, but that there is
-- no third can.

abbrev IsFoundBlocked : Book → ℕ → ℕ → Type 0
IsFoundBlocked m k u = Lives m.store u × (((l : ℕ) × IsFoundUnflagged m k u l) × IsBlocked (setting m) (front m) u)

abbrev IsFoundHalted : Book → ℕ → ℕ → Type 0
IsFoundHalted m k u = IsFoundFlagged m k u ⊎ IsFoundBlocked m k u

told_live : (m : Book) (k u : ℕ) → Control.asked (front m).control ≡ Some k → Lives m.store u → IsHalted m u → (IsFoundHalted m k u → ⊥) → ⊥
told_live m k u asked lives x neither = either x.halts
  where
    flagged : IsFlagged (setting m) k x.place → ⊥
    flagged f = neither (inl (record { number = x.number; found = x.found; place = x.place; is = x.is; flagged = f }))

    either : IsFlaggedNow m x.place ⊎ IsBlocked (setting m) (front m) u → ⊥
    either (inl f) = let same : f.command ≡ k = cc (f.under_way.asked, asked) in flagged (subst (λ z. IsFlagged (setting m) z x.place) same f.flagged)
    either (inr g) =
        neither (inr (lives, ((line_of_place m.program x.place, record { number = x.number; found = x.found; place = x.place; is = x.is; not_flagged = flagged; line = refl }), g)))

never_running : (b : Bool) (y : ThreadState) → (if b && false then Some y else None) ≡ None
never_running true y = refl
never_running false y = refl

ended_rests : (x : ThreadState) → x.ended ≡ true → running_thread (Some x) ≡ None
ended_rests x ended = ap (λ (d : Bool). if x.begun && not d then Some x else None) ended ∙ never_running x.begun x

-- a thread that doesn't live is at place 0
found_at_none : (m : Book) (u : ℕ) → (Lives m.store u → ⊥) → (o : Option ThreadState) → thread_at m.store u ≡ o → found_place m u ≡ Some 0
found_at_none m u dead None is = ap (λ (o : Option ThreadState). found_at (running_thread o) (stand_at m.stands u)) is
found_at_none m u dead (Some x) is = by_end x.ended refl
  where
    by_end : (d : Bool) → x.ended ≡ d → found_place m u ≡ Some 0
    by_end false lives = absurd (dead (record { state = x; is = is; not_ended = lives }))
    by_end true ended =
        ap (λ (o : Option ThreadState). found_at (running_thread o) (stand_at m.stands u)) is
        ∙ ap (λ (o : Option ThreadState). found_at o (stand_at m.stands u)) (ended_rests x ended)

told_dead : (m : Book) (k u : ℕ) (x : Command) → command_at m.commands k ≡ Some x → refusal (setting m) (front m).control k ≡ None → (Lives m.store u → ⊥) → IsFoundHalted m k u
told_dead m k u x is accepted_so dead =
    inl (record { number = 0; found = found_at_none m u dead (thread_at m.store u) refl; place = nowhere; is = refl; flagged = nowhere_flagged m k x is accepted_so })

not_both : (s : Store) (u : ℕ) (x : ThreadState) → thread_at s u ≡ Some x → x.ended ≡ true → Lives s u → ⊥
not_both s u x is ended h =
    let same : h.state ≡ x = cc (h.is, is) in
    let no : false ≡ true = sym h.not_ended ∙ (ap (λ (o : ThreadState). o.ended) same ∙ ended) in cc

lives_by_end : (s : Store) (u : ℕ) (x : ThreadState) → thread_at s u ≡ Some x → (d : Bool) → x.ended ≡ d → Lives s u ⊎ (Lives s u → ⊥)
lives_by_end s u x is false lives = inl (record { state = x; is = is; not_ended = lives })
lives_by_end s u x is true ended = inr (not_both s u x is ended)

lives_or_not : (s : Store) (u : ℕ) → Lives s u ⊎ (Lives s u → ⊥)
lives_or_not s u = by_thread (thread_at s u) refl
  where
    by_thread : (o : Option ThreadState) → thread_at s u ≡ o → Lives s u ⊎ (Lives s u → ⊥)
    by_thread None is = inr (λ h. let no : None ≡ Some h.state = sym is ∙ h.is in cc)
    by_thread (Some x) is = lives_by_end s u x is x.ended refl

-- a fact of each number up to n, and of the next one
one_more : (P : ℕ → Type 0) (n : ℕ) → ((u : ℕ) → 1 ≤ u → u ≤ n → P u) → P (suc n) → (u : ℕ) → 1 ≤ u → u ≤ suc n → P u
one_more P n table here u first last = by_last (u == suc n) refl
  where
    by_last : (b : Bool) → (u == suc n) ≡ b → P u
    by_last true is = subst P (sym (same_number u (suc n) is)) here
    by_last false is = let ne = not_equal u (suc n) is in table u first (omega (arith, last, ne))

-- a fact of each number up to n, of which none can be refuted alone
none_refuted : (P : ℕ → Type 0) (n : ℕ) → ((u : ℕ) → 1 ≤ u → u ≤ n → (P u → ⊥) → ⊥) → (((u : ℕ) → 1 ≤ u → u ≤ n → P u) → ⊥) → ⊥
none_refuted P zero each not_all = not_all (λ u first last. absurd (let none : ⊥ = omega (arith, first, last) in none))
none_refuted P (suc n) each not_all =
    none_refuted P n (λ u first last. each u first (omega (arith, last)))
    (λ table. each (suc n) (omega arith) (omega arith) (λ here. not_all (one_more P n table here)))

-- all of the first kind, or the lowest of the second
record IsLowest (P Q : ℕ → Type 0) (n : ℕ) : Type 0 where
  number : ℕ
  first : 1 ≤ number
  last : number ≤ n
  there : Q number
  below : (u : ℕ) → 1 ≤ u → u < number → P u

lowest : (P Q : ℕ → Type 0) (n : ℕ) → ((u : ℕ) → 1 ≤ u → u ≤ n → P u ⊎ Q u) → ((u : ℕ) → 1 ≤ u → u ≤ n → P u) ⊎ IsLowest P Q n
lowest P Q zero table = inl (λ u first last. absurd (let none : ⊥ = omega (arith, first, last) in none))
lowest P Q (suc n) table = with_last (lowest P Q n (λ u first last. table u first (omega (arith, last))))
  where
    at_last : ((u : ℕ) → 1 ≤ u → u ≤ n → P u) → P (suc n) ⊎ Q (suc n) → ((u : ℕ) → 1 ≤ u → u ≤ suc n → P u) ⊎ IsLowest P Q (suc n)
    at_last all (inl p) = inl (one_more P n all p)
    at_last all (inr q) = inr (record { number = suc n; first = omega arith; last = omega arith; there = q; below = λ u first less. all u first (omega (arith, less)) })

    with_last : ((u : ℕ) → 1 ≤ u → u ≤ n → P u) ⊎ IsLowest P Q n → ((u : ℕ) → 1 ≤ u → u ≤ suc n → P u) ⊎ IsLowest P Q (suc n)
    with_last (inl all) = at_last all (table (suc n) (omega arith) (omega arith))
    with_last (inr low) = inr (record { number = low.number; first = low.first; last = omega (arith, low.last); there = low.there; below = low.below })

-- The row of the places

abbrev AllFlagged : Book → ℕ → Type 0
AllFlagged m k = (u : ℕ) → 1 ≤ u → u ≤ thread_limit → IsFoundFlagged m k u

-- the places of so many threads, from thread t on
abbrev ListsFrom : Book → ℕ → ℕ → List ℕ → Type 0
ListsFrom m n t row = (length row ≡ n) × ((i : ℕ) → i < n → found_place m (i + t) ≡ slice_get row i)

more_listed : (m : Book) (n t y : ℕ) (row : List ℕ) → found_place m t ≡ Some y → ((i : ℕ) → i < n → found_place m (i + suc t) ≡ slice_get row i)
    → (i : ℕ) → i < suc n → found_place m (i + t) ≡ slice_get (y ∷ row) i
more_listed m n t y row here others zero less = let at : 0 + t ≡ t = omega arith in ap (λ (z : ℕ). found_place m z) at ∙ here
more_listed m n t y row here others (suc i) less =
    let at : suc i + t ≡ i + suc t = omega arith in ap (λ (z : ℕ). found_place m z) at ∙ others i (omega (arith, less))

row_from : (m : Book) (k : ℕ) → AllFlagged m k → (n t : ℕ) → 1 ≤ t → t + n ≤ suc thread_limit → (row : List ℕ) × ListsFrom m n t row
row_from m k f zero t first few = ([], (refl, λ i less. absurd (let no : ⊥ = omega (arith, less) in no)))
row_from m k f (suc n) t first few =
    let x : IsFoundFlagged m k t = f t first (omega (arith, few)) in
    let rest : (row : List ℕ) × ListsFrom m n (suc t) row = row_from m k f n (suc t) (omega arith) (omega (arith, few)) in
    (x.number ∷ rest.0, (ap suc rest.1.0, more_listed m n t x.number rest.0 x.found rest.1.1))

whole_row : (m : Book) (k : ℕ) → AllFlagged m k → (row : List ℕ) × AreFound m k row
whole_row m k f = (rows.0, record { each = f; count = rows.1.0; listed = listed })
  where
    rows : (row : List ℕ) × ListsFrom m thread_limit 1 row
    rows = row_from m k f thread_limit 1 (omega arith) (omega arith)

    listed : (t : ℕ) → 1 ≤ t → t ≤ thread_limit → found_place m t ≡ row_number rows.0 t
    listed zero first last = absurd (let no : ⊥ = omega (arith, first) in no)
    listed (suc i) first last = let at : suc i ≡ i + 1 = omega arith in ap (λ (z : ℕ). found_place m z) at ∙ rows.1.1 i (omega (arith, last))

-- the lowest thread that is blocked
stalled_at : (m : Book) (h : HasLawfulJournal m) (k : ℕ) → ((u : ℕ) → 1 ≤ u → u ≤ thread_limit → IsFoundHalted m k u)
    → (low : IsLowest (IsFoundFlagged m k) (IsFoundBlocked m k) thread_limit) → IsFoundStalled m k low.number low.there.1.0.0
stalled_at m h k table low = record {
  lives = low.there.0;
  here = low.there.1.0.1;
  each = each;
  lowest = λ u lives less. (let number = live_number m h u lives in low.below u number.0 less);
}
  where
    as_told : (u : ℕ) → IsFoundHalted m k u → IsFoundFlagged m k u ⊎ (((n : ℕ) × IsFoundUnflagged m k u n) × IsBlocked (setting m) (front m) u)
    as_told u (inl f) = inl f
    as_told u (inr g) = inr g.1

    each : (u : ℕ) → Lives m.store u → IsFoundFlagged m k u ⊎ (((n : ℕ) × IsFoundUnflagged m k u n) × IsBlocked (setting m) (front m) u)
    each u lives = let number = live_number m h u lives in as_told u (table u number.0 (omega (arith, number.1)))

-- Command k is asked, isn't refused, and threads may make entries.
record IsToAnswer (m : Book) (k : ℕ) : Type 0 where
  asked : Control.asked (front m).control ≡ Some k
  accepted_so : refusal (setting m) (front m).control k ≡ None
  goes_on : run_is_over (setting m) (front m) ≡ false

to_answer : (m : Book) → NoneStands m → (k : ℕ) → Control.asked (front m).control ≡ Some k → IsToAnswer m k
to_answer m none k asked = record { asked = asked; accepted_so = not_refused m none k asked; goes_on = not_cut m none k asked }

abbrev next_version : Book → ℕ
next_version m = suc (Version.number (Control.version (front m).control))

switches : (m : Book) (h : HasLawfulJournal m) → NoneStands m → (k : ℕ) → IsToAnswer m k → (x : Command) → command_at m.commands k ≡ Some x
    → ((f : Plan) × (x.action ≡ install (means f))) ⊎ (x.action ≡ remove) → (row : List ℕ) → AreFound m k row → ⊥
switches m h none k a x is (inl g) row found =
    none (e.Installed k (next_version m) row) refl
    (record { may = may_install m h k (next_version m) x g.0 row is g.1 a.asked a.accepted_so a.goes_on refl found; found = found })
switches m h none k a x is (inr g) row found =
    none (e.Removed k (next_version m) row) refl
    (record { may = may_remove m h k (next_version m) x row is g a.asked a.accepted_so a.goes_on refl found; found = found })

stops : (m : Book) (h : HasLawfulJournal m) → NoneStands m → (k : ℕ) → IsToAnswer m k → (t l : ℕ) → IsFoundStalled m k t l → ⊥
stops m h none k a t l found =
    none (e.Stalled k t l) refl (record { may = may_stall m h k t l a.asked a.accepted_so a.goes_on found; found = found })

-- So the command has its answer.
answered : (m : Book) (h : HasLawfulJournal m) → NoneStands m → (k : ℕ) → Control.asked (front m).control ≡ Some k → ((u : ℕ) → Lives m.store u → IsHalted m u) → ⊥
answered m h none k asked halts = none_refuted (IsFoundHalted m k) thread_limit each by_table
  where
    a : IsToAnswer m k
    a = to_answer m none k asked

    there : (x : Command) × (command_at m.commands k ≡ Some x)
    there = asked_there m h k asked

    by_life : (u : ℕ) → (IsFoundHalted m k u → ⊥) → Lives m.store u ⊎ (Lives m.store u → ⊥) → ⊥
    by_life u neither (inl lives) = told_live m k u asked lives (halts u lives) neither
    by_life u neither (inr dead) = neither (told_dead m k u there.0 there.1 a.accepted_so dead)

    each : (u : ℕ) → 1 ≤ u → u ≤ thread_limit → (IsFoundHalted m k u → ⊥) → ⊥
    each u first last neither = by_life u neither (lives_or_not m.store u)

    either : ((u : ℕ) → 1 ≤ u → u ≤ thread_limit → IsFoundHalted m k u)
        → ((u : ℕ) → 1 ≤ u → u ≤ thread_limit → IsFoundFlagged m k u) ⊎ IsLowest (IsFoundFlagged m k) (IsFoundBlocked m k) thread_limit → ⊥
    either table (inl all) = let row = whole_row m k all in switches m h none k a there.0 there.1 (accepted m k there.0 there.1 a.accepted_so) row.0 row.1
    either table (inr low) = stops m h none k a low.number low.there.1.0.0 (stalled_at m h k table low)

    by_table : ((u : ℕ) → 1 ≤ u → u ≤ thread_limit → IsFoundHalted m k u) → ⊥
    by_table table = either table (lowest (IsFoundFlagged m k) (IsFoundBlocked m k) thread_limit table)

-- Control

control_idle : (b : Book) → (HasFinish b → ⊥) → (w : Why) → IsIdleControl b w → NoneStands b
control_idle b unfinished why.Nothing (inl written) = absurd (unfinished written)
control_idle b unfinished why.Nothing (inr none) = none
control_idle b unfinished why.Over idle = absurd idle
control_idle b unfinished why.Ended idle = absurd idle
control_idle b unfinished why.Unborn idle = absurd idle
control_idle b unfinished why.Due idle = absurd idle
control_idle b unfinished (why.Flagged k) idle = absurd idle
control_idle b unfinished why.Blocked idle = absurd idle

-- Behind a round in which each turn was idle control makes an entry, where the journal isn't finished.
not_all_idle : (a m : Book) → HasLawfulJournal a → HasLawfulJournal m → (HasFinish m → ⊥) → AreIdle a (threads_from 1 thread_limit) m → (w : Why) → IsIdleControl m w → ⊥
not_all_idle a m law h unfinished idle w control = by_asked (Control.asked (front m).control) refl
  where
    none : NoneStands m
    none = control_idle m unfinished w control

    halts : (IsClosed m → ⊥) → (CommandGoesFirst m → ⊥) → (u : ℕ) → Lives m.store u → IsHalted m u
    halts goes_on no_command u lives =
        let number = live_number m h u lives in
        halted m h u (was_idle a m law thread_limit 1 idle u number.0 number.1) goes_on no_command lives number.0 (omega (arith, number.1))

    open_ : run_is_over (setting m) (front m) ≡ false → IsClosed m → ⊥
    open_ less (inl over) = let no : true ≡ false = sym over ∙ less in cc
    open_ less (inr written) = unfinished written

    unasked : Control.asked (front m).control ≡ None → CommandGoesFirst m → ⊥
    unasked asked (inl due) = not_due m none due
    unasked asked (inr vain) = let no : None ≡ Some vain.command = sym asked ∙ vain.asked in cc

    by_asked : (o : Option ℕ) → Control.asked (front m).control ≡ o → ⊥
    by_asked None asked =
        let less : (thread_entries m.entries == m.limit) ≡ false =
        not_yes (thread_entries m.entries == m.limit) (λ full. not_over m none asked k.Limit (ends_at_limit m full)) in
        ends_unasked m h none asked less (halts (open_ (over_is m ∙ less)) (unasked asked))
    by_asked (Some k) asked =
        answered m h none k asked (halts (open_ (not_cut m none k asked)) (not_first m k asked (not_refused m none k asked)))

pub progress : HasProgress
progress old new h unfinished lead = by_turns (moves old new two_rounds lead)
  where
    still_open : (a b : Book) → IsSameBut a b → (HasFinish a → ⊥) → HasFinish b → ⊥
    still_open a b same open_ written = open_ (subst HasFinish same.1 written)

    law_of : (a b : Book) → HasLawfulJournal a → (hs : List Choice) → AreIdle a hs b → HasLawfulJournal b
    law_of a b law [] idle = subst HasLawfulJournal (sym idle) law
    law_of a b law (x ∷ hs) idle = law_of idle.0 b idle.1.1.0 hs idle.1.1.1

    -- the threads of the first round, and control of the second
    two : (next : Book) → HasLawfulJournal next → IsSameBut old next → AreIdle next (threads_from 1 thread_limit ++ round) new → ⊥
    two next law same idle =
        let parts = split next new (threads_from 1 thread_limit) round idle in
        let m : Book = parts.0 in
        let first : AreIdle next (threads_from 1 thread_limit) m = parts.1.0 in
        let behind : IsSameBut old m = same_on old next m same (idle_same next m (threads_from 1 thread_limit) first) in
        not_all_idle next m law (law_of next m law (threads_from 1 thread_limit) first) (still_open old m behind unfinished) first parts.1.1.1.0.0 parts.1.1.1.0.1.0

    by_turns : (length old.entries < length new.entries) ⊎ AreIdle old two_rounds new → length old.entries < length new.entries
    by_turns (inl more) = more
    by_turns (inr idle) = absurd (two idle.0 idle.1.1.0 (leaves_same old c.Control idle.1.0.0 idle.0 idle.1.0.1.1) idle.1.1.1)
