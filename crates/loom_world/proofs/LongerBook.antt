-- A book with the entry that an answer makes.
use Rattle.std.proofs.Common.{ℕ, ◌+◌, ◌-◌, ◌<◌, ◌≤◌, ◌≡◌, inl, inr, ◌==◌, ◌&&◌, Bool, true, false, List, [], ◌∷◌, ◌++◌, ℤ, pos, negsuc, Option, Some, None, refl, sym, ap, ◌∙◌, subst, arith}
use Rattle.std.specs.Prelude.{slice_set}
use Rattle.std.specs.List.{list_any}
use Rattle.std.proofs.lemmas.Bool.{eq-eqb}
use Rattle.loom_tree.specs.Tree.{Source}
use Rattle.loom_lang.specs.Trace.{Cause, Act, begin, end, trap, read, write, lock, unlock, down, up, spawn, join, print}
use Rattle.loom_lang.specs.Acts.{Deed}
use Rattle.loom_trace.specs.declared.entry.Entry.{Entry}
use Rattle.loom_trace.specs.declared.entry.Entry.TheVariants as e
use Rattle.loom_trace.specs.declared.entry.What.{What}
use Rattle.loom_trace.specs.declared.entry.What.TheVariants as w
use Rattle.loom_trace.specs.declared.request.Request.{Request}
use Rattle.loom_trace.specs.declared.request.Request.TheVariants as r
use Rattle.loom_event.specs.TargetEvent.{entry_by, event_of_deed}
use Rattle.loom_event.specs.Answer.{asks_begin, asks_operation, trap_deed, trap_at, cause_of, request_for, IsEntryOf, IsBlockedAt, IsFunctionWith, HasNumbers}
use Rattle.loom_event.specs.Entries.{thread_of, thread_entries, is_some_thread}
use Rattle.loom_event.specs.Replay.{ThreadState, Store, thread_at, after_event, after_act, IsDisabled}
use Rattle.loom_law.specs.Walk.{Version}
use Rattle.loom_law.specs.Control.{Holder, Command, Control, control, first_control, after_entry, entries_of}
use Rattle.loom_lang.specs.Places.{nowhere}
use Rattle.loom_law.specs.Filter.{has}
use Rattle.loom_law.specs.Lawful.{plans, running_thread, Lives, IsDisabledFor, IsHeldByOther, IsBlocked, IsOpen, refusal}
use Rattle.loom_law.specs.Laws.{IsUnfinished}
use Rattle.loom_law.specs.TurnLaws.{ends_blocked}
use Rattle.loom_law.proofs.Earlier.{IsOf, act_keeps, entry_thread}
use Rattle.loom_law.proofs.Obedience.{control_after_last}
use Rattle.loom_ops.specs.Ops.{Ops}
use Rattle.loom_ops.specs.Laws.{IsOpsOf, HasReplay}
use Rattle.loom_ops.proofs.LockReplay.{replay}
use Rattle.loom_strand.specs.Life.{awaits_end, asks_cross}
use Rattle.loom_strand.specs.Strand.{IsReplyTo}
use Rattle.loom_store.specs.declared.answer.Answer.{Answer}
use Rattle.loom_store.specs.declared.answer.Answer.TheVariants as a
use Rattle.loom_store.specs.Answer.{CanWait, Answers, given_deed, deed_of}
use Rattle.loom_store.specs.Laws.{LeadsTo}
use Rattle.loom_store.proofs.Deeds.{deeds}
use Rattle.loom_store.proofs.Sizes.{all_wait, lasting_waits}
use Rattle.loom_world.specs.declared.operate.Made.{Made}
use Rattle.loom_world.specs.Book.{Book, setting, front, HasLawfulJournal}
use Rattle.loom_world.specs.Flags.{IsUnderWay, IsFlaggedNow}
use Rattle.loom_world.specs.Idle.{IsClosed, CommandGoesFirst}
use Rattle.loom_world.specs.Threads.{HasSameCall, KeepsThreads}
use Rattle.loom_world.specs.Asking.{Asks, PassesNoFlag, MakesAnswer}
use Rattle.loom_world.specs.BookInvariant.{Notes, wait_in, wait_of, CanAwait, IsAtEnd, NoneGoesOn, HasVersion, BookInvariant}
use Rattle.loom_world.specs.Entry.{line_in, IsGrantWith, IsEntryFor}
use Rattle.loom_world.specs.Operating.{IsLockedFor, Locks, IsMade, Operates, Acts}
use Rattle.loom_world.proofs.Counts.{count_last}
use Rattle.loom_world.proofs.ControlState.{thread_keeps}
use Rattle.loom_world.proofs.States.{IsSpawnedBy, fresh_state, other_state}
use Rattle.loom_world.proofs.Going.{IsGoing}
use Rattle.loom_world.proofs.OpenTurns.{IsAsking}
use Rattle.loom_world.proofs.LongerJournal.{answer_goes, operation_made}
use Rattle.loom_world.proofs.Notes.{wait_of_entry, waits_more}
use Rattle.loom_world.proofs.OwnVersions.{version_stays}
use Rattle.loom_world.proofs.Replies.{not_told, store_replies, operation_replies}
use Rattle.loom_world.proofs.StandsBehind.{runs_as, book_behind, stands_behind}
use Rattle.loom_world.proofs.Ends.{front_is, not_yes}
use Rattle.loom_world.proofs.ControlTurns.{asked_there, in_vain}
use Rattle.loom_world.proofs.Switches.{nowhere_flagged}
use Rattle.loom_world.proofs.InvariantReadings.{full_over, less_goes_on, not_full, not_finished}
use Rattle.loom_world.proofs.CommandNotes.{room_with, noted}

-- The thread asks, and the run goes on

less : (b : Book) (n : Notes) (k : BookInvariant b n) → (IsClosed b → ⊥) → (n.entry_count == b.limit) ≡ false
less b n k goes_on = not_yes (n.entry_count == b.limit) (λ full. goes_on (inl (full_over b n k full)))

-- Where a thread can go on no command was left out.
not_closing : (b : Book) (n : Notes) (k : BookInvariant b n) → (IsClosed b → ⊥) → (t : ℕ) → Lives b.store t → (IsBlocked (setting b) (front b) t → ⊥) → n.closing ≡ false
not_closing b n k goes_on t lives free = not_yes n.closing (λ is. none (k.commands.ends is))
  where
    none : NoneGoesOn b → ⊥
    none (inl over) = goes_on (inl over)
    none (inr blocked) = free (blocked t lives)

not_refused_there : (b : Book) → (CommandGoesFirst b → ⊥) → (j : ℕ) → Control.asked (front b).control ≡ Some j → refusal (setting b) (front b).control j ≡ None
not_refused_there b no_command j is = by_why (refusal (setting b) (front b).control j) refl
  where
    by_why : (o : Option (ℕ × ℕ)) → refusal (setting b) (front b).control j ≡ o → refusal (setting b) (front b).control j ≡ None
    by_why None why = why
    by_why (Some x) why = absurd (no_command (inr (in_vain b j x is why)))

-- a command that is asked isn't refused, where none goes first
pub under_way : (b : Book) → (CommandGoesFirst b → ⊥) → (j : ℕ) → Control.asked (front b).control ≡ Some j → IsUnderWay b j
under_way b no_command j is = record { asked = is; not_refused = not_refused_there b no_command j is }

-- and it flags place 0
pub flags_nowhere : (b : Book) → HasLawfulJournal b → (j : ℕ) → IsUnderWay b j → IsFlaggedNow b nowhere
flags_nowhere b h j u =
    let there = asked_there b h j u.asked in
    record { command = j; under_way = u; flagged = nowhere_flagged b j there.0 there.1 u.not_refused }

pub asking : (b : Book) (n : Notes) (k : BookInvariant b n) → (IsClosed b → ⊥) → (CommandGoesFirst b → ⊥) → (t : ℕ) (q : Request) → Asks b t q → (IsBlocked (setting b) (front b) t → ⊥) → IsAsking b t q
asking b n k goes_on no_command t q asks free = record {
  going = record {
    lawful = k.journal.lawful;
    store = k.journal.store;
    exclusions = k.journal.plans.exclusions;
    goes_on = λ kind h. goes_on (inr (kind, h));
    far = k.far;
    few = k.few_threads;
  };
  goes_on = subst (IsOpen (setting b)) (sym (front_is b k.journal))
      (record {
        runs = less_goes_on b n k (less b n k goes_on);
        not_closing = sym k.commands.closing ∙ not_closing b n k goes_on t (record { state = asks.state; is = asks.there; not_ended = asks.lives }) free;
        not_due = λ due. no_command (inl due);
        not_refused = λ j is. not_refused_there b no_command j is;
      });
  under_way = under_way b no_command;
  flagged = flags_nowhere b k.journal;
  asks = asks;
}

-- The store behind an answer

keeps_deed : (st new : Store) (t : ℕ) (q : Request) (o : Option Deed) → LeadsTo st t q o new → KeepsThreads st new
keeps_deed st new t q None h u x is = (x, subst (λ z. thread_at z u ≡ Some x) (sym h) is, record { func = refl; args = refl })
keeps_deed st new t q (Some d) h u x is = found (thread_at new u) refl
  where
    kept : IsOf (Some x) (thread_at new u)
    kept = subst (λ z. IsOf (Some x) (thread_at z u)) (sym h.1.1) (subst (λ z. IsOf z (thread_at (after_event st (event_of_deed t d)) u)) is (act_keeps st t d.act u))

    found : (o : Option ThreadState) → thread_at new u ≡ o → (y : ThreadState) × (thread_at new u ≡ Some y) × HasSameCall x y
    found None e = absurd (subst (IsOf (Some x)) e kept)
    found (Some y) e = let k = subst (IsOf (Some x)) e kept in (y, e, record { func = sym k.0; args = sym k.1 })

-- Threads have functions of the program

abbrev ActHasFunction : Source → Act → Type 0
ActHasFunction p (spawn c f vs) = IsFunctionWith p f vs
ActHasFunction p _ = Unit {0}

abbrev HasFunction : Source → Option Deed → Type 0
HasFunction p None = Unit {0}
HasFunction p (Some d) = ActHasFunction p d.act

trap_function : (p : Source) (l : ℕ) (o : Option Cause) → HasFunction p (trap_at l o)
trap_function p l None = tt
trap_function p l (Some c) = tt

trapped_function : (p : Source) (q : Request) → HasFunction p (trap_deed q)
trapped_function p (r.Begin l) = tt
trapped_function p (r.End l) = tt
trapped_function p (r.Trap l n) = trap_function p l (cause_of n)
trapped_function p (r.Read l w) = tt
trapped_function p (r.Write l w u) = tt
trapped_function p (r.Lock l m) = tt
trapped_function p (r.Unlock l m) = tt
trapped_function p (r.Down l k) = tt
trapped_function p (r.Up l k) = tt
trapped_function p (r.Spawn l g us) = tt
trapped_function p (r.Join l u) = tt
trapped_function p (r.Print l u) = tt
trapped_function p _ = tt

granted_function : (p : Source) (q : Request) (v : ℤ) → HasNumbers p q → HasFunction p (given_deed q v)
granted_function p (r.Begin l) v h = tt
granted_function p (r.End l) v h = tt
granted_function p (r.Trap l n) v h = trap_function p l (cause_of n)
granted_function p (r.Read l w) v h = tt
granted_function p (r.Write l w u) v h = tt
granted_function p (r.Lock l m) v h = tt
granted_function p (r.Unlock l m) v h = tt
granted_function p (r.Down l k) v h = tt
granted_function p (r.Up l k) v h = tt
granted_function p (r.Spawn l g us) (pos c) h = h
granted_function p (r.Spawn l g us) (negsuc c) h = tt
granted_function p (r.Join l (pos c)) v h = tt
granted_function p (r.Join l (negsuc c)) v h = tt
granted_function p (r.Print l u) v h = tt
granted_function p _ v h = tt

deed_function : (p : Source) (q : Request) (y : Answer) → HasNumbers p q → HasFunction p (deed_of q y)
deed_function p q (a.Granted v) h = granted_function p q v h
deed_function p q (a.Disabled what) h = tt
deed_function p q (a.Trapped m) h = trapped_function p q

spawned_function : (p : Source) (c : Act) (y : ThreadState) → ActHasFunction p c → IsSpawnedBy c y → IsFunctionWith p y.func y.args
spawned_function p (spawn c f vs) y h is = subst (λ (z : ThreadState). IsFunctionWith p z.func z.args) is h
spawned_function p begin y h is = absurd is
spawned_function p end y h is = absurd is
spawned_function p (trap c) y h is = absurd is
spawned_function p (read x v) y h is = absurd is
spawned_function p (write x v) y h is = absurd is
spawned_function p (lock m) y h is = absurd is
spawned_function p (unlock m) y h is = absurd is
spawned_function p (down k) y h is = absurd is
spawned_function p (up k) y h is = absurd is
spawned_function p (join c) y h is = absurd is
spawned_function p (print v) y h is = absurd is

abbrev HaveFunctions : Source → Store → Type 0
HaveFunctions p st = (u : ℕ) (x : ThreadState) → thread_at st u ≡ Some x → IsFunctionWith p x.func x.args

act_functions : (p : Source) (st : Store) (t : ℕ) (c : Act) → HaveFunctions p st → ActHasFunction p c → HaveFunctions p (after_act st t c)
act_functions p st t c h g u y is = by_there (thread_at st u) refl
  where
    by_there : (o : Option ThreadState) → thread_at st u ≡ o → IsFunctionWith p y.func y.args
    by_there None e = spawned_function p c y g (fresh_state st t u c y e is)
    by_there (Some x) e =
        let k : IsOf (Some x) (Some y) = subst (IsOf (Some x)) is (subst (λ z. IsOf z (thread_at (after_act st t c) u)) e (act_keeps st t c u)) in
        subst (λ f. IsFunctionWith p f y.args) k.0 (subst (λ vs. IsFunctionWith p x.func vs) k.1 (h u x e))

functions_more : (p : Source) (st new : Store) (t : ℕ) (q : Request) (o : Option Deed) → HaveFunctions p st → HasFunction p o → LeadsTo st t q o new → HaveFunctions p new
functions_more p st new t q None h g leads = subst (HaveFunctions p) (sym leads) h
functions_more p st new t q (Some d) h g leads = subst (HaveFunctions p) (sym leads.1.1) (act_functions p st t d.act h g)

entry_of_deed : (t : ℕ) (o : Option Deed) (x : Entry) → IsEntryOf t o x → thread_of x ≡ Some t
entry_of_deed t None x h = absurd h
entry_of_deed t (Some d) x h = ap thread_of h ∙ entry_thread t d.line d.act

entry_of_grant : (t : ℕ) (q : Request) (v : ℤ) (x : Entry) → IsGrantWith t q v x → thread_of x ≡ Some t
entry_of_grant t (r.Begin l) v x h = entry_of_deed t (given_deed (r.Begin l) v) x h
entry_of_grant t (r.End l) v x h = entry_of_deed t (given_deed (r.End l) v) x h
entry_of_grant t (r.Trap l n) v x h = entry_of_deed t (given_deed (r.Trap l n) v) x h
entry_of_grant t (r.Read l w) v x h = entry_of_deed t (given_deed (r.Read l w) v) x h
entry_of_grant t (r.Write l w u) v x h = entry_of_deed t (given_deed (r.Write l w u) v) x h
entry_of_grant t (r.Lock l m) v x h = entry_of_deed t (given_deed (r.Lock l m) v) x h
entry_of_grant t (r.Unlock l m) v x h = entry_of_deed t (given_deed (r.Unlock l m) v) x h
entry_of_grant t (r.Down l k) v x h = entry_of_deed t (given_deed (r.Down l k) v) x h
entry_of_grant t (r.Up l k) v x h = entry_of_deed t (given_deed (r.Up l k) v) x h
entry_of_grant t (r.Spawn l g us) v x h = entry_of_deed t (given_deed (r.Spawn l g us) v) x h
entry_of_grant t (r.Join l u) v x h = entry_of_deed t (given_deed (r.Join l u) v) x h
entry_of_grant t (r.Print l u) v x h = entry_of_deed t (given_deed (r.Print l u) v) x h
entry_of_grant t (r.Tick l k) v x h = ap thread_of h
entry_of_grant t _ v x h = absurd h

entry_by_thread : (t : ℕ) (q : Request) (y : Answer) (x : Entry) → IsEntryFor t q y x → thread_of x ≡ Some t
entry_by_thread t q (a.Granted v) x h = entry_of_grant t q v x h
entry_by_thread t q (a.Disabled what) x h = ap thread_of h
entry_by_thread t q (a.Trapped m) x h = entry_of_deed t (trap_deed q) x h

waits_last : (st new : Store) (t : ℕ) (q : Request) (o : Option Deed) → LeadsTo st t q o new → (what : What) → CanWait st what → CanWait new what
waits_last st new t q None h what can = subst (λ z. CanWait z what) (sym h) can
waits_last st new t q (Some d) h what can = subst (λ z. CanWait z what) (sym h.1.1) (lasting_waits st (event_of_deed t d ∷ []) what can)

awaits_last : (st new : Store) (t : ℕ) (q : Request) (o : Option Deed) → LeadsTo st t q o new → (what : What) → CanAwait st what → CanAwait new what
awaits_last st new t q o h (w.Enter k c) can = tt
awaits_last st new t q o h (w.Lock m) can = waits_last st new t q o h (w.Lock m) can
awaits_last st new t q o h (w.Down m) can = waits_last st new t q o h (w.Down m) can
awaits_last st new t q o h (w.Join c) can = waits_last st new t q o h (w.Join c) can
awaits_last st new t q o h (w.Wait k n) can = waits_last st new t q o h (w.Wait k n) can

can_await : (st : Store) (what : What) → CanWait st what → CanAwait st what
can_await st (w.Enter k c) can = tt
can_await st (w.Lock m) can = can
can_await st (w.Down m) can = can
can_await st (w.Join c) can = can
can_await st (w.Wait k n) can = can

waits_now : (st new : Store) (t : ℕ) (q : Request) (y : Answer) → Answers st t q y new → (what : What) → wait_of y ≡ Some what → CanAwait new what
waits_now st new t q (a.Granted v) h what is = cc
waits_now st new t q (a.Trapped m) h what is = cc
waits_now st new t q (a.Disabled that) h what is =
    let same : that ≡ what = cc in
    can_await new what (subst (λ z. CanWait z what) (sym h.1.1) (all_wait st what (subst (IsDisabled st) same h.1.0)))

-- Threads that run

still_none : (st : Store) (t u : ℕ) (c : Act) → thread_at (after_act st t c) u ≡ None → thread_at st u ≡ None
still_none st t u c none = by_there (thread_at st u) refl
  where
    by_there : (o : Option ThreadState) → thread_at st u ≡ o → thread_at st u ≡ None
    by_there None is = is
    by_there (Some x) is = absurd (subst (IsOf (Some x)) none (subst (λ z. IsOf z (thread_at (after_act st t c) u)) is (act_keeps st t c u)))

differ : (m n : ℕ) → (m == n) ≡ false → m ≡ n → ⊥
differ m n other same = let yes : (m == n) ≡ true = eq-eqb m n same in let no : true ≡ false = sym yes ∙ other in cc

runs_behind : (st new : Store) (t : ℕ) (q : Request) (o : Option Deed) → LeadsTo st t q o new → (u : ℕ) → (t == u) ≡ false → running_thread (thread_at new u) ≡ running_thread (thread_at st u)
runs_behind st new t q None h u other = ap (λ (z : Store). running_thread (thread_at z u)) h
runs_behind st new t q (Some d) h u other =
    ap (λ (z : Store). running_thread (thread_at z u)) h.1.1
    ∙ runs_as st (thread_at (after_act st t d.act) u) u (λ y is. other_state st t u d.act y (differ t u other) is) (still_none st t u d.act)

-- Locks

act_control : (cs : List Command) (c : Control) (t l : ℕ) (d : Act) → after_entry cs c (entry_by t l d) ≡ c
act_control cs c t l begin = refl
act_control cs c t l end = refl
act_control cs c t l (trap x) = refl
act_control cs c t l (read x v) = refl
act_control cs c t l (write x v) = refl
act_control cs c t l (lock m) = refl
act_control cs c t l (unlock m) = refl
act_control cs c t l (down m) = refl
act_control cs c t l (up m) = refl
act_control cs c t l (spawn u f vs) = refl
act_control cs c t l (join u) = refl
act_control cs c t l (print v) = refl

deed_control : (cs : List Command) (c : Control) (t : ℕ) (o : Option Deed) (x : Entry) → IsEntryOf t o x → after_entry cs c x ≡ c
deed_control cs c t None x h = absurd h
deed_control cs c t (Some d) x h = ap (after_entry cs c) h ∙ act_control cs c t d.line d.act

grant_control : (cs : List Command) (c : Control) (t : ℕ) (q : Request) (v : ℤ) (x : Entry) → IsGrantWith t q v x → after_entry cs c x ≡ c
grant_control cs c t (r.Begin l) v x h = deed_control cs c t (given_deed (r.Begin l) v) x h
grant_control cs c t (r.End l) v x h = deed_control cs c t (given_deed (r.End l) v) x h
grant_control cs c t (r.Trap l n) v x h = deed_control cs c t (given_deed (r.Trap l n) v) x h
grant_control cs c t (r.Read l i) v x h = deed_control cs c t (given_deed (r.Read l i) v) x h
grant_control cs c t (r.Write l i u) v x h = deed_control cs c t (given_deed (r.Write l i u) v) x h
grant_control cs c t (r.Lock l m) v x h = deed_control cs c t (given_deed (r.Lock l m) v) x h
grant_control cs c t (r.Unlock l m) v x h = deed_control cs c t (given_deed (r.Unlock l m) v) x h
grant_control cs c t (r.Down l m) v x h = deed_control cs c t (given_deed (r.Down l m) v) x h
grant_control cs c t (r.Up l m) v x h = deed_control cs c t (given_deed (r.Up l m) v) x h
grant_control cs c t (r.Spawn l g us) v x h = deed_control cs c t (given_deed (r.Spawn l g us) v) x h
grant_control cs c t (r.Join l u) v x h = deed_control cs c t (given_deed (r.Join l u) v) x h
grant_control cs c t (r.Print l u) v x h = deed_control cs c t (given_deed (r.Print l u) v) x h
grant_control cs c t (r.Tick l k) v x h = ap (after_entry cs c) h
grant_control cs c t _ v x h = absurd h

answer_control : (cs : List Command) (c : Control) (t : ℕ) (q : Request) (y : Answer) (x : Entry) → IsEntryFor t q y x → after_entry cs c x ≡ c
answer_control cs c t q (a.Granted v) x h = grant_control cs c t q v x h
answer_control cs c t q (a.Disabled what) x h = ap (after_entry cs c) h
answer_control cs c t q (a.Trapped n) x h = deed_control cs c t (trap_deed q) x h

-- What came of it

-- with the entry the journal goes on, and what the book notes is right
pub record IsOutcome (b : Book) (n : Notes) (t : ℕ) (q : Request) (m : Made) (st : Store) (o : Ops) : Type 0 where
  pub of : thread_of m.entry ≡ Some t
  pub more : IsGoing b.program b.commands b.limit (b.entries ++ m.entry ∷ []) st
  pub unflagged : PassesNoFlag b t m.entry
  pub replies : IsReplyTo (ends_blocked (entries_of t b.entries)) (awaits_end (entries_of t b.entries)) t (Some q) m.entry
  pub runs : (u : ℕ) → (t == u) ≡ false → running_thread (thread_at st u) ≡ running_thread (thread_at b.store u)
  pub locks : IsOpsOf (plans (setting b)) (after_entry b.commands (front b).control m.entry) o
  pub says : wait_in (Some m.entry) ≡ m.wait
  pub await_still : (what : What) → CanAwait b.store what → CanAwait st what
  pub await_now : (what : What) → m.wait ≡ Some what → CanAwait st what
  pub functions : HaveFunctions b.program st
  pub threads : KeepsThreads b.store st

-- what is disabled of a store
disabled_named : (t l : ℕ) (what : What) (q : Request) → request_for l what ≡ Some q → (asks_begin q ≡ false) × ((asks_cross q ≡ false) × ((line_in q ≡ l) × IsBlockedAt t q (e.Blocked t l what)))
disabled_named t l (w.Lock m) q is = let same : r.Lock l m ≡ q = cc in subst (λ z. (asks_begin z ≡ false) × ((asks_cross z ≡ false) × ((line_in z ≡ l) × IsBlockedAt t z (e.Blocked t l (w.Lock m))))) same (refl, (refl, (refl, refl)))
disabled_named t l (w.Down m) q is = let same : r.Down l m ≡ q = cc in subst (λ z. (asks_begin z ≡ false) × ((asks_cross z ≡ false) × ((line_in z ≡ l) × IsBlockedAt t z (e.Blocked t l (w.Down m))))) same (refl, (refl, (refl, refl)))
disabled_named t l (w.Join c) q is = let same : r.Join l (pos c) ≡ q = cc in subst (λ z. (asks_begin z ≡ false) × ((asks_cross z ≡ false) × ((line_in z ≡ l) × IsBlockedAt t z (e.Blocked t l (w.Join c))))) same (refl, (refl, (refl, refl)))
disabled_named t l (w.Enter k c) q is = cc
disabled_named t l (w.Wait k n) q is = cc

disabled_there : (b : Book) (t : ℕ) (what : What) → IsDisabled b.store what → IsDisabledFor (setting b) (front b) t what
disabled_there b t (w.Lock m) d = d
disabled_there b t (w.Down m) d = d
disabled_there b t (w.Join c) d = d
disabled_there b t (w.Enter k c) d = absurd d
disabled_there b t (w.Wait k n) d = absurd d

pub act_outcome : (b : Book) (n : Notes) (k : BookInvariant b n) (t : ℕ) (q : Request) → IsAsking b t q → (IsBlocked (setting b) (front b) t → ⊥) → asks_operation q ≡ false → (m : Made) (st : Store) (o : Ops)
    → Acts b.store t q m st → o ≡ n.ops → IsOutcome b n t q m st o
act_outcome b n k t q h free act m st o acts same =
    let y : Answer = acts.answer in
    let leads = deeds b.store t q y st acts.answers in
    let told : (what : What) → y ≡ a.Disabled what → IsBlockedAt t q m.entry × (ends_blocked (entries_of t b.entries) ≡ false) =
    λ what is. (
    let d = subst (λ z. Answers b.store t q z st) is acts.answers in
    let named = disabled_named t d.0.0 what q d.0.1 in
    let entry : m.entry ≡ e.Blocked t d.0.0 what = subst (λ z. IsEntryFor t q z m.entry) is acts.entry ∙ ap (λ z. e.Blocked t z what) named.1.1.0 in
    (subst (IsBlockedAt t q) (sym entry) named.1.1.1, not_told h.asks free named.0 named.1.0 d.0.0 what named.1.1.1 (disabled_there b t what d.1.0)))
    in
    let stays : after_entry b.commands (front b).control m.entry ≡ (front b).control = answer_control b.commands (front b).control t q y m.entry acts.entry in
    let goes_on = answer_goes q h y m.entry st acts.answers acts.entry (λ what is. (told what is).1) in
    record {
      of = entry_by_thread t q y m.entry acts.entry;
      more = goes_on.0;
      unflagged = goes_on.1;
      replies = store_replies h act y m.entry st acts.answers acts.entry told;
      runs = runs_behind b.store st t q (deed_of q y) leads;
      locks = subst (λ c. IsOpsOf (plans (setting b)) c o) (sym stays) (subst (IsOpsOf (plans (setting b)) (front b).control) (sym same) k.version.ops);
      says = wait_of_entry t q y m.entry acts.entry ∙ sym acts.wait;
      await_still = awaits_last b.store st t q (deed_of q y) leads;
      await_now = λ what is. waits_now b.store st t q y acts.answers what (sym acts.wait ∙ is);
      functions = functions_more b.program b.store st t q (deed_of q y) k.functions (deed_function b.program q y (h.asks.numbers act)) leads;
      threads = keeps_deed b.store st t q (deed_of q y) leads;
    }

-- the entry of an operation, and what it does to the locks
record IsOperation (b : Book) (t : ℕ) (q : Request) (m : Made) (o : Ops) : Type 0 where
  of : thread_of m.entry ≡ Some t
  locks : IsOpsOf (plans (setting b)) (after_entry b.commands (front b).control m.entry) o
  says : wait_in (Some m.entry) ≡ m.wait
  awaits : (what : What) → m.wait ≡ Some what → CanAwait b.store what
  told : (what : What) → m.wait ≡ Some what → IsBlockedAt t q m.entry × (ends_blocked (entries_of t b.entries) ≡ false)

-- where nothing is waited for
operation_by : (b : Book) (t : ℕ) (q : Request) (m : Made) (o : Ops) (x : Entry) → m.entry ≡ x → m.wait ≡ None → thread_of x ≡ Some t → wait_in (Some x) ≡ None
    → IsOpsOf (plans (setting b)) (after_entry b.commands (front b).control x) o → IsOperation b t q m o
operation_by b t q m o x is none of says locks = record {
  of = ap thread_of is ∙ of;
  locks = subst (λ y. IsOpsOf (plans (setting b)) (after_entry b.commands (front b).control y) o) (sym is) locks;
  says = ap (λ y. wait_in (Some y)) is ∙ (says ∙ sym none);
  awaits = λ what some. (let no : None ≡ Some what = sym none ∙ some in cc);
  told = λ what some. (let no : None ≡ Some what = sym none ∙ some in cc);
}

operation : (b : Book) (n : Notes) (k : BookInvariant b n) (t : ℕ) (q : Request) → Asks b t q → (IsBlocked (setting b) (front b) t → ⊥) → asks_operation q ≡ true → (m : Made) (o : Ops)
    → Operates n.ops t q m o → IsOperation b t q m o
operation b n k t (r.At l j ns) asks free is m o op =
    operation_by b t (r.At l j ns) m o (e.At t l j ns) (subst (λ z. IsMade t (r.At l j ns) z m) op.0.0 op.1) op.0.0 refl refl (subst (IsOpsOf (plans (setting b)) (front b).control) (sym op.0.1) k.version.ops)
operation b n k t (r.Past l j ns) asks free is m o op =
    operation_by b t (r.Past l j ns) m o (e.Past t l j ns) (subst (λ z. IsMade t (r.Past l j ns) z m) op.0.0 op.1) op.0.0 refl refl (subst (IsOpsOf (plans (setting b)) (front b).control) (sym op.0.1) k.version.ops)
operation b n k t (r.Back l) asks free is m o op =
    operation_by b t (r.Back l) m o (e.Back t l) (subst (λ z. IsMade t (r.Back l) z m) op.0.0 op.1) op.0.0 refl refl (subst (IsOpsOf (plans (setting b)) (front b).control) (sym op.0.1) k.version.ops)
operation b n k t (r.Cross l y v i) asks free is m o op =
    operation_by b t (r.Cross l y v i) m o (e.Cross t l y v i) (subst (λ z. IsMade t (r.Cross l y v i) z m) op.0.0 op.1) op.0.0 refl refl (subst (IsOpsOf (plans (setting b)) (front b).control) (sym op.0.1) k.version.ops)
operation b n k t (r.Post l j i) asks free is m o op =
    operation_by b t (r.Post l j i) m o (e.Post t l j i) (subst (λ z. IsMade t (r.Post l j i) z m) op.0.0 op.1) op.0.0 refl refl (subst (IsOpsOf (plans (setting b)) (front b).control) (sym op.0.1) k.version.ops)
operation b n k t (r.Wait l j i) asks free is m o op =
    operation_by b t (r.Wait l j i) m o (e.Wait t l j i) (subst (λ z. IsMade t (r.Wait l j i) z m) op.0.0 op.1) op.0.0 refl refl (subst (IsOpsOf (plans (setting b)) (front b).control) (sym op.0.1) k.version.ops)
operation b n k t (r.Leave l j c) asks free is m o op =
    operation_by b t (r.Leave l j c) m o (e.Leave t l j c) (subst (λ z. IsMade t (r.Leave l j c) z m) op.0.0 op.1) op.0.0 refl refl
    (subst (IsOpsOf (plans (setting b)) (after_entry b.commands (front b).control (e.Leave t l j c))) (sym op.0.1)
    (HasReplay.leave replay (plans (setting b)) b.commands (front b).control n.ops t l j c k.version.ops))
operation b n k t (r.Enter l j c) asks free is m o op = by_wait m.wait refl op.0 op.1
  where
    by_wait : (x : Option What) → m.wait ≡ x → Locks n.ops t (r.Enter l j c) x o → IsMade t (r.Enter l j c) x m → IsOperation b t (r.Enter l j c) m o
    by_wait None none locks made =
        operation_by b t (r.Enter l j c) m o (e.Enter t l j c) made none refl refl
        (subst (IsOpsOf (plans (setting b)) (after_entry b.commands (front b).control (e.Enter t l j c))) (sym locks.1)
        (HasReplay.enter replay (plans (setting b)) b.commands (front b).control n.ops t l j c k.version.ops))
    by_wait (Some what) waits locks made =
        let entry : m.entry ≡ e.Blocked t l (w.Enter j c) = made ∙ ap (λ z. e.Blocked t l z) locks.0 in
        let lock : IsLockedFor n.ops t j c = locks.1.0 in
        let off : IsHeldByOther (front b) j c t = record {
          by = lock.by;
          other = lock.other;
          holds = subst (λ hs. list_any (λ (g : Holder). (g.filter == j) && ((g.clause == c) && (g.thread == lock.by))) hs ≡ true) k.version.ops.holders lock.holds;
        } in
        record {
          of = ap thread_of entry;
          locks = subst (λ y. IsOpsOf (plans (setting b)) (after_entry b.commands (front b).control y) o) (sym entry)
              (subst (IsOpsOf (plans (setting b)) (front b).control) (sym locks.1.1) k.version.ops);
          says = ap (λ y. wait_in (Some y)) entry ∙ (ap Some (sym locks.0) ∙ sym waits);
          awaits = λ that some.
              let both : Some what ≡ Some that = sym waits ∙ some in
              let same : w.Enter j c ≡ that = sym locks.0 ∙ (let it : what ≡ that = cc (both) in it) in
              subst (CanAwait b.store) same tt;
          told = λ that some. (entry, not_told asks free refl refl l (w.Enter j c) refl off);
        }
operation b n k t _ asks free is m o op = cc

pub operation_outcome : (b : Book) (n : Notes) (k : BookInvariant b n) (t : ℕ) (q : Request) → IsAsking b t q → (IsBlocked (setting b) (front b) t → ⊥) → asks_operation q ≡ true → (m : Made) (o : Ops)
    → Operates n.ops t q m o → IsOutcome b n t q m b.store o
operation_outcome b n k t q h free is m o op =
    let x = operation b n k t q h.asks free is m o op in
    let goes_on = operation_made q h n.ops k.version.ops m o is op (λ what some. (x.told what some).1) in
    record {
      of = x.of;
      more = goes_on.0;
      unflagged = goes_on.1;
      replies = operation_replies q h is m op.1 x.told;
      runs = λ u other. refl;
      locks = x.locks;
      says = x.says;
      await_still = λ what can. can;
      await_now = x.awaits;
      functions = k.functions;
      threads = λ u y there. (y, there, record { func = refl; args = refl });
    }

-- Whatever it asked for
pub outcome : (b : Book) (n : Notes) (k : BookInvariant b n) (t : ℕ) (q : Request) → IsAsking b t q → (IsBlocked (setting b) (front b) t → ⊥) → (m : Made) (st : Store) (o : Ops)
    → (asks_operation q ≡ false → Acts b.store t q m st × (o ≡ n.ops)) → (asks_operation q ≡ true → Operates n.ops t q m o × (st ≡ b.store)) → IsOutcome b n t q m st o
outcome b n k t q h free m st o acts operates = by_kind (asks_operation q) refl
  where
    by_kind : (c : Bool) → asks_operation q ≡ c → IsOutcome b n t q m st o
    by_kind false is = act_outcome b n k t q h free is m st o (acts is).0 (acts is).1
    by_kind true is = subst (λ z. IsOutcome b n t q m z o) (sym (operates is).1) (operation_outcome b n k t q h free is m o (operates is).0)

-- The book behind it

version_more : (b : Book) (n : Notes) (t : ℕ) (x : Entry) (st : Store) (count room : ℕ) (ws : List (Option What)) (o : Ops) → HasVersion b n → thread_of x ≡ Some t
    → IsOpsOf (plans (setting b)) (after_entry b.commands (front b).control x) o → HasVersion (book_behind b t x st) (record n { entry_count = count; room = room; waits = ws; ops = o })
version_more b n t x st count room ws o h of locks =
    let behind : (front (book_behind b t x st)).control ≡ after_entry b.commands (front b).control x = control_after_last b.commands first_control b.entries x in
    let same : Control.version (front (book_behind b t x st)).control ≡ Control.version (front b).control = ap Control.version behind ∙ version_stays b.commands (front b).control x t of in
    record {
      version = h.version ∙ sym same;
      ops = subst (λ c. IsOpsOf (plans (setting b)) c o) (sym behind) locks;
      below = h.below;
      number = h.number;
      names = λ i j one two name. h.names i j (subst (λ (v : Version). has v.active i ≡ true) same one) (subst (λ (v : Version). has v.active j ≡ true) same two) name;
      there = λ j is. h.there j (subst (λ (v : Version). has v.active j ≡ true) same is);
    }

unfinished_at_end : (b : Book) (f : Bool) → f ≡ false → IsUnfinished b.entries → IsAtEnd b f
unfinished_at_end b f is h = subst (λ z. IsAtEnd b z) (sym is) h

pub journal_more : (b : Book) (n : Notes) (k : BookInvariant b n) (t : ℕ) (q : Request) (m : Made) (st : Store) (o : Ops) → IsOutcome b n t q m st o → HasLawfulJournal (book_behind b t m.entry st)
journal_more b n k t q m st o x = record {
  rules = k.journal.rules;
  lawful = x.more.lawful;
  store = x.more.store;
  plans = record { filters = k.journal.plans.filters; same = k.journal.plans.same; there = k.journal.plans.there; exclusions = k.journal.plans.exclusions };
  stands = stands_behind b t m.entry st k.journal.stands x.of x.runs;
}

-- A book keeps what it keeps with the entry that it makes.
pub kept_more : (b : Book) (n : Notes) (k : BookInvariant b n) (goes_on : IsClosed b → ⊥) → (t : ℕ) (q : Request) → 1 ≤ t → Lives b.store t → (IsBlocked (setting b) (front b) t → ⊥)
    → (m : Made) (st : Store) (o : Ops) (room : ℕ) → IsOutcome b n t q m st o → room + 1 ≡ n.room
    → BookInvariant (book_behind b t m.entry st) (record n { entry_count = n.entry_count + 1; room = room; waits = slice_set n.waits (t - 1) m.wait; ops = o })
kept_more b n k goes_on t q first lives free m st o room x left =
    let new : Book = book_behind b t m.entry st in
    let unfinished : n.finished ≡ false = not_finished b n k goes_on in
    let full = not_full b n k goes_on in
    let counted : n.entry_count + 1 ≡ thread_entries (b.entries ++ m.entry ∷ []) = (let one = count_last b.entries m.entry (ap is_some_thread x.of) in omega (arith, one, k.entry_count)) in
    let journal : HasLawfulJournal new = journal_more b n k t q m st o x in
    let behind = control_after_last b.commands first_control b.entries m.entry in
    let same = thread_keeps b.commands (control b.commands b.entries) m.entry t x.of in
    let open_ : n.closing ≡ false = not_closing b n k goes_on t lives free in
    record {
      journal = journal;
      least = k.least;
      most = k.most;
      entry_count = counted;
      few = omega (arith, full);
      end = unfinished_at_end new n.finished unfinished x.more.goes_on;
      commands =
          noted new _ journal k.commands.few counted (k.commands.next ∙ (sym same.0 ∙ sym (ap Control.next behind))) (k.commands.asked ∙ (sym same.1.0 ∙ sym (ap Control.asked behind)))
          (k.commands.closing ∙ (sym same.1.1 ∙ sym (ap Control.closing behind))) (room_with b m.entry n.room room k.commands.room left) (λ is. x.more.goes_on)
          (λ is. let no : true ≡ false = sym is ∙ open_ in cc);
      far = x.more.far;
      functions = x.functions;
      version = version_more b n t m.entry st (n.entry_count + 1) room (slice_set n.waits (t - 1) m.wait) o k.version x.of x.locks;
      flags = record { each = k.flags.each; there = k.flags.there; all = k.flags.all; none = k.flags.none };
      few_threads = x.more.few;
      waits = waits_more b new n.waits t m.entry m.wait k.waits first x.of refl x.says x.await_still x.await_now;
    }

-- And the answer is the one that was asked for.
pub answered_so : (b : Book) (n : Notes) (k : BookInvariant b n) (goes_on : IsClosed b → ⊥) → (CommandGoesFirst b → ⊥) → (t : ℕ) (q : Request) → (IsBlocked (setting b) (front b) t → ⊥)
    → (m : Made) (st : Store) (o : Ops) → IsOutcome b n t q m st o → MakesAnswer b t q m.entry (book_behind b t m.entry st)
answered_so b n k goes_on no_command t q free m st o x = record {
  run = record { program = refl; filters = refl; commands = refl; limit = refl };
  appended = refl;
  thread = x.of;
  replies = x.replies;
  threads = x.threads;
  noted = refl;
  goes_on = goes_on;
  no_command = no_command;
  free = free;
  unflagged = x.unflagged;
  few = subst (λ z. z < b.limit) k.entry_count (not_full b n k goes_on);
}
