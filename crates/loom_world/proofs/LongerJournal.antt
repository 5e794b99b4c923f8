-- A journal with the entry that an answer makes.
use Rattle.std.proofs.Common.{ℕ, ◌≡◌, ◌==◌, ◌&&◌, true, false, List, [], ◌∷◌, ℤ, pos, Option, Some, None, refl, sym, ap, ◌∙◌, subst}
use Rattle.std.specs.List.{AllByRecursion, list_any}
use Rattle.loom_trace.specs.Limits.{thread_limit}
use Rattle.loom_trace.specs.declared.entry.Entry.{Entry}
use Rattle.loom_trace.specs.declared.entry.Entry.TheVariants as e
use Rattle.loom_trace.specs.declared.entry.What.{What}
use Rattle.loom_trace.specs.declared.entry.What.TheVariants as w
use Rattle.loom_trace.specs.declared.request.Request.{Request}
use Rattle.loom_trace.specs.declared.request.Request.TheVariants as r
use Rattle.loom_event.specs.Answer.{asks_begin, asks_operation, trap_deed, IsEntryOf, IsBlockedAt, IsBlockedFor, request_for}
use Rattle.loom_event.specs.Replay.{Store, replay, start, IsDisabled}
use Rattle.loom_law.specs.Filter.{before_in, Plan}
use Rattle.loom_law.specs.Walk.{at, past, leave, back, tick, enters, cross}
use Rattle.loom_law.specs.ThreadPart.{AsksToAct}
use Rattle.loom_law.specs.Control.{Holder, entries_of}
use Rattle.loom_law.specs.Lawful.{front_of, plans, own, IsDisabledFor, IsHeldByOther, HasCompletions}
use Rattle.loom_law.specs.TurnLaws.{ends_blocked}
use Rattle.loom_law.proofs.SameRequest.{blocks}
use Rattle.loom_ops.specs.Ops.{Ops}
use Rattle.loom_ops.specs.Laws.{IsOpsOf}
use Rattle.loom_strand.specs.Life.{asks_cross}
use Rattle.loom_store.specs.declared.answer.Answer.{Answer}
use Rattle.loom_store.specs.declared.answer.Answer.TheVariants as a
use Rattle.loom_store.specs.Answer.{Answers, given_deed}
use Rattle.loom_store.specs.Laws.{LeadsTo}
use Rattle.loom_store.proofs.Deeds.{deeds}
use Rattle.loom_world.specs.declared.operate.Made.{Made}
use Rattle.loom_world.specs.Book.{Book, setting, front}
use Rattle.loom_world.specs.Entry.{line_in, IsGrantWith, IsEntryFor}
use Rattle.loom_world.specs.Operating.{IsLockedFor, Locks, IsMade, Operates}
use Rattle.loom_world.proofs.NoOrders.{each_excludes, no_before, no_wait, no_post}
use Rattle.loom_world.proofs.OwedBlocks.{owed_blocks}
use Rattle.loom_world.proofs.OpenTurns.{IsAsking, GoesWith, acting, deed_goes, operation_turn, none_crossed, some_crossed, blocked_turn}

-- granted
granted_goes : {b : Book} {t : ℕ} (q : Request) (h : IsAsking b t q) (v : ℤ) (x : Entry) (new : Store) → IsGrantWith t q v x → LeadsTo b.store t q (given_deed q v) new → GoesWith b t x new
granted_goes (r.Begin l) h v x new tells leads = deed_goes h (acting h.asks.next h.asks.away.asks h.under_way) refl (given_deed (r.Begin l) v) x new tells leads
granted_goes (r.End l) h v x new tells leads = deed_goes h (acting h.asks.next h.asks.away.asks h.under_way) refl (given_deed (r.End l) v) x new tells leads
granted_goes (r.Trap l n) h v x new tells leads = deed_goes h (acting h.asks.next h.asks.away.asks h.under_way) refl (given_deed (r.Trap l n) v) x new tells leads
granted_goes (r.Read l w) h v x new tells leads = deed_goes h (acting h.asks.next h.asks.away.asks h.under_way) refl (given_deed (r.Read l w) v) x new tells leads
granted_goes (r.Write l w u) h v x new tells leads = deed_goes h (acting h.asks.next h.asks.away.asks h.under_way) refl (given_deed (r.Write l w u) v) x new tells leads
granted_goes (r.Lock l m) h v x new tells leads = deed_goes h (acting h.asks.next h.asks.away.asks h.under_way) refl (given_deed (r.Lock l m) v) x new tells leads
granted_goes (r.Unlock l m) h v x new tells leads = deed_goes h (acting h.asks.next h.asks.away.asks h.under_way) refl (given_deed (r.Unlock l m) v) x new tells leads
granted_goes (r.Down l k) h v x new tells leads = deed_goes h (acting h.asks.next h.asks.away.asks h.under_way) refl (given_deed (r.Down l k) v) x new tells leads
granted_goes (r.Up l k) h v x new tells leads = deed_goes h (acting h.asks.next h.asks.away.asks h.under_way) refl (given_deed (r.Up l k) v) x new tells leads
granted_goes (r.Spawn l f us) h v x new tells leads = deed_goes h (acting h.asks.next h.asks.away.asks h.under_way) refl (given_deed (r.Spawn l f us) v) x new tells leads
granted_goes (r.Join l u) h v x new tells leads = deed_goes h (acting h.asks.next h.asks.away.asks h.under_way) refl (given_deed (r.Join l u) v) x new tells leads
granted_goes (r.Print l u) h v x new tells leads = deed_goes h (acting h.asks.next h.asks.away.asks h.under_way) refl (given_deed (r.Print l u) v) x new tells leads
granted_goes {b} {t} (r.Tick l k) h v x new tells leads =
    let more = operation_turn h l (tick k) refl h.asks.next (none_crossed h (e.Tick t l k) refl refl refl) (λ j is some. h.asks.away.asks j is some) tt refl in
    subst (λ z. GoesWith b t x z) (sym leads) (subst (λ z. GoesWith b t z b.store) (sym tells) more)
granted_goes _ h v x new tells leads = absurd tells

-- trapped
trapped_goes : {b : Book} {t : ℕ} (q : Request) (h : IsAsking b t q) (x : Entry) (new : Store) → IsEntryOf t (trap_deed q) x → LeadsTo b.store t q (trap_deed q) new → GoesWith b t x new
trapped_goes (r.Begin l) h x new tells leads = absurd tells
trapped_goes (r.End l) h x new tells leads = absurd tells
trapped_goes (r.Trap l n) h x new tells leads = deed_goes h (acting h.asks.next h.asks.away.asks h.under_way) refl (trap_deed (r.Trap l n)) x new tells leads
trapped_goes (r.Read l w) h x new tells leads = absurd tells
trapped_goes (r.Write l w u) h x new tells leads = absurd tells
trapped_goes (r.Lock l m) h x new tells leads = absurd tells
trapped_goes (r.Unlock l m) h x new tells leads = deed_goes h (acting h.asks.next h.asks.away.asks h.under_way) refl (trap_deed (r.Unlock l m)) x new tells leads
trapped_goes (r.Down l k) h x new tells leads = absurd tells
trapped_goes (r.Up l k) h x new tells leads = deed_goes h (acting h.asks.next h.asks.away.asks h.under_way) refl (trap_deed (r.Up l k)) x new tells leads
trapped_goes (r.Spawn l f us) h x new tells leads = deed_goes h (acting h.asks.next h.asks.away.asks h.under_way) refl (trap_deed (r.Spawn l f us)) x new tells leads
trapped_goes (r.Join l u) h x new tells leads = deed_goes h (acting h.asks.next h.asks.away.asks h.under_way) refl (trap_deed (r.Join l u)) x new tells leads
trapped_goes (r.Print l u) h x new tells leads = absurd tells
trapped_goes _ h x new tells leads = absurd tells

-- Disabled: what a thread waits for isn't its begin, and the line is that of the request.
record IsWaitFor (q : Request) (l : ℕ) (what : What) : Type 0 where
  later : asks_begin q ≡ false
  stays : asks_cross q ≡ false
  line : line_in q ≡ l
  named : (t : ℕ) → IsBlockedFor t q (e.Blocked t l what)
  also : (t : ℕ) → IsBlockedAt t q (e.Blocked t l what)

waits_for : (q : Request) (l : ℕ) (what : What) → request_for l what ≡ Some q → IsWaitFor q l what
waits_for q l (w.Lock m) is = let same : r.Lock l m ≡ q = cc in subst (λ z. IsWaitFor z l (w.Lock m)) same (record { later = refl; stays = refl; line = refl; named = λ t. refl; also = λ t. refl })
waits_for q l (w.Down m) is = let same : r.Down l m ≡ q = cc in subst (λ z. IsWaitFor z l (w.Down m)) same (record { later = refl; stays = refl; line = refl; named = λ t. refl; also = λ t. refl })
waits_for q l (w.Join c) is = let same : r.Join l (pos c) ≡ q = cc in subst (λ z. IsWaitFor z l (w.Join c)) same (record { later = refl; stays = refl; line = refl; named = λ t. refl; also = λ t. refl })
waits_for q l (w.Enter k c) is = cc
waits_for q l (w.Wait k n) is = cc

-- what it asks for there is an act
asks_act : {b : Book} {t : ℕ} (q : Request) (h : IsAsking b t q) (l : ℕ) (what : What) → request_for l what ≡ Some q
    → AsksToAct b.program (plans (setting b)) (own (setting b) b.entries t h.asks.state) q
asks_act (r.Lock l m) h k what is = h.asks.next
asks_act (r.Down l m) h k what is = h.asks.next
asks_act (r.Join l v) h k what is = h.asks.next
asks_act _ h k (w.Lock m) is = cc
asks_act _ h k (w.Down m) is = cc
asks_act _ h k (w.Join c) is = cc
asks_act _ h k (w.Enter j c) is = cc
asks_act _ h k (w.Wait j n) is = cc

disabled_goes : {b : Book} {t : ℕ} (q : Request) (h : IsAsking b t q) (what : What) (l : ℕ) (x : Entry) → request_for l what ≡ Some q → ends_blocked (entries_of t b.entries) ≡ false
    → IsDisabled b.store what → x ≡ e.Blocked t (line_in q) what → GoesWith b t x b.store
disabled_goes {b} {t} q h what l x is free disabled tells =
    let waits = waits_for q l what is in
    let asks = blocks b.program (plans (setting b)) (own (setting b) b.entries t h.asks.state) q l what (asks_act q h l what is) (waits.named t) free in
    let now : IsDisabled (replay (start b.program thread_limit) h.going.lawful.events) what = subst (λ z. IsDisabled z what) (sym h.going.store) disabled in
    let more = blocked_turn h l what waits.later waits.stays asks (waits.also t) free (disabled_for b t h what l q is now) in
    subst (λ z. GoesWith b t z b.store) (sym (tells ∙ ap (λ z. e.Blocked t z what) waits.line)) more
  where
    disabled_for : (b : Book) (t : ℕ) {q : Request} (h : IsAsking b t q) (what : What) (l : ℕ) (u : Request) → request_for l what ≡ Some u
        → IsDisabled (replay (start b.program thread_limit) h.going.lawful.events) what → IsDisabledFor (setting b) (front_of (setting b) b.entries h.going.lawful.events) t what
    disabled_for b t h (w.Lock m) l u is d = d
    disabled_for b t h (w.Down m) l u is d = d
    disabled_for b t h (w.Join c) l u is d = d
    disabled_for b t h (w.Enter k c) l u is d = cc
    disabled_for b t h (w.Wait k n) l u is d = cc

-- Whatever the answer of the store is, the journal with its entry goes on.
pub answer_goes : {b : Book} {t : ℕ} (q : Request) (h : IsAsking b t q) (y : Answer) (x : Entry) (new : Store) → Answers b.store t q y new → IsEntryFor t q y x
    → ((what : What) → y ≡ a.Disabled what → ends_blocked (entries_of t b.entries) ≡ false) → GoesWith b t x new
answer_goes {b} {t} q h (a.Granted v) x new answers tells free = granted_goes q h v x new tells (deeds b.store t q (a.Granted v) new answers)
answer_goes {b} {t} q h (a.Trapped n) x new answers tells free = trapped_goes q h x new tells (deeds b.store t q (a.Trapped n) new answers)
answer_goes {b} {t} q h (a.Disabled what) x new answers tells free =
    subst (λ z. GoesWith b t x z) (sym answers.1.1) (disabled_goes q h what answers.0.0 x answers.0.1 (free what refl) answers.1.0 tells)

-- Operations

completions : (es : List Entry) (k : ℕ) (f : Plan) (ns : List ℕ) → ((n : ℕ) → before_in n f.rulings ≡ None) → AllByRecursion (λ n. HasCompletions es k (before_in n f.rulings)) ns
completions es k f [] none = tt
completions es k f (n ∷ ns) none = (subst (HasCompletions es k) (sym (none n)) tt, completions es k f ns none)

-- what is made where nothing is waited for
made_entry : (t : ℕ) (q : Request) (m : Made) → m.wait ≡ None → IsMade t q m.wait m → IsMade t q None m
made_entry t q m none made = subst (λ o. IsMade t q o m) none made

-- Whatever comes of an operation, the journal with its entry goes on.
pub operation_made : {b : Book} {t : ℕ} (q : Request) (h : IsAsking b t q) (o : Ops) → IsOpsOf (plans (setting b)) (front b).control o → (m : Made) (new : Ops) → asks_operation q ≡ true
    → Operates o t q m new → ((what : What) → m.wait ≡ Some what → ends_blocked (entries_of t b.entries) ≡ false) → GoesWith b t m.entry b.store
operation_made {b} {t} (r.At l k ns) h o ops m new is op free =
    let made = made_entry t (r.At l k ns) m op.0.0 op.1 in
    let none : (n : ℕ) → before_in n (Plan.rulings (plans (setting b) k)) ≡ None = λ n. no_before 1 n (Plan.rulings (plans (setting b) k)) (each_excludes b.program b.commands h.going.exclusions k) in
    let more =
    operation_turn h l (at k ns) refl h.asks.next (none_crossed h (e.At t l k ns) refl refl refl) (λ j under some. h.asks.away.asks j under some)
    (completions b.entries k (plans (setting b) k) ns none) refl
    in
    subst (λ z. GoesWith b t z b.store) (sym made) more
operation_made {b} {t} (r.Past l k ns) h o ops m new is op free =
    let made = made_entry t (r.Past l k ns) m op.0.0 op.1 in
    subst (λ z. GoesWith b t z b.store) (sym made)
    (operation_turn h l (past k ns) refl h.asks.next (none_crossed h (e.Past t l k ns) refl refl refl) (λ j under some. h.asks.away.asks j under some) tt refl)
operation_made {b} {t} (r.Back l) h o ops m new is op free =
    let made = made_entry t (r.Back l) m op.0.0 op.1 in
    subst (λ z. GoesWith b t z b.store) (sym made)
    (operation_turn h l back refl h.asks.next (none_crossed h (e.Back t l) refl refl refl) (λ j under some. h.asks.away.asks j under some) tt refl)
operation_made {b} {t} (r.Leave l k c) h o ops m new is op free =
    let made = made_entry t (r.Leave l k c) m op.0.0 op.1 in
    subst (λ z. GoesWith b t z b.store) (sym made)
    (operation_turn h l (leave k c) refl h.asks.next (none_crossed h (e.Leave t l k c) refl refl refl) (λ j under some. h.asks.away.asks j under some) tt refl)
operation_made {b} {t} (r.Cross l y v n) h o ops m new is op free =
    let made = made_entry t (r.Cross l y v n) m op.0.0 op.1 in
    subst (λ z. GoesWith b t z b.store) (sym made)
    (operation_turn h l (cross y v n) refl h.asks.next (some_crossed b t l y v n (h.asks.crosses refl)) (λ j under some. h.asks.away.asks j under some) h.asks.listed refl)
operation_made {b} {t} (r.Enter l k c) h o ops m new is op free = by_wait m.wait refl op.0 op.1
  where
    by_wait : (x : Option What) → m.wait ≡ x → Locks o t (r.Enter l k c) x new → IsMade t (r.Enter l k c) x m → GoesWith b t m.entry b.store
    by_wait None none locks made =
        let nobody = locks.0 in
        subst (λ z. GoesWith b t z b.store) (sym made)
        (operation_turn h l (enters k c) refl h.asks.next (none_crossed h (e.Enter t l k c) refl refl refl) (λ j under some. h.asks.away.asks j under some)
        (subst (λ hs. list_any (λ (g : Holder). (g.filter == k) && (g.clause == c)) hs ≡ false) ops.holders nobody) refl)
    by_wait (Some what) waits locks made =
        let told : m.entry ≡ e.Blocked t l (w.Enter k c) = made ∙ ap (λ z. e.Blocked t l z) locks.0 in
        let lock : IsLockedFor o t k c = locks.1.0 in
        let off : IsHeldByOther (front_of (setting b) b.entries h.going.lawful.events) k c t = record {
          by = lock.by;
          other = lock.other;
          holds = subst (λ hs. list_any (λ (g : Holder). (g.filter == k) && ((g.clause == c) && (g.thread == lock.by))) hs ≡ true) ops.holders lock.holds;
        } in
        let asks = owed_blocks b.program (plans (setting b)) (own (setting b) b.entries t h.asks.state) l k c h.asks.next (free what waits) in
        subst (λ z. GoesWith b t z b.store) (sym told) (blocked_turn h l (w.Enter k c) refl refl asks refl (free what waits) off)
operation_made {b} {t} (r.Post l k n) h o ops m new is op free =
    absurd (no_post b.program (plans (setting b)) (own (setting b) b.entries t h.asks.state) l k n (each_excludes b.program b.commands h.going.exclusions) h.asks.next)
operation_made {b} {t} (r.Wait l k n) h o ops m new is op free =
    absurd (no_wait b.program (plans (setting b)) (own (setting b) b.entries t h.asks.state) l k n (each_excludes b.program b.commands h.going.exclusions) h.asks.next)
operation_made _ h o ops m new is op free = cc
