-- The turn of a thread: what is left of its premises where the book knows what it asks for.
use Rattle.std.proofs.Common.{ℕ, ◌≡◌, Bool, true, false, not, List, [], ◌∷◌, ◌++◌, Option, Some, None, refl, sym, ap, ◌∙◌, subst}
use Rattle.loom_lang.specs.Places.{nowhere}
use Rattle.loom_lang.specs.Acts.{Deed}
use Rattle.loom_lang.specs.Trace.{Act, begin, end, trap, read, write, lock, unlock, down, up, spawn, join, print, made}
use Rattle.loom_trace.specs.Limits.{thread_limit}
use Rattle.loom_trace.specs.declared.entry.Entry.{Entry}
use Rattle.loom_trace.specs.declared.entry.Entry.TheVariants as e
use Rattle.loom_trace.specs.declared.entry.What.{What}
use Rattle.loom_trace.specs.declared.request.Request.{Request}
use Rattle.loom_event.specs.Answer.{asks_begin, IsAnswered, IsBlockedAt, IsEntryOf}
use Rattle.loom_event.specs.TargetEvent.{event_of_deed, entry_by}
use Rattle.loom_event.specs.Replay.{ThreadState, Store, start, thread_at, replay, after_event, IsAllowed}
use Rattle.loom_law.specs.Walk.{Version, Operation, blocked, goes, entry_of_operation, unborn, walk_from}
use Rattle.loom_law.specs.ThreadPart.{walk_of, HasMoved, KeepsAway, AsksToMake, AsksToAct}
use Rattle.loom_law.specs.Control.{Control, versions_of, entries_of, listed_places}
use Rattle.loom_law.specs.Lawful.{front_of, plans, own, IsFlagged, IsOpen, IsDisabledFor, is_cross, owes_cross, is_begin, StaysAway, Permits}
use Rattle.loom_law.specs.Laws.{with_newest, own_with}
use Rattle.loom_law.specs.TurnLaws.{MayAnswer, ends_blocked, AsksToDo}
use Rattle.loom_law.proofs.Turns.{op_thread, moved}
use Rattle.loom_law.proofs.Answers.{answers, answer_turns}
use Rattle.loom_law.proofs.Makings.{making_turns}
use Rattle.loom_strand.specs.Life.{is_end, awaits_end, asks_cross}
use Rattle.loom_store.specs.Laws.{LeadsTo}
use Rattle.loom_world.specs.Book.{Book, setting, front}
use Rattle.loom_world.specs.Flags.{IsUnderWay, IsFlaggedNow}
use Rattle.loom_world.specs.Asking.{minds_flags, KeepsActing, PassesNoFlag, Asks}
use Rattle.loom_world.proofs.NoOrders.{nobody_off}
use Rattle.loom_world.proofs.Awaits.{IsJoin, turn_joins}
use Rattle.loom_world.proofs.MindsFlags.{minds_since, passes_so}
use Rattle.loom_world.proofs.Going.{IsGoing, begins_first, event_goes, operation_goes}

-- The thread asks for this, threads may make entries, and a command that is asked isn't refused: it flags place 0.
pub record IsAsking (b : Book) (t : ℕ) (q : Request) : Type 0 where
  pub going : IsGoing b.program b.commands b.limit b.entries b.store
  pub goes_on : IsOpen (setting b) (front_of (setting b) b.entries going.lawful.events)
  pub under_way : (k : ℕ) → Control.asked (front b).control ≡ Some k → IsUnderWay b k
  pub flagged : (k : ℕ) → IsUnderWay b k → IsFlaggedNow b nowhere
  pub asks : Asks b t q

-- Where no version is to be taken

owes_none : (x : Entry) → owes_cross x [] ≡ false
owes_none (e.Begin t l) = refl
owes_none _ = refl

owes_begin : (x : Entry) (ys : List ℕ) → is_begin x ≡ true → owes_cross x ys ≡ false
owes_begin (e.Begin t l) ys h = refl
owes_begin _ ys h = cc

no_cross : (x : Entry) (ys : List ℕ) (c : Bool) → is_begin x ≡ c → (c ≡ false → ys ≡ []) → owes_cross x ys ≡ false
no_cross x ys true is none = owes_begin x ys is
no_cross x ys false is none = ap (owes_cross x) (none refl) ∙ owes_none x

-- With the entry the journal goes on, and the thread passes no flagged place that it may not pass.
abbrev pub GoesWith : Book → ℕ → Entry → Store → Type 0
GoesWith b t x new = IsGoing b.program b.commands b.limit (b.entries ++ x ∷ []) new × PassesNoFlag b t x

-- Acts

-- the steps with which it asks for the act: where a command is asked they keep away from its flags
pub record IsActing (b : Book) (t : ℕ) (z : ThreadState) (q : Request) : Type 0 where
  pub asks : AsksToAct b.program (plans (setting b)) (own (setting b) b.entries t z) q
  pub away : (k : ℕ) → Control.asked (front b).control ≡ Some k → minds_flags b t ≡ true
      → KeepsAway (IsFlagged (setting b) k) (walk_of b.program (plans (setting b)) (own (setting b) b.entries t z) asks.steps)

pub acting : {b : Book} {t : ℕ} {z : ThreadState} {q : Request} → AsksToAct b.program (plans (setting b)) (own (setting b) b.entries t z) q
    → ((k : ℕ) → IsUnderWay b k → minds_flags b t ≡ true → KeepsActing (setting b) (own (setting b) b.entries t z) q k)
    → ((k : ℕ) → Control.asked (front b).control ≡ Some k → IsUnderWay b k) → IsActing b t z q
acting {b} {t} {z} {q} next away under = by_asked (Control.asked (front b).control) refl (minds_flags b t) refl
  where
    by_asked : (o : Option ℕ) → Control.asked (front b).control ≡ o → (c : Bool) → minds_flags b t ≡ c → IsActing b t z q
    by_asked None is c some = record { asks = next; away = λ k there any. let no : None ≡ Some k = sym is ∙ there in cc }
    by_asked (Some j) is false none = record { asks = next; away = λ k there any. let no : false ≡ true = sym none ∙ any in cc }
    by_asked (Some j) is true some =
        let a = away j (under j is) some in
        record {
          asks = a.asks;
          away = λ k there any.
              let both : Some j ≡ Some k = sym is ∙ there in
              let same : j ≡ k = cc in
              subst (λ i. KeepsAway (IsFlagged (setting b) i) (walk_of b.program (plans (setting b)) (own (setting b) b.entries t z) a.asks.steps)) same a.away;
        }

-- It may answer what it asks for with a deed that the store allows.
may_answer : {b : Book} {t : ℕ} {q : Request} (h : IsAsking b t q) → IsActing b t h.asks.state q → asks_cross q ≡ false → (d : Deed) → IsAnswered q d → IsAllowed b.store (event_of_deed t d)
    → MayAnswer (setting b) b.entries h.going.lawful.events t q d
may_answer {b} {t} {q} h act acts d answer allowed =
    let g = h.going in
    let z : ThreadState = h.asks.state in
    let first : is_begin (entry_by t d.line d.act) ≡ asks_begin q = begins_first g t z h.asks.there h.asks.lives d.line d.act allowed ∙ sym h.asks.begins in
    record {
      state = z;
      there = ap (λ w. thread_at w t) g.store ∙ h.asks.there;
      asks = act.asks;
      answer = answer;
      allowed = subst (λ w. IsAllowed w (event_of_deed t d)) (sym g.store) allowed;
      goes_on = h.goes_on;
      not_held_off = nobody_off (setting b) (front_of (setting b) b.entries g.lawful.events) g.exclusions t;
      no_cross = no_cross (entry_by t d.line d.act) (listed_places t b.entries) (asks_begin q) first (λ later. h.asks.outrun later acts);
      away = λ k is any. act.away k is (minds_since b t any);
      no_begin = λ k is begins. absurd (h.asks.unflagged (sym first ∙ begins) (h.flagged k (h.under_way k is)));
    }

-- With a deed that isn't its begin it takes no version.
newest_act : (t l : ℕ) (a : Act) (v : Version) (vs : List Version) → is_begin (entry_by t l a) ≡ false → with_newest (entry_by t l a) v vs ≡ vs
newest_act t l begin v vs h = cc
newest_act t l end v vs h = refl
newest_act t l (trap c) v vs h = refl
newest_act t l (read x u) v vs h = refl
newest_act t l (write x u) v vs h = refl
newest_act t l (lock x) v vs h = refl
newest_act t l (unlock x) v vs h = refl
newest_act t l (down x) v vs h = refl
newest_act t l (up x) v vs h = refl
newest_act t l (spawn c f us) v vs h = refl
newest_act t l (join c) v vs h = refl
newest_act t l (print u) v vs h = refl

-- It passes no flagged place with the deed.
deed_passes : {b : Book} {t : ℕ} {q : Request} (h : IsAsking b t q) → IsActing b t h.asks.state q → asks_cross q ≡ false → (d : Deed) → IsAnswered q d
    → IsAllowed b.store (event_of_deed t d) → PassesNoFlag b t (entry_by t d.line d.act)
unfolding may_answer
deed_passes {b} {t} {q} h act acts d answer allowed =
    let g = h.going in
    let z : ThreadState = h.asks.state in
    let x : Entry = entry_by t d.line d.act in
    let first : is_begin x ≡ asks_begin q = begins_first g t z h.asks.there h.asks.lives d.line d.act allowed ∙ sym h.asks.begins in
    let turn = answers (setting b) b.entries g.lawful t q d (may_answer h act acts d answer allowed) in
    let before = moved b.program (plans (setting b)) (own_with (setting b) b.entries t turn.0.state x) turn.0.part turn.0.before (goes (made d.line d.act)) x turn.0.last refl in
    let here : HasMoved b.program (plans (setting b)) (own_with (setting b) b.entries t z x) act.asks.steps =
    subst (λ (u : ThreadState). HasMoved b.program (plans (setting b)) (own_with (setting b) b.entries t u x) act.asks.steps) turn.1.0
    (subst (λ ss. HasMoved b.program (plans (setting b)) (own_with (setting b) b.entries t turn.0.state x) ss) turn.1.1 before) in
    passes_so b t z x h.asks.there (h.asks.begun ∙ ap not h.asks.begins)
    (λ runs k under minds.
    let later : is_begin x ≡ false = first ∙ later_than (asks_begin q) h.asks.begun runs in
    record {
      steps = act.asks.steps;
      moved = here;
      away = subst (λ (vs : List Version). KeepsAway (IsFlagged (setting b) k) (walk_from b.program (plans (setting b)) (unborn vs) act.asks.steps))
          (sym (newest_act t d.line d.act (Control.version (front b).control) (versions_of b.commands t b.entries) later)) (act.away k under.asked minds);
    })
  where
    later_than : (c : Bool) {n : Bool} → n ≡ not c → n ≡ true → c ≡ false
    later_than true is h = cc
    later_than false is h = refl

-- With the deed the journal goes on.
pub deed_goes : {b : Book} {t : ℕ} {q : Request} (h : IsAsking b t q) → IsActing b t h.asks.state q → asks_cross q ≡ false → (o : Option Deed) (x : Entry) (new : Store)
    → IsEntryOf t o x → LeadsTo b.store t q o new → GoesWith b t x new
deed_goes h act acts None x new tells leads = absurd tells
deed_goes {b} {t} {q} h act acts (Some d) x new tells leads =
    let g = h.going in
    let more = answer_turns (setting b) b.entries g.lawful g.goes_on t q d (may_answer h act acts d leads.0 leads.1.0) in
    let one = event_goes g t h.asks.state h.asks.there h.asks.lives d leads.1.0 more in
    let passes : PassesNoFlag b t (entry_by t d.line d.act) = deed_passes h act acts d leads.0 leads.1.0 in
    subst (λ w. GoesWith b t x w) (sym leads.1.1) (subst (λ w. GoesWith b t w (after_event b.store (event_of_deed t d))) (sym tells) (one, passes))

-- Where it waits for the end of a thread the deed is that join.
pub deed_joins : {b : Book} {t : ℕ} {q : Request} (h : IsAsking b t q) → IsActing b t h.asks.state q → asks_cross q ≡ false → (d : Deed) → IsAnswered q d
    → IsAllowed b.store (event_of_deed t d) → awaits_end (entries_of t b.entries) ≡ true → IsJoin d.act
deed_joins {b} {t} {q} h act acts d answer allowed waits =
    let turn = answers (setting b) b.entries h.going.lawful t q d (may_answer h act acts d answer allowed) in
    turn_joins (setting b) b.entries h.going.lawful.events t d.line d.act turn.0 waits

-- Operations

pub operation_turn : {b : Book} {t : ℕ} {q : Request} (h : IsAsking b t q) (l : ℕ) (o : Operation) → asks_begin q ≡ false
    → AsksToDo (setting b) b.entries (own (setting b) b.entries t h.asks.state) l o
    → is_cross (entry_of_operation t l o) ≡ owes_cross (entry_of_operation t l o) (listed_places t b.entries)
    → ((k : ℕ) → IsUnderWay b k → minds_flags b t ≡ true → StaysAway (setting b) (own_with (setting b) b.entries t h.asks.state (entry_of_operation t l o)) k)
    → Permits (setting b) (front_of (setting b) b.entries h.going.lawful.events) (entry_of_operation t l o) → is_end (entry_of_operation t l o) ≡ false
    → GoesWith b t (entry_of_operation t l o) b.store
operation_turn {b} {t} {q} h l o later asks crosses away permits no_end =
    let g = h.going in
    let z : ThreadState = h.asks.state in
    let there : thread_at (replay (start b.program thread_limit) g.lawful.events) t ≡ Some z = ap (λ w. thread_at w t) g.store ∙ h.asks.there in
    let more =
    making_turns (setting b) b.entries g.lawful g.goes_on t l o
    (record {
      state = z;
      there = there;
      asks = asks;
      goes_on = h.goes_on;
      not_held_off = nobody_off (setting b) (front_of (setting b) b.entries g.lawful.events) g.exclusions t;
      crosses = crosses;
      away = λ k is some. away k (h.under_way k is) (minds_since b t some);
      permits = permits;
    })
    in (
      operation_goes g t z h.asks.there h.asks.lives (sym h.asks.begins ∙ later) (entry_of_operation t l o) (op_thread t l o) no_end more,
      passes_so b t z (entry_of_operation t l o) h.asks.there (h.asks.begun ∙ ap not h.asks.begins) (λ runs k under minds. away k under minds),
    )

-- where no place is listed
pub none_crossed : {b : Book} {t : ℕ} {q : Request} (h : IsAsking b t q) (x : Entry) → asks_begin q ≡ false → asks_cross q ≡ false → is_cross x ≡ false
    → is_cross x ≡ owes_cross x (listed_places t b.entries)
none_crossed h x later stays other = other ∙ sym (ap (owes_cross x) (h.asks.outrun later stays) ∙ owes_none x)

-- where some is
pub some_crossed : (b : Book) (t l y v n : ℕ) → (listed_places t b.entries ≡ [] → ⊥) → true ≡ owes_cross (e.Cross t l y v n) (listed_places t b.entries)
some_crossed b t l y v n some = by_list (listed_places t b.entries) some
  where
    by_list : (ys : List ℕ) → (ys ≡ [] → ⊥) → true ≡ owes_cross (e.Cross t l y v n) ys
    by_list [] h = absurd (h refl)
    by_list (x ∷ ys) h = refl

-- Blocked
pub blocked_turn : {b : Book} {t : ℕ} {q : Request} (h : IsAsking b t q) (l : ℕ) (what : What) → asks_begin q ≡ false → asks_cross q ≡ false
    → AsksToMake b.program (plans (setting b)) (own (setting b) b.entries t h.asks.state) l (blocked what) → IsBlockedAt t q (e.Blocked t l what)
    → ends_blocked (entries_of t b.entries) ≡ false → IsDisabledFor (setting b) (front_of (setting b) b.entries h.going.lawful.events) t what
    → GoesWith b t (e.Blocked t l what) b.store
blocked_turn {b} {t} {q} h l what later stays asks named free disabled =
    operation_turn h l (blocked what) later asks (none_crossed h (e.Blocked t l what) later stays refl) (λ k is some. h.asks.away.blocks k is some (e.Blocked t l what) named free) disabled refl
