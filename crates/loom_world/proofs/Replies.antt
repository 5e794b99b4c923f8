-- An answer of the store, or what comes of an operation, replies to what a thread asks for.
use Rattle.std.proofs.Common.{ℕ, ◌≡◌, ◌⊎◌, inl, inr, Bool, true, false, List, [], ◌∷◌, ◌++◌, ℤ, pos, negsuc, Option, Some, None, refl, sym, ap, ◌∙◌, subst}
use Rattle.loom_lang.specs.Trace.{Cause, not_held, not_spawned, threads, overflow, trap, join}
use Rattle.loom_lang.specs.Acts.{Deed}
use Rattle.loom_trace.specs.declared.entry.Entry.{Entry}
use Rattle.loom_trace.specs.declared.entry.Entry.TheVariants as e
use Rattle.loom_trace.specs.declared.entry.What.{What}
use Rattle.loom_trace.specs.declared.request.Request.{Request}
use Rattle.loom_trace.specs.declared.request.Request.TheVariants as r
use Rattle.loom_event.specs.Answer.{asks_begin, asks_operation, trap_deed, trap_at, cause_of, IsEntryOf, IsAnswered, IsAnswerTo, IsGrantOf, IsBlockedAt}
use Rattle.loom_event.specs.Entries.{thread_of, is_thread, last_of_thread}
use Rattle.loom_event.specs.Replay.{Store}
use Rattle.loom_law.specs.Control.{entries_of}
use Rattle.loom_law.specs.Lawful.{plans, own, IsDisabledFor, IsBlocked, IsBlockedBy}
use Rattle.loom_law.specs.TurnLaws.{is_blocked_entry, blocked_behind, ends_blocked}
use Rattle.loom_law.proofs.Earlier.{by_test}
use Rattle.loom_strand.specs.Life.{awaits_end, asks_cross}
use Rattle.loom_strand.specs.Strand.{IsReplyTo}
use Rattle.loom_store.specs.declared.answer.Answer.{Answer}
use Rattle.loom_store.specs.declared.answer.Answer.TheVariants as a
use Rattle.loom_store.specs.Answer.{Answers, given_deed}
use Rattle.loom_store.specs.Laws.{LeadsTo}
use Rattle.loom_store.proofs.Deeds.{deeds}
use Rattle.loom_world.specs.declared.operate.Made.{Made}
use Rattle.loom_world.specs.Book.{Book, setting, front}
use Rattle.loom_world.specs.Asking.{Asks}
use Rattle.loom_world.specs.Entry.{IsGrantWith, IsEntryFor}
use Rattle.loom_world.specs.Operating.{IsMade}
use Rattle.loom_world.proofs.Awaits.{IsJoin, no_tick}
use Rattle.loom_world.proofs.OpenTurns.{IsAsking, IsActing, acting, deed_joins}

-- The last entry of a thread

abbrev pub last_in : Option Entry → List Entry → Option Entry
last_in o [] = o
last_in o (x ∷ xs) = last_in (Some x) xs

pub last_is : (t : ℕ) (o : Option Entry) (es : List Entry) → last_of_thread t o es ≡ last_in o (entries_of t es)
last_is t o [] = refl
last_is t o (x ∷ xs) = by_test (is_thread t (thread_of x)) (last_of_thread t o (x ∷ xs) ≡ last_in o (entries_of t (x ∷ xs)))
    (λ h. rw h (last_is t (Some x) xs))
    (λ h. rw h (last_is t o xs))

last_last : (o : Option Entry) (xs : List Entry) (x : Entry) → last_in o (xs ++ x ∷ []) ≡ Some x
last_last o [] x = refl
last_last o (y ∷ xs) x = last_last (Some y) xs x

-- the last of some entries is `Blocked`
record EndsBlocked (es : List Entry) : Type 0 where
  front : List Entry
  last : Entry
  is : es ≡ front ++ last ∷ []
  blocked : is_blocked_entry last ≡ true

ends_from : (x : Entry) (xs : List Entry) → blocked_behind (is_blocked_entry x) xs ≡ true → EndsBlocked (x ∷ xs)
ends_from x [] h = record { front = []; last = x; is = refl; blocked = h }
ends_from x (y ∷ xs) h = let more = ends_from y xs h in record { front = x ∷ more.front; last = more.last; is = ap (λ zs. x ∷ zs) more.is; blocked = more.blocked }

ends_so : (es : List Entry) → ends_blocked es ≡ true → EndsBlocked es
ends_so [] h = cc
ends_so (x ∷ xs) h = ends_from x xs h

-- One request is told as blocked in one way.
same_blocked : (t : ℕ) (q : Request) (x y : Entry) → IsBlockedAt t q x → IsBlockedAt t q y → x ≡ y
same_blocked t (r.Lock l m) x y h g = h ∙ sym g
same_blocked t (r.Down l m) x y h g = h ∙ sym g
same_blocked t (r.Join l (pos c)) x y h g = h ∙ sym g
same_blocked t (r.Join l (negsuc c)) x y h g = absurd h
same_blocked t (r.Enter l k c) x y h g = h ∙ sym g
same_blocked t (r.Wait l k n) x y h g = h ∙ sym g
same_blocked t _ x y h g = absurd h

-- A request that is disabled, of a thread that isn't blocked: its last entry isn't `Blocked`.
pub not_told : {b : Book} {t : ℕ} {q : Request} → Asks b t q → (IsBlocked (setting b) (front b) t → ⊥) → asks_begin q ≡ false → asks_cross q ≡ false → (l : ℕ) (what : What)
    → IsBlockedAt t q (e.Blocked t l what) → IsDisabledFor (setting b) (front b) t what → ends_blocked (entries_of t b.entries) ≡ false
not_told {b} {t} {q} asks free later stays l what named disabled = by_last (ends_blocked (entries_of t b.entries)) refl
  where
    by_last : (c : Bool) → ends_blocked (entries_of t b.entries) ≡ c → ends_blocked (entries_of t b.entries) ≡ false
    by_last false told = told
    by_last true told =
        let x = ends_so (entries_of t b.entries) told in
        let same : x.last ≡ e.Blocked t l what = same_blocked t q x.last (e.Blocked t l what) (asks.blocked stays x.front x.last x.is x.blocked) named in
        let last : last_of_thread t None b.entries ≡ Some (e.Blocked t l what) =
        last_is t None b.entries ∙ (ap (last_in None) x.is ∙ (last_last None x.front x.last ∙ ap Some same)) in
        let blocked : IsBlocked (setting b) (front b) t = subst (λ z. IsBlockedBy (setting b) (front b) t z) (sym last) (disabled, asks.outrun later stays) in
        absurd (free blocked)

-- What the entry says

grant_answers : (t : ℕ) (q : Request) (v : ℤ) (x : Entry) → IsGrantWith t q v x → IsAnswerTo t q x
grant_answers t (r.Begin l) v x h = inl (v, h)
grant_answers t (r.End l) v x h = inl (v, h)
grant_answers t (r.Trap l n) v x h = inr h
grant_answers t (r.Read l w) v x h = inl (v, h)
grant_answers t (r.Write l w u) v x h = inl (v, h)
grant_answers t (r.Lock l m) v x h = inl (v, h)
grant_answers t (r.Unlock l m) v x h = inl (v, h)
grant_answers t (r.Down l k) v x h = inl (v, h)
grant_answers t (r.Up l k) v x h = inl (v, h)
grant_answers t (r.Spawn l g us) v x h = inl (v, h)
grant_answers t (r.Join l u) v x h = inl (v, h)
grant_answers t (r.Print l u) v x h = inl (v, h)
grant_answers t (r.Tick l k) v x h = h
grant_answers t _ v x h = absurd h

trap_answers : (t : ℕ) (q : Request) (x : Entry) → IsEntryOf t (trap_deed q) x → IsAnswerTo t q x
trap_answers t (r.Begin l) x h = inr h
trap_answers t (r.End l) x h = inr h
trap_answers t (r.Trap l n) x h = inr h
trap_answers t (r.Read l w) x h = inr h
trap_answers t (r.Write l w u) x h = inr h
trap_answers t (r.Lock l m) x h = inr h
trap_answers t (r.Unlock l m) x h = inr h
trap_answers t (r.Down l k) x h = inr h
trap_answers t (r.Up l k) x h = inr h
trap_answers t (r.Spawn l g us) x h = inr h
trap_answers t (r.Join l u) x h = inr h
trap_answers t (r.Print l u) x h = inr h
trap_answers t _ x h = absurd h

-- Where the thread waits for the end of another one, the entry grants its request.

trap_is : (l : ℕ) (o : Option Cause) (d : Deed) → trap_at l o ≡ Some d → IsJoin d.act → ⊥
trap_is l None d h j = cc
trap_is l (Some c) d h j = let same : trap c ≡ d.act = cc (h) in let no : trap c ≡ join (IsJoin.child j) = same ∙ IsJoin.is j in cc

trap_no_join : (q : Request) (d : Deed) → trap_deed q ≡ Some d → IsJoin d.act → ⊥
trap_no_join (r.Trap l n) d h j = trap_is l (cause_of n) d h j
trap_no_join (r.Unlock l m) d h j = trap_is l (Some (not_held m)) d h j
trap_no_join (r.Up l m) d h j = trap_is l (Some (overflow m)) d h j
trap_no_join (r.Spawn l f vs) d h j = trap_is l (Some threads) d h j
trap_no_join (r.Join l u) d h j = trap_is l (Some (not_spawned u)) d h j
trap_no_join _ d h j = cc

grant_of : (t : ℕ) (q : Request) (d : Deed) (x : Entry) → IsAnswered q d → IsJoin d.act → IsEntryOf t (Some d) x → IsGrantOf t q x
grant_of t q d x (inl g) j tells = (g.0, subst (λ o. IsEntryOf t o x) (sym g.1) tells)
grant_of t q d x (inr g) j tells = absurd (trap_no_join q d g j)

deed_grants : {b : Book} {t : ℕ} {q : Request} (h : IsAsking b t q) → IsActing b t h.asks.state q → asks_cross q ≡ false → (o : Option Deed) (x : Entry) (new : Store) → IsEntryOf t o x
    → LeadsTo b.store t q o new → awaits_end (entries_of t b.entries) ≡ true → IsGrantOf t q x
deed_grants h act acts None x new tells leads waits = absurd tells
deed_grants {b} {t} {q} h act acts (Some d) x new tells leads waits = grant_of t q d x leads.0 (deed_joins h act acts d leads.0 leads.1.0 waits) tells

-- The request is an act, or a tick.
data IsActRequest (b : Book) (t : ℕ) (q : Request) (h : IsAsking b t q) : Type 0 where
  is_act : IsActing b t h.asks.state q → ((v : ℤ) (x : Entry) → IsGrantWith t q v x → IsEntryOf t (given_deed q v) x) → IsActRequest b t q h
  is_tick : (l k : ℕ) → q ≡ r.Tick l k → IsActRequest b t q h

act_request : {b : Book} {t : ℕ} (q : Request) (h : IsAsking b t q) → asks_operation q ≡ false → IsActRequest b t q h
act_request (r.Begin l) h act = is_act (acting h.asks.next h.asks.away.asks h.under_way) (λ v x g. g)
act_request (r.End l) h act = is_act (acting h.asks.next h.asks.away.asks h.under_way) (λ v x g. g)
act_request (r.Trap l n) h act = is_act (acting h.asks.next h.asks.away.asks h.under_way) (λ v x g. g)
act_request (r.Read l i) h act = is_act (acting h.asks.next h.asks.away.asks h.under_way) (λ v x g. g)
act_request (r.Write l i u) h act = is_act (acting h.asks.next h.asks.away.asks h.under_way) (λ v x g. g)
act_request (r.Lock l m) h act = is_act (acting h.asks.next h.asks.away.asks h.under_way) (λ v x g. g)
act_request (r.Unlock l m) h act = is_act (acting h.asks.next h.asks.away.asks h.under_way) (λ v x g. g)
act_request (r.Down l m) h act = is_act (acting h.asks.next h.asks.away.asks h.under_way) (λ v x g. g)
act_request (r.Up l m) h act = is_act (acting h.asks.next h.asks.away.asks h.under_way) (λ v x g. g)
act_request (r.Spawn l f us) h act = is_act (acting h.asks.next h.asks.away.asks h.under_way) (λ v x g. g)
act_request (r.Join l u) h act = is_act (acting h.asks.next h.asks.away.asks h.under_way) (λ v x g. g)
act_request (r.Print l u) h act = is_act (acting h.asks.next h.asks.away.asks h.under_way) (λ v x g. g)
act_request (r.Tick l k) h act = is_tick l k refl
act_request _ h act = cc

no_tick_there : {b : Book} {t : ℕ} {q : Request} (h : IsAsking b t q) (l k : ℕ) → q ≡ r.Tick l k → awaits_end (entries_of t b.entries) ≡ true → ⊥
no_tick_there {b} {t} {q} h l k is waits = by_request q is h
  where
    by_request : (u : Request) → u ≡ r.Tick l k → IsAsking b t u → ⊥
    by_request (r.Tick i j) same g = no_tick b.program (plans (setting b)) (own (setting b) b.entries t g.asks.state) i j g.asks.next waits
    by_request _ same g = cc

-- no act takes a newer version
acts_stay : (q : Request) → asks_operation q ≡ false → asks_cross q ≡ false
acts_stay (r.Cross l y v n) h = cc
acts_stay _ h = refl

-- Replies

-- it answers the request, or tells that it is disabled, where the thread wasn't told so
abbrev Replies : ℕ → Request → Entry → Bool → Bool → Type 0
Replies t q x blocked awaits = (IsAnswerTo t q x × (awaits ≡ true → asks_operation q ≡ false → IsGrantOf t q x)) ⊎ (IsBlockedAt t q x × (blocked ≡ false))

reply_by : (t : ℕ) (q : Request) (x : Entry) (blocked awaits : Bool) → Replies t q x blocked awaits → IsReplyTo blocked awaits t (Some q) x
reply_by t q x true awaits (inl h) = h
reply_by t q x true awaits (inr h) = let no : true ≡ false = h.1 in cc
reply_by t q x false awaits (inl h) = inl h
reply_by t q x false awaits (inr h) = inr h.0

-- what the store answers
pub store_replies : {b : Book} {t : ℕ} {q : Request} (h : IsAsking b t q) → asks_operation q ≡ false → (y : Answer) (x : Entry) (new : Store) → Answers b.store t q y new → IsEntryFor t q y x
    → ((what : What) → y ≡ a.Disabled what → IsBlockedAt t q x × (ends_blocked (entries_of t b.entries) ≡ false))
    → IsReplyTo (ends_blocked (entries_of t b.entries)) (awaits_end (entries_of t b.entries)) t (Some q) x
store_replies {b} {t} {q} h acts y x new answers tells disabled =
    reply_by t q x (ends_blocked (entries_of t b.entries)) (awaits_end (entries_of t b.entries)) (by_answer y refl answers tells)
  where
    granted : (v : ℤ) → Answers b.store t q (a.Granted v) new → IsGrantWith t q v x → IsActRequest b t q h → awaits_end (entries_of t b.entries) ≡ true → IsGrantOf t q x
    granted v g told (is_act act given) waits = deed_grants h act (acts_stay q acts) (given_deed q v) x new (given v x told) (deeds b.store t q (a.Granted v) new g) waits
    granted v g told (is_tick l k is) waits = absurd (no_tick_there h l k is waits)

    trapped : (n : ℕ) → Answers b.store t q (a.Trapped n) new → IsEntryOf t (trap_deed q) x → IsActRequest b t q h → awaits_end (entries_of t b.entries) ≡ true → IsGrantOf t q x
    trapped n g told (is_act act given) waits = deed_grants h act (acts_stay q acts) (trap_deed q) x new told (deeds b.store t q (a.Trapped n) new g) waits
    trapped n g told (is_tick l k is) waits = absurd (no_tick_there h l k is waits)

    by_answer : (z : Answer) → y ≡ z → Answers b.store t q z new → IsEntryFor t q z x → Replies t q x (ends_blocked (entries_of t b.entries)) (awaits_end (entries_of t b.entries))
    by_answer (a.Granted v) is g told = inl (grant_answers t q v x told, λ waits also. granted v g told (act_request q h acts) waits)
    by_answer (a.Trapped n) is g told = inl (trap_answers t q x told, λ waits also. trapped n g told (act_request q h acts) waits)
    by_answer (a.Disabled what) is g told = inr (disabled what is)

-- what comes of an operation
pub operation_replies : {b : Book} {t : ℕ} (q : Request) (h : IsAsking b t q) → asks_operation q ≡ true → (m : Made) → IsMade t q m.wait m
    → ((what : What) → m.wait ≡ Some what → IsBlockedAt t q m.entry × (ends_blocked (entries_of t b.entries) ≡ false))
    → IsReplyTo (ends_blocked (entries_of t b.entries)) (awaits_end (entries_of t b.entries)) t (Some q) m.entry
operation_replies {b} {t} q h is m made disabled =
    reply_by t q m.entry (ends_blocked (entries_of t b.entries)) (awaits_end (entries_of t b.entries)) (by_wait m.wait refl made)
  where
    by_wait : (o : Option What) → m.wait ≡ o → IsMade t q o m → Replies t q m.entry (ends_blocked (entries_of t b.entries)) (awaits_end (entries_of t b.entries))
    by_wait None none told = inl (told, λ waits act. let no : true ≡ false = sym is ∙ act in cc)
    by_wait (Some what) some told = inr (disabled what some)
