-- Lawful journals of whose entries more is known than the definition asks. `Enough` proves that all lawful journals are such.
use Rattle.std.proofs.Common.{ℕ, ◌≡◌, ◌==◌, true, false, List, ◌∷◌, ◌++◌, map, Option, Some, None, refl, ◌&&◌}
use Rattle.std.specs.List.{AllByRecursion, list_any}
use Rattle.loom_trace.specs.declared.entry.Entry.{Entry}
use Rattle.loom_trace.specs.declared.entry.Entry.TheVariants as e
use Rattle.loom_event.specs.TargetEvent.{TargetEvent, entry_of, targets}
use Rattle.loom_event.specs.Entries.{thread_of}
use Rattle.loom_event.specs.Replay.{start, thread_at, replay}
use Rattle.loom_event.specs.Run.{AreRun}
use Rattle.loom_law.specs.Filter.{Plan, before_in}
use Rattle.loom_law.specs.Walk.{Version}
use Rattle.loom_law.specs.Control.{Holder, listed_places}
use Rattle.loom_law.specs.Lawful.{Setting, Front, front_at, plans, HasPart, IsDisabledFor, MayMove, HasCompletions, HasPosts, is_held_by, is_installed, Permits, MayControl, MayFollowBy, IsLawful}
use Rattle.loom_law.specs.Laws.{Balances}

-- what is permitted and what balances, as one
abbrev pub Keeps : Setting → Front → Entry → Type 0
Keeps s f (e.Cross t l x v n) = (v ≡ Version.number f.control.version) × AllByRecursion (λ y. y ≡ x) (listed_places t f.entries)
Keeps s f (e.Blocked t l what) = IsDisabledFor s f t what
Keeps s f (e.Enter t l k c) =
    (is_installed f.control k ≡ true) × (list_any (λ (h : Holder). (h.filter == k) && (h.clause == c)) f.control.holders ≡ false)
Keeps s f (e.Leave t l k c) = is_held_by f.control k c t ≡ true
Keeps s f (e.Wait t l k n) = (is_installed f.control k ≡ true) × HasPosts f.entries k (before_in n (Plan.rulings (plans s k)))
Keeps s f (e.Post t l k n) = is_installed f.control k ≡ true
Keeps s f (e.At t l k ns) = (is_installed f.control k ≡ true) × AllByRecursion (λ n. HasCompletions f.entries k (before_in n (Plan.rulings (plans s k)))) ns
Keeps s f (e.Past t l k ns) = is_installed f.control k ≡ true
Keeps s f (e.End t l) = list_any (λ (h : Holder). h.thread == t) f.control.holders ≡ false
Keeps s f _ = Unit {0}

abbrev pub StandsBy : Setting → Front → Entry → List Entry → Option ℕ → Type 0
StandsBy s f x rest None = MayControl s f x rest
StandsBy s f x rest (Some t) = MayMove s f t x × Keeps s f x

abbrev pub Stands : Setting → Front → Entry → List Entry → Type 0
Stands s f x rest = StandsBy s f x rest (thread_of x)

pub record IsStrict (s : Setting) (es : List Entry) : Type 0 where
  pub events : List TargetEvent
  pub tells : map entry_of events ≡ targets es
  pub run : AreRun s.program s.threads events
  pub parts : (t : ℕ) → HasPart s es t (thread_at (replay (start s.program s.threads) events) t)
  pub stands : (front : List Entry) (x : Entry) (rest : List Entry) → es ≡ front ++ x ∷ rest → Stands s (front_at s events front) x rest

-- Such a journal is lawful, and its entries balance

permitted : (s : Setting) (f : Front) (x : Entry) → Keeps s f x → Permits s f x
permitted s f (e.Cross t l x v n) h = h.1
permitted s f (e.Blocked t l what) h = h
permitted s f (e.Enter t l k c) h = h.1
permitted s f (e.Wait t l k n) h = h.1
permitted s f (e.At t l k ns) h = h.1
permitted s f _ h = tt

balanced : (s : Setting) (f : Front) (x : Entry) → Keeps s f x → Balances f x
balanced s f (e.Cross t l x v n) h = h.0
balanced s f (e.Enter t l k c) h = h.0
balanced s f (e.Leave t l k c) h = h
balanced s f (e.Wait t l k n) h = h.0
balanced s f (e.Post t l k n) h = h
balanced s f (e.At t l k ns) h = h.0
balanced s f (e.Past t l k ns) h = h
balanced s f (e.End t l) h = h
balanced s f _ h = tt

follows_by : (s : Setting) (f : Front) (x : Entry) (rest : List Entry) (o : Option ℕ) → StandsBy s f x rest o → MayFollowBy s f x rest o
follows_by s f x rest None h = h
follows_by s f x rest (Some t) h = (h.0, permitted s f x h.1)

pub lawful : (s : Setting) (es : List Entry) (h : IsStrict s es) → (h' : IsLawful s es) × (h'.events ≡ h.events)
lawful s es h = (
  record {
    events = h.events;
    tells = h.tells;
    run = h.run;
    parts = h.parts;
    follows = λ front x rest is. follows_by s (front_at s h.events front) x rest (thread_of x) (h.stands front x rest is);
  },
  refl,
)

balances_by : (s : Setting) (f : Front) (x : Entry) (rest : List Entry) (o : Option ℕ) → thread_of x ≡ o → StandsBy s f x rest o → Balances f x
balances_by s f (e.Asked k) rest None of h = tt
balances_by s f (e.Refused k n m) rest None of h = tt
balances_by s f (e.Installed k v ps) rest None of h = tt
balances_by s f (e.Removed k v ps) rest None of h = tt
balances_by s f (e.Stalled k t l) rest None of h = tt
balances_by s f (e.Cut k) rest None of h = tt
balances_by s f (e.Unreached k) rest None of h = tt
balances_by s f (e.Finish k) rest None of h = tt
balances_by s f _ rest None of h = cc
balances_by s f x rest (Some t) of h = balanced s f x h.1

pub balances : (s : Setting) (es : List Entry) (h : IsStrict s es) (front : List Entry) (x : Entry) (rest : List Entry) → es ≡ front ++ x ∷ rest
    → Balances (front_at s h.events front) x
balances s es h front x rest is = balances_by s (front_at s h.events front) x rest (thread_of x) refl (h.stands front x rest is)
