-- From the strand of a thread to what the book knows of it.
use Rattle.std.proofs.Common.{ℕ, zero, suc, ◌≤◌, ◌≡◌, Bool, true, false, not, ◌&&◌, List, [], ◌∷◌, ◌++◌, ℤ, length, Option, Some, None, refl, sym, ap, ◌∙◌, subst, arith, if◌then◌else◌}
use Rattle.std.specs.List.{AllByRecursion}
use mathlib.Core.Path.{fun_ext}
use Rattle.loom_tree.specs.Tree.{Source}
use Rattle.loom_lang.specs.Places.{Place, place_at}
use Rattle.loom_trace.specs.Places.{has_place}
use Rattle.loom_trace.specs.Limits.{thread_limit}
use Rattle.loom_trace.specs.declared.entry.Entry.{Entry}
use Rattle.loom_trace.specs.declared.entry.Entry.TheVariants as e
use Rattle.loom_trace.specs.declared.request.Request.{Request}
use Rattle.loom_trace.specs.declared.request.Request.TheVariants as r
use Rattle.loom_event.specs.Answer.{asks_begin, IsBlockedAt, HasNumbers}
use Rattle.loom_event.specs.Entries.{thread_of, is_thread}
use Rattle.loom_event.specs.Replay.{ThreadState, thread_at}
use Rattle.loom_law.specs.Walk.{Version, Plans, PartStep, Walk}
use Rattle.loom_law.specs.ThreadPart.{Own, walk_of, IsPart, ComesTo, KeepsAway, with_entry}
use Rattle.loom_law.specs.Control.{Command, Control, first_control, versions_of, entries_of, listed_places, since_asked, since_asked_from}
use Rattle.loom_law.specs.Lawful.{Setting, plans, own, running_thread, has_any, IsFlagged, HasPart, StaysAway}
use Rattle.loom_law.specs.TurnLaws.{ends_blocked}
use Rattle.loom_law.proofs.Earlier.{first_begins, takings_taken, takings, if_true, if_false}
use Rattle.loom_law.proofs.Longer.{not_mine}
use Rattle.loom_version.specs.Plans.{plans_in}
use Rattle.loom_strand.specs.declared.stage.Birth.{Birth}
use Rattle.loom_strand.specs.Life.{has_none, asks_cross, IsLastBlockedAt}
use Rattle.loom_strand.specs.InPart.{ArePassedBy}
use Rattle.loom_strand.specs.Strand.{Strand, own_of, AsksNext, StandsAt, ComesToPass, IsOutrun, CrossesAt, Requests, KeepsFrom, KeepsAwayFrom, StaysFrom, ActsAway, AsksAway, Parks}
use Rattle.loom_world.specs.Book.{Book, setting, front, stand_at, found_at, found_place, HasFilterPlans, IsStandOf, HasLawfulJournal}
use Rattle.loom_world.specs.Flags.{AreFlagsFor, IsUnderWay, AreFlags, IsFlaggedNow}
use Rattle.loom_world.specs.Idle.{IsLive}
use Rattle.loom_world.specs.Asking.{minds_flags, KeepsActing, KeepsAsking, CrossesListed, Asks}
use Rattle.loom_world.proofs.OwnVersions.{last_version, IsUpTo, up_to_date}

-- Flags

pub flags_up : (b : Book) (flags : List ℕ) → AreFlags b flags → ((k : ℕ) → Control.asked (front b).control ≡ Some k → IsUnderWay b k) → (q : ℕ) (y : Place) → place_at b.program q ≡ Some y
    → has_place flags q ≡ true → IsFlaggedNow b y
flags_up b flags h under q y is flagged = by_asked (Control.asked (front b).control) refl
  where
    by_asked : (o : Option ℕ) → Control.asked (front b).control ≡ o → IsFlaggedNow b y
    by_asked None none = let no : true ≡ false = sym flagged ∙ h.down none q in cc
    by_asked (Some k) asked = record { command = k; under_way = under k asked; flagged = (h.up k (under k asked) q y is).0 flagged }

pub flags_down : (b : Book) (flags : List ℕ) → AreFlags b flags → (q : ℕ) (y : Place) → place_at b.program q ≡ Some y → has_place flags q ≡ false → IsFlaggedNow b y → ⊥
flags_down b flags h q y is free now = let yes : has_place flags q ≡ true = (h.up now.command now.under_way q y is).1 now.flagged in let no : true ≡ false = sym yes ∙ free in cc

-- The thread keeps away from what is flagged for command k.

all_away : (b : Book) (k : ℕ) (set : List ℕ) → AreFlagsFor b k set → (ys : List Place) → ArePassedBy b.program set ys → AllByRecursion (λ y. IsFlagged (setting b) k y → ⊥) ys
all_away b k set h [] a = tt
all_away b k set h (y ∷ ys) a =
    ((λ flagged. let yes : has_place set a.0.0 ≡ true = (h a.0.0 y a.0.1.0).1 flagged in let no : true ≡ false = sym yes ∙ a.0.1.1 in cc), all_away b k set h ys a.1)

keeps_away : (b : Book) (k : ℕ) (set : List ℕ) → AreFlagsFor b k set → (z : Walk) → KeepsAwayFrom b.program set z → KeepsAway (IsFlagged (setting b) k) z
keeps_away b k set h z a = record {
  passed = all_away b k set h z.passed a.passed;
  stood = λ blocked flagged.
      let n = a.stood blocked in
      let yes : has_place set n.0 ≡ true = (h n.0 _ n.1.0).1 flagged in
      let no : true ≡ false = sym yes ∙ n.1.1 in cc;
}

stays_away : (b : Book) (k : ℕ) (set : List ℕ) → AreFlagsFor b k set → (x : Own) → StaysFrom b.program (plans (setting b)) x set → StaysAway (setting b) x k
stays_away b k set h x a = record { steps = a.steps; moved = a.moved; away = keeps_away b k set h (walk_of b.program (plans (setting b)) x a.steps) a.away }

acts_away : (b : Book) (k : ℕ) (set : List ℕ) → AreFlagsFor b k set → (x : Own) (q : Request) → ActsAway b.program (plans (setting b)) x q set → KeepsActing (setting b) x q k
acts_away b k set h x q a = record { asks = a.asks; away = keeps_away b k set h (walk_of b.program (plans (setting b)) x a.asks.steps) a.away }

asks_away : (b : Book) (k : ℕ) (set : List ℕ) → AreFlagsFor b k set → (x : Own) (v : Version) (q : Request) → AsksAway b.program (plans (setting b)) x v q set → KeepsAsking (setting b) x v q k
asks_away b k set h x v (r.Begin l) a = acts_away b k set h x (r.Begin l) a
asks_away b k set h x v (r.End l) a = acts_away b k set h x (r.End l) a
asks_away b k set h x v (r.Trap l n) a = acts_away b k set h x (r.Trap l n) a
asks_away b k set h x v (r.Read l i) a = acts_away b k set h x (r.Read l i) a
asks_away b k set h x v (r.Write l i u) a = acts_away b k set h x (r.Write l i u) a
asks_away b k set h x v (r.Lock l m) a = acts_away b k set h x (r.Lock l m) a
asks_away b k set h x v (r.Unlock l m) a = acts_away b k set h x (r.Unlock l m) a
asks_away b k set h x v (r.Down l m) a = acts_away b k set h x (r.Down l m) a
asks_away b k set h x v (r.Up l m) a = acts_away b k set h x (r.Up l m) a
asks_away b k set h x v (r.Spawn l f us) a = acts_away b k set h x (r.Spawn l f us) a
asks_away b k set h x v (r.Join l u) a = acts_away b k set h x (r.Join l u) a
asks_away b k set h x v (r.Print l u) a = acts_away b k set h x (r.Print l u) a
asks_away b k set h x v (r.Tick l n) a = stays_away b k set h _ a
asks_away b k set h x v (r.At l j ns) a = stays_away b k set h _ a
asks_away b k set h x v (r.Past l j ns) a = stays_away b k set h _ a
asks_away b k set h x v (r.Back l) a = stays_away b k set h _ a
asks_away b k set h x v (r.Enter l j c) a = stays_away b k set h _ a
asks_away b k set h x v (r.Leave l j c) a = stays_away b k set h _ a
asks_away b k set h x v (r.Post l j n) a = stays_away b k set h _ a
asks_away b k set h x v (r.Wait l j n) a = stays_away b k set h _ a
asks_away b k set h x v (r.Cross l y i n) a = stays_away b k set h _ a

-- Two sets of the flags of one command

all_same : (b : Book) (k : ℕ) (set flags : List ℕ) → AreFlagsFor b k set → AreFlagsFor b k flags → (ys : List Place) → ArePassedBy b.program set ys → ArePassedBy b.program flags ys
all_same b k set flags h g [] a = tt
all_same b k set flags h g (y ∷ ys) a = ((a.0.0, (a.0.1.0, free)), all_same b k set flags h g ys a.1)
  where
    free : has_place flags a.0.0 ≡ false
    free = by_test (has_place flags a.0.0) refl
      where
        by_test : (c : Bool) → has_place flags a.0.0 ≡ c → has_place flags a.0.0 ≡ false
        by_test false is = is
        by_test true is = let yes : has_place set a.0.0 ≡ true = (h a.0.0 y a.0.1.0).1 ((g a.0.0 y a.0.1.0).0 is) in let no : true ≡ false = sym yes ∙ a.0.1.1 in cc

abbrev passed_by : Strand → Birth → List PartStep → List Place
passed_by s x steps = Walk.passed (walk_of s.program (plans_in s.filters) (own_of s x) steps)

pub keeps_from : (b : Book) (k : ℕ) (set flags : List ℕ) (s : Strand) (x : Birth) → s.program ≡ b.program → AreFlagsFor b k set → AreFlagsFor b k flags → KeepsFrom s x set → KeepsFrom s x flags
keeps_from b k set flags s x program h g a = record {
  look = a.look;
  steps = a.steps;
  there = a.there;
  passed = subst (λ p. ArePassedBy p flags (passed_by s x a.steps)) (sym program) (all_same b k set flags h g (passed_by s x a.steps) (subst (λ p. ArePassedBy p set (passed_by s x a.steps)) program a.passed));
  joins = a.joins;
  stood = a.stood;
}

-- What is the strand's own is the thread's own.

pub record IsItsOwn (b : Book) (t : ℕ) (s : Strand) (x : Birth) (z : ThreadState) : Type 0 where
  pub program : s.program ≡ b.program
  pub plans : plans_in s.filters ≡ plans (setting b)
  pub own : own_of s x ≡ own (setting b) b.entries t z

own_is : (t u f g : ℕ) (us2 bs : List ℤ) (vs us : List Version) (es fs : List Entry) → t ≡ u → f ≡ g → us2 ≡ bs → vs ≡ us → es ≡ fs
    → ◌≡◌ {A = Own} (record { thread = t; func = f; args = us2; versions = vs; entries = es }) (record { thread = u; func = g; args = bs; versions = us; entries = fs })
own_is t u f g us2 bs vs us es fs a b c d e =
    ap {B = Own} (λ n. record { thread = n; func = f; args = us2; versions = vs; entries = es }) a
    ∙ (ap {B = Own} (λ n. record { thread = u; func = n; args = us2; versions = vs; entries = es }) b
    ∙ (ap {B = Own} (λ n. record { thread = u; func = g; args = n; versions = vs; entries = es }) c
    ∙ (ap {B = Own} (λ n. record { thread = u; func = g; args = bs; versions = n; entries = es }) d
    ∙ ap {B = Own} (λ n. record { thread = u; func = g; args = bs; versions = us; entries = n }) e)))

pub its_own : (b : Book) → HasFilterPlans b → (t : ℕ) (s : Strand) (x : Birth) (z : ThreadState) → s.program ≡ b.program → s.filters ≡ b.filters → s.thread ≡ t → x.func ≡ z.func → x.args ≡ z.args
    → s.versions ≡ versions_of b.commands t b.entries → s.entries ≡ entries_of t b.entries → IsItsOwn b t s x z
its_own b h t s x z program filters thread func args versions entries = record {
  program = program;
  plans = ap plans_in filters ∙ fun_ext (λ k. h.same k);
  own = own_is s.thread t x.func z.func x.args z.args s.versions (versions_of b.commands t b.entries) s.entries (entries_of t b.entries) thread func args versions entries;
}

pub carry : (P : Source → Plans → Own → Type 0) {b : Book} {t : ℕ} {s : Strand} {x : Birth} {z : ThreadState} → IsItsOwn b t s x z → P s.program (plans_in s.filters) (own_of s x)
    → P b.program (plans (setting b)) (own (setting b) b.entries t z)
carry P {b} {t} {s} {x} {z} h p =
    subst (λ o. P b.program (plans (setting b)) o) h.own (subst (λ ps. P b.program ps (own_of s x)) h.plans (subst (λ q. P q (plans_in s.filters) (own_of s x)) h.program p))

-- Where it stands by its strand it stands by the book.
pub stand_of : {b : Book} {t : ℕ} {s : Strand} {x : Birth} {z : ThreadState} (k : ℕ) → IsItsOwn b t s x z → StandsAt s x k → IsStandOf b t z k
stand_of k h st = record {
  place = st.place;
  number = subst (λ p. place_at p k ≡ Some st.place) h.program st.number;
  comes = carry (λ p ps o. ComesTo p ps o st.place) h st.comes;
}

one_place : (x y : Place) → ◌≡◌ {A = Option Place} (Some x) (Some y) → x ≡ y
one_place x y h = cc

-- and what it comes to pass by its strand
pub passes_of : {b : Book} {t : ℕ} {s : Strand} {x : Birth} {z : ThreadState} (k : ℕ) → IsItsOwn b t s x z → (st : StandsAt s x k) → (o : IsStandOf b t z k)
    → ComesToPass s.program (plans_in s.filters) (own_of s x) st.place → ComesToPass b.program (plans (setting b)) (own (setting b) b.entries t z) o.place
passes_of {b} {t} {s} {x} {z} k h st o passes =
    let same : st.place ≡ o.place = one_place st.place o.place (sym (subst (λ p. place_at p k ≡ Some st.place) h.program st.number) ∙ o.number) in
    carry (λ p ps own. ComesToPass p ps own o.place) h (subst (ComesToPass s.program (plans_in s.filters) (own_of s x)) same passes)

-- Versions

-- a thread that has made an entry has taken a version
outrun_not : (vs : List Version) (v : Version) → IsUpTo (last_version vs) [] v → IsOutrun vs v → ⊥
outrun_not [] v h o = absurd o
outrun_not (u ∷ []) v h o = let same : u.number ≡ v.number = ap (λ (w : Version). w.number) h in let no : ⊥ = omega (arith, same, o) in no
outrun_not (u ∷ w ∷ vs) v h o = outrun_not (w ∷ vs) v h o

outrun_so : (vs : List Version) (v : Version) (y : ℕ) (ys : List ℕ) → IsUpTo (last_version vs) (y ∷ ys) v → 1 ≤ length vs → IsOutrun vs v
outrun_so [] v y ys h some = absurd (let no : ⊥ = omega (arith, some) in no)
outrun_so (u ∷ []) v y ys h some = h
outrun_so (u ∷ w ∷ vs) v y ys h some = outrun_so (w ∷ vs) v y ys h (omega arith)

part_versions : (s : Setting) (es : List Entry) (t : ℕ) (z : ThreadState) → IsPart s.program (plans s) (own s es t z) → has_none (entries_of t es) ≡ false → 1 ≤ length (versions_of s.commands t es)
part_versions s es t z h some = by_entries (entries_of t es) refl
  where
    by_entries : (ys : List Entry) → entries_of t es ≡ ys → 1 ≤ length (versions_of s.commands t es)
    by_entries [] is = let no : true ≡ false = sym (ap has_none is) ∙ some in cc
    by_entries (y ∷ ys) is =
        let begin = first_begins s.program (plans s) t z.func z.args (versions_of s.commands t es) h.steps h.ahead h.outcome y ys h.trace h.woven (h.tells ∙ is) in
        let first : takings (y ∷ ys) ≡ suc (takings ys) = ap (λ w. takings (w ∷ ys)) begin.1.1 in
        let many : takings (entries_of t es) ≡ length (versions_of s.commands t es) = takings_taken s.commands t first_control es in
        let counted : takings (entries_of t es) ≡ suc (takings ys) = ap takings is ∙ first in
        omega (arith, many, counted)

-- What the strand asks for the thread asks for.

pub runs : (z : ThreadState) → z.begun ≡ true → z.ended ≡ false → running_thread (Some z) ≡ Some z
runs z begun lives = ap (λ (c : Bool). if c && not z.ended then Some z else None) begun ∙ ap (λ (c : Bool). if not c then Some z else None) lives

-- the part of a thread that is there
pub part_of : (b : Book) (h : HasLawfulJournal b) (t : ℕ) (z : ThreadState) → thread_at b.store t ≡ Some z → IsPart b.program (plans (setting b)) (own (setting b) b.entries t z)
part_of b h t z there = subst (HasPart (setting b) b.entries t) (ap (λ st. thread_at st t) h.store ∙ there) (h.lawful.parts t)

up_to : (b : Book) → HasLawfulJournal b → (t : ℕ) → 1 ≤ t → t ≤ thread_limit → IsUpTo (last_version (versions_of b.commands t b.entries)) (listed_places t b.entries) (Control.version (front b).control)
up_to b h zero first last = absurd (let no : ⊥ = omega (arith, first) in no)
up_to b h (suc i) first last = up_to_date (setting b) b.entries h.lawful i (omega (arith, last))

pub all_there : (P Q : ℕ → Type 0) (ys : List ℕ) → ((y : ℕ) → P y → Q y) → AllByRecursion P ys → AllByRecursion Q ys
all_there P Q [] f h = tt
all_there P Q (y ∷ ys) f h = (f y h.0, all_there P Q ys f h.1)

listed_by : (q : Request) (place : ℕ) (P : ℕ → Type 0) (ys : List ℕ) → CrossesAt q place → (asks_cross q ≡ true → (y : ℕ) → P y → place ≡ y) → AllByRecursion P ys → CrossesListed ys q
listed_by (r.Cross l k v n) place P ys at f h = all_there P (λ y. y ≡ k) ys (λ y p. sym (f refl y p) ∙ sym at) h
listed_by _ place P ys at f h = tt

-- it has begun
record HasBegun (b : Book) (t : ℕ) (z : ThreadState) : Type 0 where
  some : has_none (entries_of t b.entries) ≡ false
  running : running_thread (thread_at b.store t) ≡ Some z

cross_later : (q : Request) → asks_cross q ≡ true → asks_begin q ≡ false
cross_later (r.Cross l y v n) h = refl
cross_later _ h = cc

begun_by : {b : Book} {t : ℕ} {birth : Birth} (live : IsLive b t birth) → has_none (entries_of t b.entries) ≡ false → HasBegun b t live.lives.state
begun_by live some = record { some = some; running = ap running_thread live.lives.is ∙ runs live.lives.state (live.begun ∙ ap not some) live.lives.not_ended }

pub asks_of : (b : Book) (h : HasLawfulJournal b) (t : ℕ) (birth : Birth) → 1 ≤ t → t ≤ thread_limit → (live : IsLive b t birth) → (s : Strand) (x : Birth) → IsItsOwn b t s x live.lives.state
    → s.thread ≡ t → s.entries ≡ entries_of t b.entries → s.versions ≡ versions_of b.commands t b.entries → s.newest ≡ Control.version (front b).control → (q : Request) → Requests s x q
    → ((k : ℕ) → stand_at b.stands t ≡ Some k → IsOutrun s.versions s.newest → s.execution.place ≡ k)
    → ((k : ℕ) → IsUnderWay b k → minds_flags b t ≡ true → (set : List ℕ) × (AreFlagsFor b k set × Parks s x q set)) → Asks b t q
asks_of b h t birth first last live s x same thread entries versions newest q asks stays parks = record {
  state = z;
  there = live.lives.is;
  lives = live.lives.not_ended;
  next = subst (λ v. AsksNext b.program (plans (setting b)) (own (setting b) b.entries t z) v q) newest (carry (λ p ps o. AsksNext p ps o s.newest q) same asks.next);
  numbers = λ act. subst (λ p. HasNumbers p q) same.program (asks.numbers act);
  begins = begins;
  begun = live.begun ∙ ap not (sym begins);
  unflagged = λ begin. live.begins (live.begun ∙ ap not (sym begins ∙ begin));
  blocked = λ stay. subst (λ es. IsLastBlockedAt t q es) entries (subst (λ n. IsLastBlockedAt n q s.entries) thread (asks.blocked stay));
  crosses = λ cross none. outrun_not (versions_of b.commands t b.entries) newest_version (subst (λ ls. IsUpTo (last_version (versions_of b.commands t b.entries)) ls newest_version) none up) (outrun_now (asks.crosses cross));
  outrun = λ later stay. none_listed later stay (listed_places t b.entries) refl;
  listed = listed_by q s.execution.place (λ k. found_place b t ≡ Some k) (listed_places t b.entries) asks.at (λ cross k found. stays k (noted cross k found) (asks.crosses cross)) (h.stands.listed t);
  away = record {
    asks = λ k u any. (
        let p = parks k u any in
        asks_away b k p.0 p.1.0 (own (setting b) b.entries t z) newest_version q
        (subst (λ v. AsksAway b.program (plans (setting b)) (own (setting b) b.entries t z) v q p.0) newest (carry (λ r ps o. AsksAway r ps o s.newest q p.0) same p.1.1.asks)));
    blocks = λ k u any y named free. (
        let p = parks k u any in
        stays_away b k p.0 p.1.0 (with_entry (own (setting b) b.entries t z) y)
        (carry (λ r ps o. StaysFrom r ps (with_entry o y) p.0) same
        (p.1.1.blocks y (subst (λ n. IsBlockedAt n q y) (sym thread) named) (ap ends_blocked entries ∙ free))));
  };
}
  where
    z : ThreadState
    z = live.lives.state

    newest_version : Version
    newest_version = Control.version (front b).control

    begins : asks_begin q ≡ has_none (entries_of t b.entries)
    begins = asks.begins ∙ ap has_none entries

    up : IsUpTo (last_version (versions_of b.commands t b.entries)) (listed_places t b.entries) newest_version
    up = up_to b h t first last

    outrun_now : IsOutrun s.versions s.newest → IsOutrun (versions_of b.commands t b.entries) newest_version
    outrun_now o = subst (λ v. IsOutrun (versions_of b.commands t b.entries) v) newest (subst (λ vs. IsOutrun vs s.newest) versions o)

    outrun_then : IsOutrun (versions_of b.commands t b.entries) newest_version → IsOutrun s.versions s.newest
    outrun_then o = subst (λ v. IsOutrun s.versions v) (sym newest) (subst (λ vs. IsOutrun vs newest_version) (sym versions) o)

    noted : asks_cross q ≡ true → (k : ℕ) → found_place b t ≡ Some k → stand_at b.stands t ≡ Some k
    noted cross k found =
        let some : has_none (entries_of t b.entries) ≡ false = sym begins ∙ cross_later q cross in
        sym (ap (λ (o : Option ThreadState). found_at o (stand_at b.stands t)) (HasBegun.running (begun_by live some))) ∙ found

    none_listed : asks_begin q ≡ false → asks_cross q ≡ false → (ys : List ℕ) → listed_places t b.entries ≡ ys → listed_places t b.entries ≡ []
    none_listed later stay [] is = is
    none_listed later stay (y ∷ ys) is =
        let some : has_none (entries_of t b.entries) ≡ false = sym begins ∙ later in
        let many = part_versions (setting b) b.entries t z (part_of b h t z live.lives.is) some in
        let o = outrun_so (versions_of b.commands t b.entries) newest_version y ys (subst (λ ls. IsUpTo (last_version (versions_of b.commands t b.entries)) ls newest_version) is up) many in
        let no : true ≡ false = sym (asks.outrun (outrun_then o)) ∙ stay in cc

-- A thread that has made nothing

split_none : (t : ℕ) (y : Entry) (es : List Entry) → entries_of t (y ∷ es) ≡ [] → (is_thread t (thread_of y) ≡ false) × (entries_of t es ≡ [])
split_none t y es h = by_thread (is_thread t (thread_of y)) refl
  where
    by_thread : (c : Bool) → is_thread t (thread_of y) ≡ c → (is_thread t (thread_of y) ≡ false) × (entries_of t es ≡ [])
    by_thread false is = (is, sym (if_false (is_thread t (thread_of y)) (y ∷ entries_of t es) (entries_of t es) is) ∙ h)
    by_thread true is = let no : [] ≡ y ∷ entries_of t es = sym h ∙ if_true (is_thread t (thread_of y)) (y ∷ entries_of t es) (entries_of t es) is in cc

any_from : (t : ℕ) (so_far es : List Entry) → entries_of t so_far ≡ [] → entries_of t es ≡ [] → entries_of t (since_asked_from so_far es) ≡ []
any_from t so_far [] h g = h
any_from t so_far (e.Asked k ∷ es) h g = any_from t [] es refl g
any_from t so_far (y ∷ es) h g = let n = split_none t y es g in any_from t (so_far ++ y ∷ []) es (not_mine t y so_far n.0 ∙ h) n.1

pub none_since : (t : ℕ) (es : List Entry) → entries_of t es ≡ [] → has_any (entries_of t (since_asked es)) ≡ true → ⊥
none_since t es none any = let nothing = any_from t [] es refl none in let no : false ≡ true = sym (ap has_any nothing) ∙ any in cc

pub none_taken : (cs : List Command) (t : ℕ) (es : List Entry) → entries_of t es ≡ [] → versions_of cs t es ≡ []
none_taken cs t es none = by_list (versions_of cs t es) refl
  where
    by_list : (vs : List Version) → versions_of cs t es ≡ vs → versions_of cs t es ≡ []
    by_list [] is = is
    by_list (v ∷ vs) is =
        let many : takings (entries_of t es) ≡ length (versions_of cs t es) = takings_taken cs t first_control es in
        let nothing : takings (entries_of t es) ≡ 0 = ap takings none in
        let some : length (versions_of cs t es) ≡ suc (length vs) = ap length is in
        absurd (let no : ⊥ = omega (arith, many, nothing, some) in no)

pub none_there : (es : List Entry) → has_none es ≡ true → es ≡ []
none_there [] h = refl
none_there (y ∷ es) h = cc

-- Where some place is listed for it, a thread that has begun is outrun.
pub outrun_listed : (b : Book) → HasLawfulJournal b → (t : ℕ) → 1 ≤ t → t ≤ thread_limit → (z : ThreadState) → thread_at b.store t ≡ Some z → has_none (entries_of t b.entries) ≡ false
    → (y : ℕ) (ys : List ℕ) → listed_places t b.entries ≡ y ∷ ys → (vs : List Version) → vs ≡ versions_of b.commands t b.entries → (v : Version) → v ≡ Control.version (front b).control → IsOutrun vs v
outrun_listed b h t first last z there some y ys is vs versions v newest =
    let many = part_versions (setting b) b.entries t z (part_of b h t z there) some in
    let o = outrun_so (versions_of b.commands t b.entries) (Control.version (front b).control) y ys
    (subst (λ ls. IsUpTo (last_version (versions_of b.commands t b.entries)) ls (Control.version (front b).control)) is (up_to b h t first last)) many in
    subst (λ u. IsOutrun vs u) (sym newest) (subst (λ us. IsOutrun us (Control.version (front b).control)) (sym versions) o)
