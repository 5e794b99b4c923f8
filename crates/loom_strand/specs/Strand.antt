-- A thread.
use Rattle.std.specs.Prelude.{ℕ, ◌≡◌, ◌≤◌, ◌<◌, ◌⊎◌, Bool, true, false, List, [], ◌∷◌, ◌++◌, Option, Some, None}
use Rattle.std.specs.List.{filter}
use Rattle.loom_tree.specs.Tree.{Source}
use Rattle.loom_lang.specs.Places.{Place, entry, back_edge, place_at}
use Rattle.loom_lang.specs.Trace.{Item, edge, enter, Finished, IsTrace}
use Rattle.loom_flow.specs.FlatCode.{lowered}
use Rattle.loom_flow.specs.Depth.{most_values}
use Rattle.loom_trace.specs.Places.{has_place}
use Rattle.loom_trace.specs.declared.entry.Entry.{Entry}
use Rattle.loom_trace.specs.declared.entry.Entry.TheVariants as e
use Rattle.loom_trace.specs.declared.request.Request.{Request}
use Rattle.loom_trace.specs.declared.request.Request.TheVariants as r
use Rattle.loom_event.specs.Answer.{asks_begin, asks_operation, IsGrantOf, IsAnswerTo, IsBlockedAt, HasNumbers}
use Rattle.loom_law.specs.Filter.{has}
use Rattle.loom_law.specs.Walk.{Version, Plans, wait, enters, at, past, post, leave, back, tick, new_filters, PartStep, items, filter_entries, Walk, request_place, unborn, AreWoven}
use Rattle.loom_law.specs.ThreadPart.{Own, walk_of, IsPart, Point, ComesTo, HasMoved, with_entry, AsksToMake, AsksToCross, AsksToAct}
use Rattle.loom_law.specs.TurnLaws.{ends_blocked}
use Rattle.loom_plan.specs.Compiled.{Compiled}
use Rattle.loom_version.specs.Plans.{plans_in}
use Rattle.loom_walk.specs.Owed.{queue}
use Rattle.loom_walk.specs.FilterWalk.{HasFilters}
use Rattle.loom_strand.specs.declared.stage.Birth.{Birth}
use Rattle.loom_strand.specs.declared.stage.Want.{Want}
use Rattle.loom_strand.specs.declared.stage.Want.TheVariants as w
use Rattle.loom_strand.specs.Machine.{frames_below}
use Rattle.loom_strand.specs.Life.{has_none, has_ended, awaits_end, asks_cross, IsLastBlockedAt}
use Rattle.loom_strand.specs.Way.{Look, looks_for_grant, IsJoining, next_step}
use Rattle.loom_strand.specs.declared.execution.Execution.{Execution}
use Rattle.loom_strand.specs.Halt.{PassesNext}
use Rattle.loom_strand.specs.InPart.{IsInPart, IsNoneOf, AreIn, ArePassedBy, GoesOn}

pub record Strand : Type 0 where
  pub program : Source
  -- the filters of the commands, by the commands' numbers
  pub filters : List (Option Compiled)
  pub thread : ℕ
  -- how many entries it has room for
  pub limit : ℕ
  -- its function and arguments, once it was started
  pub birth : Option Birth
  -- the versions that it has taken
  pub versions : List Version
  -- the version that it takes with its begin, or goes over to
  pub newest : Version
  pub entries : List Entry
  -- the request that isn't answered yet
  pub want : Option Request
  pub execution : Execution

abbrev pub plans : Strand → Plans
plans s = plans_in s.filters

-- It was made with room for `n` entries, and not started.
pub record IsNew (p : Source) (cs : List (Option Compiled)) (t n : ℕ) (s : Strand) : Type 0 where
  pub program : s.program ≡ p
  pub filters : s.filters ≡ cs
  pub thread : s.thread ≡ t
  pub limit : s.limit ≡ n
  pub birth : s.birth ≡ None
  pub versions : s.versions ≡ []
  pub entries : s.entries ≡ []
  pub want : s.want ≡ None
  -- and for no more values than wait at most before an instruction, and no more frames than there may be below the newest one
  pub values : s.execution.machine.most_values ≡ most_values (lowered p)
  pub frames : s.execution.machine.most_frames ≡ frames_below

-- It is the same thread, with these entries, this birth and these versions.
pub record IsSameThread (old : Strand) (b : Option Birth) (vs : List Version) (es : List Entry) (new : Strand) : Type 0 where
  pub program : new.program ≡ old.program
  pub filters : new.filters ≡ old.filters
  pub thread : new.thread ≡ old.thread
  pub limit : new.limit ≡ old.limit
  pub birth : new.birth ≡ b
  pub versions : new.versions ≡ vs
  pub entries : new.entries ≡ es

abbrev pub IsStarted : Option Birth → Type 0
IsStarted None = ⊥
IsStarted (Some b) = Unit {0}

-- what is the thread's own
abbrev pub own_of : Strand → Birth → Own
own_of s b = record { thread = s.thread; func = b.func; args = b.args; versions = s.versions; entries = s.entries }

-- The entries are a part.
abbrev pub HasOwnPart : Strand → Option Birth → Type 0
HasOwnPart s None = ⊥
HasOwnPart s (Some b) = IsPart s.program (plans s) (own_of s b)

-- Versions

-- A later version, or the same one. Filters that stay keep their order, and stand before new ones.
pub record IsLater (old new : Version) : Type 0 where
  pub number : old.number ≤ new.number
  pub same : old.number ≡ new.number → old ≡ new
  pub order : new.active ≡ filter (has new.active) old.active ++ new_filters old.active new.active

-- It is so behind the last one of these, if there is any.
abbrev pub IsLaterThanLast : List Version → Version → Type 0
IsLaterThanLast [] v = Unit {0}
IsLaterThanLast (u ∷ []) v = IsLater u v
IsLaterThanLast (u ∷ x ∷ us) v = IsLaterThanLast (x ∷ us) v

-- The thread may go on with this version: its filters are there.
pub record CanTake (s : Strand) (v : Version) : Type 0 where
  pub filters : HasFilters s.program s.filters v
  pub later : IsLaterThanLast s.versions v

-- the last one of these is of a smaller number
abbrev pub IsOutrun : List Version → Version → Type 0
IsOutrun [] v = ⊥
IsOutrun (u ∷ []) v = u.number < v.number
IsOutrun (u ∷ x ∷ us) v = IsOutrun (x ∷ us) v

-- Requests

-- It asks for this next: for an act, for an operation, or for a newer version, which is `v`.
abbrev pub AsksNext : Source → Plans → Own → Version → Request → Type 0
AsksNext p ps x v (r.Tick l k) = AsksToMake p ps x l (tick k)
AsksNext p ps x v (r.At l k ns) = AsksToMake p ps x l (at k ns)
AsksNext p ps x v (r.Past l k ns) = AsksToMake p ps x l (past k ns)
AsksNext p ps x v (r.Back l) = AsksToMake p ps x l back
AsksNext p ps x v (r.Enter l k c) = AsksToMake p ps x l (enters k c)
AsksNext p ps x v (r.Leave l k c) = AsksToMake p ps x l (leave k c)
AsksNext p ps x v (r.Post l k n) = AsksToMake p ps x l (post k n)
AsksNext p ps x v (r.Wait l k n) = AsksToMake p ps x l (wait k n)
AsksNext p ps x v (r.Cross l y i n) = (i ≡ v.number) × AsksToCross p ps x l y n v
AsksNext p ps x v q = AsksToAct p ps x q

-- A thread that has begun stands at the place of this number with what comes next.
pub record StandsAt (s : Strand) (b : Birth) (k : ℕ) : Type 0 where
  pub here : s.execution.place ≡ k
  pub place : Place
  pub number : place_at s.program k ≡ Some place
  pub comes : ComesTo s.program (plans s) (own_of s b) place

-- the place of a request: place 0 for a begin
abbrev pub IsPlaceOfRequest : Strand → Birth → Bool → Type 0
IsPlaceOfRequest s b true = s.execution.place ≡ 0
IsPlaceOfRequest s b false = StandsAt s b s.execution.place

-- A newer version is taken where the thread stands.
abbrev pub CrossesAt : Request → ℕ → Type 0
CrossesAt (r.Cross l y i n) k = y ≡ k
CrossesAt _ k = Unit {0}

-- It makes this request. It asks for its begin where it has no entry yet.
pub record Requests (s : Strand) (b : Birth) (q : Request) : Type 0 where
  pub want : s.want ≡ Some q
  pub next : AsksNext s.program (plans s) (own_of s b) s.newest q
  pub place : IsPlaceOfRequest s b (asks_begin q)
  pub at : CrossesAt q s.execution.place
  -- what it asks of a store
  pub numbers : asks_operation q ≡ false → HasNumbers s.program q
  pub begins : asks_begin q ≡ has_none s.entries
  pub lives : has_ended s.entries ≡ false
  -- where it was told that a request is disabled, it is this one, unless there is a newer version
  pub blocked : asks_cross q ≡ false → IsLastBlockedAt s.thread q s.entries
  -- it asks for a newer version exactly where there is one
  pub crosses : asks_cross q ≡ true → IsOutrun s.versions s.newest
  pub outrun : IsOutrun s.versions s.newest → asks_cross q ≡ true

-- The entry answers the request, or tells that it is disabled. Where the thread was told so already, or waits for the end of a thread, the entry grants
-- the request.
abbrev pub IsReplyTo : Bool → Bool → ℕ → Option Request → Entry → Type 0
IsReplyTo blocked awaits t None x = ⊥
IsReplyTo true awaits t (Some q) x = IsAnswerTo t q x × (awaits ≡ true → asks_operation q ≡ false → IsGrantOf t q x)
IsReplyTo false awaits t (Some q) x = (IsAnswerTo t q x × (awaits ≡ true → asks_operation q ≡ false → IsGrantOf t q x)) ⊎ IsBlockedAt t q x

abbrev pub IsReply : Strand → Entry → Type 0
IsReply s x = IsReplyTo (ends_blocked s.entries) (awaits_end s.entries) s.thread s.want x

-- The thread waits at a place: before an entry or back-edge place that its next step passes, or because its request there is disabled.
pub record WaitsAt (s : Strand) (b : Birth) (k : ℕ) : Type 0 where
  pub stands : StandsAt s b k
  pub rests : ((queue s.execution.walk.owed ≡ []) × PassesNext (lowered s.program) b s.execution k) ⊎ (ends_blocked s.entries ≡ true)

-- this mark is put down where the place is passed: an entry place, or a back-edge place
abbrev pub IsMarkAt : Item → Place → Type 0
IsMarkAt (enter f env) y = entry f ≡ y
IsMarkAt (edge l) y = back_edge l ≡ y
IsMarkAt _ y = ⊥

-- A begun thread comes to a place that it passes: at a point behind its last entry nothing is owed, and the mark of that place comes next. So it is
-- the place of an entry or a back edge, and not that of a request.
pub record ComesToPass (p : Source) (ps : Plans) (x : Own) (y : Place) : Type 0 where
  pub point : Point p ps x
  pub rests : (walk_of p ps x point.steps).owed ≡ []
  pub passes : IsMarkAt point.next y

-- It has begun and lives, and waits at a place that is flagged. Where it isn't blocked, that is a place which it comes to pass.
pub record StandsFlagged (s : Strand) (b : Birth) (flags : List ℕ) (k : ℕ) : Type 0 where
  pub begun : has_none s.entries ≡ false
  pub lives : has_ended s.entries ≡ false
  pub flagged : has_place flags k ≡ true
  pub waits : WaitsAt s b k
  pub passes : ends_blocked s.entries ≡ false → ComesToPass s.program (plans s) (own_of s b) waits.stands.place
  pub want : s.want ≡ None

-- It waits at no flagged place.
abbrev pub WaitsUnflagged : Strand → Birth → List ℕ → Type 0
WaitsUnflagged s b flags = (k : ℕ) → WaitsAt s b k → has_place flags k ≡ false

-- It is told that it stands at a flagged place wherever it waits at one: else it waits at none, and waited at none before.
abbrev pub HeedsFlags : Strand → Strand → Option Birth → List ℕ → Want → Type 0
HeedsFlags old new None flags x = ⊥
HeedsFlags old new (Some b) flags (w.Place k) = Unit {0}
HeedsFlags old new (Some b) flags x = WaitsUnflagged old b flags × WaitsUnflagged new b flags

-- Whatever steps led the thread to where it was, some marks lead it on to where it is, and it passes no flagged place with them.
abbrev pub GoesUnflagged : Strand → Strand → Option Birth → List ℕ → Type 0
GoesUnflagged old new None flags = ⊥
GoesUnflagged old new (Some b) flags = GoesOn (lowered old.program) old.filters b flags old.execution new.execution

-- Where it waits it stays, while the place is flagged or a newer version is to be taken there. Of a thread that wasn't started nothing is said.
abbrev pub StaysAt : Strand → Strand → Option Birth → List ℕ → Version → Type 0
StaysAt old new None flags v = Unit {0}
StaysAt old new (Some b) flags v = (k : ℕ) → WaitsAt old b k → (has_place flags k ≡ true) ⊎ IsOutrun old.versions v → new.execution.place ≡ k

-- Behind `Blocked` it waits where it asked.
abbrev pub WaitsOn : Strand → Strand → Option Birth → Type 0
WaitsOn old new None = ⊥
WaitsOn old new (Some b) = (new.execution.place ≡ old.execution.place) × WaitsAt new b new.execution.place

-- Parking

-- Some steps led the thread to where it is, and since its last entry it passed none of these places. Where it is blocked it stands at the place of its
-- request, and it looks for a grant only where it waits for the end of a thread.
pub record KeepsFrom (s : Strand) (b : Birth) (places : List ℕ) : Type 0 where
  pub look : Look
  pub steps : List PartStep
  pub there : IsInPart (lowered s.program) s.filters b (own_of s b) s.execution look steps
  pub passed : ArePassedBy s.program places (walk_of s.program (plans s) (own_of s b) steps).passed
  pub joins : look ≡ looks_for_grant → IsJoining (next_step (lowered s.program) b s.execution.stage s.execution.machine)
  pub stood : ends_blocked s.entries ≡ true → place_at s.program s.execution.place ≡ Some (request_place (walk_of s.program (plans s) (own_of s b) steps))

-- The thread keeps away from the places of the set: since its last entry it passed none of them, and isn't blocked at one.
pub record KeepsAwayFrom (p : Source) (places : List ℕ) (z : Walk) : Type 0 where
  pub passed : ArePassedBy p places z.passed
  pub stood : z.is_blocked ≡ true → IsNoneOf p places (request_place z)

-- With its last entry a thread keeps away from the places of the set.
pub record StaysFrom (p : Source) (ps : Plans) (x : Own) (places : List ℕ) : Type 0 where
  pub steps : List PartStep
  pub moved : HasMoved p ps x steps
  pub away : KeepsAwayFrom p places (walk_of p ps x steps)

-- So it does with the act that it asks for, whatever the answer is.
pub record ActsAway (p : Source) (ps : Plans) (x : Own) (q : Request) (places : List ℕ) : Type 0 where
  pub asks : AsksToAct p ps x q
  pub away : KeepsAwayFrom p places (walk_of p ps x asks.steps)

-- and with an operation or a newer version
abbrev pub AsksAway : Source → Plans → Own → Version → Request → List ℕ → Type 0
AsksAway p ps x v (r.Tick l k) places = StaysFrom p ps (with_entry x (e.Tick x.thread l k)) places
AsksAway p ps x v (r.At l k ns) places = StaysFrom p ps (with_entry x (e.At x.thread l k ns)) places
AsksAway p ps x v (r.Past l k ns) places = StaysFrom p ps (with_entry x (e.Past x.thread l k ns)) places
AsksAway p ps x v (r.Back l) places = StaysFrom p ps (with_entry x (e.Back x.thread l)) places
AsksAway p ps x v (r.Enter l k c) places = StaysFrom p ps (with_entry x (e.Enter x.thread l k c)) places
AsksAway p ps x v (r.Leave l k c) places = StaysFrom p ps (with_entry x (e.Leave x.thread l k c)) places
AsksAway p ps x v (r.Post l k n) places = StaysFrom p ps (with_entry x (e.Post x.thread l k n)) places
AsksAway p ps x v (r.Wait l k n) places = StaysFrom p ps (with_entry x (e.Wait x.thread l k n)) places
AsksAway p ps x v (r.Cross l y i n) places = StaysFrom p ps (record x { versions = x.versions ++ v ∷ []; entries = x.entries ++ e.Cross x.thread l y i n ∷ [] }) places
AsksAway p ps x v q places = ActsAway p ps x q places

-- What a thread asks for keeps it away from places that are flagged, and so does the entry that tells that the request is disabled.
pub record Parks (s : Strand) (b : Birth) (q : Request) (places : List ℕ) : Type 0 where
  pub asks : AsksAway s.program (plans s) (own_of s b) s.newest q places
  pub blocks : (x : Entry) → IsBlockedAt s.thread q x → ends_blocked s.entries ≡ false → StaysFrom s.program (plans s) (with_entry (own_of s b) x) places

-- With its begin a thread passes nothing.
abbrev pub MayPark : Strand → Strand → Birth → List ℕ → Type 0
MayPark old new b places = KeepsFrom old b places ⊎ (has_none new.entries ≡ true)

-- Where each of these places is flagged, and the thread kept away from them behind its last entry, it does so still, and with what it asks for.
abbrev pub KeepsParking : Strand → Strand → Option Birth → List ℕ → Want → Type 0
KeepsParking old new None flags x = ⊥
KeepsParking old new (Some b) flags (w.Ask q) = (places : List ℕ) → AreIn places flags → MayPark old new b places → MayPark new new b places × Parks new b q places
KeepsParking old new (Some b) flags (w.Place k) = (places : List ℕ) → AreIn places flags → KeepsFrom old b places → KeepsFrom new b places
KeepsParking old new (Some b) flags w.Ended = Unit {0}

-- Behind an entry the thread has passed no place, unless it was its last one.
abbrev pub PassesAnew : Strand → Option Birth → Type 0
PassesAnew s None = ⊥
PassesAnew s (Some b) = has_ended s.entries ≡ false → (places : List ℕ) → KeepsFrom s b places

-- The entries are a whole part: nothing comes behind them.
pub record IsWholePart (p : Source) (ps : Plans) (x : Own) : Type 0 where
  pub steps : List PartStep
  pub trace : IsTrace p x.func x.args (items steps) Finished
  pub woven : AreWoven p ps (unborn x.versions) steps []
  pub tells : filter_entries x.thread steps ≡ x.entries
  pub taken : (walk_of p ps x steps).coming ≡ []

-- It has ended.
pub record IsOver (s : Strand) (b : Birth) : Type 0 where
  pub whole : IsWholePart s.program (plans s) (own_of s b)
  pub ended : has_ended s.entries ≡ true

abbrev pub Wants : Strand → Option Birth → List ℕ → Want → Type 0
Wants s None flags x = ⊥
Wants s (Some b) flags (w.Ask q) = Requests s b q
Wants s (Some b) flags (w.Place k) = StandsFlagged s b flags k
Wants s (Some b) flags w.Ended = IsOver s b

-- What was asked for is asked for again, or the thread stands at a flagged place.
abbrev pub IsSameWant : Request → Want → Type 0
IsSameWant q (w.Ask u) = u ≡ q
IsSameWant q (w.Place k) = Unit {0}
IsSameWant q w.Ended = ⊥

-- what is asked for, if anything
abbrev pub request_in : Want → Option Request
request_in (w.Ask q) = Some q
request_in _ = None
