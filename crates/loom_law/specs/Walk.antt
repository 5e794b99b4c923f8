-- The full part of a thread: the items of a trace, with what filters make it do woven in.
use Rattle.std.specs.Prelude.{ℕ, suc, ◌==◌, ◌≡◌, Bool, true, false, not, ◌&&◌, List, [], ◌∷◌, ◌++◌, length, flat_map, Option, Some, None, if◌then◌else◌}
use Rattle.std.specs.List.{filter, list_any}
use Rattle.loom_tree.specs.Tree.{Source}
use Rattle.loom_trace.specs.declared.entry.Entry.{Entry}
use Rattle.loom_trace.specs.declared.entry.Entry.TheVariants as e
use Rattle.loom_trace.specs.declared.entry.What.{What}
use Rattle.loom_trace.specs.declared.entry.What.TheVariants as w
use Rattle.loom_lang.specs.Places.{Place, places, line_of_place, line_of_function}
use Rattle.loom_lang.specs.Places as place
use Rattle.loom_lang.specs.Trace.{Locals, Act, begin, trap, lock, down, join, Item, made, begins, done, edge, enter, out}
use Rattle.loom_event.specs.TargetEvent.{entry_by}
use Rattle.loom_law.specs.Filter.{Site, statement, function, Range, Ruling, Plan, matching, has, share, entry_events, exit_events, ranges_of, waits, posts, clauses}
use Rattle.std.specs.Prelude.{slice_get}

-- Versions

-- its number, and the numbers of the commands that installed its filters, ascending
pub record Version : Type 0 where
  pub number : ℕ
  pub active : List ℕ

-- what the filter of each command is in the program
abbrev pub Plans : Type 0
Plans = ℕ → Plan

-- Steps

-- what a filter, a version or a limit makes a thread do
pub data Operation : Type 0 where
  wait : ℕ → ℕ → Operation
  enters : ℕ → ℕ → Operation
  at : ℕ → List ℕ → Operation
  past : ℕ → List ℕ → Operation
  post : ℕ → ℕ → Operation
  leave : ℕ → ℕ → Operation
  back : Operation
  -- the number of the place
  tick : ℕ → Operation
  -- the number of the place, the version, and how many places were passed
  cross : ℕ → ℕ → ℕ → Operation
  blocked : What → Operation

-- an item of the trace, or an operation with its line
pub data PartStep : Type 0 where
  goes : Item → PartStep
  makes : ℕ → Operation → PartStep

abbrev pub items : List PartStep → List Item
items [] = []
items (goes i ∷ ss) = i ∷ items ss
items (makes l o ∷ ss) = items ss

abbrev pub entry_of_operation : ℕ → ℕ → Operation → Entry
entry_of_operation t l (wait k n) = e.Wait t l k n
entry_of_operation t l (enters k c) = e.Enter t l k c
entry_of_operation t l (at k ns) = e.At t l k ns
entry_of_operation t l (past k ns) = e.Past t l k ns
entry_of_operation t l (post k n) = e.Post t l k n
entry_of_operation t l (leave k c) = e.Leave t l k c
entry_of_operation t l back = e.Back t l
entry_of_operation t l (tick x) = e.Tick t l x
entry_of_operation t l (cross x v n) = e.Cross t l x v n
entry_of_operation t l (blocked what) = e.Blocked t l what

-- the entries of a thread that tell these steps
abbrev pub told_item : ℕ → Item → List Entry → List Entry
told_item t (made l a) es = entry_by t l a ∷ es
told_item t _ es = es

abbrev pub filter_entries : ℕ → List PartStep → List Entry
filter_entries t [] = []
filter_entries t (goes i ∷ ss) = told_item t i (filter_entries t ss)
filter_entries t (makes l o ∷ ss) = entry_of_operation t l o ∷ filter_entries t ss

-- Where a thread is

-- a statement that has begun and isn't complete: its line, and the events of each filter that began with it
pub record OpenStatement : Type 0 where
  pub line : ℕ
  pub events : List (ℕ × List ℕ)

-- a region that the thread is inside: the filter, the clause, the events
pub record Inside : Type 0 where
  pub filter : ℕ
  pub clause : ℕ
  pub range : Range

-- an open frame: its function, its statements, the innermost first, and the regions that were entered in it
pub record OpenFrame : Type 0 where
  pub func : ℕ
  pub statements : List OpenStatement
  pub inside : List Inside

-- the mark, or the trap, directly behind which the thread is, but for what it owes there
pub data Spot : Type 0 where
  elsewhere : Spot
  -- the statement of this line has begun, or the frame of this function, with these locals
  beginning : ℕ → Locals → Spot
  entered : ℕ → Locals → Spot
  complete : ℕ → Spot
  -- the frame of this function was left; until `Back` the thread still is inside these regions
  left : ℕ → List Inside → Spot
  trapped : ℕ → Spot

-- lines and operations
abbrev pub Queue : Type 0
Queue = List (ℕ × Operation)

pub record Walk : Type 0 where
  -- the versions that it is still to take, and the filters of the one it has
  pub coming : List Version
  pub active : List ℕ
  -- the clauses that it holds: filter and number
  pub held : List (ℕ × ℕ)
  -- the open frames, the innermost first
  pub frames : List OpenFrame
  pub spot : Spot
  -- what it is to make here, before it goes on
  pub owed : Queue
  -- the entry and back-edge places passed since its last entry, the latest first
  pub passed : List Place
  -- its last entry is `Blocked`
  pub is_blocked : Bool

-- before its first entry, with the versions that it takes
abbrev pub unborn : List Version → Walk
unborn vs = record { coming = vs; active = []; held = []; frames = []; spot = elsewhere; owed = []; passed = []; is_blocked = false }

-- What is owed at a beginning: operations with their line, and `more` behind them

abbrev pub holds : List (ℕ × ℕ) → ℕ → ℕ → Bool
holds hs k c = list_any (λ (h : ℕ × ℕ). (h.0 == k) && (h.1 == c)) hs

-- a wait for each event that an order puts behind another one
abbrev pub owed_waits : Plan → ℕ → ℕ → List ℕ → Queue → Queue
owed_waits f k l [] more = more
owed_waits f k l (n ∷ ns) more = if waits f n then (l, wait k n) ∷ owed_waits f k l ns more else owed_waits f k l ns more

abbrev pub begins_in : Ruling → List ℕ → Bool
begins_in r ns = list_any (λ (x : Range). share (entry_events x) ns) (ranges_of r)

-- an enter for each clause that these events enter, unless the thread holds it already
abbrev pub owed_enters : List (ℕ × ℕ) → ℕ → ℕ → List ℕ → List (ℕ × Ruling) → Queue → Queue
owed_enters hs k l ns [] more = more
owed_enters hs k l ns (c ∷ cs) more =
    if begins_in c.1 ns && not (holds hs k c.0) then (l, enters k c.0) ∷ owed_enters hs k l ns cs more else owed_enters hs k l ns cs more

abbrev pub owed_by : Plan → ℕ → List (ℕ × ℕ) → ℕ → List ℕ → Queue → Queue
owed_by f k hs l [] more = more
owed_by f k hs l (n ∷ ns) more = owed_waits f k l (n ∷ ns) (owed_enters hs k l (n ∷ ns) (clauses f) ((l, at k (n ∷ ns)) ∷ more))

-- of these filters, in their order
abbrev pub owed_at : Plans → List (ℕ × ℕ) → ℕ → Site → Locals → List ℕ → Queue
owed_at plans hs l site env [] = []
owed_at plans hs l site env (k ∷ ks) = owed_by (plans k) k hs l (matching (plans k) site env) (owed_at plans hs l site env ks)

-- What is owed behind a statement

-- one of these is a region of the clause
abbrev pub is_inside_clause : List Inside → ℕ → ℕ → Bool
is_inside_clause is k c = list_any (λ (i : Inside). (i.filter == k) && (i.clause == c)) is

abbrev pub all_inside : List OpenFrame → List Inside
all_inside fs = flat_map (λ (f : OpenFrame). f.inside) fs

-- a region is left with one of its exit events, in the frame in which it was entered
abbrev pub is_left_with : ℕ → List ℕ → Inside → Bool
is_left_with k ns i = (i.filter == k) && share (exit_events i.range) ns

abbrev pub completed : ℕ → List ℕ → OpenFrame → OpenFrame
completed k ns x = record x { inside = filter (λ (i : Inside). not (is_left_with k ns i)) x.inside }

abbrev pub in_frame : (OpenFrame → OpenFrame) → List OpenFrame → List OpenFrame
in_frame f [] = []
in_frame f (x ∷ xs) = f x ∷ xs

abbrev pub owed_posts : Plan → ℕ → ℕ → List ℕ → Queue → Queue
owed_posts f k l [] more = more
owed_posts f k l (n ∷ ns) more = if posts f n then (l, post k n) ∷ owed_posts f k l ns more else owed_posts f k l ns more

-- a leave for each clause that it holds and whose regions it is inside no more
abbrev pub owed_leaves : List (ℕ × ℕ) → List Inside → ℕ → ℕ → List (ℕ × Ruling) → Queue → Queue
owed_leaves hs is k l [] more = more
owed_leaves hs is k l (c ∷ cs) more =
    if holds hs k c.0 && not (is_inside_clause is k c.0) then (l, leave k c.0) ∷ owed_leaves hs is k l cs more else owed_leaves hs is k l cs more

abbrev pub events_of_filter : ℕ → List (ℕ × List ℕ) → List ℕ
events_of_filter k [] = []
events_of_filter k (x ∷ xs) = if x.0 == k then x.1 else events_of_filter k xs

abbrev pub owed_past : Plan → ℕ → List (ℕ × ℕ) → List OpenFrame → ℕ → List ℕ → Queue → Queue
owed_past f k hs fs l [] more = more
owed_past f k hs fs l (n ∷ ns) more =
    (l, past k (n ∷ ns)) ∷ owed_posts f k l (n ∷ ns) (owed_leaves hs (all_inside (in_frame (completed k (n ∷ ns)) fs)) k l (clauses f) more)

abbrev pub owed_behind : Plans → List (ℕ × ℕ) → List OpenFrame → ℕ → List (ℕ × List ℕ) → List ℕ → Queue
owed_behind plans hs fs l xs [] = []
owed_behind plans hs fs l xs (k ∷ ks) = owed_past (plans k) k hs fs l (events_of_filter k xs) (owed_behind plans hs fs l xs ks)

-- What is owed behind a frame, and behind a trap: in order of filters and clauses

abbrev pub all_leaves : Plans → List (ℕ × ℕ) → List Inside → ℕ → List ℕ → Queue
all_leaves plans hs is l [] = []
all_leaves plans hs is l (k ∷ ks) = owed_leaves hs is k l (clauses (plans k)) (all_leaves plans hs is l ks)

abbrev pub with_back : ℕ → Queue → Queue
with_back l [] = []
with_back l (o ∷ os) = (l, back) ∷ (o ∷ os)

abbrev pub owed_out : Plans → List (ℕ × ℕ) → List OpenFrame → ℕ → List ℕ → Queue
owed_out plans hs fs l ks = with_back l (all_leaves plans hs (all_inside fs) l ks)

abbrev pub owed_trap : Plans → List (ℕ × ℕ) → ℕ → List ℕ → Queue
owed_trap plans hs l ks = all_leaves plans hs [] l ks

-- Ticks

abbrev pub is_same_place : Place → Place → Bool
is_same_place place.nowhere place.nowhere = true
is_same_place (place.entry f) (place.entry g) = f == g
is_same_place (place.inside l) (place.inside m) = l == m
is_same_place (place.back_edge l) (place.back_edge m) = l == m
is_same_place (place.out f) (place.out g) = f == g
is_same_place _ _ = false

abbrev pub position_of : Place → List Place → ℕ
position_of x [] = 0
position_of x (y ∷ ys) = if is_same_place y x then 0 else suc (position_of x ys)

abbrev pub place_number : Source → Place → ℕ
place_number p x = position_of x (places p)

abbrev pub function_line : Source → ℕ → ℕ
function_line p f = line_of_function (slice_get p.funcs f)

-- how many entry and back-edge places are passed before a tick
abbrev pub tick_after : ℕ
tick_after = 1000

-- a tick at the thousandth place, before the operations there
abbrev pub with_tick : Source → Place → ℕ → Queue → Queue
with_tick p x n os = if n == tick_after then (line_of_place p x, tick (place_number p x)) ∷ os else os

-- What comes of each item

abbrev pub open_statement : ℕ → OpenFrame → OpenFrame
open_statement l x = record x { statements = record { line = l; events = [] } ∷ x.statements }

abbrev pub without_first : {A : Type 0} → List A → List A
without_first [] = []
without_first (x ∷ xs) = xs

abbrev pub close_statement : OpenFrame → OpenFrame
close_statement x = record x { statements = without_first x.statements }

-- the events that began with the innermost statement
abbrev pub begun_with : List OpenFrame → List (ℕ × List ℕ)
begun_with [] = []
begun_with (x ∷ xs) = of_first x.statements
  where
    of_first : List OpenStatement → List (ℕ × List ℕ)
    of_first [] = []
    of_first (s ∷ ss) = s.events

abbrev pub inside_first : List OpenFrame → List Inside
inside_first [] = []
inside_first (x ∷ xs) = x.inside

abbrev pub taking : Walk → List Version → Walk
taking z [] = z
taking z (v ∷ vs) = record z { coming = vs; active = v.active }

-- behind an entry of its own
abbrev pub behind_entry : Walk → Walk
behind_entry z = record z { passed = []; is_blocked = false; spot = elsewhere }

abbrev pub after_item : Source → Plans → Walk → Item → Walk
after_item p plans z (made l begin) = taking (behind_entry z) z.coming
after_item p plans z (made l (trap c)) = record z { frames = []; spot = trapped l; owed = owed_trap plans z.held l z.active; passed = []; is_blocked = false }
after_item p plans z (made l a) = behind_entry z
after_item p plans z (begins l env) =
    record z { frames = in_frame (open_statement l) z.frames; spot = beginning l env; owed = owed_at plans z.held l (statement l) env z.active }
after_item p plans z (done l) =
    record z { frames = in_frame close_statement z.frames; spot = complete l; owed = owed_behind plans z.held z.frames l (begun_with z.frames) z.active }
after_item p plans z (edge l) =
    record z { passed = place.back_edge l ∷ z.passed; spot = elsewhere; owed = with_tick p (place.back_edge l) (suc (length z.passed)) [] }
after_item p plans z (enter f env) =
    record z {
      frames = record { func = f; statements = []; inside = [] } ∷ z.frames;
      passed = place.entry f ∷ z.passed;
      spot = entered f env;
      owed = with_tick p (place.entry f) (suc (length z.passed)) (owed_at plans z.held (function_line p f) (function (Some f)) env z.active);
    }
after_item p plans z (out f) =
    record z {
      frames = without_first z.frames;
      spot = left f (inside_first z.frames);
      owed = owed_out plans z.held (without_first z.frames) (function_line p f) z.active;
    }

-- What comes of each operation

-- the regions of a filter that are entered with these events
abbrev pub entered_ranges : ℕ → List ℕ → ℕ → List Range → List Inside
entered_ranges k ns c [] = []
entered_ranges k ns c (x ∷ xs) =
    if share (entry_events x) ns then record { filter = k; clause = c; range = x } ∷ entered_ranges k ns c xs else entered_ranges k ns c xs

abbrev pub entered_regions : Plan → ℕ → List ℕ → List Inside
entered_regions f k ns = flat_map (λ (c : ℕ × Ruling). entered_ranges k ns c.0 (ranges_of c.1)) (clauses f)

abbrev pub note_events : ℕ → List ℕ → List OpenStatement → List OpenStatement
note_events k ns [] = []
note_events k ns (s ∷ ss) = record s { events = (k, ns) ∷ s.events } ∷ ss

-- an event of a statement is noted with it; that of a function has no completion
abbrev pub noted_at : Spot → ℕ → List ℕ → OpenFrame → OpenFrame
noted_at (beginning l env) k ns x = record x { statements = note_events k ns x.statements }
noted_at _ k ns x = x

abbrev pub begun_at : Plan → Spot → ℕ → List ℕ → OpenFrame → OpenFrame
begun_at f s k ns x = noted_at s k ns (record x { inside = entered_regions f k ns ++ x.inside })

abbrev pub without_clause : ℕ → ℕ → List (ℕ × ℕ) → List (ℕ × ℕ)
without_clause k c hs = filter (λ (h : ℕ × ℕ). not ((h.0 == k) && (h.1 == c))) hs

abbrev pub left_behind : Spot → Spot
left_behind (left f is) = left f []
left_behind s = s

-- the filter of an operation
abbrev pub operation_filter : Operation → Option ℕ
operation_filter (wait k n) = Some k
operation_filter (enters k c) = Some k
operation_filter (at k ns) = Some k
operation_filter (past k ns) = Some k
operation_filter (post k n) = Some k
operation_filter (leave k c) = Some k
operation_filter _ = None

-- What is still owed where these filters alone stay: their operations, a tick, and `Back` where a leave stands behind it.
abbrev pub stays : List ℕ → Option ℕ → Bool
stays ks None = true
stays ks (Some k) = has ks k

abbrev pub still_owed : List ℕ → Queue → Queue
still_owed ks [] = []
still_owed ks ((l, back) ∷ os) = with_back l (still_owed ks os)
still_owed ks ((l, o) ∷ os) = if stays ks (operation_filter o) then (l, o) ∷ still_owed ks os else still_owed ks os

-- the filters that are new in a version, and what they owe at the same beginning, where the thread holds nothing of them
abbrev pub new_filters : List ℕ → List ℕ → List ℕ
new_filters old ks = filter (λ k. not (has old k)) ks

abbrev pub owed_fresh : Source → Plans → Spot → List ℕ → Queue
owed_fresh p plans (beginning l env) ks = owed_at plans [] l (statement l) env ks
owed_fresh p plans (entered f env) ks = owed_at plans [] (function_line p f) (function (Some f)) env ks
owed_fresh p plans _ ks = []

-- What is left to be made here in a new version. Where all was made, the thread has gone on, and nothing is added.
abbrev pub owed_behind_cross : Source → Plans → Spot → List ℕ → List ℕ → Queue → Queue
owed_behind_cross p plans s old ks [] = []
owed_behind_cross p plans s old ks (o ∷ os) = still_owed ks (o ∷ os) ++ owed_fresh p plans s (new_filters old ks)

-- what it holds by filters that are left behind, and is inside by them, is forgotten
abbrev pub without_filters : List ℕ → List Inside → List Inside
without_filters ks is = filter (λ (i : Inside). has ks i.filter) is

abbrev pub frames_without : List ℕ → List OpenFrame → List OpenFrame
frames_without ks [] = []
frames_without ks (x ∷ xs) = record x { inside = without_filters ks x.inside } ∷ frames_without ks xs

abbrev pub spot_without : List ℕ → Spot → Spot
spot_without ks (left f is) = left f (without_filters ks is)
spot_without ks s = s

abbrev pub crossing : Source → Plans → Walk → List Version → Walk
crossing p plans z [] = z
crossing p plans z (v ∷ vs) =
    record z {
      coming = vs;
      active = v.active;
      held = filter (λ (h : ℕ × ℕ). has v.active h.0) z.held;
      frames = frames_without v.active z.frames;
      spot = spot_without v.active z.spot;
      owed = owed_behind_cross p plans z.spot z.active v.active z.owed;
      passed = [];
      is_blocked = false;
    }

-- one operation less is owed
abbrev pub made_one : Walk → Walk
made_one z = record z { owed = without_first z.owed; passed = []; is_blocked = false }

abbrev pub after_operation : Source → Plans → Walk → Operation → Walk
after_operation p plans z (wait k n) = made_one z
after_operation p plans z (enters k c) = record (made_one z) { held = (k, c) ∷ z.held }
after_operation p plans z (at k ns) = record (made_one z) { frames = in_frame (begun_at (plans k) z.spot k ns) z.frames }
after_operation p plans z (past k ns) = record (made_one z) { frames = in_frame (completed k ns) z.frames }
after_operation p plans z (post k n) = made_one z
after_operation p plans z (leave k c) = record (made_one z) { held = without_clause k c z.held }
after_operation p plans z back = record (made_one z) { spot = left_behind z.spot }
after_operation p plans z (tick x) = made_one z
after_operation p plans z (cross x v n) = crossing p plans z z.coming
after_operation p plans z (blocked what) = record z { passed = []; is_blocked = true }

abbrev pub walk_behind : Source → Plans → Walk → PartStep → Walk
walk_behind p plans z (goes i) = after_item p plans z i
walk_behind p plans z (makes l o) = after_operation p plans z o

abbrev pub walk_from : Source → Plans → Walk → List PartStep → Walk
walk_from p plans z [] = z
walk_from p plans z (s ∷ ss) = walk_from p plans (walk_behind p plans z s) ss

-- What comes next

-- the in place of the innermost statement of the top frame, or its entry place before the first
abbrev pub innermost : ℕ → List OpenStatement → Place
innermost f [] = place.entry f
innermost f (s ∷ ss) = place.inside s.line

abbrev pub place_in_top : List OpenFrame → Place
place_in_top [] = place.nowhere
place_in_top (x ∷ xs) = innermost x.func x.statements

-- The place of a request: behind a statement and behind a trap it is that of the statement, behind a frame that of the frame until all that is
-- owed there is made, and behind the last frame always.
abbrev pub place_of_request : Spot → Queue → List OpenFrame → Place
place_of_request elsewhere os fs = place_in_top fs
place_of_request (beginning l env) os fs = place_in_top fs
place_of_request (entered f env) os fs = place_in_top fs
place_of_request (complete l) os fs = place.inside l
place_of_request (trapped l) os fs = place.inside l
place_of_request (left f is) (o ∷ os) fs = place.out f
place_of_request (left f is) [] [] = place.out f
place_of_request (left f is) [] (x ∷ xs) = place_in_top (x ∷ xs)

abbrev pub request_place : Walk → Place
request_place z = place_of_request z.spot z.owed z.frames

-- The place of what comes next: of the mark `enter` or `edge`, or of the request. `rest` is what the tree gives.
abbrev pub place_of_item : Walk → List Item → Option Place
place_of_item z [] = None
place_of_item z (made l begin ∷ is) = None
place_of_item z (made l a ∷ is) = Some (request_place z)
place_of_item z (enter f env ∷ is) = Some (place.entry f)
place_of_item z (edge l ∷ is) = Some (place.back_edge l)
place_of_item z (begins l env ∷ is) = None
place_of_item z (done l ∷ is) = None
place_of_item z (out f ∷ is) = None

abbrev pub place_of_next : Walk → Queue → List Item → Option Place
place_of_next z [] rest = place_of_item z rest
place_of_next z (o ∷ os) rest = Some (request_place z)

-- the next request is one that can be disabled: an act, where nothing is owed, or what is owed first
abbrev pub Owes : Queue → ℕ → Operation → Type 0
Owes [] l o = ⊥
Owes (x ∷ os) l o = x ≡ (l, o)

abbrev pub Acts : Queue → List Item → ℕ → Act → Type 0
Acts (o ∷ os) rest l a = ⊥
Acts [] [] l a = ⊥
Acts [] (i ∷ is) l a = i ≡ made l a

abbrev pub AsksFor : Walk → List Item → ℕ → What → Type 0
AsksFor z rest l (w.Lock m) = Acts z.owed rest l (lock m)
AsksFor z rest l (w.Down s) = Acts z.owed rest l (down s)
AsksFor z rest l (w.Join c) = Acts z.owed rest l (join c)
AsksFor z rest l (w.Enter k c) = Owes z.owed l (enters k c)
AsksFor z rest l (w.Wait k n) = Owes z.owed l (wait k n)

-- Which step may stand

abbrev pub first_number : List Version → Option ℕ
first_number [] = None
first_number (v ∷ vs) = Some v.number

-- at the place of what comes next, with the version that is to be taken, and as many places as were passed
pub record MayCross (p : Source) (z : Walk) (rest : List Item) (l x v n : ℕ) : Type 0 where
  pub place : Place
  pub next : place_of_next z z.owed rest ≡ Some place
  pub number : x ≡ place_number p place
  pub line : l ≡ line_of_place p place
  pub version : first_number z.coming ≡ Some v
  pub passed : n ≡ length z.passed

pub record MayBlock (z : Walk) (rest : List Item) (l : ℕ) (what : What) : Type 0 where
  pub asks : AsksFor z rest l what
  pub not_yet : z.is_blocked ≡ false

abbrev pub HasVersion : List Version → Type 0
HasVersion [] = ⊥
HasVersion (v ∷ vs) = Unit {0}

-- An item stands where nothing is owed, and operations stand as they are owed.
abbrev pub MayStand : Source → Walk → PartStep → List Item → Type 0
MayStand p z (goes (made l begin)) rest = (z.owed ≡ []) × HasVersion z.coming
MayStand p z (goes i) rest = z.owed ≡ []
MayStand p z (makes l (cross x v n)) rest = MayCross p z rest l x v n
MayStand p z (makes l (blocked what)) rest = MayBlock z rest l what
MayStand p z (makes l o) rest = Owes z.owed l o

-- Each step stands rightly behind those before it. `ahead` is what the tree gives behind the last one.
abbrev pub AreWoven : Source → Plans → Walk → List PartStep → List Item → Type 0
AreWoven p plans z [] ahead = Unit {0}
AreWoven p plans z (s ∷ ss) ahead = MayStand p z s (items ss ++ ahead) × AreWoven p plans (walk_behind p plans z s) ss ahead
