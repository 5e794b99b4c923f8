-- Journals that are not lawful, since a tick is left out, or told early.
use Rattle.std.proofs.Common.{ℕ, zero, suc, ◌+◌, ◌≤◌, ◌<◌, ◌≡◌, ◌==◌, ◌⊎◌, inl, inr, Bool, true, false, nat_lt, drop, pos, List, [], ◌∷◌, ◌++◌, length, map, Some, slice_get, refl, sym, ap, subst, ◌∙◌, codes, arith}
use Rattle.std.proofs.lemmas.Bool.{eqb-false, ne_eqb, ltb-true, ltb-false}
use Rattle.loom_tree.specs.Tree.{Source, num, Simple, simple, while_}
use Rattle.loom_tree.specs.Tree as tree
use Rattle.loom_trace.specs.declared.entry.Entry.{Entry}
use Rattle.loom_trace.specs.declared.entry.Entry.TheVariants as e
use Rattle.loom_trace.specs.declared.request.Request.TheVariants as r
use Rattle.loom_lang.specs.Places.{Place, places, line_of_place}
use Rattle.loom_lang.specs.Places as place
use Rattle.loom_lang.specs.Trace.{Locals, Lists, Open, turns, IsTrace, begin, end, trap, read, write, lock, unlock, down, up, spawn, join, print, Item, made, begins, done, edge, enter, out}
use Rattle.loom_event.specs.TargetEvent.{TargetEvent}
use Rattle.loom_event.specs.Replay.{start, thread_at, replay}
use Rattle.loom_event.proofs.Runs.{next, given, event_of, events_told}
use Rattle.loom_event.proofs.Examples.{event}
use Rattle.loom_law.specs.Filter.{function}
use Rattle.loom_law.specs.Walk.{Version, Plans, wait, enters, past, post, leave, back, tick, cross, blocked, Operation, PartStep, goes, makes, items, filter_entries, OpenStatement, OpenFrame, Spot, elsewhere, beginning, entered, complete, left, trapped, Queue, Walk, unborn, owed_at, function_line, place_number, tick_after, with_tick, taking, crossing, walk_behind, walk_from, place_of_request, request_place, innermost, place_in_top, place_of_next, first_number, MayCross, MayStand, AreWoven}
use Rattle.loom_law.specs.Walk as walk
use Rattle.loom_law.specs.ThreadPart.{Own, IsPart, AsksToMake, AsksToAct}
use Rattle.loom_law.specs.Lawful.{Setting, plans, HasPart, IsLawful}
use Rattle.loom_law.proofs.Earlier.{an_own, woven_front, by_test, if_true, if_false, same_number, takings}
use Rattle.loom_law.proofs.Turns.{stands_there, walk_coming}
use Rattle.loom_law.proofs.OnePart.{append_none}
use Rattle.loom_law.proofs.Makings.{OpPart, cut_part}
use Rattle.loom_law.proofs.OneRequest.{no_split, one_operation}
use Rattle.loom_law.proofs.NoParts.{at_number}
use Rattle.loom_law.proofs.TickJournal.{endless, loop_setting}
use Rattle.loom_law.proofs.EvacuationJournal.{evacuated, evacuation_setting}

-- A thread never passes more than a thousand places, and the thousandth one only with the tick owed first.

abbrev is_tick_first : Queue → Bool
is_tick_first ((l, tick x) ∷ os) = true
is_tick_first _ = false

abbrev Counts : ℕ → Queue → Type 0
Counts n os = (n < tick_after) ⊎ ((n ≡ tick_after) × (is_tick_first os ≡ true))

abbrev InTime : Walk → Type 0
InTime z = Counts (length z.passed) z.owed

none_passed : (z : Walk) → length z.passed ≡ 0 → InTime z
none_passed z h = inl (omega arith)

-- where nothing is owed
few : (n : ℕ) (os : Queue) → os ≡ [] → Counts n os → n < tick_after
few n os none (inl h) = h
few n os none (inr h) = let no : true ≡ false = sym h.1 ∙ ap is_tick_first none in cc

one_less : (n : ℕ) → n < tick_after → (suc n == tick_after) ≡ false → suc n < tick_after
one_less n h b =
    let other : suc n ≡ tick_after → ⊥ = eqb-false (suc n) tick_after b in
    by_test (nat_lt (suc n) tick_after) (suc n < tick_after) (λ g. ltb-true (suc n) tick_after g) (λ g.
    let most : tick_after ≤ suc n = ltb-false (suc n) tick_after g in
    let same : suc n ≡ tick_after = omega arith in
    absurd (other same))

-- one place more
counted : (p : Source) (x : Place) (n : ℕ) (os : Queue) → n < tick_after → Counts (suc n) (with_tick p x (suc n) os)
counted p x n os h = by_test (suc n == tick_after) (Counts (suc n) (with_tick p x (suc n) os)) last before
  where
    last : (suc n == tick_after) ≡ true → Counts (suc n) (with_tick p x (suc n) os)
    last b =
        inr (same_number (suc n) tick_after b, ap is_tick_first (if_true (suc n == tick_after) ((line_of_place p x, tick (place_number p x)) ∷ os) os b))

    before : (suc n == tick_after) ≡ false → Counts (suc n) (with_tick p x (suc n) os)
    before b = inl (one_less n h b)

taking_passed : (z : Walk) (vs : List Version) → Walk.passed (taking z vs) ≡ z.passed
taking_passed z [] = refl
taking_passed z (v ∷ vs) = refl

crossing_passed : (p : Source) (ps : Plans) (z : Walk) (vs : List Version) (v : ℕ) → first_number vs ≡ Some v → Walk.passed (crossing p ps z vs) ≡ []
crossing_passed p ps z [] v h = cc
crossing_passed p ps z (w ∷ vs) v h = refl

item_in_time : (p : Source) (ps : Plans) (z : Walk) (i : Item) (rest : List Item) → InTime z → MayStand p z (goes i) rest → InTime (walk_behind p ps z (goes i))
item_in_time p ps z (made l begin) rest c h = none_passed (walk_behind p ps z (goes (made l begin))) (ap length (taking_passed (walk.behind_entry z) z.coming))
item_in_time p ps z (made l end) rest c h = none_passed (walk_behind p ps z (goes (made l end))) refl
item_in_time p ps z (made l (trap cause)) rest c h = none_passed (walk_behind p ps z (goes (made l (trap cause)))) refl
item_in_time p ps z (made l (read x v)) rest c h = none_passed (walk_behind p ps z (goes (made l (read x v)))) refl
item_in_time p ps z (made l (write x v)) rest c h = none_passed (walk_behind p ps z (goes (made l (write x v)))) refl
item_in_time p ps z (made l (lock m)) rest c h = none_passed (walk_behind p ps z (goes (made l (lock m)))) refl
item_in_time p ps z (made l (unlock m)) rest c h = none_passed (walk_behind p ps z (goes (made l (unlock m)))) refl
item_in_time p ps z (made l (down m)) rest c h = none_passed (walk_behind p ps z (goes (made l (down m)))) refl
item_in_time p ps z (made l (up m)) rest c h = none_passed (walk_behind p ps z (goes (made l (up m)))) refl
item_in_time p ps z (made l (spawn t f vs)) rest c h = none_passed (walk_behind p ps z (goes (made l (spawn t f vs)))) refl
item_in_time p ps z (made l (join t)) rest c h = none_passed (walk_behind p ps z (goes (made l (join t)))) refl
item_in_time p ps z (made l (print v)) rest c h = none_passed (walk_behind p ps z (goes (made l (print v)))) refl
item_in_time p ps z (begins l env) rest c h = inl (few (length z.passed) z.owed h c)
item_in_time p ps z (done l) rest c h = inl (few (length z.passed) z.owed h c)
item_in_time p ps z (edge l) rest c h = counted p (place.back_edge l) (length z.passed) [] (few (length z.passed) z.owed h c)
item_in_time p ps z (enter f env) rest c h =
    counted p (place.entry f) (length z.passed) (owed_at ps z.held (function_line p f) (function (Some f)) env z.active)
    (few (length z.passed) z.owed h c)
item_in_time p ps z (out f) rest c h = inl (few (length z.passed) z.owed h c)

operation_in_time : (p : Source) (ps : Plans) (z : Walk) (l : ℕ) (o : Operation) (rest : List Item) → MayStand p z (makes l o) rest → InTime (walk_behind p ps z (makes l o))
operation_in_time p ps z l (wait k n) rest h = none_passed (walk_behind p ps z (makes l (wait k n))) refl
operation_in_time p ps z l (enters k c) rest h = none_passed (walk_behind p ps z (makes l (enters k c))) refl
operation_in_time p ps z l (walk.at k ns) rest h = none_passed (walk_behind p ps z (makes l (walk.at k ns))) refl
operation_in_time p ps z l (past k ns) rest h = none_passed (walk_behind p ps z (makes l (past k ns))) refl
operation_in_time p ps z l (post k n) rest h = none_passed (walk_behind p ps z (makes l (post k n))) refl
operation_in_time p ps z l (leave k c) rest h = none_passed (walk_behind p ps z (makes l (leave k c))) refl
operation_in_time p ps z l back rest h = none_passed (walk_behind p ps z (makes l back)) refl
operation_in_time p ps z l (tick x) rest h = none_passed (walk_behind p ps z (makes l (tick x))) refl
operation_in_time p ps z l (cross x v n) rest h =
    none_passed (walk_behind p ps z (makes l (cross x v n))) (ap length (crossing_passed p ps z z.coming v h.version))
operation_in_time p ps z l (blocked what) rest h = none_passed (walk_behind p ps z (makes l (blocked what))) refl

steps_in_time : (p : Source) (ps : Plans) (z : Walk) (ss : List PartStep) (ahead : List Item) → InTime z → AreWoven p ps z ss ahead → InTime (walk_from p ps z ss)
steps_in_time p ps z [] ahead c h = c
steps_in_time p ps z (goes i ∷ ss) ahead c h =
    steps_in_time p ps (walk_behind p ps z (goes i)) ss ahead (item_in_time p ps z i (items ss ++ ahead) c h.0) h.1
steps_in_time p ps z (makes l o ∷ ss) ahead c h =
    steps_in_time p ps (walk_behind p ps z (makes l o)) ss ahead (operation_in_time p ps z l o (items ss ++ ahead) h.0) h.1

-- A thread that owes something doesn't stand at a back edge.

not_innermost : (f : ℕ) (ss : List OpenStatement) (m : ℕ) → innermost f ss ≡ place.back_edge m → ⊥
not_innermost f [] m h = cc
not_innermost f (s ∷ ss) m h = cc

not_in_top : (fs : List OpenFrame) (m : ℕ) → place_in_top fs ≡ place.back_edge m → ⊥
not_in_top [] m h = cc
not_in_top (x ∷ xs) m h = not_innermost x.func x.statements m h

not_of_request : (s : Spot) (os : Queue) (fs : List OpenFrame) (m : ℕ) → place_of_request s os fs ≡ place.back_edge m → ⊥
not_of_request elsewhere os fs m h = not_in_top fs m h
not_of_request (beginning l env) os fs m h = not_in_top fs m h
not_of_request (entered f env) os fs m h = not_in_top fs m h
not_of_request (complete l) os fs m h = cc
not_of_request (trapped l) os fs m h = cc
not_of_request (left f is) (o ∷ os) fs m h = cc
not_of_request (left f is) [] [] m h = cc
not_of_request (left f is) [] (x ∷ xs) m h = not_in_top (x ∷ xs) m h

no_tick_at_edge : (z : Walk) (os : Queue) (rest : List Item) (m : ℕ) → place_of_next z os rest ≡ Some (place.back_edge m) → is_tick_first os ≡ true → ⊥
no_tick_at_edge z [] rest m h first = cc
no_tick_at_edge z (o ∷ os) rest m h first =
    let same : request_place z ≡ place.back_edge m = cc in
    not_of_request z.spot z.owed z.frames m same

few_at_edge : (z : Walk) (rest : List Item) (m : ℕ) → InTime z → place_of_next z z.owed rest ≡ Some (place.back_edge m) → length z.passed < tick_after
few_at_edge z rest m (inl few) h = few
few_at_edge z rest m (inr both) h = absurd (no_tick_at_edge z z.owed rest m h both.1)

-- So a `Cross` at a back edge tells fewer than a thousand places.
pub crosses_in_time : (p : Source) (ps : Plans) (x : Own) (es : List Entry) (l y v n m : ℕ) → x.entries ≡ es ++ e.Cross x.thread l y v n ∷ []
    → slice_get (places p) y ≡ Some (place.back_edge m) → IsPart p ps x → n < tick_after
crosses_in_time p ps x es l y v n m is edge_there h =
    let c : OpPart p ps x l (cross y v n) = cut_part p ps x es l (cross y v n) is h in
    let part : IsPart p ps x = c.part in
    let last : List PartStep = makes l (cross y v n) ∷ [] in
    let woven : AreWoven p ps (unborn x.versions) (c.before ++ last) part.ahead = subst (λ ss. AreWoven p ps (unborn x.versions) ss part.ahead) c.last part.woven in
    let z : Walk = walk_from p ps (unborn x.versions) c.before in
    let stands : MayCross p z part.ahead l y v n = stands_there p ps (unborn x.versions) c.before (makes l (cross y v n)) [] part.ahead woven in
    let there : place.back_edge m ≡ stands.place = at_number stands.place (places p) y (place.back_edge m) (sym stands.number) edge_there in
    let at_edge : place_of_next z z.owed part.ahead ≡ Some (place.back_edge m) = subst (λ u. place_of_next z z.owed part.ahead ≡ Some u) (sym there) stands.next in
    let in_time : InTime z =
    steps_in_time p ps (unborn x.versions) c.before (items last ++ part.ahead) (none_passed (unborn x.versions) refl)
    (woven_front p ps (unborn x.versions) c.before last part.ahead woven) in
    let few : length z.passed < tick_after = few_at_edge z part.ahead m in_time at_edge in
    subst (λ k. k < tick_after) (sym stands.passed) few

-- A tick is left out.

abbrev first_version : Version
first_version = record { number = 0; active = [] }

-- a thousand places behind its begin the thread takes a version, and made no tick
abbrev pub tick_missing : List Entry
tick_missing = e.Begin 1 1 ∷ e.Asked 1 ∷ e.Installed 1 1 (3 ∷ 0 ∷ 0 ∷ 0 ∷ 0 ∷ 0 ∷ 0 ∷ 0 ∷ []) ∷ e.Cross 1 2 3 1 1000 ∷ []

abbrev missing_own : Own
missing_own = an_own 1 0 [] (first_version ∷ record { number = 1; active = 1 ∷ [] } ∷ []) (e.Begin 1 1 ∷ e.Cross 1 2 3 1 1000 ∷ [])

pub tick_missing_unlawful : IsLawful loop_setting tick_missing → ⊥
tick_missing_unlawful h =
    let xs : List TargetEvent = (event 1 1 begin ∷ []) in
    let same : h.events ≡ xs = events_told h.events xs (ap (map event_of) h.tells) in
    let P : List TargetEvent → Type 0 = λ ys. HasPart loop_setting tick_missing 1 (thread_at (replay (start endless 8) ys) 1) in
    let part : IsPart endless (plans loop_setting) missing_own = subst P same (h.parts 1) in
    let few : 1000 < tick_after = crosses_in_time endless (plans loop_setting) missing_own (e.Begin 1 1 ∷ []) 2 3 1 1000 2 refl refl part in
    let no : ⊥ = omega arith in
    no

-- A tick is left out, and the next one is told.

-- 1  fn main() {
-- 2    while (1) {
-- 3      f();
-- 4      f();
-- 5    }
-- 6  }
-- 7  fn f() {
-- 8  }
abbrev calling : Source
calling = record {
  words = [];
  mutexes = [];
  semas = [];
  funcs =
      record { name = codes "main"; line = 1; params = []; body = while_ 2 (num (pos 1)) (simple 3 (Simple.call (codes "f") []) (simple 4 (Simple.call (codes "f") []) tree.end)) tree.end }
      ∷ record { name = codes "f"; line = 7; params = []; body = tree.end } ∷ [];
}

abbrev calling_setting : Setting
calling_setting = record loop_setting { program = calling; commands = [] }

-- so many turns of the loop, with three places in each
turns_of : ℕ → List PartStep → List PartStep
turns_of zero more = more
turns_of (suc n) more =
    goes (begins 3 []) ∷ goes (enter 1 []) ∷ goes (out 1) ∷ goes (done 3) ∷ goes (begins 4 []) ∷ goes (enter 1 []) ∷ goes (out 1) ∷ goes (done 4) ∷ goes (edge 2) ∷ turns_of n more

turns_told : (n : ℕ) (more : List PartStep) → filter_entries 1 (turns_of n more) ≡ filter_entries 1 more
unfolding turns_of
turns_told zero more = refl
turns_told (suc n) more = turns_told n more

turns_trace : (turn : Locals → (Locals → Lists) → (Locals → Lists) → Lists) (more : Locals → Lists)
    → ((again leave : Locals → Lists) (is : List Item) → again [] is Open
    → turn [] again leave (begins 3 [] ∷ enter 1 [] ∷ out 1 ∷ done 3 ∷ begins 4 [] ∷ enter 1 [] ∷ out 1 ∷ done 4 ∷ edge 2 ∷ is) Open)
    → (n : ℕ) → turns n turn more [] (items (turns_of n [])) Open
unfolding turns_of
turns_trace turn more h zero = (refl, refl)
turns_trace turn more h (suc n) = h (λ env. turns n turn more env) more (items (turns_of n [])) (turns_trace turn more h n)

calling_trace : (n : ℕ) → IsTrace calling 0 [] (made 1 begin ∷ enter 0 [] ∷ begins 2 [] ∷ items (turns_of n [])) Open
calling_trace n = record {
  most_turns = n;
  gives = next (next (next (turns_trace _ _ (λ again leave is h. next (next (next (next (next (next (next (next (next h))))))))) n)));
}

-- in the loop, behind these places
abbrev at_turn : Spot → List Place → Walk
at_turn s ys = record {
  coming = [];
  active = [];
  held = [];
  frames = record { func = 0; statements = record { line = 2; events = [] } ∷ []; inside = [] } ∷ [];
  spot = s;
  owed = [];
  passed = ys;
  is_blocked = false;
}

-- in the call on a line
abbrev in_call : ℕ → List Place → Walk
in_call l ys = record (at_turn (entered 1 []) (place.entry 1 ∷ ys)) {
  frames = record { func = 1; statements = []; inside = [] }
      ∷ record { func = 0; statements = record { line = l; events = [] } ∷ record { line = 2; events = [] } ∷ []; inside = [] } ∷ [];
}

abbrev no_plans : Plans
no_plans = plans calling_setting

not_yet : (x : Place) (n : ℕ) → suc n < 1000 → with_tick calling x (suc n) [] ≡ []
not_yet x n h = if_false (suc n == 1000) _ [] (ne_eqb (suc n) 1000 (λ e. omega arith))

-- one turn, up to its back edge
turn_woven : (s : Spot) (ys : List Place) → suc (length ys) + 1 < 1000 → (more : List PartStep) (ahead : List Item)
    → AreWoven calling no_plans (record (at_turn elsewhere (place.back_edge 2 ∷ place.entry 1 ∷ place.entry 1 ∷ ys)) { owed = with_tick calling (place.back_edge 2) (suc (suc (suc (length ys)))) [] }) more ahead
    → AreWoven calling no_plans (at_turn s ys) (turns_of 1 more) ahead
unfolding turns_of
turn_woven s ys few more ahead h =
    let zs : List Place = place.entry 1 ∷ ys in
    let second : List PartStep = goes (out 1) ∷ goes (done 4) ∷ goes (edge 2) ∷ more in
    let first : List PartStep = goes (out 1) ∷ goes (done 3) ∷ goes (begins 4 []) ∷ goes (enter 1 []) ∷ second in
    let P : Queue → Type 0 = λ os. AreWoven calling no_plans (record (in_call 3 ys) { owed = os }) first ahead in
    let Q : Queue → Type 0 = λ os. AreWoven calling no_plans (record (in_call 4 zs) { owed = os }) second ahead in
    let behind : Q (with_tick calling (place.entry 1) (suc (length zs)) []) = subst Q (sym (not_yet (place.entry 1) (length zs) (omega arith))) (refl, (refl, (refl, h))) in
    (refl, (refl, subst P (sym (not_yet (place.entry 1) (length ys) (omega arith))) (refl, (refl, (refl, (refl, behind))))))

turns_woven : (n : ℕ) (s : Spot) (ys : List Place) → length ys + (n + n + n) < 1000 → (more : List PartStep) (ahead : List Item)
    → ((t : Spot) (zs : List Place) → length zs ≡ length ys + (n + n + n) → AreWoven calling no_plans (at_turn t zs) more ahead)
    → AreWoven calling no_plans (at_turn s ys) (turns_of n more) ahead
unfolding turns_of
turns_woven zero s ys few more ahead h = h s ys (omega arith)
turns_woven (suc n) s ys few more ahead h =
    let zs : List Place = place.back_edge 2 ∷ place.entry 1 ∷ place.entry 1 ∷ ys in
    let P : Queue → Type 0 = λ os. AreWoven calling no_plans (record (at_turn elsewhere zs) { owed = os }) (turns_of n more) ahead in
    let ih : AreWoven calling no_plans (at_turn elsewhere zs) (turns_of n more) ahead = turns_woven n elsewhere zs (omega arith) more ahead (λ t us is. h t us (omega arith)) in
    turn_woven s ys (omega arith) (turns_of n more) ahead (subst P (sym (not_yet (place.back_edge 2) (suc (suc (length ys))) (omega arith))) ih)

-- the turn with the thousandth place, and the tick there
abbrev with_first_tick : List PartStep
with_first_tick = turns_of 1 (makes 2 (tick 3) ∷ [])

first_tick : (ys : List Place) → length ys ≡ 997 → with_tick calling (place.back_edge 2) (suc (suc (suc (length ys)))) [] ≡ (2, tick 3) ∷ []
first_tick ys is = if_true (suc (suc (suc (length ys))) == 1000) ((2, tick 3) ∷ []) [] (ap (λ n. suc (suc (suc n)) == 1000) is)

tick_woven : (s : Spot) (ys : List Place) → length ys ≡ 997 → AreWoven calling no_plans (at_turn s ys) with_first_tick []
tick_woven s ys is =
    let zs : List Place = place.back_edge 2 ∷ place.entry 1 ∷ place.entry 1 ∷ ys in
    let P : Queue → Type 0 = λ os. AreWoven calling no_plans (record (at_turn elsewhere zs) { owed = os }) (makes 2 (tick 3) ∷ []) [] in
    turn_woven s ys (omega arith) (makes 2 (tick 3) ∷ []) [] (subst P (sym (first_tick ys is)) (refl, tt))

one_more_turn : (n : ℕ) → items (turns_of n with_first_tick) ≡ items (turns_of (suc n) [])
unfolding turns_of
one_more_turn zero = refl
one_more_turn (suc n) =
    ap (λ is. begins 3 [] ∷ enter 1 [] ∷ out 1 ∷ done 3 ∷ begins 4 [] ∷ enter 1 [] ∷ out 1 ∷ done 4 ∷ edge 2 ∷ is) (one_more_turn n)

abbrev calling_own : Own
calling_own = an_own 1 0 [] (first_version ∷ []) (e.Begin 1 1 ∷ [])

abbrev tick_steps : List PartStep
tick_steps = goes (made 1 begin) ∷ goes (enter 0 []) ∷ goes (begins 2 []) ∷ turns_of 332 with_first_tick

tick_told : filter_entries 1 tick_steps ≡ e.Begin 1 1 ∷ e.Tick 1 2 3 ∷ []
tick_told = ap (◌∷◌ (e.Begin 1 1)) (turns_told 332 with_first_tick ∙ turns_told 1 (makes 2 (tick 3) ∷ []))

-- The thousandth place is a back edge, and there the thread asks to tell the tick.
asks_tick : AsksToMake calling no_plans calling_own 2 (tick 3)
asks_tick = record {
  steps = tick_steps;
  ahead = [];
  outcome = Open;
  trace = subst (λ is. IsTrace calling 0 [] is Open) (sym (ap (λ is. made 1 begin ∷ enter 0 [] ∷ begins 2 [] ∷ is) (append_none (items (turns_of 332 with_first_tick)) ∙ one_more_turn 332)))
      (calling_trace 333);
  woven = ((refl, tt), (refl, (refl, turns_woven 332 (beginning 2 []) (place.entry 0 ∷ []) (omega arith) with_first_tick [] (λ s zs is. tick_woven s zs (omega arith)))));
  tells = tick_told;
  taken = walk_coming calling no_plans 1 (unborn (first_version ∷ [])) tick_steps ∙ ap (λ es. drop (takings es) (first_version ∷ [])) tick_told;
}

-- a thousand places behind that tick the next one is told, at the entry of a function
abbrev pub tick_forgotten : List Entry
tick_forgotten = e.Begin 1 1 ∷ e.Tick 1 7 7 ∷ []

pub tick_forgotten_unlawful : IsLawful calling_setting tick_forgotten → ⊥
tick_forgotten_unlawful h =
    let xs : List TargetEvent = (event 1 1 begin ∷ []) in
    let same : h.events ≡ xs = events_told h.events xs (ap (map event_of) h.tells) in
    let P : List TargetEvent → Type 0 = λ ys. HasPart calling_setting tick_forgotten 1 (thread_at (replay (start calling 8) ys) 1) in
    let part : AsksToMake calling no_plans calling_own 7 (tick 7) = subst P same (h.parts 1) in
    let one = one_operation calling no_plans calling_own 2 7 (tick 3) (tick 7) refl refl asks_tick part in
    let no : 2 ≡ 7 = one.0 in
    cc

-- A tick is told at the first turn of a loop.

abbrev pub bare_setting : Setting
bare_setting = record evacuation_setting { commands = [] }

abbrev early_entries : List Entry
early_entries = e.Begin 1 5 ∷ e.Read 1 3 0 (pos 0) ∷ e.Write 1 3 0 (pos 1) ∷ e.Read 1 9 0 (pos 1) ∷ e.Write 1 9 0 (pos 2) ∷ []

abbrev pub tick_early : List Entry
tick_early = early_entries ++ e.Tick 1 7 7 ∷ []

abbrev early_own : Own
early_own = an_own 1 1 [] (first_version ∷ []) early_entries

-- what it asks for is the next read
asks_read : AsksToAct evacuated (plans bare_setting) early_own (r.Read 3 0)
asks_read = record {
  steps = goes (made 5 begin) ∷ goes (enter 1 ((codes "i", pos 0) ∷ [])) ∷ goes (begins 6 ((codes "i", pos 0) ∷ [])) ∷ goes (done 6) ∷ goes (begins 7 ((codes "i", pos 0) ∷ [])) ∷ goes (begins 8 ((codes "i", pos 0) ∷ [])) ∷ goes (enter 0 []) ∷ goes (begins 3 []) ∷ goes (made 3 (read 0 (pos 0))) ∷ goes (made 3 (write 0 (pos 1))) ∷ goes (done 3) ∷ goes (out 0) ∷ goes (done 8) ∷ goes (begins 9 ((codes "i", pos 0) ∷ [])) ∷ goes (made 9 (read 0 (pos 1))) ∷ goes (made 9 (write 0 (pos 2))) ∷ goes (done 9) ∷ goes (begins 10 ((codes "i", pos 0) ∷ [])) ∷ goes (done 10) ∷ goes (edge 7) ∷ goes (begins 8 ((codes "i", pos 1) ∷ [])) ∷ goes (enter 0 []) ∷ goes (begins 3 []) ∷ [];
  next = made 3 (read 0 (pos 2));
  trace = record { most_turns = 3; gives = next (next (next (next (next (next (next (next (given (pos 0) (next (next (next (next (next (next (given (pos 1) (next (next (next (next (next (next (next (next (next (given (pos 2) (next (inl (refl, refl)))))))))))))))))))))))))))) };
  woven = ((refl, tt), (refl, (refl, (refl, (refl, (refl, (refl, (refl, (refl, (refl, (refl, (refl, (refl, (refl, (refl, (refl, (refl, (refl, (refl, (refl, (refl, (refl, (refl, tt)))))))))))))))))))))));
  tells = refl;
  taken = refl;
  rests = refl;
  granted = λ v. record { most_turns = 3; gives = next (next (next (next (next (next (next (next (given (pos 0) (next (next (next (next (next (next (given (pos 1) (next (next (next (next (next (next (next (next (next (given v (next (inl (refl, refl)))))))))))))))))))))))))))) };
  trapped = tt;
}

pub tick_early_unlawful : IsLawful bare_setting tick_early → ⊥
tick_early_unlawful h =
    let xs : List TargetEvent = (event 1 5 begin ∷ event 1 3 (read 0 (pos 0)) ∷ event 1 3 (write 0 (pos 1)) ∷ event 1 9 (read 0 (pos 1)) ∷ event 1 9 (write 0 (pos 2)) ∷ []) in
    let same : h.events ≡ xs = events_told h.events xs (ap (map event_of) h.tells) in
    let P : List TargetEvent → Type 0 = λ ys. HasPart bare_setting tick_early 1 (thread_at (replay (start evacuated 8) ys) 1) in
    let asks_tick : AsksToMake evacuated (plans bare_setting) early_own 7 (tick 7) = subst P same (h.parts 1) in
    no_split evacuated (plans bare_setting) early_own (r.Read 3 0) (record { line = 3; act = read 0 (pos 2) }) 7 (tick 7) asks_read (inl (pos 2, refl)) refl asks_tick
