-- A command stalls: the thread that is parked holds the mutex for which the other parks.
use Rattle.std.proofs.Common.{ℕ, zero, suc, ◌<◌, ◌≡◌, ◌==◌, ◌⊎◌, inl, inr, Bool, true, false, ◌||◌, pos, List, [], ◌∷◌, take, Some, None, slice_get, refl, sym, ap, subst, ◌∙◌, codes, arith}
use Rattle.std.specs.List.{Contains}
use Rattle.loom_tree.specs.declared.expression.Op.TheVariants as o
use Rattle.loom_tree.specs.Tree.{num, var, bin, Right, let_, set, Body, simple, while_, Function, Source}
use Rattle.loom_tree.specs.Tree as tree
use Rattle.loom_trace.specs.declared.entry.Entry.{Entry}
use Rattle.loom_trace.specs.declared.entry.Entry.TheVariants as e
use Rattle.loom_trace.specs.declared.entry.What.TheVariants as w
use Rattle.loom_trace.specs.declared.entry.Ending.TheVariants as k
use Rattle.loom_lang.specs.Places.{Place, nowhere, body_places}
use Rattle.loom_lang.specs.Places as place
use Rattle.loom_lang.specs.Trace.{begin, end, write, lock, unlock, spawn, join, print, made, begins, done, edge, enter, out, Finished, IsTrace}
use Rattle.loom_command.specs.Filter.{LineEvent, Region, Clause, Filter}
use Rattle.loom_command.specs.Script as script
use Rattle.loom_event.specs.TargetEvent.{TargetEvent}
use Rattle.loom_event.specs.Replay.{ThreadState, start, thread_at, replay}
use Rattle.loom_event.specs.Run.{AreRun}
use Rattle.loom_event.proofs.Runs.{next, given, threads_traced, does}
use Rattle.loom_event.proofs.Runs as runs
use Rattle.loom_event.proofs.Stops as stops
use Rattle.loom_event.proofs.Examples.{event}
use Rattle.loom_law.specs.Filter.{Watch, statement, Range, between, Plan, plan_of}
use Rattle.loom_law.specs.Walk.{blocked, PartStep, goes, makes, items}
use Rattle.loom_law.specs.Paths.{Node, leaves, complete, turns, links_of, statements, has_return, called_by, Begins, IsStatement, statements_of, places_of, CallsFunction, Reaches, IsReached, IsReachedAt, watch_at, node_places, IsExit, Halts, Comes, IsUnsafeByEvent, IsUnsafeByPath, IsUnsafeByFunction, IsUnsafe}
use Rattle.loom_law.specs.Paths as paths
use Rattle.loom_law.specs.Control.{means, install, Command}
use Rattle.loom_law.specs.Lawful.{Setting, HasPart, StandsAt, Lives, IsBlocked, IsHeldOff, IsFlagged, MayStall, front_at, IsLawful}
use Rattle.loom_law.proofs.Fronts.{Each, behind, each_one, FollowsBehind, nothing_made}
use Rattle.loom_law.proofs.Journals.{AllOf, each, not_due, moves}

-- 1   mutex m;
-- 2   shared x;
-- 3   fn w() {
-- 4     lock m;
-- 5     x = 1;
-- 6     unlock m;
-- 7   }
-- 8   fn main() {
-- 9     lock m;
-- 10    let t = spawn w();
-- 11    let i = 0;
-- 12    while (i < 2) {
-- 13      print i;
-- 14      i = i + 1;
-- 15    }
-- 16    unlock m;
-- 17    join t;
-- 18  }
-- script: at 6 install f {park.lm:4; park.lm:6}

abbrev locking : Body
locking = simple 4 (tree.lock (codes "m")) tree.end

abbrev unlocking : Body
unlocking = simple 6 (tree.unlock (codes "m")) tree.end

abbrev worker : Function
worker = record {
  name = codes "w";
  line = 3;
  params = [];
  body = simple 4 (tree.lock (codes "m")) (simple 5 (set (codes "x") (Right.value (num (pos 1)))) (simple 6 (tree.unlock (codes "m")) tree.end));
}

abbrev main_function : Function
main_function = record {
  name = codes "main";
  line = 8;
  params = [];
  body = simple 9 (tree.lock (codes "m"))
      (simple 10 (let_ (codes "t") (Right.spawn (codes "w") []))
      (simple 11 (let_ (codes "i") (Right.value (num (pos 0))))
      (while_ 12 (bin o.Lt (var (codes "i")) (num (pos 2)))
      (simple 13 (tree.print (var (codes "i"))) (simple 14 (set (codes "i") (Right.value (bin o.Add (var (codes "i")) (num (pos 1))))) tree.end))
      (simple 16 (tree.unlock (codes "m"))
      (simple 17 (tree.join (var (codes "t"))) tree.end)))));
}

abbrev pub parks : Source
parks = record {
  words = record { name = codes "x"; cells = None; first = pos 0 } ∷ [];
  mutexes = codes "m" ∷ [];
  semas = [];
  funcs = worker ∷ main_function ∷ [];
}

abbrev on_line : ℕ → LineEvent
on_line l = record { file = codes "park.lm"; line = l; test = None }

abbrev pub one_locks : Filter
one_locks = Clause.exclusive (Region.between (on_line 4 ∷ []) (on_line 6 ∷ []) ∷ []) ∷ []

abbrev plan : Plan
plan = plan_of parks one_locks

abbrev stall_commands : List Command
stall_commands = record { trigger = script.at 6; name = codes "f"; action = install (means plan) } ∷ []

-- The loop's back edge is safe, the place of the worker's `lock` isn't

abbrev turn : Place
turn = place.back_edge 12

abbrev NoCall : Body → Type 0
NoCall x = (name : List ℕ) → called_by x ≡ Some name → ⊥

no_reach : (xs : List Body) → AllOf NoCall xs → {n : ℕ} → Reaches parks xs n → ⊥
no_reach xs h (paths.calls c) = each NoCall xs h c.statement c.there c.name c.calls
no_reach xs h (paths.through r c) = no_reach xs h r

no_call : (g l : ℕ) (x : Body) → IsStatement parks g l x → NoCall x
no_call zero l x h =
    let same : worker ≡ h.function = cc in
    each NoCall (statements worker.body) ((λ name g. cc), ((λ name g. cc), ((λ name g. cc), tt))) x
    (subst (λ (f : Function). Contains (statements f.body) x) (sym same) h.there)
no_call (suc zero) l x h =
    let same : main_function ≡ h.function = cc in
    each NoCall (statements main_function.body)
    ((λ name g. cc), ((λ name g. cc), ((λ name g. cc), ((λ name g. cc), ((λ name g. cc), ((λ name g. cc), ((λ name g. cc), ((λ name g. cc), tt)))))))) x
    (subst (λ (f : Function). Contains (statements f.body) x) (sym same) h.there)
no_call (suc (suc g)) l x h = let no : None ≡ Some h.function = h.is in absurd (none_there h.function no)
  where
    none_there : (f : Function) → None ≡ Some f → ⊥
    none_there f e = cc

-- the statements at which the events are are the worker's, and their places other ones
record IsApart (g : ℕ) (x : Body) : Type 0 where
  number : g ≡ 0
  own : Contains (body_places x) turn → ⊥
  returns : has_return x ≡ true → ⊥
  inner : IsReached parks (statements x) turn → ⊥

abbrev other : Place → Type 0
other y = y ≡ turn → ⊥

apart_locking : IsApart 0 locking
apart_locking = record {
  number = refl;
  own = λ c. each other (body_places locking) ((λ g. cc), tt) turn c refl;
  returns = λ g. cc;
  inner = λ h. no_reach (locking ∷ []) ((λ name g. cc), tt) h.reached;
}

apart_unlocking : IsApart 0 unlocking
apart_unlocking = record {
  number = refl;
  own = λ c. each other (body_places unlocking) ((λ g. cc), tt) turn c refl;
  returns = λ g. cc;
  inner = λ h. no_reach (unlocking ∷ []) ((λ name g. cc), tt) h.reached;
}

abbrev Watched : ℕ → Type 0
Watched l = (l ≡ 4) ⊎ (l ≡ 6)

wrong_line : (n l : ℕ) → n ≡ l → (n ≡ 4 → ⊥) → (n ≡ 6 → ⊥) → Watched l → ⊥
wrong_line n l is a b (inl h) = a (is ∙ h)
wrong_line n l is a b (inr h) = b (is ∙ h)

abbrev IsSite : ℕ → Body → Type 0
IsSite g x = (l : ℕ) → Begins x l → Watched l → IsApart g x

apart : (g l : ℕ) (x : Body) → IsStatement parks g l x → Watched l → IsApart g x
apart zero l x h at_line =
    let same : worker ≡ h.function = cc in
    each (IsSite 0) (statements worker.body)
    ((λ m b w. apart_locking), ((λ m b w. absurd (wrong_line 5 m b (λ z. omega arith) (λ z. omega arith) w)), ((λ m b w. apart_unlocking), tt))) x
    (subst (λ (f : Function). Contains (statements f.body) x) (sym same) h.there) l h.line at_line
apart (suc zero) l x h at_line =
    let same : main_function ≡ h.function = cc in
    each (IsSite 1) (statements main_function.body)
    ((λ m b w. absurd (wrong_line 9 m b (λ z. omega arith) (λ z. omega arith) w)), ((λ m b w. absurd (wrong_line 10 m b (λ z. omega arith) (λ z. omega arith) w)), ((λ m b w. absurd (wrong_line 11 m b (λ z. omega arith) (λ z. omega arith) w)), ((λ m b w. absurd (wrong_line 12 m b (λ z. omega arith) (λ z. omega arith) w)), ((λ m b w. absurd (wrong_line 13 m b (λ z. omega arith) (λ z. omega arith) w)), ((λ m b w. absurd (wrong_line 14 m b (λ z. omega arith) (λ z. omega arith) w)), ((λ m b w. absurd (wrong_line 16 m b (λ z. omega arith) (λ z. omega arith) w)), ((λ m b w. absurd (wrong_line 17 m b (λ z. omega arith) (λ z. omega arith) w)), tt)))))))) x (subst (λ (f : Function). Contains (statements f.body) x) (sym same) h.there) l h.line at_line
apart (suc (suc g)) l x h at_line = let no : None ≡ Some h.function = h.is in cc

site_line : (w : Watch) (m l : ℕ) → record { site = statement m; test = None } ≡ w → w.site ≡ statement l → l ≡ m
site_line w m l is at_line =
    let site : statement m ≡ statement l = ap (λ (u : Watch). u.site) is ∙ at_line in
    let same : m ≡ l = cc in
    sym same

watched : (n : ℕ) (w : Watch) (l : ℕ) → watch_at plan n ≡ Some w → w.site ≡ statement l → Watched l
watched zero w l h g = cc
watched (suc zero) w l h g = let is : record { site = statement 4; test = None } ≡ w = cc in inl (site_line w 4 l is g)
watched (suc (suc zero)) w l h g = let is : record { site = statement 6; test = None } ≡ w = cc in inr (site_line w 6 l is g)
watched (suc (suc (suc n))) w l h g = cc

no_event : IsUnsafeByEvent parks plan turn → ⊥
no_event h = by_place (apart h.function h.line h.body h.there (watched h.event h.watch h.line h.is h.site)) h.place
  where
    by_place : {g : ℕ} {x : Body} {R : Type 0} → IsApart g x → Contains (body_places x) turn ⊎ (((has_return x ≡ true) × R) ⊎ IsReached parks (statements x) turn) → ⊥
    by_place a (inl c) = a.own c
    by_place a (inr (inl c)) = a.returns c.0
    by_place a (inr (inr c)) = a.inner c

abbrev is_near : Node → Bool
is_near (paths.begins l) = (l == 4) || ((l == 5) || (l == 6))
is_near (complete l) = (l == 4) || (l == 5)
is_near _ = false

halted : Halts plan (2 ∷ []) (complete 6)
halted = record { event = 2; one = (0, omega arith, refl); is = refl }

abbrev Leads : Node × Node → Type 0
Leads x = is_near x.0 ≡ true → (Halts plan (2 ∷ []) x.1 → ⊥) → is_near x.1 ≡ true

near : {n : Node} → Comes (links_of worker) plan (2 ∷ []) (paths.begins 4) n → is_near n ≡ true
near paths.here = refl
near (paths.goes {m = m} {n = n} c link stop) =
    each Leads (links_of worker)
    ((λ a s. refl), ((λ a s. refl), ((λ a s. refl), ((λ a s. refl), ((λ a s. absurd (s halted)), ((λ a s. a), tt)))))) (m, n) link (near c) stop

no_place : (g : ℕ) (n : Node) → is_near n ≡ true → Contains (node_places g n) turn ⊎ IsReachedAt parks g n turn → ⊥
no_place g (paths.begins l) a (inl c) =
    each other (node_places g (paths.begins l)) ((λ h. cc), tt) turn c refl
no_place g (paths.begins l) a (inr c) = no_reach (c.0 ∷ []) (no_call g l c.0 c.1, tt) (IsReached.reached c.2)
no_place g (complete l) a (inl c) =
    each other (node_places g (complete l)) ((λ h. cc), tt) turn c refl
no_place g (complete l) a (inr c) = c
no_place g (turns l) a c = cc
no_place g leaves a c = cc

abbrev IsRegion : List ℕ → List ℕ → Range → Type 0
IsRegion es xs r = r ≡ between es xs → (es ≡ 1 ∷ []) × (xs ≡ 2 ∷ [])

no_path : IsUnsafeByPath parks plan turn → ⊥
no_path h =
    let region = each (IsRegion h.entries h.exits) (between (1 ∷ []) (2 ∷ []) ∷ []) ((λ g. let a : 1 ∷ [] ≡ h.entries = cc in let b : 2 ∷ [] ≡ h.exits = cc in (sym a, sym b)), tt)
    (between h.entries h.exits) h.region refl in
    let first : 1 ≡ h.event = each (λ n. n ≡ h.event → 1 ≡ h.event) (1 ∷ []) ((λ g. g), tt) h.event (subst (λ es. Contains es h.event) region.0 h.one) refl in
    let watch : watch_at plan 1 ≡ Some h.watch = subst (λ n. watch_at plan n ≡ Some h.watch) (sym first) h.is in
    let is : record { site = statement 4; test = None } ≡ h.watch = cc in
    let line : h.line ≡ 4 = site_line h.watch 4 h.line is h.site in
    let a : IsApart h.number h.there.0 = apart h.number h.line h.there.0 h.there.1 (inl line) in
    let found : slice_get parks.funcs 0 ≡ Some h.function = subst (λ n. slice_get parks.funcs n ≡ Some h.function) a.number h.of_number in
    let same : worker ≡ h.function = cc in
    let one : Comes (links_of worker) plan h.exits (paths.begins h.line) h.node =
    subst (λ f. Comes (links_of f) plan h.exits (paths.begins h.line) h.node) (sym same) h.comes in
    let two : Comes (links_of worker) plan (2 ∷ []) (paths.begins h.line) h.node =
    subst (λ xs. Comes (links_of worker) plan xs (paths.begins h.line) h.node) region.1 one in
    let three : Comes (links_of worker) plan (2 ∷ []) (paths.begins 4) h.node =
    subst (λ l. Comes (links_of worker) plan (2 ∷ []) (paths.begins l) h.node) line two in
    no_place h.number h.node (near three) h.place

no_function : IsUnsafeByFunction parks plan turn → ⊥
no_function h =
    each (λ (r : Range). r ≡ Range.whole h.event → ⊥) (between (1 ∷ []) (2 ∷ []) ∷ []) ((λ g. cc), tt) (Range.whole h.event) h.region refl

turn_is_safe : IsUnsafe parks plan turn → ⊥
turn_is_safe (inl h) = no_event h
turn_is_safe (inr (inl h)) = no_path h
turn_is_safe (inr (inr h)) = no_function h

locking_is_unsafe : IsUnsafe parks plan (place.inside 4)
locking_is_unsafe = inl (record {
  event = 1;
  watch = _;
  is = refl;
  line = 4;
  site = refl;
  function = 0;
  body = locking;
  there = record { function = _; is = refl; there = (0, omega arith, refl); line = refl };
  place = inl (0, omega arith, refl);
})

-- The journal

abbrev pub stall_setting : Setting
stall_setting = record { program = parks; commands = stall_commands; limit = 100000; threads = 8; stop = stops.never }

abbrev pub stall_journal : List Entry
stall_journal =
    e.Begin 1 8 ∷ e.Lock 1 9 0 ∷ e.Spawn 1 10 2 0 [] ∷ e.Begin 2 3 ∷ e.Print 1 13 (pos 0) ∷ e.Blocked 2 4 (w.Lock 0) ∷ e.Asked 1 ∷ e.Stalled 1 2 4
    ∷ e.Print 1 13 (pos 1) ∷ e.Unlock 1 16 0 ∷ e.Lock 2 4 0 ∷ e.Blocked 1 17 (w.Join 2) ∷ e.Write 2 5 0 (pos 1) ∷ e.Unlock 2 6 0 ∷ e.End 2 3
    ∷ e.Join 1 17 2 ∷ e.End 1 8 ∷ e.Finish k.Done ∷ []

abbrev stall_events : List TargetEvent
stall_events =
    event 1 8 begin ∷ event 1 9 (lock 0) ∷ event 1 10 (spawn 2 0 []) ∷ event 2 3 begin ∷ event 1 13 (print (pos 0)) ∷ event 1 13 (print (pos 1))
    ∷ event 1 16 (unlock 0) ∷ event 2 4 (lock 0) ∷ event 2 5 (write 0 (pos 1)) ∷ event 2 6 (unlock 0) ∷ event 2 3 end ∷ event 1 17 (join 2)
    ∷ event 1 8 end ∷ []

stall_ended : (t : ℕ) (x : ThreadState) → thread_at (replay (start parks 8) stall_events) t ≡ Some x → x.ended ≡ true
stall_ended zero x h = cc
stall_ended (suc zero) x h = cc
stall_ended (suc (suc zero)) x h = cc
stall_ended (suc (suc (suc t))) x h = cc

abbrev stall_front : List Entry
stall_front =
    e.Begin 1 8 ∷ e.Lock 1 9 0 ∷ e.Spawn 1 10 2 0 [] ∷ e.Begin 2 3 ∷ e.Print 1 13 (pos 0) ∷ e.Blocked 2 4 (w.Lock 0) ∷ e.Asked 1 ∷ []

abbrev stall_before_1 : List PartStep
stall_before_1 =
    goes (made 8 begin) ∷ goes (enter 1 ((codes "t", pos 0) ∷ (codes "i", pos 0) ∷ [])) ∷ goes (begins 9 ((codes "t", pos 0) ∷ (codes "i", pos 0) ∷ [])) ∷ goes (made 9 (lock 0)) ∷ goes (done 9)
    ∷ goes (begins 10 ((codes "t", pos 0) ∷ (codes "i", pos 0) ∷ [])) ∷ goes (made 10 (spawn 2 0 [])) ∷ goes (done 10) ∷ goes (begins 11 ((codes "t", pos 2) ∷ (codes "i", pos 0) ∷ [])) ∷ goes (done 11)
    ∷ goes (begins 12 ((codes "t", pos 2) ∷ (codes "i", pos 0) ∷ [])) ∷ goes (begins 13 ((codes "t", pos 2) ∷ (codes "i", pos 0) ∷ [])) ∷ goes (made 13 (print (pos 0))) ∷ goes (done 13) ∷ goes (begins 14 ((codes "t", pos 2) ∷ (codes "i", pos 0) ∷ [])) ∷ goes (done 14) ∷ []

stall_at_1 : StandsAt stall_setting (front_at stall_setting stall_events stall_front) 1 turn
stall_at_1 = record {
  point = record {
    steps = stall_before_1;
    next = edge 12;
    trace = record { most_turns = 2; gives = next (next (next (next (next (next (inr (given 2 (next (next (next (next (next (next (next (next (next (next (next (inl (refl, refl)))))))))))))))))))) };
    woven = ((refl, tt), (refl, (refl, (refl, (refl, (refl, (refl, (refl, (refl, (refl, (refl, (refl, (refl, (refl, (refl, (refl, tt))))))))))))))));
    tells = refl;
    taken = refl;
  };
  place = refl;
}

abbrev stall_before_2 : List PartStep
stall_before_2 =
    goes (made 3 begin) ∷ goes (enter 0 []) ∷ goes (begins 4 []) ∷ makes 4 (blocked (w.Lock 0)) ∷ []

stall_at_2 : StandsAt stall_setting (front_at stall_setting stall_events stall_front) 2 (place.inside 4)
stall_at_2 = record {
  point = record {
    steps = stall_before_2;
    next = made 4 (lock 0);
    trace = record { most_turns = 0; gives = next (next (next (next (inl (refl, refl))))) };
    woven = ((refl, tt), (refl, (refl, (record { asks = refl; not_yet = refl }, tt))));
    tells = refl;
    taken = refl;
  };
  place = refl;
}

abbrev stall_place : ℕ → Place
stall_place zero = nowhere
stall_place (suc zero) = turn
stall_place (suc (suc zero)) = place.inside 4
stall_place (suc (suc (suc t))) = nowhere

stall_stood : (t : ℕ) → StandsAt stall_setting (front_at stall_setting stall_events stall_front) t (stall_place t)
stall_stood zero = refl
stall_stood (suc zero) = stall_at_1
stall_stood (suc (suc zero)) = stall_at_2
stall_stood (suc (suc (suc t))) = refl

stall_waits : (t : ℕ) → Lives (replay (start parks 8) (take 5 stall_events)) t
    → IsFlagged stall_setting 1 (stall_place t) ⊎ (IsBlocked stall_setting (front_at stall_setting stall_events stall_front) t ⊎ IsHeldOff stall_setting (front_at stall_setting stall_events stall_front) t)
stall_waits zero h = let no : None ≡ Some h.state = h.is in cc
stall_waits (suc zero) h = inl (inr turn_is_safe)
stall_waits (suc (suc zero)) h = inr (inl ((1, refl), refl))
stall_waits (suc (suc (suc t))) h = let no : None ≡ Some h.state = h.is in cc

stall_lowest : (t : ℕ) → Lives (replay (start parks 8) (take 5 stall_events)) t → t < 2 → IsFlagged stall_setting 1 (stall_place t)
stall_lowest zero h less = let no : None ≡ Some h.state = h.is in cc
stall_lowest (suc zero) h less = inr turn_is_safe
stall_lowest (suc (suc t)) h less = let no : ⊥ = omega arith in absurd no

stall_no_flag : (place.inside 4 ≡ nowhere) ⊎ (IsUnsafe parks plan (place.inside 4) → ⊥) → ⊥
stall_no_flag (inl h) = cc
stall_no_flag (inr h) = h locking_is_unsafe

stall_stalls : MayStall stall_setting (front_at stall_setting stall_events stall_front) 1 2 4
stall_stalls = record {
  asked = refl;
  not_refused = refl;
  place = stall_place;
  stands = λ t lives. stall_stood t;
  waits = stall_waits;
  lives = record { state = _; is = refl; not_ended = refl };
  not_flagged = stall_no_flag;
  lowest = stall_lowest;
  line = refl;
}

abbrev stall_steps_1 : List PartStep
stall_steps_1 =
    goes (made 8 begin) ∷ goes (enter 1 ((codes "t", pos 0) ∷ (codes "i", pos 0) ∷ [])) ∷ goes (begins 9 ((codes "t", pos 0) ∷ (codes "i", pos 0) ∷ [])) ∷ goes (made 9 (lock 0)) ∷ goes (done 9)
    ∷ goes (begins 10 ((codes "t", pos 0) ∷ (codes "i", pos 0) ∷ [])) ∷ goes (made 10 (spawn 2 0 [])) ∷ goes (done 10) ∷ goes (begins 11 ((codes "t", pos 2) ∷ (codes "i", pos 0) ∷ [])) ∷ goes (done 11)
    ∷ goes (begins 12 ((codes "t", pos 2) ∷ (codes "i", pos 0) ∷ [])) ∷ goes (begins 13 ((codes "t", pos 2) ∷ (codes "i", pos 0) ∷ [])) ∷ goes (made 13 (print (pos 0))) ∷ goes (done 13) ∷ goes (begins 14 ((codes "t", pos 2) ∷ (codes "i", pos 0) ∷ [])) ∷ goes (done 14) ∷ goes (edge 12)
    ∷ goes (begins 13 ((codes "t", pos 2) ∷ (codes "i", pos 1) ∷ [])) ∷ goes (made 13 (print (pos 1))) ∷ goes (done 13) ∷ goes (begins 14 ((codes "t", pos 2) ∷ (codes "i", pos 1) ∷ [])) ∷ goes (done 14) ∷ goes (edge 12)
    ∷ goes (done 12) ∷ goes (begins 16 ((codes "t", pos 2) ∷ (codes "i", pos 2) ∷ [])) ∷ goes (made 16 (unlock 0)) ∷ goes (done 16) ∷ goes (begins 17 ((codes "t", pos 2) ∷ (codes "i", pos 2) ∷ [])) ∷ makes 17 (blocked (w.Join 2))
    ∷ goes (made 17 (join 2)) ∷ goes (done 17) ∷ goes (out 1) ∷ goes (made 8 end) ∷ []

stall_trace_1 : IsTrace parks 1 [] (items stall_steps_1) Finished
stall_trace_1 = record { most_turns = 3; gives = next (next (next (next (next (next (inr (given 2 (next (next (next (next (next (next (next (next (next (next (next (next (next (next (next (next (next (next (next (inr (next (next (next (inr (next (next (next (next (refl, inl refl)))))))))))))))))))))))))))))))))))) }

pub stall_part_1 : HasPart stall_setting stall_journal 1 (thread_at (replay (start parks 8) stall_events) 1)
stall_part_1 = record {
  steps = stall_steps_1;
  ahead = [];
  outcome = Finished;
  trace = stall_trace_1;
  woven = ((refl, tt), (refl, (refl, (refl, (refl, (refl, (refl, (refl, (refl, (refl, (refl, (refl, (refl, (refl, (refl, (refl, (refl, (refl, (refl, (refl, (refl, (refl, (refl, (refl, (refl, (refl, (refl, (refl, (record { asks = refl; not_yet = refl }, (refl, (refl, (refl, (refl, tt)))))))))))))))))))))))))))))))));
  tells = refl;
  taken = refl;
}

abbrev stall_steps_2 : List PartStep
stall_steps_2 =
    goes (made 3 begin) ∷ goes (enter 0 []) ∷ goes (begins 4 []) ∷ makes 4 (blocked (w.Lock 0)) ∷ goes (made 4 (lock 0)) ∷ goes (done 4)
    ∷ goes (begins 5 []) ∷ goes (made 5 (write 0 (pos 1))) ∷ goes (done 5) ∷ goes (begins 6 []) ∷ goes (made 6 (unlock 0)) ∷ goes (done 6) ∷ goes (out 0)
    ∷ goes (made 3 end) ∷ []

stall_trace_2 : IsTrace parks 0 [] (items stall_steps_2) Finished
stall_trace_2 = record { most_turns = 0; gives = next (next (next (next (next (next (next (next (next (inr (next (next (next (next ((refl, inl refl))))))))))))))) }

pub stall_part_2 : HasPart stall_setting stall_journal 2 (thread_at (replay (start parks 8) stall_events) 2)
stall_part_2 = record {
  steps = stall_steps_2;
  ahead = [];
  outcome = Finished;
  trace = stall_trace_2;
  woven = ((refl, tt), (refl, (refl, (record { asks = refl; not_yet = refl }, (refl, (refl, (refl, (refl, (refl, (refl, (refl, (refl, (refl, (refl, tt))))))))))))));
  tells = refl;
  taken = refl;
}

pub stall_parts : (t : ℕ) → HasPart stall_setting stall_journal t (thread_at (replay (start parks 8) stall_events) t)
stall_parts zero = refl
stall_parts (suc zero) = stall_part_1
stall_parts (suc (suc zero)) = stall_part_2
stall_parts (suc (suc (suc t))) = nothing_made 3 (suc (suc (suc t))) stall_journal (omega arith) refl

stall_run : AreRun parks 8 stall_events
stall_run = record {
  traced = threads_traced parks 8 stall_events (record { items = items stall_steps_1; outcome = Finished; trace = stall_trace_1; same = refl }, (record { items = items stall_steps_2; outcome = Finished; trace = stall_trace_2; same = refl }, tt)) refl refl;
  allowed =
      runs.begins refl refl (does refl refl (does refl (refl, omega arith) (runs.begins refl refl (does refl tt (does refl tt (does refl refl (does refl refl (does refl tt (does refl refl (does refl tt (does refl (record { state = _; is = refl; ended = refl }) (does refl tt (tt)))))))))))));
}

stall_follows : Each (FollowsBehind stall_setting stall_events) [] stall_journal
stall_follows =
    behind (moves {s = stall_setting} refl tt, tt) (behind (moves {s = stall_setting} refl tt, tt) (behind (moves {s = stall_setting} refl tt, tt) (
    behind (moves {s = stall_setting} refl tt, tt) (behind (moves {s = stall_setting} refl tt, tt) (
    behind (moves {s = stall_setting} refl tt, (_, refl)) (
    behind (record { command = _; is = refl; answered = refl; not_closing = refl; runs = refl; triggered = omega arith }, refl) (
    behind (refl, stall_stalls) (behind (moves {s = stall_setting} refl tt, tt) (behind (moves {s = stall_setting} refl tt, tt) (
    behind (moves {s = stall_setting} refl tt, tt) (behind (moves {s = stall_setting} refl tt, (_, refl, refl)) (
    behind (moves {s = stall_setting} refl tt, tt) (behind (moves {s = stall_setting} refl tt, tt) (behind (moves {s = stall_setting} refl tt, tt) (
    behind (moves {s = stall_setting} refl tt, tt) (behind (moves {s = stall_setting} refl tt, tt) (
    behind (refl, (refl, (omega arith, (refl, (stall_ended, not_due stall_setting _ refl))))) (tt))))))))))))))))))

pub stall_lawful : IsLawful stall_setting stall_journal
stall_lawful = record {
  events = stall_events;
  tells = refl;
  run = stall_run;
  parts = stall_parts;
  follows = each_one (FollowsBehind stall_setting stall_events) stall_journal stall_follows;
}
