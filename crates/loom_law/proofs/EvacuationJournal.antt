-- A filter is installed while a thread is inside: it is let out of the callee first, and takes the filter at the loop's back edge.
use Rattle.std.proofs.Common.{ℕ, zero, suc, ◌≡◌, ◌==◌, ◌⊎◌, inl, inr, Bool, true, false, ◌||◌, pos, List, [], ◌∷◌, take, Some, None, slice_get, refl, sym, ap, subst, ◌∙◌, codes, arith}
use Rattle.std.specs.List.{Contains}
use Rattle.loom_tree.specs.declared.expression.Op.TheVariants as o
use Rattle.loom_tree.specs.Tree.{num, var, bin, Right, Simple, let_, set, Body, simple, while_, Function, Source}
use Rattle.loom_tree.specs.Tree as tree
use Rattle.loom_trace.specs.declared.entry.Entry.{Entry}
use Rattle.loom_trace.specs.declared.entry.Entry.TheVariants as e
use Rattle.loom_trace.specs.declared.entry.Ending.TheVariants as k
use Rattle.loom_lang.specs.Places.{Place, nowhere, body_places}
use Rattle.loom_lang.specs.Places as place
use Rattle.loom_lang.specs.Numbers.{function_number}
use Rattle.loom_lang.specs.Trace.{begin, end, read, write, print, made, begins, done, edge, enter, out, Finished, Open, IsTrace}
use Rattle.loom_command.specs.Filter.{LineEvent, Region, Clause, Filter}
use Rattle.loom_command.specs.Script as script
use Rattle.loom_event.specs.TargetEvent.{TargetEvent}
use Rattle.loom_event.specs.Replay.{ThreadState, start, thread_at, replay}
use Rattle.loom_event.specs.Run.{AreRun}
use Rattle.loom_event.proofs.Runs.{next, given, threads_traced, does}
use Rattle.loom_event.proofs.Runs as runs
use Rattle.loom_event.proofs.Stops as stops
use Rattle.loom_event.proofs.Examples.{event}
use Rattle.loom_law.specs.Filter.{Watch, statement, Range, between, Plan, plan_of}
use Rattle.loom_law.specs.Walk.{Version, enters, past, leave, cross, PartStep, goes, makes, items, unborn, AreWoven}
use Rattle.loom_law.specs.Walk as walk
use Rattle.loom_law.specs.Paths.{Node, leaves, complete, turns, links_of, statements, has_return, called_by, Begins, IsStatement, statements_of, places_of, CallsFunction, Reaches, IsReached, IsReachedAt, watch_at, node_places, IsExit, Halts, Comes, IsUnsafeByEvent, IsUnsafeByPath, IsUnsafeByFunction, IsUnsafe}
use Rattle.loom_law.specs.Paths as paths
use Rattle.loom_law.specs.Control.{means, install, Command}
use Rattle.loom_law.specs.Lawful.{Setting, plans, HasPart, StandsAt, running_thread, IsOutside, MayInstall, front_at, own, StaysAway, IsLawful}
use Rattle.loom_law.proofs.Earlier.{same_number}
use Rattle.loom_law.proofs.Sites.{outside_where_flagged}
use Rattle.loom_law.proofs.Fronts.{Each, behind, each_one, FollowsBehind, nothing_made}
use Rattle.loom_law.proofs.Journals.{AllOf, each, not_due, moves}

-- 1   shared x;
-- 2   fn step() {
-- 3     x = x + 1;
-- 4   }
-- 5   fn main() {
-- 6     let i = 0;
-- 7     while (i < 3) {
-- 8       step();
-- 9       x = x * 2;
-- 10      i = i + 1;
-- 11    }
-- 12    print x;
-- 13  }
-- script: at 2 install f {call.lm:8; call.lm:9} <> *

abbrev step_function : Function
step_function = record { name = codes "step"; line = 2; params = []; body = simple 3 (set (codes "x") (Right.value (bin o.Add (var (codes "x")) (num (pos 1))))) tree.end }

abbrev main_function : Function
main_function = record {
  name = codes "main";
  line = 5;
  params = [];
  body = simple 6 (let_ (codes "i") (Right.value (num (pos 0))))
      (while_ 7 (bin o.Lt (var (codes "i")) (num (pos 3)))
      (simple 8 (Simple.call (codes "step") [])
      (simple 9 (set (codes "x") (Right.value (bin o.Mul (var (codes "x")) (num (pos 2)))))
      (simple 10 (set (codes "i") (Right.value (bin o.Add (var (codes "i")) (num (pos 1))))) tree.end)))
      (simple 12 (tree.print (var (codes "x"))) tree.end));
}

abbrev pub evacuated : Source
evacuated = record {
  words = record { name = codes "x"; cells = None; first = pos 0 } ∷ [];
  mutexes = [];
  semas = [];
  funcs = step_function ∷ main_function ∷ [];
}

abbrev on_line : ℕ → LineEvent
on_line l = record { file = codes "call.lm"; line = l; test = None }

abbrev pub kept_away : Filter
kept_away = Clause.unilateral (Region.between (on_line 8 ∷ []) (on_line 9 ∷ [])) ∷ []

abbrev plan : Plan
plan = plan_of evacuated kept_away

abbrev evacuation_commands : List Command
evacuation_commands = record { trigger = script.at 2; name = codes "f"; action = install (means plan) } ∷ []

-- The back edge is no unsafe place

abbrev turn : Place
turn = place.back_edge 7

abbrev other : Place → Type 0
other y = y ≡ turn → ⊥

abbrev none_calls : ℕ → Body → Type 0
none_calls n x = (name : List ℕ) → called_by x ≡ Some name → ⊥

-- calls in such statements reach `step` alone
abbrev OnlyStep : List Body → Type 0
OnlyStep xs = (n : ℕ) → CallsFunction evacuated xs n → n ≡ 0

no_call : (xs : List Body) → AllOf (none_calls 0) xs → OnlyStep xs
no_call xs h n c = absurd (each (none_calls 0) xs h c.statement c.there c.name c.calls)

in_step : (n : ℕ) → CallsFunction evacuated (statements_of evacuated 0) n → ⊥
in_step n c = each (none_calls 0) (statements_of evacuated 0) ((λ name g. cc), tt) c.statement c.there c.name c.calls

reach : (xs : List Body) → OnlyStep xs → {n : ℕ} → Reaches evacuated xs n → n ≡ 0
reach xs only (paths.calls {h = n} c) = only n c
reach xs only (paths.through {g = g} {h = n} r c) =
    let same : g ≡ 0 = reach xs only r in
    absurd (in_step n (subst (λ f. CallsFunction evacuated (statements_of evacuated f) n) same c))

not_reached : (xs : List Body) → OnlyStep xs → IsReached evacuated xs turn → ⊥
not_reached xs only h =
    let same : h.function ≡ 0 = reach xs only h.reached in
    each other (places_of evacuated 0) ((λ g. cc), ((λ g. cc), ((λ g. cc), tt))) turn (subst (λ f. Contains (places_of evacuated f) turn) same h.there) refl

abbrev calling : Body
calling = simple 8 (Simple.call (codes "step") []) tree.end

abbrev doubling : Body
doubling = simple 9 (set (codes "x") (Right.value (bin o.Mul (var (codes "x")) (num (pos 2))))) tree.end

abbrev CallsFirst : Body → Type 0
CallsFirst x = (name : List ℕ) (m : ℕ) → called_by x ≡ Some name → function_number evacuated name ≡ Some m → m ≡ 0

first_called : CallsFirst calling
first_called name m g number =
    let is : codes "step" ≡ name = cc in
    let found : function_number evacuated (codes "step") ≡ Some m = subst (λ u. function_number evacuated u ≡ Some m) (sym is) number in
    let same : Some 0 ≡ Some m = found in
    let first : 0 ≡ m = cc in
    sym first

calls_step : OnlyStep (calling ∷ [])
calls_step n c = each CallsFirst (calling ∷ []) (first_called, tt) c.statement c.there c.name n c.calls c.number

-- what such a statement has to do with the back edge
record IsApart (g : ℕ) (x : Body) : Type 0 where
  number : g ≡ 1
  own : Contains (body_places x) turn → ⊥
  returns : has_return x ≡ true → ⊥
  inner : IsReached evacuated (statements x) turn → ⊥
  whole : IsReached evacuated (x ∷ []) turn → ⊥

apart_calling : IsApart 1 calling
apart_calling = record {
  number = refl;
  own = λ c. each other (body_places calling) ((λ g. cc), tt) turn c refl;
  returns = λ g. cc;
  inner = not_reached (calling ∷ []) calls_step;
  whole = not_reached (calling ∷ []) calls_step;
}

apart_doubling : IsApart 1 doubling
apart_doubling = record {
  number = refl;
  own = λ c. each other (body_places doubling) ((λ g. cc), tt) turn c refl;
  returns = λ g. cc;
  inner = not_reached (doubling ∷ []) (no_call (doubling ∷ []) ((λ name g. cc), tt));
  whole = not_reached (doubling ∷ []) (no_call (doubling ∷ []) ((λ name g. cc), tt));
}

abbrev Watched : ℕ → Type 0
Watched l = (l ≡ 8) ⊎ (l ≡ 9)

wrong_line : (n l : ℕ) → n ≡ l → (n ≡ 8 → ⊥) → (n ≡ 9 → ⊥) → Watched l → ⊥
wrong_line n l is a b (inl h) = a (is ∙ h)
wrong_line n l is a b (inr h) = b (is ∙ h)

abbrev IsSite : ℕ → Body → Type 0
IsSite g x = (l : ℕ) → Begins x l → Watched l → IsApart g x

apart : (g l : ℕ) (x : Body) → IsStatement evacuated g l x → Watched l → IsApart g x
apart zero l x h at_line =
    let same : step_function ≡ h.function = cc in
    each (IsSite 0) (statements step_function.body) ((λ m b w. absurd (wrong_line 3 m b (λ z. omega arith) (λ z. omega arith) w)), tt) x
    (subst (λ (f : Function). Contains (statements f.body) x) (sym same) h.there) l h.line at_line
apart (suc zero) l x h at_line =
    let same : main_function ≡ h.function = cc in
    each (IsSite 1) (statements main_function.body) (
      (λ m b w. absurd (wrong_line 6 m b (λ z. omega arith) (λ z. omega arith) w)),
      (
        (λ m b w. absurd (wrong_line 7 m b (λ z. omega arith) (λ z. omega arith) w)),
        (
          (λ m b w. apart_calling),
          (
            (λ m b w. apart_doubling),
            (
              (λ m b w. absurd (wrong_line 10 m b (λ z. omega arith) (λ z. omega arith) w)),
              ((λ m b w. absurd (wrong_line 12 m b (λ z. omega arith) (λ z. omega arith) w)), tt),
            ),
          ),
        ),
      ),
    ) x (subst (λ (f : Function). Contains (statements f.body) x) (sym same) h.there) l h.line at_line
apart (suc (suc g)) l x h at_line = let no : None ≡ Some h.function = h.is in cc

site_line : (w : Watch) (m l : ℕ) → record { site = statement m; test = None } ≡ w → w.site ≡ statement l → l ≡ m
site_line w m l is at_line =
    let site : statement m ≡ statement l = ap (λ (u : Watch). u.site) is ∙ at_line in
    let same : m ≡ l = cc in
    sym same

watched : (n : ℕ) (w : Watch) (l : ℕ) → watch_at plan n ≡ Some w → w.site ≡ statement l → Watched l
watched zero w l h g = cc
watched (suc zero) w l h g = let is : record { site = statement 8; test = None } ≡ w = cc in inl (site_line w 8 l is g)
watched (suc (suc zero)) w l h g = let is : record { site = statement 9; test = None } ≡ w = cc in inr (site_line w 9 l is g)
watched (suc (suc (suc n))) w l h g = cc

no_event : IsUnsafeByEvent evacuated plan turn → ⊥
no_event h = by_place (apart h.function h.line h.body h.there (watched h.event h.watch h.line h.is h.site)) h.place
  where
    by_place : {g : ℕ} {x : Body} {R : Type 0} → IsApart g x → Contains (body_places x) turn ⊎ (((has_return x ≡ true) × R) ⊎ IsReached evacuated (statements x) turn) → ⊥
    by_place a (inl c) = a.own c
    by_place a (inr (inl c)) = a.returns c.0
    by_place a (inr (inr c)) = a.inner c

-- on the path from the entry event

abbrev is_near : Node → Bool
is_near (paths.begins l) = (l == 8) || (l == 9)
is_near (complete l) = l == 8
is_near _ = false

halted : Halts plan (2 ∷ []) (complete 9)
halted = record { event = 2; one = (0, omega arith, refl); is = refl }

abbrev Leads : Node × Node → Type 0
Leads x = is_near x.0 ≡ true → (Halts plan (2 ∷ []) x.1 → ⊥) → is_near x.1 ≡ true

near : {n : Node} → Comes (links_of main_function) plan (2 ∷ []) (paths.begins 8) n → is_near n ≡ true
near paths.here = refl
near (paths.goes {m = m} {n = n} c link stop) =
    each Leads (links_of main_function) (
      (λ a s. a),
      (
        (λ a s. a),
        (
          (λ a s. refl),
          (
            (λ a s. a),
            (
              (λ a s. refl),
              (
                (λ a s. a),
                (
                  (λ a s. a),
                  (
                    (λ a s. refl),
                    ((λ a s. refl), ((λ a s. absurd (s halted)), ((λ a s. a), ((λ a s. a), ((λ a s. a), ((λ a s. a), ((λ a s. a), tt))))))),
                  ),
                ),
              ),
            ),
          ),
        ),
      ),
    ) (m, n) link (near c) stop

or_parts : (a b : Bool) → (a || b) ≡ true → (a ≡ true) ⊎ (b ≡ true)
or_parts true b h = inl refl
or_parts false b h = inr h

line_near : (l : ℕ) → ((l == 8) || (l == 9)) ≡ true → Watched l
line_near l h = by_parts (or_parts (l == 8) (l == 9) h)
  where
    by_parts : ((l == 8) ≡ true) ⊎ ((l == 9) ≡ true) → Watched l
    by_parts (inl g) = inl (same_number l 8 g)
    by_parts (inr g) = inr (same_number l 9 g)

no_place : (g : ℕ) (n : Node) → is_near n ≡ true → Contains (node_places g n) turn ⊎ IsReachedAt evacuated g n turn → ⊥
no_place g (paths.begins l) a (inl c) = each other (node_places g (paths.begins l)) ((λ h. cc), tt) turn c refl
no_place g (paths.begins l) a (inr c) = IsApart.whole (apart g l c.0 c.1 (line_near l a)) c.2
no_place g (complete l) a (inl c) = each other (node_places g (complete l)) ((λ h. cc), tt) turn c refl
no_place g (complete l) a (inr c) = c
no_place g (turns l) a c = cc
no_place g leaves a c = cc

abbrev IsRegion : List ℕ → List ℕ → Range → Type 0
IsRegion es xs r = r ≡ between es xs → (es ≡ 1 ∷ []) × (xs ≡ 2 ∷ [])

no_path : IsUnsafeByPath evacuated plan turn → ⊥
no_path h =
    let region = each (IsRegion h.entries h.exits) (between (1 ∷ []) (2 ∷ []) ∷ []) ((λ g. let a : 1 ∷ [] ≡ h.entries = cc in let b : 2 ∷ [] ≡ h.exits = cc in (sym a, sym b)), tt)
    (between h.entries h.exits) h.region refl in
    let first : 1 ≡ h.event = each (λ n. n ≡ h.event → 1 ≡ h.event) (1 ∷ []) ((λ g. g), tt) h.event (subst (λ es. Contains es h.event) region.0 h.one) refl in
    let watch : watch_at plan 1 ≡ Some h.watch = subst (λ n. watch_at plan n ≡ Some h.watch) (sym first) h.is in
    let is : record { site = statement 8; test = None } ≡ h.watch = cc in
    let line : h.line ≡ 8 = site_line h.watch 8 h.line is h.site in
    let a : IsApart h.number h.there.0 = apart h.number h.line h.there.0 h.there.1 (inl line) in
    let found : slice_get evacuated.funcs 1 ≡ Some h.function = subst (λ n. slice_get evacuated.funcs n ≡ Some h.function) a.number h.of_number in
    let same : main_function ≡ h.function = cc in
    let one : Comes (links_of main_function) plan h.exits (paths.begins h.line) h.node =
    subst (λ f. Comes (links_of f) plan h.exits (paths.begins h.line) h.node) (sym same) h.comes in
    let two : Comes (links_of main_function) plan (2 ∷ []) (paths.begins h.line) h.node =
    subst (λ xs. Comes (links_of main_function) plan xs (paths.begins h.line) h.node) region.1 one in
    let three : Comes (links_of main_function) plan (2 ∷ []) (paths.begins 8) h.node =
    subst (λ l. Comes (links_of main_function) plan (2 ∷ []) (paths.begins l) h.node) line two in
    no_place h.number h.node (near three) h.place

no_function : IsUnsafeByFunction evacuated plan turn → ⊥
no_function h =
    each (λ (r : Range). r ≡ Range.whole h.event → ⊥) (between (1 ∷ []) (2 ∷ []) ∷ []) ((λ g. cc), tt) (Range.whole h.event) h.region refl

turn_is_safe : IsUnsafe evacuated plan turn → ⊥
turn_is_safe (inl h) = no_event h
turn_is_safe (inr (inl h)) = no_path h
turn_is_safe (inr (inr h)) = no_function h

-- The journal

abbrev pub evacuation_setting : Setting
evacuation_setting = record { program = evacuated; commands = evacuation_commands; limit = 100000; threads = 8; stop = stops.never }

abbrev pub evacuation_journal : List Entry
evacuation_journal =
    e.Begin 1 5 ∷ e.Read 1 3 0 (pos 0) ∷ e.Asked 1 ∷ e.Write 1 3 0 (pos 1) ∷ e.Read 1 9 0 (pos 1) ∷ e.Write 1 9 0 (pos 2)
    ∷ e.Installed 1 1 (7 ∷ 0 ∷ 0 ∷ 0 ∷ 0 ∷ 0 ∷ 0 ∷ 0 ∷ []) ∷ e.Cross 1 7 7 1 0 ∷ e.Enter 1 8 1 1 ∷ e.At 1 8 1 (1 ∷ []) ∷ e.Read 1 3 0 (pos 2)
    ∷ e.Write 1 3 0 (pos 3) ∷ e.Past 1 8 1 (1 ∷ []) ∷ e.At 1 9 1 (2 ∷ []) ∷ e.Read 1 9 0 (pos 3) ∷ e.Write 1 9 0 (pos 6) ∷ e.Past 1 9 1 (2 ∷ [])
    ∷ e.Leave 1 9 1 1 ∷ e.Enter 1 8 1 1 ∷ e.At 1 8 1 (1 ∷ []) ∷ e.Read 1 3 0 (pos 6) ∷ e.Write 1 3 0 (pos 7) ∷ e.Past 1 8 1 (1 ∷ [])
    ∷ e.At 1 9 1 (2 ∷ []) ∷ e.Read 1 9 0 (pos 7) ∷ e.Write 1 9 0 (pos 14) ∷ e.Past 1 9 1 (2 ∷ []) ∷ e.Leave 1 9 1 1 ∷ e.Read 1 12 0 (pos 14)
    ∷ e.Print 1 12 (pos 14) ∷ e.End 1 5 ∷ e.Finish k.Done ∷ []

abbrev evacuation_events : List TargetEvent
evacuation_events =
    event 1 5 begin ∷ event 1 3 (read 0 (pos 0)) ∷ event 1 3 (write 0 (pos 1)) ∷ event 1 9 (read 0 (pos 1)) ∷ event 1 9 (write 0 (pos 2))
    ∷ event 1 3 (read 0 (pos 2)) ∷ event 1 3 (write 0 (pos 3)) ∷ event 1 9 (read 0 (pos 3)) ∷ event 1 9 (write 0 (pos 6))
    ∷ event 1 3 (read 0 (pos 6)) ∷ event 1 3 (write 0 (pos 7)) ∷ event 1 9 (read 0 (pos 7)) ∷ event 1 9 (write 0 (pos 14))
    ∷ event 1 12 (read 0 (pos 14)) ∷ event 1 12 (print (pos 14)) ∷ event 1 5 end ∷ []

evacuation_ended : (t : ℕ) (x : ThreadState) → thread_at (replay (start evacuated 8) evacuation_events) t ≡ Some x → x.ended ≡ true
evacuation_ended zero x h = cc
evacuation_ended (suc zero) x h = cc
evacuation_ended (suc (suc t)) x h = cc

abbrev inside_main : ThreadState
inside_main = record { func = 1; args = []; begun = true; ended = false }

abbrev evacuation_versions : List Version
evacuation_versions = record { number = 0; active = [] } ∷ record { number = 1; active = 1 ∷ [] } ∷ []

abbrev evacuation_front : List Entry
evacuation_front =
    e.Begin 1 5 ∷ e.Read 1 3 0 (pos 0) ∷ e.Asked 1 ∷ e.Write 1 3 0 (pos 1) ∷ e.Read 1 9 0 (pos 1) ∷ e.Write 1 9 0 (pos 2) ∷ []

abbrev evacuation_before : List PartStep
evacuation_before =
    goes (made 5 begin) ∷ goes (enter 1 ((codes "i", pos 0) ∷ [])) ∷ goes (begins 6 ((codes "i", pos 0) ∷ [])) ∷ goes (done 6)
    ∷ goes (begins 7 ((codes "i", pos 0) ∷ [])) ∷ goes (begins 8 ((codes "i", pos 0) ∷ [])) ∷ goes (enter 0 []) ∷ goes (begins 3 [])
    ∷ goes (made 3 (read 0 (pos 0))) ∷ goes (made 3 (write 0 (pos 1))) ∷ goes (done 3) ∷ goes (out 0) ∷ goes (done 8)
    ∷ goes (begins 9 ((codes "i", pos 0) ∷ [])) ∷ goes (made 9 (read 0 (pos 1))) ∷ goes (made 9 (write 0 (pos 2))) ∷ goes (done 9)
    ∷ goes (begins 10 ((codes "i", pos 0) ∷ [])) ∷ goes (done 10) ∷ []

evacuation_at : StandsAt evacuation_setting (front_at evacuation_setting evacuation_events evacuation_front) 1 turn
evacuation_at = record {
  point = record {
    steps = evacuation_before;
    next = edge 7;
    trace = record { most_turns = 3; gives = next (next (next (next (next (next (next (next (given (pos 0) (next (next (next (next (next (next (given (pos 1) (next (next (next (next (next (next (inl (refl, refl))))))))))))))))))))))) };
    woven = ((refl, tt), (refl, (refl, (refl, (refl, (refl, (refl, (refl, (refl, (refl, (refl, (refl, (refl, (refl, (refl, (refl, (refl, (refl, (refl, tt)))))))))))))))))));
    tells = refl;
    taken = refl;
  };
  place = refl;
}

abbrev evacuation_place : ℕ → Place
evacuation_place zero = nowhere
evacuation_place (suc zero) = turn
evacuation_place (suc (suc t)) = nowhere

evacuation_stood : (t : ℕ) → StandsAt evacuation_setting (front_at evacuation_setting evacuation_events evacuation_front) t (evacuation_place t)
evacuation_stood zero = refl
evacuation_stood (suc zero) = evacuation_at
evacuation_stood (suc (suc t)) = refl

evacuation_flagged : (t : ℕ) → (evacuation_place t ≡ nowhere) ⊎ (IsUnsafe evacuated plan (evacuation_place t) → ⊥)
evacuation_flagged zero = inl refl
evacuation_flagged (suc zero) = inr turn_is_safe
evacuation_flagged (suc (suc t)) = inl refl

evacuation_outside : (t : ℕ)
    → IsOutside evacuation_setting evacuation_front t (running_thread (thread_at (replay (start evacuated 8) (take 5 evacuation_events)) t)) plan (evacuation_place t)
evacuation_outside zero = tt
evacuation_outside (suc zero) = outside_where_flagged evacuation_setting (own evacuation_setting evacuation_front 1 inside_main) kept_away turn (inr turn_is_safe)
evacuation_outside (suc (suc t)) = tt

evacuation_installs : MayInstall evacuation_setting (front_at evacuation_setting evacuation_events evacuation_front) 1 1 (7 ∷ 0 ∷ 0 ∷ 0 ∷ 0 ∷ 0 ∷ 0 ∷ 0 ∷ [])
evacuation_installs = record {
  command = _;
  is = refl;
  plan = plan;
  installs = refl;
  asked = refl;
  not_refused = refl;
  version = refl;
  lists = record { count = refl; place = evacuation_place; are = refl; stands = evacuation_stood; flagged = evacuation_flagged };
  outside = evacuation_outside;
}

evacuation_reads : StaysAway evacuation_setting (own evacuation_setting (e.Begin 1 5 ∷ e.Read 1 3 0 (pos 0) ∷ e.Asked 1 ∷ e.Write 1 3 0 (pos 1) ∷ e.Read 1 9 0 (pos 1) ∷ []) 1 inside_main) 1
evacuation_reads = record {
  steps = goes (made 5 begin) ∷ goes (enter 1 ((codes "i", pos 0) ∷ [])) ∷ goes (begins 6 ((codes "i", pos 0) ∷ [])) ∷ goes (done 6) ∷ goes (begins 7 ((codes "i", pos 0) ∷ [])) ∷ goes (begins 8 ((codes "i", pos 0) ∷ [])) ∷ goes (enter 0 []) ∷ goes (begins 3 []) ∷ goes (made 3 (read 0 (pos 0))) ∷ goes (made 3 (write 0 (pos 1))) ∷ goes (done 3) ∷ goes (out 0) ∷ goes (done 8) ∷ goes (begins 9 ((codes "i", pos 0) ∷ [])) ∷ [];
  moved = record {
    last = goes (made 9 (read 0 (pos 1)));
    ahead = [];
    outcome = Open;
    trace = record { most_turns = 3; gives = next (next (next (next (next (next (next (next (given (pos 0) (next (next (next (next (next (next (given (pos 1) (next (inl (refl, refl)))))))))))))))))) };
    woven = ((refl, tt), (refl, (refl, (refl, (refl, (refl, (refl, (refl, (refl, (refl, (refl, (refl, (refl, (refl, (refl, tt)))))))))))))));
    entry = _;
    is = refl;
    tells = refl;
  };
  away = record { passed = tt; stood = λ g. let no : false ≡ true = g in cc };
}

evacuation_writes : StaysAway evacuation_setting (own evacuation_setting (e.Begin 1 5 ∷ e.Read 1 3 0 (pos 0) ∷ e.Asked 1 ∷ e.Write 1 3 0 (pos 1) ∷ e.Read 1 9 0 (pos 1) ∷ e.Write 1 9 0 (pos 2) ∷ []) 1 inside_main) 1
evacuation_writes = record {
  steps = goes (made 5 begin) ∷ goes (enter 1 ((codes "i", pos 0) ∷ [])) ∷ goes (begins 6 ((codes "i", pos 0) ∷ [])) ∷ goes (done 6) ∷ goes (begins 7 ((codes "i", pos 0) ∷ [])) ∷ goes (begins 8 ((codes "i", pos 0) ∷ [])) ∷ goes (enter 0 []) ∷ goes (begins 3 []) ∷ goes (made 3 (read 0 (pos 0))) ∷ goes (made 3 (write 0 (pos 1))) ∷ goes (done 3) ∷ goes (out 0) ∷ goes (done 8) ∷ goes (begins 9 ((codes "i", pos 0) ∷ [])) ∷ goes (made 9 (read 0 (pos 1))) ∷ [];
  moved = record {
    last = goes (made 9 (write 0 (pos 2)));
    ahead = [];
    outcome = Open;
    trace = record { most_turns = 3; gives = next (next (next (next (next (next (next (next (given (pos 0) (next (next (next (next (next (next (given (pos 1) (next (next (inl (refl, refl))))))))))))))))))) };
    woven = ((refl, tt), (refl, (refl, (refl, (refl, (refl, (refl, (refl, (refl, (refl, (refl, (refl, (refl, (refl, (refl, (refl, tt))))))))))))))));
    entry = _;
    is = refl;
    tells = refl;
  };
  away = record { passed = tt; stood = λ g. let no : false ≡ true = g in cc };
}

abbrev evacuation_steps_1 : List PartStep
evacuation_steps_1 =
    goes (made 5 begin) ∷ goes (enter 1 ((codes "i", pos 0) ∷ [])) ∷ goes (begins 6 ((codes "i", pos 0) ∷ [])) ∷ goes (done 6) ∷
    goes (begins 7 ((codes "i", pos 0) ∷ [])) ∷ goes (begins 8 ((codes "i", pos 0) ∷ [])) ∷ goes (enter 0 []) ∷ goes (begins 3 []) ∷
    goes (made 3 (read 0 (pos 0))) ∷ goes (made 3 (write 0 (pos 1))) ∷ goes (done 3) ∷ goes (out 0) ∷ goes (done 8) ∷
    goes (begins 9 ((codes "i", pos 0) ∷ [])) ∷ goes (made 9 (read 0 (pos 1))) ∷ goes (made 9 (write 0 (pos 2))) ∷ goes (done 9) ∷
    goes (begins 10 ((codes "i", pos 0) ∷ [])) ∷ goes (done 10) ∷ makes 7 (cross 7 1 0) ∷ goes (edge 7) ∷
    goes (begins 8 ((codes "i", pos 1) ∷ [])) ∷ makes 8 (enters 1 1) ∷ makes 8 (walk.at 1 (1 ∷ [])) ∷ goes (enter 0 []) ∷ goes (begins 3 []) ∷
    goes (made 3 (read 0 (pos 2))) ∷ goes (made 3 (write 0 (pos 3))) ∷ goes (done 3) ∷ goes (out 0) ∷ goes (done 8) ∷
    makes 8 (past 1 (1 ∷ [])) ∷ goes (begins 9 ((codes "i", pos 1) ∷ [])) ∷ makes 9 (walk.at 1 (2 ∷ [])) ∷ goes (made 9 (read 0 (pos 3))) ∷
    goes (made 9 (write 0 (pos 6))) ∷ goes (done 9) ∷ makes 9 (past 1 (2 ∷ [])) ∷ makes 9 (leave 1 1) ∷
    goes (begins 10 ((codes "i", pos 1) ∷ [])) ∷ goes (done 10) ∷ goes (edge 7) ∷ goes (begins 8 ((codes "i", pos 2) ∷ [])) ∷
    makes 8 (enters 1 1) ∷ makes 8 (walk.at 1 (1 ∷ [])) ∷ goes (enter 0 []) ∷ goes (begins 3 []) ∷ goes (made 3 (read 0 (pos 6))) ∷
    goes (made 3 (write 0 (pos 7))) ∷ goes (done 3) ∷ goes (out 0) ∷ goes (done 8) ∷ makes 8 (past 1 (1 ∷ [])) ∷
    goes (begins 9 ((codes "i", pos 2) ∷ [])) ∷ makes 9 (walk.at 1 (2 ∷ [])) ∷ goes (made 9 (read 0 (pos 7))) ∷
    goes (made 9 (write 0 (pos 14))) ∷ goes (done 9) ∷ makes 9 (past 1 (2 ∷ [])) ∷ makes 9 (leave 1 1) ∷
    goes (begins 10 ((codes "i", pos 2) ∷ [])) ∷ goes (done 10) ∷ goes (edge 7) ∷ goes (done 7) ∷ goes (begins 12 ((codes "i", pos 3) ∷ [])) ∷
    goes (made 12 (read 0 (pos 14))) ∷ goes (made 12 (print (pos 14))) ∷ goes (done 12) ∷ goes (out 1) ∷ goes (made 5 end) ∷ []

evacuation_trace_1 : IsTrace evacuated 1 [] (items evacuation_steps_1) Finished
evacuation_trace_1 = record { most_turns = 4; gives = next (next (next (next (next (next (next (next (given (pos 0) (next (next (next (next (next (next (given (pos 1) (next (next (next (next (next (next (next (next (next (given (pos 2) (next (next (next (next (next (next (given (pos 3) (next (next (next (next (next (next (next (next (next (given (pos 6) (next (next (next (next (next (next (given (pos 7) (next (next (next (next (next (next (next (next (given (pos 14) (next (next (next (next (next (refl, inl refl)))))))))))))))))))))))))))))))))))))))))))))))))))))))))))))))) }

evacuation_woven_1 : AreWoven evacuated (plans evacuation_setting) (unborn evacuation_versions) evacuation_steps_1 []
evacuation_woven_1 = ((refl, tt), (refl, (refl, (refl, (refl, (refl, (refl, (refl, (refl, (refl, (refl, (refl, (refl, (refl, (refl, (refl, (refl, (refl, (refl, (record { place = _; next = refl; number = refl; line = refl; version = refl; passed = refl }, (refl, (refl, (refl, (refl, (refl, (refl, (refl, (refl, (refl, (refl, (refl, (refl, (refl, (refl, (refl, (refl, (refl, (refl, (refl, (refl, (refl, (refl, (refl, (refl, (refl, (refl, (refl, (refl, (refl, (refl, (refl, (refl, (refl, (refl, (refl, (refl, (refl, (refl, (refl, (refl, (refl, (refl, (refl, (refl, (refl, (refl, (refl, (refl, (refl, (refl, tt))))))))))))))))))))))))))))))))))))))))))))))))))))))))))))))))))))))

pub evacuation_part_1 : HasPart evacuation_setting evacuation_journal 1 (thread_at (replay (start evacuated 8) evacuation_events) 1)
evacuation_part_1 = record {
  steps = evacuation_steps_1;
  ahead = [];
  outcome = Finished;
  trace = evacuation_trace_1;
  woven = evacuation_woven_1;
  tells = refl;
  taken = refl;
}

pub evacuation_parts : (t : ℕ) → HasPart evacuation_setting evacuation_journal t (thread_at (replay (start evacuated 8) evacuation_events) t)
evacuation_parts zero = refl
evacuation_parts (suc zero) = evacuation_part_1
evacuation_parts (suc (suc t)) = nothing_made 2 (suc (suc t)) evacuation_journal (omega arith) refl

evacuation_run : AreRun evacuated 8 evacuation_events
evacuation_run = record {
  traced = threads_traced evacuated 8 evacuation_events (record { items = items evacuation_steps_1; outcome = Finished; trace = evacuation_trace_1; same = refl }, tt) refl refl;
  allowed =
      runs.begins refl refl (does refl refl (does refl tt (does refl refl (does refl tt (does refl refl (does refl tt (does refl refl (does refl tt (does refl refl (does refl tt (does refl refl (does refl tt (does refl refl (does refl tt (does refl tt (tt))))))))))))))));
}

evacuation_follows : Each (FollowsBehind evacuation_setting evacuation_events) [] evacuation_journal
evacuation_follows =
    behind (moves {s = evacuation_setting} refl tt, tt) (behind (moves {s = evacuation_setting} refl tt, tt) (behind (record { command = _; is = refl; answered = refl; not_closing = refl; runs = refl; triggered = omega arith }, refl) (behind (moves {s = evacuation_setting} refl ((λ h. let no : false ≡ true = h in cc), (λ h. let no : false ≡ true = h in cc)), tt) (behind (moves {s = evacuation_setting} refl ((λ h. evacuation_reads), (λ h. let no : false ≡ true = h in cc)), tt) (behind (moves {s = evacuation_setting} refl ((λ h. evacuation_writes), (λ h. let no : false ≡ true = h in cc)), tt) (behind (refl, evacuation_installs) (behind (moves {s = evacuation_setting} refl tt, (refl, tt)) (behind (moves {s = evacuation_setting} refl tt, refl) (behind (moves {s = evacuation_setting} refl tt, (tt, tt)) (behind (moves {s = evacuation_setting} refl tt, tt) (behind (moves {s = evacuation_setting} refl tt, tt) (behind (moves {s = evacuation_setting} refl tt, tt) (behind (moves {s = evacuation_setting} refl tt, (tt, tt)) (behind (moves {s = evacuation_setting} refl tt, tt) (behind (moves {s = evacuation_setting} refl tt, tt) (behind (moves {s = evacuation_setting} refl tt, tt) (behind (moves {s = evacuation_setting} refl tt, tt) (behind (moves {s = evacuation_setting} refl tt, refl) (behind (moves {s = evacuation_setting} refl tt, (tt, tt)) (behind (moves {s = evacuation_setting} refl tt, tt) (behind (moves {s = evacuation_setting} refl tt, tt) (behind (moves {s = evacuation_setting} refl tt, tt) (behind (moves {s = evacuation_setting} refl tt, (tt, tt)) (behind (moves {s = evacuation_setting} refl tt, tt) (behind (moves {s = evacuation_setting} refl tt, tt) (behind (moves {s = evacuation_setting} refl tt, tt) (behind (moves {s = evacuation_setting} refl tt, tt) (behind (moves {s = evacuation_setting} refl tt, tt) (behind (moves {s = evacuation_setting} refl tt, tt) (behind (moves {s = evacuation_setting} refl tt, tt) (behind (refl, (refl, (omega arith, (refl, (evacuation_ended, not_due evacuation_setting _ refl))))) (tt))))))))))))))))))))))))))))))))

pub evacuation_lawful : IsLawful evacuation_setting evacuation_journal
evacuation_lawful = record {
  events = evacuation_events;
  tells = refl;
  run = evacuation_run;
  parts = evacuation_parts;
  follows = each_one (FollowsBehind evacuation_setting evacuation_events) evacuation_journal evacuation_follows;
}
