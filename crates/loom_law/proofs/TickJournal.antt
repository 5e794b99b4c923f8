-- Lawful journals of an endless loop that a limit ends: a tick behind each thousand places, and a version that is taken behind one.
use Rattle.std.proofs.Common.{ℕ, zero, suc, ◌+◌, ◌<◌, ◌≡◌, ◌==◌, false, pos, List, [], ◌∷◌, ◌++◌, length, refl, sym, ap, subst, ◌∙◌, codes, arith, ◌⊎◌, inl, inr, true, Option, Some, None}
use Rattle.std.specs.List.{Contains}
use Rattle.std.proofs.lemmas.Bool.{ne_eqb}
use Rattle.loom_tree.specs.Tree.{Expression, num, Body, simple, while_, Function, Source}
use Rattle.loom_tree.specs.Tree as tree
use Rattle.loom_trace.specs.declared.entry.Entry.{Entry}
use Rattle.loom_trace.specs.declared.entry.Entry.TheVariants as e
use Rattle.loom_trace.specs.declared.entry.Ending.TheVariants as k
use Rattle.loom_lang.specs.Places.{Place, nowhere, body_places}
use Rattle.loom_lang.specs.Places as place
use Rattle.loom_lang.specs.Trace.{Locals, Lists, begin, Item, made, begins, done, edge, enter, Open, turns, IsTrace}
use Rattle.loom_lang.specs.Acts.{acts}
use Rattle.loom_command.specs.Filter.{OrderStep, Clause, Filter}
use Rattle.loom_command.specs.Script as script
use Rattle.loom_event.specs.TargetEvent.{TargetEvent}
use Rattle.loom_event.specs.Replay.{ThreadState, start, thread_at, replay}
use Rattle.loom_event.specs.Run.{AreRun}
use Rattle.loom_event.proofs.Runs.{next, threads_traced}
use Rattle.loom_event.proofs.Runs as runs
use Rattle.loom_event.proofs.Stops as stops
use Rattle.loom_event.proofs.Examples.{event}
use Rattle.loom_law.specs.Filter.{Watch, statement, Range, between, Plan, plan_of}
use Rattle.loom_law.specs.Walk.{Version, Plans, tick, cross, place_of_next, PartStep, goes, makes, items, filter_entries, Spot, beginning, elsewhere, Queue, Walk, with_tick, walk_from, AreWoven}
use Rattle.loom_law.specs.Paths.{statements, has_return, called_by, Begins, IsStatement, Reaches, IsReached, watch_at, IsUnsafe}
use Rattle.loom_law.specs.Paths as paths
use Rattle.loom_law.specs.Control.{means, install, Command, remove}
use Rattle.loom_law.specs.Lawful.{Setting, plans, own, HasPart, StandsAt, running_thread, IsOutside, MayInstall, front_at, IsLawful}
use Rattle.loom_law.proofs.Earlier.{if_true, if_false}
use Rattle.loom_law.proofs.Fronts.{Each, behind, each_one, FollowsBehind, nothing_made}
use Rattle.loom_law.proofs.Sites.{outside_where_flagged}
use Rattle.loom_law.proofs.Journals.{each, moves}

-- 1  fn main() {
-- 2    while (1) {
-- 3      skip;
-- 4    }
-- 5  }
-- script: at 9 remove a
abbrev loop_function : Function
loop_function = record { name = codes "main"; line = 1; params = []; body = while_ 2 (num (pos 1)) (simple 3 tree.skip tree.end) tree.end }

abbrev pub endless : Source
endless = record {
  words = [];
  mutexes = [];
  semas = [];
  funcs = loop_function ∷ [];
}

abbrev tick_commands : List Command
tick_commands = record { trigger = script.at 9; name = codes "a"; action = remove } ∷ []

abbrev pub tick_setting : Setting
tick_setting = record { program = endless; commands = tick_commands; limit = 5; threads = 8; stop = stops.never }

abbrev pub tick_journal : List Entry
tick_journal = e.Begin 1 1 ∷ e.Tick 1 2 3 ∷ e.Tick 1 2 3 ∷ e.Tick 1 2 3 ∷ e.Tick 1 2 3 ∷ e.Unreached 1 ∷ e.Finish k.Limit ∷ []

abbrev tick_events : List TargetEvent
tick_events = event 1 1 begin ∷ []

-- Rounds

-- so many turns of the loop
rounds : ℕ → List PartStep → List PartStep
rounds zero more = more
rounds (suc n) more = goes (begins 3 []) ∷ goes (done 3) ∷ goes (edge 2) ∷ rounds n more

round_acts : (n : ℕ) → acts (items (rounds n [])) ≡ []
unfolding rounds
round_acts zero = refl
round_acts (suc n) = round_acts n

round_told : (n : ℕ) (more : List PartStep) → filter_entries 1 (rounds n more) ≡ filter_entries 1 more
unfolding rounds
round_told zero more = refl
round_told (suc n) more = round_told n more

round_trace : (turn : Locals → (Locals → Lists) → (Locals → Lists) → Lists) (more : Locals → Lists)
    → ((again leave : Locals → Lists) (is : List Item) → again [] is Open → turn [] again leave (begins 3 [] ∷ done 3 ∷ edge 2 ∷ is) Open)
    → (n : ℕ) → turns n turn more [] (items (rounds n [])) Open
unfolding rounds
round_trace turn more h zero = (refl, refl)
round_trace turn more h (suc n) =
    h (λ env. turns n turn more env) more (items (rounds n [])) (round_trace turn more h n)

endless_trace : (n : ℕ) → IsTrace endless 0 [] (made 1 begin ∷ enter 0 [] ∷ begins 2 [] ∷ items (rounds n [])) Open
endless_trace n = record { most_turns = n; gives = next (next (next (round_trace _ _ (λ again leave is h. next (next (next h))) n))) }

-- Walks

-- in the loop, behind these places
abbrev in_loop : List Version → Spot → List Place → Walk
in_loop vs s ys = record {
  coming = vs;
  active = [];
  held = [];
  frames = record { func = 0; statements = record { line = 2; events = [] } ∷ []; inside = [] } ∷ [];
  spot = s;
  owed = [];
  passed = ys;
  is_blocked = false;
}

no_tick : (n : ℕ) → suc n < 1000 → with_tick endless (place.back_edge 2) (suc n) [] ≡ []
no_tick n h = if_false (suc n == 1000) _ [] (ne_eqb (suc n) 1000 (λ e. omega arith))

a_tick : (ys : List Place) → length ys ≡ 999 → with_tick endless (place.back_edge 2) (suc (length ys)) [] ≡ (2, tick 3) ∷ []
a_tick ys is = if_true (suc (length ys) == 1000) ((2, tick 3) ∷ []) [] (ap (λ n. suc n == 1000) is)

rounds_woven : (ps : Plans) (vs : List Version) (n : ℕ) (s : Spot) (ys : List Place) → length ys + n < 1000 → (more : List PartStep) (ahead : List Item)
    → ((t : Spot) (zs : List Place) → length zs ≡ length ys + n → AreWoven endless ps (in_loop vs t zs) more ahead)
    → AreWoven endless ps (in_loop vs s ys) (rounds n more) ahead
unfolding rounds
rounds_woven ps vs zero s ys few more ahead h = h s ys (omega arith)
rounds_woven ps vs (suc n) s ys few more ahead h =
    let zs : List Place = place.back_edge 2 ∷ ys in
    let none : with_tick endless (place.back_edge 2) (suc (length ys)) [] ≡ [] = no_tick (length ys) (omega arith) in
    let ih : AreWoven endless ps (in_loop vs elsewhere zs) (rounds n more) ahead =
    rounds_woven ps vs n elsewhere zs (omega arith) more ahead (λ t us is. h t us (omega arith)) in
    let P : Queue → Type 0 = λ os. AreWoven endless ps (record (in_loop vs elsewhere zs) { owed = os }) (rounds n more) ahead in
    (refl, (refl, (refl, subst P (sym none) ih)))

-- what holds of each walk to which they lead
rounds_lead : (Q : Walk → Type 0) (ps : Plans) (vs : List Version) (n : ℕ) (s : Spot) (ys : List Place) → length ys + n < 1000 → (more : List PartStep)
    → ((t : Spot) (zs : List Place) → length zs ≡ length ys + n → Q (walk_from endless ps (in_loop vs t zs) more))
    → Q (walk_from endless ps (in_loop vs s ys) (rounds n more))
unfolding rounds
rounds_lead Q ps vs zero s ys few more h = h s ys (omega arith)
rounds_lead Q ps vs (suc n) s ys few more h =
    let zs : List Place = place.back_edge 2 ∷ ys in
    let none : with_tick endless (place.back_edge 2) (suc (length ys)) [] ≡ [] = no_tick (length ys) (omega arith) in
    let ih : Q (walk_from endless ps (in_loop vs elsewhere zs) (rounds n more)) = rounds_lead Q ps vs n elsewhere zs (omega arith) more (λ t us is. h t us (omega arith)) in
    let P : Queue → Type 0 = λ os. Q (walk_from endless ps (record (in_loop vs elsewhere zs) { owed = os }) (rounds n more)) in
    subst P (sym none) ih

-- the last round before a tick, the tick, and what stands behind it
abbrev ticked : List PartStep → List PartStep
ticked more = rounds 1 (makes 2 (tick 3) ∷ more)

last_woven : (ps : Plans) (vs : List Version) (s : Spot) (ys : List Place) → length ys ≡ 999 → (more : List PartStep) (ahead : List Item)
    → AreWoven endless ps (in_loop vs elsewhere []) more ahead → AreWoven endless ps (in_loop vs s ys) (ticked more) ahead
unfolding rounds
last_woven ps vs s ys is more ahead h =
    let zs : List Place = place.back_edge 2 ∷ ys in
    let P : Queue → Type 0 = λ os. AreWoven endless ps (record (in_loop vs elsewhere zs) { owed = os }) (makes 2 (tick 3) ∷ more) ahead in
    (refl, (refl, (refl, subst P (sym (a_tick ys is)) (refl, h))))

last_leads : (Q : Walk → Type 0) (ps : Plans) (vs : List Version) (s : Spot) (ys : List Place) → length ys ≡ 999 → (more : List PartStep)
    → Q (walk_from endless ps (in_loop vs elsewhere []) more) → Q (walk_from endless ps (in_loop vs s ys) (ticked more))
unfolding rounds
last_leads Q ps vs s ys is more h =
    let zs : List Place = place.back_edge 2 ∷ ys in
    let P : Queue → Type 0 = λ os. Q (walk_from endless ps (record (in_loop vs elsewhere zs) { owed = os }) (makes 2 (tick 3) ∷ more)) in
    subst P (sym (a_tick ys is)) h

-- up to the first tick
first_woven : (ps : Plans) (vs : List Version) (more : List PartStep) (ahead : List Item) → AreWoven endless ps (in_loop vs elsewhere []) more ahead
    → AreWoven endless ps (in_loop vs (beginning 2 []) (place.entry 0 ∷ [])) (rounds 998 (ticked more)) ahead
first_woven ps vs more ahead h =
    rounds_woven ps vs 998 (beginning 2 []) (place.entry 0 ∷ []) (omega arith) (ticked more) ahead
    (λ s zs is. last_woven ps vs s zs (omega arith) more ahead h)

first_leads : (Q : Walk → Type 0) (ps : Plans) (vs : List Version) (more : List PartStep) → Q (walk_from endless ps (in_loop vs elsewhere []) more)
    → Q (walk_from endless ps (in_loop vs (beginning 2 []) (place.entry 0 ∷ [])) (rounds 998 (ticked more)))
first_leads Q ps vs more h =
    rounds_lead Q ps vs 998 (beginning 2 []) (place.entry 0 ∷ []) (omega arith) (ticked more)
    (λ s zs is. last_leads Q ps vs s zs (omega arith) more h)

-- a thousand places behind one tick stands the next
abbrev thousand : List PartStep → List PartStep
thousand more = rounds 999 (ticked more)

thousand_woven : (ps : Plans) (more : List PartStep) → AreWoven endless ps (in_loop [] elsewhere []) more [] → AreWoven endless ps (in_loop [] elsewhere []) (thousand more) []
thousand_woven ps more h = rounds_woven ps [] 999 elsewhere [] (omega arith) (ticked more) [] (λ s zs is. last_woven ps [] s zs (omega arith) more [] h)

thousand_leads : (Q : Walk → Type 0) (ps : Plans) (more : List PartStep) → Q (walk_from endless ps (in_loop [] elsewhere []) more)
    → Q (walk_from endless ps (in_loop [] elsewhere []) (thousand more))
thousand_leads Q ps more h = rounds_lead Q ps [] 999 elsewhere [] (omega arith) (ticked more) (λ s zs is. last_leads Q ps [] s zs (omega arith) more h)

thousand_told : (n : ℕ) (more : List PartStep) → filter_entries 1 (rounds n (ticked more)) ≡ e.Tick 1 2 3 ∷ filter_entries 1 more
thousand_told n more = round_told n (ticked more) ∙ round_told 1 (makes 2 (tick 3) ∷ more)

no_rounds : [] ≡ items (rounds 0 [])
unfolding rounds
no_rounds = refl

last_items : (n m r : ℕ) → r ≡ suc n + m → (more : List PartStep) (ahead : List Item) → items more ++ ahead ≡ items (rounds m [])
    → items (rounds n (ticked more)) ++ ahead ≡ items (rounds r [])
unfolding rounds
last_items n m zero is more ahead h = let no : ⊥ = omega arith in absurd no
last_items zero m (suc r) is more ahead h =
    let same : m ≡ r = omega arith in
    ap (λ is. begins 3 [] ∷ done 3 ∷ edge 2 ∷ is) (h ∙ ap (λ k. items (rounds k [])) same)
last_items (suc n) m (suc r) is more ahead h = ap (λ is. begins 3 [] ∷ done 3 ∷ edge 2 ∷ is) (last_items n m r (omega arith) more ahead h)

-- The journal

-- what stands behind the first tick
abbrev three_more : List PartStep
three_more = thousand (thousand (thousand []))

abbrev tick_steps : List PartStep
tick_steps = goes (made 1 begin) ∷ goes (enter 0 []) ∷ goes (begins 2 []) ∷ rounds 998 (ticked three_more)

tick_items : items tick_steps ++ [] ≡ made 1 begin ∷ enter 0 [] ∷ begins 2 [] ∷ items (rounds 3999 [])
tick_items =
    let one : items (thousand []) ++ [] ≡ items (rounds 1000 []) = last_items 999 0 1000 refl [] [] no_rounds in
    let two : items (thousand (thousand [])) ++ [] ≡ items (rounds 2000 []) = last_items 999 1000 2000 refl (thousand []) [] one in
    let three : items three_more ++ [] ≡ items (rounds 3000 []) = last_items 999 2000 3000 refl (thousand (thousand [])) [] two in
    ap (λ is. made 1 begin ∷ enter 0 [] ∷ begins 2 [] ∷ is) (last_items 998 3000 3999 refl three_more [] three)

tick_told : filter_entries 1 tick_steps ≡ e.Begin 1 1 ∷ e.Tick 1 2 3 ∷ e.Tick 1 2 3 ∷ e.Tick 1 2 3 ∷ e.Tick 1 2 3 ∷ []
tick_told =
    let one : filter_entries 1 (thousand []) ≡ e.Tick 1 2 3 ∷ [] = thousand_told 999 [] in
    let two : filter_entries 1 (thousand (thousand [])) ≡ e.Tick 1 2 3 ∷ e.Tick 1 2 3 ∷ [] = thousand_told 999 (thousand []) ∙ ap (◌∷◌ (e.Tick 1 2 3)) one in
    let three : filter_entries 1 three_more ≡ e.Tick 1 2 3 ∷ e.Tick 1 2 3 ∷ e.Tick 1 2 3 ∷ [] =
    thousand_told 999 (thousand (thousand [])) ∙ ap (◌∷◌ (e.Tick 1 2 3)) two in
    ap (◌∷◌ (e.Begin 1 1)) (thousand_told 998 three_more ∙ ap (◌∷◌ (e.Tick 1 2 3)) three)

three_woven : (ps : Plans) → AreWoven endless ps (in_loop [] elsewhere []) three_more []
three_woven ps = thousand_woven ps (thousand (thousand [])) (thousand_woven ps (thousand []) (thousand_woven ps [] tt))

-- no version is taken
abbrev TakesAll : Walk → Type 0
TakesAll z = z.coming ≡ []

three_taken : (ps : Plans) → TakesAll (walk_from endless ps (in_loop [] elsewhere []) three_more)
three_taken ps = thousand_leads TakesAll ps (thousand (thousand [])) (thousand_leads TakesAll ps (thousand []) (thousand_leads TakesAll ps [] refl))

tick_part : HasPart tick_setting tick_journal 1 (thread_at (replay (start endless 8) tick_events) 1)
tick_part = record {
  steps = tick_steps;
  ahead = [];
  outcome = Open;
  trace = subst (λ is. IsTrace endless 0 [] is Open) (sym tick_items) (endless_trace 3999);
  woven = ((refl, tt), (refl, (refl, first_woven (plans tick_setting) [] three_more [] (three_woven (plans tick_setting)))));
  tells = tick_told;
  taken = first_leads TakesAll (plans tick_setting) [] three_more (three_taken (plans tick_setting));
}

tick_parts : (t : ℕ) → HasPart tick_setting tick_journal t (thread_at (replay (start endless 8) tick_events) t)
tick_parts zero = refl
tick_parts (suc zero) = tick_part
tick_parts (suc (suc t)) = nothing_made 2 (suc (suc t)) tick_journal (omega arith) refl

-- the run, with any number of rounds
loop_run : (n : ℕ) → AreRun endless 8 tick_events
loop_run n = record {
  traced = threads_traced endless 8 tick_events (
    record {
      items = made 1 begin ∷ enter 0 [] ∷ begins 2 [] ∷ items (rounds n []);
      outcome = Open;
      trace = endless_trace n;
      same = ap (◌∷◌ (record { line = 1; act = begin })) (round_acts n);
    },
    tt,
  ) refl refl;
  allowed = runs.begins refl refl tt;
}

tick_follows : Each (FollowsBehind tick_setting tick_events) [] tick_journal
tick_follows =
    behind (moves {s = tick_setting} refl tt, tt) (behind (moves {s = tick_setting} refl tt, tt) (behind (moves {s = tick_setting} refl tt, tt) (behind (moves {s = tick_setting} refl tt, tt) (behind (moves {s = tick_setting} refl tt, tt) (behind (refl, (refl, (omega arith, (k.Limit, (refl, refl))))) (behind (refl, (refl, (omega arith, (refl, refl)))) (tt)))))))

pub tick_lawful : IsLawful tick_setting tick_journal
tick_lawful = record {
  events = tick_events;
  tells = refl;
  run = loop_run 0;
  parts = tick_parts;
  follows = each_one (FollowsBehind tick_setting tick_events) tick_journal tick_follows;
}

-- A filter is installed behind the first tick: the thread takes it at the back edge of its next round.

-- script: at 1 install f loop.lm:3 > loop.lm:3 (0)
abbrev skipped : Option Expression → OrderStep
skipped test = record { event = record { file = codes "loop.lm"; line = 3; test = test }; count = 1 }

abbrev skips : Filter
skips = Clause.order (skipped None ∷ skipped (Some (num (pos 0))) ∷ []) ∷ []

abbrev skip_plan : Plan
skip_plan = plan_of endless skips

abbrev pub loop_setting : Setting
loop_setting = record {
  program = endless;
  commands = record { trigger = script.at 1; name = codes "f"; action = install (means skip_plan) } ∷ [];
  limit = 3;
  threads = 8;
  stop = stops.never;
}

-- its events make only their statement's own place unsafe

abbrev turn : Place
turn = place.back_edge 2

abbrev skipping : Body
skipping = simple 3 tree.skip tree.end

abbrev IsSkipping : Body → Type 0
IsSkipping x = (l : ℕ) → Begins x l → l ≡ 3 → x ≡ skipping

skip_body : (g l : ℕ) (x : Body) → IsStatement endless g l x → l ≡ 3 → x ≡ skipping
skip_body zero l x h third =
    let same : loop_function ≡ h.function = cc in
    each IsSkipping (statements loop_function.body)
    ((λ m b is. let no : ⊥ = omega arith in absurd no), ((λ m b is. refl), tt)) x
    (subst (λ (f : Function). Contains (statements f.body) x) (sym same) h.there) l h.line third
skip_body (suc g) l x h third = let no : None ≡ Some h.function = h.is in absurd (none_there h.function no)
  where
    none_there : (f : Function) → None ≡ Some f → ⊥
    none_there f e = cc

site_line : (w : Watch) (t : Option Expression) (l : ℕ) → record { site = statement 3; test = t } ≡ w → w.site ≡ statement l → l ≡ 3
site_line w t l is at_line =
    let site : statement 3 ≡ statement l = ap (λ (u : Watch). u.site) is ∙ at_line in
    let same : 3 ≡ l = cc in
    sym same

third_line : (n : ℕ) (w : Watch) (l : ℕ) → watch_at skip_plan n ≡ Some w → w.site ≡ statement l → l ≡ 3
third_line zero w l h g = cc
third_line (suc zero) w l h g = let is : record { site = statement 3; test = None } ≡ w = cc in site_line w None l is g
third_line (suc (suc zero)) w l h g =
    let is : record { site = statement 3; test = Some (num (pos 0)) } ≡ w = cc in site_line w (Some (num (pos 0))) l is g
third_line (suc (suc (suc n))) w l h g = cc

abbrev NoCall : Body → Type 0
NoCall x = (name : List ℕ) → called_by x ≡ Some name → ⊥

no_reach : {n : ℕ} → Reaches endless (skipping ∷ []) n → ⊥
no_reach (paths.calls c) = each NoCall (skipping ∷ []) ((λ name g. cc), tt) c.statement c.there c.name c.calls
no_reach (paths.through r c) = no_reach r

-- the back edge isn't one of them
turn_is_safe : IsUnsafe endless skip_plan turn → ⊥
turn_is_safe (inl h) =
    let body : h.body ≡ skipping = skip_body h.function h.line h.body h.there (third_line h.event h.watch h.line h.is h.site) in
    no_place (subst (λ x. Contains (body_places x) turn ⊎ (((has_return x ≡ true) × (turn ≡ place.out h.function)) ⊎ IsReached endless (statements x) turn)) body h.place)
  where
    no_place : {R : Type 0} → Contains (body_places skipping) turn ⊎ (((has_return skipping ≡ true) × R) ⊎ IsReached endless (statements skipping) turn) → ⊥
    no_place (inl c) = each (λ (y : Place). y ≡ turn → ⊥) (body_places skipping) ((λ g. cc), tt) turn c refl
    no_place (inr (inl c)) = let no : false ≡ true = c.0 in cc
    no_place (inr (inr c)) = no_reach c.reached
turn_is_safe (inr (inl h)) = each (λ (r : Range). ⊥) [] tt (between h.entries h.exits) h.region
turn_is_safe (inr (inr h)) = each (λ (r : Range). ⊥) [] tt (Range.whole h.event) h.region

abbrev pub loop_journal : List Entry
loop_journal =
    e.Begin 1 1 ∷ e.Asked 1 ∷ e.Tick 1 2 3 ∷ e.Installed 1 1 (3 ∷ 0 ∷ 0 ∷ 0 ∷ 0 ∷ 0 ∷ 0 ∷ 0 ∷ []) ∷ e.Cross 1 2 3 1 0 ∷ e.Finish k.Limit ∷ []

abbrev loop_front : List Entry
loop_front = e.Begin 1 1 ∷ e.Asked 1 ∷ e.Tick 1 2 3 ∷ []

-- behind the tick stands one more round
abbrev one_more : List PartStep
one_more = goes (begins 3 []) ∷ goes (done 3) ∷ []

abbrev with_cross : List PartStep
with_cross = goes (begins 3 []) ∷ goes (done 3) ∷ makes 2 (cross 3 1 0) ∷ []

abbrev loop_steps : List PartStep → List PartStep
loop_steps more = goes (made 1 begin) ∷ goes (enter 0 []) ∷ goes (begins 2 []) ∷ rounds 998 (ticked more)

one_round : begins 3 [] ∷ done 3 ∷ edge 2 ∷ [] ≡ items (rounds 1 [])
unfolding rounds
one_round = refl

loop_trace : (more : List PartStep) → items more ≡ begins 3 [] ∷ done 3 ∷ [] → IsTrace endless 0 [] (items (loop_steps more) ++ edge 2 ∷ []) Open
loop_trace more is =
    let last : items more ++ edge 2 ∷ [] ≡ items (rounds 1 []) = ap (λ js. js ++ edge 2 ∷ []) is ∙ one_round in
    let all : items (rounds 998 (ticked more)) ++ edge 2 ∷ [] ≡ items (rounds 1000 []) = last_items 998 1 1000 refl more (edge 2 ∷ []) last in
    subst (λ is. IsTrace endless 0 [] is Open) (sym (ap (λ is. made 1 begin ∷ enter 0 [] ∷ begins 2 [] ∷ is) all)) (endless_trace 1000)

loop_told : (more : List PartStep) → filter_entries 1 (loop_steps more) ≡ e.Begin 1 1 ∷ e.Tick 1 2 3 ∷ filter_entries 1 more
loop_told more = ap (◌∷◌ (e.Begin 1 1)) (thousand_told 998 more)

abbrev IsAtTurn : Walk → Type 0
IsAtTurn z = place_of_next z z.owed (edge 2 ∷ []) ≡ Some turn

loop_at : StandsAt loop_setting (front_at loop_setting tick_events loop_front) 1 turn
loop_at = record {
  point = record {
    steps = loop_steps one_more;
    next = edge 2;
    trace = loop_trace one_more refl;
    woven = ((refl, tt), (refl, (refl, first_woven (plans loop_setting) [] one_more (edge 2 ∷ []) (refl, (refl, tt)))));
    tells = loop_told one_more;
    taken = first_leads TakesAll (plans loop_setting) [] one_more refl;
  };
  place = first_leads IsAtTurn (plans loop_setting) [] one_more refl;
}

abbrev loop_place : ℕ → Place
loop_place zero = nowhere
loop_place (suc zero) = turn
loop_place (suc (suc t)) = nowhere

loop_stood : (t : ℕ) → StandsAt loop_setting (front_at loop_setting tick_events loop_front) t (loop_place t)
loop_stood zero = refl
loop_stood (suc zero) = loop_at
loop_stood (suc (suc t)) = refl

loop_flagged : (t : ℕ) → (loop_place t ≡ nowhere) ⊎ (IsUnsafe endless skip_plan (loop_place t) → ⊥)
loop_flagged zero = inl refl
loop_flagged (suc zero) = inr turn_is_safe
loop_flagged (suc (suc t)) = inl refl

abbrev in_main : ThreadState
in_main = record { func = 0; args = []; begun = true; ended = false }

loop_outside : (t : ℕ) → IsOutside loop_setting loop_front t (running_thread (thread_at (replay (start endless 8) tick_events) t)) skip_plan (loop_place t)
loop_outside zero = tt
loop_outside (suc zero) = outside_where_flagged loop_setting (own loop_setting loop_front 1 in_main) skips turn (inr turn_is_safe)
loop_outside (suc (suc t)) = tt

loop_installs : MayInstall loop_setting (front_at loop_setting tick_events loop_front) 1 1 (3 ∷ 0 ∷ 0 ∷ 0 ∷ 0 ∷ 0 ∷ 0 ∷ 0 ∷ [])
loop_installs = record {
  command = _;
  is = refl;
  plan = skip_plan;
  installs = refl;
  asked = refl;
  not_refused = refl;
  version = refl;
  lists = record { count = refl; place = loop_place; are = refl; stands = loop_stood; flagged = loop_flagged };
  outside = loop_outside;
}

abbrev new_version : List Version
new_version = record { number = 1; active = 1 ∷ [] } ∷ []

loop_part : HasPart loop_setting loop_journal 1 (thread_at (replay (start endless 8) tick_events) 1)
loop_part = record {
  steps = loop_steps with_cross;
  ahead = edge 2 ∷ [];
  outcome = Open;
  trace = loop_trace with_cross refl;
  woven = (
    (refl, tt),
    (
      refl,
      (
        refl,
        first_woven (plans loop_setting) new_version with_cross (edge 2 ∷ [])
            (refl, (refl, (record { place = _; next = refl; number = refl; line = refl; version = refl; passed = refl }, tt))),
      ),
    ),
  );
  tells = loop_told with_cross;
  taken = first_leads TakesAll (plans loop_setting) new_version with_cross refl;
}

loop_parts : (t : ℕ) → HasPart loop_setting loop_journal t (thread_at (replay (start endless 8) tick_events) t)
loop_parts zero = refl
loop_parts (suc zero) = loop_part
loop_parts (suc (suc t)) = nothing_made 2 (suc (suc t)) loop_journal (omega arith) refl

loop_follows : Each (FollowsBehind loop_setting tick_events) [] loop_journal
loop_follows =
    behind (moves {s = loop_setting} refl tt, tt) (behind (record { command = _; is = refl; answered = refl; not_closing = refl; runs = refl; triggered = omega arith }, refl) (behind (moves {s = loop_setting} refl ((λ h. let no : false ≡ true = h in cc), (λ h. let no : false ≡ true = h in cc)), tt) (behind (refl, loop_installs) (behind (moves {s = loop_setting} refl tt, (refl, tt)) (behind (refl, (refl, (omega arith, (refl, refl)))) (tt))))))

pub loop_lawful : IsLawful loop_setting loop_journal
loop_lawful = record {
  events = tick_events;
  tells = refl;
  run = loop_run 0;
  parts = loop_parts;
  follows = each_one (FollowsBehind loop_setting tick_events) loop_journal loop_follows;
}
