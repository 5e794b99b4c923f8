-- A private run, one step after another.
use Rattle.std.proofs.Common.{ℕ, suc, ◌≡◌, ◌<◌, ◌⊎◌, true, false, Bool, List, [], ◌++◌, Option, Some, None, length, refl, inl, inr, sym, ap, subst, ◌∙◌, arith}
use Rattle.std.specs.Prelude.{◌↔◌, IsTrue}
use Rattle.loom_lang.specs.Places.{place_at}
use Rattle.loom_lang.specs.Places as site
use Rattle.loom_lang.specs.Trace.{Item, Act, made, begins, done, edge, enter, out}
use Rattle.loom_flow.specs.Flow.{Flow}
use Rattle.loom_flow.specs.State.{State}
use Rattle.loom_flow.specs.Position.{Position}
use Rattle.loom_flow.specs.Progress.{goes, progress}
use Rattle.loom_flow.specs.Code.{IsLowered}
use Rattle.loom_trace.specs.Places.{has_place}
use Rattle.loom_law.specs.OpenStatements.{frame_lines, StandsIn}
use Rattle.loom_law.specs.Walk.{Queue, Walk, tick_after, after_item}
use Rattle.loom_law.specs.ThreadPart.{walk_of}
use Rattle.loom_plan.specs.Compiled.{Compiled}
use Rattle.loom_version.specs.Plans.{plans_in}
use Rattle.loom_walk.specs.Owed.{queue}
use Rattle.loom_walk.specs.FilterWalk.{FilterWalk, IsAt, KeepsRoom}
use Rattle.loom_strand.specs.declared.execution.Execution.{Execution}
use Rattle.loom_strand.specs.declared.stage.Birth.{Birth}
use Rattle.loom_strand.specs.declared.stage.Stage.{Stage}
use Rattle.loom_strand.specs.declared.stage.Stage.TheVariants as stage
use Rattle.loom_strand.specs.declared.step_result.Mark.{Mark}
use Rattle.loom_strand.specs.declared.step_result.Mark.TheVariants as m
use Rattle.loom_strand.specs.declared.step_result.StepResult.TheVariants as t
use Rattle.loom_strand.specs.declared.step_result.Stop.{Stop}
use Rattle.loom_strand.specs.declared.step_result.Stop.TheVariants as stop
use Rattle.loom_trace.specs.declared.request.Request.{Request}
use Rattle.loom_strand.specs.Machine.{Machine, position}
use Rattle.loom_strand.specs.StepResult.{place_here, mark_of, place_passed, place_coming, Advances}
use Rattle.loom_strand.specs.Way.{next_step}
use Rattle.loom_strand.specs.InPart.{IsSomewhere, HasGone, GoesOn, IsMarkOf, place_behind, CanPass}
use Rattle.loom_strand.specs.StrandInvariant.{IsSoundPosition}
use Rattle.loom_strand.specs.Halt.{PassesNextFrom, PassesNext, StopsBefore, IsStopped, IsHalting, by_request, by_owed}
use Rattle.loom_strand.specs.PrivateRun.{IsRunning, IsFreeStep, MayRunFrom, MayRun, Stops, Runs}
use Rattle.loom_strand.proofs.Falls.{left, passes, falls, falls_passing}
use Rattle.loom_strand.proofs.Lively.{silent_lives}
use Rattle.loom_strand.proofs.Marks.{mark_place, mark_is}
use Rattle.loom_strand.proofs.Moves.{IsMove, moved, move_at, move_runs, asked, ended}
use Rattle.loom_strand.proofs.PartSteps.{is_mark, mark_few, mark_nests, PassesMark, gone_nowhere, gone_past, gone_by, can_pass}

-- What holds at each step of a run from `first` on: the thread went on from there, and owes nothing.
pub record IsOn (c : Flow) (cs : List (Option Compiled)) (flags : List ℕ) (newer : Bool) (first e : Execution) : Type 0 where
  pub gone : (b : Birth) → GoesOn c cs b flags first e
  pub running : IsRunning c e.machine
  pub stage : e.stage ≡ stage.Runs
  pub rests : queue e.walk.owed ≡ []
  pub notes : KeepsRoom first.walk e.walk
  pub still : IsHalting c first → e ≡ first
  pub waits : (b : Birth) (k : ℕ) → StopsBefore c b flags newer first k → e ≡ first
  pub count : newer ≡ true → e.walk.passed ≡ first.walk.passed

-- where frames run, what comes next is what the machine does
pub runs_next : (c : Flow) (b : Birth) (e : Execution) → e.stage ≡ stage.Runs → next_step c b e.stage e.machine ≡ progress c (position e.machine)
runs_next c b e is = ap (λ (s : Stage). next_step c b s e.machine) is

-- the thread is somewhere in its part still
pub somewhere_on : (c : Flow) (cs : List (Option Compiled)) (b : Birth) (flags : List ℕ) (first e : Execution) → GoesOn c cs b flags first e → IsSomewhere c cs b first → IsSomewhere c cs b e
somewhere_on c cs b flags first e g h =
    let d : HasGone c cs b flags e h.own h.look h.steps = g h.own h.look h.steps h.there in
    record { own = h.own; look = d.look; steps = h.steps ++ d.marks; there = d.there }

-- nothing is owed in its walk
pub at_rest : (c : Flow) (cs : List (Option Compiled)) (e : Execution) (z : Walk) → queue e.walk.owed ≡ [] → IsAt c.program (plans_in cs) e.walk z → z.owed ≡ []
at_rest c cs e z rests at = at.owed ∙ rests

-- the step that was made
pub record IsMarked (c : Flow) (a b : Machine) (mark : Mark) : Type 0 where
  pub item : Item
  pub behind : Position
  pub goes : progress c (position a) ≡ goes (Some item) behind
  pub is : IsMarkOf c b.state mark item
  pub at : position b ≡ behind

pub marked : (c : Flow) (a b : Machine) (mark : Mark) → IsLowered c → IsRunning c a → IsMove c a b (Some mark) → IsMarked c a b mark
marked c a b mark l h w =
    let i = mark_is c a b w.behind mark w.item l h.sound h.own w.goes w.marked w.is in
    record { item = i.0; behind = w.behind; goes = w.goes ∙ ap (λ o. goes o w.behind) i.1.0; is = i.1.1; at = move_at c a b (Some mark) w }

unmarked_item : (c : Flow) (place : ℕ) (o : Option Item) → ◌≡◌ {A = Option Mark} None (mark_of c place o) → (o ≡ None) ⊎ ((l : ℕ) × ((act : Act) × (o ≡ Some (made l act))))
unmarked_item c place None e = inl refl
unmarked_item c place (Some (made l act)) e = inr (l, (act, refl))
unmarked_item c place (Some (begins l env)) e = cc
unmarked_item c place (Some (done l)) e = cc
unmarked_item c place (Some (edge l)) e = cc
unmarked_item c place (Some (enter f env)) e = cc
unmarked_item c place (Some (out f)) e = cc

no_act : (c : Flow) (a b : Machine) → IsLowered c → IsRunning c a → (w : IsMove c a b None) → w.item ≡ None
no_act c a b l h w = by_item (unmarked_item c (place_here c (position a)) w.item w.marked)
  where
    by_item : (w.item ≡ None) ⊎ ((n : ℕ) × ((act : Act) × (w.item ≡ Some (made n act)))) → w.item ≡ None
    by_item (inl e) = e
    by_item (inr (n, (act, e))) = absurd (mark_place c (position a) w.behind (Some (made n act)) l h.sound h.own (w.goes ∙ ap (λ o. goes o w.behind) e)).0

-- A thread that goes on wasn't halting.
not_halting : (c : Flow) (cs : List (Option Compiled)) (flags : List ℕ) (newer : Bool) (first e : Execution) (o : Option Item) (y : Position) → progress c (position e.machine) ≡ goes o y → IsOn c cs flags newer first e → IsHalting c first → ⊥
not_halting c cs flags newer first e o y p h (by_request is g) =
    subst IsStopped p (subst (λ (d : Execution). IsStopped (progress c (position d.machine))) (sym (h.still (by_request is g))) g)
not_halting c cs flags newer first e o y p h (by_owed g) = g (ap (λ (d : Execution). queue d.walk.owed) (sym (h.still (by_owed g))) ∙ h.rests)

-- Where the next step is free, or passes no place, the thread wasn't to stop.
not_before : (c : Flow) (cs : List (Option Compiled)) (flags : List ℕ) (newer : Bool) (first e : Execution) (b : Birth) (k : ℕ) → IsFreeStep c flags newer e.machine → IsOn c cs flags newer first e
    → StopsBefore c b flags newer first k → ⊥
not_before c cs flags newer first e b k free h g = by_stop g.stops
  where
    there : PassesNext c b e k
    there = subst (λ (d : Execution). PassesNext c b d k) (sym (h.waits b k g)) g.passes

    comes : place_coming c (place_here c (position e.machine)) (progress c (position e.machine)) ≡ Some k
    comes = subst (λ s. PassesNextFrom c b s e.machine k) h.stage there

    by_stop : (has_place flags k ≡ true) ⊎ (newer ≡ true) → ⊥
    by_stop (inl flag) = let no : true ≡ false = sym flag ∙ (free k comes).0 in cc
    by_stop (inr new) = let no : true ≡ false = sym new ∙ (free k comes).1 in cc

silent_free : (c : Flow) (flags : List ℕ) (newer : Bool) (a : Machine) (y : Position) → progress c (position a) ≡ goes None y → IsFreeStep c flags newer a
silent_free c flags newer a y p k is = let no : ◌≡◌ {A = Option ℕ} None (Some k) = sym (ap (place_coming c (place_here c (position a))) p) ∙ is in absurd (let u : ⊥ = cc in u)

-- past no mark
pub on_by : (c : Flow) (cs : List (Option Compiled)) (flags : List ℕ) (newer : Bool) (first e : Execution) (n : Machine) → IsLowered c → Advances c e.machine n (t.Goes None) → IsOn c cs flags newer first e
    → IsOn c cs flags newer first (record e { machine = n })
on_by c cs flags newer first e n l adv h =
    let w : IsMove c e.machine n None = moved c e.machine n None adv in
    let silent : progress c (position e.machine) ≡ goes None w.behind = w.goes ∙ ap (λ o. goes o w.behind) (no_act c e.machine n l h.running w) in
    record {
      gone = λ b. gone_by c cs b flags first e (record e { machine = n }) w.behind (runs_next c b e h.stage ∙ silent)
          (runs_next c b (record e { machine = n }) h.stage ∙ ap (progress c) (move_at c e.machine n None w)) refl refl (λ z at. at_rest c cs e z h.rests at)
          (silent_lives c (position e.machine) w.behind silent) (h.gone b);
      running = move_runs c e.machine n None l h.running w;
      stage = h.stage;
      rests = h.rests;
      notes = h.notes;
      still = λ g. absurd (not_halting c cs flags newer first e None w.behind silent h g);
      waits = λ d k g. absurd (not_before c cs flags newer first e d k (silent_free c flags newer e.machine w.behind silent) h g);
      count = h.count;
    }

-- past a mark: the walk and the place go with it
pub record TakesMark (c : Flow) (cs : List (Option Compiled)) (n : Machine) (old new : FilterWalk) (k : ℕ) (mark : Mark) : Type 0 where
  pub passes : (z : Walk) (i : Item) → IsMarkOf c n.state mark i → StandsIn (frame_lines z.frames) i → IsAt c.program (plans_in cs) old z → IsAt c.program (plans_in cs) new (after_item c.program (plans_in cs) z i)
  pub place : (i : Item) → IsMarkOf c n.state mark i → place_at c.program k ≡ Some (place_behind i site.nowhere)
  pub room : KeepsRoom old new

abbrev pub behind_mark : Execution → Machine → FilterWalk → ℕ → Execution
behind_mark e n w k = record e { machine = n; walk = w; place = k }

passes_mark : (c : Flow) (cs : List (Option Compiled)) (b : Birth) (e : Execution) (n : Machine) (w : FilterWalk) (k : ℕ) (mark : Mark) → e.stage ≡ stage.Runs → (d : IsMarked c e.machine n mark)
    → TakesMark c cs n e.walk w k mark → PassesMark c cs b e (behind_mark e n w k) mark d.item d.behind
passes_mark c cs b e n w k mark runs d t = record {
  step = runs_next c b e runs ∙ d.goes;
  next = runs_next c b (behind_mark e n w k) runs ∙ ap (progress c) d.at;
  is = d.is;
  place = t.place d.item d.is;
  walks = λ z stands at. t.passes z d.item d.is stands at;
}

-- the place that was passed was to come
passed_came : (c : Flow) (a n : Machine) (mark : Mark) (w : IsMove c a n (Some mark)) (k : ℕ) → place_passed (Some mark) ≡ Some k → place_coming c (place_here c (position a)) (progress c (position a)) ≡ Some k
passed_came c a n mark w k e = ap (place_coming c (place_here c (position a))) w.goes ∙ (ap place_passed (sym w.marked) ∙ e)

pub gone_marked : (c : Flow) (cs : List (Option Compiled)) (flags : List ℕ) (newer : Bool) (first e : Execution) (n : Machine) (w : FilterWalk) (k : ℕ) (mark : Mark) → IsLowered c
    → Advances c e.machine n (t.Goes (Some mark)) → TakesMark c cs n e.walk w k mark → IsFreeStep c flags newer e.machine → IsOn c cs flags newer first e → (b : Birth) → GoesOn c cs b flags first (behind_mark e n w k)
gone_marked c cs flags newer first e n w k mark l adv t free h b =
    let move : IsMove c e.machine n (Some mark) = moved c e.machine n (Some mark) adv in
    let d : IsMarked c e.machine n mark = marked c e.machine n mark l h.running move in
    gone_past c cs b flags first e (behind_mark e n w k) mark d.item d.behind l (passes_mark c cs b e n w k mark h.stage d t) (λ z at. at_rest c cs e z h.rests at)
    (λ j is. (free j (passed_came c e.machine n mark move j is)).0) (h.gone b)

pub same_room : (a b d : FilterWalk) → KeepsRoom a b → KeepsRoom b d → KeepsRoom a d
same_room a b d f g = record { room = g.room ∙ f.room; events = omega (arith, f.events, g.events); regions = omega (arith, f.regions, g.regions) }

-- a mark that passes no place leaves the count
passed_none : (c : Flow) (cs : List (Option Compiled)) (y : State) (mark : Mark) (i : Item) (z : Walk) → IsMarkOf c y mark i → place_passed (Some mark) ≡ None
    → Walk.passed (after_item c.program (plans_in cs) z i) ≡ z.passed
passed_none c cs y (m.Begins k) (begins l env) z is none = refl
passed_none c cs y (m.Done n k) (done l) z is none = refl
passed_none c cs y (m.Edge k) (edge l) z is none = cc
passed_none c cs y (m.Enter n k) (enter f env) z is none = cc
passed_none c cs y (m.Out n) (out f) z is none = refl
passed_none c cs y _ _ z is none = absurd is

-- Where a newer version is to be taken no place is passed.
pub first_marked : (c : Flow) (cs : List (Option Compiled)) (flags : List ℕ) (newer : Bool) (first e : Execution) (n : Machine) (w : FilterWalk) (k : ℕ) (mark : Mark) (b : Birth) → IsLowered c
    → Advances c e.machine n (t.Goes (Some mark)) → TakesMark c cs n e.walk w k mark → IsFreeStep c flags newer e.machine → IsSomewhere c cs b e → IsOn c cs flags newer first e
    → newer ≡ true → w.passed ≡ first.walk.passed
first_marked c cs flags newer first e n w k mark b l adv t free there h is =
    let move : IsMove c e.machine n (Some mark) = moved c e.machine n (Some mark) adv in
    let d : IsMarked c e.machine n mark = marked c e.machine n mark l h.running move in
    let z : Walk = walk_of c.program (plans_in cs) there.own there.steps in
    let stands : StandsIn (frame_lines z.frames) d.item = mark_nests c (plans_in cs) there.own (next_step c b e.stage e.machine) d.item d.behind there.look there.steps l (runs_next c b e h.stage ∙ d.goes) there.there.way in
    let at : IsAt c.program (plans_in cs) w (after_item c.program (plans_in cs) z d.item) = t.passes z d.item d.is stands there.there.there.at in
    let none : place_passed (Some mark) ≡ None = by_place (place_passed (Some mark)) refl (λ j e'. (free j (passed_came c e.machine n mark move j e')).1) in
    sym at.passed ∙ (ap length (passed_none c cs n.state mark d.item z d.is none) ∙ (there.there.there.at.passed ∙ h.count is))
  where
    by_place : (o : Option ℕ) → place_passed (Some mark) ≡ o → ((j : ℕ) → place_passed (Some mark) ≡ Some j → newer ≡ false) → place_passed (Some mark) ≡ None
    by_place None same g = same
    by_place (Some j) same g = let no : true ≡ false = sym is ∙ g j same in cc

mark_not_halting : (c : Flow) (cs : List (Option Compiled)) (flags : List ℕ) (newer : Bool) (first e : Execution) (n : Machine) (mark : Mark) → Advances c e.machine n (t.Goes (Some mark)) → IsOn c cs flags newer first e
    → IsHalting c first → ⊥
mark_not_halting c cs flags newer first e n mark adv h g =
    let move : IsMove c e.machine n (Some mark) = moved c e.machine n (Some mark) adv in
    not_halting c cs flags newer first e move.item move.behind move.goes h g

-- Nothing is owed behind the mark: the run goes on.
pub on_past : (c : Flow) (cs : List (Option Compiled)) (flags : List ℕ) (newer : Bool) (first e : Execution) (n : Machine) (w : FilterWalk) (k : ℕ) (mark : Mark) (b : Birth) → IsLowered c
    → Advances c e.machine n (t.Goes (Some mark)) → TakesMark c cs n e.walk w k mark → IsFreeStep c flags newer e.machine → IsSomewhere c cs b e → queue w.owed ≡ [] → IsOn c cs flags newer first e
    → IsOn c cs flags newer first (behind_mark e n w k)
on_past c cs flags newer first e n w k mark b l adv t free there rests h = record {
  gone = gone_marked c cs flags newer first e n w k mark l adv t free h;
  running = move_runs c e.machine n (Some mark) l h.running (moved c e.machine n (Some mark) adv);
  stage = h.stage;
  rests = rests;
  notes = same_room first.walk e.walk w h.notes t.room;
  still = λ g. absurd (mark_not_halting c cs flags newer first e n mark adv h g);
  waits = λ d j g. absurd (not_before c cs flags newer first e d j free h g);
  count = first_marked c cs flags newer first e n w k mark b l adv t free there h;
}

pub may_run : (c : Flow) (b : Birth) (e : Execution) → e.stage ≡ stage.Runs → IsRunning c e.machine → MayRun c b e
may_run c b e is h = subst (λ s. MayRunFrom c b s e.machine e.walk) (sym is) h

-- Something is owed there: the run stops.
pub owes_past : (c : Flow) (cs : List (Option Compiled)) (flags : List ℕ) (newer : Bool) (first e : Execution) (n : Machine) (w : FilterWalk) (k : ℕ) (mark : Mark) (b : Birth) → IsLowered c
    → Advances c e.machine n (t.Goes (Some mark)) → TakesMark c cs n e.walk w k mark → IsFreeStep c flags newer e.machine → IsSomewhere c cs b e → (queue w.owed ≡ [] → ⊥) → IsOn c cs flags newer first e
    → (d : Birth) → Runs c cs d flags newer first (behind_mark e n w k) stop.Owes
owes_past c cs flags newer first e n w k mark b l adv t free there owes h d = record {
  gone = gone_marked c cs flags newer first e n w k mark l adv t free h d;
  may = may_run c d (behind_mark e n w k) h.stage (move_runs c e.machine n (Some mark) l h.running (moved c e.machine n (Some mark) adv));
  notes = same_room first.walk e.walk w h.notes t.room;
  stops = owes;
  still = λ g. absurd (mark_not_halting c cs flags newer first e n mark adv h g);
  waits = λ j g. absurd (not_before c cs flags newer first e d j free h g);
  first = first_marked c cs flags newer first e n w k mark b l adv t free there h;
}

-- other stops
pub stops_on : (c : Flow) (cs : List (Option Compiled)) (flags : List ℕ) (newer : Bool) (first e : Execution) (x : Stop) (b : Birth) → IsOn c cs flags newer first e → Stops c b flags newer e x
    → Runs c cs b flags newer first e x
stops_on c cs flags newer first e x b h s = record { gone = h.gone b; may = may_run c b e h.stage h.running; notes = h.notes; stops = s; still = h.still; waits = h.waits b; first = h.count }

pub asks_on : (c : Flow) (cs : List (Option Compiled)) (flags : List ℕ) (newer : Bool) (first e : Execution) (n : Machine) (q : Request) (b : Birth) → Advances c e.machine n (t.Asks q) → IsOn c cs flags newer first e
    → Runs c cs b flags newer first (record e { machine = n }) (stop.Asks q)
asks_on c cs flags newer first e n q b adv h =
    let a = asked c e.machine n q adv in
    subst (λ k. Runs c cs b flags newer first (record e { machine = k }) (stop.Asks q)) (sym a.0) (stops_on c cs flags newer first e (stop.Asks q) b h (h.rests, (h.stage, a.1)))

pub ends_on : (c : Flow) (cs : List (Option Compiled)) (flags : List ℕ) (newer : Bool) (first e : Execution) (n : Machine) (b : Birth) → Advances c e.machine n t.Ends → IsOn c cs flags newer first e
    → Runs c cs b flags newer first (record e { machine = n }) stop.Ends
ends_on c cs flags newer first e n b adv h =
    let a = ended c e.machine n adv in
    subst (λ k. Runs c cs b flags newer first (record e { machine = k }) stop.Ends) (sym a.0) (stops_on c cs flags newer first e stop.Ends b h (h.rests, (h.stage, a.1)))

pub on_here : (c : Flow) (cs : List (Option Compiled)) (flags : List ℕ) (newer : Bool) (e : Execution) → IsRunning c e.machine → e.stage ≡ stage.Runs → queue e.walk.owed ≡ [] → IsOn c cs flags newer e e
on_here c cs flags newer e running runs rests = record {
  gone = λ b. gone_nowhere c cs b flags e;
  running = running;
  stage = runs;
  rests = rests;
  notes = record { room = refl; events = omega arith; regions = omega arith };
  still = λ g. refl;
  waits = λ b k g. refl;
  count = λ is. refl;
}

-- The run comes to an end

-- how far it is to the next stop
abbrev pub way_left : Flow → Execution → ℕ
way_left c e = left c e.walk.passed (position e.machine)

pub nearer_by : (c : Flow) (cs : List (Option Compiled)) (flags : List ℕ) (newer : Bool) (first e : Execution) (n : Machine) → IsLowered c → Advances c e.machine n (t.Goes None) → IsOn c cs flags newer first e
    → way_left c (record e { machine = n }) < way_left c e
nearer_by c cs flags newer first e n l adv h =
    let w : IsMove c e.machine n None = moved c e.machine n None adv in
    let none : passes w.item ≡ false = ap passes (no_act c e.machine n l h.running w) in
    subst (λ z. left c e.walk.passed z < left c e.walk.passed (position e.machine)) (sym (move_at c e.machine n None w)) (falls c (position e.machine) w.behind w.item l h.running.sound w.goes none e.walk.passed)

-- by a mark
nearer_mark : (c : Flow) (cs : List (Option Compiled)) (y : State) (mark : Mark) (i : Item) (z : Walk) (a u : Position) (k : ℕ) → IsLowered c → IsSoundPosition c a → progress c a ≡ goes (Some i) u → IsMarkOf c y mark i
    → length z.passed ≡ k → (Walk.owed (after_item c.program (plans_in cs) z i) ≡ []) → length (Walk.passed (after_item c.program (plans_in cs) z i)) < tick_after
    → left c (length (Walk.passed (after_item c.program (plans_in cs) z i))) u < left c k a
nearer_mark c cs y (m.Begins j) (begins l env) z a u k low sound p is same rests few = subst (λ n. left c (length z.passed) u < left c n a) same (falls c a u (Some (begins l env)) low sound p refl (length z.passed))
nearer_mark c cs y (m.Done n j) (done l) z a u k low sound p is same rests few = subst (λ n. left c (length z.passed) u < left c n a) same (falls c a u (Some (done l)) low sound p refl (length z.passed))
nearer_mark c cs y (m.Edge j) (edge l) z a u k low sound p is same rests few = subst (λ n. left c (suc (length z.passed)) u < left c n a) same (falls_passing c a u (Some (edge l)) low sound p (length z.passed) few)
nearer_mark c cs y (m.Enter n j) (enter f env) z a u k low sound p is same rests few = subst (λ n. left c (suc (length z.passed)) u < left c n a) same (falls_passing c a u (Some (enter f env)) low sound p (length z.passed) few)
nearer_mark c cs y (m.Out n) (out f) z a u k low sound p is same rests few = subst (λ n. left c (length z.passed) u < left c n a) same (falls c a u (Some (out f)) low sound p refl (length z.passed))
nearer_mark c cs y _ _ z a u k low sound p is same rests few = absurd is

pub nearer_past : (c : Flow) (cs : List (Option Compiled)) (flags : List ℕ) (newer : Bool) (first e : Execution) (n : Machine) (w : FilterWalk) (k : ℕ) (mark : Mark) (b : Birth) → IsLowered c
    → Advances c e.machine n (t.Goes (Some mark)) → TakesMark c cs n e.walk w k mark → IsFreeStep c flags newer e.machine → IsSomewhere c cs b e → queue w.owed ≡ [] → IsOn c cs flags newer first e
    → way_left c (behind_mark e n w k) < way_left c e
nearer_past c cs flags newer first e n w k mark b l adv t free there rests h =
    let move : IsMove c e.machine n (Some mark) = moved c e.machine n (Some mark) adv in
    let d : IsMarked c e.machine n mark = marked c e.machine n mark l h.running move in
    let z : Walk = walk_of c.program (plans_in cs) there.own there.steps in
    let stands : StandsIn (frame_lines z.frames) d.item = mark_nests c (plans_in cs) there.own (next_step c b e.stage e.machine) d.item d.behind there.look there.steps l (runs_next c b e h.stage ∙ d.goes) there.there.way in
    let at : IsAt c.program (plans_in cs) w (after_item c.program (plans_in cs) z d.item) = t.passes z d.item d.is stands there.there.there.at in
    let none : Walk.owed (after_item c.program (plans_in cs) z d.item) ≡ [] = at.owed ∙ rests in
    let few : length (Walk.passed (after_item c.program (plans_in cs) z d.item)) < tick_after =
    mark_few c.program (plans_in cs) z d.item (is_mark c n.state mark d.item d.is) (there.there.there.few (at_rest c cs e z h.rests there.there.there.at)) none in
    subst (λ u. left c w.passed u < left c e.walk.passed (position e.machine)) (sym d.at)
    (subst (λ j. left c j d.behind < left c e.walk.passed (position e.machine)) at.passed
    (nearer_mark c cs n.state mark d.item z (position e.machine) d.behind e.walk.passed l h.running.sound d.goes d.is there.there.there.at.passed none few))

-- What the walk wants of the mark that was passed.
pub mark_passes : (c : Flow) (cs : List (Option Compiled)) (flags : List ℕ) (newer : Bool) (first e : Execution) (n : Machine) (mark : Mark) (b : Birth) → IsLowered c → Advances c e.machine n (t.Goes (Some mark))
    → IsSomewhere c cs b first → IsOn c cs flags newer first e → CanPass c cs e.walk n.state mark
mark_passes c cs flags newer first e n mark b l adv there h =
    let d : IsMarked c e.machine n mark = marked c e.machine n mark l h.running (moved c e.machine n (Some mark) adv) in
    let here : IsSomewhere c cs b e = somewhere_on c cs b flags first e (h.gone b) there in
    can_pass c cs b here.own e n.state mark d.item d.behind here.look here.steps l (runs_next c b e h.stage ∙ d.goes) d.is (at_rest c cs e (walk_of c.program (plans_in cs) here.own here.steps) h.rests here.there.there.at) here.there

-- whether something is owed, by the test

pub owes_something : (r : Bool) (os : Queue) → r ≡ false → IsTrue r ↔ (os ≡ []) → os ≡ [] → ⊥
owes_something r os is h none = let no : false ≡ true = sym is ∙ h.1 none in cc

pub owes_nothing : (r : Bool) (os : Queue) → r ≡ true → IsTrue r ↔ (os ≡ []) → os ≡ []
owes_nothing r os is h = h.0 is
