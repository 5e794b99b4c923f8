-- A filter is removed while one thread is inside and one is blocked: the journal is lawful as a whole.

use Rattle.std.proofs.Common.{ℕ, true, false, ◌≡◌, zero, suc, inl, inr, pos, List, [], ◌∷◌, Some, None, refl, codes, arith}
use Rattle.loom_tree.specs.Tree.{num, var, Right, Simple, let_, simple, Source}
use Rattle.loom_tree.specs.Tree as tree
use Rattle.loom_trace.specs.declared.entry.Entry.{Entry}
use Rattle.loom_trace.specs.declared.entry.Entry.TheVariants as e
use Rattle.loom_trace.specs.declared.entry.What.TheVariants as w
use Rattle.loom_trace.specs.declared.entry.Ending.TheVariants as k
use Rattle.loom_lang.specs.Places.{Place, nowhere}
use Rattle.loom_lang.specs.Places as place
use Rattle.loom_lang.specs.Trace.{begin, end, down, up, spawn, join, print, made, begins, done, enter, out, Finished, IsTrace}
use Rattle.loom_command.specs.Filter.{Region, Clause}
use Rattle.loom_command.specs.Script as script
use Rattle.loom_event.specs.TargetEvent.{TargetEvent}
use Rattle.loom_event.specs.Replay.{ThreadState, start, thread_at, replay}
use Rattle.loom_event.specs.Run.{AreRun}
use Rattle.loom_event.proofs.Runs.{next, given, threads_traced, does}
use Rattle.loom_event.proofs.Runs as runs
use Rattle.loom_event.proofs.Stops as stops
use Rattle.loom_event.proofs.Examples.{event}
use Rattle.loom_law.specs.Filter.{plan_of}
use Rattle.loom_law.specs.Walk.{enters, past, leave, cross, blocked, PartStep, goes, makes, items}
use Rattle.loom_law.specs.Walk as walk
use Rattle.loom_law.specs.Control.{means, install, remove, Command}
use Rattle.loom_law.specs.Lawful.{Setting, HasPart, StandsAt, running_thread, IsOutside, MayInstall, MayRemove, front_at, IsLawful}
use Rattle.loom_law.proofs.Fronts.{Each, behind, each_one, FollowsBehind, nothing_made}
use Rattle.loom_law.proofs.Journals.{not_due, moves}

-- 1  sema s;
-- 2  fn a() {
-- 3  down s;
-- 4  }
-- 5  fn go() {
-- 6  up s;
-- 7  up s;
-- 8  }
-- 9  fn main() {
-- 10 let t = spawn a();
-- 11 let u = spawn a();
-- 12 print 1;
-- 13 go();
-- 14 join t;
-- 15 join u;
-- 16 }
-- script: at 0 install m {hold.lm:3; hold.lm:3}
-- script: at 9 remove m
abbrev pub removal_program : Source
removal_program = record { words = []; mutexes = []; semas = (record { name = (codes "s"); first = 0 } ∷ []); funcs = (record { name = (codes "a"); line = 2; params = []; body = (simple 3 (tree.down (codes "s")) tree.end) } ∷ record { name = (codes "go"); line = 5; params = []; body = (simple 6 (tree.up (codes "s")) (simple 7 (tree.up (codes "s")) tree.end)) } ∷ record { name = (codes "main"); line = 9; params = []; body = (simple 10 (let_ (codes "t") (Right.spawn (codes "a") [])) (simple 11 (let_ (codes "u") (Right.spawn (codes "a") [])) (simple 12 (tree.print (num (pos 1))) (simple 13 (Simple.call (codes "go") []) (simple 14 (tree.join (var (codes "t"))) (simple 15 (tree.join (var (codes "u"))) tree.end)))))) } ∷ []) }

abbrev removal_commands : List Command
removal_commands = (record { trigger = script.at 0; name = (codes "m"); action = install (means (plan_of removal_program ((Clause.exclusive ((Region.between (record { file = (codes "hold.lm"); line = 3; test = None } ∷ []) (record { file = (codes "hold.lm"); line = 3; test = None } ∷ [])) ∷ [])) ∷ []))) } ∷ record { trigger = script.at 9; name = (codes "m"); action = remove } ∷ [])

-- what stands before the removal
abbrev pub removal_front : List Entry
removal_front =
    e.Asked 1 ∷ e.Installed 1 1 (0 ∷ 0 ∷ 0 ∷ 0 ∷ 0 ∷ 0 ∷ 0 ∷ 0 ∷ []) ∷ e.Begin 1 9 ∷ e.Spawn 1 10 2 0 [] ∷ e.Begin 2 2 ∷ e.Spawn 1 11 3 0 []
    ∷ e.Enter 2 3 1 1 ∷ e.Begin 3 2 ∷ e.Print 1 12 (pos 1) ∷ e.At 2 3 1 (1 ∷ 2 ∷ []) ∷ e.Blocked 3 3 (w.Enter 1 1) ∷ e.Asked 2 ∷ e.Blocked 2 3 (w.Down 0) ∷ []

abbrev pub removal_setting : Setting
removal_setting = record { program = removal_program; commands = removal_commands; limit = 100000; threads = 8; stop = stops.never }

abbrev pub removal_journal : List Entry
removal_journal =
    e.Asked 1 ∷ e.Installed 1 1 (0 ∷ 0 ∷ 0 ∷ 0 ∷ 0 ∷ 0 ∷ 0 ∷ 0 ∷ []) ∷ e.Begin 1 9 ∷ e.Spawn 1 10 2 0 [] ∷ e.Begin 2 2 ∷ e.Spawn 1 11 3 0 []
    ∷ e.Enter 2 3 1 1 ∷ e.Begin 3 2 ∷ e.Print 1 12 (pos 1) ∷ e.At 2 3 1 (1 ∷ 2 ∷ []) ∷ e.Blocked 3 3 (w.Enter 1 1) ∷ e.Asked 2 ∷ e.Blocked 2 3 (w.Down 0)
    ∷ e.Removed 2 2 (4 ∷ 2 ∷ 2 ∷ 0 ∷ 0 ∷ 0 ∷ 0 ∷ 0 ∷ []) ∷ e.Cross 1 5 4 2 0 ∷ e.Cross 2 3 2 2 0 ∷ e.Cross 3 3 2 2 0 ∷ e.Up 1 6 0 ∷ e.Down 2 3 0
    ∷ e.Blocked 3 3 (w.Down 0) ∷ e.Up 1 7 0 ∷ e.End 2 2 ∷ e.Down 3 3 0 ∷ e.Join 1 14 2 ∷ e.End 3 2 ∷ e.Join 1 15 3 ∷ e.End 1 9 ∷ e.Finish k.Done ∷ []

abbrev removal_events : List TargetEvent
removal_events =
    event 1 9 begin ∷ event 1 10 (spawn 2 0 []) ∷ event 2 2 begin ∷ event 1 11 (spawn 3 0 []) ∷ event 3 2 begin ∷ event 1 12 (print (pos 1))
    ∷ event 1 6 (up 0) ∷ event 2 3 (down 0) ∷ event 1 7 (up 0) ∷ event 2 2 end ∷ event 3 3 (down 0) ∷ event 1 14 (join 2) ∷ event 3 2 end
    ∷ event 1 15 (join 3) ∷ event 1 9 end ∷ []

removal_ended : (t : ℕ) (x : ThreadState) → thread_at (replay (start removal_program 8) removal_events) t ≡ Some x → x.ended ≡ true
removal_ended zero x h = cc
removal_ended (suc zero) x h = cc
removal_ended (suc (suc zero)) x h = cc
removal_ended (suc (suc (suc zero))) x h = cc
removal_ended (suc (suc (suc (suc t)))) x h = cc

removal_nowhere : (t : ℕ) → StandsAt removal_setting (front_at removal_setting removal_events (e.Asked 1 ∷ [])) t nowhere
removal_nowhere zero = refl
removal_nowhere (suc zero) = refl
removal_nowhere (suc (suc t)) = refl

removal_outside : (t : ℕ) → IsOutside removal_setting (e.Asked 1 ∷ []) t (running_thread (thread_at (start removal_program 8) t)) (plan_of removal_program ((Clause.exclusive ((Region.between (record { file = (codes "hold.lm"); line = 3; test = None } ∷ []) (record { file = (codes "hold.lm"); line = 3; test = None } ∷ [])) ∷ [])) ∷ [])) nowhere
removal_outside zero = tt
removal_outside (suc zero) = tt
removal_outside (suc (suc t)) = tt

removal_installs : MayInstall removal_setting (front_at removal_setting removal_events (e.Asked 1 ∷ [])) 1 1 (0 ∷ 0 ∷ 0 ∷ 0 ∷ 0 ∷ 0 ∷ 0 ∷ 0 ∷ [])
removal_installs = record {
  command = _;
  is = refl;
  plan = plan_of removal_program ((Clause.exclusive ((Region.between (record { file = (codes "hold.lm"); line = 3; test = None } ∷ []) (record { file = (codes "hold.lm"); line = 3; test = None } ∷ [])) ∷ [])) ∷ []);
  installs = refl;
  asked = refl;
  not_refused = refl;
  version = refl;
  lists = record { count = refl; place = λ t. nowhere; are = refl; stands = removal_nowhere; flagged = λ t. inl refl };
  outside = removal_outside;
}

abbrev removal_before_1 : List PartStep
removal_before_1 =
    goes (made 9 begin) ∷ goes (enter 2 (((codes "t"), (pos 0)) ∷ ((codes "u"), (pos 0)) ∷ []))
    ∷ goes (begins 10 (((codes "t"), (pos 0)) ∷ ((codes "u"), (pos 0)) ∷ [])) ∷ goes (made 10 (spawn 2 0 [])) ∷ goes (done 10)
    ∷ goes (begins 11 (((codes "t"), (pos 2)) ∷ ((codes "u"), (pos 0)) ∷ [])) ∷ goes (made 11 (spawn 3 0 [])) ∷ goes (done 11)
    ∷ goes (begins 12 (((codes "t"), (pos 2)) ∷ ((codes "u"), (pos 3)) ∷ [])) ∷ goes (made 12 (print (pos 1))) ∷ goes (done 12)
    ∷ goes (begins 13 (((codes "t"), (pos 2)) ∷ ((codes "u"), (pos 3)) ∷ [])) ∷ []

removal_at_1 : StandsAt removal_setting (front_at removal_setting removal_events removal_front) 1 (place.entry 1)
removal_at_1 = record {
  point = record {
    steps = removal_before_1;
    next = enter 1 [];
    trace = record { most_turns = 0; gives = next (next (next (inr (given 2 (next (next (next (inr (given 3 (next (next (next (next (next (next (next (inl (refl, refl)))))))))))))))))) };
    woven = ((refl, tt), (refl, (refl, (refl, (refl, (refl, (refl, (refl, (refl, (refl, (refl, (refl, tt))))))))))));
    tells = refl;
    taken = refl;
  };
  place = refl;
}

abbrev removal_before_2 : List PartStep
removal_before_2 =
    goes (made 2 begin) ∷ goes (enter 0 []) ∷ goes (begins 3 []) ∷ makes 3 (enters 1 1) ∷ makes 3 (walk.at 1 (1 ∷ 2 ∷ [])) ∷ makes 3 (blocked (w.Down 0)) ∷ []

removal_at_2 : StandsAt removal_setting (front_at removal_setting removal_events removal_front) 2 (place.inside 3)
removal_at_2 = record {
  point = record {
    steps = removal_before_2;
    next = made 3 (down 0);
    trace = record { most_turns = 0; gives = next (next (next (next (inl (refl, refl))))) };
    woven = ((refl, tt), (refl, (refl, (refl, (refl, (record { asks = refl; not_yet = refl }, tt))))));
    tells = refl;
    taken = refl;
  };
  place = refl;
}

abbrev removal_before_3 : List PartStep
removal_before_3 =
    goes (made 2 begin) ∷ goes (enter 0 []) ∷ goes (begins 3 []) ∷ makes 3 (blocked (w.Enter 1 1)) ∷ []

removal_at_3 : StandsAt removal_setting (front_at removal_setting removal_events removal_front) 3 (place.inside 3)
removal_at_3 = record {
  point = record {
    steps = removal_before_3;
    next = made 3 (down 0);
    trace = record { most_turns = 0; gives = next (next (next (next (inl (refl, refl))))) };
    woven = ((refl, tt), (refl, (refl, (record { asks = refl; not_yet = refl }, tt))));
    tells = refl;
    taken = refl;
  };
  place = refl;
}

abbrev removal_place : ℕ → Place
removal_place zero = nowhere
removal_place (suc zero) = place.entry 1
removal_place (suc (suc zero)) = place.inside 3
removal_place (suc (suc (suc zero))) = place.inside 3
removal_place (suc (suc (suc (suc t)))) = nowhere

removal_stood : (t : ℕ) → StandsAt removal_setting (front_at removal_setting removal_events removal_front) t (removal_place t)
removal_stood zero = refl
removal_stood (suc zero) = removal_at_1
removal_stood (suc (suc zero)) = removal_at_2
removal_stood (suc (suc (suc zero))) = removal_at_3
removal_stood (suc (suc (suc (suc t)))) = refl

removal_removes : MayRemove removal_setting (front_at removal_setting removal_events removal_front) 2 2 (4 ∷ 2 ∷ 2 ∷ 0 ∷ 0 ∷ 0 ∷ 0 ∷ 0 ∷ [])
removal_removes = record {
  command = _;
  is = refl;
  removes = refl;
  asked = refl;
  not_refused = refl;
  version = refl;
  lists = record { count = refl; place = removal_place; are = refl; stands = removal_stood; flagged = λ t. tt };
}

abbrev removal_steps_1 : List PartStep
removal_steps_1 =
    goes (made 9 begin) ∷ goes (enter 2 (((codes "t"), (pos 0)) ∷ ((codes "u"), (pos 0)) ∷ []))
    ∷ goes (begins 10 (((codes "t"), (pos 0)) ∷ ((codes "u"), (pos 0)) ∷ [])) ∷ goes (made 10 (spawn 2 0 [])) ∷ goes (done 10)
    ∷ goes (begins 11 (((codes "t"), (pos 2)) ∷ ((codes "u"), (pos 0)) ∷ [])) ∷ goes (made 11 (spawn 3 0 [])) ∷ goes (done 11)
    ∷ goes (begins 12 (((codes "t"), (pos 2)) ∷ ((codes "u"), (pos 3)) ∷ [])) ∷ goes (made 12 (print (pos 1))) ∷ goes (done 12)
    ∷ goes (begins 13 (((codes "t"), (pos 2)) ∷ ((codes "u"), (pos 3)) ∷ [])) ∷ makes 5 (cross 4 2 0) ∷ goes (enter 1 []) ∷ goes (begins 6 [])
    ∷ goes (made 6 (up 0)) ∷ goes (done 6) ∷ goes (begins 7 []) ∷ goes (made 7 (up 0)) ∷ goes (done 7) ∷ goes (out 1) ∷ goes (done 13)
    ∷ goes (begins 14 (((codes "t"), (pos 2)) ∷ ((codes "u"), (pos 3)) ∷ [])) ∷ goes (made 14 (join 2)) ∷ goes (done 14)
    ∷ goes (begins 15 (((codes "t"), (pos 2)) ∷ ((codes "u"), (pos 3)) ∷ [])) ∷ goes (made 15 (join 3)) ∷ goes (done 15) ∷ goes (out 2)
    ∷ goes (made 9 end) ∷ []

removal_trace_1 : IsTrace removal_program 2 [] (items removal_steps_1) Finished
removal_trace_1 = record { most_turns = 0; gives = next (next (next (inr (given 2 (next (next (next (inr (given 3 (next (next (next (next (next (next (next (next (inr (next (next (next (inr (next (next (next (next (next (inr (next (next (next (inr (next (next (next (next ((refl, inl refl)))))))))))))))))))))))))))))))))))))) }

pub removal_part_1 : HasPart removal_setting removal_journal 1 (thread_at (replay (start removal_program 8) removal_events) 1)
removal_part_1 = record {
  steps = removal_steps_1;
  ahead = [];
  outcome = Finished;
  trace = removal_trace_1;
  woven = ((refl, tt), (refl, (refl, (refl, (refl, (refl, (refl, (refl, (refl, (refl, (refl, (refl, (record { place = _; next = refl; number = refl; line = refl; version = refl; passed = refl }, (refl, (refl, (refl, (refl, (refl, (refl, (refl, (refl, (refl, (refl, (refl, (refl, (refl, (refl, (refl, (refl, (refl, tt))))))))))))))))))))))))))))));
  tells = refl;
  taken = refl;
}

abbrev removal_steps_2 : List PartStep
removal_steps_2 =
    goes (made 2 begin) ∷ goes (enter 0 []) ∷ goes (begins 3 []) ∷ makes 3 (enters 1 1) ∷ makes 3 (walk.at 1 (1 ∷ 2 ∷ [])) ∷ makes 3 (blocked (w.Down 0))
    ∷ makes 3 (cross 2 2 0) ∷ goes (made 3 (down 0)) ∷ goes (done 3) ∷ goes (out 0) ∷ goes (made 2 end) ∷ []

removal_trace_2 : IsTrace removal_program 0 [] (items removal_steps_2) Finished
removal_trace_2 = record { most_turns = 0; gives = next (next (next (next (next (next (next ((refl, inl refl)))))))) }

pub removal_part_2 : HasPart removal_setting removal_journal 2 (thread_at (replay (start removal_program 8) removal_events) 2)
removal_part_2 = record {
  steps = removal_steps_2;
  ahead = [];
  outcome = Finished;
  trace = removal_trace_2;
  woven = ((refl, tt), (refl, (refl, (refl, (refl, (record { asks = refl; not_yet = refl }, (record { place = _; next = refl; number = refl; line = refl; version = refl; passed = refl }, (refl, (refl, (refl, (refl, tt)))))))))));
  tells = refl;
  taken = refl;
}

abbrev removal_steps_3 : List PartStep
removal_steps_3 =
    goes (made 2 begin) ∷ goes (enter 0 []) ∷ goes (begins 3 []) ∷ makes 3 (blocked (w.Enter 1 1)) ∷ makes 3 (cross 2 2 0) ∷ makes 3 (blocked (w.Down 0))
    ∷ goes (made 3 (down 0)) ∷ goes (done 3) ∷ goes (out 0) ∷ goes (made 2 end) ∷ []

removal_trace_3 : IsTrace removal_program 0 [] (items removal_steps_3) Finished
removal_trace_3 = record { most_turns = 0; gives = next (next (next (next (next (next (next ((refl, inl refl)))))))) }

pub removal_part_3 : HasPart removal_setting removal_journal 3 (thread_at (replay (start removal_program 8) removal_events) 3)
removal_part_3 = record {
  steps = removal_steps_3;
  ahead = [];
  outcome = Finished;
  trace = removal_trace_3;
  woven = ((refl, tt), (refl, (refl, (record { asks = refl; not_yet = refl }, (record { place = _; next = refl; number = refl; line = refl; version = refl; passed = refl }, (record { asks = refl; not_yet = refl }, (refl, (refl, (refl, (refl, tt))))))))));
  tells = refl;
  taken = refl;
}

pub removal_parts : (t : ℕ) → HasPart removal_setting removal_journal t (thread_at (replay (start removal_program 8) removal_events) t)
removal_parts zero = refl
removal_parts (suc zero) = removal_part_1
removal_parts (suc (suc zero)) = removal_part_2
removal_parts (suc (suc (suc zero))) = removal_part_3
removal_parts (suc (suc (suc (suc t)))) = nothing_made 4 (suc (suc (suc (suc t)))) removal_journal (omega arith) refl

removal_run : AreRun removal_program 8 removal_events
removal_run = record {
  traced = threads_traced removal_program 8 removal_events (record { items = items removal_steps_1; outcome = Finished; trace = removal_trace_1; same = refl }, (record { items = items removal_steps_2; outcome = Finished; trace = removal_trace_2; same = refl }, (record { items = items removal_steps_3; outcome = Finished; trace = removal_trace_3; same = refl }, tt))) refl refl;
  allowed =
      runs.begins refl refl (does refl (refl, omega arith) (runs.begins refl refl (does refl (refl, omega arith) (runs.begins refl refl (does refl tt (does refl (_, refl, omega arith) (does refl (0, refl) (does refl (_, refl, omega arith) (does refl tt (does refl (0, refl) (does refl (record { state = _; is = refl; ended = refl }) (does refl tt (does refl (record { state = _; is = refl; ended = refl }) (does refl tt (tt)))))))))))))));
}

removal_follows : Each (FollowsBehind removal_setting removal_events) [] removal_journal
removal_follows =
    behind (record { command = _; is = refl; answered = refl; not_closing = refl; runs = refl; triggered = omega arith }, refl) (
    behind (refl, removal_installs) (behind (moves {s = removal_setting} refl tt, tt) (behind (moves {s = removal_setting} refl tt, tt) (
    behind (moves {s = removal_setting} refl tt, tt) (behind (moves {s = removal_setting} refl tt, tt) (
    behind (moves {s = removal_setting} refl tt, refl) (behind (moves {s = removal_setting} refl tt, tt) (
    behind (moves {s = removal_setting} refl tt, tt) (behind (moves {s = removal_setting} refl tt, (tt, (tt, tt))) (
    behind (moves {s = removal_setting} refl tt, record { by = 2; other = refl; holds = refl }) (
    behind (record { command = _; is = refl; answered = refl; not_closing = refl; runs = refl; triggered = omega arith }, refl) (
    behind (moves {s = removal_setting} refl ((λ h. let no : false ≡ true = h in cc), (λ h. let no : false ≡ true = h in cc)), refl) (
    behind (refl, removal_removes) (behind (moves {s = removal_setting} refl tt, (refl, tt)) (
    behind (moves {s = removal_setting} refl tt, (refl, tt)) (behind (moves {s = removal_setting} refl tt, (refl, tt)) (
    behind (moves {s = removal_setting} refl tt, tt) (behind (moves {s = removal_setting} refl tt, tt) (
    behind (moves {s = removal_setting} refl tt, refl) (behind (moves {s = removal_setting} refl tt, tt) (
    behind (moves {s = removal_setting} refl tt, tt) (behind (moves {s = removal_setting} refl tt, tt) (
    behind (moves {s = removal_setting} refl tt, tt) (behind (moves {s = removal_setting} refl tt, tt) (
    behind (moves {s = removal_setting} refl tt, tt) (behind (moves {s = removal_setting} refl tt, tt) (
    behind (refl, (refl, (omega arith, (refl, (removal_ended, not_due removal_setting _ refl))))) (tt))))))))))))))))))))))))))))

pub removal_lawful : IsLawful removal_setting removal_journal
removal_lawful = record {
  events = removal_events;
  tells = refl;
  run = removal_run;
  parts = removal_parts;
  follows = each_one (FollowsBehind removal_setting removal_events) removal_journal removal_follows;
}
