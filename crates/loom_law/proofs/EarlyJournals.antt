-- Lawful journals of runs with a command that is answered before the first entry, or refused, or comes too late.
use Rattle.std.proofs.Common.{ℕ, true, false, ◌≡◌, ◌⊎◌, zero, suc, inl, inr, pos, List, [], ◌∷◌, ◌++◌, Some, None, refl, sym, ap, subst, ◌∙◌, codes, arith}
use Rattle.loom_tree.specs.declared.expression.Op.TheVariants as o
use Rattle.loom_tree.specs.Tree.{num, var, bin, Right, Simple, let_, set, simple, if_, while_, Source}
use Rattle.loom_tree.specs.Tree as tree
use Rattle.loom_trace.specs.declared.entry.Entry.{Entry}
use Rattle.loom_trace.specs.declared.entry.Entry.TheVariants as e
use Rattle.loom_trace.specs.declared.entry.What.TheVariants as w
use Rattle.loom_trace.specs.declared.entry.Ending.TheVariants as k
use Rattle.loom_lang.specs.Places.{nowhere}
use Rattle.loom_lang.specs.Trace.{begin, end, read, write, lock, spawn, join, print, made, begins, done, enter, out, Finished, Open, IsTrace}
use Rattle.loom_command.specs.Filter.{Clause}
use Rattle.loom_command.specs.Script as script
use Rattle.loom_event.specs.TargetEvent.{TargetEvent}
use Rattle.loom_event.specs.Replay.{ThreadState, start, thread_at, replay}
use Rattle.loom_event.specs.Run.{AreRun}
use Rattle.loom_event.proofs.Runs.{next, given, threads_traced, does}
use Rattle.loom_event.proofs.Runs as runs
use Rattle.loom_event.proofs.Stops as stops
use Rattle.loom_event.proofs.Examples.{event, locks}
use Rattle.loom_law.specs.Filter.{plan_of}
use Rattle.loom_law.specs.Walk.{wait, past, post, blocked, PartStep, goes, makes, items}
use Rattle.loom_law.specs.Walk as walk
use Rattle.loom_law.specs.Control.{refused, means, install, remove, Command, command_at, Control, first_control, listed_places}
use Rattle.loom_law.specs.Lawful.{Setting, Front, front_of, HasPart, Lives, IsBlocked, IsHeldOff, IsStalled, IsTriggered, IsDue, run_is_over, is_cross, owes_cross, IsParked, MayMove, StandsAt, running_thread, IsOutside, MayInstall, front_at, IsLawful}
use Rattle.loom_law.proofs.Fronts.{Each, behind, each_one, FollowsBehind, nothing_made}
use Rattle.loom_law.proofs.Journals.{not_due, are_free, not_off, moves}
use Rattle.loom_law.proofs.EvacuationJournal.{evacuated, evacuation_setting}

-- A use waits for the initialisation.

-- 1  shared p;
-- 2  fn user() {
-- 3    print 10 / p;
-- 4  }
-- 5  fn main() {
-- 6    let u = spawn user();
-- 7    print 1;
-- 8    p = 5;
-- 9    join u;
-- 10 }
-- script: at 0 install ord use.lm:8 > use.lm:3
abbrev pub order_program : Source
order_program = record { words = (record { name = (codes "p"); cells = None; first = (pos 0) } ∷ []); mutexes = []; semas = []; funcs = (record { name = (codes "user"); line = 2; params = []; body = (simple 3 (tree.print (bin o.Div (num (pos 10)) (var (codes "p")))) tree.end) } ∷ record { name = (codes "main"); line = 5; params = []; body = (simple 6 (let_ (codes "u") (Right.spawn (codes "user") [])) (simple 7 (tree.print (num (pos 1))) (simple 8 (set (codes "p") (Right.value (num (pos 5)))) (simple 9 (tree.join (var (codes "u"))) tree.end)))) } ∷ []) }

abbrev order_commands : List Command
order_commands = (record { trigger = script.at 0; name = (codes "ord"); action = install (means (plan_of order_program ((Clause.order (record { event = record { file = (codes "use.lm"); line = 8; test = None }; count = 1 } ∷ record { event = record { file = (codes "use.lm"); line = 3; test = None }; count = 1 } ∷ [])) ∷ []))) } ∷ [])

abbrev pub order_setting : Setting
order_setting = record { program = order_program; commands = order_commands; limit = 100000; threads = 8; stop = stops.never }

abbrev pub order_journal : List Entry
order_journal =
    e.Asked 1 ∷ e.Installed 1 1 (0 ∷ 0 ∷ 0 ∷ 0 ∷ 0 ∷ 0 ∷ 0 ∷ 0 ∷ []) ∷ e.Begin 1 5 ∷ e.Spawn 1 6 2 0 [] ∷ e.Begin 2 2 ∷ e.Print 1 7 (pos 1)
    ∷ e.Blocked 2 3 (w.Wait 1 2) ∷ e.At 1 8 1 (1 ∷ []) ∷ e.Write 1 8 0 (pos 5) ∷ e.Past 1 8 1 (1 ∷ []) ∷ e.Post 1 8 1 1 ∷ e.Wait 2 3 1 2
    ∷ e.Blocked 1 9 (w.Join 2) ∷ e.At 2 3 1 (2 ∷ []) ∷ e.Read 2 3 0 (pos 5) ∷ e.Print 2 3 (pos 2) ∷ e.Past 2 3 1 (2 ∷ []) ∷ e.End 2 2 ∷ e.Join 1 9 2
    ∷ e.End 1 5 ∷ e.Finish k.Done ∷ []

abbrev order_events : List TargetEvent
order_events =
    event 1 5 begin ∷ event 1 6 (spawn 2 0 []) ∷ event 2 2 begin ∷ event 1 7 (print (pos 1)) ∷ event 1 8 (write 0 (pos 5)) ∷ event 2 3 (read 0 (pos 5))
    ∷ event 2 3 (print (pos 2)) ∷ event 2 2 end ∷ event 1 9 (join 2) ∷ event 1 5 end ∷ []

order_ended : (t : ℕ) (x : ThreadState) → thread_at (replay (start order_program 8) order_events) t ≡ Some x → x.ended ≡ true
order_ended zero x h = cc
order_ended (suc zero) x h = cc
order_ended (suc (suc zero)) x h = cc
order_ended (suc (suc (suc t))) x h = cc

order_nowhere : (t : ℕ) → StandsAt order_setting (front_at order_setting order_events (e.Asked 1 ∷ [])) t nowhere
order_nowhere zero = refl
order_nowhere (suc zero) = refl
order_nowhere (suc (suc t)) = refl

order_outside : (t : ℕ) → IsOutside order_setting (e.Asked 1 ∷ []) t (running_thread (thread_at (start order_program 8) t)) (plan_of order_program ((Clause.order (record { event = record { file = (codes "use.lm"); line = 8; test = None }; count = 1 } ∷ record { event = record { file = (codes "use.lm"); line = 3; test = None }; count = 1 } ∷ [])) ∷ [])) nowhere
order_outside zero = tt
order_outside (suc zero) = tt
order_outside (suc (suc t)) = tt

order_installs : MayInstall order_setting (front_at order_setting order_events (e.Asked 1 ∷ [])) 1 1 (0 ∷ 0 ∷ 0 ∷ 0 ∷ 0 ∷ 0 ∷ 0 ∷ 0 ∷ [])
order_installs = record {
  command = _;
  is = refl;
  plan = plan_of order_program ((Clause.order (record { event = record { file = (codes "use.lm"); line = 8; test = None }; count = 1 } ∷ record { event = record { file = (codes "use.lm"); line = 3; test = None }; count = 1 } ∷ [])) ∷ []);
  installs = refl;
  asked = refl;
  not_refused = refl;
  version = refl;
  lists = record { count = refl; place = λ t. nowhere; are = refl; stands = order_nowhere; flagged = λ t. inl refl };
  outside = order_outside;
}

abbrev order_steps_1 : List PartStep
order_steps_1 =
    goes (made 5 begin) ∷ goes (enter 1 (((codes "u"), (pos 0)) ∷ [])) ∷ goes (begins 6 (((codes "u"), (pos 0)) ∷ [])) ∷ goes (made 6 (spawn 2 0 []))
    ∷ goes (done 6) ∷ goes (begins 7 (((codes "u"), (pos 2)) ∷ [])) ∷ goes (made 7 (print (pos 1))) ∷ goes (done 7)
    ∷ goes (begins 8 (((codes "u"), (pos 2)) ∷ [])) ∷ makes 8 (walk.at 1 (1 ∷ [])) ∷ goes (made 8 (write 0 (pos 5))) ∷ goes (done 8)
    ∷ makes 8 (walk.past 1 (1 ∷ [])) ∷ makes 8 (post 1 1) ∷ goes (begins 9 (((codes "u"), (pos 2)) ∷ [])) ∷ makes 9 (blocked (w.Join 2))
    ∷ goes (made 9 (join 2)) ∷ goes (done 9) ∷ goes (out 1) ∷ goes (made 5 end) ∷ []

order_trace_1 : IsTrace order_program 1 [] (items order_steps_1) Finished
order_trace_1 = record { most_turns = 3; gives = next (next (next (inr (given 2 (next (next (next (next (next (next (next (next (next (inr (next (next (next (next ((refl, inl refl)))))))))))))))))))) }

pub order_part_1 : HasPart order_setting order_journal 1 (thread_at (replay (start order_program 8) order_events) 1)
order_part_1 = record {
  steps = order_steps_1;
  ahead = [];
  outcome = Finished;
  trace = order_trace_1;
  woven = ((refl, tt), (refl, (refl, (refl, (refl, (refl, (refl, (refl, (refl, (refl, (refl, (refl, (refl, (refl, (refl, (record { asks = refl; not_yet = refl }, (refl, (refl, (refl, (refl, tt))))))))))))))))))));
  tells = refl;
  taken = refl;
}

abbrev order_steps_2 : List PartStep
order_steps_2 =
    goes (made 2 begin) ∷ goes (enter 0 []) ∷ goes (begins 3 []) ∷ makes 3 (blocked (w.Wait 1 2)) ∷ makes 3 (wait 1 2) ∷ makes 3 (walk.at 1 (2 ∷ []))
    ∷ goes (made 3 (read 0 (pos 5))) ∷ goes (made 3 (print (pos 2))) ∷ goes (done 3) ∷ makes 3 (walk.past 1 (2 ∷ [])) ∷ goes (out 0) ∷ goes (made 2 end) ∷ []

order_trace_2 : IsTrace order_program 0 [] (items order_steps_2) Finished
order_trace_2 = record { most_turns = 3; gives = next (next (next (given (pos 5) (next (next (next (next (next ((refl, inl refl)))))))))) }

pub order_part_2 : HasPart order_setting order_journal 2 (thread_at (replay (start order_program 8) order_events) 2)
order_part_2 = record {
  steps = order_steps_2;
  ahead = [];
  outcome = Finished;
  trace = order_trace_2;
  woven = ((refl, tt), (refl, (refl, (record { asks = refl; not_yet = refl }, (refl, (refl, (refl, (refl, (refl, (refl, (refl, (refl, tt))))))))))));
  tells = refl;
  taken = refl;
}

pub order_parts : (t : ℕ) → HasPart order_setting order_journal t (thread_at (replay (start order_program 8) order_events) t)
order_parts zero = refl
order_parts (suc zero) = order_part_1
order_parts (suc (suc zero)) = order_part_2
order_parts (suc (suc (suc t))) = nothing_made 3 (suc (suc (suc t))) order_journal (omega arith) refl

order_run : AreRun order_program 8 order_events
order_run = record {
  traced = threads_traced order_program 8 order_events (record { items = items order_steps_1; outcome = Finished; trace = order_trace_1; same = refl }, (record { items = items order_steps_2; outcome = Finished; trace = order_trace_2; same = refl }, tt)) refl refl;
  allowed =
      runs.begins refl refl (does refl (refl, omega arith) (runs.begins refl refl (does refl tt (does refl tt (does refl refl (does refl tt (does refl tt (does refl (record { state = _; is = refl; ended = refl }) (does refl tt (tt))))))))));
}

order_follows : Each (FollowsBehind order_setting order_events) [] order_journal
order_follows =
    behind (record { command = _; is = refl; answered = refl; not_closing = refl; runs = refl; triggered = omega arith }, refl) (
    behind (refl, order_installs) (behind (moves {s = order_setting} refl tt, tt) (behind (moves {s = order_setting} refl tt, tt) (
    behind (moves {s = order_setting} refl tt, tt) (behind (moves {s = order_setting} refl tt, tt) (
    behind (moves {s = order_setting} refl tt, omega arith) (behind (moves {s = order_setting} refl tt, (tt, tt)) (
    behind (moves {s = order_setting} refl tt, tt) (behind (moves {s = order_setting} refl tt, tt) (behind (moves {s = order_setting} refl tt, tt) (
    behind (moves {s = order_setting} refl tt, omega arith) (behind (moves {s = order_setting} refl tt, (_, refl, refl)) (
    behind (moves {s = order_setting} refl tt, (omega arith, tt)) (behind (moves {s = order_setting} refl tt, tt) (
    behind (moves {s = order_setting} refl tt, tt) (behind (moves {s = order_setting} refl tt, tt) (behind (moves {s = order_setting} refl tt, tt) (
    behind (moves {s = order_setting} refl tt, tt) (behind (moves {s = order_setting} refl tt, tt) (
    behind (refl, (refl, (omega arith, (refl, (order_ended, not_due order_setting _ refl))))) (tt)))))))))))))))))))))

pub order_lawful : IsLawful order_setting order_journal
order_lawful = record {
  events = order_events;
  tells = refl;
  run = order_run;
  parts = order_parts;
  follows = each_one (FollowsBehind order_setting order_events) order_journal order_follows;
}

-- A region is a function that calls itself: the filter is refused, and the run goes on as without it.

-- 1  fn f(n) {
-- 2    if (n > 0) {
-- 3      f(n - 1);
-- 4    }
-- 5  }
-- 6  fn main() {
-- 7    f(2);
-- 8    print 0;
-- 9  }
-- script: at 0 install r f() <> *
abbrev pub nested_program : Source
nested_program = record {
  words = [];
  mutexes = [];
  semas = [];
  funcs = record {
    name = codes "f";
    line = 1;
    params = codes "n" ∷ [];
    body = if_ 2 (bin o.Gt (var (codes "n")) (num (pos 0))) (simple 3 (Simple.call (codes "f") (bin o.Sub (var (codes "n")) (num (pos 1)) ∷ [])) tree.end) tree.end tree.end;
  } ∷ record {
    name = codes "main";
    line = 6;
    params = [];
    body = simple 7 (Simple.call (codes "f") (num (pos 2) ∷ [])) (simple 8 (tree.print (num (pos 0))) tree.end);
  } ∷ [];
}

abbrev nested_commands : List Command
nested_commands = record { trigger = script.at 0; name = codes "r"; action = install (refused 7 1) } ∷ []

abbrev pub nested_setting : Setting
nested_setting = record { program = nested_program; commands = nested_commands; limit = 100000; threads = 8; stop = stops.never }

abbrev pub nested_journal : List Entry
nested_journal =
    e.Asked 1 ∷ e.Refused 1 7 1 ∷ e.Begin 1 6 ∷ e.Print 1 8 (pos 0) ∷ e.End 1 6 ∷ e.Finish k.Done ∷ []

abbrev nested_events : List TargetEvent
nested_events =
    event 1 6 begin ∷ event 1 8 (print (pos 0)) ∷ event 1 6 end ∷ []

nested_ended : (t : ℕ) (x : ThreadState) → thread_at (replay (start nested_program 8) nested_events) t ≡ Some x → x.ended ≡ true
nested_ended zero x h = cc
nested_ended (suc zero) x h = cc
nested_ended (suc (suc t)) x h = cc

abbrev nested_steps_1 : List PartStep
nested_steps_1 =
    goes (made 6 begin) ∷ goes (enter 1 []) ∷ goes (begins 7 []) ∷ goes (enter 0 ((codes "n", pos 2) ∷ [])) ∷ goes (begins 2 ((codes "n", pos 2) ∷ []))
    ∷ goes (begins 3 ((codes "n", pos 2) ∷ [])) ∷ goes (enter 0 ((codes "n", pos 1) ∷ [])) ∷ goes (begins 2 ((codes "n", pos 1) ∷ []))
    ∷ goes (begins 3 ((codes "n", pos 1) ∷ [])) ∷ goes (enter 0 ((codes "n", pos 0) ∷ [])) ∷ goes (begins 2 ((codes "n", pos 0) ∷ [])) ∷ goes (done 2)
    ∷ goes (out 0) ∷ goes (done 3) ∷ goes (done 2) ∷ goes (out 0) ∷ goes (done 3) ∷ goes (done 2) ∷ goes (out 0) ∷ goes (done 7) ∷ goes (begins 8 [])
    ∷ goes (made 8 (print (pos 0))) ∷ goes (done 8) ∷ goes (out 1) ∷ goes (made 6 end) ∷ []

nested_trace_1 : IsTrace nested_program 1 [] (items nested_steps_1) Finished
nested_trace_1 = record { most_turns = 0; gives = next (next (next (next (next (next (next (next (next (next (next (next (next (next (next (next (next (next (next (next (next (next (next (next (next ((refl, inl refl)))))))))))))))))))))))))) }

pub nested_part_1 : HasPart nested_setting nested_journal 1 (thread_at (replay (start nested_program 8) nested_events) 1)
nested_part_1 = record {
  steps = nested_steps_1;
  ahead = [];
  outcome = Finished;
  trace = nested_trace_1;
  woven = ((refl, tt), (refl, (refl, (refl, (refl, (refl, (refl, (refl, (refl, (refl, (refl, (refl, (refl, (refl, (refl, (refl, (refl, (refl, (refl, (refl, (refl, (refl, (refl, (refl, (refl, tt)))))))))))))))))))))))));
  tells = refl;
  taken = refl;
}

pub nested_parts : (t : ℕ) → HasPart nested_setting nested_journal t (thread_at (replay (start nested_program 8) nested_events) t)
nested_parts zero = refl
nested_parts (suc zero) = nested_part_1
nested_parts (suc (suc t)) = nothing_made 2 (suc (suc t)) nested_journal (omega arith) refl

nested_run : AreRun nested_program 8 nested_events
nested_run = record {
  traced = threads_traced nested_program 8 nested_events (record { items = items nested_steps_1; outcome = Finished; trace = nested_trace_1; same = refl }, tt) refl refl;
  allowed =
      runs.begins refl refl (does refl tt (does refl tt (tt)));
}

nested_follows : Each (FollowsBehind nested_setting nested_events) [] nested_journal
nested_follows =
    behind (record { command = _; is = refl; answered = refl; not_closing = refl; runs = refl; triggered = omega arith }, refl) (behind (refl, refl) (
    behind (moves {s = nested_setting} refl tt, tt) (behind (moves {s = nested_setting} refl tt, tt) (
    behind (moves {s = nested_setting} refl tt, tt) (behind (refl, (refl, (omega arith, (refl, (nested_ended, not_due nested_setting _ refl))))) (tt))))))

pub nested_lawful : IsLawful nested_setting nested_journal
nested_lawful = record {
  events = nested_events;
  tells = refl;
  run = nested_run;
  parts = nested_parts;
  follows = each_one (FollowsBehind nested_setting nested_events) nested_journal nested_follows;
}

-- The limit comes before the command, and between the command and its answer.

-- script: at 2 install f {call.lm:8; call.lm:9} <> *, for the program of `EvacuationJournal.antt`
abbrev pub unreached_setting : Setting
unreached_setting = record evacuation_setting { limit = 2 }

abbrev pub unreached_journal : List Entry
unreached_journal =
    e.Begin 1 5 ∷ e.Read 1 3 0 (pos 0) ∷ e.Unreached 1 ∷ e.Finish k.Limit ∷ []

abbrev unreached_events : List TargetEvent
unreached_events =
    event 1 5 begin ∷ event 1 3 (read 0 (pos 0)) ∷ []

abbrev unreached_steps_1 : List PartStep
unreached_steps_1 =
    goes (made 5 begin) ∷ goes (enter 1 ((codes "i", pos 0) ∷ [])) ∷ goes (begins 6 ((codes "i", pos 0) ∷ [])) ∷ goes (done 6)
    ∷ goes (begins 7 ((codes "i", pos 0) ∷ [])) ∷ goes (begins 8 ((codes "i", pos 0) ∷ [])) ∷ goes (enter 0 []) ∷ goes (begins 3 [])
    ∷ goes (made 3 (read 0 (pos 0))) ∷ []

unreached_trace_1 : IsTrace evacuated 1 [] (items unreached_steps_1) Open
unreached_trace_1 = record { most_turns = 1; gives = next (next (next (next (next (next (next (next (given (pos 0) (next (inl (refl, refl))))))))))) }

pub unreached_part_1 : HasPart unreached_setting unreached_journal 1 (thread_at (replay (start evacuated 8) unreached_events) 1)
unreached_part_1 = record {
  steps = unreached_steps_1;
  ahead = [];
  outcome = Open;
  trace = unreached_trace_1;
  woven = ((refl, tt), (refl, (refl, (refl, (refl, (refl, (refl, (refl, (refl, tt)))))))));
  tells = refl;
  taken = refl;
}

pub unreached_parts : (t : ℕ) → HasPart unreached_setting unreached_journal t (thread_at (replay (start evacuated 8) unreached_events) t)
unreached_parts zero = refl
unreached_parts (suc zero) = unreached_part_1
unreached_parts (suc (suc t)) = nothing_made 2 (suc (suc t)) unreached_journal (omega arith) refl

unreached_run : AreRun evacuated 8 unreached_events
unreached_run = record {
  traced = threads_traced evacuated 8 unreached_events (record { items = items unreached_steps_1; outcome = Open; trace = unreached_trace_1; same = refl }, tt) refl refl;
  allowed =
      runs.begins refl refl (does refl refl (tt));
}

unreached_follows : Each (FollowsBehind unreached_setting unreached_events) [] unreached_journal
unreached_follows =
    behind (moves {s = unreached_setting} refl tt, tt) (behind (moves {s = unreached_setting} refl tt, tt) (
    behind (refl, (refl, (omega arith, (k.Limit, (refl, refl))))) (behind (refl, (refl, (omega arith, (refl, refl)))) (tt))))

pub unreached_lawful : IsLawful unreached_setting unreached_journal
unreached_lawful = record {
  events = unreached_events;
  tells = refl;
  run = unreached_run;
  parts = unreached_parts;
  follows = each_one (FollowsBehind unreached_setting unreached_events) unreached_journal unreached_follows;
}

abbrev pub cut_setting : Setting
cut_setting = record evacuation_setting { limit = 3 }

abbrev pub cut_journal : List Entry
cut_journal =
    e.Begin 1 5 ∷ e.Read 1 3 0 (pos 0) ∷ e.Asked 1 ∷ e.Write 1 3 0 (pos 1) ∷ e.Cut 1 ∷ e.Finish k.Limit ∷ []

abbrev cut_events : List TargetEvent
cut_events =
    event 1 5 begin ∷ event 1 3 (read 0 (pos 0)) ∷ event 1 3 (write 0 (pos 1)) ∷ []

abbrev cut_steps_1 : List PartStep
cut_steps_1 =
    goes (made 5 begin) ∷ goes (enter 1 ((codes "i", pos 0) ∷ [])) ∷ goes (begins 6 ((codes "i", pos 0) ∷ [])) ∷ goes (done 6)
    ∷ goes (begins 7 ((codes "i", pos 0) ∷ [])) ∷ goes (begins 8 ((codes "i", pos 0) ∷ [])) ∷ goes (enter 0 []) ∷ goes (begins 3 [])
    ∷ goes (made 3 (read 0 (pos 0))) ∷ goes (made 3 (write 0 (pos 1))) ∷ []

cut_trace_1 : IsTrace evacuated 1 [] (items cut_steps_1) Open
cut_trace_1 = record { most_turns = 1; gives = next (next (next (next (next (next (next (next (given (pos 0) (next (next (inl (refl, refl)))))))))))) }

pub cut_part_1 : HasPart cut_setting cut_journal 1 (thread_at (replay (start evacuated 8) cut_events) 1)
cut_part_1 = record {
  steps = cut_steps_1;
  ahead = [];
  outcome = Open;
  trace = cut_trace_1;
  woven = ((refl, tt), (refl, (refl, (refl, (refl, (refl, (refl, (refl, (refl, (refl, tt))))))))));
  tells = refl;
  taken = refl;
}

pub cut_parts : (t : ℕ) → HasPart cut_setting cut_journal t (thread_at (replay (start evacuated 8) cut_events) t)
cut_parts zero = refl
cut_parts (suc zero) = cut_part_1
cut_parts (suc (suc t)) = nothing_made 2 (suc (suc t)) cut_journal (omega arith) refl

cut_run : AreRun evacuated 8 cut_events
cut_run = record {
  traced = threads_traced evacuated 8 cut_events (record { items = items cut_steps_1; outcome = Open; trace = cut_trace_1; same = refl }, tt) refl refl;
  allowed =
      runs.begins refl refl (does refl refl (does refl tt (tt)));
}

cut_follows : Each (FollowsBehind cut_setting cut_events) [] cut_journal
cut_follows =
    behind (moves {s = cut_setting} refl tt, tt) (behind (moves {s = cut_setting} refl tt, tt) (
    behind (record { command = _; is = refl; answered = refl; not_closing = refl; runs = refl; triggered = omega arith }, refl) (
    behind (moves {s = cut_setting} refl ((λ h. let no : false ≡ true = h in cc), (λ h. let no : false ≡ true = h in cc)), tt) (behind (refl, refl) (
    behind (refl, (refl, (omega arith, (refl, refl)))) (tt))))))

pub cut_lawful : IsLawful cut_setting cut_journal
cut_lawful = record {
  events = cut_events;
  tells = refl;
  run = cut_run;
  parts = cut_parts;
  follows = each_one (FollowsBehind cut_setting cut_events) cut_journal cut_follows;
}

-- A removal is asked where the run is stalled, and refused, since nothing is installed: the end is stuck.

-- 1  mutex m;
-- 2  fn main() {
-- 3    lock m;
-- 4    lock m;
-- 5  }
-- script: on stall remove a
abbrev on_stall_commands : List Command
on_stall_commands = record { trigger = script.stall; name = codes "a"; action = remove } ∷ []

abbrev pub on_stall_setting : Setting
on_stall_setting = record { program = locks; commands = on_stall_commands; limit = 100000; threads = 8; stop = stops.never }

abbrev pub before_stall : List Entry
before_stall = e.Begin 1 2 ∷ e.Lock 1 3 0 ∷ e.Blocked 1 4 (w.Lock 0) ∷ []

abbrev pub on_stall_journal : List Entry
on_stall_journal = e.Begin 1 2 ∷ e.Lock 1 3 0 ∷ e.Blocked 1 4 (w.Lock 0) ∷ e.Asked 1 ∷ e.Refused 1 12 0 ∷ e.Finish k.Stuck ∷ []

abbrev pub on_stall_events : List TargetEvent
on_stall_events = event 1 2 begin ∷ event 1 3 (lock 0) ∷ []

abbrev stalled_front : List Entry → Front
stalled_front es = front_of on_stall_setting es on_stall_events

-- its only thread is blocked
stalled_behind : (es : List Entry) → IsBlocked on_stall_setting (stalled_front es) 1 → IsStalled on_stall_setting (stalled_front es)
stalled_behind es waiting = record { live = 1; lives = record { state = _; is = refl; not_ended = refl }; stuck = waits }
  where
    waits : (t : ℕ) → Lives (replay (start locks 8) on_stall_events) t → IsBlocked on_stall_setting (stalled_front es) t ⊎ IsHeldOff on_stall_setting (stalled_front es) t
    waits zero g = let no : None ≡ Some g.state = g.is in cc
    waits (suc zero) g = inl waiting
    waits (suc (suc t)) g = let no : None ≡ Some g.state = g.is in cc

pub stall_due : IsDue on_stall_setting (front_at on_stall_setting on_stall_events before_stall)
stall_due = record {
  command = _;
  is = refl;
  answered = refl;
  not_closing = refl;
  runs = refl;
  triggered = stalled_behind before_stall ((1, refl), refl);
}

-- before that the thread goes on
not_stalled : (f : Front) → f.control.next ≡ 1 → Lives f.store 1 → (IsBlocked on_stall_setting f 1 → ⊥) → (IsHeldOff on_stall_setting f 1 → ⊥) → IsDue on_stall_setting f → ⊥
not_stalled f first lives free off due =
    let is : command_at on_stall_commands 1 ≡ Some due.command = subst (λ n. command_at on_stall_commands n ≡ Some due.command) first due.is in
    let command : record { trigger = script.stall; name = codes "a"; action = remove } ≡ due.command = cc in
    let stalled : IsStalled on_stall_setting f = subst (IsTriggered on_stall_setting f) (sym (ap (λ (c : Command). c.trigger) command)) due.triggered in
    neither (stalled.stuck 1 lives)
  where
    neither : IsBlocked on_stall_setting f 1 ⊎ IsHeldOff on_stall_setting f 1 → ⊥
    neither (inl h) = free h
    neither (inr h) = off h

goes_on : {f : Front} {x : Entry} → run_is_over on_stall_setting f ≡ false → f.control ≡ first_control → Lives f.store 1 → (IsBlocked on_stall_setting f 1 → ⊥)
    → is_cross x ≡ owes_cross x (listed_places 1 f.entries) → MayMove on_stall_setting f 1 x
goes_on {f = f} {x = x} runs first lives free crosses =
    let off : IsHeldOff on_stall_setting f 1 → ⊥ = not_off on_stall_setting f 1 (ap (λ (c : Control). are_free on_stall_setting 1 c.holders) first) in
    record {
      goes_on = record {
        runs = runs;
        not_closing = ap (λ (c : Control). c.closing) first;
        not_due = not_stalled f (ap (λ (c : Control). c.next) first) lives free off;
        not_refused = λ k is. absurd (nothing_asked k (sym (ap (λ (c : Control). c.asked) first) ∙ is));
      };
      not_held_off = off;
      crosses = crosses;
      parked = subst (IsParked on_stall_setting f 1 x) (sym (ap (λ (c : Control). c.asked) first)) tt;
    }
  where
    nothing_asked : (k : ℕ) → None ≡ Some k → ⊥
    nothing_asked k h = cc

abbrev on_stall_steps_1 : List PartStep
on_stall_steps_1 =
    goes (made 2 begin) ∷ goes (enter 0 []) ∷ goes (begins 3 []) ∷ goes (made 3 (lock 0)) ∷ goes (done 3) ∷ goes (begins 4 [])
    ∷ makes 4 (blocked (w.Lock 0)) ∷ []

on_stall_trace_1 : IsTrace locks 0 [] (items on_stall_steps_1) Open
on_stall_trace_1 = record { most_turns = 0; gives = next (next (next (next (next (next (inl (refl, refl))))))) }

pub on_stall_part_1 : HasPart on_stall_setting on_stall_journal 1 (thread_at (replay (start locks 8) on_stall_events) 1)
on_stall_part_1 = record {
  steps = on_stall_steps_1;
  ahead = made 4 (lock 0) ∷ [];
  outcome = Open;
  trace = record { most_turns = 0; gives = next (next (next (next (next (next (next (inl (refl, refl)))))))) };
  woven = ((refl, tt), (refl, (refl, (refl, (refl, (refl, (record { asks = refl; not_yet = refl }, tt)))))));
  tells = refl;
  taken = refl;
}

pub on_stall_parts : (t : ℕ) → HasPart on_stall_setting on_stall_journal t (thread_at (replay (start locks 8) on_stall_events) t)
on_stall_parts zero = refl
on_stall_parts (suc zero) = on_stall_part_1
on_stall_parts (suc (suc t)) = nothing_made 2 (suc (suc t)) on_stall_journal (omega arith) refl

on_stall_run : AreRun locks 8 on_stall_events
on_stall_run = record {
  traced = threads_traced locks 8 on_stall_events (record { items = items on_stall_steps_1; outcome = Open; trace = on_stall_trace_1; same = refl }, tt) refl refl;
  allowed = runs.begins refl refl (does refl refl tt);
}

on_stall_follows : Each (FollowsBehind on_stall_setting on_stall_events) [] on_stall_journal
on_stall_follows =
    behind (goes_on refl refl (record { state = _; is = refl; not_ended = refl }) (λ h. h) refl, tt) (
    behind (goes_on refl refl (record { state = _; is = refl; not_ended = refl }) (λ h. h) refl, tt) (
    behind (goes_on refl refl (record { state = _; is = refl; not_ended = refl }) (λ h. h) refl, (_, refl)) (
    behind (stall_due, refl) (behind (refl, refl) (
    behind (refl, (refl, (omega arith, (refl, (stalled_behind (before_stall ++ e.Asked 1 ∷ e.Refused 1 12 0 ∷ []) ((1, refl), refl), not_due on_stall_setting _ refl))))) (tt))))))

pub on_stall_lawful : IsLawful on_stall_setting on_stall_journal
on_stall_lawful = record {
  events = on_stall_events;
  tells = refl;
  run = on_stall_run;
  parts = on_stall_parts;
  follows = each_one (FollowsBehind on_stall_setting on_stall_events) on_stall_journal on_stall_follows;
}
