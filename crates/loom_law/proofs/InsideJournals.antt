-- Lawful journals of runs with regions from which all others are kept away, whole.
use Rattle.std.proofs.Common.{ℕ, true, ◌≡◌, zero, suc, inl, inr, pos, List, [], ◌∷◌, Some, None, refl, codes, arith}
use Rattle.loom_tree.specs.declared.expression.Op.TheVariants as o
use Rattle.loom_tree.specs.Tree.{num, var, bin, Right, let_, set, return, simple, Source}
use Rattle.loom_tree.specs.Tree as tree
use Rattle.loom_trace.specs.declared.entry.Entry.{Entry}
use Rattle.loom_trace.specs.declared.entry.Entry.TheVariants as e
use Rattle.loom_trace.specs.declared.entry.Ending.TheVariants as k
use Rattle.loom_lang.specs.Places.{nowhere}
use Rattle.loom_lang.specs.Trace.{division, begin, end, trap, read, write, spawn, join, print, made, begins, done, enter, out, Finished, IsTrace}
use Rattle.loom_command.specs.Filter.{LineEvent, Region, Clause, Filter}
use Rattle.loom_command.specs.Script as script
use Rattle.loom_event.specs.TargetEvent.{TargetEvent}
use Rattle.loom_event.specs.Replay.{ThreadState, start, thread_at, replay}
use Rattle.loom_event.specs.Run.{AreRun}
use Rattle.loom_event.proofs.Runs.{next, given, threads_traced, does}
use Rattle.loom_event.proofs.Runs as runs
use Rattle.loom_event.proofs.Stops as stops
use Rattle.loom_event.proofs.Examples.{event, adds}
use Rattle.loom_law.specs.Filter.{plan_of}
use Rattle.loom_law.specs.Walk.{enters, past, leave, back, PartStep, goes, makes, items}
use Rattle.loom_law.specs.Walk as walk
use Rattle.loom_law.specs.Control.{means, install, Command}
use Rattle.loom_law.specs.Lawful.{Setting, HasPart, StandsAt, running_thread, IsOutside, MayInstall, front_at, IsLawful}
use Rattle.loom_law.proofs.Fronts.{Each, behind, each_one, FollowsBehind, nothing_made}
use Rattle.loom_law.proofs.Examples.{on_line}
use Rattle.loom_law.proofs.Journals.{not_due, moves}

-- While a thread is inside nobody else goes on; the old read still loses an update.

-- {inc.lm:3; inc.lm:3} <> *
abbrev pub alone : Filter
alone = Clause.unilateral (Region.between (on_line 3 ∷ []) (on_line 3 ∷ [])) ∷ []

abbrev alone_commands : List Command
alone_commands = record { trigger = script.at 0; name = codes "uni"; action = install (means (plan_of adds alone)) } ∷ []

abbrev pub alone_setting : Setting
alone_setting = record { program = adds; commands = alone_commands; limit = 100000; threads = 8; stop = stops.never }

abbrev pub alone_journal : List Entry
alone_journal =
    e.Asked 1 ∷ e.Installed 1 1 (0 ∷ 0 ∷ 0 ∷ 0 ∷ 0 ∷ 0 ∷ 0 ∷ 0 ∷ []) ∷ e.Begin 1 5 ∷ e.Spawn 1 6 2 0 [] ∷ e.Begin 2 2 ∷ e.Read 1 7 0 (pos 0)
    ∷ e.Enter 2 3 1 1 ∷ e.At 2 3 1 (1 ∷ 2 ∷ []) ∷ e.Read 2 3 0 (pos 0) ∷ e.Write 2 3 0 (pos 1) ∷ e.Past 2 3 1 (1 ∷ 2 ∷ []) ∷ e.Leave 2 3 1 1
    ∷ e.Write 1 7 0 (pos 1) ∷ e.End 2 2 ∷ e.Join 1 8 2 ∷ e.Read 1 9 0 (pos 1) ∷ e.Print 1 9 (pos 1) ∷ e.End 1 5 ∷ e.Finish k.Done ∷ []

abbrev alone_events : List TargetEvent
alone_events =
    event 1 5 begin ∷ event 1 6 (spawn 2 0 []) ∷ event 2 2 begin ∷ event 1 7 (read 0 (pos 0)) ∷ event 2 3 (read 0 (pos 0)) ∷ event 2 3 (write 0 (pos 1))
    ∷ event 1 7 (write 0 (pos 1)) ∷ event 2 2 end ∷ event 1 8 (join 2) ∷ event 1 9 (read 0 (pos 1)) ∷ event 1 9 (print (pos 1)) ∷ event 1 5 end ∷ []

alone_ended : (t : ℕ) (x : ThreadState) → thread_at (replay (start adds 8) alone_events) t ≡ Some x → x.ended ≡ true
alone_ended zero x h = cc
alone_ended (suc zero) x h = cc
alone_ended (suc (suc zero)) x h = cc
alone_ended (suc (suc (suc t))) x h = cc

alone_nowhere : (t : ℕ) → StandsAt alone_setting (front_at alone_setting alone_events (e.Asked 1 ∷ [])) t nowhere
alone_nowhere zero = refl
alone_nowhere (suc zero) = refl
alone_nowhere (suc (suc t)) = refl

alone_outside : (t : ℕ) → IsOutside alone_setting (e.Asked 1 ∷ []) t (running_thread (thread_at (start adds 8) t)) (plan_of adds alone) nowhere
alone_outside zero = tt
alone_outside (suc zero) = tt
alone_outside (suc (suc t)) = tt

alone_installs : MayInstall alone_setting (front_at alone_setting alone_events (e.Asked 1 ∷ [])) 1 1 (0 ∷ 0 ∷ 0 ∷ 0 ∷ 0 ∷ 0 ∷ 0 ∷ 0 ∷ [])
alone_installs = record {
  command = _;
  is = refl;
  plan = plan_of adds alone;
  installs = refl;
  asked = refl;
  not_refused = refl;
  version = refl;
  lists = record { count = refl; place = λ t. nowhere; are = refl; stands = alone_nowhere; flagged = λ t. inl refl };
  outside = alone_outside;
}

abbrev alone_steps_1 : List PartStep
alone_steps_1 =
    goes (made 5 begin) ∷ goes (enter 1 ((codes "a", pos 0) ∷ [])) ∷ goes (begins 6 ((codes "a", pos 0) ∷ [])) ∷ goes (made 6 (spawn 2 0 []))
    ∷ goes (done 6) ∷ goes (begins 7 ((codes "a", pos 2) ∷ [])) ∷ goes (made 7 (read 0 (pos 0))) ∷ goes (made 7 (write 0 (pos 1))) ∷ goes (done 7)
    ∷ goes (begins 8 ((codes "a", pos 2) ∷ [])) ∷ goes (made 8 (join 2)) ∷ goes (done 8) ∷ goes (begins 9 ((codes "a", pos 2) ∷ []))
    ∷ goes (made 9 (read 0 (pos 1))) ∷ goes (made 9 (print (pos 1))) ∷ goes (done 9) ∷ goes (out 1) ∷ goes (made 5 end) ∷ []

alone_trace_1 : IsTrace adds 1 [] (items alone_steps_1) Finished
alone_trace_1 = record { most_turns = 0; gives = next (next (next (inr (given 2 (next (next (next (given (pos 0) (next (next (next (next (inr (next (next (next (given (pos 1) (next (next (next (next (next ((refl, inl refl)))))))))))))))))))))))) }

pub alone_part_1 : HasPart alone_setting alone_journal 1 (thread_at (replay (start adds 8) alone_events) 1)
alone_part_1 = record {
  steps = alone_steps_1;
  ahead = [];
  outcome = Finished;
  trace = alone_trace_1;
  woven = ((refl, tt), (refl, (refl, (refl, (refl, (refl, (refl, (refl, (refl, (refl, (refl, (refl, (refl, (refl, (refl, (refl, (refl, (refl, tt))))))))))))))))));
  tells = refl;
  taken = refl;
}

abbrev alone_steps_2 : List PartStep
alone_steps_2 =
    goes (made 2 begin) ∷ goes (enter 0 []) ∷ goes (begins 3 []) ∷ makes 3 (enters 1 1) ∷ makes 3 (walk.at 1 (1 ∷ 2 ∷ []))
    ∷ goes (made 3 (read 0 (pos 0))) ∷ goes (made 3 (write 0 (pos 1))) ∷ goes (done 3) ∷ makes 3 (past 1 (1 ∷ 2 ∷ [])) ∷ makes 3 (leave 1 1)
    ∷ goes (out 0) ∷ goes (made 2 end) ∷ []

alone_trace_2 : IsTrace adds 0 [] (items alone_steps_2) Finished
alone_trace_2 = record { most_turns = 0; gives = next (next (next (given (pos 0) (next (next (next (next (next ((refl, inl refl)))))))))) }

pub alone_part_2 : HasPart alone_setting alone_journal 2 (thread_at (replay (start adds 8) alone_events) 2)
alone_part_2 = record {
  steps = alone_steps_2;
  ahead = [];
  outcome = Finished;
  trace = alone_trace_2;
  woven = ((refl, tt), (refl, (refl, (refl, (refl, (refl, (refl, (refl, (refl, (refl, (refl, (refl, tt))))))))))));
  tells = refl;
  taken = refl;
}

pub alone_parts : (t : ℕ) → HasPart alone_setting alone_journal t (thread_at (replay (start adds 8) alone_events) t)
alone_parts zero = refl
alone_parts (suc zero) = alone_part_1
alone_parts (suc (suc zero)) = alone_part_2
alone_parts (suc (suc (suc t))) = nothing_made 3 (suc (suc (suc t))) alone_journal (omega arith) refl

alone_run : AreRun adds 8 alone_events
alone_run = record {
  traced = threads_traced adds 8 alone_events (record { items = items alone_steps_1; outcome = Finished; trace = alone_trace_1; same = refl }, (record { items = items alone_steps_2; outcome = Finished; trace = alone_trace_2; same = refl }, tt)) refl refl;
  allowed =
      runs.begins refl refl (does refl (refl, omega arith) (runs.begins refl refl (does refl refl (does refl refl (does refl tt (does refl tt (does refl tt (does refl (record { state = _; is = refl; ended = refl }) (does refl refl (does refl tt (does refl tt (tt))))))))))));
}

alone_follows : Each (FollowsBehind alone_setting alone_events) [] alone_journal
alone_follows =
    behind (record { command = _; is = refl; answered = refl; not_closing = refl; runs = refl; triggered = omega arith }, refl) (
    behind (refl, alone_installs) (behind (moves {s = alone_setting} refl tt, tt) (behind (moves {s = alone_setting} refl tt, tt) (
    behind (moves {s = alone_setting} refl tt, tt) (behind (moves {s = alone_setting} refl tt, tt) (behind (moves {s = alone_setting} refl tt, refl) (
    behind (moves {s = alone_setting} refl tt, (tt, (tt, tt))) (behind (moves {s = alone_setting} refl tt, tt) (
    behind (moves {s = alone_setting} refl tt, tt) (behind (moves {s = alone_setting} refl tt, tt) (behind (moves {s = alone_setting} refl tt, tt) (
    behind (moves {s = alone_setting} refl tt, tt) (behind (moves {s = alone_setting} refl tt, tt) (behind (moves {s = alone_setting} refl tt, tt) (
    behind (moves {s = alone_setting} refl tt, tt) (behind (moves {s = alone_setting} refl tt, tt) (behind (moves {s = alone_setting} refl tt, tt) (
    behind (refl, (refl, (omega arith, (refl, (alone_ended, not_due alone_setting _ refl))))) (tt)))))))))))))))))))

pub alone_lawful : IsLawful alone_setting alone_journal
alone_lawful = record {
  events = alone_events;
  tells = refl;
  run = alone_run;
  parts = alone_parts;
  follows = each_one (FollowsBehind alone_setting alone_events) alone_journal alone_follows;
}

-- A return inside a region that is a function: what is left is left behind its frame.

-- 1  shared x;
-- 2  fn f() {
-- 3  x = 1;
-- 4  return x;
-- 5  }
-- 6  fn main() {
-- 7  let v = f();
-- 8  print v;
-- 9  }
-- script: at 0 install r f() <> *
abbrev pub back_program : Source
back_program = record { words = (record { name = (codes "x"); cells = None; first = (pos 0) } ∷ []); mutexes = []; semas = []; funcs = (record { name = (codes "f"); line = 2; params = []; body = (simple 3 (set (codes "x") (Right.value (num (pos 1)))) (simple 4 (tree.return (Some (var (codes "x")))) tree.end)) } ∷ record { name = (codes "main"); line = 6; params = []; body = (simple 7 (let_ (codes "v") (Right.call (codes "f") [])) (simple 8 (tree.print (var (codes "v"))) tree.end)) } ∷ []) }

abbrev back_commands : List Command
back_commands = (record { trigger = script.at 0; name = (codes "r"); action = install (means (plan_of back_program ((Clause.unilateral (Region.whole (codes "f") None)) ∷ []))) } ∷ [])

abbrev pub back_setting : Setting
back_setting = record { program = back_program; commands = back_commands; limit = 100000; threads = 8; stop = stops.never }

abbrev pub back_journal : List Entry
back_journal =
    e.Asked 1 ∷ e.Installed 1 1 (0 ∷ 0 ∷ 0 ∷ 0 ∷ 0 ∷ 0 ∷ 0 ∷ 0 ∷ []) ∷ e.Begin 1 6 ∷ e.Enter 1 2 1 1 ∷ e.At 1 2 1 (1 ∷ []) ∷ e.Write 1 3 0 (pos 1)
    ∷ e.Read 1 4 0 (pos 1) ∷ e.Back 1 2 ∷ e.Leave 1 2 1 1 ∷ e.Print 1 8 (pos 1) ∷ e.End 1 6 ∷ e.Finish k.Done ∷ []

abbrev back_events : List TargetEvent
back_events =
    event 1 6 begin ∷ event 1 3 (write 0 (pos 1)) ∷ event 1 4 (read 0 (pos 1)) ∷ event 1 8 (print (pos 1)) ∷ event 1 6 end ∷ []

back_ended : (t : ℕ) (x : ThreadState) → thread_at (replay (start back_program 8) back_events) t ≡ Some x → x.ended ≡ true
back_ended zero x h = cc
back_ended (suc zero) x h = cc
back_ended (suc (suc t)) x h = cc

back_nowhere : (t : ℕ) → StandsAt back_setting (front_at back_setting back_events (e.Asked 1 ∷ [])) t nowhere
back_nowhere zero = refl
back_nowhere (suc zero) = refl
back_nowhere (suc (suc t)) = refl

back_outside : (t : ℕ) → IsOutside back_setting (e.Asked 1 ∷ []) t (running_thread (thread_at (start back_program 8) t)) (plan_of back_program ((Clause.unilateral (Region.whole (codes "f") None)) ∷ [])) nowhere
back_outside zero = tt
back_outside (suc zero) = tt
back_outside (suc (suc t)) = tt

back_installs : MayInstall back_setting (front_at back_setting back_events (e.Asked 1 ∷ [])) 1 1 (0 ∷ 0 ∷ 0 ∷ 0 ∷ 0 ∷ 0 ∷ 0 ∷ 0 ∷ [])
back_installs = record {
  command = _;
  is = refl;
  plan = plan_of back_program ((Clause.unilateral (Region.whole (codes "f") None)) ∷ []);
  installs = refl;
  asked = refl;
  not_refused = refl;
  version = refl;
  lists = record { count = refl; place = λ t. nowhere; are = refl; stands = back_nowhere; flagged = λ t. inl refl };
  outside = back_outside;
}

abbrev back_steps_1 : List PartStep
back_steps_1 =
    goes (made 6 begin) ∷ goes (enter 1 (((codes "v"), (pos 0)) ∷ [])) ∷ goes (begins 7 (((codes "v"), (pos 0)) ∷ [])) ∷ goes (enter 0 [])
    ∷ makes 2 (enters 1 1) ∷ makes 2 (walk.at 1 (1 ∷ [])) ∷ goes (begins 3 []) ∷ goes (made 3 (write 0 (pos 1))) ∷ goes (done 3) ∷ goes (begins 4 [])
    ∷ goes (made 4 (read 0 (pos 1))) ∷ goes (done 4) ∷ goes (out 0) ∷ makes 2 (back) ∷ makes 2 (leave 1 1) ∷ goes (done 7)
    ∷ goes (begins 8 (((codes "v"), (pos 1)) ∷ [])) ∷ goes (made 8 (print (pos 1))) ∷ goes (done 8) ∷ goes (out 1) ∷ goes (made 6 end) ∷ []

back_trace_1 : IsTrace back_program 1 [] (items back_steps_1) Finished
back_trace_1 = record { most_turns = 0; gives = next (next (next (next (next (next (next (next (given (pos 1) (next (next (next (next (next (next (next (next (next ((refl, inl refl))))))))))))))))))) }

pub back_part_1 : HasPart back_setting back_journal 1 (thread_at (replay (start back_program 8) back_events) 1)
back_part_1 = record {
  steps = back_steps_1;
  ahead = [];
  outcome = Finished;
  trace = back_trace_1;
  woven = ((refl, tt), (refl, (refl, (refl, (refl, (refl, (refl, (refl, (refl, (refl, (refl, (refl, (refl, (refl, (refl, (refl, (refl, (refl, (refl, (refl, (refl, tt)))))))))))))))))))));
  tells = refl;
  taken = refl;
}

pub back_parts : (t : ℕ) → HasPart back_setting back_journal t (thread_at (replay (start back_program 8) back_events) t)
back_parts zero = refl
back_parts (suc zero) = back_part_1
back_parts (suc (suc t)) = nothing_made 2 (suc (suc t)) back_journal (omega arith) refl

back_run : AreRun back_program 8 back_events
back_run = record {
  traced = threads_traced back_program 8 back_events (record { items = items back_steps_1; outcome = Finished; trace = back_trace_1; same = refl }, tt) refl refl;
  allowed =
      runs.begins refl refl (does refl tt (does refl refl (does refl tt (does refl tt (tt)))));
}

back_follows : Each (FollowsBehind back_setting back_events) [] back_journal
back_follows =
    behind (record { command = _; is = refl; answered = refl; not_closing = refl; runs = refl; triggered = omega arith }, refl) (
    behind (refl, back_installs) (behind (moves {s = back_setting} refl tt, tt) (behind (moves {s = back_setting} refl tt, refl) (
    behind (moves {s = back_setting} refl tt, (tt, tt)) (behind (moves {s = back_setting} refl tt, tt) (
    behind (moves {s = back_setting} refl tt, tt) (behind (moves {s = back_setting} refl tt, tt) (behind (moves {s = back_setting} refl tt, tt) (
    behind (moves {s = back_setting} refl tt, tt) (behind (moves {s = back_setting} refl tt, tt) (
    behind (refl, (refl, (omega arith, (refl, (back_ended, not_due back_setting _ refl))))) (tt))))))))))))

pub back_lawful : IsLawful back_setting back_journal
back_lawful = record {
  events = back_events;
  tells = refl;
  run = back_run;
  parts = back_parts;
  follows = each_one (FollowsBehind back_setting back_events) back_journal back_follows;
}

-- A trap inside a region: what is left is left behind the trap, before the end.

-- 1  shared x;
-- 2  fn main() {
-- 3    x = 1;
-- 4    print 1 / 0;
-- 5    x = 2;
-- 6  }
-- script: at 0 install a {trap.lm:3; trap.lm:5}
abbrev caught_program : Source
caught_program = record {
  words = record { name = codes "x"; cells = None; first = pos 0 } ∷ [];
  mutexes = [];
  semas = [];
  funcs = record {
    name = codes "main";
    line = 2;
    params = [];
    body = simple 3 (set (codes "x") (Right.value (num (pos 1))))
        (simple 4 (tree.print (bin o.Div (num (pos 1)) (num (pos 0))))
        (simple 5 (set (codes "x") (Right.value (num (pos 2)))) tree.end));
  } ∷ [];
}

abbrev trap_line : ℕ → LineEvent
trap_line l = record { file = codes "trap.lm"; line = l; test = None }

abbrev caught : Filter
caught = Clause.exclusive (Region.between (trap_line 3 ∷ []) (trap_line 5 ∷ []) ∷ []) ∷ []

abbrev caught_commands : List Command
caught_commands = record { trigger = script.at 0; name = codes "a"; action = install (means (plan_of caught_program caught)) } ∷ []

abbrev pub caught_setting : Setting
caught_setting = record { program = caught_program; commands = caught_commands; limit = 100000; threads = 8; stop = stops.never }

abbrev pub caught_journal : List Entry
caught_journal =
    e.Asked 1 ∷ e.Installed 1 1 (0 ∷ 0 ∷ 0 ∷ 0 ∷ 0 ∷ 0 ∷ 0 ∷ 0 ∷ []) ∷ e.Begin 1 2 ∷ e.Enter 1 3 1 1 ∷ e.At 1 3 1 (1 ∷ []) ∷ e.Write 1 3 0 (pos 1)
    ∷ e.Past 1 3 1 (1 ∷ []) ∷ e.Trap 1 4 1 ∷ e.Leave 1 4 1 1 ∷ e.End 1 2 ∷ e.Finish k.Done ∷ []

abbrev caught_events : List TargetEvent
caught_events = event 1 2 begin ∷ event 1 3 (write 0 (pos 1)) ∷ event 1 4 (trap division) ∷ event 1 2 end ∷ []

caught_ended : (t : ℕ) (x : ThreadState) → thread_at (replay (start caught_program 8) caught_events) t ≡ Some x → x.ended ≡ true
caught_ended zero x h = cc
caught_ended (suc zero) x h = cc
caught_ended (suc (suc t)) x h = cc

caught_nowhere : (t : ℕ) → StandsAt caught_setting (front_at caught_setting caught_events (e.Asked 1 ∷ [])) t nowhere
caught_nowhere zero = refl
caught_nowhere (suc zero) = refl
caught_nowhere (suc (suc t)) = refl

caught_outside : (t : ℕ) → IsOutside caught_setting (e.Asked 1 ∷ []) t (running_thread (thread_at (start caught_program 8) t)) (plan_of caught_program caught) nowhere
caught_outside zero = tt
caught_outside (suc zero) = tt
caught_outside (suc (suc t)) = tt

caught_installs : MayInstall caught_setting (front_at caught_setting caught_events (e.Asked 1 ∷ [])) 1 1 (0 ∷ 0 ∷ 0 ∷ 0 ∷ 0 ∷ 0 ∷ 0 ∷ 0 ∷ [])
caught_installs = record {
  command = _;
  is = refl;
  plan = plan_of caught_program caught;
  installs = refl;
  asked = refl;
  not_refused = refl;
  version = refl;
  lists = record { count = refl; place = λ t. nowhere; are = refl; stands = caught_nowhere; flagged = λ t. inl refl };
  outside = caught_outside;
}

abbrev caught_steps_1 : List PartStep
caught_steps_1 =
    goes (made 2 begin) ∷ goes (enter 0 []) ∷ goes (begins 3 []) ∷ makes 3 (enters 1 1) ∷ makes 3 (walk.at 1 (1 ∷ [])) ∷ goes (made 3 (write 0 (pos 1)))
    ∷ goes (done 3) ∷ makes 3 (past 1 (1 ∷ [])) ∷ goes (begins 4 []) ∷ goes (made 4 (trap division)) ∷ makes 4 (leave 1 1) ∷ goes (made 2 end) ∷ []

caught_trace_1 : IsTrace caught_program 0 [] (items caught_steps_1) Finished
caught_trace_1 = record { most_turns = 0; gives = next (next (next (next (next (next (next (next ((refl, inl refl))))))))) }

pub caught_part_1 : HasPart caught_setting caught_journal 1 (thread_at (replay (start caught_program 8) caught_events) 1)
caught_part_1 = record {
  steps = caught_steps_1;
  ahead = [];
  outcome = Finished;
  trace = caught_trace_1;
  woven = ((refl, tt), (refl, (refl, (refl, (refl, (refl, (refl, (refl, (refl, (refl, (refl, (refl, tt))))))))))));
  tells = refl;
  taken = refl;
}

pub caught_parts : (t : ℕ) → HasPart caught_setting caught_journal t (thread_at (replay (start caught_program 8) caught_events) t)
caught_parts zero = refl
caught_parts (suc zero) = caught_part_1
caught_parts (suc (suc t)) = nothing_made 2 (suc (suc t)) caught_journal (omega arith) refl

caught_run : AreRun caught_program 8 caught_events
caught_run = record {
  traced = threads_traced caught_program 8 caught_events (record { items = items caught_steps_1; outcome = Finished; trace = caught_trace_1; same = refl }, tt) refl refl;
  allowed = runs.begins refl refl (does refl tt (does refl tt (does refl tt tt)));
}

caught_follows : Each (FollowsBehind caught_setting caught_events) [] caught_journal
caught_follows =
    behind (record { command = _; is = refl; answered = refl; not_closing = refl; runs = refl; triggered = omega arith }, refl) (behind (refl, caught_installs) (behind (moves {s = caught_setting} refl tt, tt) (behind (moves {s = caught_setting} refl tt, refl) (behind (moves {s = caught_setting} refl tt, (tt, tt)) (behind (moves {s = caught_setting} refl tt, tt) (behind (moves {s = caught_setting} refl tt, tt) (behind (moves {s = caught_setting} refl tt, tt) (behind (moves {s = caught_setting} refl tt, tt) (behind (moves {s = caught_setting} refl tt, tt) (behind (refl, (refl, (omega arith, (refl, (caught_ended, not_due caught_setting _ refl))))) (tt)))))))))))

pub caught_lawful : IsLawful caught_setting caught_journal
caught_lawful = record {
  events = caught_events;
  tells = refl;
  run = caught_run;
  parts = caught_parts;
  follows = each_one (FollowsBehind caught_setting caught_events) caught_journal caught_follows;
}
