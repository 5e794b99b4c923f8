-- Lawful journals of runs without commands, whole.
use Rattle.std.proofs.Common.{ℕ, Bool, true, false, ◌≡◌, ◌++◌, zero, suc, inl, inr, pos, List, [], ◌∷◌, Some, None, refl, codes, arith, ◌⊎◌}
use Rattle.std.specs.List.{list_any}
use Rattle.loom_tree.specs.declared.expression.Op.TheVariants as o
use Rattle.loom_tree.specs.Tree.{num, var, bin, Right, simple, Source}
use Rattle.loom_tree.specs.Tree as tree
use Rattle.loom_trace.specs.declared.entry.Entry.{Entry}
use Rattle.loom_trace.specs.declared.entry.Entry.TheVariants as e
use Rattle.loom_trace.specs.declared.entry.What.TheVariants as w
use Rattle.loom_trace.specs.declared.entry.Ending.TheVariants as k
use Rattle.loom_lang.specs.Trace.{division, begin, end, trap, read, write, lock, spawn, join, print, made, begins, done, enter, out, Finished, Open, IsTrace}
use Rattle.loom_event.specs.TargetEvent.{TargetEvent}
use Rattle.loom_event.specs.Replay.{ThreadState, start, thread_at, replay}
use Rattle.loom_event.specs.Run.{AreRun}
use Rattle.loom_event.proofs.Runs.{next, given, threads_traced, does}
use Rattle.loom_event.proofs.Runs as runs
use Rattle.loom_event.proofs.Stops as stops
use Rattle.loom_event.proofs.Examples.{event, adds, locks}
use Rattle.loom_law.specs.Walk.{blocked, PartStep, goes, makes, items}
use Rattle.loom_law.specs.Lawful.{Setting, HasPart, Lives, IsBlocked, IsHeldOff, IsStalled, front_at, IsLawful}
use Rattle.loom_law.proofs.Fronts.{Each, behind, each_one, FollowsBehind, nothing_made}
use Rattle.loom_law.proofs.Journals.{not_due, moves}

-- An update is lost: both threads read before either writes.

abbrev pub lost_setting : Setting
lost_setting = record { program = adds; commands = []; limit = 100000; threads = 8; stop = stops.never }

abbrev pub lost_journal : List Entry
lost_journal =
    e.Begin 1 5 ∷ e.Spawn 1 6 2 0 [] ∷ e.Begin 2 2 ∷ e.Read 1 7 0 (pos 0) ∷ e.Read 2 3 0 (pos 0) ∷ e.Write 1 7 0 (pos 1) ∷ e.Write 2 3 0 (pos 1)
    ∷ e.Blocked 1 8 (w.Join 2) ∷ e.End 2 2 ∷ e.Join 1 8 2 ∷ e.Read 1 9 0 (pos 1) ∷ e.Print 1 9 (pos 1) ∷ e.End 1 5 ∷ e.Finish k.Done ∷ []

abbrev lost_events : List TargetEvent
lost_events =
    event 1 5 begin ∷ event 1 6 (spawn 2 0 []) ∷ event 2 2 begin ∷ event 1 7 (read 0 (pos 0)) ∷ event 2 3 (read 0 (pos 0)) ∷ event 1 7 (write 0 (pos 1))
    ∷ event 2 3 (write 0 (pos 1)) ∷ event 2 2 end ∷ event 1 8 (join 2) ∷ event 1 9 (read 0 (pos 1)) ∷ event 1 9 (print (pos 1)) ∷ event 1 5 end ∷ []

lost_ended : (t : ℕ) (x : ThreadState) → thread_at (replay (start adds 8) lost_events) t ≡ Some x → x.ended ≡ true
lost_ended zero x h = cc
lost_ended (suc zero) x h = cc
lost_ended (suc (suc zero)) x h = cc
lost_ended (suc (suc (suc t))) x h = cc

abbrev lost_steps_1 : List PartStep
lost_steps_1 =
    goes (made 5 begin) ∷ goes (enter 1 ((codes "a", pos 0) ∷ [])) ∷ goes (begins 6 ((codes "a", pos 0) ∷ [])) ∷ goes (made 6 (spawn 2 0 []))
    ∷ goes (done 6) ∷ goes (begins 7 ((codes "a", pos 2) ∷ [])) ∷ goes (made 7 (read 0 (pos 0))) ∷ goes (made 7 (write 0 (pos 1))) ∷ goes (done 7)
    ∷ goes (begins 8 ((codes "a", pos 2) ∷ [])) ∷ makes 8 (blocked (w.Join 2)) ∷ goes (made 8 (join 2)) ∷ goes (done 8)
    ∷ goes (begins 9 ((codes "a", pos 2) ∷ [])) ∷ goes (made 9 (read 0 (pos 1))) ∷ goes (made 9 (print (pos 1))) ∷ goes (done 9) ∷ goes (out 1)
    ∷ goes (made 5 end) ∷ []

lost_trace_1 : IsTrace adds 1 [] (items lost_steps_1) Finished
lost_trace_1 = record { most_turns = 0; gives = next (next (next (inr (given 2 (next (next (next (given (pos 0) (next (next (next (next (inr (next (next (next (given (pos 1) (next (next (next (next (next ((refl, inl refl)))))))))))))))))))))))) }

pub lost_part_1 : HasPart lost_setting lost_journal 1 (thread_at (replay (start adds 8) lost_events) 1)
lost_part_1 = record {
  steps = lost_steps_1;
  ahead = [];
  outcome = Finished;
  trace = lost_trace_1;
  woven = ((refl, tt), (refl, (refl, (refl, (refl, (refl, (refl, (refl, (refl, (refl, (record { asks = refl; not_yet = refl }, (refl, (refl, (refl, (refl, (refl, (refl, (refl, (refl, tt)))))))))))))))))));
  tells = refl;
  taken = refl;
}

abbrev lost_steps_2 : List PartStep
lost_steps_2 =
    goes (made 2 begin) ∷ goes (enter 0 []) ∷ goes (begins 3 []) ∷ goes (made 3 (read 0 (pos 0))) ∷ goes (made 3 (write 0 (pos 1))) ∷ goes (done 3)
    ∷ goes (out 0) ∷ goes (made 2 end) ∷ []

lost_trace_2 : IsTrace adds 0 [] (items lost_steps_2) Finished
lost_trace_2 = record { most_turns = 0; gives = next (next (next (given (pos 0) (next (next (next (next (next ((refl, inl refl)))))))))) }

pub lost_part_2 : HasPart lost_setting lost_journal 2 (thread_at (replay (start adds 8) lost_events) 2)
lost_part_2 = record {
  steps = lost_steps_2;
  ahead = [];
  outcome = Finished;
  trace = lost_trace_2;
  woven = ((refl, tt), (refl, (refl, (refl, (refl, (refl, (refl, (refl, tt))))))));
  tells = refl;
  taken = refl;
}

pub lost_parts : (t : ℕ) → HasPart lost_setting lost_journal t (thread_at (replay (start adds 8) lost_events) t)
lost_parts zero = refl
lost_parts (suc zero) = lost_part_1
lost_parts (suc (suc zero)) = lost_part_2
lost_parts (suc (suc (suc t))) = nothing_made 3 (suc (suc (suc t))) lost_journal (omega arith) refl

lost_run : AreRun adds 8 lost_events
lost_run = record {
  traced = threads_traced adds 8 lost_events (record { items = items lost_steps_1; outcome = Finished; trace = lost_trace_1; same = refl }, (record { items = items lost_steps_2; outcome = Finished; trace = lost_trace_2; same = refl }, tt)) refl refl;
  allowed =
      runs.begins refl refl (does refl (refl, omega arith) (runs.begins refl refl (does refl refl (does refl refl (does refl tt (does refl tt (does refl tt (does refl (record { state = _; is = refl; ended = refl }) (does refl refl (does refl tt (does refl tt (tt))))))))))));
}

lost_follows : Each (FollowsBehind lost_setting lost_events) [] lost_journal
lost_follows =
    behind (moves {s = lost_setting} refl tt, tt) (behind (moves {s = lost_setting} refl tt, tt) (behind (moves {s = lost_setting} refl tt, tt) (
    behind (moves {s = lost_setting} refl tt, tt) (behind (moves {s = lost_setting} refl tt, tt) (behind (moves {s = lost_setting} refl tt, tt) (
    behind (moves {s = lost_setting} refl tt, tt) (behind (moves {s = lost_setting} refl tt, (_, refl, refl)) (
    behind (moves {s = lost_setting} refl tt, tt) (behind (moves {s = lost_setting} refl tt, tt) (behind (moves {s = lost_setting} refl tt, tt) (
    behind (moves {s = lost_setting} refl tt, tt) (behind (moves {s = lost_setting} refl tt, tt) (
    behind (refl, (refl, (omega arith, (refl, (lost_ended, not_due lost_setting _ refl))))) (tt))))))))))))))

pub lost_lawful : IsLawful lost_setting lost_journal
lost_lawful = record {
  events = lost_events;
  tells = refl;
  run = lost_run;
  parts = lost_parts;
  follows = each_one (FollowsBehind lost_setting lost_events) lost_journal lost_follows;
}

-- A stop test is met: a 1 is printed, and nobody makes an entry behind it.

abbrev tells_one : Entry → Bool
tells_one (e.Print t l (pos (suc zero))) = true
tells_one _ = false

abbrev prints_one : List Entry → Bool
prints_one es = list_any tells_one es

abbrev pub stop_setting : Setting
stop_setting = record { program = adds; commands = []; limit = 100000; threads = 8; stop = prints_one }

abbrev pub stop_journal : List Entry
stop_journal =
    e.Begin 1 5 ∷ e.Spawn 1 6 2 0 [] ∷ e.Begin 2 2 ∷ e.Read 1 7 0 (pos 0) ∷ e.Read 2 3 0 (pos 0) ∷ e.Write 1 7 0 (pos 1) ∷ e.Write 2 3 0 (pos 1)
    ∷ e.Blocked 1 8 (w.Join 2) ∷ e.End 2 2 ∷ e.Join 1 8 2 ∷ e.Read 1 9 0 (pos 1) ∷ e.Print 1 9 (pos 1) ∷ e.Finish k.Stopped ∷ []

abbrev stop_events : List TargetEvent
stop_events =
    event 1 5 begin ∷ event 1 6 (spawn 2 0 []) ∷ event 2 2 begin ∷ event 1 7 (read 0 (pos 0)) ∷ event 2 3 (read 0 (pos 0)) ∷ event 1 7 (write 0 (pos 1))
    ∷ event 2 3 (write 0 (pos 1)) ∷ event 2 2 end ∷ event 1 8 (join 2) ∷ event 1 9 (read 0 (pos 1)) ∷ event 1 9 (print (pos 1)) ∷ []

abbrev stop_steps_1 : List PartStep
stop_steps_1 =
    goes (made 5 begin) ∷ goes (enter 1 ((codes "a", pos 0) ∷ [])) ∷ goes (begins 6 ((codes "a", pos 0) ∷ [])) ∷ goes (made 6 (spawn 2 0 []))
    ∷ goes (done 6) ∷ goes (begins 7 ((codes "a", pos 2) ∷ [])) ∷ goes (made 7 (read 0 (pos 0))) ∷ goes (made 7 (write 0 (pos 1))) ∷ goes (done 7)
    ∷ goes (begins 8 ((codes "a", pos 2) ∷ [])) ∷ makes 8 (blocked (w.Join 2)) ∷ goes (made 8 (join 2)) ∷ goes (done 8)
    ∷ goes (begins 9 ((codes "a", pos 2) ∷ [])) ∷ goes (made 9 (read 0 (pos 1))) ∷ goes (made 9 (print (pos 1))) ∷ []

stop_trace_1 : IsTrace adds 1 [] (items stop_steps_1) Open
stop_trace_1 = record { most_turns = 0; gives = next (next (next (inr (given 2 (next (next (next (given (pos 0) (next (next (next (next (inr (next (next (next (given (pos 1) (next (next (inl (refl, refl))))))))))))))))))))) }

pub stop_part_1 : HasPart stop_setting stop_journal 1 (thread_at (replay (start adds 8) stop_events) 1)
stop_part_1 = record {
  steps = stop_steps_1;
  ahead = [];
  outcome = Open;
  trace = stop_trace_1;
  woven = ((refl, tt), (refl, (refl, (refl, (refl, (refl, (refl, (refl, (refl, (refl, (record { asks = refl; not_yet = refl }, (refl, (refl, (refl, (refl, (refl, tt))))))))))))))));
  tells = refl;
  taken = refl;
}

pub stop_part_2 : HasPart stop_setting stop_journal 2 (thread_at (replay (start adds 8) stop_events) 2)
stop_part_2 = record {
  steps = lost_steps_2;
  ahead = [];
  outcome = Finished;
  trace = lost_trace_2;
  woven = ((refl, tt), (refl, (refl, (refl, (refl, (refl, (refl, (refl, tt))))))));
  tells = refl;
  taken = refl;
}

pub stop_parts : (t : ℕ) → HasPart stop_setting stop_journal t (thread_at (replay (start adds 8) stop_events) t)
stop_parts zero = refl
stop_parts (suc zero) = stop_part_1
stop_parts (suc (suc zero)) = stop_part_2
stop_parts (suc (suc (suc t))) = nothing_made 3 (suc (suc (suc t))) stop_journal (omega arith) refl

stop_run : AreRun adds 8 stop_events
stop_run = record {
  traced = threads_traced adds 8 stop_events (record { items = items stop_steps_1; outcome = Open; trace = stop_trace_1; same = refl }, (record { items = items lost_steps_2; outcome = Finished; trace = lost_trace_2; same = refl }, tt)) refl refl;
  allowed =
      runs.begins refl refl (does refl (refl, omega arith) (runs.begins refl refl (does refl refl (does refl refl (does refl tt (does refl tt (does refl tt (does refl (record { state = _; is = refl; ended = refl }) (does refl refl (does refl tt (tt)))))))))));
}

stop_follows : Each (FollowsBehind stop_setting stop_events) [] stop_journal
stop_follows =
    behind (moves {s = stop_setting} refl tt, tt) (behind (moves {s = stop_setting} refl tt, tt) (behind (moves {s = stop_setting} refl tt, tt) (behind (moves {s = stop_setting} refl tt, tt) (behind (moves {s = stop_setting} refl tt, tt) (behind (moves {s = stop_setting} refl tt, tt) (behind (moves {s = stop_setting} refl tt, tt) (behind (moves {s = stop_setting} refl tt, (_, refl, refl)) (behind (moves {s = stop_setting} refl tt, tt) (behind (moves {s = stop_setting} refl tt, tt) (behind (moves {s = stop_setting} refl tt, tt) (behind (moves {s = stop_setting} refl tt, tt) (behind (refl, (refl, (omega arith, refl))) (tt)))))))))))))

pub stop_lawful : IsLawful stop_setting stop_journal
stop_lawful = record {
  events = stop_events;
  tells = refl;
  run = stop_run;
  parts = stop_parts;
  follows = each_one (FollowsBehind stop_setting stop_events) stop_journal stop_follows;
}

-- Three thread entries and no more.

abbrev pub limit_setting : Setting
limit_setting = record { program = adds; commands = []; limit = 3; threads = 8; stop = stops.never }

abbrev pub limit_journal : List Entry
limit_journal =
    e.Begin 1 5 ∷ e.Spawn 1 6 2 0 [] ∷ e.Begin 2 2 ∷ e.Finish k.Limit ∷ []

abbrev limit_events : List TargetEvent
limit_events =
    event 1 5 begin ∷ event 1 6 (spawn 2 0 []) ∷ event 2 2 begin ∷ []

abbrev limit_steps_1 : List PartStep
limit_steps_1 =
    goes (made 5 begin) ∷ goes (enter 1 ((codes "a", pos 0) ∷ [])) ∷ goes (begins 6 ((codes "a", pos 0) ∷ [])) ∷ goes (made 6 (spawn 2 0 [])) ∷ []

limit_trace_1 : IsTrace adds 1 [] (items limit_steps_1) Open
limit_trace_1 = record { most_turns = 0; gives = next (next (next (inr (given 2 (next (inl (refl, refl))))))) }

pub limit_part_1 : HasPart limit_setting limit_journal 1 (thread_at (replay (start adds 8) limit_events) 1)
limit_part_1 = record {
  steps = limit_steps_1;
  ahead = [];
  outcome = Open;
  trace = limit_trace_1;
  woven = ((refl, tt), (refl, (refl, (refl, tt))));
  tells = refl;
  taken = refl;
}

abbrev limit_steps_2 : List PartStep
limit_steps_2 =
    goes (made 2 begin) ∷ []

limit_trace_2 : IsTrace adds 0 [] (items limit_steps_2) Open
limit_trace_2 = record { most_turns = 0; gives = next (inl (refl, refl)) }

pub limit_part_2 : HasPart limit_setting limit_journal 2 (thread_at (replay (start adds 8) limit_events) 2)
limit_part_2 = record {
  steps = limit_steps_2;
  ahead = [];
  outcome = Open;
  trace = limit_trace_2;
  woven = ((refl, tt), tt);
  tells = refl;
  taken = refl;
}

pub limit_parts : (t : ℕ) → HasPart limit_setting limit_journal t (thread_at (replay (start adds 8) limit_events) t)
limit_parts zero = refl
limit_parts (suc zero) = limit_part_1
limit_parts (suc (suc zero)) = limit_part_2
limit_parts (suc (suc (suc t))) = nothing_made 3 (suc (suc (suc t))) limit_journal (omega arith) refl

limit_run : AreRun adds 8 limit_events
limit_run = record {
  traced = threads_traced adds 8 limit_events (record { items = items limit_steps_1; outcome = Open; trace = limit_trace_1; same = refl }, (record { items = items limit_steps_2; outcome = Open; trace = limit_trace_2; same = refl }, tt)) refl refl;
  allowed =
      runs.begins refl refl (does refl (refl, omega arith) (runs.begins refl refl (tt)));
}

limit_follows : Each (FollowsBehind limit_setting limit_events) [] limit_journal
limit_follows =
    behind (moves {s = limit_setting} refl tt, tt) (behind (moves {s = limit_setting} refl tt, tt) (behind (moves {s = limit_setting} refl tt, tt) (
    behind (refl, (refl, (omega arith, (refl, refl)))) (tt))))

pub limit_lawful : IsLawful limit_setting limit_journal
limit_lawful = record {
  events = limit_events;
  tells = refl;
  run = limit_run;
  parts = limit_parts;
  follows = each_one (FollowsBehind limit_setting limit_events) limit_journal limit_follows;
}

-- A thread waits for its own mutex.

abbrev pub stuck_setting : Setting
stuck_setting = record { program = locks; commands = []; limit = 100000; threads = 8; stop = stops.never }

abbrev pub stuck_journal : List Entry
stuck_journal =
    e.Begin 1 2 ∷ e.Lock 1 3 0 ∷ e.Blocked 1 4 (w.Lock 0) ∷ e.Finish k.Stuck ∷ []

abbrev stuck_events : List TargetEvent
stuck_events =
    event 1 2 begin ∷ event 1 3 (lock 0) ∷ []

stuck_lives : (t : ℕ) → Lives (replay (start locks 8) stuck_events) t
    → IsBlocked stuck_setting (front_at stuck_setting stuck_events (e.Begin 1 2 ∷ e.Lock 1 3 0 ∷ e.Blocked 1 4 (w.Lock 0) ∷ [])) t
    ⊎ IsHeldOff stuck_setting (front_at stuck_setting stuck_events (e.Begin 1 2 ∷ e.Lock 1 3 0 ∷ e.Blocked 1 4 (w.Lock 0) ∷ [])) t
stuck_lives zero h = let no : None ≡ Some h.state = h.is in cc
stuck_lives (suc zero) h = inl ((1, refl), refl)
stuck_lives (suc (suc t)) h = let no : None ≡ Some h.state = h.is in cc

stuck_stalled : IsStalled stuck_setting (front_at stuck_setting stuck_events (e.Begin 1 2 ∷ e.Lock 1 3 0 ∷ e.Blocked 1 4 (w.Lock 0) ∷ []))
stuck_stalled = record { live = 1; lives = record { state = _; is = refl; not_ended = refl }; stuck = stuck_lives }

abbrev stuck_steps_1 : List PartStep
stuck_steps_1 =
    goes (made 2 begin) ∷ goes (enter 0 []) ∷ goes (begins 3 []) ∷ goes (made 3 (lock 0)) ∷ goes (done 3) ∷ goes (begins 4 [])
    ∷ makes 4 (blocked (w.Lock 0)) ∷ []

stuck_trace_1 : IsTrace locks 0 [] (items stuck_steps_1) Open
stuck_trace_1 = record { most_turns = 0; gives = next (next (next (next (next (next (inl (refl, refl))))))) }

stuck_ahead_1 : IsTrace locks 0 [] (items stuck_steps_1 ++ made 4 (lock 0) ∷ []) Open
stuck_ahead_1 = record { most_turns = 0; gives = next (next (next (next (next (next (next (inl (refl, refl)))))))) }

pub stuck_part_1 : HasPart stuck_setting stuck_journal 1 (thread_at (replay (start locks 8) stuck_events) 1)
stuck_part_1 = record {
  steps = stuck_steps_1;
  ahead = made 4 (lock 0) ∷ [];
  outcome = Open;
  trace = stuck_ahead_1;
  woven = ((refl, tt), (refl, (refl, (refl, (refl, (refl, (record { asks = refl; not_yet = refl }, tt)))))));
  tells = refl;
  taken = refl;
}

pub stuck_parts : (t : ℕ) → HasPart stuck_setting stuck_journal t (thread_at (replay (start locks 8) stuck_events) t)
stuck_parts zero = refl
stuck_parts (suc zero) = stuck_part_1
stuck_parts (suc (suc t)) = nothing_made 2 (suc (suc t)) stuck_journal (omega arith) refl

stuck_run : AreRun locks 8 stuck_events
stuck_run = record {
  traced = threads_traced locks 8 stuck_events (record { items = items stuck_steps_1; outcome = Open; trace = stuck_trace_1; same = refl }, tt) refl refl;
  allowed =
      runs.begins refl refl (does refl refl (tt));
}

stuck_follows : Each (FollowsBehind stuck_setting stuck_events) [] stuck_journal
stuck_follows =
    behind (moves {s = stuck_setting} refl tt, tt) (behind (moves {s = stuck_setting} refl tt, tt) (
    behind (moves {s = stuck_setting} refl tt, (_, refl)) (
    behind (refl, (refl, (omega arith, (refl, (stuck_stalled, not_due stuck_setting _ refl))))) (tt))))

pub stuck_lawful : IsLawful stuck_setting stuck_journal
stuck_lawful = record {
  events = stuck_events;
  tells = refl;
  run = stuck_run;
  parts = stuck_parts;
  follows = each_one (FollowsBehind stuck_setting stuck_events) stuck_journal stuck_follows;
}

-- A divisor of 0 ends the thread.

-- 1  shared p;
-- 2  fn main() {
-- 3    print 10 / p;
-- 4  }
abbrev pub divides : Source
divides = record {
  words = record { name = codes "p"; cells = None; first = pos 0 } ∷ [];
  mutexes = [];
  semas = [];
  funcs = record { name = codes "main"; line = 2; params = []; body = simple 3 (tree.print (bin o.Div (num (pos 10)) (var (codes "p")))) tree.end } ∷ [];
}

abbrev pub trap_setting : Setting
trap_setting = record { program = divides; commands = []; limit = 100000; threads = 8; stop = stops.never }

abbrev pub trap_journal : List Entry
trap_journal =
    e.Begin 1 2 ∷ e.Read 1 3 0 (pos 0) ∷ e.Trap 1 3 1 ∷ e.End 1 2 ∷ e.Finish k.Done ∷ []

abbrev trap_events : List TargetEvent
trap_events =
    event 1 2 begin ∷ event 1 3 (read 0 (pos 0)) ∷ event 1 3 (trap division) ∷ event 1 2 end ∷ []

trap_ended : (t : ℕ) (x : ThreadState) → thread_at (replay (start divides 8) trap_events) t ≡ Some x → x.ended ≡ true
trap_ended zero x h = cc
trap_ended (suc zero) x h = cc
trap_ended (suc (suc t)) x h = cc

abbrev trap_steps_1 : List PartStep
trap_steps_1 =
    goes (made 2 begin) ∷ goes (enter 0 []) ∷ goes (begins 3 []) ∷ goes (made 3 (read 0 (pos 0))) ∷ goes (made 3 (trap division)) ∷ goes (made 2 end) ∷ []

trap_trace_1 : IsTrace divides 0 [] (items trap_steps_1) Finished
trap_trace_1 = record { most_turns = 0; gives = next (next (next (given (pos 0) (next (next (next ((refl, inl refl)))))))) }

pub trap_part_1 : HasPart trap_setting trap_journal 1 (thread_at (replay (start divides 8) trap_events) 1)
trap_part_1 = record {
  steps = trap_steps_1;
  ahead = [];
  outcome = Finished;
  trace = trap_trace_1;
  woven = ((refl, tt), (refl, (refl, (refl, (refl, (refl, tt))))));
  tells = refl;
  taken = refl;
}

pub trap_parts : (t : ℕ) → HasPart trap_setting trap_journal t (thread_at (replay (start divides 8) trap_events) t)
trap_parts zero = refl
trap_parts (suc zero) = trap_part_1
trap_parts (suc (suc t)) = nothing_made 2 (suc (suc t)) trap_journal (omega arith) refl

trap_run : AreRun divides 8 trap_events
trap_run = record {
  traced = threads_traced divides 8 trap_events (record { items = items trap_steps_1; outcome = Finished; trace = trap_trace_1; same = refl }, tt) refl refl;
  allowed =
      runs.begins refl refl (does refl refl (does refl tt (does refl tt (tt))));
}

trap_follows : Each (FollowsBehind trap_setting trap_events) [] trap_journal
trap_follows =
    behind (moves {s = trap_setting} refl tt, tt) (behind (moves {s = trap_setting} refl tt, tt) (behind (moves {s = trap_setting} refl tt, tt) (
    behind (moves {s = trap_setting} refl tt, tt) (behind (refl, (refl, (omega arith, (refl, (trap_ended, not_due trap_setting _ refl))))) (tt)))))

pub trap_lawful : IsLawful trap_setting trap_journal
trap_lawful = record {
  events = trap_events;
  tells = refl;
  run = trap_run;
  parts = trap_parts;
  follows = each_one (FollowsBehind trap_setting trap_events) trap_journal trap_follows;
}
