-- A worked program with a filter: its journal, the full parts of its threads, and lists that are no part.
use Rattle.std.proofs.Common.{ℕ, Bool, true, false, ◌&&◌, ◌||◌, ◌==◌, ◌≡◌, zero, suc, inl, inr, pos, List, [], ◌∷◌, map, Some, None, refl, sym, ap, subst, codes, arith}
use Rattle.loom_trace.specs.declared.entry.Entry.{Entry}
use Rattle.loom_trace.specs.declared.entry.Entry.TheVariants as e
use Rattle.loom_trace.specs.declared.entry.What.TheVariants as w
use Rattle.loom_trace.specs.declared.entry.Ending.TheVariants as k
use Rattle.loom_lang.specs.Trace.{Locals, begin, end, read, write, spawn, join, print, made, begins, done, enter, out, Finished, IsTrace}
use Rattle.loom_event.proofs.Examples.{adds}
use Rattle.loom_event.proofs.Runs.{next, given}
use Rattle.loom_command.specs.Filter.{Region, Clause, Filter}
use Rattle.loom_law.specs.Filter.{plan_of}
use Rattle.loom_command.specs.Filter as filters
use Rattle.loom_law.specs.Walk.{Version, Operation, enters, past, leave, blocked, PartStep, goes, makes, items, filter_entries}
use Rattle.loom_law.specs.Walk as walk
use Rattle.loom_command.specs.Script as script
use Rattle.loom_law.specs.Control.{means, install, Command}
use Rattle.loom_law.specs.ThreadPart.{Own, IsPart}
use Rattle.loom_lang.specs.Places.{nowhere}
use Rattle.loom_event.specs.TargetEvent.{TargetEvent}
use Rattle.loom_event.specs.Replay.{start, thread_at, replay}
use Rattle.loom_event.specs.Run.{AreRun}
use Rattle.loom_event.proofs.Examples.{event}
use Rattle.loom_law.specs.Filter.{is_alone}
use Rattle.loom_law.specs.Control.{Control, command_at, listed_places}
use Rattle.loom_law.specs.Lawful.{Setting, Front, plans, run_is_over, owes_cross, is_cross, IsDue, IsParked, MayMove, MayInstall, HasPart, StandsAt, running_thread, front_at, IsOutside, HasCompletions, HasPosts, IsLawful}
use Rattle.loom_event.proofs.Runs.{threads_traced, does, events_told, event_of}
use Rattle.loom_event.proofs.Runs as runs
use Rattle.loom_event.proofs.Stops as stops
use Rattle.loom_event.specs.Run.{IsTraced}
use Rattle.loom_event.proofs.Examples.{deed}
use Rattle.loom_law.specs.Filter.{clauses}
use Rattle.loom_law.specs.Walk.{unborn, holds, walk_from}
use Rattle.loom_tree.specs.Tree.{Source}
use Rattle.loom_trace.specs.declared.entry.What.{What}
use Rattle.loom_lang.specs.Trace.{Item}
use Rattle.loom_law.specs.Walk.{Walk, after_operation, MayStand}
use Rattle.loom_law.proofs.Holdings.{Covers}
use Rattle.loom_law.proofs.Inside.{none_cross, steps_cross, covered, good_start}
use Rattle.loom_law.proofs.Fronts.{Each, behind, each_one, FollowsBehind, nothing_made}
use Rattle.loom_event.specs.Replay.{ThreadState}

-- both updates are kept: {inc.lm:3; inc.lm:3} <> {inc.lm:7; inc.lm:7}
abbrev pub on_line : ℕ → filters.LineEvent
on_line l = record { file = codes "inc.lm"; line = l; test = None }

abbrev pub fix : Filter
fix = Clause.exclusive (Region.between (on_line 3 ∷ []) (on_line 3 ∷ []) ∷ Region.between (on_line 7 ∷ []) (on_line 7 ∷ []) ∷ []) ∷ []

abbrev pub commands : List Command
commands = record { trigger = script.at 0; name = codes "fix"; action = install (means (plan_of adds fix)) } ∷ []

abbrev pub setting : Setting
setting = record { program = adds; commands = commands; limit = 100000; threads = 8; stop = stops.never }

abbrev pub journal : List Entry
journal =
    e.Asked 1 ∷ e.Installed 1 1 (0 ∷ 0 ∷ 0 ∷ 0 ∷ 0 ∷ 0 ∷ 0 ∷ 0 ∷ []) ∷ e.Begin 1 5 ∷ e.Spawn 1 6 2 0 [] ∷ e.Begin 2 2 ∷ e.Enter 1 7 1 1
    ∷ e.Blocked 2 3 (w.Enter 1 1) ∷ e.At 1 7 1 (3 ∷ 4 ∷ []) ∷ e.Read 1 7 0 (pos 0) ∷ e.Write 1 7 0 (pos 1) ∷ e.Past 1 7 1 (3 ∷ 4 ∷ [])
    ∷ e.Leave 1 7 1 1 ∷ e.Enter 2 3 1 1 ∷ e.Blocked 1 8 (w.Join 2) ∷ e.At 2 3 1 (1 ∷ 2 ∷ []) ∷ e.Read 2 3 0 (pos 1) ∷ e.Write 2 3 0 (pos 2)
    ∷ e.Past 2 3 1 (1 ∷ 2 ∷ []) ∷ e.Leave 2 3 1 1 ∷ e.End 2 2 ∷ e.Join 1 8 2 ∷ e.Read 1 9 0 (pos 2) ∷ e.Print 1 9 (pos 2) ∷ e.End 1 5
    ∷ e.Finish k.Done ∷ []

-- The full parts

abbrev pub version : Version
version = record { number = 1; active = 1 ∷ [] }

abbrev pub add_own : Own
add_own = record {
  thread = 2;
  func = 0;
  args = [];
  versions = version ∷ [];
  entries = e.Begin 2 2 ∷ e.Blocked 2 3 (w.Enter 1 1) ∷ e.Enter 2 3 1 1 ∷ e.At 2 3 1 (1 ∷ 2 ∷ []) ∷ e.Read 2 3 0 (pos 1) ∷ e.Write 2 3 0 (pos 2)
      ∷ e.Past 2 3 1 (1 ∷ 2 ∷ []) ∷ e.Leave 2 3 1 1 ∷ e.End 2 2 ∷ [];
}

abbrev pub add_steps : List PartStep
add_steps =
    goes (made 2 begin) ∷ goes (enter 0 []) ∷ goes (begins 3 []) ∷ makes 3 (blocked (w.Enter 1 1)) ∷ makes 3 (enters 1 1)
    ∷ makes 3 (walk.at 1 (1 ∷ 2 ∷ [])) ∷ goes (made 3 (read 0 (pos 1))) ∷ goes (made 3 (write 0 (pos 2))) ∷ goes (done 3)
    ∷ makes 3 (past 1 (1 ∷ 2 ∷ [])) ∷ makes 3 (leave 1 1) ∷ goes (out 0) ∷ goes (made 2 end) ∷ []

add_trace : IsTrace adds 0 [] (items add_steps) Finished
add_trace = record {
  most_turns = 0;
  gives =
      next (next
      (next (given (pos 1) (next (next (next
      (next (next (refl, inl refl)))))))));
}

pub add_part : IsPart adds (plans setting) add_own
add_part = record {
  steps = add_steps;
  ahead = [];
  outcome = Finished;
  trace = add_trace;
  woven = ((refl, tt), (refl, (refl, (record { asks = refl; not_yet = refl }, (refl, (refl, (refl, (refl, (refl, (refl, (refl, (refl, (refl, tt)))))))))))));
  tells = refl;
  taken = refl;
}

abbrev pub main_own : Own
main_own = record {
  thread = 1;
  func = 1;
  args = [];
  versions = version ∷ [];
  entries = e.Begin 1 5 ∷ e.Spawn 1 6 2 0 [] ∷ e.Enter 1 7 1 1 ∷ e.At 1 7 1 (3 ∷ 4 ∷ []) ∷ e.Read 1 7 0 (pos 0) ∷ e.Write 1 7 0 (pos 1)
      ∷ e.Past 1 7 1 (3 ∷ 4 ∷ []) ∷ e.Leave 1 7 1 1 ∷ e.Blocked 1 8 (w.Join 2) ∷ e.Join 1 8 2 ∷ e.Read 1 9 0 (pos 2) ∷ e.Print 1 9 (pos 2)
      ∷ e.End 1 5 ∷ [];
}

abbrev pub before_spawn : Locals
before_spawn = (codes "a", pos 0) ∷ []

abbrev pub behind_spawn : Locals
behind_spawn = (codes "a", pos 2) ∷ []

abbrev pub main_steps : List PartStep
main_steps =
    goes (made 5 begin) ∷ goes (enter 1 before_spawn) ∷ goes (begins 6 before_spawn) ∷ goes (made 6 (spawn 2 0 [])) ∷ goes (done 6)
    ∷ goes (begins 7 behind_spawn) ∷ makes 7 (enters 1 1) ∷ makes 7 (walk.at 1 (3 ∷ 4 ∷ [])) ∷ goes (made 7 (read 0 (pos 0)))
    ∷ goes (made 7 (write 0 (pos 1))) ∷ goes (done 7) ∷ makes 7 (past 1 (3 ∷ 4 ∷ [])) ∷ makes 7 (leave 1 1) ∷ goes (begins 8 behind_spawn)
    ∷ makes 8 (blocked (w.Join 2)) ∷ goes (made 8 (join 2)) ∷ goes (done 8) ∷ goes (begins 9 behind_spawn) ∷ goes (made 9 (read 0 (pos 2)))
    ∷ goes (made 9 (print (pos 2))) ∷ goes (done 9) ∷ goes (out 1) ∷ goes (made 5 end) ∷ []

main_trace : IsTrace adds 1 [] (items main_steps) Finished
main_trace = record {
  most_turns = 0;
  gives =
      next (next
      (next (inr (given 2 (next (next
      (next (given (pos 0) (next (next (next
      (next (inr (next (next
      (next (given (pos 2) (next (next (next
      (next (next (refl, inl refl)))))))))))))))))))))));
}

pub main_part : IsPart adds (plans setting) main_own
main_part = record {
  steps = main_steps;
  ahead = [];
  outcome = Finished;
  trace = main_trace;
  woven = (
    (refl, tt),
    (
      refl,
      (
        refl,
        (
          refl,
          (
            refl,
            (
              refl,
              (
                refl,
                (
                  refl,
                  (
                    refl,
                    (
                      refl,
                      (
                        refl,
                        (
                          refl,
                          (
                            refl,
                            (
                              refl,
                              (
                                record { asks = refl; not_yet = refl },
                                (
                                  refl,
                                  (
                                    refl,
                                    (
                                      refl,
                                      (refl, (refl, (refl, (refl, (refl, tt))))),
                                    ),
                                  ),
                                ),
                              ),
                            ),
                          ),
                        ),
                      ),
                    ),
                  ),
                ),
              ),
            ),
          ),
        ),
      ),
    ),
  );
  tells = refl;
  taken = refl;
}

-- The journal

abbrev pub events : List TargetEvent
events =
    event 1 5 begin ∷ event 1 6 (spawn 2 0 []) ∷ event 2 2 begin ∷ event 1 7 (read 0 (pos 0)) ∷ event 1 7 (write 0 (pos 1))
    ∷ event 2 3 (read 0 (pos 1)) ∷ event 2 3 (write 0 (pos 2)) ∷ event 2 2 end ∷ event 1 8 (join 2) ∷ event 1 9 (read 0 (pos 2))
    ∷ event 1 9 (print (pos 2)) ∷ event 1 5 end ∷ []

pub all_parts : (t : ℕ) → HasPart setting journal t (thread_at (replay (start adds 8) events) t)
all_parts zero = refl
all_parts (suc zero) = main_part
all_parts (suc (suc zero)) = add_part
all_parts (suc (suc (suc t))) = nothing_made 3 (suc (suc (suc t))) journal (omega arith) refl

-- behind the one command none is due, and no filter is unilateral
nothing_due : (f : Front) → Control.next f.control ≡ 2 → IsDue setting f → ⊥
nothing_due f is h =
    let P : ℕ → Type 0 = λ n. command_at commands n ≡ Some h.command in
    let none : command_at commands 2 ≡ Some h.command = subst P is h.is in
    cc

never : (b : Bool) → ((b && false) || false) ≡ true → ⊥
never true h = cc
never false h = cc

none_alone : (k c : ℕ) → is_alone (plans setting k) c ≡ true → ⊥
none_alone zero c h = cc
none_alone (suc zero) c h = never (1 == c) h
none_alone (suc (suc k)) c h = cc

moves : {f : Front} {t : ℕ} {x : Entry} → run_is_over setting f ≡ false → Control.closing f.control ≡ false → Control.next f.control ≡ 2
    → Control.asked f.control ≡ None → is_cross x ≡ owes_cross x (listed_places t f.entries) → IsParked setting f t x (Control.asked f.control)
    → MayMove setting f t x
moves {f = f} runs closing next asked crosses parked = record {
  goes_on = record {
    runs = runs;
    not_closing = closing;
    not_due = nothing_due f next;
    not_refused = λ k h. cc;
  };
  not_held_off = λ h. none_alone h.filter h.clause h.alone;
  crosses = crosses;
  parked = parked;
}

stands_nowhere : (t : ℕ) → StandsAt setting (front_at setting events (e.Asked 1 ∷ [])) t nowhere
stands_nowhere zero = refl
stands_nowhere (suc zero) = refl
stands_nowhere (suc (suc t)) = refl

outside_first : (t : ℕ) → IsOutside setting (e.Asked 1 ∷ []) t (running_thread (thread_at (start adds 8) t)) (plan_of adds fix) nowhere
outside_first zero = tt
outside_first (suc zero) = tt
outside_first (suc (suc t)) = tt

installs : MayInstall setting (front_at setting events (e.Asked 1 ∷ [])) 1 1 (0 ∷ 0 ∷ 0 ∷ 0 ∷ 0 ∷ 0 ∷ 0 ∷ 0 ∷ [])
installs = record {
  command = _;
  is = refl;
  plan = plan_of adds fix;
  installs = refl;
  asked = refl;
  not_refused = refl;
  version = refl;
  lists = record { count = refl; place = λ t. nowhere; are = refl; stands = stands_nowhere; flagged = λ t. inl refl };
  outside = outside_first;
}

all_ended : (t : ℕ) (x : ThreadState) → thread_at (replay (start adds 8) events) t ≡ Some x → x.ended ≡ true
all_ended zero x h = cc
all_ended (suc zero) x h = cc
all_ended (suc (suc zero)) x h = cc
all_ended (suc (suc (suc t))) x h = cc

first_due : IsDue setting (front_at setting events [])
first_due = record { command = _; is = refl; answered = refl; not_closing = refl; runs = refl; triggered = omega arith }

pub entries_follow : Each (FollowsBehind setting events) [] journal
entries_follow =
    behind (first_due, refl) (behind (refl, installs) (behind (moves refl refl refl refl refl tt, tt) (behind (moves refl refl refl refl refl tt, tt) (behind (moves refl refl refl refl refl tt, tt) (behind (moves refl refl refl refl refl tt, refl)
    (behind (moves refl refl refl refl refl tt, record { by = 1; other = refl; holds = refl }) (behind (moves refl refl refl refl refl tt, (tt, (tt, tt))) (behind (moves refl refl refl refl refl tt, tt) (behind (moves refl refl refl refl refl tt, tt)
    (behind (moves refl refl refl refl refl tt, tt) (behind (moves refl refl refl refl refl tt, tt) (behind (moves refl refl refl refl refl tt, refl) (behind (moves refl refl refl refl refl tt, (_, refl, refl)) (behind (moves refl refl refl refl refl tt, (tt, (tt, tt))) (behind (moves refl refl refl refl refl tt, tt)
    (behind (moves refl refl refl refl refl tt, tt) (behind (moves refl refl refl refl refl tt, tt) (behind (moves refl refl refl refl refl tt, tt) (behind (moves refl refl refl refl refl tt, tt) (behind (moves refl refl refl refl refl tt, tt) (behind (moves refl refl refl refl refl tt, tt) (behind (moves refl refl refl refl refl tt, tt)
    (behind (moves refl refl refl refl refl tt, tt) (behind (refl, (refl, (omega arith, (refl, (all_ended, nothing_due _ refl))))) tt))))))))))))))))))))))))

main_traced : IsTraced adds 1 [] (deed 5 begin ∷ deed 6 (spawn 2 0 []) ∷ deed 7 (read 0 (pos 0)) ∷ deed 7 (write 0 (pos 1)) ∷ deed 8 (join 2)
    ∷ deed 9 (read 0 (pos 2)) ∷ deed 9 (print (pos 2)) ∷ deed 5 end ∷ [])
main_traced = record { items = items main_steps; outcome = Finished; trace = main_trace; same = refl }

add_traced : IsTraced adds 0 [] (deed 2 begin ∷ deed 3 (read 0 (pos 1)) ∷ deed 3 (write 0 (pos 2)) ∷ deed 2 end ∷ [])
add_traced = record { items = items add_steps; outcome = Finished; trace = add_trace; same = refl }

run : AreRun adds 8 events
run = record {
  traced = threads_traced adds 8 events (main_traced, (add_traced, tt)) refl refl;
  allowed =
      runs.begins refl refl (does refl (refl, omega arith) (runs.begins refl refl (does refl refl (does refl tt (does refl refl (does refl tt (does refl tt
      (does refl (record { state = _; is = refl; ended = refl }) (does refl refl (does refl tt (does refl tt tt)))))))))));
}

-- The journal is lawful.
pub lawful : IsLawful setting journal
lawful = record {
  events = events;
  tells = refl;
  run = run;
  parts = all_parts;
  follows = each_one (FollowsBehind setting events) journal entries_follow;
}

-- Without the enter before the watched line these are no entries of thread 1, and the journal isn't lawful

abbrev pub bare_own : Own
bare_own = record main_own {
  entries = e.Begin 1 5 ∷ e.Spawn 1 6 2 0 [] ∷ e.At 1 7 1 (3 ∷ 4 ∷ []) ∷ e.Read 1 7 0 (pos 0) ∷ e.Write 1 7 0 (pos 1)
      ∷ e.Past 1 7 1 (3 ∷ 4 ∷ []) ∷ e.Leave 1 7 1 1 ∷ e.Blocked 1 8 (w.Join 2) ∷ e.Join 1 8 2 ∷ e.Read 1 9 0 (pos 2) ∷ e.Print 1 9 (pos 2)
      ∷ e.End 1 5 ∷ [];
}

pub bare_is_no_part : IsPart adds (plans setting) bare_own → ⊥
bare_is_no_part h =
    let none : none_cross (filter_entries 1 h.steps) ≡ true = subst (λ es. none_cross es ≡ true) (sym h.tells) refl in
    let held : Covers [] 1 (3 ∷ 4 ∷ []) (clauses (plans setting 1)) =
    covered adds (plans setting) (unborn (version ∷ [])) 1 h.steps h.ahead (e.Begin 1 5 ∷ e.Spawn 1 6 2 0 [] ∷ []) 7 1 (3 ∷ 4 ∷ []) _
    (steps_cross 1 h.steps none) h.woven (good_start (plans setting) (version ∷ [])) h.tells in
    let bad : false ≡ true = held.0 refl in
    cc

abbrev pub bare_journal : List Entry
bare_journal =
    e.Asked 1 ∷ e.Installed 1 1 (0 ∷ 0 ∷ 0 ∷ 0 ∷ 0 ∷ 0 ∷ 0 ∷ 0 ∷ []) ∷ e.Begin 1 5 ∷ e.Spawn 1 6 2 0 [] ∷ e.Begin 2 2
    ∷ e.Blocked 2 3 (w.Enter 1 1) ∷ e.At 1 7 1 (3 ∷ 4 ∷ []) ∷ e.Read 1 7 0 (pos 0) ∷ e.Write 1 7 0 (pos 1) ∷ e.Past 1 7 1 (3 ∷ 4 ∷ [])
    ∷ e.Leave 1 7 1 1 ∷ e.Enter 2 3 1 1 ∷ e.Blocked 1 8 (w.Join 2) ∷ e.At 2 3 1 (1 ∷ 2 ∷ []) ∷ e.Read 2 3 0 (pos 1) ∷ e.Write 2 3 0 (pos 2)
    ∷ e.Past 2 3 1 (1 ∷ 2 ∷ []) ∷ e.Leave 2 3 1 1 ∷ e.End 2 2 ∷ e.Join 1 8 2 ∷ e.Read 1 9 0 (pos 2) ∷ e.Print 1 9 (pos 2) ∷ e.End 1 5
    ∷ e.Finish k.Done ∷ []

pub bare_is_unlawful : IsLawful setting bare_journal → ⊥
bare_is_unlawful h =
    let same : h.events ≡ events = events_told h.events events (ap (map event_of) h.tells) in
    let P : List TargetEvent → Type 0 = λ xs. HasPart setting bare_journal 1 (thread_at (replay (start adds 8) xs) 1) in
    bare_is_no_part (subst P same (h.parts 1))

-- No thread makes `Blocked` twice behind each other, and nothing of an order begins before what it follows

pub not_twice : (p : Source) (z : Walk) (l : ℕ) (what : What) (rest : List Item) → MayStand p (after_operation p (plans setting) z (blocked what)) (makes l (blocked what)) rest → ⊥
not_twice p z l what rest h =
    let bad : true ≡ false = h.not_yet in
    cc

pub not_before : (k n m : ℕ) → HasCompletions [] k (Some (n, suc m)) → ⊥
not_before k n m h = omega arith

pub not_unposted : (k n m : ℕ) → HasPosts [] k (Some (n, suc m)) → ⊥
not_unposted k n m h = omega arith
