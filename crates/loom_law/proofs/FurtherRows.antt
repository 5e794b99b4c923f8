-- Parts of the threads of further worked journals, written by a tool.
use Rattle.std.proofs.Common.{◌≡◌, inl, inr, pos, List, [], ◌∷◌, Some, None, refl, codes}
use Rattle.loom_trace.specs.declared.entry.Entry.{Entry}
use Rattle.loom_trace.specs.declared.entry.Entry.TheVariants as e
use Rattle.loom_trace.specs.declared.entry.What.TheVariants as w
use Rattle.loom_tree.specs.declared.expression.Op.TheVariants as o
use Rattle.loom_tree.specs.Tree.{num, var, cell, neg, inverse, bin, Right, Simple, let_, set, set_cell, simple, if_, while_, Source}
use Rattle.loom_tree.specs.Tree as tree
use Rattle.loom_lang.specs.Trace.{division, begin, end, trap, read, write, lock, unlock, down, up, spawn, join, print, made, begins, done, edge, enter, out, Finished}
use Rattle.loom_event.proofs.Runs.{next, given}
use Rattle.loom_command.specs.Filter.{Region, Clause}
use Rattle.loom_law.specs.Filter.{plan_of}
use Rattle.loom_law.specs.Walk.{wait, enters, past, post, leave, back, tick, cross, blocked, PartStep, goes, makes, filter_entries, unborn, AreWoven}
use Rattle.loom_law.specs.Walk as walk
use Rattle.loom_command.specs.Script.{stall}
use Rattle.loom_command.specs.Script as script
use Rattle.loom_law.specs.Control.{refused, means, install, remove, Command, plans_of}
use Rattle.loom_law.specs.ThreadPart.{Own, IsPart}
use Rattle.loom_law.specs.Walk.{Walk, walk_from, place_of_next, place_number}
use Rattle.loom_law.specs.Control.{versions_of, entries_of}
use Rattle.loom_lang.specs.Places as place
use Rattle.loom_trace.specs.declared.entry.Ending.TheVariants as k
use Rattle.std.proofs.Common.{true}
use Rattle.loom_law.proofs.Rows.{check_crosses, check_holds}

-- r7
--   mutex m;
--   fn w() {
--   lock m;
--   }
--   fn main() {
--   lock m;
--   let t = spawn w();
--   print 1;
--   print 2;
--   unlock m;
--   join t;
--   }
--
--
-- script: at 0 install u w() <> *
-- script: on stall remove u
-- script:
abbrev pub program_r7 : Source
program_r7 = record { words = []; mutexes = ((codes "m") ∷ []); semas = []; funcs = (record { name = (codes "w"); line = 2; params = []; body = (simple 3 (tree.lock (codes "m")) tree.end) } ∷ record { name = (codes "main"); line = 5; params = []; body = (simple 6 (tree.lock (codes "m")) (simple 7 (let_ (codes "t") (Right.spawn (codes "w") [])) (simple 8 (tree.print (num (pos 1))) (simple 9 (tree.print (num (pos 2))) (simple 10 (tree.unlock (codes "m")) (simple 11 (tree.join (var (codes "t"))) tree.end)))))) } ∷ []) }

abbrev pub commands_r7 : List Command
commands_r7 = (record { trigger = script.at 0; name = (codes "u"); action = install (means (plan_of program_r7 ((Clause.unilateral (Region.whole (codes "w") None)) ∷ []))) } ∷ record { trigger = stall; name = (codes "u"); action = remove } ∷ [])

abbrev pub own_r7_1 : Own
own_r7_1 = record { thread = 1; func = 1; args = []; versions = (record { number = 1; active = (1 ∷ []) } ∷ record { number = 2; active = [] } ∷ []); entries = (e.Begin 1 5 ∷ e.Lock 1 6 0 ∷ e.Spawn 1 7 2 0 [] ∷ e.Print 1 8 (pos 1) ∷ e.Cross 1 9 8 2 0 ∷ e.Print 1 9 (pos 2) ∷ e.Unlock 1 10 0 ∷ e.Blocked 1 11 (w.Join 2) ∷ e.Join 1 11 2 ∷ e.End 1 5 ∷ []) }

abbrev pub steps_r7_1 : List PartStep
steps_r7_1 = (goes (made 5 begin) ∷ goes (enter 1 (((codes "t"), (pos 0)) ∷ [])) ∷ goes (begins 6 (((codes "t"), (pos 0)) ∷ [])) ∷ goes (made 6 (lock 0)) ∷ goes (done 6) ∷ goes (begins 7 (((codes "t"), (pos 0)) ∷ [])) ∷ goes (made 7 (spawn 2 0 [])) ∷ goes (done 7) ∷ goes (begins 8 (((codes "t"), (pos 2)) ∷ [])) ∷ goes (made 8 (print (pos 1))) ∷ goes (done 8) ∷ goes (begins 9 (((codes "t"), (pos 2)) ∷ [])) ∷ makes 9 (cross 8 2 0) ∷ goes (made 9 (print (pos 2))) ∷ goes (done 9) ∷ goes (begins 10 (((codes "t"), (pos 2)) ∷ [])) ∷ goes (made 10 (unlock 0)) ∷ goes (done 10) ∷ goes (begins 11 (((codes "t"), (pos 2)) ∷ [])) ∷ makes 11 (blocked (w.Join 2)) ∷ goes (made 11 (join 2)) ∷ goes (done 11) ∷ goes (out 1) ∷ goes (made 5 end) ∷ [])

pub part_r7_1 : IsPart program_r7 (plans_of commands_r7) own_r7_1
part_r7_1 = record {
  steps = steps_r7_1;
  ahead = [];
  outcome = Finished;
  trace = record { most_turns = 3; gives = next (next (next (next (next (next (inr (given 2 (next (next (next (next (next (next (next (next (next (inr (next (next (next (inr (next (next (next (next ((refl, inl refl))))))))))))))))))))))))))) };
  woven = ((refl, tt), (refl, (refl, (refl, (refl, (refl, (refl, (refl, (refl, (refl, (refl, (refl, (record { place = _; next = refl; number = refl; line = refl; version = refl; passed = refl }, (refl, (refl, (refl, (refl, (refl, (refl, (record { asks = refl; not_yet = refl }, (refl, (refl, (refl, (refl, tt))))))))))))))))))))))));
  tells = refl;
  taken = refl;
}

abbrev pub own_r7_2 : Own
own_r7_2 = record { thread = 2; func = 0; args = []; versions = (record { number = 1; active = (1 ∷ []) } ∷ record { number = 2; active = [] } ∷ []); entries = (e.Begin 2 2 ∷ e.Enter 2 2 1 1 ∷ e.At 2 2 1 (1 ∷ []) ∷ e.Blocked 2 3 (w.Lock 0) ∷ e.Cross 2 3 2 2 0 ∷ e.Blocked 2 3 (w.Lock 0) ∷ e.Lock 2 3 0 ∷ e.End 2 2 ∷ []) }

abbrev pub steps_r7_2 : List PartStep
steps_r7_2 = (goes (made 2 begin) ∷ goes (enter 0 []) ∷ makes 2 (enters 1 1) ∷ makes 2 (walk.at 1 (1 ∷ [])) ∷ goes (begins 3 []) ∷ makes 3 (blocked (w.Lock 0)) ∷ makes 3 (cross 2 2 0) ∷ makes 3 (blocked (w.Lock 0)) ∷ goes (made 3 (lock 0)) ∷ goes (done 3) ∷ goes (out 0) ∷ goes (made 2 end) ∷ [])

pub part_r7_2 : IsPart program_r7 (plans_of commands_r7) own_r7_2
part_r7_2 = record {
  steps = steps_r7_2;
  ahead = [];
  outcome = Finished;
  trace = record { most_turns = 3; gives = next (next (next (next (next (next (next ((refl, inl refl)))))))) };
  woven = ((refl, tt), (refl, (refl, (refl, (refl, (record { asks = refl; not_yet = refl }, (record { place = _; next = refl; number = refl; line = refl; version = refl; passed = refl }, (record { asks = refl; not_yet = refl }, (refl, (refl, (refl, (refl, tt))))))))))));
  tells = refl;
  taken = refl;
}

abbrev pub point_r7_0 : List PartStep
point_r7_0 = (goes (made 5 begin) ∷ goes (enter 1 (((codes "t"), (pos 0)) ∷ [])) ∷ goes (begins 6 (((codes "t"), (pos 0)) ∷ [])) ∷ goes (made 6 (lock 0)) ∷ goes (done 6) ∷ goes (begins 7 (((codes "t"), (pos 0)) ∷ [])) ∷ goes (made 7 (spawn 2 0 [])) ∷ goes (done 7) ∷ goes (begins 8 (((codes "t"), (pos 2)) ∷ [])) ∷ goes (made 8 (print (pos 1))) ∷ goes (done 8) ∷ goes (begins 9 (((codes "t"), (pos 2)) ∷ [])) ∷ [])

pub woven_point_r7_0 : AreWoven program_r7 (plans_of commands_r7) (unborn (record { number = 1; active = (1 ∷ []) } ∷ [])) point_r7_0 ((made 9 (print (pos 2))) ∷ [])
woven_point_r7_0 = ((refl, tt), (refl, (refl, (refl, (refl, (refl, (refl, (refl, (refl, (refl, (refl, (refl, tt))))))))))))

abbrev pub led_r7_0 : Walk
led_r7_0 = walk_from program_r7 (plans_of commands_r7) (unborn (record { number = 1; active = (1 ∷ []) } ∷ [])) point_r7_0

pub stands_r7_0 : place_of_next led_r7_0 (Walk.owed led_r7_0) ((made 9 (print (pos 2))) ∷ []) ≡ Some (place.inside 9)
stands_r7_0 = refl

pub number_r7_0 : place_number program_r7 (place.inside 9) ≡ 8
number_r7_0 = refl

abbrev pub point_r7_1 : List PartStep
point_r7_1 = (goes (made 2 begin) ∷ goes (enter 0 []) ∷ makes 2 (enters 1 1) ∷ makes 2 (walk.at 1 (1 ∷ [])) ∷ goes (begins 3 []) ∷ makes 3 (blocked (w.Lock 0)) ∷ [])

pub woven_point_r7_1 : AreWoven program_r7 (plans_of commands_r7) (unborn (record { number = 1; active = (1 ∷ []) } ∷ [])) point_r7_1 ((made 3 (lock 0)) ∷ [])
woven_point_r7_1 = ((refl, tt), (refl, (refl, (refl, (refl, (record { asks = refl; not_yet = refl }, tt))))))

abbrev pub led_r7_1 : Walk
led_r7_1 = walk_from program_r7 (plans_of commands_r7) (unborn (record { number = 1; active = (1 ∷ []) } ∷ [])) point_r7_1

pub stands_r7_1 : place_of_next led_r7_1 (Walk.owed led_r7_1) ((made 3 (lock 0)) ∷ []) ≡ Some (place.inside 3)
stands_r7_1 = refl

pub number_r7_1 : place_number program_r7 (place.inside 3) ≡ 2
number_r7_1 = refl

abbrev pub journal_r7 : List Entry
journal_r7 = (e.Asked 1 ∷ e.Installed 1 1 (0 ∷ 0 ∷ 0 ∷ 0 ∷ 0 ∷ 0 ∷ 0 ∷ 0 ∷ []) ∷ e.Begin 1 5 ∷ e.Lock 1 6 0 ∷ e.Spawn 1 7 2 0 [] ∷ e.Begin 2 2 ∷ e.Print 1 8 (pos 1) ∷ e.Enter 2 2 1 1 ∷ e.At 2 2 1 (1 ∷ []) ∷ e.Blocked 2 3 (w.Lock 0) ∷ e.Asked 2 ∷ e.Removed 2 2 (8 ∷ 2 ∷ 0 ∷ 0 ∷ 0 ∷ 0 ∷ 0 ∷ 0 ∷ []) ∷ e.Cross 1 9 8 2 0 ∷ e.Cross 2 3 2 2 0 ∷ e.Print 1 9 (pos 2) ∷ e.Blocked 2 3 (w.Lock 0) ∷ e.Unlock 1 10 0 ∷ e.Lock 2 3 0 ∷ e.Blocked 1 11 (w.Join 2) ∷ e.End 2 2 ∷ e.Join 1 11 2 ∷ e.End 1 5 ∷ e.Finish k.Done ∷ [])

pub crosses_r7 : check_crosses [] journal_r7 ≡ true
crosses_r7 = refl

pub holds_r7 : check_holds commands_r7 [] journal_r7 ≡ true
holds_r7 = refl

pub takes_r7_1 : versions_of commands_r7 1 journal_r7 ≡ Own.versions own_r7_1
takes_r7_1 = refl

pub made_r7_1 : entries_of 1 journal_r7 ≡ Own.entries own_r7_1
made_r7_1 = refl

pub takes_r7_2 : versions_of commands_r7 2 journal_r7 ≡ Own.versions own_r7_2
takes_r7_2 = refl

pub made_r7_2 : entries_of 2 journal_r7 ≡ Own.entries own_r7_2
made_r7_2 = refl

-- r8
--   shared x;
--   fn f() {
--   x = x + 1;
--   }
--   fn w() {
--   f();
--   }
--   fn main() {
--   let t = spawn w();
--   f();
--   let i = 0;
--   while (i < 2) {
--   i = i + 1;
--   }
--   join t;
--   }
--
--
-- script: at 0 install a f()
-- script: at 7 install b f(); e.lm:10 > f2.lm:1
-- script: at 7 install c f() <> *
-- script:
abbrev pub program_r8 : Source
program_r8 = record { words = (record { name = (codes "x"); cells = None; first = (pos 0) } ∷ []); mutexes = []; semas = []; funcs = (record { name = (codes "f"); line = 2; params = []; body = (simple 3 (set (codes "x") (Right.value (bin o.Add (var (codes "x")) (num (pos 1))))) tree.end) } ∷ record { name = (codes "w"); line = 5; params = []; body = (simple 6 (Simple.call (codes "f") []) tree.end) } ∷ record { name = (codes "main"); line = 8; params = []; body = (simple 9 (let_ (codes "t") (Right.spawn (codes "w") [])) (simple 10 (Simple.call (codes "f") []) (simple 11 (let_ (codes "i") (Right.value (num (pos 0)))) (while_ 12 (bin o.Lt (var (codes "i")) (num (pos 2))) (simple 13 (set (codes "i") (Right.value (bin o.Add (var (codes "i")) (num (pos 1))))) tree.end) (simple 15 (tree.join (var (codes "t"))) tree.end))))) } ∷ []) }

abbrev pub commands_r8 : List Command
commands_r8 = (record { trigger = script.at 0; name = (codes "a"); action = install (means (plan_of program_r8 ((Clause.exclusive ((Region.whole (codes "f") None) ∷ [])) ∷ []))) } ∷ record { trigger = script.at 7; name = (codes "b"); action = install (refused 2 2) } ∷ record { trigger = script.at 7; name = (codes "c"); action = install (means (plan_of program_r8 ((Clause.unilateral (Region.whole (codes "f") None)) ∷ []))) } ∷ [])

abbrev pub own_r8_1 : Own
own_r8_1 = record { thread = 1; func = 2; args = []; versions = (record { number = 1; active = (1 ∷ []) } ∷ record { number = 2; active = (1 ∷ 3 ∷ []) } ∷ []); entries = (e.Begin 1 8 ∷ e.Spawn 1 9 2 1 [] ∷ e.Enter 1 2 1 1 ∷ e.At 1 2 1 (1 ∷ []) ∷ e.Read 1 3 0 (pos 0) ∷ e.Write 1 3 0 (pos 1) ∷ e.Back 1 2 ∷ e.Leave 1 2 1 1 ∷ e.Cross 1 12 12 2 0 ∷ e.Blocked 1 15 (w.Join 2) ∷ e.Join 1 15 2 ∷ e.End 1 8 ∷ []) }

abbrev pub steps_r8_1 : List PartStep
steps_r8_1 = (goes (made 8 begin) ∷ goes (enter 2 (((codes "t"), (pos 0)) ∷ ((codes "i"), (pos 0)) ∷ [])) ∷ goes (begins 9 (((codes "t"), (pos 0)) ∷ ((codes "i"), (pos 0)) ∷ [])) ∷ goes (made 9 (spawn 2 1 [])) ∷ goes (done 9) ∷ goes (begins 10 (((codes "t"), (pos 2)) ∷ ((codes "i"), (pos 0)) ∷ [])) ∷ goes (enter 0 []) ∷ makes 2 (enters 1 1) ∷ makes 2 (walk.at 1 (1 ∷ [])) ∷ goes (begins 3 []) ∷ goes (made 3 (read 0 (pos 0))) ∷ goes (made 3 (write 0 (pos 1))) ∷ goes (done 3) ∷ goes (out 0) ∷ makes 2 (back) ∷ makes 2 (leave 1 1) ∷ goes (done 10) ∷ goes (begins 11 (((codes "t"), (pos 2)) ∷ ((codes "i"), (pos 0)) ∷ [])) ∷ goes (done 11) ∷ goes (begins 12 (((codes "t"), (pos 2)) ∷ ((codes "i"), (pos 0)) ∷ [])) ∷ goes (begins 13 (((codes "t"), (pos 2)) ∷ ((codes "i"), (pos 0)) ∷ [])) ∷ goes (done 13) ∷ makes 12 (cross 12 2 0) ∷ goes (edge 12) ∷ goes (begins 13 (((codes "t"), (pos 2)) ∷ ((codes "i"), (pos 1)) ∷ [])) ∷ goes (done 13) ∷ goes (edge 12) ∷ goes (done 12) ∷ goes (begins 15 (((codes "t"), (pos 2)) ∷ ((codes "i"), (pos 2)) ∷ [])) ∷ makes 15 (blocked (w.Join 2)) ∷ goes (made 15 (join 2)) ∷ goes (done 15) ∷ goes (out 2) ∷ goes (made 8 end) ∷ [])

pub woven_r8_1 : AreWoven program_r8 (plans_of commands_r8) (unborn (Own.versions own_r8_1)) steps_r8_1 []
woven_r8_1 = ((refl, tt), (refl, (refl, (refl, (refl, (refl, (refl, (refl, (refl, (refl, (refl, (refl, (refl, (refl, (refl, (refl, (refl, (refl, (refl, (refl, (refl, (refl, (record { place = _; next = refl; number = refl; line = refl; version = refl; passed = refl }, (refl, (refl, (refl, (refl, (refl, (refl, (record { asks = refl; not_yet = refl }, (refl, (refl, (refl, (refl, tt))))))))))))))))))))))))))))))))))

pub told_r8_1 : filter_entries 1 steps_r8_1 ≡ Own.entries own_r8_1
told_r8_1 = refl

abbrev pub own_r8_2 : Own
own_r8_2 = record { thread = 2; func = 1; args = []; versions = (record { number = 1; active = (1 ∷ []) } ∷ record { number = 2; active = (1 ∷ 3 ∷ []) } ∷ []); entries = (e.Begin 2 5 ∷ e.Blocked 2 2 (w.Enter 1 1) ∷ e.Cross 2 2 1 2 0 ∷ e.Enter 2 2 1 1 ∷ e.At 2 2 1 (1 ∷ []) ∷ e.Enter 2 2 3 1 ∷ e.At 2 2 3 (1 ∷ []) ∷ e.Read 2 3 0 (pos 1) ∷ e.Write 2 3 0 (pos 2) ∷ e.Back 2 2 ∷ e.Leave 2 2 1 1 ∷ e.Leave 2 2 3 1 ∷ e.End 2 5 ∷ []) }

abbrev pub steps_r8_2 : List PartStep
steps_r8_2 = (goes (made 5 begin) ∷ goes (enter 1 []) ∷ goes (begins 6 []) ∷ goes (enter 0 []) ∷ makes 2 (blocked (w.Enter 1 1)) ∷ makes 2 (cross 1 2 0) ∷ makes 2 (enters 1 1) ∷ makes 2 (walk.at 1 (1 ∷ [])) ∷ makes 2 (enters 3 1) ∷ makes 2 (walk.at 3 (1 ∷ [])) ∷ goes (begins 3 []) ∷ goes (made 3 (read 0 (pos 1))) ∷ goes (made 3 (write 0 (pos 2))) ∷ goes (done 3) ∷ goes (out 0) ∷ makes 2 (back) ∷ makes 2 (leave 1 1) ∷ makes 2 (leave 3 1) ∷ goes (done 6) ∷ goes (out 1) ∷ goes (made 5 end) ∷ [])

pub part_r8_2 : IsPart program_r8 (plans_of commands_r8) own_r8_2
part_r8_2 = record {
  steps = steps_r8_2;
  ahead = [];
  outcome = Finished;
  trace = record { most_turns = 3; gives = next (next (next (next (next (given (pos 1) (next (next (next (next (next (next (next ((refl, inl refl)))))))))))))) };
  woven = ((refl, tt), (refl, (refl, (refl, (record { asks = refl; not_yet = refl }, (record { place = _; next = refl; number = refl; line = refl; version = refl; passed = refl }, (refl, (refl, (refl, (refl, (refl, (refl, (refl, (refl, (refl, (refl, (refl, (refl, (refl, (refl, (refl, tt)))))))))))))))))))));
  tells = refl;
  taken = refl;
}

abbrev pub point_r8_0 : List PartStep
point_r8_0 = (goes (made 8 begin) ∷ goes (enter 2 (((codes "t"), (pos 0)) ∷ ((codes "i"), (pos 0)) ∷ [])) ∷ goes (begins 9 (((codes "t"), (pos 0)) ∷ ((codes "i"), (pos 0)) ∷ [])) ∷ goes (made 9 (spawn 2 1 [])) ∷ goes (done 9) ∷ goes (begins 10 (((codes "t"), (pos 2)) ∷ ((codes "i"), (pos 0)) ∷ [])) ∷ goes (enter 0 []) ∷ makes 2 (enters 1 1) ∷ makes 2 (walk.at 1 (1 ∷ [])) ∷ goes (begins 3 []) ∷ goes (made 3 (read 0 (pos 0))) ∷ goes (made 3 (write 0 (pos 1))) ∷ goes (done 3) ∷ goes (out 0) ∷ makes 2 (back) ∷ makes 2 (leave 1 1) ∷ goes (done 10) ∷ goes (begins 11 (((codes "t"), (pos 2)) ∷ ((codes "i"), (pos 0)) ∷ [])) ∷ goes (done 11) ∷ goes (begins 12 (((codes "t"), (pos 2)) ∷ ((codes "i"), (pos 0)) ∷ [])) ∷ goes (begins 13 (((codes "t"), (pos 2)) ∷ ((codes "i"), (pos 0)) ∷ [])) ∷ goes (done 13) ∷ [])

pub woven_point_r8_0 : AreWoven program_r8 (plans_of commands_r8) (unborn (record { number = 1; active = (1 ∷ []) } ∷ [])) point_r8_0 ((edge 12) ∷ [])
woven_point_r8_0 = ((refl, tt), (refl, (refl, (refl, (refl, (refl, (refl, (refl, (refl, (refl, (refl, (refl, (refl, (refl, (refl, (refl, (refl, (refl, (refl, (refl, (refl, (refl, tt))))))))))))))))))))))

abbrev pub led_r8_0 : Walk
led_r8_0 = walk_from program_r8 (plans_of commands_r8) (unborn (record { number = 1; active = (1 ∷ []) } ∷ [])) point_r8_0

pub stands_r8_0 : place_of_next led_r8_0 (Walk.owed led_r8_0) ((edge 12) ∷ []) ≡ Some (place.back_edge 12)
stands_r8_0 = refl

pub number_r8_0 : place_number program_r8 (place.back_edge 12) ≡ 12
number_r8_0 = refl

abbrev pub point_r8_1 : List PartStep
point_r8_1 = (goes (made 8 begin) ∷ goes (enter 2 (((codes "t"), (pos 0)) ∷ ((codes "i"), (pos 0)) ∷ [])) ∷ goes (begins 9 (((codes "t"), (pos 0)) ∷ ((codes "i"), (pos 0)) ∷ [])) ∷ goes (made 9 (spawn 2 1 [])) ∷ goes (done 9) ∷ goes (begins 10 (((codes "t"), (pos 2)) ∷ ((codes "i"), (pos 0)) ∷ [])) ∷ goes (enter 0 []) ∷ makes 2 (enters 1 1) ∷ makes 2 (walk.at 1 (1 ∷ [])) ∷ goes (begins 3 []) ∷ goes (made 3 (read 0 (pos 0))) ∷ goes (made 3 (write 0 (pos 1))) ∷ goes (done 3) ∷ goes (out 0) ∷ makes 2 (back) ∷ makes 2 (leave 1 1) ∷ goes (done 10) ∷ goes (begins 11 (((codes "t"), (pos 2)) ∷ ((codes "i"), (pos 0)) ∷ [])) ∷ goes (done 11) ∷ goes (begins 12 (((codes "t"), (pos 2)) ∷ ((codes "i"), (pos 0)) ∷ [])) ∷ goes (begins 13 (((codes "t"), (pos 2)) ∷ ((codes "i"), (pos 0)) ∷ [])) ∷ goes (done 13) ∷ goes (edge 12) ∷ goes (begins 13 (((codes "t"), (pos 2)) ∷ ((codes "i"), (pos 1)) ∷ [])) ∷ goes (done 13) ∷ [])

pub woven_point_r8_1 : AreWoven program_r8 (plans_of commands_r8) (unborn (record { number = 1; active = (1 ∷ []) } ∷ [])) point_r8_1 ((edge 12) ∷ [])
woven_point_r8_1 = ((refl, tt), (refl, (refl, (refl, (refl, (refl, (refl, (refl, (refl, (refl, (refl, (refl, (refl, (refl, (refl, (refl, (refl, (refl, (refl, (refl, (refl, (refl, (refl, (refl, (refl, tt)))))))))))))))))))))))))

abbrev pub led_r8_1 : Walk
led_r8_1 = walk_from program_r8 (plans_of commands_r8) (unborn (record { number = 1; active = (1 ∷ []) } ∷ [])) point_r8_1

pub stands_r8_1 : place_of_next led_r8_1 (Walk.owed led_r8_1) ((edge 12) ∷ []) ≡ Some (place.back_edge 12)
stands_r8_1 = refl

pub number_r8_1 : place_number program_r8 (place.back_edge 12) ≡ 12
number_r8_1 = refl

abbrev pub point_r8_2 : List PartStep
point_r8_2 = (goes (made 8 begin) ∷ goes (enter 2 (((codes "t"), (pos 0)) ∷ ((codes "i"), (pos 0)) ∷ [])) ∷ goes (begins 9 (((codes "t"), (pos 0)) ∷ ((codes "i"), (pos 0)) ∷ [])) ∷ goes (made 9 (spawn 2 1 [])) ∷ goes (done 9) ∷ goes (begins 10 (((codes "t"), (pos 2)) ∷ ((codes "i"), (pos 0)) ∷ [])) ∷ goes (enter 0 []) ∷ makes 2 (enters 1 1) ∷ makes 2 (walk.at 1 (1 ∷ [])) ∷ goes (begins 3 []) ∷ goes (made 3 (read 0 (pos 0))) ∷ goes (made 3 (write 0 (pos 1))) ∷ goes (done 3) ∷ goes (out 0) ∷ makes 2 (back) ∷ makes 2 (leave 1 1) ∷ goes (done 10) ∷ goes (begins 11 (((codes "t"), (pos 2)) ∷ ((codes "i"), (pos 0)) ∷ [])) ∷ goes (done 11) ∷ goes (begins 12 (((codes "t"), (pos 2)) ∷ ((codes "i"), (pos 0)) ∷ [])) ∷ goes (begins 13 (((codes "t"), (pos 2)) ∷ ((codes "i"), (pos 0)) ∷ [])) ∷ goes (done 13) ∷ goes (edge 12) ∷ goes (begins 13 (((codes "t"), (pos 2)) ∷ ((codes "i"), (pos 1)) ∷ [])) ∷ goes (done 13) ∷ goes (edge 12) ∷ goes (done 12) ∷ goes (begins 15 (((codes "t"), (pos 2)) ∷ ((codes "i"), (pos 2)) ∷ [])) ∷ [])

pub woven_point_r8_2 : AreWoven program_r8 (plans_of commands_r8) (unborn (record { number = 1; active = (1 ∷ []) } ∷ [])) point_r8_2 ((made 15 (join 2)) ∷ [])
woven_point_r8_2 = ((refl, tt), (refl, (refl, (refl, (refl, (refl, (refl, (refl, (refl, (refl, (refl, (refl, (refl, (refl, (refl, (refl, (refl, (refl, (refl, (refl, (refl, (refl, (refl, (refl, (refl, (refl, (refl, (refl, tt))))))))))))))))))))))))))))

abbrev pub led_r8_2 : Walk
led_r8_2 = walk_from program_r8 (plans_of commands_r8) (unborn (record { number = 1; active = (1 ∷ []) } ∷ [])) point_r8_2

pub stands_r8_2 : place_of_next led_r8_2 (Walk.owed led_r8_2) ((made 15 (join 2)) ∷ []) ≡ Some (place.inside 15)
stands_r8_2 = refl

pub number_r8_2 : place_number program_r8 (place.inside 15) ≡ 14
number_r8_2 = refl

abbrev pub point_r8_3 : List PartStep
point_r8_3 = (goes (made 5 begin) ∷ goes (enter 1 []) ∷ goes (begins 6 []) ∷ goes (enter 0 []) ∷ makes 2 (blocked (w.Enter 1 1)) ∷ [])

pub woven_point_r8_3 : AreWoven program_r8 (plans_of commands_r8) (unborn (record { number = 1; active = (1 ∷ []) } ∷ [])) point_r8_3 ((made 1 end) ∷ [])
woven_point_r8_3 = ((refl, tt), (refl, (refl, (refl, (record { asks = refl; not_yet = refl }, tt)))))

abbrev pub led_r8_3 : Walk
led_r8_3 = walk_from program_r8 (plans_of commands_r8) (unborn (record { number = 1; active = (1 ∷ []) } ∷ [])) point_r8_3

pub stands_r8_3 : place_of_next led_r8_3 (Walk.owed led_r8_3) ((made 1 end) ∷ []) ≡ Some (place.entry 0)
stands_r8_3 = refl

pub number_r8_3 : place_number program_r8 (place.entry 0) ≡ 1
number_r8_3 = refl

abbrev pub journal_r8 : List Entry
journal_r8 = (e.Asked 1 ∷ e.Installed 1 1 (0 ∷ 0 ∷ 0 ∷ 0 ∷ 0 ∷ 0 ∷ 0 ∷ 0 ∷ []) ∷ e.Begin 1 8 ∷ e.Spawn 1 9 2 1 [] ∷ e.Begin 2 5 ∷ e.Enter 1 2 1 1 ∷ e.Blocked 2 2 (w.Enter 1 1) ∷ e.At 1 2 1 (1 ∷ []) ∷ e.Read 1 3 0 (pos 0) ∷ e.Asked 2 ∷ e.Refused 2 2 2 ∷ e.Asked 3 ∷ e.Write 1 3 0 (pos 1) ∷ e.Back 1 2 ∷ e.Leave 1 2 1 1 ∷ e.Installed 3 2 (12 ∷ 1 ∷ 0 ∷ 0 ∷ 0 ∷ 0 ∷ 0 ∷ 0 ∷ []) ∷ e.Cross 1 12 12 2 0 ∷ e.Cross 2 2 1 2 0 ∷ e.Blocked 1 15 (w.Join 2) ∷ e.Enter 2 2 1 1 ∷ e.At 2 2 1 (1 ∷ []) ∷ e.Enter 2 2 3 1 ∷ e.At 2 2 3 (1 ∷ []) ∷ e.Read 2 3 0 (pos 1) ∷ e.Write 2 3 0 (pos 2) ∷ e.Back 2 2 ∷ e.Leave 2 2 1 1 ∷ e.Leave 2 2 3 1 ∷ e.End 2 5 ∷ e.Join 1 15 2 ∷ e.End 1 8 ∷ e.Finish k.Done ∷ [])

pub crosses_r8 : check_crosses [] journal_r8 ≡ true
crosses_r8 = refl

pub holds_r8 : check_holds commands_r8 [] journal_r8 ≡ true
holds_r8 = refl

pub takes_r8_1 : versions_of commands_r8 1 journal_r8 ≡ Own.versions own_r8_1
takes_r8_1 = refl

pub made_r8_1 : entries_of 1 journal_r8 ≡ Own.entries own_r8_1
made_r8_1 = refl

pub takes_r8_2 : versions_of commands_r8 2 journal_r8 ≡ Own.versions own_r8_2
takes_r8_2 = refl

pub made_r8_2 : entries_of 2 journal_r8 ≡ Own.entries own_r8_2
made_r8_2 = refl

-- r9
--   sema s;
--   fn w() {
--   down s;
--   print 1;
--   }
--   fn main() {
--   let t = spawn w();
--   let i = 0;
--   while (i < 6) {
--   print i;
--   i = i + 1;
--   }
--   up s;
--   join t;
--   }
--
--
-- script: at 0 install a {e.lm:3; e.lm:4}; e.lm:3 > e.lm:10
-- script: on stall remove a
-- script:
abbrev pub program_r9 : Source
program_r9 = record { words = []; mutexes = []; semas = (record { name = (codes "s"); first = 0 } ∷ []); funcs = (record { name = (codes "w"); line = 2; params = []; body = (simple 3 (tree.down (codes "s")) (simple 4 (tree.print (num (pos 1))) tree.end)) } ∷ record { name = (codes "main"); line = 6; params = []; body = (simple 7 (let_ (codes "t") (Right.spawn (codes "w") [])) (simple 8 (let_ (codes "i") (Right.value (num (pos 0)))) (while_ 9 (bin o.Lt (var (codes "i")) (num (pos 6))) (simple 10 (tree.print (var (codes "i"))) (simple 11 (set (codes "i") (Right.value (bin o.Add (var (codes "i")) (num (pos 1))))) tree.end)) (simple 13 (tree.up (codes "s")) (simple 14 (tree.join (var (codes "t"))) tree.end))))) } ∷ []) }

abbrev pub commands_r9 : List Command
commands_r9 = (record { trigger = script.at 0; name = (codes "a"); action = install (means (plan_of program_r9 ((Clause.exclusive ((Region.between (record { file = (codes "e.lm"); line = 3; test = None } ∷ []) (record { file = (codes "e.lm"); line = 4; test = None } ∷ [])) ∷ [])) ∷ (Clause.order (record { event = record { file = (codes "e.lm"); line = 3; test = None }; count = 1 } ∷ record { event = record { file = (codes "e.lm"); line = 10; test = None }; count = 1 } ∷ [])) ∷ []))) } ∷ record { trigger = stall; name = (codes "a"); action = remove } ∷ [])

abbrev pub own_r9_1 : Own
own_r9_1 = record { thread = 1; func = 1; args = []; versions = (record { number = 1; active = (1 ∷ []) } ∷ record { number = 2; active = [] } ∷ []); entries = (e.Begin 1 6 ∷ e.Spawn 1 7 2 0 [] ∷ e.Blocked 1 10 (w.Wait 1 4) ∷ e.Cross 1 10 10 2 0 ∷ e.Print 1 10 (pos 0) ∷ e.Print 1 10 (pos 1) ∷ e.Print 1 10 (pos 2) ∷ e.Print 1 10 (pos 3) ∷ e.Print 1 10 (pos 4) ∷ e.Print 1 10 (pos 5) ∷ e.Up 1 13 0 ∷ e.Blocked 1 14 (w.Join 2) ∷ e.Join 1 14 2 ∷ e.End 1 6 ∷ []) }

abbrev pub steps_r9_1 : List PartStep
steps_r9_1 = (goes (made 6 begin) ∷ goes (enter 1 (((codes "t"), (pos 0)) ∷ ((codes "i"), (pos 0)) ∷ [])) ∷ goes (begins 7 (((codes "t"), (pos 0)) ∷ ((codes "i"), (pos 0)) ∷ [])) ∷ goes (made 7 (spawn 2 0 [])) ∷ goes (done 7) ∷ goes (begins 8 (((codes "t"), (pos 2)) ∷ ((codes "i"), (pos 0)) ∷ [])) ∷ goes (done 8) ∷ goes (begins 9 (((codes "t"), (pos 2)) ∷ ((codes "i"), (pos 0)) ∷ [])) ∷ goes (begins 10 (((codes "t"), (pos 2)) ∷ ((codes "i"), (pos 0)) ∷ [])) ∷ makes 10 (blocked (w.Wait 1 4)) ∷ makes 10 (cross 10 2 0) ∷ goes (made 10 (print (pos 0))) ∷ goes (done 10) ∷ goes (begins 11 (((codes "t"), (pos 2)) ∷ ((codes "i"), (pos 0)) ∷ [])) ∷ goes (done 11) ∷ goes (edge 9) ∷ goes (begins 10 (((codes "t"), (pos 2)) ∷ ((codes "i"), (pos 1)) ∷ [])) ∷ goes (made 10 (print (pos 1))) ∷ goes (done 10) ∷ goes (begins 11 (((codes "t"), (pos 2)) ∷ ((codes "i"), (pos 1)) ∷ [])) ∷ goes (done 11) ∷ goes (edge 9) ∷ goes (begins 10 (((codes "t"), (pos 2)) ∷ ((codes "i"), (pos 2)) ∷ [])) ∷ goes (made 10 (print (pos 2))) ∷ goes (done 10) ∷ goes (begins 11 (((codes "t"), (pos 2)) ∷ ((codes "i"), (pos 2)) ∷ [])) ∷ goes (done 11) ∷ goes (edge 9) ∷ goes (begins 10 (((codes "t"), (pos 2)) ∷ ((codes "i"), (pos 3)) ∷ [])) ∷ goes (made 10 (print (pos 3))) ∷ goes (done 10) ∷ goes (begins 11 (((codes "t"), (pos 2)) ∷ ((codes "i"), (pos 3)) ∷ [])) ∷ goes (done 11) ∷ goes (edge 9) ∷ goes (begins 10 (((codes "t"), (pos 2)) ∷ ((codes "i"), (pos 4)) ∷ [])) ∷ goes (made 10 (print (pos 4))) ∷ goes (done 10) ∷ goes (begins 11 (((codes "t"), (pos 2)) ∷ ((codes "i"), (pos 4)) ∷ [])) ∷ goes (done 11) ∷ goes (edge 9) ∷ goes (begins 10 (((codes "t"), (pos 2)) ∷ ((codes "i"), (pos 5)) ∷ [])) ∷ goes (made 10 (print (pos 5))) ∷ goes (done 10) ∷ goes (begins 11 (((codes "t"), (pos 2)) ∷ ((codes "i"), (pos 5)) ∷ [])) ∷ goes (done 11) ∷ goes (edge 9) ∷ goes (done 9) ∷ goes (begins 13 (((codes "t"), (pos 2)) ∷ ((codes "i"), (pos 6)) ∷ [])) ∷ goes (made 13 (up 0)) ∷ goes (done 13) ∷ goes (begins 14 (((codes "t"), (pos 2)) ∷ ((codes "i"), (pos 6)) ∷ [])) ∷ makes 14 (blocked (w.Join 2)) ∷ goes (made 14 (join 2)) ∷ goes (done 14) ∷ goes (out 1) ∷ goes (made 6 end) ∷ [])

pub woven_r9_1 : AreWoven program_r9 (plans_of commands_r9) (unborn (Own.versions own_r9_1)) steps_r9_1 []
woven_r9_1 = ((refl, tt), (refl, (refl, (refl, (refl, (refl, (refl, (refl, (refl, (record { asks = refl; not_yet = refl }, (record { place = _; next = refl; number = refl; line = refl; version = refl; passed = refl }, (refl, (refl, (refl, (refl, (refl, (refl, (refl, (refl, (refl, (refl, (refl, (refl, (refl, (refl, (refl, (refl, (refl, (refl, (refl, (refl, (refl, (refl, (refl, (refl, (refl, (refl, (refl, (refl, (refl, (refl, (refl, (refl, (refl, (refl, (refl, (refl, (refl, (refl, (refl, (refl, (record { asks = refl; not_yet = refl }, (refl, (refl, (refl, (refl, tt))))))))))))))))))))))))))))))))))))))))))))))))))))))))

pub told_r9_1 : filter_entries 1 steps_r9_1 ≡ Own.entries own_r9_1
told_r9_1 = refl

abbrev pub own_r9_2 : Own
own_r9_2 = record { thread = 2; func = 0; args = []; versions = (record { number = 1; active = (1 ∷ []) } ∷ record { number = 2; active = [] } ∷ []); entries = (e.Begin 2 2 ∷ e.Enter 2 3 1 1 ∷ e.At 2 3 1 (1 ∷ 3 ∷ []) ∷ e.Blocked 2 3 (w.Down 0) ∷ e.Cross 2 3 2 2 0 ∷ e.Blocked 2 3 (w.Down 0) ∷ e.Down 2 3 0 ∷ e.Print 2 4 (pos 1) ∷ e.End 2 2 ∷ []) }

abbrev pub steps_r9_2 : List PartStep
steps_r9_2 = (goes (made 2 begin) ∷ goes (enter 0 []) ∷ goes (begins 3 []) ∷ makes 3 (enters 1 1) ∷ makes 3 (walk.at 1 (1 ∷ 3 ∷ [])) ∷ makes 3 (blocked (w.Down 0)) ∷ makes 3 (cross 2 2 0) ∷ makes 3 (blocked (w.Down 0)) ∷ goes (made 3 (down 0)) ∷ goes (done 3) ∷ goes (begins 4 []) ∷ goes (made 4 (print (pos 1))) ∷ goes (done 4) ∷ goes (out 0) ∷ goes (made 2 end) ∷ [])

pub part_r9_2 : IsPart program_r9 (plans_of commands_r9) own_r9_2
part_r9_2 = record {
  steps = steps_r9_2;
  ahead = [];
  outcome = Finished;
  trace = record { most_turns = 3; gives = next (next (next (next (next (next (next (next (next (next ((refl, inl refl))))))))))) };
  woven = ((refl, tt), (refl, (refl, (refl, (refl, (record { asks = refl; not_yet = refl }, (record { place = _; next = refl; number = refl; line = refl; version = refl; passed = refl }, (record { asks = refl; not_yet = refl }, (refl, (refl, (refl, (refl, (refl, (refl, (refl, tt)))))))))))))));
  tells = refl;
  taken = refl;
}

abbrev pub point_r9_0 : List PartStep
point_r9_0 = (goes (made 6 begin) ∷ goes (enter 1 (((codes "t"), (pos 0)) ∷ ((codes "i"), (pos 0)) ∷ [])) ∷ goes (begins 7 (((codes "t"), (pos 0)) ∷ ((codes "i"), (pos 0)) ∷ [])) ∷ goes (made 7 (spawn 2 0 [])) ∷ goes (done 7) ∷ goes (begins 8 (((codes "t"), (pos 2)) ∷ ((codes "i"), (pos 0)) ∷ [])) ∷ goes (done 8) ∷ goes (begins 9 (((codes "t"), (pos 2)) ∷ ((codes "i"), (pos 0)) ∷ [])) ∷ goes (begins 10 (((codes "t"), (pos 2)) ∷ ((codes "i"), (pos 0)) ∷ [])) ∷ makes 10 (blocked (w.Wait 1 4)) ∷ [])

pub woven_point_r9_0 : AreWoven program_r9 (plans_of commands_r9) (unborn (record { number = 1; active = (1 ∷ []) } ∷ [])) point_r9_0 ((made 1 end) ∷ [])
woven_point_r9_0 = ((refl, tt), (refl, (refl, (refl, (refl, (refl, (refl, (refl, (refl, (record { asks = refl; not_yet = refl }, tt))))))))))

abbrev pub led_r9_0 : Walk
led_r9_0 = walk_from program_r9 (plans_of commands_r9) (unborn (record { number = 1; active = (1 ∷ []) } ∷ [])) point_r9_0

pub stands_r9_0 : place_of_next led_r9_0 (Walk.owed led_r9_0) ((made 1 end) ∷ []) ≡ Some (place.inside 10)
stands_r9_0 = refl

pub number_r9_0 : place_number program_r9 (place.inside 10) ≡ 10
number_r9_0 = refl

abbrev pub point_r9_1 : List PartStep
point_r9_1 = (goes (made 2 begin) ∷ goes (enter 0 []) ∷ goes (begins 3 []) ∷ makes 3 (enters 1 1) ∷ makes 3 (walk.at 1 (1 ∷ 3 ∷ [])) ∷ makes 3 (blocked (w.Down 0)) ∷ [])

pub woven_point_r9_1 : AreWoven program_r9 (plans_of commands_r9) (unborn (record { number = 1; active = (1 ∷ []) } ∷ [])) point_r9_1 ((made 3 (down 0)) ∷ [])
woven_point_r9_1 = ((refl, tt), (refl, (refl, (refl, (refl, (record { asks = refl; not_yet = refl }, tt))))))

abbrev pub led_r9_1 : Walk
led_r9_1 = walk_from program_r9 (plans_of commands_r9) (unborn (record { number = 1; active = (1 ∷ []) } ∷ [])) point_r9_1

pub stands_r9_1 : place_of_next led_r9_1 (Walk.owed led_r9_1) ((made 3 (down 0)) ∷ []) ≡ Some (place.inside 3)
stands_r9_1 = refl

pub number_r9_1 : place_number program_r9 (place.inside 3) ≡ 2
number_r9_1 = refl

abbrev pub journal_r9 : List Entry
journal_r9 = (e.Asked 1 ∷ e.Installed 1 1 (0 ∷ 0 ∷ 0 ∷ 0 ∷ 0 ∷ 0 ∷ 0 ∷ 0 ∷ []) ∷ e.Begin 1 6 ∷ e.Spawn 1 7 2 0 [] ∷ e.Begin 2 2 ∷ e.Blocked 1 10 (w.Wait 1 4) ∷ e.Enter 2 3 1 1 ∷ e.At 2 3 1 (1 ∷ 3 ∷ []) ∷ e.Blocked 2 3 (w.Down 0) ∷ e.Asked 2 ∷ e.Removed 2 2 (10 ∷ 2 ∷ 0 ∷ 0 ∷ 0 ∷ 0 ∷ 0 ∷ 0 ∷ []) ∷ e.Cross 1 10 10 2 0 ∷ e.Cross 2 3 2 2 0 ∷ e.Print 1 10 (pos 0) ∷ e.Blocked 2 3 (w.Down 0) ∷ e.Print 1 10 (pos 1) ∷ e.Print 1 10 (pos 2) ∷ e.Print 1 10 (pos 3) ∷ e.Print 1 10 (pos 4) ∷ e.Print 1 10 (pos 5) ∷ e.Up 1 13 0 ∷ e.Down 2 3 0 ∷ e.Blocked 1 14 (w.Join 2) ∷ e.Print 2 4 (pos 1) ∷ e.End 2 2 ∷ e.Join 1 14 2 ∷ e.End 1 6 ∷ e.Finish k.Done ∷ [])

pub crosses_r9 : check_crosses [] journal_r9 ≡ true
crosses_r9 = refl

pub holds_r9 : check_holds commands_r9 [] journal_r9 ≡ true
holds_r9 = refl

pub takes_r9_1 : versions_of commands_r9 1 journal_r9 ≡ Own.versions own_r9_1
takes_r9_1 = refl

pub made_r9_1 : entries_of 1 journal_r9 ≡ Own.entries own_r9_1
made_r9_1 = refl

pub takes_r9_2 : versions_of commands_r9 2 journal_r9 ≡ Own.versions own_r9_2
takes_r9_2 = refl

pub made_r9_2 : entries_of 2 journal_r9 ≡ Own.entries own_r9_2
made_r9_2 = refl

-- r10
--   sema s;
--   fn w() {
--   down s;
--   }
--   fn main() {
--   let t = spawn w();
--   let i = 0;
--   while (i < 5) {
--   print i;
--   i = i + 1;
--   }
--   up s;
--   join t;
--   }
--
--
-- script: at 5 install a {e.lm:12; e.lm:12}
-- script:
abbrev pub program_r10 : Source
program_r10 = record { words = []; mutexes = []; semas = (record { name = (codes "s"); first = 0 } ∷ []); funcs = (record { name = (codes "w"); line = 2; params = []; body = (simple 3 (tree.down (codes "s")) tree.end) } ∷ record { name = (codes "main"); line = 5; params = []; body = (simple 6 (let_ (codes "t") (Right.spawn (codes "w") [])) (simple 7 (let_ (codes "i") (Right.value (num (pos 0)))) (while_ 8 (bin o.Lt (var (codes "i")) (num (pos 5))) (simple 9 (tree.print (var (codes "i"))) (simple 10 (set (codes "i") (Right.value (bin o.Add (var (codes "i")) (num (pos 1))))) tree.end)) (simple 12 (tree.up (codes "s")) (simple 13 (tree.join (var (codes "t"))) tree.end))))) } ∷ []) }

abbrev pub commands_r10 : List Command
commands_r10 = (record { trigger = script.at 5; name = (codes "a"); action = install (means (plan_of program_r10 ((Clause.exclusive ((Region.between (record { file = (codes "e.lm"); line = 12; test = None } ∷ []) (record { file = (codes "e.lm"); line = 12; test = None } ∷ [])) ∷ [])) ∷ []))) } ∷ [])

abbrev pub own_r10_1 : Own
own_r10_1 = record { thread = 1; func = 1; args = []; versions = (record { number = 0; active = [] } ∷ record { number = 1; active = (1 ∷ []) } ∷ []); entries = (e.Begin 1 5 ∷ e.Spawn 1 6 2 0 [] ∷ e.Print 1 9 (pos 0) ∷ e.Cross 1 8 8 1 0 ∷ e.Print 1 9 (pos 1) ∷ e.Print 1 9 (pos 2) ∷ e.Print 1 9 (pos 3) ∷ e.Print 1 9 (pos 4) ∷ e.Enter 1 12 1 1 ∷ e.At 1 12 1 (1 ∷ 2 ∷ []) ∷ e.Up 1 12 0 ∷ e.Past 1 12 1 (1 ∷ 2 ∷ []) ∷ e.Leave 1 12 1 1 ∷ e.Join 1 13 2 ∷ e.End 1 5 ∷ []) }

abbrev pub steps_r10_1 : List PartStep
steps_r10_1 = (goes (made 5 begin) ∷ goes (enter 1 (((codes "t"), (pos 0)) ∷ ((codes "i"), (pos 0)) ∷ [])) ∷ goes (begins 6 (((codes "t"), (pos 0)) ∷ ((codes "i"), (pos 0)) ∷ [])) ∷ goes (made 6 (spawn 2 0 [])) ∷ goes (done 6) ∷ goes (begins 7 (((codes "t"), (pos 2)) ∷ ((codes "i"), (pos 0)) ∷ [])) ∷ goes (done 7) ∷ goes (begins 8 (((codes "t"), (pos 2)) ∷ ((codes "i"), (pos 0)) ∷ [])) ∷ goes (begins 9 (((codes "t"), (pos 2)) ∷ ((codes "i"), (pos 0)) ∷ [])) ∷ goes (made 9 (print (pos 0))) ∷ goes (done 9) ∷ goes (begins 10 (((codes "t"), (pos 2)) ∷ ((codes "i"), (pos 0)) ∷ [])) ∷ goes (done 10) ∷ makes 8 (cross 8 1 0) ∷ goes (edge 8) ∷ goes (begins 9 (((codes "t"), (pos 2)) ∷ ((codes "i"), (pos 1)) ∷ [])) ∷ goes (made 9 (print (pos 1))) ∷ goes (done 9) ∷ goes (begins 10 (((codes "t"), (pos 2)) ∷ ((codes "i"), (pos 1)) ∷ [])) ∷ goes (done 10) ∷ goes (edge 8) ∷ goes (begins 9 (((codes "t"), (pos 2)) ∷ ((codes "i"), (pos 2)) ∷ [])) ∷ goes (made 9 (print (pos 2))) ∷ goes (done 9) ∷ goes (begins 10 (((codes "t"), (pos 2)) ∷ ((codes "i"), (pos 2)) ∷ [])) ∷ goes (done 10) ∷ goes (edge 8) ∷ goes (begins 9 (((codes "t"), (pos 2)) ∷ ((codes "i"), (pos 3)) ∷ [])) ∷ goes (made 9 (print (pos 3))) ∷ goes (done 9) ∷ goes (begins 10 (((codes "t"), (pos 2)) ∷ ((codes "i"), (pos 3)) ∷ [])) ∷ goes (done 10) ∷ goes (edge 8) ∷ goes (begins 9 (((codes "t"), (pos 2)) ∷ ((codes "i"), (pos 4)) ∷ [])) ∷ goes (made 9 (print (pos 4))) ∷ goes (done 9) ∷ goes (begins 10 (((codes "t"), (pos 2)) ∷ ((codes "i"), (pos 4)) ∷ [])) ∷ goes (done 10) ∷ goes (edge 8) ∷ goes (done 8) ∷ goes (begins 12 (((codes "t"), (pos 2)) ∷ ((codes "i"), (pos 5)) ∷ [])) ∷ makes 12 (enters 1 1) ∷ makes 12 (walk.at 1 (1 ∷ 2 ∷ [])) ∷ goes (made 12 (up 0)) ∷ goes (done 12) ∷ makes 12 (walk.past 1 (1 ∷ 2 ∷ [])) ∷ makes 12 (leave 1 1) ∷ goes (begins 13 (((codes "t"), (pos 2)) ∷ ((codes "i"), (pos 5)) ∷ [])) ∷ goes (made 13 (join 2)) ∷ goes (done 13) ∷ goes (out 1) ∷ goes (made 5 end) ∷ [])

pub woven_r10_1 : AreWoven program_r10 (plans_of commands_r10) (unborn (Own.versions own_r10_1)) steps_r10_1 []
woven_r10_1 = ((refl, tt), (refl, (refl, (refl, (refl, (refl, (refl, (refl, (refl, (refl, (refl, (refl, (refl, (record { place = _; next = refl; number = refl; line = refl; version = refl; passed = refl }, (refl, (refl, (refl, (refl, (refl, (refl, (refl, (refl, (refl, (refl, (refl, (refl, (refl, (refl, (refl, (refl, (refl, (refl, (refl, (refl, (refl, (refl, (refl, (refl, (refl, (refl, (refl, (refl, (refl, (refl, (refl, (refl, (refl, (refl, (refl, (refl, (refl, (refl, tt))))))))))))))))))))))))))))))))))))))))))))))))))))

pub told_r10_1 : filter_entries 1 steps_r10_1 ≡ Own.entries own_r10_1
told_r10_1 = refl

abbrev pub own_r10_2 : Own
own_r10_2 = record { thread = 2; func = 0; args = []; versions = (record { number = 0; active = [] } ∷ record { number = 1; active = (1 ∷ []) } ∷ []); entries = (e.Begin 2 2 ∷ e.Blocked 2 3 (w.Down 0) ∷ e.Cross 2 3 2 1 0 ∷ e.Blocked 2 3 (w.Down 0) ∷ e.Down 2 3 0 ∷ e.End 2 2 ∷ []) }

abbrev pub steps_r10_2 : List PartStep
steps_r10_2 = (goes (made 2 begin) ∷ goes (enter 0 []) ∷ goes (begins 3 []) ∷ makes 3 (blocked (w.Down 0)) ∷ makes 3 (cross 2 1 0) ∷ makes 3 (blocked (w.Down 0)) ∷ goes (made 3 (down 0)) ∷ goes (done 3) ∷ goes (out 0) ∷ goes (made 2 end) ∷ [])

pub part_r10_2 : IsPart program_r10 (plans_of commands_r10) own_r10_2
part_r10_2 = record {
  steps = steps_r10_2;
  ahead = [];
  outcome = Finished;
  trace = record { most_turns = 3; gives = next (next (next (next (next (next (next ((refl, inl refl)))))))) };
  woven = ((refl, tt), (refl, (refl, (record { asks = refl; not_yet = refl }, (record { place = _; next = refl; number = refl; line = refl; version = refl; passed = refl }, (record { asks = refl; not_yet = refl }, (refl, (refl, (refl, (refl, tt))))))))));
  tells = refl;
  taken = refl;
}

abbrev pub point_r10_0 : List PartStep
point_r10_0 = (goes (made 5 begin) ∷ goes (enter 1 (((codes "t"), (pos 0)) ∷ ((codes "i"), (pos 0)) ∷ [])) ∷ goes (begins 6 (((codes "t"), (pos 0)) ∷ ((codes "i"), (pos 0)) ∷ [])) ∷ goes (made 6 (spawn 2 0 [])) ∷ goes (done 6) ∷ goes (begins 7 (((codes "t"), (pos 2)) ∷ ((codes "i"), (pos 0)) ∷ [])) ∷ goes (done 7) ∷ goes (begins 8 (((codes "t"), (pos 2)) ∷ ((codes "i"), (pos 0)) ∷ [])) ∷ goes (begins 9 (((codes "t"), (pos 2)) ∷ ((codes "i"), (pos 0)) ∷ [])) ∷ goes (made 9 (print (pos 0))) ∷ goes (done 9) ∷ goes (begins 10 (((codes "t"), (pos 2)) ∷ ((codes "i"), (pos 0)) ∷ [])) ∷ goes (done 10) ∷ [])

pub woven_point_r10_0 : AreWoven program_r10 (plans_of commands_r10) (unborn (record { number = 0; active = [] } ∷ [])) point_r10_0 ((edge 8) ∷ [])
woven_point_r10_0 = ((refl, tt), (refl, (refl, (refl, (refl, (refl, (refl, (refl, (refl, (refl, (refl, (refl, (refl, tt)))))))))))))

abbrev pub led_r10_0 : Walk
led_r10_0 = walk_from program_r10 (plans_of commands_r10) (unborn (record { number = 0; active = [] } ∷ [])) point_r10_0

pub stands_r10_0 : place_of_next led_r10_0 (Walk.owed led_r10_0) ((edge 8) ∷ []) ≡ Some (place.back_edge 8)
stands_r10_0 = refl

pub number_r10_0 : place_number program_r10 (place.back_edge 8) ≡ 8
number_r10_0 = refl

abbrev pub point_r10_1 : List PartStep
point_r10_1 = (goes (made 5 begin) ∷ goes (enter 1 (((codes "t"), (pos 0)) ∷ ((codes "i"), (pos 0)) ∷ [])) ∷ goes (begins 6 (((codes "t"), (pos 0)) ∷ ((codes "i"), (pos 0)) ∷ [])) ∷ goes (made 6 (spawn 2 0 [])) ∷ goes (done 6) ∷ goes (begins 7 (((codes "t"), (pos 2)) ∷ ((codes "i"), (pos 0)) ∷ [])) ∷ goes (done 7) ∷ goes (begins 8 (((codes "t"), (pos 2)) ∷ ((codes "i"), (pos 0)) ∷ [])) ∷ goes (begins 9 (((codes "t"), (pos 2)) ∷ ((codes "i"), (pos 0)) ∷ [])) ∷ goes (made 9 (print (pos 0))) ∷ goes (done 9) ∷ goes (begins 10 (((codes "t"), (pos 2)) ∷ ((codes "i"), (pos 0)) ∷ [])) ∷ goes (done 10) ∷ goes (edge 8) ∷ goes (begins 9 (((codes "t"), (pos 2)) ∷ ((codes "i"), (pos 1)) ∷ [])) ∷ [])

pub woven_point_r10_1 : AreWoven program_r10 (plans_of commands_r10) (unborn (record { number = 0; active = [] } ∷ [])) point_r10_1 ((made 9 (print (pos 1))) ∷ [])
woven_point_r10_1 = ((refl, tt), (refl, (refl, (refl, (refl, (refl, (refl, (refl, (refl, (refl, (refl, (refl, (refl, (refl, (refl, tt)))))))))))))))

abbrev pub led_r10_1 : Walk
led_r10_1 = walk_from program_r10 (plans_of commands_r10) (unborn (record { number = 0; active = [] } ∷ [])) point_r10_1

pub stands_r10_1 : place_of_next led_r10_1 (Walk.owed led_r10_1) ((made 9 (print (pos 1))) ∷ []) ≡ Some (place.inside 9)
stands_r10_1 = refl

pub number_r10_1 : place_number program_r10 (place.inside 9) ≡ 9
number_r10_1 = refl

abbrev pub point_r10_2 : List PartStep
point_r10_2 = (goes (made 2 begin) ∷ goes (enter 0 []) ∷ goes (begins 3 []) ∷ makes 3 (blocked (w.Down 0)) ∷ [])

pub woven_point_r10_2 : AreWoven program_r10 (plans_of commands_r10) (unborn (record { number = 0; active = [] } ∷ [])) point_r10_2 ((made 3 (down 0)) ∷ [])
woven_point_r10_2 = ((refl, tt), (refl, (refl, (record { asks = refl; not_yet = refl }, tt))))

abbrev pub led_r10_2 : Walk
led_r10_2 = walk_from program_r10 (plans_of commands_r10) (unborn (record { number = 0; active = [] } ∷ [])) point_r10_2

pub stands_r10_2 : place_of_next led_r10_2 (Walk.owed led_r10_2) ((made 3 (down 0)) ∷ []) ≡ Some (place.inside 3)
stands_r10_2 = refl

pub number_r10_2 : place_number program_r10 (place.inside 3) ≡ 2
number_r10_2 = refl

abbrev pub journal_r10 : List Entry
journal_r10 = (e.Begin 1 5 ∷ e.Spawn 1 6 2 0 [] ∷ e.Begin 2 2 ∷ e.Print 1 9 (pos 0) ∷ e.Blocked 2 3 (w.Down 0) ∷ e.Asked 1 ∷ e.Installed 1 1 (8 ∷ 2 ∷ 0 ∷ 0 ∷ 0 ∷ 0 ∷ 0 ∷ 0 ∷ []) ∷ e.Cross 1 8 8 1 0 ∷ e.Cross 2 3 2 1 0 ∷ e.Print 1 9 (pos 1) ∷ e.Blocked 2 3 (w.Down 0) ∷ e.Print 1 9 (pos 2) ∷ e.Print 1 9 (pos 3) ∷ e.Print 1 9 (pos 4) ∷ e.Enter 1 12 1 1 ∷ e.At 1 12 1 (1 ∷ 2 ∷ []) ∷ e.Up 1 12 0 ∷ e.Down 2 3 0 ∷ e.Past 1 12 1 (1 ∷ 2 ∷ []) ∷ e.End 2 2 ∷ e.Leave 1 12 1 1 ∷ e.Join 1 13 2 ∷ e.End 1 5 ∷ e.Finish k.Done ∷ [])

pub crosses_r10 : check_crosses [] journal_r10 ≡ true
crosses_r10 = refl

pub holds_r10 : check_holds commands_r10 [] journal_r10 ≡ true
holds_r10 = refl

pub takes_r10_1 : versions_of commands_r10 1 journal_r10 ≡ Own.versions own_r10_1
takes_r10_1 = refl

pub made_r10_1 : entries_of 1 journal_r10 ≡ Own.entries own_r10_1
made_r10_1 = refl

pub takes_r10_2 : versions_of commands_r10 2 journal_r10 ≡ Own.versions own_r10_2
takes_r10_2 = refl

pub made_r10_2 : entries_of 2 journal_r10 ≡ Own.entries own_r10_2
made_r10_2 = refl

-- r11
--   shared x;
--   fn f() {
--   x = 1;
--   print 1 / 0;
--   x = 2;
--   }
--   fn main() {
--   f();
--   }
--
--
-- script: at 0 install a {e.lm:3; e.lm:5}; f()
-- script: at 0 install b {e.lm:4; e.lm:4} <> *
-- script:
abbrev pub program_r11 : Source
program_r11 = record { words = (record { name = (codes "x"); cells = None; first = (pos 0) } ∷ []); mutexes = []; semas = []; funcs = (record { name = (codes "f"); line = 2; params = []; body = (simple 3 (set (codes "x") (Right.value (num (pos 1)))) (simple 4 (tree.print (bin o.Div (num (pos 1)) (num (pos 0)))) (simple 5 (set (codes "x") (Right.value (num (pos 2)))) tree.end))) } ∷ record { name = (codes "main"); line = 7; params = []; body = (simple 8 (Simple.call (codes "f") []) tree.end) } ∷ []) }

abbrev pub commands_r11 : List Command
commands_r11 = (record { trigger = script.at 0; name = (codes "a"); action = install (means (plan_of program_r11 ((Clause.exclusive ((Region.between (record { file = (codes "e.lm"); line = 3; test = None } ∷ []) (record { file = (codes "e.lm"); line = 5; test = None } ∷ [])) ∷ [])) ∷ (Clause.exclusive ((Region.whole (codes "f") None) ∷ [])) ∷ []))) } ∷ record { trigger = script.at 0; name = (codes "b"); action = install (means (plan_of program_r11 ((Clause.unilateral (Region.between (record { file = (codes "e.lm"); line = 4; test = None } ∷ []) (record { file = (codes "e.lm"); line = 4; test = None } ∷ []))) ∷ []))) } ∷ [])

abbrev pub own_r11_1 : Own
own_r11_1 = record { thread = 1; func = 1; args = []; versions = (record { number = 2; active = (1 ∷ 2 ∷ []) } ∷ []); entries = (e.Begin 1 7 ∷ e.Enter 1 2 1 2 ∷ e.At 1 2 1 (3 ∷ []) ∷ e.Enter 1 3 1 1 ∷ e.At 1 3 1 (1 ∷ []) ∷ e.Write 1 3 0 (pos 1) ∷ e.Past 1 3 1 (1 ∷ []) ∷ e.Enter 1 4 2 1 ∷ e.At 1 4 2 (1 ∷ 2 ∷ []) ∷ e.Trap 1 4 1 ∷ e.Leave 1 4 1 1 ∷ e.Leave 1 4 1 2 ∷ e.Leave 1 4 2 1 ∷ e.End 1 7 ∷ []) }

abbrev pub steps_r11_1 : List PartStep
steps_r11_1 = (goes (made 7 begin) ∷ goes (enter 1 []) ∷ goes (begins 8 []) ∷ goes (enter 0 []) ∷ makes 2 (enters 1 2) ∷ makes 2 (walk.at 1 (3 ∷ [])) ∷ goes (begins 3 []) ∷ makes 3 (enters 1 1) ∷ makes 3 (walk.at 1 (1 ∷ [])) ∷ goes (made 3 (write 0 (pos 1))) ∷ goes (done 3) ∷ makes 3 (walk.past 1 (1 ∷ [])) ∷ goes (begins 4 []) ∷ makes 4 (enters 2 1) ∷ makes 4 (walk.at 2 (1 ∷ 2 ∷ [])) ∷ goes (made 4 (trap division)) ∷ makes 4 (leave 1 1) ∷ makes 4 (leave 1 2) ∷ makes 4 (leave 2 1) ∷ goes (made 7 end) ∷ [])

pub part_r11_1 : IsPart program_r11 (plans_of commands_r11) own_r11_1
part_r11_1 = record {
  steps = steps_r11_1;
  ahead = [];
  outcome = Finished;
  trace = record { most_turns = 3; gives = next (next (next (next (next (next (next (next (next (next ((refl, inl refl))))))))))) };
  woven = ((refl, tt), (refl, (refl, (refl, (refl, (refl, (refl, (refl, (refl, (refl, (refl, (refl, (refl, (refl, (refl, (refl, (refl, (refl, (refl, (refl, tt))))))))))))))))))));
  tells = refl;
  taken = refl;
}

abbrev pub journal_r11 : List Entry
journal_r11 = (e.Asked 1 ∷ e.Installed 1 1 (0 ∷ 0 ∷ 0 ∷ 0 ∷ 0 ∷ 0 ∷ 0 ∷ 0 ∷ []) ∷ e.Asked 2 ∷ e.Installed 2 2 (0 ∷ 0 ∷ 0 ∷ 0 ∷ 0 ∷ 0 ∷ 0 ∷ 0 ∷ []) ∷ e.Begin 1 7 ∷ e.Enter 1 2 1 2 ∷ e.At 1 2 1 (3 ∷ []) ∷ e.Enter 1 3 1 1 ∷ e.At 1 3 1 (1 ∷ []) ∷ e.Write 1 3 0 (pos 1) ∷ e.Past 1 3 1 (1 ∷ []) ∷ e.Enter 1 4 2 1 ∷ e.At 1 4 2 (1 ∷ 2 ∷ []) ∷ e.Trap 1 4 1 ∷ e.Leave 1 4 1 1 ∷ e.Leave 1 4 1 2 ∷ e.Leave 1 4 2 1 ∷ e.End 1 7 ∷ e.Finish k.Done ∷ [])

pub crosses_r11 : check_crosses [] journal_r11 ≡ true
crosses_r11 = refl

pub holds_r11 : check_holds commands_r11 [] journal_r11 ≡ true
holds_r11 = refl

pub takes_r11_1 : versions_of commands_r11 1 journal_r11 ≡ Own.versions own_r11_1
takes_r11_1 = refl

pub made_r11_1 : entries_of 1 journal_r11 ≡ Own.entries own_r11_1
made_r11_1 = refl

-- r12
--   shared x;
--   fn f() {
--   x = 1;
--   return x;
--   }
--   fn main() {
--   print 1;
--   f();
--   }
--
--
-- script: at 0 install a f(); {e.lm:3; e.lm:4}
-- script: at 0 install b {e.lm:3; e.lm:3 (0)}; f() <> *
-- script:
abbrev pub program_r12 : Source
program_r12 = record { words = (record { name = (codes "x"); cells = None; first = (pos 0) } ∷ []); mutexes = []; semas = []; funcs = (record { name = (codes "f"); line = 2; params = []; body = (simple 3 (set (codes "x") (Right.value (num (pos 1)))) (simple 4 (tree.return (Some (var (codes "x")))) tree.end)) } ∷ record { name = (codes "main"); line = 6; params = []; body = (simple 7 (tree.print (num (pos 1))) (simple 8 (Simple.call (codes "f") []) tree.end)) } ∷ []) }

abbrev pub commands_r12 : List Command
commands_r12 = (record { trigger = script.at 0; name = (codes "a"); action = install (means (plan_of program_r12 ((Clause.exclusive ((Region.whole (codes "f") None) ∷ [])) ∷ (Clause.exclusive ((Region.between (record { file = (codes "e.lm"); line = 3; test = None } ∷ []) (record { file = (codes "e.lm"); line = 4; test = None } ∷ [])) ∷ [])) ∷ []))) } ∷ record { trigger = script.at 0; name = (codes "b"); action = install (means (plan_of program_r12 ((Clause.exclusive ((Region.between (record { file = (codes "e.lm"); line = 3; test = None } ∷ []) (record { file = (codes "e.lm"); line = 3; test = (Some (num (pos 0))) } ∷ [])) ∷ [])) ∷ (Clause.unilateral (Region.whole (codes "f") None)) ∷ []))) } ∷ [])

abbrev pub own_r12_1 : Own
own_r12_1 = record { thread = 1; func = 1; args = []; versions = (record { number = 2; active = (1 ∷ 2 ∷ []) } ∷ []); entries = (e.Begin 1 6 ∷ e.Print 1 7 (pos 1) ∷ e.Enter 1 2 1 1 ∷ e.At 1 2 1 (1 ∷ []) ∷ e.Enter 1 2 2 2 ∷ e.At 1 2 2 (3 ∷ []) ∷ e.Enter 1 3 1 2 ∷ e.At 1 3 1 (2 ∷ []) ∷ e.Enter 1 3 2 1 ∷ e.At 1 3 2 (1 ∷ []) ∷ e.Write 1 3 0 (pos 1) ∷ e.Past 1 3 1 (2 ∷ []) ∷ e.Past 1 3 2 (1 ∷ []) ∷ e.At 1 4 1 (3 ∷ []) ∷ e.Read 1 4 0 (pos 1) ∷ e.Past 1 4 1 (3 ∷ []) ∷ e.Leave 1 4 1 2 ∷ e.Back 1 2 ∷ e.Leave 1 2 1 1 ∷ e.Leave 1 2 2 1 ∷ e.Leave 1 2 2 2 ∷ e.End 1 6 ∷ []) }

abbrev pub steps_r12_1 : List PartStep
steps_r12_1 = (goes (made 6 begin) ∷ goes (enter 1 []) ∷ goes (begins 7 []) ∷ goes (made 7 (print (pos 1))) ∷ goes (done 7) ∷ goes (begins 8 []) ∷ goes (enter 0 []) ∷ makes 2 (enters 1 1) ∷ makes 2 (walk.at 1 (1 ∷ [])) ∷ makes 2 (enters 2 2) ∷ makes 2 (walk.at 2 (3 ∷ [])) ∷ goes (begins 3 []) ∷ makes 3 (enters 1 2) ∷ makes 3 (walk.at 1 (2 ∷ [])) ∷ makes 3 (enters 2 1) ∷ makes 3 (walk.at 2 (1 ∷ [])) ∷ goes (made 3 (write 0 (pos 1))) ∷ goes (done 3) ∷ makes 3 (walk.past 1 (2 ∷ [])) ∷ makes 3 (walk.past 2 (1 ∷ [])) ∷ goes (begins 4 []) ∷ makes 4 (walk.at 1 (3 ∷ [])) ∷ goes (made 4 (read 0 (pos 1))) ∷ goes (done 4) ∷ makes 4 (walk.past 1 (3 ∷ [])) ∷ makes 4 (leave 1 2) ∷ goes (out 0) ∷ makes 2 (back) ∷ makes 2 (leave 1 1) ∷ makes 2 (leave 2 1) ∷ makes 2 (leave 2 2) ∷ goes (done 8) ∷ goes (out 1) ∷ goes (made 6 end) ∷ [])

pub woven_r12_1 : AreWoven program_r12 (plans_of commands_r12) (unborn (Own.versions own_r12_1)) steps_r12_1 []
woven_r12_1 = ((refl, tt), (refl, (refl, (refl, (refl, (refl, (refl, (refl, (refl, (refl, (refl, (refl, (refl, (refl, (refl, (refl, (refl, (refl, (refl, (refl, (refl, (refl, (refl, (refl, (refl, (refl, (refl, (refl, (refl, (refl, (refl, (refl, (refl, (refl, tt))))))))))))))))))))))))))))))))))

pub told_r12_1 : filter_entries 1 steps_r12_1 ≡ Own.entries own_r12_1
told_r12_1 = refl

abbrev pub journal_r12 : List Entry
journal_r12 = (e.Asked 1 ∷ e.Installed 1 1 (0 ∷ 0 ∷ 0 ∷ 0 ∷ 0 ∷ 0 ∷ 0 ∷ 0 ∷ []) ∷ e.Asked 2 ∷ e.Installed 2 2 (0 ∷ 0 ∷ 0 ∷ 0 ∷ 0 ∷ 0 ∷ 0 ∷ 0 ∷ []) ∷ e.Begin 1 6 ∷ e.Print 1 7 (pos 1) ∷ e.Enter 1 2 1 1 ∷ e.At 1 2 1 (1 ∷ []) ∷ e.Enter 1 2 2 2 ∷ e.At 1 2 2 (3 ∷ []) ∷ e.Enter 1 3 1 2 ∷ e.At 1 3 1 (2 ∷ []) ∷ e.Enter 1 3 2 1 ∷ e.At 1 3 2 (1 ∷ []) ∷ e.Write 1 3 0 (pos 1) ∷ e.Past 1 3 1 (2 ∷ []) ∷ e.Past 1 3 2 (1 ∷ []) ∷ e.At 1 4 1 (3 ∷ []) ∷ e.Read 1 4 0 (pos 1) ∷ e.Past 1 4 1 (3 ∷ []) ∷ e.Leave 1 4 1 2 ∷ e.Back 1 2 ∷ e.Leave 1 2 1 1 ∷ e.Leave 1 2 2 1 ∷ e.Leave 1 2 2 2 ∷ e.End 1 6 ∷ e.Finish k.Done ∷ [])

pub crosses_r12 : check_crosses [] journal_r12 ≡ true
crosses_r12 = refl

pub holds_r12 : check_holds commands_r12 [] journal_r12 ≡ true
holds_r12 = refl

pub takes_r12_1 : versions_of commands_r12 1 journal_r12 ≡ Own.versions own_r12_1
takes_r12_1 = refl

pub made_r12_1 : entries_of 1 journal_r12 ≡ Own.entries own_r12_1
made_r12_1 = refl

-- r13
--   shared x;
--   fn main() {
--   x = 1;
--   x = 2;
--   x = 3;
--   }
--
--
-- script: at 0 install a e.lm:3 > e.lm:5; {e.lm:4; e.lm:5}; e.lm:4 > e.lm:5; {e.lm:5; e.lm:5} <> *
-- script:
abbrev pub program_r13 : Source
program_r13 = record { words = (record { name = (codes "x"); cells = None; first = (pos 0) } ∷ []); mutexes = []; semas = []; funcs = (record { name = (codes "main"); line = 2; params = []; body = (simple 3 (set (codes "x") (Right.value (num (pos 1)))) (simple 4 (set (codes "x") (Right.value (num (pos 2)))) (simple 5 (set (codes "x") (Right.value (num (pos 3)))) tree.end))) } ∷ []) }

abbrev pub commands_r13 : List Command
commands_r13 = (record { trigger = script.at 0; name = (codes "a"); action = install (means (plan_of program_r13 ((Clause.order (record { event = record { file = (codes "e.lm"); line = 3; test = None }; count = 1 } ∷ record { event = record { file = (codes "e.lm"); line = 5; test = None }; count = 1 } ∷ [])) ∷ (Clause.exclusive ((Region.between (record { file = (codes "e.lm"); line = 4; test = None } ∷ []) (record { file = (codes "e.lm"); line = 5; test = None } ∷ [])) ∷ [])) ∷ (Clause.order (record { event = record { file = (codes "e.lm"); line = 4; test = None }; count = 1 } ∷ record { event = record { file = (codes "e.lm"); line = 5; test = None }; count = 1 } ∷ [])) ∷ (Clause.unilateral (Region.between (record { file = (codes "e.lm"); line = 5; test = None } ∷ []) (record { file = (codes "e.lm"); line = 5; test = None } ∷ []))) ∷ []))) } ∷ [])

abbrev pub own_r13_1 : Own
own_r13_1 = record { thread = 1; func = 0; args = []; versions = (record { number = 1; active = (1 ∷ []) } ∷ []); entries = (e.Begin 1 2 ∷ e.At 1 3 1 (1 ∷ []) ∷ e.Write 1 3 0 (pos 1) ∷ e.Past 1 3 1 (1 ∷ []) ∷ e.Post 1 3 1 1 ∷ e.Enter 1 4 1 2 ∷ e.At 1 4 1 (3 ∷ 5 ∷ []) ∷ e.Write 1 4 0 (pos 2) ∷ e.Past 1 4 1 (3 ∷ 5 ∷ []) ∷ e.Post 1 4 1 5 ∷ e.Wait 1 5 1 2 ∷ e.Wait 1 5 1 6 ∷ e.Enter 1 5 1 4 ∷ e.At 1 5 1 (2 ∷ 4 ∷ 6 ∷ 7 ∷ 8 ∷ []) ∷ e.Write 1 5 0 (pos 3) ∷ e.Past 1 5 1 (2 ∷ 4 ∷ 6 ∷ 7 ∷ 8 ∷ []) ∷ e.Leave 1 5 1 2 ∷ e.Leave 1 5 1 4 ∷ e.End 1 2 ∷ []) }

abbrev pub steps_r13_1 : List PartStep
steps_r13_1 = (goes (made 2 begin) ∷ goes (enter 0 []) ∷ goes (begins 3 []) ∷ makes 3 (walk.at 1 (1 ∷ [])) ∷ goes (made 3 (write 0 (pos 1))) ∷ goes (done 3) ∷ makes 3 (walk.past 1 (1 ∷ [])) ∷ makes 3 (post 1 1) ∷ goes (begins 4 []) ∷ makes 4 (enters 1 2) ∷ makes 4 (walk.at 1 (3 ∷ 5 ∷ [])) ∷ goes (made 4 (write 0 (pos 2))) ∷ goes (done 4) ∷ makes 4 (walk.past 1 (3 ∷ 5 ∷ [])) ∷ makes 4 (post 1 5) ∷ goes (begins 5 []) ∷ makes 5 (wait 1 2) ∷ makes 5 (wait 1 6) ∷ makes 5 (enters 1 4) ∷ makes 5 (walk.at 1 (2 ∷ 4 ∷ 6 ∷ 7 ∷ 8 ∷ [])) ∷ goes (made 5 (write 0 (pos 3))) ∷ goes (done 5) ∷ makes 5 (walk.past 1 (2 ∷ 4 ∷ 6 ∷ 7 ∷ 8 ∷ [])) ∷ makes 5 (leave 1 2) ∷ makes 5 (leave 1 4) ∷ goes (out 0) ∷ goes (made 2 end) ∷ [])

pub part_r13_1 : IsPart program_r13 (plans_of commands_r13) own_r13_1
part_r13_1 = record {
  steps = steps_r13_1;
  ahead = [];
  outcome = Finished;
  trace = record { most_turns = 3; gives = next (next (next (next (next (next (next (next (next (next (next (next (next ((refl, inl refl)))))))))))))) };
  woven = ((refl, tt), (refl, (refl, (refl, (refl, (refl, (refl, (refl, (refl, (refl, (refl, (refl, (refl, (refl, (refl, (refl, (refl, (refl, (refl, (refl, (refl, (refl, (refl, (refl, (refl, (refl, (refl, tt)))))))))))))))))))))))))));
  tells = refl;
  taken = refl;
}

abbrev pub journal_r13 : List Entry
journal_r13 = (e.Asked 1 ∷ e.Installed 1 1 (0 ∷ 0 ∷ 0 ∷ 0 ∷ 0 ∷ 0 ∷ 0 ∷ 0 ∷ []) ∷ e.Begin 1 2 ∷ e.At 1 3 1 (1 ∷ []) ∷ e.Write 1 3 0 (pos 1) ∷ e.Past 1 3 1 (1 ∷ []) ∷ e.Post 1 3 1 1 ∷ e.Enter 1 4 1 2 ∷ e.At 1 4 1 (3 ∷ 5 ∷ []) ∷ e.Write 1 4 0 (pos 2) ∷ e.Past 1 4 1 (3 ∷ 5 ∷ []) ∷ e.Post 1 4 1 5 ∷ e.Wait 1 5 1 2 ∷ e.Wait 1 5 1 6 ∷ e.Enter 1 5 1 4 ∷ e.At 1 5 1 (2 ∷ 4 ∷ 6 ∷ 7 ∷ 8 ∷ []) ∷ e.Write 1 5 0 (pos 3) ∷ e.Past 1 5 1 (2 ∷ 4 ∷ 6 ∷ 7 ∷ 8 ∷ []) ∷ e.Leave 1 5 1 2 ∷ e.Leave 1 5 1 4 ∷ e.End 1 2 ∷ e.Finish k.Done ∷ [])

pub crosses_r13 : check_crosses [] journal_r13 ≡ true
crosses_r13 = refl

pub holds_r13 : check_holds commands_r13 [] journal_r13 ≡ true
holds_r13 = refl

pub takes_r13_1 : versions_of commands_r13 1 journal_r13 ≡ Own.versions own_r13_1
takes_r13_1 = refl

pub made_r13_1 : entries_of 1 journal_r13 ≡ Own.entries own_r13_1
made_r13_1 = refl
