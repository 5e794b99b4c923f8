-- Parts of the threads of worked journals, written by a tool.
use Rattle.std.proofs.Common.{◌≡◌, inl, inr, pos, List, [], ◌∷◌, Some, None, refl, codes}
use Rattle.loom_trace.specs.declared.entry.Entry.{Entry}
use Rattle.loom_trace.specs.declared.entry.Entry.TheVariants as e
use Rattle.loom_trace.specs.declared.entry.What.TheVariants as w
use Rattle.loom_tree.specs.declared.expression.Op.TheVariants as o
use Rattle.loom_tree.specs.Tree.{num, var, cell, neg, inverse, bin, Right, Simple, let_, set, set_cell, simple, if_, while_, Source}
use Rattle.loom_tree.specs.Tree as tree
use Rattle.loom_lang.specs.Trace.{begin, end, read, write, lock, unlock, down, up, spawn, join, print, made, begins, done, edge, enter, out, Finished}
use Rattle.loom_event.proofs.Runs.{next, given}
use Rattle.loom_command.specs.Filter.{Region, Clause}
use Rattle.loom_law.specs.Filter.{plan_of}
use Rattle.loom_law.specs.Walk.{wait, enters, past, post, leave, back, tick, cross, blocked, PartStep, goes, makes, filter_entries, unborn, AreWoven}
use Rattle.loom_law.specs.Walk as walk
use Rattle.loom_command.specs.Script.{stall}
use Rattle.loom_command.specs.Script as script
use Rattle.loom_law.specs.Control.{means, install, remove, Command, plans_of}
use Rattle.loom_law.specs.ThreadPart.{Own, IsPart}
use Rattle.loom_law.specs.Walk.{Walk, walk_from, place_of_next, place_number}
use Rattle.loom_law.specs.Control.{versions_of, entries_of, control, Control, Holder, listed_places}
use Rattle.loom_law.specs.Lawful.{is_cross, owes_cross, is_held_by}
use Rattle.loom_event.specs.Entries.{thread_of}
use Rattle.loom_lang.specs.Places as place
use Rattle.loom_trace.specs.declared.entry.Ending.TheVariants as k
use Rattle.std.specs.List.{list_any}
use Rattle.std.proofs.Common.{ℕ, Bool, true, false, not, ◌&&◌, ◌==◌, ◌++◌, Option}

abbrev pub same_bool : Bool → Bool → Bool
same_bool true b = b
same_bool false b = not b

abbrev pub cross_of : Option ℕ → Entry → List Entry → Bool
cross_of None x front = true
cross_of (Some t) x front = same_bool (is_cross x) (owes_cross x (listed_places t front))

abbrev pub check_crosses : List Entry → List Entry → Bool
check_crosses front [] = true
check_crosses front (x ∷ xs) = cross_of (thread_of x) x front && check_crosses (front ++ x ∷ []) xs

abbrev pub hold_of : Control → Entry → Bool
hold_of c (e.Enter t l k n) = not (list_any (λ (h : Holder). (h.filter == k) && (h.clause == n)) c.holders)
hold_of c (e.Leave t l k n) = is_held_by c k n t
hold_of c (e.End t l) = not (list_any (λ (h : Holder). h.thread == t) c.holders)
hold_of c x = true

abbrev pub check_holds : List Command → List Entry → List Entry → Bool
check_holds cs front [] = true
check_holds cs front (x ∷ xs) = hold_of (control cs front) x && check_holds cs (front ++ x ∷ []) xs

-- r1
--   shared p;
--   fn user() {
--     print 10 / p;
--   }
--   fn main() {
--     let u = spawn user();
--     print 1;
--     p = 5;
--     join u;
--   }
--
-- script: at 0 install ord use.lm:8 > use.lm:3
-- script:
abbrev pub program_r1 : Source
program_r1 = record { words = (record { name = (codes "p"); cells = None; first = (pos 0) } ∷ []); mutexes = []; semas = []; funcs = (record { name = (codes "user"); line = 2; params = []; body = (simple 3 (tree.print (bin o.Div (num (pos 10)) (var (codes "p")))) tree.end) } ∷ record { name = (codes "main"); line = 5; params = []; body = (simple 6 (let_ (codes "u") (Right.spawn (codes "user") [])) (simple 7 (tree.print (num (pos 1))) (simple 8 (set (codes "p") (Right.value (num (pos 5)))) (simple 9 (tree.join (var (codes "u"))) tree.end)))) } ∷ []) }

abbrev pub commands_r1 : List Command
commands_r1 = (record { trigger = script.at 0; name = (codes "ord"); action = install (means (plan_of program_r1 ((Clause.order (record { event = record { file = (codes "use.lm"); line = 8; test = None }; count = 1 } ∷ record { event = record { file = (codes "use.lm"); line = 3; test = None }; count = 1 } ∷ [])) ∷ []))) } ∷ [])

abbrev pub own_r1_1 : Own
own_r1_1 = record { thread = 1; func = 1; args = []; versions = (record { number = 1; active = (1 ∷ []) } ∷ []); entries = (e.Begin 1 5 ∷ e.Spawn 1 6 2 0 [] ∷ e.Print 1 7 (pos 1) ∷ e.At 1 8 1 (1 ∷ []) ∷ e.Write 1 8 0 (pos 5) ∷ e.Past 1 8 1 (1 ∷ []) ∷ e.Post 1 8 1 1 ∷ e.Blocked 1 9 (w.Join 2) ∷ e.Join 1 9 2 ∷ e.End 1 5 ∷ []) }

abbrev pub steps_r1_1 : List PartStep
steps_r1_1 = (goes (made 5 begin) ∷ goes (enter 1 (((codes "u"), (pos 0)) ∷ [])) ∷ goes (begins 6 (((codes "u"), (pos 0)) ∷ [])) ∷ goes (made 6 (spawn 2 0 [])) ∷ goes (done 6) ∷ goes (begins 7 (((codes "u"), (pos 2)) ∷ [])) ∷ goes (made 7 (print (pos 1))) ∷ goes (done 7) ∷ goes (begins 8 (((codes "u"), (pos 2)) ∷ [])) ∷ makes 8 (walk.at 1 (1 ∷ [])) ∷ goes (made 8 (write 0 (pos 5))) ∷ goes (done 8) ∷ makes 8 (walk.past 1 (1 ∷ [])) ∷ makes 8 (post 1 1) ∷ goes (begins 9 (((codes "u"), (pos 2)) ∷ [])) ∷ makes 9 (blocked (w.Join 2)) ∷ goes (made 9 (join 2)) ∷ goes (done 9) ∷ goes (out 1) ∷ goes (made 5 end) ∷ [])

pub part_r1_1 : IsPart program_r1 (plans_of commands_r1) own_r1_1
part_r1_1 = record {
  steps = steps_r1_1;
  ahead = [];
  outcome = Finished;
  trace = record { most_turns = 3; gives = next (next (next (inr (given 2 (next (next (next (next (next (next (next (next (next (inr (next (next (next (next ((refl, inl refl)))))))))))))))))))) };
  woven = ((refl, tt), (refl, (refl, (refl, (refl, (refl, (refl, (refl, (refl, (refl, (refl, (refl, (refl, (refl, (refl, (record { asks = refl; not_yet = refl }, (refl, (refl, (refl, (refl, tt))))))))))))))))))));
  tells = refl;
  taken = refl;
}

abbrev pub own_r1_2 : Own
own_r1_2 = record { thread = 2; func = 0; args = []; versions = (record { number = 1; active = (1 ∷ []) } ∷ []); entries = (e.Begin 2 2 ∷ e.Blocked 2 3 (w.Wait 1 2) ∷ e.Wait 2 3 1 2 ∷ e.At 2 3 1 (2 ∷ []) ∷ e.Read 2 3 0 (pos 5) ∷ e.Print 2 3 (pos 2) ∷ e.Past 2 3 1 (2 ∷ []) ∷ e.End 2 2 ∷ []) }

abbrev pub steps_r1_2 : List PartStep
steps_r1_2 = (goes (made 2 begin) ∷ goes (enter 0 []) ∷ goes (begins 3 []) ∷ makes 3 (blocked (w.Wait 1 2)) ∷ makes 3 (wait 1 2) ∷ makes 3 (walk.at 1 (2 ∷ [])) ∷ goes (made 3 (read 0 (pos 5))) ∷ goes (made 3 (print (pos 2))) ∷ goes (done 3) ∷ makes 3 (walk.past 1 (2 ∷ [])) ∷ goes (out 0) ∷ goes (made 2 end) ∷ [])

pub part_r1_2 : IsPart program_r1 (plans_of commands_r1) own_r1_2
part_r1_2 = record {
  steps = steps_r1_2;
  ahead = [];
  outcome = Finished;
  trace = record { most_turns = 3; gives = next (next (next (given (pos 5) (next (next (next (next (next ((refl, inl refl)))))))))) };
  woven = ((refl, tt), (refl, (refl, (record { asks = refl; not_yet = refl }, (refl, (refl, (refl, (refl, (refl, (refl, (refl, (refl, tt))))))))))));
  tells = refl;
  taken = refl;
}

abbrev pub journal_r1 : List Entry
journal_r1 = (e.Asked 1 ∷ e.Installed 1 1 (0 ∷ 0 ∷ 0 ∷ 0 ∷ 0 ∷ 0 ∷ 0 ∷ 0 ∷ []) ∷ e.Begin 1 5 ∷ e.Spawn 1 6 2 0 [] ∷ e.Begin 2 2 ∷ e.Print 1 7 (pos 1) ∷ e.Blocked 2 3 (w.Wait 1 2) ∷ e.At 1 8 1 (1 ∷ []) ∷ e.Write 1 8 0 (pos 5) ∷ e.Past 1 8 1 (1 ∷ []) ∷ e.Post 1 8 1 1 ∷ e.Wait 2 3 1 2 ∷ e.Blocked 1 9 (w.Join 2) ∷ e.At 2 3 1 (2 ∷ []) ∷ e.Read 2 3 0 (pos 5) ∷ e.Print 2 3 (pos 2) ∷ e.Past 2 3 1 (2 ∷ []) ∷ e.End 2 2 ∷ e.Join 1 9 2 ∷ e.End 1 5 ∷ e.Finish k.Done ∷ [])

pub crosses_r1 : check_crosses [] journal_r1 ≡ true
crosses_r1 = refl

pub holds_r1 : check_holds commands_r1 [] journal_r1 ≡ true
holds_r1 = refl

pub takes_r1_1 : versions_of commands_r1 1 journal_r1 ≡ Own.versions own_r1_1
takes_r1_1 = refl

pub made_r1_1 : entries_of 1 journal_r1 ≡ Own.entries own_r1_1
made_r1_1 = refl

pub takes_r1_2 : versions_of commands_r1 2 journal_r1 ≡ Own.versions own_r1_2
takes_r1_2 = refl

pub made_r1_2 : entries_of 2 journal_r1 ≡ Own.entries own_r1_2
made_r1_2 = refl

-- r2
--   shared x;
--   fn step() {
--     x = x + 1;
--   }
--   fn main() {
--     let i = 0;
--     while (i < 3) {
--       step();
--       x = x * 2;
--       i = i + 1;
--     }
--     print x;
--   }
--
-- script: at 2 install f {call.lm:8; call.lm:9} <> *
-- script:
abbrev pub program_r2 : Source
program_r2 = record { words = (record { name = (codes "x"); cells = None; first = (pos 0) } ∷ []); mutexes = []; semas = []; funcs = (record { name = (codes "step"); line = 2; params = []; body = (simple 3 (set (codes "x") (Right.value (bin o.Add (var (codes "x")) (num (pos 1))))) tree.end) } ∷ record { name = (codes "main"); line = 5; params = []; body = (simple 6 (let_ (codes "i") (Right.value (num (pos 0)))) (while_ 7 (bin o.Lt (var (codes "i")) (num (pos 3))) (simple 8 (Simple.call (codes "step") []) (simple 9 (set (codes "x") (Right.value (bin o.Mul (var (codes "x")) (num (pos 2))))) (simple 10 (set (codes "i") (Right.value (bin o.Add (var (codes "i")) (num (pos 1))))) tree.end))) (simple 12 (tree.print (var (codes "x"))) tree.end))) } ∷ []) }

abbrev pub commands_r2 : List Command
commands_r2 = (record { trigger = script.at 2; name = (codes "f"); action = install (means (plan_of program_r2 ((Clause.unilateral (Region.between (record { file = (codes "call.lm"); line = 8; test = None } ∷ []) (record { file = (codes "call.lm"); line = 9; test = None } ∷ []))) ∷ []))) } ∷ [])

abbrev pub own_r2_1 : Own
own_r2_1 = record { thread = 1; func = 1; args = []; versions = (record { number = 0; active = [] } ∷ record { number = 1; active = (1 ∷ []) } ∷ []); entries = (e.Begin 1 5 ∷ e.Read 1 3 0 (pos 0) ∷ e.Write 1 3 0 (pos 1) ∷ e.Read 1 9 0 (pos 1) ∷ e.Write 1 9 0 (pos 2) ∷ e.Cross 1 7 7 1 0 ∷ e.Enter 1 8 1 1 ∷ e.At 1 8 1 (1 ∷ []) ∷ e.Read 1 3 0 (pos 2) ∷ e.Write 1 3 0 (pos 3) ∷ e.Past 1 8 1 (1 ∷ []) ∷ e.At 1 9 1 (2 ∷ []) ∷ e.Read 1 9 0 (pos 3) ∷ e.Write 1 9 0 (pos 6) ∷ e.Past 1 9 1 (2 ∷ []) ∷ e.Leave 1 9 1 1 ∷ e.Enter 1 8 1 1 ∷ e.At 1 8 1 (1 ∷ []) ∷ e.Read 1 3 0 (pos 6) ∷ e.Write 1 3 0 (pos 7) ∷ e.Past 1 8 1 (1 ∷ []) ∷ e.At 1 9 1 (2 ∷ []) ∷ e.Read 1 9 0 (pos 7) ∷ e.Write 1 9 0 (pos 14) ∷ e.Past 1 9 1 (2 ∷ []) ∷ e.Leave 1 9 1 1 ∷ e.Read 1 12 0 (pos 14) ∷ e.Print 1 12 (pos 14) ∷ e.End 1 5 ∷ []) }

abbrev pub steps_r2_1 : List PartStep
steps_r2_1 = (goes (made 5 begin) ∷ goes (enter 1 (((codes "i"), (pos 0)) ∷ [])) ∷ goes (begins 6 (((codes "i"), (pos 0)) ∷ [])) ∷ goes (done 6) ∷ goes (begins 7 (((codes "i"), (pos 0)) ∷ [])) ∷ goes (begins 8 (((codes "i"), (pos 0)) ∷ [])) ∷ goes (enter 0 []) ∷ goes (begins 3 []) ∷ goes (made 3 (read 0 (pos 0))) ∷ goes (made 3 (write 0 (pos 1))) ∷ goes (done 3) ∷ goes (out 0) ∷ goes (done 8) ∷ goes (begins 9 (((codes "i"), (pos 0)) ∷ [])) ∷ goes (made 9 (read 0 (pos 1))) ∷ goes (made 9 (write 0 (pos 2))) ∷ goes (done 9) ∷ goes (begins 10 (((codes "i"), (pos 0)) ∷ [])) ∷ goes (done 10) ∷ makes 7 (cross 7 1 0) ∷ goes (edge 7) ∷ goes (begins 8 (((codes "i"), (pos 1)) ∷ [])) ∷ makes 8 (enters 1 1) ∷ makes 8 (walk.at 1 (1 ∷ [])) ∷ goes (enter 0 []) ∷ goes (begins 3 []) ∷ goes (made 3 (read 0 (pos 2))) ∷ goes (made 3 (write 0 (pos 3))) ∷ goes (done 3) ∷ goes (out 0) ∷ goes (done 8) ∷ makes 8 (walk.past 1 (1 ∷ [])) ∷ goes (begins 9 (((codes "i"), (pos 1)) ∷ [])) ∷ makes 9 (walk.at 1 (2 ∷ [])) ∷ goes (made 9 (read 0 (pos 3))) ∷ goes (made 9 (write 0 (pos 6))) ∷ goes (done 9) ∷ makes 9 (walk.past 1 (2 ∷ [])) ∷ makes 9 (leave 1 1) ∷ goes (begins 10 (((codes "i"), (pos 1)) ∷ [])) ∷ goes (done 10) ∷ goes (edge 7) ∷ goes (begins 8 (((codes "i"), (pos 2)) ∷ [])) ∷ makes 8 (enters 1 1) ∷ makes 8 (walk.at 1 (1 ∷ [])) ∷ goes (enter 0 []) ∷ goes (begins 3 []) ∷ goes (made 3 (read 0 (pos 6))) ∷ goes (made 3 (write 0 (pos 7))) ∷ goes (done 3) ∷ goes (out 0) ∷ goes (done 8) ∷ makes 8 (walk.past 1 (1 ∷ [])) ∷ goes (begins 9 (((codes "i"), (pos 2)) ∷ [])) ∷ makes 9 (walk.at 1 (2 ∷ [])) ∷ goes (made 9 (read 0 (pos 7))) ∷ goes (made 9 (write 0 (pos 14))) ∷ goes (done 9) ∷ makes 9 (walk.past 1 (2 ∷ [])) ∷ makes 9 (leave 1 1) ∷ goes (begins 10 (((codes "i"), (pos 2)) ∷ [])) ∷ goes (done 10) ∷ goes (edge 7) ∷ goes (done 7) ∷ goes (begins 12 (((codes "i"), (pos 3)) ∷ [])) ∷ goes (made 12 (read 0 (pos 14))) ∷ goes (made 12 (print (pos 14))) ∷ goes (done 12) ∷ goes (out 1) ∷ goes (made 5 end) ∷ [])

pub woven_r2_1 : AreWoven program_r2 (plans_of commands_r2) (unborn (Own.versions own_r2_1)) steps_r2_1 []
woven_r2_1 = ((refl, tt), (refl, (refl, (refl, (refl, (refl, (refl, (refl, (refl, (refl, (refl, (refl, (refl, (refl, (refl, (refl, (refl, (refl, (refl, (record { place = _; next = refl; number = refl; line = refl; version = refl; passed = refl }, (refl, (refl, (refl, (refl, (refl, (refl, (refl, (refl, (refl, (refl, (refl, (refl, (refl, (refl, (refl, (refl, (refl, (refl, (refl, (refl, (refl, (refl, (refl, (refl, (refl, (refl, (refl, (refl, (refl, (refl, (refl, (refl, (refl, (refl, (refl, (refl, (refl, (refl, (refl, (refl, (refl, (refl, (refl, (refl, (refl, (refl, (refl, (refl, (refl, (refl, tt))))))))))))))))))))))))))))))))))))))))))))))))))))))))))))))))))))))

pub told_r2_1 : filter_entries 1 steps_r2_1 ≡ Own.entries own_r2_1
told_r2_1 = refl

abbrev pub point_r2_0 : List PartStep
point_r2_0 = (goes (made 5 begin) ∷ goes (enter 1 (((codes "i"), (pos 0)) ∷ [])) ∷ goes (begins 6 (((codes "i"), (pos 0)) ∷ [])) ∷ goes (done 6) ∷ goes (begins 7 (((codes "i"), (pos 0)) ∷ [])) ∷ goes (begins 8 (((codes "i"), (pos 0)) ∷ [])) ∷ goes (enter 0 []) ∷ goes (begins 3 []) ∷ goes (made 3 (read 0 (pos 0))) ∷ goes (made 3 (write 0 (pos 1))) ∷ goes (done 3) ∷ goes (out 0) ∷ goes (done 8) ∷ goes (begins 9 (((codes "i"), (pos 0)) ∷ [])) ∷ goes (made 9 (read 0 (pos 1))) ∷ goes (made 9 (write 0 (pos 2))) ∷ goes (done 9) ∷ goes (begins 10 (((codes "i"), (pos 0)) ∷ [])) ∷ goes (done 10) ∷ [])

pub woven_point_r2_0 : AreWoven program_r2 (plans_of commands_r2) (unborn (record { number = 0; active = [] } ∷ [])) point_r2_0 ((edge 7) ∷ [])
woven_point_r2_0 = ((refl, tt), (refl, (refl, (refl, (refl, (refl, (refl, (refl, (refl, (refl, (refl, (refl, (refl, (refl, (refl, (refl, (refl, (refl, (refl, tt)))))))))))))))))))

abbrev pub led_r2_0 : Walk
led_r2_0 = walk_from program_r2 (plans_of commands_r2) (unborn (record { number = 0; active = [] } ∷ [])) point_r2_0

pub stands_r2_0 : place_of_next led_r2_0 (Walk.owed led_r2_0) ((edge 7) ∷ []) ≡ Some (place.back_edge 7)
stands_r2_0 = refl

pub number_r2_0 : place_number program_r2 (place.back_edge 7) ≡ 7
number_r2_0 = refl

abbrev pub point_r2_1 : List PartStep
point_r2_1 = (goes (made 5 begin) ∷ goes (enter 1 (((codes "i"), (pos 0)) ∷ [])) ∷ goes (begins 6 (((codes "i"), (pos 0)) ∷ [])) ∷ goes (done 6) ∷ goes (begins 7 (((codes "i"), (pos 0)) ∷ [])) ∷ goes (begins 8 (((codes "i"), (pos 0)) ∷ [])) ∷ goes (enter 0 []) ∷ goes (begins 3 []) ∷ goes (made 3 (read 0 (pos 0))) ∷ goes (made 3 (write 0 (pos 1))) ∷ goes (done 3) ∷ goes (out 0) ∷ goes (done 8) ∷ goes (begins 9 (((codes "i"), (pos 0)) ∷ [])) ∷ goes (made 9 (read 0 (pos 1))) ∷ goes (made 9 (write 0 (pos 2))) ∷ goes (done 9) ∷ goes (begins 10 (((codes "i"), (pos 0)) ∷ [])) ∷ goes (done 10) ∷ goes (edge 7) ∷ goes (begins 8 (((codes "i"), (pos 1)) ∷ [])) ∷ [])

pub woven_point_r2_1 : AreWoven program_r2 (plans_of commands_r2) (unborn (record { number = 0; active = [] } ∷ [])) point_r2_1 ((enter 0 []) ∷ [])
woven_point_r2_1 = ((refl, tt), (refl, (refl, (refl, (refl, (refl, (refl, (refl, (refl, (refl, (refl, (refl, (refl, (refl, (refl, (refl, (refl, (refl, (refl, (refl, (refl, tt)))))))))))))))))))))

abbrev pub led_r2_1 : Walk
led_r2_1 = walk_from program_r2 (plans_of commands_r2) (unborn (record { number = 0; active = [] } ∷ [])) point_r2_1

pub stands_r2_1 : place_of_next led_r2_1 (Walk.owed led_r2_1) ((enter 0 []) ∷ []) ≡ Some (place.entry 0)
stands_r2_1 = refl

pub number_r2_1 : place_number program_r2 (place.entry 0) ≡ 1
number_r2_1 = refl

abbrev pub point_r2_2 : List PartStep
point_r2_2 = (goes (made 5 begin) ∷ goes (enter 1 (((codes "i"), (pos 0)) ∷ [])) ∷ goes (begins 6 (((codes "i"), (pos 0)) ∷ [])) ∷ goes (done 6) ∷ goes (begins 7 (((codes "i"), (pos 0)) ∷ [])) ∷ goes (begins 8 (((codes "i"), (pos 0)) ∷ [])) ∷ goes (enter 0 []) ∷ goes (begins 3 []) ∷ goes (made 3 (read 0 (pos 0))) ∷ goes (made 3 (write 0 (pos 1))) ∷ goes (done 3) ∷ goes (out 0) ∷ goes (done 8) ∷ goes (begins 9 (((codes "i"), (pos 0)) ∷ [])) ∷ goes (made 9 (read 0 (pos 1))) ∷ goes (made 9 (write 0 (pos 2))) ∷ goes (done 9) ∷ goes (begins 10 (((codes "i"), (pos 0)) ∷ [])) ∷ goes (done 10) ∷ goes (edge 7) ∷ goes (begins 8 (((codes "i"), (pos 1)) ∷ [])) ∷ goes (enter 0 []) ∷ goes (begins 3 []) ∷ [])

pub woven_point_r2_2 : AreWoven program_r2 (plans_of commands_r2) (unborn (record { number = 0; active = [] } ∷ [])) point_r2_2 ((made 3 (read 0 (pos 0))) ∷ [])
woven_point_r2_2 = ((refl, tt), (refl, (refl, (refl, (refl, (refl, (refl, (refl, (refl, (refl, (refl, (refl, (refl, (refl, (refl, (refl, (refl, (refl, (refl, (refl, (refl, (refl, (refl, tt)))))))))))))))))))))))

abbrev pub led_r2_2 : Walk
led_r2_2 = walk_from program_r2 (plans_of commands_r2) (unborn (record { number = 0; active = [] } ∷ [])) point_r2_2

pub stands_r2_2 : place_of_next led_r2_2 (Walk.owed led_r2_2) ((made 3 (read 0 (pos 0))) ∷ []) ≡ Some (place.inside 3)
stands_r2_2 = refl

pub number_r2_2 : place_number program_r2 (place.inside 3) ≡ 2
number_r2_2 = refl

abbrev pub journal_r2 : List Entry
journal_r2 = (e.Begin 1 5 ∷ e.Read 1 3 0 (pos 0) ∷ e.Asked 1 ∷ e.Write 1 3 0 (pos 1) ∷ e.Read 1 9 0 (pos 1) ∷ e.Write 1 9 0 (pos 2) ∷ e.Installed 1 1 (7 ∷ 0 ∷ 0 ∷ 0 ∷ 0 ∷ 0 ∷ 0 ∷ 0 ∷ []) ∷ e.Cross 1 7 7 1 0 ∷ e.Enter 1 8 1 1 ∷ e.At 1 8 1 (1 ∷ []) ∷ e.Read 1 3 0 (pos 2) ∷ e.Write 1 3 0 (pos 3) ∷ e.Past 1 8 1 (1 ∷ []) ∷ e.At 1 9 1 (2 ∷ []) ∷ e.Read 1 9 0 (pos 3) ∷ e.Write 1 9 0 (pos 6) ∷ e.Past 1 9 1 (2 ∷ []) ∷ e.Leave 1 9 1 1 ∷ e.Enter 1 8 1 1 ∷ e.At 1 8 1 (1 ∷ []) ∷ e.Read 1 3 0 (pos 6) ∷ e.Write 1 3 0 (pos 7) ∷ e.Past 1 8 1 (1 ∷ []) ∷ e.At 1 9 1 (2 ∷ []) ∷ e.Read 1 9 0 (pos 7) ∷ e.Write 1 9 0 (pos 14) ∷ e.Past 1 9 1 (2 ∷ []) ∷ e.Leave 1 9 1 1 ∷ e.Read 1 12 0 (pos 14) ∷ e.Print 1 12 (pos 14) ∷ e.End 1 5 ∷ e.Finish k.Done ∷ [])

pub crosses_r2 : check_crosses [] journal_r2 ≡ true
crosses_r2 = refl

pub holds_r2 : check_holds commands_r2 [] journal_r2 ≡ true
holds_r2 = refl

pub takes_r2_1 : versions_of commands_r2 1 journal_r2 ≡ Own.versions own_r2_1
takes_r2_1 = refl

pub made_r2_1 : entries_of 1 journal_r2 ≡ Own.entries own_r2_1
made_r2_1 = refl

-- r3
--   shared x;
--   fn f() {
--   x = 1;
--   return x;
--   }
--   fn main() {
--   let v = f();
--   print v;
--   }
--
-- script: at 0 install r f() <> *
-- script:
abbrev pub program_r3 : Source
program_r3 = record { words = (record { name = (codes "x"); cells = None; first = (pos 0) } ∷ []); mutexes = []; semas = []; funcs = (record { name = (codes "f"); line = 2; params = []; body = (simple 3 (set (codes "x") (Right.value (num (pos 1)))) (simple 4 (tree.return (Some (var (codes "x")))) tree.end)) } ∷ record { name = (codes "main"); line = 6; params = []; body = (simple 7 (let_ (codes "v") (Right.call (codes "f") [])) (simple 8 (tree.print (var (codes "v"))) tree.end)) } ∷ []) }

abbrev pub commands_r3 : List Command
commands_r3 = (record { trigger = script.at 0; name = (codes "r"); action = install (means (plan_of program_r3 ((Clause.unilateral (Region.whole (codes "f") None)) ∷ []))) } ∷ [])

abbrev pub own_r3_1 : Own
own_r3_1 = record { thread = 1; func = 1; args = []; versions = (record { number = 1; active = (1 ∷ []) } ∷ []); entries = (e.Begin 1 6 ∷ e.Enter 1 2 1 1 ∷ e.At 1 2 1 (1 ∷ []) ∷ e.Write 1 3 0 (pos 1) ∷ e.Read 1 4 0 (pos 1) ∷ e.Back 1 2 ∷ e.Leave 1 2 1 1 ∷ e.Print 1 8 (pos 1) ∷ e.End 1 6 ∷ []) }

abbrev pub steps_r3_1 : List PartStep
steps_r3_1 = (goes (made 6 begin) ∷ goes (enter 1 (((codes "v"), (pos 0)) ∷ [])) ∷ goes (begins 7 (((codes "v"), (pos 0)) ∷ [])) ∷ goes (enter 0 []) ∷ makes 2 (enters 1 1) ∷ makes 2 (walk.at 1 (1 ∷ [])) ∷ goes (begins 3 []) ∷ goes (made 3 (write 0 (pos 1))) ∷ goes (done 3) ∷ goes (begins 4 []) ∷ goes (made 4 (read 0 (pos 1))) ∷ goes (done 4) ∷ goes (out 0) ∷ makes 2 (back) ∷ makes 2 (leave 1 1) ∷ goes (done 7) ∷ goes (begins 8 (((codes "v"), (pos 1)) ∷ [])) ∷ goes (made 8 (print (pos 1))) ∷ goes (done 8) ∷ goes (out 1) ∷ goes (made 6 end) ∷ [])

pub part_r3_1 : IsPart program_r3 (plans_of commands_r3) own_r3_1
part_r3_1 = record {
  steps = steps_r3_1;
  ahead = [];
  outcome = Finished;
  trace = record { most_turns = 3; gives = next (next (next (next (next (next (next (next (given (pos 1) (next (next (next (next (next (next (next (next (next ((refl, inl refl))))))))))))))))))) };
  woven = ((refl, tt), (refl, (refl, (refl, (refl, (refl, (refl, (refl, (refl, (refl, (refl, (refl, (refl, (refl, (refl, (refl, (refl, (refl, (refl, (refl, (refl, tt)))))))))))))))))))));
  tells = refl;
  taken = refl;
}

abbrev pub journal_r3 : List Entry
journal_r3 = (e.Asked 1 ∷ e.Installed 1 1 (0 ∷ 0 ∷ 0 ∷ 0 ∷ 0 ∷ 0 ∷ 0 ∷ 0 ∷ []) ∷ e.Begin 1 6 ∷ e.Enter 1 2 1 1 ∷ e.At 1 2 1 (1 ∷ []) ∷ e.Write 1 3 0 (pos 1) ∷ e.Read 1 4 0 (pos 1) ∷ e.Back 1 2 ∷ e.Leave 1 2 1 1 ∷ e.Print 1 8 (pos 1) ∷ e.End 1 6 ∷ e.Finish k.Done ∷ [])

pub crosses_r3 : check_crosses [] journal_r3 ≡ true
crosses_r3 = refl

pub holds_r3 : check_holds commands_r3 [] journal_r3 ≡ true
holds_r3 = refl

pub takes_r3_1 : versions_of commands_r3 1 journal_r3 ≡ Own.versions own_r3_1
takes_r3_1 = refl

pub made_r3_1 : entries_of 1 journal_r3 ≡ Own.entries own_r3_1
made_r3_1 = refl

-- r4
--   sema s;
--   fn a() {
--   down s;
--   }
--   fn go() {
--   up s;
--   up s;
--   }
--   fn main() {
--   let t = spawn a();
--   let u = spawn a();
--   print 1;
--   go();
--   join t;
--   join u;
--   }
--
-- script: at 0 install m {hold.lm:3; hold.lm:3}
-- script: at 9 remove m
-- script:
abbrev pub program_r4 : Source
program_r4 = record { words = []; mutexes = []; semas = (record { name = (codes "s"); first = 0 } ∷ []); funcs = (record { name = (codes "a"); line = 2; params = []; body = (simple 3 (tree.down (codes "s")) tree.end) } ∷ record { name = (codes "go"); line = 5; params = []; body = (simple 6 (tree.up (codes "s")) (simple 7 (tree.up (codes "s")) tree.end)) } ∷ record { name = (codes "main"); line = 9; params = []; body = (simple 10 (let_ (codes "t") (Right.spawn (codes "a") [])) (simple 11 (let_ (codes "u") (Right.spawn (codes "a") [])) (simple 12 (tree.print (num (pos 1))) (simple 13 (Simple.call (codes "go") []) (simple 14 (tree.join (var (codes "t"))) (simple 15 (tree.join (var (codes "u"))) tree.end)))))) } ∷ []) }

abbrev pub commands_r4 : List Command
commands_r4 = (record { trigger = script.at 0; name = (codes "m"); action = install (means (plan_of program_r4 ((Clause.exclusive ((Region.between (record { file = (codes "hold.lm"); line = 3; test = None } ∷ []) (record { file = (codes "hold.lm"); line = 3; test = None } ∷ [])) ∷ [])) ∷ []))) } ∷ record { trigger = script.at 9; name = (codes "m"); action = remove } ∷ [])

abbrev pub own_r4_1 : Own
own_r4_1 = record { thread = 1; func = 2; args = []; versions = (record { number = 1; active = (1 ∷ []) } ∷ record { number = 2; active = [] } ∷ []); entries = (e.Begin 1 9 ∷ e.Spawn 1 10 2 0 [] ∷ e.Spawn 1 11 3 0 [] ∷ e.Print 1 12 (pos 1) ∷ e.Cross 1 5 4 2 0 ∷ e.Up 1 6 0 ∷ e.Up 1 7 0 ∷ e.Join 1 14 2 ∷ e.Join 1 15 3 ∷ e.End 1 9 ∷ []) }

abbrev pub steps_r4_1 : List PartStep
steps_r4_1 = (goes (made 9 begin) ∷ goes (enter 2 (((codes "t"), (pos 0)) ∷ ((codes "u"), (pos 0)) ∷ [])) ∷ goes (begins 10 (((codes "t"), (pos 0)) ∷ ((codes "u"), (pos 0)) ∷ [])) ∷ goes (made 10 (spawn 2 0 [])) ∷ goes (done 10) ∷ goes (begins 11 (((codes "t"), (pos 2)) ∷ ((codes "u"), (pos 0)) ∷ [])) ∷ goes (made 11 (spawn 3 0 [])) ∷ goes (done 11) ∷ goes (begins 12 (((codes "t"), (pos 2)) ∷ ((codes "u"), (pos 3)) ∷ [])) ∷ goes (made 12 (print (pos 1))) ∷ goes (done 12) ∷ goes (begins 13 (((codes "t"), (pos 2)) ∷ ((codes "u"), (pos 3)) ∷ [])) ∷ makes 5 (cross 4 2 0) ∷ goes (enter 1 []) ∷ goes (begins 6 []) ∷ goes (made 6 (up 0)) ∷ goes (done 6) ∷ goes (begins 7 []) ∷ goes (made 7 (up 0)) ∷ goes (done 7) ∷ goes (out 1) ∷ goes (done 13) ∷ goes (begins 14 (((codes "t"), (pos 2)) ∷ ((codes "u"), (pos 3)) ∷ [])) ∷ goes (made 14 (join 2)) ∷ goes (done 14) ∷ goes (begins 15 (((codes "t"), (pos 2)) ∷ ((codes "u"), (pos 3)) ∷ [])) ∷ goes (made 15 (join 3)) ∷ goes (done 15) ∷ goes (out 2) ∷ goes (made 9 end) ∷ [])

pub part_r4_1 : IsPart program_r4 (plans_of commands_r4) own_r4_1
part_r4_1 = record {
  steps = steps_r4_1;
  ahead = [];
  outcome = Finished;
  trace = record { most_turns = 3; gives = next (next (next (inr (given 2 (next (next (next (inr (given 3 (next (next (next (next (next (next (next (next (inr (next (next (next (inr (next (next (next (next (next (inr (next (next (next (inr (next (next (next (next ((refl, inl refl)))))))))))))))))))))))))))))))))))))) };
  woven = ((refl, tt), (refl, (refl, (refl, (refl, (refl, (refl, (refl, (refl, (refl, (refl, (refl, (record { place = _; next = refl; number = refl; line = refl; version = refl; passed = refl }, (refl, (refl, (refl, (refl, (refl, (refl, (refl, (refl, (refl, (refl, (refl, (refl, (refl, (refl, (refl, (refl, (refl, tt))))))))))))))))))))))))))))));
  tells = refl;
  taken = refl;
}

abbrev pub own_r4_2 : Own
own_r4_2 = record { thread = 2; func = 0; args = []; versions = (record { number = 1; active = (1 ∷ []) } ∷ record { number = 2; active = [] } ∷ []); entries = (e.Begin 2 2 ∷ e.Enter 2 3 1 1 ∷ e.At 2 3 1 (1 ∷ 2 ∷ []) ∷ e.Blocked 2 3 (w.Down 0) ∷ e.Cross 2 3 2 2 0 ∷ e.Down 2 3 0 ∷ e.End 2 2 ∷ []) }

abbrev pub steps_r4_2 : List PartStep
steps_r4_2 = (goes (made 2 begin) ∷ goes (enter 0 []) ∷ goes (begins 3 []) ∷ makes 3 (enters 1 1) ∷ makes 3 (walk.at 1 (1 ∷ 2 ∷ [])) ∷ makes 3 (blocked (w.Down 0)) ∷ makes 3 (cross 2 2 0) ∷ goes (made 3 (down 0)) ∷ goes (done 3) ∷ goes (out 0) ∷ goes (made 2 end) ∷ [])

pub part_r4_2 : IsPart program_r4 (plans_of commands_r4) own_r4_2
part_r4_2 = record {
  steps = steps_r4_2;
  ahead = [];
  outcome = Finished;
  trace = record { most_turns = 3; gives = next (next (next (next (next (next (next ((refl, inl refl)))))))) };
  woven = ((refl, tt), (refl, (refl, (refl, (refl, (record { asks = refl; not_yet = refl }, (record { place = _; next = refl; number = refl; line = refl; version = refl; passed = refl }, (refl, (refl, (refl, (refl, tt)))))))))));
  tells = refl;
  taken = refl;
}

abbrev pub own_r4_3 : Own
own_r4_3 = record { thread = 3; func = 0; args = []; versions = (record { number = 1; active = (1 ∷ []) } ∷ record { number = 2; active = [] } ∷ []); entries = (e.Begin 3 2 ∷ e.Blocked 3 3 (w.Enter 1 1) ∷ e.Cross 3 3 2 2 0 ∷ e.Blocked 3 3 (w.Down 0) ∷ e.Down 3 3 0 ∷ e.End 3 2 ∷ []) }

abbrev pub steps_r4_3 : List PartStep
steps_r4_3 = (goes (made 2 begin) ∷ goes (enter 0 []) ∷ goes (begins 3 []) ∷ makes 3 (blocked (w.Enter 1 1)) ∷ makes 3 (cross 2 2 0) ∷ makes 3 (blocked (w.Down 0)) ∷ goes (made 3 (down 0)) ∷ goes (done 3) ∷ goes (out 0) ∷ goes (made 2 end) ∷ [])

pub part_r4_3 : IsPart program_r4 (plans_of commands_r4) own_r4_3
part_r4_3 = record {
  steps = steps_r4_3;
  ahead = [];
  outcome = Finished;
  trace = record { most_turns = 3; gives = next (next (next (next (next (next (next ((refl, inl refl)))))))) };
  woven = ((refl, tt), (refl, (refl, (record { asks = refl; not_yet = refl }, (record { place = _; next = refl; number = refl; line = refl; version = refl; passed = refl }, (record { asks = refl; not_yet = refl }, (refl, (refl, (refl, (refl, tt))))))))));
  tells = refl;
  taken = refl;
}

abbrev pub point_r4_0 : List PartStep
point_r4_0 = (goes (made 9 begin) ∷ goes (enter 2 (((codes "t"), (pos 0)) ∷ ((codes "u"), (pos 0)) ∷ [])) ∷ goes (begins 10 (((codes "t"), (pos 0)) ∷ ((codes "u"), (pos 0)) ∷ [])) ∷ goes (made 10 (spawn 2 0 [])) ∷ goes (done 10) ∷ goes (begins 11 (((codes "t"), (pos 2)) ∷ ((codes "u"), (pos 0)) ∷ [])) ∷ goes (made 11 (spawn 3 0 [])) ∷ goes (done 11) ∷ goes (begins 12 (((codes "t"), (pos 2)) ∷ ((codes "u"), (pos 3)) ∷ [])) ∷ goes (made 12 (print (pos 1))) ∷ goes (done 12) ∷ goes (begins 13 (((codes "t"), (pos 2)) ∷ ((codes "u"), (pos 3)) ∷ [])) ∷ [])

pub woven_point_r4_0 : AreWoven program_r4 (plans_of commands_r4) (unborn (record { number = 1; active = (1 ∷ []) } ∷ [])) point_r4_0 ((enter 1 []) ∷ [])
woven_point_r4_0 = ((refl, tt), (refl, (refl, (refl, (refl, (refl, (refl, (refl, (refl, (refl, (refl, (refl, tt))))))))))))

abbrev pub led_r4_0 : Walk
led_r4_0 = walk_from program_r4 (plans_of commands_r4) (unborn (record { number = 1; active = (1 ∷ []) } ∷ [])) point_r4_0

pub stands_r4_0 : place_of_next led_r4_0 (Walk.owed led_r4_0) ((enter 1 []) ∷ []) ≡ Some (place.entry 1)
stands_r4_0 = refl

pub number_r4_0 : place_number program_r4 (place.entry 1) ≡ 4
number_r4_0 = refl

abbrev pub point_r4_1 : List PartStep
point_r4_1 = (goes (made 9 begin) ∷ goes (enter 2 (((codes "t"), (pos 0)) ∷ ((codes "u"), (pos 0)) ∷ [])) ∷ goes (begins 10 (((codes "t"), (pos 0)) ∷ ((codes "u"), (pos 0)) ∷ [])) ∷ goes (made 10 (spawn 2 0 [])) ∷ goes (done 10) ∷ goes (begins 11 (((codes "t"), (pos 2)) ∷ ((codes "u"), (pos 0)) ∷ [])) ∷ goes (made 11 (spawn 3 0 [])) ∷ goes (done 11) ∷ goes (begins 12 (((codes "t"), (pos 2)) ∷ ((codes "u"), (pos 3)) ∷ [])) ∷ goes (made 12 (print (pos 1))) ∷ goes (done 12) ∷ goes (begins 13 (((codes "t"), (pos 2)) ∷ ((codes "u"), (pos 3)) ∷ [])) ∷ goes (enter 1 []) ∷ goes (begins 6 []) ∷ [])

pub woven_point_r4_1 : AreWoven program_r4 (plans_of commands_r4) (unborn (record { number = 1; active = (1 ∷ []) } ∷ [])) point_r4_1 ((made 6 (up 0)) ∷ [])
woven_point_r4_1 = ((refl, tt), (refl, (refl, (refl, (refl, (refl, (refl, (refl, (refl, (refl, (refl, (refl, (refl, (refl, tt))))))))))))))

abbrev pub led_r4_1 : Walk
led_r4_1 = walk_from program_r4 (plans_of commands_r4) (unborn (record { number = 1; active = (1 ∷ []) } ∷ [])) point_r4_1

pub stands_r4_1 : place_of_next led_r4_1 (Walk.owed led_r4_1) ((made 6 (up 0)) ∷ []) ≡ Some (place.inside 6)
stands_r4_1 = refl

pub number_r4_1 : place_number program_r4 (place.inside 6) ≡ 5
number_r4_1 = refl

abbrev pub point_r4_2 : List PartStep
point_r4_2 = (goes (made 2 begin) ∷ goes (enter 0 []) ∷ goes (begins 3 []) ∷ makes 3 (enters 1 1) ∷ makes 3 (walk.at 1 (1 ∷ 2 ∷ [])) ∷ makes 3 (blocked (w.Down 0)) ∷ [])

pub woven_point_r4_2 : AreWoven program_r4 (plans_of commands_r4) (unborn (record { number = 1; active = (1 ∷ []) } ∷ [])) point_r4_2 ((made 3 (down 0)) ∷ [])
woven_point_r4_2 = ((refl, tt), (refl, (refl, (refl, (refl, (record { asks = refl; not_yet = refl }, tt))))))

abbrev pub led_r4_2 : Walk
led_r4_2 = walk_from program_r4 (plans_of commands_r4) (unborn (record { number = 1; active = (1 ∷ []) } ∷ [])) point_r4_2

pub stands_r4_2 : place_of_next led_r4_2 (Walk.owed led_r4_2) ((made 3 (down 0)) ∷ []) ≡ Some (place.inside 3)
stands_r4_2 = refl

pub number_r4_2 : place_number program_r4 (place.inside 3) ≡ 2
number_r4_2 = refl

abbrev pub point_r4_3 : List PartStep
point_r4_3 = (goes (made 2 begin) ∷ goes (enter 0 []) ∷ goes (begins 3 []) ∷ makes 3 (blocked (w.Enter 1 1)) ∷ [])

pub woven_point_r4_3 : AreWoven program_r4 (plans_of commands_r4) (unborn (record { number = 1; active = (1 ∷ []) } ∷ [])) point_r4_3 ((made 1 end) ∷ [])
woven_point_r4_3 = ((refl, tt), (refl, (refl, (record { asks = refl; not_yet = refl }, tt))))

abbrev pub led_r4_3 : Walk
led_r4_3 = walk_from program_r4 (plans_of commands_r4) (unborn (record { number = 1; active = (1 ∷ []) } ∷ [])) point_r4_3

pub stands_r4_3 : place_of_next led_r4_3 (Walk.owed led_r4_3) ((made 1 end) ∷ []) ≡ Some (place.inside 3)
stands_r4_3 = refl

pub number_r4_3 : place_number program_r4 (place.inside 3) ≡ 2
number_r4_3 = refl

abbrev pub journal_r4 : List Entry
journal_r4 = (e.Asked 1 ∷ e.Installed 1 1 (0 ∷ 0 ∷ 0 ∷ 0 ∷ 0 ∷ 0 ∷ 0 ∷ 0 ∷ []) ∷ e.Begin 1 9 ∷ e.Spawn 1 10 2 0 [] ∷ e.Begin 2 2 ∷ e.Spawn 1 11 3 0 [] ∷ e.Enter 2 3 1 1 ∷ e.Begin 3 2 ∷ e.Print 1 12 (pos 1) ∷ e.At 2 3 1 (1 ∷ 2 ∷ []) ∷ e.Blocked 3 3 (w.Enter 1 1) ∷ e.Asked 2 ∷ e.Blocked 2 3 (w.Down 0) ∷ e.Removed 2 2 (4 ∷ 2 ∷ 2 ∷ 0 ∷ 0 ∷ 0 ∷ 0 ∷ 0 ∷ []) ∷ e.Cross 1 5 4 2 0 ∷ e.Cross 2 3 2 2 0 ∷ e.Cross 3 3 2 2 0 ∷ e.Up 1 6 0 ∷ e.Down 2 3 0 ∷ e.Blocked 3 3 (w.Down 0) ∷ e.Up 1 7 0 ∷ e.End 2 2 ∷ e.Down 3 3 0 ∷ e.Join 1 14 2 ∷ e.End 3 2 ∷ e.Join 1 15 3 ∷ e.End 1 9 ∷ e.Finish k.Done ∷ [])

pub crosses_r4 : check_crosses [] journal_r4 ≡ true
crosses_r4 = refl

pub holds_r4 : check_holds commands_r4 [] journal_r4 ≡ true
holds_r4 = refl

pub takes_r4_1 : versions_of commands_r4 1 journal_r4 ≡ Own.versions own_r4_1
takes_r4_1 = refl

pub made_r4_1 : entries_of 1 journal_r4 ≡ Own.entries own_r4_1
made_r4_1 = refl

pub takes_r4_2 : versions_of commands_r4 2 journal_r4 ≡ Own.versions own_r4_2
takes_r4_2 = refl

pub made_r4_2 : entries_of 2 journal_r4 ≡ Own.entries own_r4_2
made_r4_2 = refl

pub takes_r4_3 : versions_of commands_r4 3 journal_r4 ≡ Own.versions own_r4_3
takes_r4_3 = refl

pub made_r4_3 : entries_of 3 journal_r4 ≡ Own.entries own_r4_3
made_r4_3 = refl

-- r5
--   mutex m;
--   shared x;
--   fn w() {
--   lock m;
--   x = 1;
--   unlock m;
--   }
--   fn main() {
--   lock m;
--   let t = spawn w();
--   let i = 0;
--   while (i < 2) {
--   print i;
--   i = i + 1;
--   }
--   unlock m;
--   join t;
--   }
--
-- script: at 6 install f {park.lm:4; park.lm:6}
-- script:
abbrev pub program_r5 : Source
program_r5 = record { words = (record { name = (codes "x"); cells = None; first = (pos 0) } ∷ []); mutexes = ((codes "m") ∷ []); semas = []; funcs = (record { name = (codes "w"); line = 3; params = []; body = (simple 4 (tree.lock (codes "m")) (simple 5 (set (codes "x") (Right.value (num (pos 1)))) (simple 6 (tree.unlock (codes "m")) tree.end))) } ∷ record { name = (codes "main"); line = 8; params = []; body = (simple 9 (tree.lock (codes "m")) (simple 10 (let_ (codes "t") (Right.spawn (codes "w") [])) (simple 11 (let_ (codes "i") (Right.value (num (pos 0)))) (while_ 12 (bin o.Lt (var (codes "i")) (num (pos 2))) (simple 13 (tree.print (var (codes "i"))) (simple 14 (set (codes "i") (Right.value (bin o.Add (var (codes "i")) (num (pos 1))))) tree.end)) (simple 16 (tree.unlock (codes "m")) (simple 17 (tree.join (var (codes "t"))) tree.end)))))) } ∷ []) }

abbrev pub commands_r5 : List Command
commands_r5 = (record { trigger = script.at 6; name = (codes "f"); action = install (means (plan_of program_r5 ((Clause.exclusive ((Region.between (record { file = (codes "park.lm"); line = 4; test = None } ∷ []) (record { file = (codes "park.lm"); line = 6; test = None } ∷ [])) ∷ [])) ∷ []))) } ∷ [])

abbrev pub own_r5_1 : Own
own_r5_1 = record { thread = 1; func = 1; args = []; versions = (record { number = 0; active = [] } ∷ []); entries = (e.Begin 1 8 ∷ e.Lock 1 9 0 ∷ e.Spawn 1 10 2 0 [] ∷ e.Print 1 13 (pos 0) ∷ e.Print 1 13 (pos 1) ∷ e.Unlock 1 16 0 ∷ e.Blocked 1 17 (w.Join 2) ∷ e.Join 1 17 2 ∷ e.End 1 8 ∷ []) }

abbrev pub steps_r5_1 : List PartStep
steps_r5_1 = (goes (made 8 begin) ∷ goes (enter 1 (((codes "t"), (pos 0)) ∷ ((codes "i"), (pos 0)) ∷ [])) ∷ goes (begins 9 (((codes "t"), (pos 0)) ∷ ((codes "i"), (pos 0)) ∷ [])) ∷ goes (made 9 (lock 0)) ∷ goes (done 9) ∷ goes (begins 10 (((codes "t"), (pos 0)) ∷ ((codes "i"), (pos 0)) ∷ [])) ∷ goes (made 10 (spawn 2 0 [])) ∷ goes (done 10) ∷ goes (begins 11 (((codes "t"), (pos 2)) ∷ ((codes "i"), (pos 0)) ∷ [])) ∷ goes (done 11) ∷ goes (begins 12 (((codes "t"), (pos 2)) ∷ ((codes "i"), (pos 0)) ∷ [])) ∷ goes (begins 13 (((codes "t"), (pos 2)) ∷ ((codes "i"), (pos 0)) ∷ [])) ∷ goes (made 13 (print (pos 0))) ∷ goes (done 13) ∷ goes (begins 14 (((codes "t"), (pos 2)) ∷ ((codes "i"), (pos 0)) ∷ [])) ∷ goes (done 14) ∷ goes (edge 12) ∷ goes (begins 13 (((codes "t"), (pos 2)) ∷ ((codes "i"), (pos 1)) ∷ [])) ∷ goes (made 13 (print (pos 1))) ∷ goes (done 13) ∷ goes (begins 14 (((codes "t"), (pos 2)) ∷ ((codes "i"), (pos 1)) ∷ [])) ∷ goes (done 14) ∷ goes (edge 12) ∷ goes (done 12) ∷ goes (begins 16 (((codes "t"), (pos 2)) ∷ ((codes "i"), (pos 2)) ∷ [])) ∷ goes (made 16 (unlock 0)) ∷ goes (done 16) ∷ goes (begins 17 (((codes "t"), (pos 2)) ∷ ((codes "i"), (pos 2)) ∷ [])) ∷ makes 17 (blocked (w.Join 2)) ∷ goes (made 17 (join 2)) ∷ goes (done 17) ∷ goes (out 1) ∷ goes (made 8 end) ∷ [])

pub woven_r5_1 : AreWoven program_r5 (plans_of commands_r5) (unborn (Own.versions own_r5_1)) steps_r5_1 []
woven_r5_1 = ((refl, tt), (refl, (refl, (refl, (refl, (refl, (refl, (refl, (refl, (refl, (refl, (refl, (refl, (refl, (refl, (refl, (refl, (refl, (refl, (refl, (refl, (refl, (refl, (refl, (refl, (refl, (refl, (refl, (record { asks = refl; not_yet = refl }, (refl, (refl, (refl, (refl, tt)))))))))))))))))))))))))))))))))

pub told_r5_1 : filter_entries 1 steps_r5_1 ≡ Own.entries own_r5_1
told_r5_1 = refl

abbrev pub own_r5_2 : Own
own_r5_2 = record { thread = 2; func = 0; args = []; versions = (record { number = 0; active = [] } ∷ []); entries = (e.Begin 2 3 ∷ e.Blocked 2 4 (w.Lock 0) ∷ e.Lock 2 4 0 ∷ e.Write 2 5 0 (pos 1) ∷ e.Unlock 2 6 0 ∷ e.End 2 3 ∷ []) }

abbrev pub steps_r5_2 : List PartStep
steps_r5_2 = (goes (made 3 begin) ∷ goes (enter 0 []) ∷ goes (begins 4 []) ∷ makes 4 (blocked (w.Lock 0)) ∷ goes (made 4 (lock 0)) ∷ goes (done 4) ∷ goes (begins 5 []) ∷ goes (made 5 (write 0 (pos 1))) ∷ goes (done 5) ∷ goes (begins 6 []) ∷ goes (made 6 (unlock 0)) ∷ goes (done 6) ∷ goes (out 0) ∷ goes (made 3 end) ∷ [])

pub part_r5_2 : IsPart program_r5 (plans_of commands_r5) own_r5_2
part_r5_2 = record {
  steps = steps_r5_2;
  ahead = [];
  outcome = Finished;
  trace = record { most_turns = 3; gives = next (next (next (next (next (next (next (next (next (inr (next (next (next (next ((refl, inl refl))))))))))))))) };
  woven = ((refl, tt), (refl, (refl, (record { asks = refl; not_yet = refl }, (refl, (refl, (refl, (refl, (refl, (refl, (refl, (refl, (refl, (refl, tt))))))))))))));
  tells = refl;
  taken = refl;
}

abbrev pub point_r5_0 : List PartStep
point_r5_0 = (goes (made 8 begin) ∷ goes (enter 1 (((codes "t"), (pos 0)) ∷ ((codes "i"), (pos 0)) ∷ [])) ∷ goes (begins 9 (((codes "t"), (pos 0)) ∷ ((codes "i"), (pos 0)) ∷ [])) ∷ goes (made 9 (lock 0)) ∷ goes (done 9) ∷ goes (begins 10 (((codes "t"), (pos 0)) ∷ ((codes "i"), (pos 0)) ∷ [])) ∷ goes (made 10 (spawn 2 0 [])) ∷ goes (done 10) ∷ goes (begins 11 (((codes "t"), (pos 2)) ∷ ((codes "i"), (pos 0)) ∷ [])) ∷ goes (done 11) ∷ goes (begins 12 (((codes "t"), (pos 2)) ∷ ((codes "i"), (pos 0)) ∷ [])) ∷ goes (begins 13 (((codes "t"), (pos 2)) ∷ ((codes "i"), (pos 0)) ∷ [])) ∷ goes (made 13 (print (pos 0))) ∷ goes (done 13) ∷ goes (begins 14 (((codes "t"), (pos 2)) ∷ ((codes "i"), (pos 0)) ∷ [])) ∷ goes (done 14) ∷ [])

pub woven_point_r5_0 : AreWoven program_r5 (plans_of commands_r5) (unborn (record { number = 0; active = [] } ∷ [])) point_r5_0 ((edge 12) ∷ [])
woven_point_r5_0 = ((refl, tt), (refl, (refl, (refl, (refl, (refl, (refl, (refl, (refl, (refl, (refl, (refl, (refl, (refl, (refl, (refl, tt))))))))))))))))

abbrev pub led_r5_0 : Walk
led_r5_0 = walk_from program_r5 (plans_of commands_r5) (unborn (record { number = 0; active = [] } ∷ [])) point_r5_0

pub stands_r5_0 : place_of_next led_r5_0 (Walk.owed led_r5_0) ((edge 12) ∷ []) ≡ Some (place.back_edge 12)
stands_r5_0 = refl

pub number_r5_0 : place_number program_r5 (place.back_edge 12) ≡ 11
number_r5_0 = refl

abbrev pub point_r5_1 : List PartStep
point_r5_1 = (goes (made 8 begin) ∷ goes (enter 1 (((codes "t"), (pos 0)) ∷ ((codes "i"), (pos 0)) ∷ [])) ∷ goes (begins 9 (((codes "t"), (pos 0)) ∷ ((codes "i"), (pos 0)) ∷ [])) ∷ goes (made 9 (lock 0)) ∷ goes (done 9) ∷ goes (begins 10 (((codes "t"), (pos 0)) ∷ ((codes "i"), (pos 0)) ∷ [])) ∷ goes (made 10 (spawn 2 0 [])) ∷ goes (done 10) ∷ goes (begins 11 (((codes "t"), (pos 2)) ∷ ((codes "i"), (pos 0)) ∷ [])) ∷ goes (done 11) ∷ goes (begins 12 (((codes "t"), (pos 2)) ∷ ((codes "i"), (pos 0)) ∷ [])) ∷ goes (begins 13 (((codes "t"), (pos 2)) ∷ ((codes "i"), (pos 0)) ∷ [])) ∷ goes (made 13 (print (pos 0))) ∷ goes (done 13) ∷ goes (begins 14 (((codes "t"), (pos 2)) ∷ ((codes "i"), (pos 0)) ∷ [])) ∷ goes (done 14) ∷ goes (edge 12) ∷ goes (begins 13 (((codes "t"), (pos 2)) ∷ ((codes "i"), (pos 1)) ∷ [])) ∷ [])

pub woven_point_r5_1 : AreWoven program_r5 (plans_of commands_r5) (unborn (record { number = 0; active = [] } ∷ [])) point_r5_1 ((made 13 (print (pos 1))) ∷ [])
woven_point_r5_1 = ((refl, tt), (refl, (refl, (refl, (refl, (refl, (refl, (refl, (refl, (refl, (refl, (refl, (refl, (refl, (refl, (refl, (refl, (refl, tt))))))))))))))))))

abbrev pub led_r5_1 : Walk
led_r5_1 = walk_from program_r5 (plans_of commands_r5) (unborn (record { number = 0; active = [] } ∷ [])) point_r5_1

pub stands_r5_1 : place_of_next led_r5_1 (Walk.owed led_r5_1) ((made 13 (print (pos 1))) ∷ []) ≡ Some (place.inside 13)
stands_r5_1 = refl

pub number_r5_1 : place_number program_r5 (place.inside 13) ≡ 12
number_r5_1 = refl

abbrev pub point_r5_2 : List PartStep
point_r5_2 = (goes (made 3 begin) ∷ goes (enter 0 []) ∷ goes (begins 4 []) ∷ makes 4 (blocked (w.Lock 0)) ∷ [])

pub woven_point_r5_2 : AreWoven program_r5 (plans_of commands_r5) (unborn (record { number = 0; active = [] } ∷ [])) point_r5_2 ((made 4 (lock 0)) ∷ [])
woven_point_r5_2 = ((refl, tt), (refl, (refl, (record { asks = refl; not_yet = refl }, tt))))

abbrev pub led_r5_2 : Walk
led_r5_2 = walk_from program_r5 (plans_of commands_r5) (unborn (record { number = 0; active = [] } ∷ [])) point_r5_2

pub stands_r5_2 : place_of_next led_r5_2 (Walk.owed led_r5_2) ((made 4 (lock 0)) ∷ []) ≡ Some (place.inside 4)
stands_r5_2 = refl

pub number_r5_2 : place_number program_r5 (place.inside 4) ≡ 2
number_r5_2 = refl

abbrev pub journal_r5 : List Entry
journal_r5 = (e.Begin 1 8 ∷ e.Lock 1 9 0 ∷ e.Spawn 1 10 2 0 [] ∷ e.Begin 2 3 ∷ e.Print 1 13 (pos 0) ∷ e.Blocked 2 4 (w.Lock 0) ∷ e.Asked 1 ∷ e.Stalled 1 2 4 ∷ e.Print 1 13 (pos 1) ∷ e.Unlock 1 16 0 ∷ e.Lock 2 4 0 ∷ e.Blocked 1 17 (w.Join 2) ∷ e.Write 2 5 0 (pos 1) ∷ e.Unlock 2 6 0 ∷ e.End 2 3 ∷ e.Join 1 17 2 ∷ e.End 1 8 ∷ e.Finish k.Done ∷ [])

pub crosses_r5 : check_crosses [] journal_r5 ≡ true
crosses_r5 = refl

pub holds_r5 : check_holds commands_r5 [] journal_r5 ≡ true
holds_r5 = refl

pub takes_r5_1 : versions_of commands_r5 1 journal_r5 ≡ Own.versions own_r5_1
takes_r5_1 = refl

pub made_r5_1 : entries_of 1 journal_r5 ≡ Own.entries own_r5_1
made_r5_1 = refl

pub takes_r5_2 : versions_of commands_r5 2 journal_r5 ≡ Own.versions own_r5_2
takes_r5_2 = refl

pub made_r5_2 : entries_of 2 journal_r5 ≡ Own.entries own_r5_2
made_r5_2 = refl

-- r6
--   shared x;
--   shared y;
--   fn w() {
--   y = 1;
--   y = 2;
--   }
--   fn main() {
--   let t = spawn w();
--   x = 1;
--   x = 2;
--   let i = 0;
--   while (i < 3) {
--   print i;
--   i = i + 1;
--   }
--   join t;
--   }
--
--
-- script: at 0 install u {e.lm:9; e.lm:10} <> *
-- script: at 6 install b {e.lm:13; e.lm:13}
-- script:
abbrev pub program_r6 : Source
program_r6 = record { words = (record { name = (codes "x"); cells = None; first = (pos 0) } ∷ record { name = (codes "y"); cells = None; first = (pos 0) } ∷ []); mutexes = []; semas = []; funcs = (record { name = (codes "w"); line = 3; params = []; body = (simple 4 (set (codes "y") (Right.value (num (pos 1)))) (simple 5 (set (codes "y") (Right.value (num (pos 2)))) tree.end)) } ∷ record { name = (codes "main"); line = 7; params = []; body = (simple 8 (let_ (codes "t") (Right.spawn (codes "w") [])) (simple 9 (set (codes "x") (Right.value (num (pos 1)))) (simple 10 (set (codes "x") (Right.value (num (pos 2)))) (simple 11 (let_ (codes "i") (Right.value (num (pos 0)))) (while_ 12 (bin o.Lt (var (codes "i")) (num (pos 3))) (simple 13 (tree.print (var (codes "i"))) (simple 14 (set (codes "i") (Right.value (bin o.Add (var (codes "i")) (num (pos 1))))) tree.end)) (simple 16 (tree.join (var (codes "t"))) tree.end)))))) } ∷ []) }

abbrev pub commands_r6 : List Command
commands_r6 = (record { trigger = script.at 0; name = (codes "u"); action = install (means (plan_of program_r6 ((Clause.unilateral (Region.between (record { file = (codes "e.lm"); line = 9; test = None } ∷ []) (record { file = (codes "e.lm"); line = 10; test = None } ∷ []))) ∷ []))) } ∷ record { trigger = script.at 6; name = (codes "b"); action = install (means (plan_of program_r6 ((Clause.exclusive ((Region.between (record { file = (codes "e.lm"); line = 13; test = None } ∷ []) (record { file = (codes "e.lm"); line = 13; test = None } ∷ [])) ∷ [])) ∷ []))) } ∷ [])

abbrev pub own_r6_1 : Own
own_r6_1 = record { thread = 1; func = 1; args = []; versions = (record { number = 1; active = (1 ∷ []) } ∷ record { number = 2; active = (1 ∷ 2 ∷ []) } ∷ []); entries = (e.Begin 1 7 ∷ e.Spawn 1 8 2 0 [] ∷ e.Enter 1 9 1 1 ∷ e.At 1 9 1 (1 ∷ []) ∷ e.Write 1 9 0 (pos 1) ∷ e.Past 1 9 1 (1 ∷ []) ∷ e.At 1 10 1 (2 ∷ []) ∷ e.Write 1 10 0 (pos 2) ∷ e.Past 1 10 1 (2 ∷ []) ∷ e.Leave 1 10 1 1 ∷ e.Print 1 13 (pos 0) ∷ e.Cross 1 12 11 2 0 ∷ e.Enter 1 13 2 1 ∷ e.At 1 13 2 (1 ∷ 2 ∷ []) ∷ e.Print 1 13 (pos 1) ∷ e.Past 1 13 2 (1 ∷ 2 ∷ []) ∷ e.Leave 1 13 2 1 ∷ e.Enter 1 13 2 1 ∷ e.At 1 13 2 (1 ∷ 2 ∷ []) ∷ e.Print 1 13 (pos 2) ∷ e.Past 1 13 2 (1 ∷ 2 ∷ []) ∷ e.Leave 1 13 2 1 ∷ e.Join 1 16 2 ∷ e.End 1 7 ∷ []) }

abbrev pub steps_r6_1 : List PartStep
steps_r6_1 = (goes (made 7 begin) ∷ goes (enter 1 (((codes "t"), (pos 0)) ∷ ((codes "i"), (pos 0)) ∷ [])) ∷ goes (begins 8 (((codes "t"), (pos 0)) ∷ ((codes "i"), (pos 0)) ∷ [])) ∷ goes (made 8 (spawn 2 0 [])) ∷ goes (done 8) ∷ goes (begins 9 (((codes "t"), (pos 2)) ∷ ((codes "i"), (pos 0)) ∷ [])) ∷ makes 9 (enters 1 1) ∷ makes 9 (walk.at 1 (1 ∷ [])) ∷ goes (made 9 (write 0 (pos 1))) ∷ goes (done 9) ∷ makes 9 (walk.past 1 (1 ∷ [])) ∷ goes (begins 10 (((codes "t"), (pos 2)) ∷ ((codes "i"), (pos 0)) ∷ [])) ∷ makes 10 (walk.at 1 (2 ∷ [])) ∷ goes (made 10 (write 0 (pos 2))) ∷ goes (done 10) ∷ makes 10 (walk.past 1 (2 ∷ [])) ∷ makes 10 (leave 1 1) ∷ goes (begins 11 (((codes "t"), (pos 2)) ∷ ((codes "i"), (pos 0)) ∷ [])) ∷ goes (done 11) ∷ goes (begins 12 (((codes "t"), (pos 2)) ∷ ((codes "i"), (pos 0)) ∷ [])) ∷ goes (begins 13 (((codes "t"), (pos 2)) ∷ ((codes "i"), (pos 0)) ∷ [])) ∷ goes (made 13 (print (pos 0))) ∷ goes (done 13) ∷ goes (begins 14 (((codes "t"), (pos 2)) ∷ ((codes "i"), (pos 0)) ∷ [])) ∷ goes (done 14) ∷ makes 12 (cross 11 2 0) ∷ goes (edge 12) ∷ goes (begins 13 (((codes "t"), (pos 2)) ∷ ((codes "i"), (pos 1)) ∷ [])) ∷ makes 13 (enters 2 1) ∷ makes 13 (walk.at 2 (1 ∷ 2 ∷ [])) ∷ goes (made 13 (print (pos 1))) ∷ goes (done 13) ∷ makes 13 (walk.past 2 (1 ∷ 2 ∷ [])) ∷ makes 13 (leave 2 1) ∷ goes (begins 14 (((codes "t"), (pos 2)) ∷ ((codes "i"), (pos 1)) ∷ [])) ∷ goes (done 14) ∷ goes (edge 12) ∷ goes (begins 13 (((codes "t"), (pos 2)) ∷ ((codes "i"), (pos 2)) ∷ [])) ∷ makes 13 (enters 2 1) ∷ makes 13 (walk.at 2 (1 ∷ 2 ∷ [])) ∷ goes (made 13 (print (pos 2))) ∷ goes (done 13) ∷ makes 13 (walk.past 2 (1 ∷ 2 ∷ [])) ∷ makes 13 (leave 2 1) ∷ goes (begins 14 (((codes "t"), (pos 2)) ∷ ((codes "i"), (pos 2)) ∷ [])) ∷ goes (done 14) ∷ goes (edge 12) ∷ goes (done 12) ∷ goes (begins 16 (((codes "t"), (pos 2)) ∷ ((codes "i"), (pos 3)) ∷ [])) ∷ goes (made 16 (join 2)) ∷ goes (done 16) ∷ goes (out 1) ∷ goes (made 7 end) ∷ [])

pub woven_r6_1 : AreWoven program_r6 (plans_of commands_r6) (unborn (Own.versions own_r6_1)) steps_r6_1 []
woven_r6_1 = ((refl, tt), (refl, (refl, (refl, (refl, (refl, (refl, (refl, (refl, (refl, (refl, (refl, (refl, (refl, (refl, (refl, (refl, (refl, (refl, (refl, (refl, (refl, (refl, (refl, (refl, (record { place = _; next = refl; number = refl; line = refl; version = refl; passed = refl }, (refl, (refl, (refl, (refl, (refl, (refl, (refl, (refl, (refl, (refl, (refl, (refl, (refl, (refl, (refl, (refl, (refl, (refl, (refl, (refl, (refl, (refl, (refl, (refl, (refl, (refl, (refl, tt)))))))))))))))))))))))))))))))))))))))))))))))))))))

pub told_r6_1 : filter_entries 1 steps_r6_1 ≡ Own.entries own_r6_1
told_r6_1 = refl

abbrev pub own_r6_2 : Own
own_r6_2 = record { thread = 2; func = 0; args = []; versions = (record { number = 1; active = (1 ∷ []) } ∷ record { number = 2; active = (1 ∷ 2 ∷ []) } ∷ []); entries = (e.Begin 2 3 ∷ e.Cross 2 4 2 2 1 ∷ e.Write 2 4 1 (pos 1) ∷ e.Write 2 5 1 (pos 2) ∷ e.End 2 3 ∷ []) }

abbrev pub steps_r6_2 : List PartStep
steps_r6_2 = (goes (made 3 begin) ∷ goes (enter 0 []) ∷ goes (begins 4 []) ∷ makes 4 (cross 2 2 1) ∷ goes (made 4 (write 1 (pos 1))) ∷ goes (done 4) ∷ goes (begins 5 []) ∷ goes (made 5 (write 1 (pos 2))) ∷ goes (done 5) ∷ goes (out 0) ∷ goes (made 3 end) ∷ [])

pub part_r6_2 : IsPart program_r6 (plans_of commands_r6) own_r6_2
part_r6_2 = record {
  steps = steps_r6_2;
  ahead = [];
  outcome = Finished;
  trace = record { most_turns = 3; gives = next (next (next (next (next (next (next (next (next (next ((refl, inl refl))))))))))) };
  woven = ((refl, tt), (refl, (refl, (record { place = _; next = refl; number = refl; line = refl; version = refl; passed = refl }, (refl, (refl, (refl, (refl, (refl, (refl, (refl, tt)))))))))));
  tells = refl;
  taken = refl;
}

abbrev pub point_r6_0 : List PartStep
point_r6_0 = (goes (made 7 begin) ∷ goes (enter 1 (((codes "t"), (pos 0)) ∷ ((codes "i"), (pos 0)) ∷ [])) ∷ goes (begins 8 (((codes "t"), (pos 0)) ∷ ((codes "i"), (pos 0)) ∷ [])) ∷ goes (made 8 (spawn 2 0 [])) ∷ goes (done 8) ∷ goes (begins 9 (((codes "t"), (pos 2)) ∷ ((codes "i"), (pos 0)) ∷ [])) ∷ makes 9 (enters 1 1) ∷ makes 9 (walk.at 1 (1 ∷ [])) ∷ goes (made 9 (write 0 (pos 1))) ∷ goes (done 9) ∷ makes 9 (walk.past 1 (1 ∷ [])) ∷ goes (begins 10 (((codes "t"), (pos 2)) ∷ ((codes "i"), (pos 0)) ∷ [])) ∷ makes 10 (walk.at 1 (2 ∷ [])) ∷ goes (made 10 (write 0 (pos 2))) ∷ goes (done 10) ∷ makes 10 (walk.past 1 (2 ∷ [])) ∷ makes 10 (leave 1 1) ∷ goes (begins 11 (((codes "t"), (pos 2)) ∷ ((codes "i"), (pos 0)) ∷ [])) ∷ goes (done 11) ∷ goes (begins 12 (((codes "t"), (pos 2)) ∷ ((codes "i"), (pos 0)) ∷ [])) ∷ goes (begins 13 (((codes "t"), (pos 2)) ∷ ((codes "i"), (pos 0)) ∷ [])) ∷ goes (made 13 (print (pos 0))) ∷ goes (done 13) ∷ goes (begins 14 (((codes "t"), (pos 2)) ∷ ((codes "i"), (pos 0)) ∷ [])) ∷ goes (done 14) ∷ [])

pub woven_point_r6_0 : AreWoven program_r6 (plans_of commands_r6) (unborn (record { number = 1; active = (1 ∷ []) } ∷ [])) point_r6_0 ((edge 12) ∷ [])
woven_point_r6_0 = ((refl, tt), (refl, (refl, (refl, (refl, (refl, (refl, (refl, (refl, (refl, (refl, (refl, (refl, (refl, (refl, (refl, (refl, (refl, (refl, (refl, (refl, (refl, (refl, (refl, (refl, tt)))))))))))))))))))))))))

abbrev pub led_r6_0 : Walk
led_r6_0 = walk_from program_r6 (plans_of commands_r6) (unborn (record { number = 1; active = (1 ∷ []) } ∷ [])) point_r6_0

pub stands_r6_0 : place_of_next led_r6_0 (Walk.owed led_r6_0) ((edge 12) ∷ []) ≡ Some (place.back_edge 12)
stands_r6_0 = refl

pub number_r6_0 : place_number program_r6 (place.back_edge 12) ≡ 11
number_r6_0 = refl

abbrev pub point_r6_1 : List PartStep
point_r6_1 = (goes (made 7 begin) ∷ goes (enter 1 (((codes "t"), (pos 0)) ∷ ((codes "i"), (pos 0)) ∷ [])) ∷ goes (begins 8 (((codes "t"), (pos 0)) ∷ ((codes "i"), (pos 0)) ∷ [])) ∷ goes (made 8 (spawn 2 0 [])) ∷ goes (done 8) ∷ goes (begins 9 (((codes "t"), (pos 2)) ∷ ((codes "i"), (pos 0)) ∷ [])) ∷ makes 9 (enters 1 1) ∷ makes 9 (walk.at 1 (1 ∷ [])) ∷ goes (made 9 (write 0 (pos 1))) ∷ goes (done 9) ∷ makes 9 (walk.past 1 (1 ∷ [])) ∷ goes (begins 10 (((codes "t"), (pos 2)) ∷ ((codes "i"), (pos 0)) ∷ [])) ∷ makes 10 (walk.at 1 (2 ∷ [])) ∷ goes (made 10 (write 0 (pos 2))) ∷ goes (done 10) ∷ makes 10 (walk.past 1 (2 ∷ [])) ∷ makes 10 (leave 1 1) ∷ goes (begins 11 (((codes "t"), (pos 2)) ∷ ((codes "i"), (pos 0)) ∷ [])) ∷ goes (done 11) ∷ goes (begins 12 (((codes "t"), (pos 2)) ∷ ((codes "i"), (pos 0)) ∷ [])) ∷ goes (begins 13 (((codes "t"), (pos 2)) ∷ ((codes "i"), (pos 0)) ∷ [])) ∷ goes (made 13 (print (pos 0))) ∷ goes (done 13) ∷ goes (begins 14 (((codes "t"), (pos 2)) ∷ ((codes "i"), (pos 0)) ∷ [])) ∷ goes (done 14) ∷ goes (edge 12) ∷ goes (begins 13 (((codes "t"), (pos 2)) ∷ ((codes "i"), (pos 1)) ∷ [])) ∷ [])

pub woven_point_r6_1 : AreWoven program_r6 (plans_of commands_r6) (unborn (record { number = 1; active = (1 ∷ []) } ∷ [])) point_r6_1 ((made 13 (print (pos 1))) ∷ [])
woven_point_r6_1 = ((refl, tt), (refl, (refl, (refl, (refl, (refl, (refl, (refl, (refl, (refl, (refl, (refl, (refl, (refl, (refl, (refl, (refl, (refl, (refl, (refl, (refl, (refl, (refl, (refl, (refl, (refl, (refl, tt)))))))))))))))))))))))))))

abbrev pub led_r6_1 : Walk
led_r6_1 = walk_from program_r6 (plans_of commands_r6) (unborn (record { number = 1; active = (1 ∷ []) } ∷ [])) point_r6_1

pub stands_r6_1 : place_of_next led_r6_1 (Walk.owed led_r6_1) ((made 13 (print (pos 1))) ∷ []) ≡ Some (place.inside 13)
stands_r6_1 = refl

pub number_r6_1 : place_number program_r6 (place.inside 13) ≡ 12
number_r6_1 = refl

abbrev pub point_r6_2 : List PartStep
point_r6_2 = (goes (made 3 begin) ∷ [])

pub woven_point_r6_2 : AreWoven program_r6 (plans_of commands_r6) (unborn (record { number = 1; active = (1 ∷ []) } ∷ [])) point_r6_2 ((enter 0 []) ∷ [])
woven_point_r6_2 = ((refl, tt), tt)

abbrev pub led_r6_2 : Walk
led_r6_2 = walk_from program_r6 (plans_of commands_r6) (unborn (record { number = 1; active = (1 ∷ []) } ∷ [])) point_r6_2

pub stands_r6_2 : place_of_next led_r6_2 (Walk.owed led_r6_2) ((enter 0 []) ∷ []) ≡ Some (place.entry 0)
stands_r6_2 = refl

pub number_r6_2 : place_number program_r6 (place.entry 0) ≡ 1
number_r6_2 = refl

abbrev pub point_r6_3 : List PartStep
point_r6_3 = (goes (made 3 begin) ∷ goes (enter 0 []) ∷ goes (begins 4 []) ∷ [])

pub woven_point_r6_3 : AreWoven program_r6 (plans_of commands_r6) (unborn (record { number = 1; active = (1 ∷ []) } ∷ [])) point_r6_3 ((made 4 (write 1 (pos 1))) ∷ [])
woven_point_r6_3 = ((refl, tt), (refl, (refl, tt)))

abbrev pub led_r6_3 : Walk
led_r6_3 = walk_from program_r6 (plans_of commands_r6) (unborn (record { number = 1; active = (1 ∷ []) } ∷ [])) point_r6_3

pub stands_r6_3 : place_of_next led_r6_3 (Walk.owed led_r6_3) ((made 4 (write 1 (pos 1))) ∷ []) ≡ Some (place.inside 4)
stands_r6_3 = refl

pub number_r6_3 : place_number program_r6 (place.inside 4) ≡ 2
number_r6_3 = refl

abbrev pub journal_r6 : List Entry
journal_r6 = (e.Asked 1 ∷ e.Installed 1 1 (0 ∷ 0 ∷ 0 ∷ 0 ∷ 0 ∷ 0 ∷ 0 ∷ 0 ∷ []) ∷ e.Begin 1 7 ∷ e.Spawn 1 8 2 0 [] ∷ e.Begin 2 3 ∷ e.Enter 1 9 1 1 ∷ e.At 1 9 1 (1 ∷ []) ∷ e.Write 1 9 0 (pos 1) ∷ e.Asked 2 ∷ e.Past 1 9 1 (1 ∷ []) ∷ e.At 1 10 1 (2 ∷ []) ∷ e.Write 1 10 0 (pos 2) ∷ e.Past 1 10 1 (2 ∷ []) ∷ e.Leave 1 10 1 1 ∷ e.Print 1 13 (pos 0) ∷ e.Installed 2 2 (11 ∷ 2 ∷ 0 ∷ 0 ∷ 0 ∷ 0 ∷ 0 ∷ 0 ∷ []) ∷ e.Cross 1 12 11 2 0 ∷ e.Cross 2 4 2 2 1 ∷ e.Enter 1 13 2 1 ∷ e.Write 2 4 1 (pos 1) ∷ e.At 1 13 2 (1 ∷ 2 ∷ []) ∷ e.Write 2 5 1 (pos 2) ∷ e.Print 1 13 (pos 1) ∷ e.End 2 3 ∷ e.Past 1 13 2 (1 ∷ 2 ∷ []) ∷ e.Leave 1 13 2 1 ∷ e.Enter 1 13 2 1 ∷ e.At 1 13 2 (1 ∷ 2 ∷ []) ∷ e.Print 1 13 (pos 2) ∷ e.Past 1 13 2 (1 ∷ 2 ∷ []) ∷ e.Leave 1 13 2 1 ∷ e.Join 1 16 2 ∷ e.End 1 7 ∷ e.Finish k.Done ∷ [])

pub crosses_r6 : check_crosses [] journal_r6 ≡ true
crosses_r6 = refl

pub holds_r6 : check_holds commands_r6 [] journal_r6 ≡ true
holds_r6 = refl

pub takes_r6_1 : versions_of commands_r6 1 journal_r6 ≡ Own.versions own_r6_1
takes_r6_1 = refl

pub made_r6_1 : entries_of 1 journal_r6 ≡ Own.entries own_r6_1
made_r6_1 = refl

pub takes_r6_2 : versions_of commands_r6 2 journal_r6 ≡ Own.versions own_r6_2
takes_r6_2 = refl

pub made_r6_2 : entries_of 2 journal_r6 ≡ Own.entries own_r6_2
made_r6_2 = refl
