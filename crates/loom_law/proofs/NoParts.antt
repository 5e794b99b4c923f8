-- Journals that are not lawful, since a thread does something else than it owes, or doesn't keep away from flagged places.
use Rattle.std.proofs.Common.{ℕ, zero, suc, ◌≡◌, ◌⊎◌, inl, inr, true, false, pos, List, [], ◌∷◌, ◌++◌, map, Some, None, slice_get, refl, sym, ap, subst, ◌∙◌, codes, arith}
use Rattle.loom_tree.specs.Tree.{Source, num, var, bin, Right, set, simple}
use Rattle.loom_tree.specs.Tree as tree
use Rattle.loom_tree.specs.declared.expression.Op.TheVariants as o
use Rattle.loom_trace.specs.declared.entry.Entry.{Entry}
use Rattle.loom_trace.specs.declared.entry.Entry.TheVariants as e
use Rattle.loom_trace.specs.declared.entry.What.{What}
use Rattle.loom_trace.specs.declared.entry.What.TheVariants as w
use Rattle.loom_trace.specs.declared.entry.Ending.TheVariants as k
use Rattle.loom_lang.specs.Places.{Place, nowhere, places}
use Rattle.loom_lang.specs.Places as place
use Rattle.loom_lang.specs.Trace.{begin, read, write, up, down, spawn, print, Item, made, begins, done, enter, Open}
use Rattle.loom_command.specs.Filter.{Region, Clause}
use Rattle.loom_command.specs.Script as script
use Rattle.loom_event.specs.TargetEvent.{TargetEvent}
use Rattle.loom_event.specs.Replay.{start, thread_at, replay}
use Rattle.loom_event.proofs.Runs.{next, given, event_of, events_told}
use Rattle.loom_event.proofs.Examples.{event, adds}
use Rattle.loom_law.specs.Filter.{Plan, plan_of}
use Rattle.loom_law.specs.Walk.{Plans, past, leave, blocked, PartStep, goes, makes, items, filter_entries, Queue, Walk, unborn, is_same_place, position_of, place_number, request_place, place_of_next, walk_from, MayBlock, AreWoven}
use Rattle.loom_law.specs.ThreadPart.{Own, walk_of, IsPart, Point, IsPlaceOf, ComesTo, HasMoved, KeepsAway, AsksToMake}
use Rattle.loom_law.specs.Paths.{IsUnsafe}
use Rattle.loom_law.specs.FilterView.{IsClear, view_behind}
use Rattle.loom_law.specs.Control.{means, install, remove, Command}
use Rattle.loom_law.specs.Lawful.{Setting, Front, plans, StandsAt, running_thread, IsOutside, SeesNothing, MayInstall, HasPart, IsFlagged, StaysAway, Parks, front_at, IsLawful}
use Rattle.loom_law.specs.TurnLaws.{blocked_behind, ends_blocked}
use Rattle.loom_law.specs.Laws.{SameSteps}
use Rattle.loom_law.proofs.OnePart.{told_append, append_none, never_empty, same_front, one_move, one_made}
use Rattle.loom_law.proofs.Earlier.{an_own, part_front, woven_front, same_number, by_test, if_true, if_false}
use Rattle.loom_law.proofs.Turns.{stands_there}
use Rattle.loom_law.proofs.Makings.{OpPart, cut_part, walk_blocked}
use Rattle.loom_law.proofs.OneRequest.{one_operation}
use Rattle.loom_law.proofs.Journals.{not_off}
use Rattle.loom_law.proofs.Examples.{setting, fix, version, events, main_part}
use Rattle.loom_law.proofs.Inside.{owed_none}
use Rattle.loom_law.proofs.RemovalJournal.{removal_program, removal_front, removal_setting}

-- What a thread owes

-- thread 1 up to the end of its statement
abbrev updated : List Entry
updated = e.Begin 1 5 ∷ e.Spawn 1 6 2 0 [] ∷ e.Enter 1 7 1 1 ∷ e.At 1 7 1 (3 ∷ 4 ∷ []) ∷ e.Read 1 7 0 (pos 0) ∷ e.Write 1 7 0 (pos 1) ∷ []

abbrev at_update : Own
at_update = an_own 1 1 [] (version ∷ []) updated

asks_past : AsksToMake adds (plans setting) at_update 7 (past 1 (3 ∷ 4 ∷ []))
asks_past =
    part_front adds (plans setting) 1 1 [] (version ∷ []) [] (updated ++ e.Past 1 7 1 (3 ∷ 4 ∷ []) ∷ [])
    (e.Leave 1 7 1 1 ∷ e.Blocked 1 8 (w.Join 2) ∷ e.Join 1 8 2 ∷ e.Read 1 9 0 (pos 2) ∷ e.Print 1 9 (pos 2) ∷ e.End 1 5 ∷ []) refl main_part

-- a clause is left before its statement is told as complete
abbrev pub leave_first : List Entry
leave_first =
    e.Asked 1 ∷ e.Installed 1 1 (0 ∷ 0 ∷ 0 ∷ 0 ∷ 0 ∷ 0 ∷ 0 ∷ 0 ∷ []) ∷ e.Begin 1 5 ∷ e.Spawn 1 6 2 0 [] ∷ e.Begin 2 2 ∷ e.Enter 1 7 1 1
    ∷ e.Blocked 2 3 (w.Enter 1 1) ∷ e.At 1 7 1 (3 ∷ 4 ∷ []) ∷ e.Read 1 7 0 (pos 0) ∷ e.Write 1 7 0 (pos 1) ∷ e.Leave 1 7 1 1
    ∷ e.Past 1 7 1 (3 ∷ 4 ∷ []) ∷ e.Enter 2 3 1 1 ∷ e.Blocked 1 8 (w.Join 2) ∷ e.At 2 3 1 (1 ∷ 2 ∷ []) ∷ e.Read 2 3 0 (pos 1) ∷ e.Write 2 3 0 (pos 2)
    ∷ e.Past 2 3 1 (1 ∷ 2 ∷ []) ∷ e.Leave 2 3 1 1 ∷ e.End 2 2 ∷ e.Join 1 8 2 ∷ e.Read 1 9 0 (pos 2) ∷ e.Print 1 9 (pos 2) ∷ e.End 1 5
    ∷ e.Finish k.Done ∷ []

pub leave_first_unlawful : IsLawful setting leave_first → ⊥
leave_first_unlawful h =
    let same : h.events ≡ events = events_told h.events events (ap (map event_of) h.tells) in
    let P : List TargetEvent → Type 0 = λ xs. HasPart setting leave_first 1 (thread_at (replay (start adds 8) xs) 1) in
    let part : HasPart setting leave_first 1 (thread_at (replay (start adds 8) events) 1) = subst P same (h.parts 1) in
    let asks : AsksToMake adds (plans setting) at_update 7 (leave 1 1) =
    part_front adds (plans setting) 1 1 [] (version ∷ []) [] (updated ++ e.Leave 1 7 1 1 ∷ [])
    (e.Past 1 7 1 (3 ∷ 4 ∷ []) ∷ e.Blocked 1 8 (w.Join 2) ∷ e.Join 1 8 2 ∷ e.Read 1 9 0 (pos 2) ∷ e.Print 1 9 (pos 2) ∷ e.End 1 5 ∷ []) refl part in
    let both = one_operation adds (plans setting) at_update 7 7 (past 1 (3 ∷ 4 ∷ [])) (leave 1 1) refl refl asks_past asks in
    let no : past 1 (3 ∷ 4 ∷ []) ≡ leave 1 1 = both.1 in
    cc

-- no thread is told as blocked twice behind each other
pub blocked_once : (p : Source) (ps : Plans) (x : Own) (es : List Entry) (l : ℕ) (what : What) → x.entries ≡ es ++ e.Blocked x.thread l what ∷ [] → ends_blocked es ≡ true
    → IsPart p ps x → ⊥
blocked_once p ps x es l what is twice h =
    let t : ℕ = x.thread in
    let c : OpPart p ps x l (blocked what) = cut_part p ps x es l (blocked what) is h in
    let part : IsPart p ps x = c.part in
    let last : List PartStep = makes l (blocked what) ∷ [] in
    let woven : AreWoven p ps (unborn x.versions) (c.before ++ last) part.ahead = subst (λ ss. AreWoven p ps (unborn x.versions) ss part.ahead) c.last part.woven in
    let stands : MayBlock (walk_from p ps (unborn x.versions) c.before) part.ahead l what =
    stands_there p ps (unborn x.versions) c.before (makes l (blocked what)) [] part.ahead woven in
    let tells : filter_entries t c.before ++ e.Blocked t l what ∷ [] ≡ es ++ e.Blocked t l what ∷ [] =
    sym (told_append t c.before last) ∙ (ap (filter_entries t) (sym c.last) ∙ (part.tells ∙ is)) in
    let same : filter_entries t c.before ≡ es = same_front (filter_entries t c.before) es (e.Blocked t l what) (e.Blocked t l what) tells in
    let no : true ≡ false =
    sym twice
    ∙ (ap (blocked_behind false) (sym same)
    ∙ (sym (walk_blocked p ps t (unborn x.versions) c.before part.ahead (woven_front p ps (unborn x.versions) c.before last part.ahead woven)) ∙ stands.not_yet)) in
    cc

-- Places

same_place : (x y : Place) → is_same_place x y ≡ true → x ≡ y
same_place place.nowhere place.nowhere h = refl
same_place (place.entry f) (place.entry g) h = ap (λ n. place.entry n) (same_number f g h)
same_place (place.inside l) (place.inside m) h = ap (λ n. place.inside n) (same_number l m h)
same_place (place.back_edge l) (place.back_edge m) h = ap (λ n. place.back_edge n) (same_number l m h)
same_place (place.out f) (place.out g) h = ap (λ n. place.out n) (same_number f g h)
same_place _ _ h = cc

-- the place of a number
pub at_number : (x : Place) (ys : List Place) (n : ℕ) (y : Place) → position_of x ys ≡ n → slice_get ys n ≡ Some y → y ≡ x
at_number x [] n y h g = cc
at_number x (z ∷ ys) n y h g = by_test (is_same_place z x) (y ≡ x) (λ b. here n (sym (if_true (is_same_place z x) 0 (suc (position_of x ys)) b) ∙ h) g (same_place z x b)) (λ b. behind n (sym (if_false (is_same_place z x) 0 (suc (position_of x ys)) b) ∙ h) g (at_number x ys))
  where
    here : (n : ℕ) → 0 ≡ n → slice_get (z ∷ ys) n ≡ Some y → z ≡ x → y ≡ x
    here zero h g same = let first : z ≡ y = cc in sym first ∙ same
    here (suc n) h g same = let no : ⊥ = omega arith in absurd no

    behind : (n : ℕ) → suc (position_of x ys) ≡ n → slice_get (z ∷ ys) n ≡ Some y → ((n : ℕ) (y : Place) → position_of x ys ≡ n → slice_get ys n ≡ Some y → y ≡ x) → y ≡ x
    behind zero h g ih = let no : ⊥ = omega arith in absurd no
    behind (suc n) h g ih = ih n y (omega arith) g

-- a filter that is installed at the third entry of a thread
abbrev pub third_setting : Setting
third_setting = record setting { commands = record { trigger = script.at 3; name = codes "fix"; action = install (means (plan_of adds fix)) } ∷ [] }

-- the statement in which both sites of its second region lie
unsafe_update : IsUnsafe adds (plan_of adds fix) (place.inside 7)
unsafe_update = inl (record {
  event = 3;
  watch = _;
  is = refl;
  line = 7;
  site = refl;
  function = 1;
  body = simple 7 (set (codes "x") (Right.value (bin o.Add (var (codes "x")) (num (pos 1))))) tree.end;
  there = record { function = _; is = refl; there = (1, omega arith, refl); line = refl };
  place = inl (0, omega arith, refl);
})

abbrev first_of : List ℕ → ℕ
first_of [] = 0
first_of (n ∷ ns) = n

-- it is installed where thread 1 stands at a place that isn't flagged
abbrev pub unflagged : List Entry
unflagged =
    e.Begin 1 5 ∷ e.Spawn 1 6 2 0 [] ∷ e.Begin 2 2 ∷ e.Asked 1 ∷ e.Installed 1 1 (6 ∷ 1 ∷ 0 ∷ 0 ∷ 0 ∷ 0 ∷ 0 ∷ 0 ∷ []) ∷ []

pub unflagged_unlawful : IsLawful third_setting unflagged → ⊥
unflagged_unlawful h =
    let bad = h.follows (e.Begin 1 5 ∷ e.Spawn 1 6 2 0 [] ∷ e.Begin 2 2 ∷ e.Asked 1 ∷ []) (e.Installed 1 1 (6 ∷ 1 ∷ 0 ∷ 0 ∷ 0 ∷ 0 ∷ 0 ∷ 0 ∷ [])) [] refl in
    let x : Place = bad.1.lists.place 1 in
    let number : place_number adds x ≡ 6 = sym (ap first_of bad.1.lists.are) in
    let same : place.inside 7 ≡ x = at_number x (places adds) 6 (place.inside 7) number refl in
    let flagged : IsFlagged third_setting 1 (place.inside 7) = subst (IsFlagged third_setting 1) (sym same) (bad.1.lists.flagged 1) in
    no_flag flagged
  where
    no_flag : (place.inside 7 ≡ nowhere) ⊎ (IsUnsafe adds (plan_of adds fix) (place.inside 7) → ⊥) → ⊥
    no_flag (inl g) = cc
    no_flag (inr g) = g unsafe_update

-- A command stalls though the thread that is named can go on.
abbrev pub stalled_early : List Entry
stalled_early = e.Begin 1 5 ∷ e.Spawn 1 6 2 0 [] ∷ e.Begin 2 2 ∷ e.Asked 1 ∷ e.Stalled 1 1 7 ∷ []

pub stalled_early_unlawful : IsLawful third_setting stalled_early → ⊥
stalled_early_unlawful h =
    let bad = h.follows (e.Begin 1 5 ∷ e.Spawn 1 6 2 0 [] ∷ e.Begin 2 2 ∷ e.Asked 1 ∷ []) (e.Stalled 1 1 7) [] refl in
    let f : Front = front_at third_setting h.events (e.Begin 1 5 ∷ e.Spawn 1 6 2 0 [] ∷ e.Begin 2 2 ∷ e.Asked 1 ∷ []) in
    no_way (bad.1.waits 1 bad.1.lives) bad.1.not_flagged (not_off third_setting f 1 refl)
  where
    no_way : {A B : Type 0} → A ⊎ (⊥ ⊎ B) → (A → ⊥) → (B → ⊥) → ⊥
    no_way (inl g) low off = low g
    no_way (inr (inl g)) low off = g
    no_way (inr (inr g)) low off = off g

-- Parked threads

-- a thread that is blocked at a flagged place makes no entry
pub blocked_stays : (s : Setting) (x : Own) (n : ℕ) (front : List Entry) (y : Entry) → x.entries ≡ front ++ y ∷ [] → ends_blocked front ≡ true
    → ((z : Place) → IsFlagged s n z) → StaysAway s x n → ⊥
blocked_stays s x n front y is blocked_ flagged h =
    let t : ℕ = x.thread in
    let p : Source = s.program in
    let m : HasMoved p (plans s) x h.steps = h.moved in
    let last : List PartStep = m.last ∷ [] in
    let tells : filter_entries t h.steps ++ m.entry ∷ [] ≡ front ++ y ∷ [] =
    ap (λ us. filter_entries t h.steps ++ us) (sym m.is) ∙ (sym (told_append t h.steps last) ∙ (m.tells ∙ is)) in
    let same : filter_entries t h.steps ≡ front = same_front (filter_entries t h.steps) front m.entry y tells in
    let woven : AreWoven p (plans s) (unborn x.versions) h.steps (items last ++ m.ahead) = woven_front p (plans s) (unborn x.versions) h.steps last m.ahead m.woven in
    let stood : Walk.is_blocked (walk_of p (plans s) x h.steps) ≡ true =
    walk_blocked p (plans s) t (unborn x.versions) h.steps (items last ++ m.ahead) woven ∙ (ap (blocked_behind false) same ∙ blocked_) in
    h.away.stood stood (flagged (request_place (walk_of p (plans s) x h.steps)))

-- the removal of the worked journal is asked earlier
abbrev pub fifth_setting : Setting
fifth_setting = record removal_setting {
  commands = record { trigger = script.at 0; name = codes "m"; action = install (means (plan_of removal_program ((Clause.exclusive ((Region.between (record { file = (codes "hold.lm"); line = 3; test = None } ∷ []) (record { file = (codes "hold.lm"); line = 3; test = None } ∷ [])) ∷ [])) ∷ []))) }
      ∷ record { trigger = script.at 5; name = codes "m"; action = remove } ∷ [];
}

abbrev passing_front : List Entry
passing_front =
    e.Asked 1 ∷ e.Installed 1 1 (0 ∷ 0 ∷ 0 ∷ 0 ∷ 0 ∷ 0 ∷ 0 ∷ 0 ∷ []) ∷ e.Begin 1 9 ∷ e.Spawn 1 10 2 0 [] ∷ e.Begin 2 2 ∷ e.Spawn 1 11 3 0 []
    ∷ e.Enter 2 3 1 1 ∷ e.Asked 2 ∷ e.Print 1 12 (pos 1) ∷ []

-- thread 1 goes on into a function, past a flagged place
abbrev pub passing : List Entry
passing = passing_front ++ e.Up 1 6 0 ∷ []

abbrev passing_steps : List PartStep
passing_steps =
    goes (made 9 begin) ∷ goes (enter 2 (((codes "t"), (pos 0)) ∷ ((codes "u"), (pos 0)) ∷ []))
    ∷ goes (begins 10 (((codes "t"), (pos 0)) ∷ ((codes "u"), (pos 0)) ∷ [])) ∷ goes (made 10 (spawn 2 0 [])) ∷ goes (done 10)
    ∷ goes (begins 11 (((codes "t"), (pos 2)) ∷ ((codes "u"), (pos 0)) ∷ [])) ∷ goes (made 11 (spawn 3 0 [])) ∷ goes (done 11)
    ∷ goes (begins 12 (((codes "t"), (pos 2)) ∷ ((codes "u"), (pos 3)) ∷ [])) ∷ goes (made 12 (print (pos 1))) ∷ goes (done 12)
    ∷ goes (begins 13 (((codes "t"), (pos 2)) ∷ ((codes "u"), (pos 3)) ∷ [])) ∷ goes (enter 1 []) ∷ goes (begins 6 []) ∷ []

abbrev passing_own : Own
passing_own = an_own 1 2 [] (version ∷ [])
    (e.Begin 1 9 ∷ e.Spawn 1 10 2 0 [] ∷ e.Spawn 1 11 3 0 [] ∷ e.Print 1 12 (pos 1) ∷ e.Up 1 6 0 ∷ [])

passing_moved : HasMoved removal_program (plans fifth_setting) passing_own passing_steps
passing_moved = record {
  last = goes (made 6 (up 0));
  ahead = [];
  outcome = Open;
  trace = record { most_turns = 0; gives = next (next (next (inr (given 2 (next (next (next (inr (given 3 (next (next (next (next (next (next (next (next (inr (next (inl (refl, refl))))))))))))))))))))) };
  woven = ((refl, tt), (refl, (refl, (refl, (refl, (refl, (refl, (refl, (refl, (refl, (refl, (refl, (refl, (refl, (refl, tt)))))))))))))));
  entry = _;
  is = refl;
  tells = refl;
}

pub passing_unlawful : IsLawful fifth_setting passing → ⊥
passing_unlawful h =
    let xs : List TargetEvent = (event 1 9 begin ∷ event 1 10 (spawn 2 0 []) ∷ event 2 2 begin ∷ event 1 11 (spawn 3 0 []) ∷ event 1 12 (print (pos 1)) ∷ event 1 6 (up 0) ∷ []) in
    let same : h.events ≡ xs = events_told h.events xs (ap (map event_of) h.tells) in
    let bad = h.follows passing_front (e.Up 1 6 0) [] refl in
    let P : List TargetEvent → Type 0 = λ ys. Parks fifth_setting passing 2 1 (thread_at (Front.store (front_at fifth_setting ys passing_front)) 1) in
    let kept : StaysAway fifth_setting passing_own 2 = subst P same (bad.0.parked.0 refl) in
    let steps : kept.steps ≡ passing_steps = one_move removal_program (plans fifth_setting) passing_own kept.steps passing_steps kept.moved passing_moved in
    let away = subst (λ ss. KeepsAway (IsFlagged fifth_setting 2) (walk_of removal_program (plans fifth_setting) passing_own ss)) steps kept.away in
    away.passed.0 tt

-- thread 2 is blocked at a flagged place, and goes on
abbrev going_front : List Entry
going_front =
    e.Asked 1 ∷ e.Installed 1 1 (0 ∷ 0 ∷ 0 ∷ 0 ∷ 0 ∷ 0 ∷ 0 ∷ 0 ∷ []) ∷ e.Begin 1 9 ∷ e.Spawn 1 10 2 0 [] ∷ e.Begin 2 2 ∷ e.Spawn 1 11 3 0 []
    ∷ e.Enter 2 3 1 1 ∷ e.Begin 3 2 ∷ e.Print 1 12 (pos 1) ∷ e.At 2 3 1 (1 ∷ 2 ∷ []) ∷ e.Blocked 3 3 (w.Enter 1 1) ∷ e.Asked 2 ∷ e.Blocked 2 3 (w.Down 0)
    ∷ e.Up 1 6 0 ∷ []

abbrev pub going : List Entry
going = going_front ++ e.Down 2 3 0 ∷ []

pub going_unlawful : IsLawful removal_setting going → ⊥
going_unlawful h =
    let xs : List TargetEvent = (event 1 9 begin ∷ event 1 10 (spawn 2 0 []) ∷ event 2 2 begin ∷ event 1 11 (spawn 3 0 []) ∷ event 3 2 begin ∷ event 1 12 (print (pos 1)) ∷ event 1 6 (up 0) ∷ event 2 3 (down 0) ∷ []) in
    let same : h.events ≡ xs = events_told h.events xs (ap (map event_of) h.tells) in
    let bad = h.follows going_front (e.Down 2 3 0) [] refl in
    let P : List TargetEvent → Type 0 = λ ys. Parks removal_setting going 2 2 (thread_at (Front.store (front_at removal_setting ys going_front)) 2) in
    let kept = subst P same (bad.0.parked.0 refl) in
    blocked_stays removal_setting _ 2 (e.Begin 2 2 ∷ e.Enter 2 3 1 1 ∷ e.At 2 3 1 (1 ∷ 2 ∷ []) ∷ e.Blocked 2 3 (w.Down 0) ∷ []) (e.Down 2 3 0) refl refl (λ y. tt) kept

-- Where a thread stands

-- nothing is told behind the last step that tells an entry
ends_so : (t : ℕ) (ss front behind : List PartStep) (s : PartStep) (y : Entry) → ss ++ s ∷ [] ≡ front ++ behind → filter_entries t (s ∷ []) ≡ y ∷ [] → filter_entries t behind ≡ [] → front ≡ ss ++ s ∷ []
ends_so t ss front [] s y is ends none = sym (is ∙ append_none front)
ends_so t ss [] (u ∷ behind) s y is ends none =
    absurd (never_empty (filter_entries t ss) y (sym none ∙ (ap (filter_entries t) (sym is) ∙ (told_append t ss (s ∷ []) ∙ ap (λ us. filter_entries t ss ++ us) ends))))
ends_so t [] (u ∷ []) (v ∷ behind) s y is ends none = cc
ends_so t [] (u ∷ r ∷ front) (v ∷ behind) s y is ends none = cc
ends_so t (v ∷ ss) (u ∷ front) (r ∷ behind) s y is ends none =
    let first : v ≡ u = cc in
    let others : ss ++ s ∷ [] ≡ front ++ r ∷ behind = cc in
    let ih : front ≡ ss ++ s ∷ [] = ends_so t ss front (r ∷ behind) s y others ends none in
    cc (first, ih)

abbrev part_at : (p : Source) (ps : Plans) (x : Own) → Point p ps x → IsPart p ps x
part_at p ps x h = record { steps = h.steps; ahead = h.next ∷ []; outcome = Open; trace = h.trace; woven = h.woven; tells = h.tells; taken = h.taken }

owing_place : (z : Walk) (os : Queue) (rest : List Item) (y : Place) → (os ≡ [] → ⊥) → place_of_next z os rest ≡ Some y → request_place z ≡ y
owing_place z [] rest y owes h = absurd (owes refl)
owing_place z (o ∷ os) rest y owes h = cc

-- Where the last step tells an entry, and something is owed behind it, the thread stands at the place of its request alone.
stands_owing : (p : Source) (ps : Plans) (x : Own) (a h : Point p ps x) (ss : List PartStep) (s : PartStep) (y : Entry) → a.steps ≡ ss ++ s ∷ [] → filter_entries x.thread (s ∷ []) ≡ y ∷ []
    → ((walk_of p ps x a.steps).owed ≡ [] → ⊥) → (z : Place) → IsPlaceOf p ps x h z → request_place (walk_of p ps x a.steps) ≡ z
stands_owing p ps x a h ss s y last ends owes z at = by_rest same.behind' same.second same.marks'
  where
    same : SameSteps x a.steps h.steps
    same = one_made p ps x (part_at p ps x a) (part_at p ps x h)

    whole : same.made ≡ a.steps
    whole = ends_so x.thread ss same.made same.behind s y (sym last ∙ same.first) ends same.marks ∙ sym last

    by_rest : (behind : List PartStep) → h.steps ≡ same.made ++ behind → filter_entries x.thread behind ≡ [] → request_place (walk_of p ps x a.steps) ≡ z
    by_rest [] is none =
        let steps : h.steps ≡ a.steps = is ∙ (append_none same.made ∙ whole) in
        let there : place_of_next (walk_of p ps x a.steps) (walk_of p ps x a.steps).owed (h.next ∷ []) ≡ Some z =
        subst (λ us. place_of_next (walk_of p ps x us) (walk_of p ps x us).owed (h.next ∷ []) ≡ Some z) steps at in
        owing_place (walk_of p ps x a.steps) (walk_of p ps x a.steps).owed (h.next ∷ []) z owes there
    by_rest (goes i ∷ behind) is none =
        let steps : h.steps ≡ a.steps ++ goes i ∷ behind = is ∙ ap (λ us. us ++ goes i ∷ behind) whole in
        let woven : AreWoven p ps (unborn x.versions) (a.steps ++ goes i ∷ behind) (h.next ∷ []) = subst (λ us. AreWoven p ps (unborn x.versions) us (h.next ∷ [])) steps h.woven in
        absurd (owes (owed_none p (walk_of p ps x a.steps) i (items behind ++ h.next ∷ []) (stands_there p ps (unborn x.versions) a.steps (goes i) behind (h.next ∷ []) woven)))
    by_rest (makes l o ∷ behind) is none = cc

-- A removal lists for a blocked thread a place that it passed.
abbrev pub removed_misplaced : List Entry
removed_misplaced = removal_front ++ e.Removed 2 2 (4 ∷ 2 ∷ 1 ∷ 0 ∷ 0 ∷ 0 ∷ 0 ∷ 0 ∷ []) ∷ []

abbrev blocked_own : Own
blocked_own = an_own 3 0 [] (record { number = 1; active = 1 ∷ [] } ∷ []) (e.Begin 3 2 ∷ e.Blocked 3 3 (w.Enter 1 1) ∷ [])

abbrev before_block : List PartStep
before_block = goes (made 2 begin) ∷ goes (enter 0 []) ∷ goes (begins 3 []) ∷ []

abbrev blocked_point : Point removal_program (plans removal_setting) blocked_own
blocked_point = record {
  steps = before_block ++ makes 3 (blocked (w.Enter 1 1)) ∷ [];
  next = made 3 (down 0);
  trace = record { most_turns = 0; gives = next (next (next (next (inl (refl, refl))))) };
  woven = ((refl, tt), (refl, (refl, (record { asks = refl; not_yet = refl }, tt))));
  tells = refl;
  taken = refl;
}

abbrev third_of : List ℕ → ℕ
third_of (a ∷ b ∷ c ∷ ns) = c
third_of _ = 0

pub removed_misplaced_unlawful : IsLawful removal_setting removed_misplaced → ⊥
removed_misplaced_unlawful h =
    let p : Source = removal_program in
    let xs : List TargetEvent = (event 1 9 begin ∷ event 1 10 (spawn 2 0 []) ∷ event 2 2 begin ∷ event 1 11 (spawn 3 0 []) ∷ event 3 2 begin ∷ event 1 12 (print (pos 1)) ∷ []) in
    let same : h.events ≡ xs = events_told h.events xs (ap (map event_of) h.tells) in
    let bad = h.follows removal_front (e.Removed 2 2 (4 ∷ 2 ∷ 1 ∷ 0 ∷ 0 ∷ 0 ∷ 0 ∷ 0 ∷ [])) [] refl in
    let x : Place = bad.1.lists.place 3 in
    let number : place_number p x ≡ 1 = sym (ap third_of bad.1.lists.are) in
    let passed : place.entry 0 ≡ x = at_number x (places p) 1 (place.entry 0) number refl in
    let P : List TargetEvent → Type 0 = λ ys. StandsAt removal_setting (front_at removal_setting ys removal_front) 3 x in
    let stands : ComesTo p (plans removal_setting) blocked_own x = subst P same (bad.1.lists.stands 3) in
    let at : place.inside 3 ≡ x =
    stands_owing p (plans removal_setting) blocked_own blocked_point stands.point before_block (makes 3 (blocked (w.Enter 1 1))) (e.Blocked 3 3 (w.Enter 1 1)) refl refl
    (λ g. cc) x stands.place in
    let no : place.inside 3 ≡ place.entry 0 = at ∙ sym passed in
    cc

-- It is installed while thread 1 is inside: between its read and its write.
abbrev pub inside : List Entry
inside = e.Begin 1 5 ∷ e.Spawn 1 6 2 0 [] ∷ e.Read 1 7 0 (pos 0) ∷ e.Asked 1 ∷ e.Installed 1 1 (6 ∷ 0 ∷ 0 ∷ 0 ∷ 0 ∷ 0 ∷ 0 ∷ 0 ∷ []) ∷ []

abbrev inside_own : Own
inside_own = an_own 1 1 [] (record { number = 0; active = [] } ∷ []) (e.Begin 1 5 ∷ e.Spawn 1 6 2 0 [] ∷ e.Read 1 7 0 (pos 0) ∷ [])

abbrev inside_steps : List PartStep
inside_steps =
    goes (made 5 begin) ∷ goes (enter 1 ((codes "a", pos 0) ∷ [])) ∷ goes (begins 6 ((codes "a", pos 0) ∷ [])) ∷ goes (made 6 (spawn 2 0 []))
    ∷ goes (done 6) ∷ goes (begins 7 ((codes "a", pos 2) ∷ [])) ∷ goes (made 7 (read 0 (pos 0))) ∷ []

abbrev inside_point : Point adds (plans third_setting) inside_own
inside_point = record {
  steps = inside_steps;
  next = made 7 (write 0 (pos 1));
  trace = record { most_turns = 0; gives = next (next (next (inr (given 2 (next (next (next (given (pos 0) (next (next (inl (refl, refl)))))))))))) };
  woven = ((refl, tt), (refl, (refl, (refl, (refl, (refl, (refl, tt)))))));
  tells = refl;
  taken = refl;
}

not_clear : IsClear (view_behind adds (plans third_setting) (plan_of adds fix) (Own.versions inside_own) inside_steps) → ⊥
not_clear h = let no = h.outside in cc

same_plan : (c : Command) (f : Plan) → Some (record { trigger = script.at 3; name = codes "fix"; action = install (means (plan_of adds fix)) }) ≡ Some c → c.action ≡ install (means f)
    → plan_of adds fix ≡ f
same_plan c f is installs =
    let command : record { trigger = script.at 3; name = codes "fix"; action = install (means (plan_of adds fix)) } ≡ c = cc in
    let action : install (means (plan_of adds fix)) ≡ install (means f) = ap (λ (d : Command). d.action) command ∙ installs in
    cc

pub inside_unlawful : IsLawful third_setting inside → ⊥
inside_unlawful h =
    let xs : List TargetEvent = (event 1 5 begin ∷ event 1 6 (spawn 2 0 []) ∷ event 1 7 (read 0 (pos 0)) ∷ []) in
    let same : h.events ≡ xs = events_told h.events xs (ap (map event_of) h.tells) in
    let bad = h.follows (e.Begin 1 5 ∷ e.Spawn 1 6 2 0 [] ∷ e.Read 1 7 0 (pos 0) ∷ e.Asked 1 ∷ []) (e.Installed 1 1 (6 ∷ 0 ∷ 0 ∷ 0 ∷ 0 ∷ 0 ∷ 0 ∷ 0 ∷ [])) [] refl in
    let m : MayInstall third_setting (front_at third_setting h.events (e.Begin 1 5 ∷ e.Spawn 1 6 2 0 [] ∷ e.Read 1 7 0 (pos 0) ∷ e.Asked 1 ∷ [])) 1 1 (6 ∷ 0 ∷ 0 ∷ 0 ∷ 0 ∷ 0 ∷ 0 ∷ 0 ∷ []) = bad.1 in
    let number : place_number adds (m.lists.place 1) ≡ 6 = sym (ap first_of m.lists.are) in
    let place_is : place.inside 7 ≡ m.lists.place 1 = at_number (m.lists.place 1) (places adds) 6 (place.inside 7) number refl in
    let plan_is : plan_of adds fix ≡ m.plan = same_plan m.command m.plan m.is m.installs in
    let P : List TargetEvent → Type 0 = λ ys.
    IsOutside third_setting (e.Begin 1 5 ∷ e.Spawn 1 6 2 0 [] ∷ e.Read 1 7 0 (pos 0) ∷ e.Asked 1 ∷ []) 1 (running_thread (thread_at (Front.store (front_at third_setting ys (e.Begin 1 5 ∷ e.Spawn 1 6 2 0 [] ∷ e.Read 1 7 0 (pos 0) ∷ e.Asked 1 ∷ []))) 1)) m.plan (m.lists.place 1) in
    let sees : SeesNothing third_setting inside_own m.plan (m.lists.place 1) = subst P same (m.outside 1) in
    let one : SeesNothing third_setting inside_own (plan_of adds fix) (m.lists.place 1) = subst (λ f. SeesNothing third_setting inside_own f (m.lists.place 1)) (sym plan_is) sees in
    let two : SeesNothing third_setting inside_own (plan_of adds fix) (place.inside 7) = subst (SeesNothing third_setting inside_own (plan_of adds fix)) (sym place_is) one in
    not_clear (two inside_point refl)
