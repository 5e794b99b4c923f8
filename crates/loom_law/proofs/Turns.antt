-- A lawful journal with one more entry is lawful.
use Rattle.std.proofs.Common.{ℕ, zero, suc, ◌<◌, ◌≤◌, ◌≡◌, ◌==◌, Bool, true, false, ◌&&◌, List, [], ◌∷◌, ◌++◌, ℤ, length, map, drop, ◌+◌, Option, Some, None, slice_get, refl, sym, ap, subst, ◌∙◌, if◌then◌else◌, arith}
use Rattle.std.specs.Prelude.{codes}
use Rattle.std.specs.List.{list_any}
use Rattle.loom_tree.specs.Tree.{Source}
use Rattle.loom_trace.specs.declared.entry.Entry.{Entry}
use Rattle.loom_trace.specs.declared.entry.Entry.TheVariants as e
use Rattle.loom_lang.specs.Numbers.{function_number}
use Rattle.loom_lang.specs.Trace.{Act, begin, end, trap, read, write, lock, unlock, down, up, spawn, join, print, Item, made, begins, done, edge, enter, out, Outcome, Open, IsTrace}
use Rattle.loom_lang.specs.Acts.{Deed, acts, IsAlike}
use Rattle.loom_lang.proofs.Broken.{broken_trace}
use Rattle.loom_lang.proofs.NextAct.{one_next_act}
use Rattle.loom_event.specs.TargetEvent.{TargetEvent, entry_by, entry_of, is_target, targets, deeds}
use Rattle.loom_event.specs.Entries.{thread_of, is_thread}
use Rattle.loom_event.specs.Replay.{ThreadState, Store, new_thread, main_thread, start, thread_at, IsAllowedAct, IsAllowed, with_thread, after_act, replay, AreAllowed}
use Rattle.loom_event.specs.Replay as law
use Rattle.loom_event.specs.Run.{IsTraced, IsThreadTraced, AreRun}
use Rattle.loom_law.specs.Walk.{Version, Plans, Operation, wait, enters, at, past, post, leave, back, tick, cross, blocked, PartStep, goes, makes, items, filter_entries, entry_of_operation, Walk, unborn, holds, without_first, taking, behind_entry, crossing, operation_filter, walk_behind, walk_from, Owes, first_number, MayCross, MayStand, AreWoven}
use Rattle.loom_law.specs.ThreadPart.{Own, walk_of, IsPart, HasMoved}
use Rattle.loom_law.specs.Control.{Holder, Control, control, first_control, versions_of, entries_of, listed_places}
use Rattle.loom_law.specs.Lawful.{Setting, Front, front_of, plans, own, HasPart, owes_cross, StaysAway, Parks, IsParked, MayMove, is_held_by, is_installed, Permits}
use Rattle.loom_law.proofs.Strict.{Stands, IsStrict}
use Rattle.loom_law.specs.Laws.{IsUnfinished, own_with, MayTurn, HasEmptyEnds}
use Rattle.loom_law.proofs.OnePart.{same_op, act_is_no_op, told_append, append_none, same_front, never_empty, same_act}
use Rattle.loom_law.proofs.Newest.{taking_coming, crossing_coming}
use Rattle.loom_law.proofs.LastLeaves.{or_rest, and_true, end_holds}
use Rattle.loom_law.proofs.ActiveFilters.{owed_installed}
use Rattle.loom_law.proofs.Holdings.{or_left, or_right}
use Rattle.loom_law.proofs.Balance.{IsSound, first_sound, sound_along}
use Rattle.loom_law.proofs.Obedience.{are_said, balance}
use Rattle.loom_law.proofs.Leaves.{right_leaves}
use Rattle.loom_law.proofs.Earlier.{append_assoc, deeds_append, IsOf, act_keeps, replay_append, same_number, by_test, if_false, if_true, entry_thread, items_append, items_ahead, woven_front, first_begins, fewer, to_take, takings, takings_taken, an_own}
use Rattle.loom_law.proofs.Longer.{longer, empty_trace, others_part, mine, newest_taken, own_part, of_itself}

-- Parts behind an entry of a thread

pub eq_same : (n : ℕ) → (n == n) ≡ true
eq_same n = grind arith

turn_parts : (s : Setting) (es : List Entry) (st : Store) (x : Entry) (t : ℕ) (z : ThreadState) → ((u : ℕ) → HasPart s es u (thread_at st u)) → thread_of x ≡ Some t
    → thread_at st t ≡ Some z → IsPart s.program (plans s) (own_with s es t z x) → (st' : Store) → ((u : ℕ) → IsOf (thread_at st u) (thread_at st' u)) → (u : ℕ)
    → HasPart s (es ++ x ∷ []) u (thread_at st' u)
turn_parts s es st x t z parts of there part st' keeps u =
    by_test (t == u) (HasPart s (es ++ x ∷ []) u (thread_at st' u))
    (λ b. subst (λ v. HasPart s (es ++ x ∷ []) v (thread_at st' v)) (same_number t u b)
    (own_part s es x t z (thread_at st' t) (subst (λ o. IsOf o (thread_at st' t)) there (keeps t)) (ap (is_thread t) of ∙ eq_same t) part))
    (λ b. others_part s es x u (thread_at st u) (thread_at st' u) (keeps u) (ap (is_thread u) of ∙ b) (parts u))

-- The acts of a thread's part are what it did

abbrev entry_of_deed : ℕ → Deed → Entry
entry_of_deed t d = entry_by t d.line d.act

pub op_no_target : (t l : ℕ) (o : Operation) → is_target (entry_of_operation t l o) ≡ false
op_no_target t l (wait k n) = refl
op_no_target t l (enters k c) = refl
op_no_target t l (at k ns) = refl
op_no_target t l (past k ns) = refl
op_no_target t l (post k n) = refl
op_no_target t l (leave k c) = refl
op_no_target t l back = refl
op_no_target t l (tick x) = refl
op_no_target t l (cross x v n) = refl
op_no_target t l (blocked what) = refl

pub op_thread : (t l : ℕ) (o : Operation) → thread_of (entry_of_operation t l o) ≡ Some t
op_thread t l (wait k n) = refl
op_thread t l (enters k c) = refl
op_thread t l (at k ns) = refl
op_thread t l (past k ns) = refl
op_thread t l (post k n) = refl
op_thread t l (leave k c) = refl
op_thread t l back = refl
op_thread t l (tick x) = refl
op_thread t l (cross x v n) = refl
op_thread t l (blocked what) = refl

pub act_target : (t l : ℕ) (a : Act) → is_target (entry_by t l a) ≡ true
act_target t l begin = refl
act_target t l end = refl
act_target t l (trap c) = refl
act_target t l (read x v) = refl
act_target t l (write x v) = refl
act_target t l (lock m) = refl
act_target t l (unlock m) = refl
act_target t l (down m) = refl
act_target t l (up m) = refl
act_target t l (spawn c f vs) = refl
act_target t l (join c) = refl
act_target t l (print v) = refl

told_targets : (t : ℕ) (ss : List PartStep) → targets (filter_entries t ss) ≡ map (entry_of_deed t) (acts (items ss))
told_targets t [] = refl
told_targets t (makes l o ∷ ss) =
    if_false (is_target (entry_of_operation t l o)) (entry_of_operation t l o ∷ targets (filter_entries t ss)) (targets (filter_entries t ss)) (op_no_target t l o) ∙ told_targets t ss
told_targets t (goes (made l a) ∷ ss) =
    if_true (is_target (entry_by t l a)) (entry_by t l a ∷ targets (filter_entries t ss)) (targets (filter_entries t ss)) (act_target t l a) ∙ ap (◌∷◌ (entry_by t l a)) (told_targets t ss)
told_targets t (goes (begins l env) ∷ ss) = told_targets t ss
told_targets t (goes (done l) ∷ ss) = told_targets t ss
told_targets t (goes (edge l) ∷ ss) = told_targets t ss
told_targets t (goes (enter f env) ∷ ss) = told_targets t ss
told_targets t (goes (out f) ∷ ss) = told_targets t ss

deeds_told : (t : ℕ) (xs : List TargetEvent) → entries_of t (map entry_of xs) ≡ map (entry_of_deed t) (deeds t xs)
deeds_told t [] = refl
deeds_told t (x ∷ xs) =
    let d : Deed = record { line = x.line; act = x.act } in
    let E : List Entry = entries_of t (map entry_of xs) in
    let here : is_thread t (thread_of (entry_of x)) ≡ (x.thread == t) = ap (is_thread t) (entry_thread x.thread x.line x.act) in
    by_test (x.thread == t) (entries_of t (entry_of x ∷ map entry_of xs) ≡ map (entry_of_deed t) (deeds t (x ∷ xs)))
    (λ b.
    if_true (is_thread t (thread_of (entry_of x))) (entry_of x ∷ E) E (here ∙ b)
    ∙ (ap (λ u. entry_by u x.line x.act ∷ E) (same_number x.thread t b)
    ∙ (ap (◌∷◌ (entry_by t x.line x.act)) (deeds_told t xs) ∙ sym (ap (map (entry_of_deed t)) (if_true (x.thread == t) (d ∷ deeds t xs) (deeds t xs) b)))))
    (λ b.
    if_false (is_thread t (thread_of (entry_of x))) (entry_of x ∷ E) E (here ∙ b)
    ∙ (deeds_told t xs ∙ sym (ap (map (entry_of_deed t)) (if_false (x.thread == t) (d ∷ deeds t xs) (deeds t xs) b))))

both_ways : (t : ℕ) (x : Entry) (th tg : Bool) (es ts : List Entry) → is_thread t (thread_of x) ≡ th → is_target x ≡ tg → targets es ≡ entries_of t ts
    → targets (if th then x ∷ es else es) ≡ entries_of t (if tg then x ∷ ts else ts)
both_ways t x true true es ts a b h =
    if_true (is_target x) (x ∷ targets es) (targets es) b ∙ (ap (◌∷◌ x) h ∙ sym (if_true (is_thread t (thread_of x)) (x ∷ entries_of t ts) (entries_of t ts) a))
both_ways t x true false es ts a b h = if_false (is_target x) (x ∷ targets es) (targets es) b ∙ h
both_ways t x false true es ts a b h = h ∙ sym (if_false (is_thread t (thread_of x)) (x ∷ entries_of t ts) (entries_of t ts) a)
both_ways t x false false es ts a b h = h

targets_of : (t : ℕ) (es : List Entry) → targets (entries_of t es) ≡ entries_of t (targets es)
targets_of t [] = refl
targets_of t (x ∷ es) = both_ways t x (is_thread t (thread_of x)) (is_target x) (entries_of t es) (targets es) refl refl (targets_of t es)

same_deed : (t : ℕ) (d g : Deed) → IsAlike d g → entry_of_deed t d ≡ entry_of_deed t g → d ≡ g
same_deed t d g h is =
    let act : d.act ≡ g.act = same_act t d.line g.line d.act g.act h.act is in
    ap (λ l. record { line = l; act = d.act }) h.line ∙ ap (λ a. record { line = g.line; act = a }) act

-- two traces of a thread whose acts are told the same have the same acts
same_deeds : (p : Source) (f : ℕ) (vs : List ℤ) (is js : List Item) (r s : Outcome) → IsTrace p f vs is r → IsTrace p f vs js s → (t : ℕ) (front ds gs : List Deed)
    → acts is ≡ front ++ ds → acts js ≡ front ++ gs → map (entry_of_deed t) ds ≡ map (entry_of_deed t) gs → ds ≡ gs
same_deeds p f vs is js r s a b t front [] [] h k e = refl
same_deeds p f vs is js r s a b t front [] (g ∷ gs) h k e = cc
same_deeds p f vs is js r s a b t front (d ∷ ds) [] h k e = cc
same_deeds p f vs is js r s a b t front (d ∷ ds) (g ∷ gs) h k e =
    let first : entry_of_deed t d ≡ entry_of_deed t g = cc in
    let others : map (entry_of_deed t) ds ≡ map (entry_of_deed t) gs = cc in
    let same : d ≡ g = same_deed t d g (one_next_act p f vs is js r s a b front ds gs d g h k) first in
    let k' : acts js ≡ front ++ d ∷ gs = k ∙ ap (λ u. front ++ u ∷ gs) (sym same) in
    let ih : ds ≡ gs =
    same_deeds p f vs is js r s a b t (front ++ d ∷ []) ds gs (h ∙ sym (append_assoc front (d ∷ []) ds)) (k' ∙ sym (append_assoc front (d ∷ []) gs)) others in
    ap (λ u. u ∷ ds) same ∙ ap (◌∷◌ g) ih

acts_append : (is js : List Item) → acts (is ++ js) ≡ acts is ++ acts js
acts_append [] js = refl
acts_append (made l a ∷ is) js = ap (◌∷◌ (record { line = l; act = a })) (acts_append is js)
acts_append (begins l env ∷ is) js = acts_append is js
acts_append (done l ∷ is) js = acts_append is js
acts_append (edge l ∷ is) js = acts_append is js
acts_append (enter f env ∷ is) js = acts_append is js
acts_append (out f ∷ is) js = acts_append is js

-- Runs with one more event

own_traced : (s : Setting) (es : List Entry) (h : IsStrict s es) (y : TargetEvent) (z : ThreadState) → thread_at (replay (start s.program s.threads) h.events) y.thread ≡ Some z
    → (part : IsPart s.program (plans s) (own_with s es y.thread z (entry_of y))) (before : List PartStep) → part.steps ≡ before ++ goes (made y.line y.act) ∷ []
    → IsTraced s.program z.func z.args (deeds y.thread h.events ++ record { line = y.line; act = y.act } ∷ [])
own_traced s es h y z there part before is =
    let p : Source = s.program in
    let t : ℕ = y.thread in
    let d : Deed = record { line = y.line; act = y.act } in
    let last : List PartStep = goes (made y.line y.act) ∷ [] in
    let old : IsTraced p z.func z.args (deeds t h.events) = subst (IsThreadTraced p h.events t) there (h.run.traced t) in
    let tells : filter_entries t before ++ entry_of y ∷ [] ≡ entries_of t es ++ entry_of y ∷ [] = sym (told_append t before last) ∙ (ap (filter_entries t) (sym is) ∙ part.tells) in
    let front : filter_entries t before ≡ entries_of t es = same_front (filter_entries t before) (entries_of t es) (entry_of y) (entry_of y) tells in
    let entries : map (entry_of_deed t) (deeds t h.events) ≡ map (entry_of_deed t) (acts (items before)) =
    sym (deeds_told t h.events) ∙ (ap (entries_of t) h.tells ∙ (sym (targets_of t es) ∙ (ap targets (sym front) ∙ told_targets t before))) in
    let whole : IsTrace p z.func z.args (items (before ++ last)) Open =
    broken_trace p z.func z.args (items (before ++ last)) part.ahead part.outcome (subst (λ ss. IsTrace p z.func z.args (items ss ++ part.ahead) part.outcome) is part.trace) in
    let cut : IsTrace p z.func z.args (items before) Open =
    broken_trace p z.func z.args (items before) (made y.line y.act ∷ []) Open (subst (λ us. IsTrace p z.func z.args us Open) (items_append before last) whole) in
    let same : deeds t h.events ≡ acts (items before) =
    same_deeds p z.func z.args old.items (items before) old.outcome Open old.trace cut t [] (deeds t h.events) (acts (items before)) old.same refl entries in
    record {
      items = items (before ++ last);
      outcome = Open;
      trace = whole;
      same = ap acts (items_append before last) ∙ (acts_append (items before) (made y.line y.act ∷ []) ∙ ap (λ ds. ds ++ d ∷ []) (sym same));
    }

allowed_append : (s : Store) (xs : List TargetEvent) (y : TargetEvent) → AreAllowed s xs → IsAllowed (replay s xs) y → AreAllowed s (xs ++ y ∷ [])
allowed_append s [] y h g = (g, tt)
allowed_append s (x ∷ xs) y h g = (h.0, allowed_append (law.after_event s x) xs y h.1 g)

same_traced : (p : Source) (xs : List TargetEvent) (t : ℕ) (ds : List Deed) (z : ThreadState) (o : Option ThreadState) → IsOf (Some z) o → deeds t xs ≡ ds → IsTraced p z.func z.args ds
    → IsThreadTraced p xs t o
same_traced p xs t ds z None is same h = absurd is
same_traced p xs t ds z (Some y) is same h =
    let one : IsTraced p y.func z.args ds = subst (λ f. IsTraced p f z.args ds) is.0 h in
    let two : IsTraced p y.func y.args ds = subst (λ vs. IsTraced p y.func vs ds) is.1 one in
    subst (IsTraced p y.func y.args) (sym same) two

others_traced : (p : Source) (xs ys : List TargetEvent) (t : ℕ) (o o' : Option ThreadState) → IsOf o o' → deeds t ys ≡ deeds t xs → IsThreadTraced p xs t o → IsThreadTraced p ys t o'
others_traced p xs ys t None None is same h = same ∙ h
others_traced p xs ys t None (Some y) is same h = record { items = []; outcome = Open; trace = empty_trace p y.func y.args; same = sym (same ∙ h) }
others_traced p xs ys t (Some x) o' is same h = same_traced p ys t (deeds t xs) x o' is same h

deeds_last : (t : ℕ) (xs : List TargetEvent) (y : TargetEvent) → (y.thread == t) ≡ true → deeds t (xs ++ y ∷ []) ≡ deeds t xs ++ record { line = y.line; act = y.act } ∷ []
deeds_last t xs y h = deeds_append t xs (y ∷ []) ∙ ap (λ ds. deeds t xs ++ ds) (if_true (y.thread == t) (record { line = y.line; act = y.act } ∷ []) [] h)

deeds_others : (t : ℕ) (xs : List TargetEvent) (y : TargetEvent) → (y.thread == t) ≡ false → deeds t (xs ++ y ∷ []) ≡ deeds t xs
deeds_others t xs y h =
    deeds_append t xs (y ∷ [])
    ∙ (ap (λ ds. deeds t xs ++ ds) (if_false (y.thread == t) (record { line = y.line; act = y.act } ∷ []) [] h) ∙ append_none (deeds t xs))

keeps_threads : (p : Source) (most : ℕ) (xs : List TargetEvent) (y : TargetEvent) (u : ℕ) → IsOf (thread_at (replay (start p most) xs) u) (thread_at (replay (start p most) (xs ++ y ∷ [])) u)
keeps_threads p most xs y u =
    subst (λ st. IsOf (thread_at (replay (start p most) xs) u) (thread_at st u)) (sym (replay_append (start p most) xs (y ∷ []))) (act_keeps (replay (start p most) xs) y.thread y.act u)

longer_run : (p : Source) (most : ℕ) (xs : List TargetEvent) (y : TargetEvent) (z : ThreadState) → AreRun p most xs → thread_at (replay (start p most) xs) y.thread ≡ Some z → IsAllowed (replay (start p most) xs) y
    → IsTraced p z.func z.args (deeds y.thread xs ++ record { line = y.line; act = y.act } ∷ []) → AreRun p most (xs ++ y ∷ [])
longer_run p most xs y z run there ok traced = record {
  traced = λ u. by_test (y.thread == u) (IsThreadTraced p (xs ++ y ∷ []) u (thread_at (replay (start p most) (xs ++ y ∷ [])) u))
      (λ b.
      subst (λ v. IsThreadTraced p (xs ++ y ∷ []) v (thread_at (replay (start p most) (xs ++ y ∷ [])) v)) (same_number y.thread u b)
      (same_traced p (xs ++ y ∷ []) y.thread (deeds y.thread xs ++ record { line = y.line; act = y.act } ∷ []) z (thread_at (replay (start p most) (xs ++ y ∷ [])) y.thread)
      (subst (λ o. IsOf o (thread_at (replay (start p most) (xs ++ y ∷ [])) y.thread)) there (keeps_threads p most xs y y.thread))
      (deeds_last y.thread xs y (eq_same y.thread)) traced))
      (λ b.
      others_traced p xs (xs ++ y ∷ []) u (thread_at (replay (start p most) xs) u) (thread_at (replay (start p most) (xs ++ y ∷ [])) u) (keeps_threads p most xs y u)
      (deeds_others u xs y b) (run.traced u));
  allowed = allowed_append (start p most) xs y run.allowed ok;
}

-- The versions that are still to come

drop_none : (n : ℕ) (vs : List Version) → vs ≡ [] → drop n vs ≡ []
drop_none zero vs is = is
drop_none (suc n) vs is = ap (drop (suc n)) is

drop_first : (n : ℕ) (vs ws : List Version) → ws ≡ without_first vs → drop n ws ≡ drop (suc n) vs
drop_first n [] ws is = drop_none n ws is
drop_first n (v ∷ vs) ws is = ap (drop n) is

drop_whole : {A : Type 0} (n : ℕ) (xs ys : List A) → n ≡ length xs → drop n (xs ++ ys) ≡ ys
drop_whole zero [] ys h = refl
drop_whole zero (x ∷ xs) ys h = let bad : ⊥ = omega arith in absurd bad
drop_whole (suc n) [] ys h = let bad : ⊥ = omega arith in absurd bad
drop_whole (suc n) (x ∷ xs) ys h = drop_whole n xs ys (omega arith)

pub walk_coming : (p : Source) (plans : Plans) (t : ℕ) (z : Walk) (ss : List PartStep) → Walk.coming (walk_from p plans z ss) ≡ drop (takings (filter_entries t ss)) z.coming
walk_coming p plans t z [] = refl
walk_coming p plans t z (goes (made l begin) ∷ ss) =
    walk_coming p plans t (taking (behind_entry z) z.coming) ss
    ∙ drop_first (takings (filter_entries t ss)) z.coming (Walk.coming (taking (behind_entry z) z.coming)) (taking_coming (behind_entry z) z.coming refl)
walk_coming p plans t z (makes l (cross x v n) ∷ ss) =
    walk_coming p plans t (crossing p plans z z.coming) ss
    ∙ drop_first (takings (filter_entries t ss)) z.coming (Walk.coming (crossing p plans z z.coming)) (crossing_coming p plans z z.coming refl)
walk_coming p plans t z (goes (made l end) ∷ ss) = walk_coming p plans t (walk_behind p plans z (goes (made l end))) ss
walk_coming p plans t z (goes (made l (trap c)) ∷ ss) = walk_coming p plans t (walk_behind p plans z (goes (made l (trap c)))) ss
walk_coming p plans t z (goes (made l (read x v)) ∷ ss) = walk_coming p plans t (walk_behind p plans z (goes (made l (read x v)))) ss
walk_coming p plans t z (goes (made l (write x v)) ∷ ss) = walk_coming p plans t (walk_behind p plans z (goes (made l (write x v)))) ss
walk_coming p plans t z (goes (made l (lock x)) ∷ ss) = walk_coming p plans t (walk_behind p plans z (goes (made l (lock x)))) ss
walk_coming p plans t z (goes (made l (unlock x)) ∷ ss) = walk_coming p plans t (walk_behind p plans z (goes (made l (unlock x)))) ss
walk_coming p plans t z (goes (made l (down x)) ∷ ss) = walk_coming p plans t (walk_behind p plans z (goes (made l (down x)))) ss
walk_coming p plans t z (goes (made l (up x)) ∷ ss) = walk_coming p plans t (walk_behind p plans z (goes (made l (up x)))) ss
walk_coming p plans t z (goes (made l (spawn c f ws)) ∷ ss) = walk_coming p plans t (walk_behind p plans z (goes (made l (spawn c f ws)))) ss
walk_coming p plans t z (goes (made l (join c)) ∷ ss) = walk_coming p plans t (walk_behind p plans z (goes (made l (join c)))) ss
walk_coming p plans t z (goes (made l (print v)) ∷ ss) = walk_coming p plans t (walk_behind p plans z (goes (made l (print v)))) ss
walk_coming p plans t z (goes (begins l env) ∷ ss) = walk_coming p plans t (walk_behind p plans z (goes (begins l env))) ss
walk_coming p plans t z (goes (done l) ∷ ss) = walk_coming p plans t (walk_behind p plans z (goes (done l))) ss
walk_coming p plans t z (goes (edge l) ∷ ss) = walk_coming p plans t (walk_behind p plans z (goes (edge l))) ss
walk_coming p plans t z (goes (enter f env) ∷ ss) = walk_coming p plans t (walk_behind p plans z (goes (enter f env))) ss
walk_coming p plans t z (goes (out f) ∷ ss) = walk_coming p plans t (walk_behind p plans z (goes (out f))) ss
walk_coming p plans t z (makes l (wait k n) ∷ ss) = walk_coming p plans t (walk_behind p plans z (makes l (wait k n))) ss
walk_coming p plans t z (makes l (enters k c) ∷ ss) = walk_coming p plans t (walk_behind p plans z (makes l (enters k c))) ss
walk_coming p plans t z (makes l (at k ns) ∷ ss) = walk_coming p plans t (walk_behind p plans z (makes l (at k ns))) ss
walk_coming p plans t z (makes l (past k ns) ∷ ss) = walk_coming p plans t (walk_behind p plans z (makes l (past k ns))) ss
walk_coming p plans t z (makes l (post k n) ∷ ss) = walk_coming p plans t (walk_behind p plans z (makes l (post k n))) ss
walk_coming p plans t z (makes l (leave k c) ∷ ss) = walk_coming p plans t (walk_behind p plans z (makes l (leave k c))) ss
walk_coming p plans t z (makes l back ∷ ss) = walk_coming p plans t (walk_behind p plans z (makes l back)) ss
walk_coming p plans t z (makes l (tick x) ∷ ss) = walk_coming p plans t (walk_behind p plans z (makes l (tick x))) ss
walk_coming p plans t z (makes l (blocked what) ∷ ss) = walk_coming p plans t (walk_behind p plans z (makes l (blocked what))) ss

-- A thread that ends holds nothing, so the journal says that nobody with its number holds anything

pub drop_all : {A : Type 0} (n : ℕ) (xs : List A) → n ≡ length xs → drop n xs ≡ []
drop_all zero [] h = refl
drop_all zero (x ∷ xs) h = let bad : ⊥ = omega arith in absurd bad
drop_all (suc n) [] h = let bad : ⊥ = omega arith in absurd bad
drop_all (suc n) (x ∷ xs) h = drop_all n xs (omega arith)

holder_found : (hs : List Holder) (t : ℕ) → list_any (λ (h : Holder). h.thread == t) hs ≡ true
    → (k : ℕ) × ((c : ℕ) × (list_any (λ (h : Holder). (h.filter == k) && ((h.clause == c) && (h.thread == t))) hs ≡ true))
holder_found [] t h = cc
holder_found (g ∷ hs) t h =
    by_test (g.thread == t) ((k : ℕ) × ((c : ℕ) × (list_any (λ (h : Holder). (h.filter == k) && ((h.clause == c) && (h.thread == t))) (g ∷ hs) ≡ true)))
    (λ b. (
      g.filter,
      (
        g.clause,
        or_left ((g.filter == g.filter) && ((g.clause == g.clause) && (g.thread == t))) _
            (and_true (g.filter == g.filter) ((g.clause == g.clause) && (g.thread == t)) (eq_same g.filter)
            (and_true (g.clause == g.clause) (g.thread == t) (eq_same g.clause) b)),
      ),
    ))
    (λ b.
    let ih = holder_found hs t (or_rest (g.thread == t) (list_any (λ (h : Holder). h.thread == t) hs) b h) in
    (ih.0, (ih.1.0, or_right ((g.filter == ih.0) && ((g.clause == ih.1.0) && (g.thread == t))) _ ih.1.1)))

end_free : (s : Setting) (es : List Entry) (h : IsStrict s es) (t l : ℕ) (z : ThreadState) (part : IsPart s.program (plans s) (own_with s es t z (e.End t l))) (before : List PartStep)
    → part.steps ≡ before ++ goes (made l end) ∷ [] → list_any (λ (g : Holder). g.thread == t) (Control.holders (control s.commands es)) ≡ false
end_free s es h t l z part before is =
    let p : Source = s.program in
    let vs : List Version = versions_of s.commands t es in
    let last : List PartStep = goes (made l end) ∷ [] in
    let trace : IsTrace p z.func z.args (items (before ++ last) ++ part.ahead) part.outcome =
    subst (λ ss. IsTrace p z.func z.args (items ss ++ part.ahead) part.outcome) is part.trace in
    let woven : AreWoven p (plans s) (unborn vs) (before ++ last) part.ahead = subst (λ ss. AreWoven p (plans s) (unborn vs) ss part.ahead) is part.woven in
    let none : Walk.held (walk_from p (plans s) (unborn vs) before) ≡ [] = end_holds p (plans s) z.func z.args vs before l part.ahead part.outcome trace woven in
    let tells : filter_entries t before ++ e.End t l ∷ [] ≡ entries_of t es ++ e.End t l ∷ [] = sym (told_append t before last) ∙ (ap (filter_entries t) (sym is) ∙ part.tells) in
    let same : filter_entries t before ≡ entries_of t es = same_front (filter_entries t before) (entries_of t es) (e.End t l) (e.End t l) tells in
    let front : IsPart p (plans s) (own s es t z) = record {
      steps = before;
      ahead = made l end ∷ part.ahead;
      outcome = part.outcome;
      trace = subst (λ us. IsTrace p z.func z.args us part.outcome) (items_ahead before last part.ahead) trace;
      woven = woven_front p (plans s) (unborn vs) before last part.ahead woven;
      tells = same;
      taken = walk_coming p (plans s) t (unborn vs) before
          ∙ drop_all (takings (filter_entries t before)) vs (ap takings same ∙ takings_taken s.commands t first_control es);
    } in
    let h' : IsStrict s (es ++ []) = subst (IsStrict s) (sym (append_none es)) h in
    let sound : IsSound (control s.commands es) = sound_along s.commands first_control es (are_said s es [] h') first_sound in
    by_test (list_any (λ (g : Holder). g.thread == t) (Control.holders (control s.commands es)))
    (list_any (λ (g : Holder). g.thread == t) (Control.holders (control s.commands es)) ≡ false)
    (λ b.
    let found = holder_found (Control.holders (control s.commands es)) t b in
    let balanced : holds (Walk.held (walk_from p (plans s) (unborn vs) before)) found.0 found.1.0 ≡ is_held_by (control s.commands es) found.0 found.1.0 t =
    balance s es [] h' t z front found.0 found.1.0 (sound.installed found.0 found.1.0 t found.1.1) in
    let bad : false ≡ true = ap (λ hs. holds hs found.0 found.1.0) (sym none) ∙ (balanced ∙ found.1.1) in
    cc)
    (λ b. b)

pub act_free : (s : Setting) (es : List Entry) (h : IsStrict s es) (t l : ℕ) (a : Act) (z : ThreadState) (part : IsPart s.program (plans s) (own_with s es t z (entry_by t l a)))
    (before : List PartStep) → part.steps ≡ before ++ goes (made l a) ∷ [] → a ≡ end
    → list_any (λ (g : Holder). g.thread == t) (Control.holders (control s.commands es)) ≡ false
act_free s es h t l begin z part before is e = cc
act_free s es h t l end z part before is e = end_free s es h t l z part before is
act_free s es h t l (trap c) z part before is e = cc
act_free s es h t l (read x v) z part before is e = cc
act_free s es h t l (write x v) z part before is e = cc
act_free s es h t l (lock m) z part before is e = cc
act_free s es h t l (unlock m) z part before is e = cc
act_free s es h t l (down m) z part before is e = cc
act_free s es h t l (up m) z part before is e = cc
act_free s es h t l (spawn c f vs) z part before is e = cc
act_free s es h t l (join c) z part before is e = cc
act_free s es h t l (print v) z part before is e = cc

pub event_stands : (s : Setting) (f : Front) (t l : ℕ) (a : Act) → MayMove s f t (entry_by t l a)
    → (a ≡ end → list_any (λ (g : Holder). g.thread == t) f.control.holders ≡ false) → Stands s f (entry_by t l a) []
event_stands s f t l begin m free = (m, tt)
event_stands s f t l end m free = (m, free refl)
event_stands s f t l (trap c) m free = (m, tt)
event_stands s f t l (read x v) m free = (m, tt)
event_stands s f t l (write x v) m free = (m, tt)
event_stands s f t l (lock x) m free = (m, tt)
event_stands s f t l (unlock x) m free = (m, tt)
event_stands s f t l (down x) m free = (m, tt)
event_stands s f t l (up x) m free = (m, tt)
event_stands s f t l (spawn c g vs) m free = (m, tt)
event_stands s f t l (join c) m free = (m, tt)
event_stands s f t l (print v) m free = (m, tt)

-- What a turn shows is what stands

pub own_same : (s : Setting) (es : List Entry) (x : Entry) (t : ℕ) (z : ThreadState) → is_thread t (thread_of x) ≡ true → own_with s es t z x ≡ own s (es ++ x ∷ []) t z
own_same s es x t z self =
    ap (λ vs. an_own t z.func z.args vs (entries_of t es ++ x ∷ [])) (sym (newest_taken s.commands t x es self))
    ∙ ap (λ us. an_own t z.func z.args (versions_of s.commands t (es ++ x ∷ [])) us) (sym (mine t x es self))

pub moved : (p : Source) (plans : Plans) (x : Own) (h : IsPart p plans x) (before : List PartStep) (step : PartStep) (y : Entry) → h.steps ≡ before ++ step ∷ []
    → filter_entries x.thread (step ∷ []) ≡ y ∷ [] → HasMoved p plans x before
moved p plans x h before step y is tells = record {
  last = step;
  ahead = h.ahead;
  outcome = h.outcome;
  trace = subst (λ ss. IsTrace p x.func x.args (items ss ++ h.ahead) h.outcome) is h.trace;
  woven = subst (λ ss. AreWoven p plans (unborn x.versions) ss h.ahead) is h.woven;
  entry = y;
  is = tells;
  tells = ap (filter_entries x.thread) (sym is) ∙ h.tells;
}

turn_parked : (s : Setting) (es : List Entry) (xs : List TargetEvent) (t : ℕ) (x : Entry) (step : PartStep) (m : MayTurn s es xs t x step) → is_thread t (thread_of x) ≡ true
    → filter_entries t (step ∷ []) ≡ x ∷ [] → (o : Option ℕ) → Control.asked (control s.commands es) ≡ o → IsParked s (front_of s es xs) t x o
turn_parked s es xs t x step m self tells None is = tt
turn_parked s es xs t x step m self tells (Some k) is = (
  (λ some.
      let away : StaysAway s (own_with s es t m.state x) k = record {
        steps = m.before;
        moved = moved s.program (plans s) (own_with s es t m.state x) m.part m.before step x m.last tells;
        away = m.away k is some;
      } in
      subst (Parks s (es ++ x ∷ []) k t) (sym m.there) (subst (λ w. StaysAway s w k) (own_same s es x t m.state self) away)),
  (λ b. m.no_begin k is b),
)

turn_moves : (s : Setting) (es : List Entry) (xs : List TargetEvent) (t : ℕ) (x : Entry) (step : PartStep) → MayTurn s es xs t x step → thread_of x ≡ Some t → filter_entries t (step ∷ []) ≡ x ∷ []
    → MayMove s (front_of s es xs) t x
turn_moves s es xs t x step m of tells = record {
  goes_on = m.goes_on;
  not_held_off = m.not_held_off;
  crosses = m.crosses;
  parked = turn_parked s es xs t x step m (ap (is_thread t) of ∙ eq_same t) tells (Control.asked (control s.commands es)) refl;
}

pub event_turns : (s : Setting) (es : List Entry) (h : IsStrict s es) → IsUnfinished es
    → (y : TargetEvent) → MayTurn s es h.events y.thread (entry_of y) (goes (made y.line y.act)) → IsAllowed (replay (start s.program s.threads) h.events) y
    → (h' : IsStrict s (es ++ entry_of y ∷ [])) × (h'.events ≡ h.events ++ y ∷ [])
event_turns s es h open_ y m ok =
    let p : Source = s.program in
    let x : Entry = entry_of y in
    let of : thread_of x ≡ Some y.thread = entry_thread y.thread y.line y.act in
    longer s es h x (h.events ++ y ∷ []) (y ∷ []) refl open_ (sym (if_true (is_target x) (x ∷ []) [] (act_target y.thread y.line y.act)))
    (longer_run p s.threads h.events y m.state h.run m.there ok (own_traced s es h y m.state m.there m.part m.before m.last))
    (turn_parts s es (replay (start p s.threads) h.events) x y.thread m.state h.parts of m.there m.part (replay (start p s.threads) (h.events ++ y ∷ []))
    (keeps_threads p s.threads h.events y))
    (event_stands s (front_of s es h.events) y.thread y.line y.act (turn_moves s es h.events y.thread x (goes (made y.line y.act)) m of refl)
    (act_free s es h y.thread y.line y.act m.state m.part m.before m.last))

-- Before an operation

-- these steps stand before the operation
pub record BeforeOp (t : ℕ) (ss : List PartStep) (es : List Entry) (l : ℕ) (o : Operation) : Type 0 where
  pub before : List PartStep
  pub behind : List PartStep
  pub whole : ss ≡ before ++ makes l o ∷ behind
  pub same : filter_entries t before ≡ es

op_here : (t m : ℕ) (q : Operation) (l : ℕ) (o : Operation) (ss : List PartStep) → entry_of_operation t m q ∷ filter_entries t ss ≡ entry_of_operation t l o ∷ [] → BeforeOp t (makes m q ∷ ss) [] l o
op_here t m q l o ss h =
    let first : entry_of_operation t m q ≡ entry_of_operation t l o = cc in
    let both = same_op t m l q o first in
    record { before = []; behind = ss; whole = ap (λ n. makes n q ∷ ss) both.0 ∙ ap (λ r. makes l r ∷ ss) both.1; same = refl }

with_mark : (t : ℕ) (s : PartStep) (ss : List PartStep) (es : List Entry) (l : ℕ) (o : Operation) → ((us : List PartStep) → filter_entries t (s ∷ us) ≡ filter_entries t us) → BeforeOp t ss es l o → BeforeOp t (s ∷ ss) es l o
with_mark t s ss es l o skips h = record { before = s ∷ h.before; behind = h.behind; whole = ap (◌∷◌ s) h.whole; same = skips h.before ∙ h.same }

with_told : (t : ℕ) (s : PartStep) (ss : List PartStep) (x y : Entry) (es fs : List Entry) (l : ℕ) (o : Operation) → ((us : List PartStep) → filter_entries t (s ∷ us) ≡ x ∷ filter_entries t us)
    → x ∷ filter_entries t ss ≡ (y ∷ es) ++ fs → (filter_entries t ss ≡ es ++ fs → BeforeOp t ss es l o) → BeforeOp t (s ∷ ss) (y ∷ es) l o
with_told t s ss x y es fs l o tells h go =
    let first : x ≡ y = cc in
    let others : filter_entries t ss ≡ es ++ fs = cc in
    let c : BeforeOp t ss es l o = go others in
    record { before = s ∷ c.before; behind = c.behind; whole = ap (◌∷◌ s) c.whole; same = tells c.before ∙ (ap (λ z. z ∷ filter_entries t c.before) first ∙ ap (◌∷◌ y) c.same) }

pub before_op : (t : ℕ) (ss : List PartStep) (es : List Entry) (l : ℕ) (o : Operation) → filter_entries t ss ≡ es ++ entry_of_operation t l o ∷ [] → BeforeOp t ss es l o
before_op t [] es l o h = absurd (never_empty es (entry_of_operation t l o) h)
before_op t (makes m q ∷ ss) [] l o h = op_here t m q l o ss h
before_op t (goes (made m a) ∷ ss) [] l o h = let first : entry_by t m a ≡ entry_of_operation t l o = cc in absurd (act_is_no_op t m l a o first)
before_op t (makes m q ∷ ss) (y ∷ es) l o h =
    with_told t (makes m q) ss (entry_of_operation t m q) y es (entry_of_operation t l o ∷ []) l o (λ us. refl) h (λ g. before_op t ss es l o g)
before_op t (goes (made m a) ∷ ss) (y ∷ es) l o h =
    with_told t (goes (made m a)) ss (entry_by t m a) y es (entry_of_operation t l o ∷ []) l o (λ us. refl) h (λ g. before_op t ss es l o g)
before_op t (goes (begins m env) ∷ ss) es l o h = with_mark t (goes (begins m env)) ss es l o (λ us. refl) (before_op t ss es l o h)
before_op t (goes (done m) ∷ ss) es l o h = with_mark t (goes (done m)) ss es l o (λ us. refl) (before_op t ss es l o h)
before_op t (goes (edge m) ∷ ss) es l o h = with_mark t (goes (edge m)) ss es l o (λ us. refl) (before_op t ss es l o h)
before_op t (goes (enter f env) ∷ ss) es l o h = with_mark t (goes (enter f env)) ss es l o (λ us. refl) (before_op t ss es l o h)
before_op t (goes (out f) ∷ ss) es l o h = with_mark t (goes (out f)) ss es l o (λ us. refl) (before_op t ss es l o h)

pub stands_there : (p : Source) (plans : Plans) (z : Walk) (before : List PartStep) (s : PartStep) (behind : List PartStep) (ahead : List Item) → AreWoven p plans z (before ++ s ∷ behind) ahead
    → MayStand p (walk_from p plans z before) s (items behind ++ ahead)
stands_there p plans z [] s behind ahead h = h.0
stands_there p plans z (u ∷ before) s behind ahead h = stands_there p plans (walk_behind p plans z u) before s behind ahead h.1

-- a part with an operation behind it, which takes no version
record FrontPart (p : Source) (plans : Plans) (x : Own) (l : ℕ) (o : Operation) : Type 0 where
  part : IsPart p plans x
  rest : List Item
  stands : MayStand p (walk_of p plans x part.steps) (makes l o) rest

front_part : (p : Source) (plans : Plans) (t f : ℕ) (args : List ℤ) (vs : List Version) (es : List Entry) (l : ℕ) (o : Operation) → takings es ≡ length vs
    → IsPart p plans (an_own t f args vs (es ++ entry_of_operation t l o ∷ [])) → FrontPart p plans (an_own t f args vs es) l o
front_part p plans t f args vs es l o n h =
    let c : BeforeOp t h.steps es l o = before_op t h.steps es l o h.tells in
    let woven : AreWoven p plans (unborn vs) (c.before ++ makes l o ∷ c.behind) h.ahead = subst (λ ss. AreWoven p plans (unborn vs) ss h.ahead) c.whole h.woven in
    let front : AreWoven p plans (unborn vs) c.before (items c.behind ++ h.ahead) = woven_front p plans (unborn vs) c.before (makes l o ∷ c.behind) h.ahead woven in
    let more : AreWoven p plans (to_take (unborn []) (vs ++ [])) c.before (items c.behind ++ h.ahead) =
    subst (λ ws. AreWoven p plans (to_take (unborn []) ws) c.before (items c.behind ++ h.ahead)) (sym (append_none vs)) front in
    let both = fewer p plans t (unborn []) vs [] c.before (items c.behind ++ h.ahead) more (ap takings c.same ∙ n) in
    let trace : IsTrace p f args (items (c.before ++ makes l o ∷ c.behind) ++ h.ahead) h.outcome =
    subst (λ ss. IsTrace p f args (items ss ++ h.ahead) h.outcome) c.whole h.trace in
    record {
      part = record {
        steps = c.before;
        ahead = items c.behind ++ h.ahead;
        outcome = h.outcome;
        trace = subst (λ z. IsTrace p f args z h.outcome) (items_ahead c.before (makes l o ∷ c.behind) h.ahead) trace;
        woven = front;
        tells = c.same;
        taken = both.1;
      };
      rest = items c.behind ++ h.ahead;
      stands = stands_there p plans (unborn vs) c.before (makes l o) c.behind h.ahead woven;
    }

-- a thread that makes an operation has begun
has_begun : (p : Source) (plans : Plans) (t f : ℕ) (args : List ℤ) (vs : List Version) (es : List Entry) (l : ℕ) (o : Operation)
    → IsPart p plans (an_own t f args vs (es ++ entry_of_operation t l o ∷ [])) → (y : Entry) × ((ys : List Entry) × (es ≡ y ∷ ys))
has_begun p plans t f args vs (y ∷ es) l o h = (y, (es, refl))
has_begun p plans t f args vs [] l o h =
    let b = first_begins p plans t f args vs h.steps h.ahead h.outcome (entry_of_operation t l o) [] h.trace h.woven h.tells in
    let bad : true ≡ false = sym (ap is_target b.1.1) ∙ op_no_target t l o in
    cc

-- Threads are few

slice_small : {A : Type 0} (xs : List A) (i : ℕ) (x : A) → slice_get xs i ≡ Some x → i < length xs
slice_small [] i x h = cc
slice_small (y ∷ xs) zero x h = omega arith
slice_small (y ∷ xs) (suc i) x h = let ih : i < length xs = slice_small xs i x h in omega arith

changed_length : (s : Store) (f : ThreadState → ThreadState) (xs : List ThreadState) (n : ℕ) → length (Store.spawned (with_thread (record s { spawned = xs }) (suc n) f)) ≡ length xs
changed_length s f [] n = refl
changed_length s f (x ∷ xs) zero = refl
changed_length s f (x ∷ xs) (suc n) = ap suc (changed_length s f xs n)

with_thread_length : (s : Store) (u : ℕ) (f : ThreadState → ThreadState) → length (Store.spawned (with_thread s u f)) ≡ length s.spawned
with_thread_length s zero f = refl
with_thread_length s (suc n) f = changed_length s f s.spawned n

last_length : {A : Type 0} (xs : List A) (x : A) → length (xs ++ x ∷ []) ≡ suc (length xs)
last_length [] x = refl
last_length (y ∷ xs) x = ap suc (last_length xs x)

-- there are no more threads than there may be
abbrev AreFew : Store → Type 0
AreFew s = length s.spawned ≤ s.most

with_thread_most : (s : Store) (u : ℕ) (f : ThreadState → ThreadState) → Store.most (with_thread s u f) ≡ s.most
with_thread_most s zero f = refl
with_thread_most s (suc n) f = refl

few_with : (s : Store) (u : ℕ) (f : ThreadState → ThreadState) → AreFew s → AreFew (with_thread s u f)
few_with s u f n = omega (arith, with_thread_length s u f, with_thread_most s u f)

few_behind : (s : Store) (u : ℕ) (a : Act) → IsAllowedAct s u a → AreFew s → AreFew (after_act s u a)
few_behind s u begin h n = few_with s u (λ x. record x { begun = true }) n
few_behind s u end h n = few_with s u (λ x. record x { ended = true }) n
few_behind s u (trap c) h n = n
few_behind s u (read x v) h n = n
few_behind s u (write x v) h n = n
few_behind s u (lock m) h n = n
few_behind s u (unlock m) h n = n
few_behind s u (down m) h n = n
few_behind s u (up m) h n = n
few_behind s u (spawn c f vs) h n =
    let is : c ≡ length s.spawned + 1 = h.1.0 in
    let most : c ≤ s.most = h.1.1 in
    let few : suc (length s.spawned) ≤ s.most = omega arith in
    subst (λ m. m ≤ s.most) (sym (last_length s.spawned (new_thread f vs))) few
few_behind s u (join c) h n = n
few_behind s u (print v) h n = n

few_along : (s : Store) (xs : List TargetEvent) → AreAllowed s xs → AreFew s → AreFew (replay s xs)
few_along s [] h n = n
few_along s (x ∷ xs) h n = few_along (law.after_event s x) xs h.1 (few_behind s x.thread x.act h.0 n)

act_most : (s : Store) (u : ℕ) (a : Act) → Store.most (after_act s u a) ≡ s.most
act_most s u begin = with_thread_most s u (λ x. record x { begun = true })
act_most s u end = with_thread_most s u (λ x. record x { ended = true })
act_most s u (trap c) = refl
act_most s u (read x v) = refl
act_most s u (write x v) = refl
act_most s u (lock m) = refl
act_most s u (unlock m) = refl
act_most s u (down m) = refl
act_most s u (up m) = refl
act_most s u (spawn c f vs) = refl
act_most s u (join c) = refl
act_most s u (print v) = refl

pub replay_most : (s : Store) (xs : List TargetEvent) → Store.most (replay s xs) ≡ s.most
replay_most s [] = refl
replay_most s (x ∷ xs) = replay_most (law.after_event s x) xs ∙ act_most s x.thread x.act

few_first : (most : ℕ) (o : Option ℕ) → length (main_thread most o) ≤ most
few_first most None = omega arith
few_first zero (Some f) = omega arith
few_first (suc n) (Some f) = omega arith

thread_small : (p : Source) (most : ℕ) (xs : List TargetEvent) (i : ℕ) (z : ThreadState) → AreAllowed (start p most) xs → thread_at (replay (start p most) xs) (suc i) ≡ Some z → i < most
thread_small p most xs i z ok there =
    let few : length (Store.spawned (replay (start p most) xs)) ≤ Store.most (replay (start p most) xs) =
    few_along (start p most) xs ok (few_first most (function_number p (codes "main"))) in
    let small : i < length (Store.spawned (replay (start p most) xs)) = slice_small (Store.spawned (replay (start p most) xs)) i z there in
    let same : Store.most (replay (start p most) xs) ≡ most = replay_most (start p most) xs in
    omega arith

-- Operations

op_owes : (t l : ℕ) (o : Operation) (ys : List ℕ) → owes_cross (entry_of_operation t l o) ys ≡ false → ys ≡ []
op_owes t l o [] h = refl
op_owes t l (wait k n) (y ∷ ys) h = cc
op_owes t l (enters k c) (y ∷ ys) h = cc
op_owes t l (at k ns) (y ∷ ys) h = cc
op_owes t l (past k ns) (y ∷ ys) h = cc
op_owes t l (post k n) (y ∷ ys) h = cc
op_owes t l (leave k c) (y ∷ ys) h = cc
op_owes t l back (y ∷ ys) h = cc
op_owes t l (tick x) (y ∷ ys) h = cc
op_owes t l (cross x v n) (y ∷ ys) h = cc
op_owes t l (blocked what) (y ∷ ys) h = cc

-- the thread's part with the operation, where it takes no version
abbrev MakesOp : Setting → List Entry → ℕ → ThreadState → ℕ → Operation → Type 0
MakesOp s es t z l o = IsPart s.program (plans s) (an_own t z.func z.args (versions_of s.commands t es) (entries_of t es ++ entry_of_operation t l o ∷ []))

abbrev IsOwed : ℕ → Operation → Type 0
IsOwed l o = (p : Source) (z : Walk) (rest : List Item) → MayStand p z (makes l o) rest → Owes z.owed l o

op_installed : (s : Setting) (es : List Entry) (h : IsStrict s es) (i l : ℕ) (o : Operation) (z : ThreadState) (k : ℕ) → thread_at (replay (start s.program s.threads) h.events) (suc i) ≡ Some z
    → MakesOp s es (suc i) z l o → owes_cross (entry_of_operation (suc i) l o) (listed_places (suc i) es) ≡ false → operation_filter o ≡ Some k → IsOwed l o
    → is_installed (control s.commands es) k ≡ true
op_installed s es h i l o z k there part none f owed =
    let t : ℕ = suc i in
    let n : takings (entries_of t es) ≡ length (versions_of s.commands t es) = takings_taken s.commands t first_control es in
    let b : FrontPart s.program (plans s) (own s es t z) l o = front_part s.program (plans s) t z.func z.args (versions_of s.commands t es) (entries_of t es) l o n part in
    let begun = has_begun s.program (plans s) t z.func z.args (versions_of s.commands t es) (entries_of t es) l o part in
    owed_installed s es [] (subst (IsStrict s) (sym (append_none es)) h) i (thread_small s.program s.threads h.events i z h.run.allowed there) z b.part begun.0 begun.1.0 begun.1.1
    (op_owes t l o (listed_places t es) none) l o k (owed s.program (walk_of s.program (plans s) (own s es t z) b.part.steps) b.rest b.stands) f

leave_held : (s : Setting) (es : List Entry) (h : IsStrict s es) (i l k c : ℕ) (z : ThreadState) → thread_at (replay (start s.program s.threads) h.events) (suc i) ≡ Some z
    → MakesOp s es (suc i) z l (leave k c) → owes_cross (e.Leave (suc i) l k c) (listed_places (suc i) es) ≡ false → is_held_by (control s.commands es) k c (suc i) ≡ true
leave_held s es h i l k c z there part none =
    let t : ℕ = suc i in
    let n : takings (entries_of t es) ≡ length (versions_of s.commands t es) = takings_taken s.commands t first_control es in
    let b : FrontPart s.program (plans s) (own s es t z) l (leave k c) =
    front_part s.program (plans s) t z.func z.args (versions_of s.commands t es) (entries_of t es) l (leave k c) n part in
    let begun = has_begun s.program (plans s) t z.func z.args (versions_of s.commands t es) (entries_of t es) l (leave k c) part in
    right_leaves s es [] (subst (IsStrict s) (sym (append_none es)) h) i (thread_small s.program s.threads h.events i z h.run.allowed there) z b.part begun.0 begun.1.0 begun.1.1
    (op_owes t l (leave k c) (listed_places t es) none) l k c b.stands

-- The version of a `Cross`

cross_version : (p : Source) (plans : Plans) (t f : ℕ) (args : List ℤ) (vs : List Version) (v : Version) (es : List Entry) (l x n m : ℕ) → takings es ≡ length vs
    → IsPart p plans (an_own t f args (vs ++ v ∷ []) (es ++ e.Cross t l x n m ∷ [])) → n ≡ v.number
cross_version p plans t f args vs v es l x n m few h =
    let ws : List Version = vs ++ v ∷ [] in
    let c : BeforeOp t h.steps es l (cross x n m) = before_op t h.steps es l (cross x n m) h.tells in
    let woven : AreWoven p plans (unborn ws) (c.before ++ makes l (cross x n m) ∷ c.behind) h.ahead = subst (λ ss. AreWoven p plans (unborn ws) ss h.ahead) c.whole h.woven in
    let stands : MayCross p (walk_from p plans (unborn ws) c.before) (items c.behind ++ h.ahead) l x n m =
    stands_there p plans (unborn ws) c.before (makes l (cross x n m)) c.behind h.ahead woven in
    let coming : Walk.coming (walk_from p plans (unborn ws) c.before) ≡ v ∷ [] =
    walk_coming p plans t (unborn ws) c.before ∙ drop_whole (takings (filter_entries t c.before)) vs (v ∷ []) (ap takings c.same ∙ few) in
    let same : Some v.number ≡ Some n = ap first_number (sym coming) ∙ stands.version in
    cc

op_stands : (s : Setting) (es : List Entry) (h : IsStrict s es) (i l : ℕ) (o : Operation) (z : ThreadState) → thread_at (replay (start s.program s.threads) h.events) (suc i) ≡ Some z
    → IsPart s.program (plans s) (own_with s es (suc i) z (entry_of_operation (suc i) l o)) → MayMove s (front_of s es h.events) (suc i) (entry_of_operation (suc i) l o)
    → Permits s (front_of s es h.events) (entry_of_operation (suc i) l o) → Stands s (front_of s es h.events) (entry_of_operation (suc i) l o) []
op_stands s es h i l (wait k n) z there part m needs = (m, (op_installed s es h i l (wait k n) z k there part (sym m.crosses) refl (λ p w rest g. g), needs))
op_stands s es h i l (enters k c) z there part m needs = (m, (op_installed s es h i l (enters k c) z k there part (sym m.crosses) refl (λ p w rest g. g), needs))
op_stands s es h i l (at k ns) z there part m needs = (m, (op_installed s es h i l (at k ns) z k there part (sym m.crosses) refl (λ p w rest g. g), needs))
op_stands s es h i l (past k ns) z there part m needs = (m, op_installed s es h i l (past k ns) z k there part (sym m.crosses) refl (λ p w rest g. g))
op_stands s es h i l (post k n) z there part m needs = (m, op_installed s es h i l (post k n) z k there part (sym m.crosses) refl (λ p w rest g. g))
op_stands s es h i l (leave k c) z there part m needs = (m, leave_held s es h i l k c z there part (sym m.crosses))
op_stands s es h i l back z there part m needs = (m, tt)
op_stands s es h i l (tick x) z there part m needs = (m, tt)
op_stands s es h i l (cross x v n) z there part m needs = (
  m,
  (
    cross_version s.program (plans s) (suc i) z.func z.args (versions_of s.commands (suc i) es) (Control.version (control s.commands es)) (entries_of (suc i) es) l x v n
        (takings_taken s.commands (suc i) first_control es) part,
    needs,
  ),
)
op_stands s es h i l (blocked what) z there part m needs = (m, needs)

pub some_thread : (s : Setting) (es : List Entry) (h : IsStrict s es) (t l : ℕ) (o : Operation) (z : ThreadState) → thread_at (replay (start s.program s.threads) h.events) t ≡ Some z
    → IsPart s.program (plans s) (own_with s es t z (entry_of_operation t l o)) → MayMove s (front_of s es h.events) t (entry_of_operation t l o)
    → Permits s (front_of s es h.events) (entry_of_operation t l o) → Stands s (front_of s es h.events) (entry_of_operation t l o) []
some_thread s es h zero l o z there part moves needs = cc
some_thread s es h (suc i) l o z there part moves needs = op_stands s es h i l o z there part moves needs

pub operation_turns : (s : Setting) (es : List Entry) (h : IsStrict s es) → IsUnfinished es
    → (t l : ℕ) (o : Operation) → MayTurn s es h.events t (entry_of_operation t l o) (makes l o)
    → (h' : IsStrict s (es ++ entry_of_operation t l o ∷ [])) × (h'.events ≡ h.events)
operation_turns s es h open_ t l o m =
    let st : Store = replay (start s.program s.threads) h.events in
    let x : Entry = entry_of_operation t l o in
    let of : thread_of x ≡ Some t = op_thread t l o in
    longer s es h x h.events [] (sym (append_none h.events)) open_ (sym (if_false (is_target x) (x ∷ []) [] (op_no_target t l o))) h.run
    (turn_parts s es st x t m.state h.parts of m.there m.part st (λ u. of_itself (thread_at st u)))
    (some_thread s es h t l o m.state m.there m.part (turn_moves s es h.events t x (makes l o) m of refl) m.permits)

pub empty_ends : HasEmptyEnds
empty_ends p plans x h before l is =
    end_holds p plans x.func x.args x.versions before l h.ahead h.outcome (subst (λ ss. IsTrace p x.func x.args (items ss ++ h.ahead) h.outcome) is h.trace)
    (subst (λ ss. AreWoven p plans (unborn x.versions) ss h.ahead) is h.woven)
