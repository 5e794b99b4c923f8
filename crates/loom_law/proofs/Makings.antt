-- What a thread asks to make gives one more entry of a lawful journal; a request that is disabled may be told as `Blocked`.
use Rattle.std.proofs.Common.{ℕ, ◌≡◌, true, false, List, [], ◌∷◌, ◌++◌, drop, Some, refl, sym, ap, subst, ◌∙◌}
use Rattle.loom_tree.specs.Tree.{Source}
use Rattle.loom_trace.specs.declared.entry.Entry.{Entry}
use Rattle.loom_trace.specs.declared.entry.Entry.TheVariants as e
use Rattle.loom_lang.specs.Trace.{begin, end, trap, read, write, lock, unlock, down, up, spawn, join, print, Item, made, begins, done, edge, enter, out, IsTrace}
use Rattle.loom_event.specs.Replay.{ThreadState}
use Rattle.loom_law.specs.Walk.{Version, Plans, Operation, wait, enters, at, past, post, leave, back, tick, cross, blocked, PartStep, goes, makes, items, filter_entries, entry_of_operation, Walk, unborn, behind_entry, taking, crossing, walk_behind, walk_from, first_number, MayCross, AreWoven}
use Rattle.loom_law.specs.ThreadPart.{Own, walk_of, IsPart, HasMoved, KeepsAway}
use Rattle.loom_law.specs.Control.{entries_of}
use Rattle.loom_law.specs.Lawful.{Setting, plans, own, IsFlagged, is_begin, StaysAway}
use Rattle.loom_law.specs.Laws.{own_with}
use Rattle.loom_law.specs.TurnLaws.{AsksToDo, HasMakingTurns, blocked_behind}
use Rattle.loom_law.proofs.OnePart.{told_append, one_move}
use Rattle.loom_law.proofs.Earlier.{append_assoc, items_ahead, woven_front, takings}
use Rattle.loom_law.proofs.Turns.{BeforeOp, before_op, moved, walk_coming}
use Rattle.loom_law.proofs.Lawful.{operation_turns}

asked_part : (s : Setting) (es : List Entry) (t : ℕ) (z : ThreadState) (l : ℕ) (o : Operation) → AsksToDo s es (own s es t z) l o
    → IsPart s.program (plans s) (own_with s es t z (entry_of_operation t l o))
asked_part s es t z l (wait k n) h = h
asked_part s es t z l (enters k c) h = h
asked_part s es t z l (at k ns) h = h
asked_part s es t z l (past k ns) h = h
asked_part s es t z l (post k n) h = h
asked_part s es t z l (leave k c) h = h
asked_part s es t z l back h = h
asked_part s es t z l (tick x) h = h
asked_part s es t z l (blocked what) h = h
asked_part s es t z l (cross y n m) h = subst (λ v. IsPart s.program (plans s) (own_with s es t z (e.Cross t l y v m))) (sym h.0) h.1

op_no_begin : (t l : ℕ) (o : Operation) → is_begin (entry_of_operation t l o) ≡ false
op_no_begin t l (wait k n) = refl
op_no_begin t l (enters k c) = refl
op_no_begin t l (at k ns) = refl
op_no_begin t l (past k ns) = refl
op_no_begin t l (post k n) = refl
op_no_begin t l (leave k c) = refl
op_no_begin t l back = refl
op_no_begin t l (tick x) = refl
op_no_begin t l (cross y n m) = refl
op_no_begin t l (blocked what) = refl

-- the part that ends with the operation
pub record OpPart (p : Source) (plans : Plans) (x : Own) (l : ℕ) (o : Operation) : Type 0 where
  pub part : IsPart p plans x
  pub before : List PartStep
  pub last : part.steps ≡ before ++ makes l o ∷ []

pub cut_part : (p : Source) (plans : Plans) (x : Own) (es : List Entry) (l : ℕ) (o : Operation) → x.entries ≡ es ++ entry_of_operation x.thread l o ∷ [] → IsPart p plans x → OpPart p plans x l o
cut_part p plans x es l o is h =
    let t : ℕ = x.thread in
    let c : BeforeOp t h.steps es l o = before_op t h.steps es l o (h.tells ∙ is) in
    let steps : List PartStep = c.before ++ makes l o ∷ [] in
    let ahead : List Item = items c.behind ++ h.ahead in
    let whole : h.steps ≡ steps ++ c.behind = c.whole ∙ sym (append_assoc c.before (makes l o ∷ []) c.behind) in
    let tells : filter_entries t steps ≡ x.entries = told_append t c.before (makes l o ∷ []) ∙ (ap (λ us. us ++ entry_of_operation t l o ∷ []) c.same ∙ sym is) in
    record {
      part = record {
        steps = steps;
        ahead = ahead;
        outcome = h.outcome;
        trace = subst (λ is. IsTrace p x.func x.args is h.outcome) (ap (λ ss. items ss ++ h.ahead) whole ∙ (items_ahead steps c.behind h.ahead)) h.trace;
        woven = woven_front p plans (unborn x.versions) steps c.behind h.ahead (subst (λ ss. AreWoven p plans (unborn x.versions) ss h.ahead) whole h.woven);
        tells = tells;
        taken = walk_coming p plans t (unborn x.versions) steps
            ∙ (ap (λ us. drop (takings us) x.versions) (tells ∙ sym h.tells) ∙ (sym (walk_coming p plans t (unborn x.versions) h.steps) ∙ h.taken));
      };
      before = c.before;
      last = refl;
    }

op_told : (t l : ℕ) (o : Operation) → filter_entries t (makes l o ∷ []) ≡ entry_of_operation t l o ∷ []
op_told t l o = refl

pub making_turns : HasMakingTurns
making_turns s es h open_ t l o m =
    let x : Own = own_with s es t m.state (entry_of_operation t l o) in
    let c : OpPart s.program (plans s) x l o = cut_part s.program (plans s) x (entries_of t es) l o refl (asked_part s es t m.state l o m.asks) in
    let before : HasMoved s.program (plans s) x c.before = moved s.program (plans s) x c.part c.before (makes l o) (entry_of_operation t l o) c.last (op_told t l o) in
    operation_turns s es h open_ t l o
    (record {
      state = m.state;
      there = m.there;
      part = c.part;
      before = c.before;
      last = c.last;
      goes_on = m.goes_on;
      not_held_off = m.not_held_off;
      crosses = m.crosses;
      away = λ k is some.
          let away : StaysAway s x k = m.away k is some in
          subst (λ ss. KeepsAway (IsFlagged s k) (walk_of s.program (plans s) x ss)) (one_move s.program (plans s) x away.steps c.before away.moved before) away.away;
      no_begin = λ k is b. let no : false ≡ true = sym (op_no_begin t l o) ∙ b in cc;
      permits = m.permits;
    })

-- A thread is blocked by its last entry

taking_blocked : (z : Walk) (vs : List Version) → Walk.is_blocked (taking z vs) ≡ z.is_blocked
taking_blocked z [] = refl
taking_blocked z (v ∷ vs) = refl

crossing_blocked : (p : Source) (plans : Plans) (z : Walk) (vs : List Version) (v : ℕ) → first_number vs ≡ Some v → Walk.is_blocked (crossing p plans z vs) ≡ false
crossing_blocked p plans z [] v h = cc
crossing_blocked p plans z (u ∷ vs) v h = refl

pub walk_blocked : (p : Source) (plans : Plans) (t : ℕ) (z : Walk) (ss : List PartStep) (ahead : List Item) → AreWoven p plans z ss ahead
    → Walk.is_blocked (walk_from p plans z ss) ≡ blocked_behind z.is_blocked (filter_entries t ss)
walk_blocked p plans t z [] ahead h = refl
walk_blocked p plans t z (goes (made l begin) ∷ ss) ahead h =
    walk_blocked p plans t (taking (behind_entry z) z.coming) ss ahead h.1
    ∙ ap (λ b. blocked_behind b (filter_entries t ss)) (taking_blocked (behind_entry z) z.coming)
walk_blocked p plans t z (makes l (cross x v n) ∷ ss) ahead h =
    let c : MayCross p z (items ss ++ ahead) l x v n = h.0 in
    walk_blocked p plans t (crossing p plans z z.coming) ss ahead h.1
    ∙ ap (λ b. blocked_behind b (filter_entries t ss)) (crossing_blocked p plans z z.coming v c.version)
walk_blocked p plans t z (goes (made l end) ∷ ss) ahead h = walk_blocked p plans t (walk_behind p plans z (goes (made l end))) ss ahead h.1
walk_blocked p plans t z (goes (made l (trap c)) ∷ ss) ahead h = walk_blocked p plans t (walk_behind p plans z (goes (made l (trap c)))) ss ahead h.1
walk_blocked p plans t z (goes (made l (read x v)) ∷ ss) ahead h = walk_blocked p plans t (walk_behind p plans z (goes (made l (read x v)))) ss ahead h.1
walk_blocked p plans t z (goes (made l (write x v)) ∷ ss) ahead h = walk_blocked p plans t (walk_behind p plans z (goes (made l (write x v)))) ss ahead h.1
walk_blocked p plans t z (goes (made l (lock x)) ∷ ss) ahead h = walk_blocked p plans t (walk_behind p plans z (goes (made l (lock x)))) ss ahead h.1
walk_blocked p plans t z (goes (made l (unlock x)) ∷ ss) ahead h = walk_blocked p plans t (walk_behind p plans z (goes (made l (unlock x)))) ss ahead h.1
walk_blocked p plans t z (goes (made l (down x)) ∷ ss) ahead h = walk_blocked p plans t (walk_behind p plans z (goes (made l (down x)))) ss ahead h.1
walk_blocked p plans t z (goes (made l (up x)) ∷ ss) ahead h = walk_blocked p plans t (walk_behind p plans z (goes (made l (up x)))) ss ahead h.1
walk_blocked p plans t z (goes (made l (spawn c f ws)) ∷ ss) ahead h = walk_blocked p plans t (walk_behind p plans z (goes (made l (spawn c f ws)))) ss ahead h.1
walk_blocked p plans t z (goes (made l (join c)) ∷ ss) ahead h = walk_blocked p plans t (walk_behind p plans z (goes (made l (join c)))) ss ahead h.1
walk_blocked p plans t z (goes (made l (print v)) ∷ ss) ahead h = walk_blocked p plans t (walk_behind p plans z (goes (made l (print v)))) ss ahead h.1
walk_blocked p plans t z (goes (begins l env) ∷ ss) ahead h = walk_blocked p plans t (walk_behind p plans z (goes (begins l env))) ss ahead h.1
walk_blocked p plans t z (goes (done l) ∷ ss) ahead h = walk_blocked p plans t (walk_behind p plans z (goes (done l))) ss ahead h.1
walk_blocked p plans t z (goes (edge l) ∷ ss) ahead h = walk_blocked p plans t (walk_behind p plans z (goes (edge l))) ss ahead h.1
walk_blocked p plans t z (goes (enter f env) ∷ ss) ahead h = walk_blocked p plans t (walk_behind p plans z (goes (enter f env))) ss ahead h.1
walk_blocked p plans t z (goes (out f) ∷ ss) ahead h = walk_blocked p plans t (walk_behind p plans z (goes (out f))) ss ahead h.1
walk_blocked p plans t z (makes l (wait k n) ∷ ss) ahead h = walk_blocked p plans t (walk_behind p plans z (makes l (wait k n))) ss ahead h.1
walk_blocked p plans t z (makes l (enters k c) ∷ ss) ahead h = walk_blocked p plans t (walk_behind p plans z (makes l (enters k c))) ss ahead h.1
walk_blocked p plans t z (makes l (at k ns) ∷ ss) ahead h = walk_blocked p plans t (walk_behind p plans z (makes l (at k ns))) ss ahead h.1
walk_blocked p plans t z (makes l (past k ns) ∷ ss) ahead h = walk_blocked p plans t (walk_behind p plans z (makes l (past k ns))) ss ahead h.1
walk_blocked p plans t z (makes l (post k n) ∷ ss) ahead h = walk_blocked p plans t (walk_behind p plans z (makes l (post k n))) ss ahead h.1
walk_blocked p plans t z (makes l (leave k c) ∷ ss) ahead h = walk_blocked p plans t (walk_behind p plans z (makes l (leave k c))) ss ahead h.1
walk_blocked p plans t z (makes l back ∷ ss) ahead h = walk_blocked p plans t (walk_behind p plans z (makes l back)) ss ahead h.1
walk_blocked p plans t z (makes l (tick x) ∷ ss) ahead h = walk_blocked p plans t (walk_behind p plans z (makes l (tick x))) ss ahead h.1
walk_blocked p plans t z (makes l (blocked what) ∷ ss) ahead h = walk_blocked p plans t (walk_behind p plans z (makes l (blocked what))) ss ahead h.1
