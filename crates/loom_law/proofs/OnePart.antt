-- A thread has at most one full part.
use Rattle.std.proofs.Common.{ℕ, suc, ◌≡◌, ◌≤◌, List, [], ◌∷◌, ◌++◌, length, Option, Some, None, refl, sym, ap, subst, ◌∙◌, arith}
use Rattle.loom_tree.specs.Tree.{Source}
use Rattle.loom_trace.specs.declared.entry.Entry.{Entry}
use Rattle.loom_trace.specs.declared.entry.Entry.TheVariants as e
use Rattle.loom_trace.specs.declared.entry.What.{What}
use Rattle.loom_trace.specs.declared.entry.What.TheVariants as w
use Rattle.loom_lang.specs.Places.{Place}
use Rattle.loom_lang.specs.Trace.{Cause, division, index, not_held, not_spawned, threads, frames, overflow, Act, begin, end, trap, read, write, lock, unlock, down, up, spawn, join, print, Item, made, begins, done, edge, enter, out, Outcome}
use Rattle.loom_lang.specs.Acts.{AnswerTheSame}
use Rattle.loom_lang.specs.Alike.{AreAlike}
use Rattle.loom_lang.proofs.NextItem.{Agree, traces_agree}
use Rattle.loom_event.specs.TargetEvent.{entry_by}
use Rattle.loom_law.specs.Walk.{Plans, Operation, wait, enters, at, past, post, leave, back, tick, cross, blocked, PartStep, goes, makes, items, told_item, filter_entries, entry_of_operation, Queue, Walk, unborn, walk_behind, place_of_item, place_of_next, Owes, Acts, AsksFor, MayCross, MayBlock, MayStand, AreWoven}
use Rattle.loom_law.specs.ThreadPart.{Own}
use Rattle.loom_law.specs.Laws.{EndsWithEntry, HasOnePart, HasOneMove, HasOneMade}

-- An entry tells its step

op_of : Entry → Option Operation
op_of (e.Wait t l k n) = Some (wait k n)
op_of (e.Enter t l k c) = Some (enters k c)
op_of (e.At t l k ns) = Some (at k ns)
op_of (e.Past t l k ns) = Some (past k ns)
op_of (e.Post t l k n) = Some (post k n)
op_of (e.Leave t l k c) = Some (leave k c)
op_of (e.Back t l) = Some back
op_of (e.Tick t l x) = Some (tick x)
op_of (e.Cross t l x v n) = Some (cross x v n)
op_of (e.Blocked t l what) = Some (blocked what)
op_of _ = None

line_of : Entry → ℕ
line_of (e.Wait t l k n) = l
line_of (e.Enter t l k c) = l
line_of (e.At t l k ns) = l
line_of (e.Past t l k ns) = l
line_of (e.Post t l k n) = l
line_of (e.Leave t l k c) = l
line_of (e.Back t l) = l
line_of (e.Tick t l x) = l
line_of (e.Cross t l x v n) = l
line_of (e.Blocked t l what) = l
line_of _ = 0

op_back : (t l : ℕ) (o : Operation) → op_of (entry_of_operation t l o) ≡ Some o
unfolding op_of
op_back t l (wait k n) = refl
op_back t l (enters k c) = refl
op_back t l (at k ns) = refl
op_back t l (past k ns) = refl
op_back t l (post k n) = refl
op_back t l (leave k c) = refl
op_back t l back = refl
op_back t l (tick x) = refl
op_back t l (cross x v n) = refl
op_back t l (blocked what) = refl

line_back : (t l : ℕ) (o : Operation) → line_of (entry_of_operation t l o) ≡ l
unfolding line_of
line_back t l (wait k n) = refl
line_back t l (enters k c) = refl
line_back t l (at k ns) = refl
line_back t l (past k ns) = refl
line_back t l (post k n) = refl
line_back t l (leave k c) = refl
line_back t l back = refl
line_back t l (tick x) = refl
line_back t l (cross x v n) = refl
line_back t l (blocked what) = refl

no_op_of_act : (t l : ℕ) (a : Act) → op_of (entry_by t l a) ≡ None
unfolding op_of
no_op_of_act t l begin = refl
no_op_of_act t l end = refl
no_op_of_act t l (trap c) = refl
no_op_of_act t l (read x v) = refl
no_op_of_act t l (write x v) = refl
no_op_of_act t l (lock m) = refl
no_op_of_act t l (unlock m) = refl
no_op_of_act t l (down x) = refl
no_op_of_act t l (up x) = refl
no_op_of_act t l (spawn c f vs) = refl
no_op_of_act t l (join c) = refl
no_op_of_act t l (print v) = refl

same_some : {A : Type 0} (a b : A) → Some a ≡ Some b → a ≡ b
same_some a b h = cc

pub same_op : (t l m : ℕ) (o q : Operation) → entry_of_operation t l o ≡ entry_of_operation t m q → (l ≡ m) × (o ≡ q)
same_op t l m o q h = (
  sym (line_back t l o) ∙ (ap line_of h ∙ line_back t m q),
  same_some o q (sym (op_back t l o) ∙ (ap op_of h ∙ op_back t m q)),
)

pub act_is_no_op : (t l m : ℕ) (a : Act) (o : Operation) → entry_by t l a ≡ entry_of_operation t m o → ⊥
act_is_no_op t l m a o h =
    let none : None ≡ Some o = sym (no_op_of_act t l a) ∙ (ap op_of h ∙ op_back t m o) in
    cc

-- Acts that answer the same and are told the same are the same.

act_of : Entry → Option Act
act_of (e.Begin t l) = Some begin
act_of (e.End t l) = Some end
act_of (e.Read t l x v) = Some (read x v)
act_of (e.Write t l x v) = Some (write x v)
act_of (e.Lock t l m) = Some (lock m)
act_of (e.Unlock t l m) = Some (unlock m)
act_of (e.Down t l x) = Some (down x)
act_of (e.Up t l x) = Some (up x)
act_of (e.Spawn t l c f vs) = Some (spawn c f vs)
act_of (e.Join t l c) = Some (join c)
act_of (e.Print t l v) = Some (print v)
act_of _ = None

act_found : (t l : ℕ) (b a : Act) → Some a ≡ act_of (entry_by t l b) → a ≡ b
unfolding act_of
act_found t l begin a h = cc
act_found t l end a h = cc
act_found t l (trap c) a h = cc
act_found t l (read x v) a h = cc
act_found t l (write x v) a h = cc
act_found t l (lock m) a h = cc
act_found t l (unlock m) a h = cc
act_found t l (down x) a h = cc
act_found t l (up x) a h = cc
act_found t l (spawn c f vs) a h = cc
act_found t l (join c) a h = cc
act_found t l (print v) a h = cc

trap_same : (c d : Cause) → AnswerTheSame (trap c) (trap d) → trap c ≡ trap d
trap_same division d h = h
trap_same index d h = h
trap_same (not_held m) d h = h
trap_same (not_spawned v) d h = h
trap_same threads d h = h
trap_same frames d h = h
trap_same (overflow s) d h = h

trap_found : (t l m : ℕ) (c : Cause) (b : Act) → AnswerTheSame (trap c) b → entry_by t l (trap c) ≡ entry_by t m b → trap c ≡ b
trap_found t l m c begin h g = cc
trap_found t l m c end h g = cc
trap_found t l m c (trap d) h g = trap_same c d h
trap_found t l m c (read x v) h g = cc
trap_found t l m c (write x v) h g = cc
trap_found t l m c (lock x) h g = cc
trap_found t l m c (unlock x) h g = cc
trap_found t l m c (down x) h g = cc
trap_found t l m c (up x) h g = cc
trap_found t l m c (spawn d f vs) h g = cc
trap_found t l m c (join d) h g = cc
trap_found t l m c (print v) h g = cc

pub same_act : (t l m : ℕ) (a b : Act) → AnswerTheSame a b → entry_by t l a ≡ entry_by t m b → a ≡ b
unfolding act_of
same_act t l m begin b h g = act_found t m b begin (ap act_of g)
same_act t l m end b h g = act_found t m b end (ap act_of g)
same_act t l m (trap c) b h g = trap_found t l m c b h g
same_act t l m (read x v) b h g = act_found t m b (read x v) (ap act_of g)
same_act t l m (write x v) b h g = act_found t m b (write x v) (ap act_of g)
same_act t l m (lock x) b h g = act_found t m b (lock x) (ap act_of g)
same_act t l m (unlock x) b h g = act_found t m b (unlock x) (ap act_of g)
same_act t l m (down x) b h g = act_found t m b (down x) (ap act_of g)
same_act t l m (up x) b h g = act_found t m b (up x) (ap act_of g)
same_act t l m (spawn c f vs) b h g = act_found t m b (spawn c f vs) (ap act_of g)
same_act t l m (join c) b h g = act_found t m b (join c) (ap act_of g)
same_act t l m (print v) b h g = act_found t m b (print v) (ap act_of g)

same_told : (t : ℕ) (i j : Item) (es fs : List Entry) → AreAlike i j → told_item t i es ≡ told_item t j fs → (i ≡ j) × (es ≡ fs)
same_told t (made n c) (made k d) es fs h g =
    let first : entry_by t n c ≡ entry_by t k d = cc in
    let act : c ≡ d = same_act t n k c d h.1 first in
    (ap (λ l. made l c) h.0 ∙ ap (λ a. made k a) act, cc)
same_told t (made n c) (begins k env) es fs h g = cc
same_told t (made n c) (done k) es fs h g = cc
same_told t (made n c) (edge k) es fs h g = cc
same_told t (made n c) (enter k env) es fs h g = cc
same_told t (made n c) (out k) es fs h g = cc
same_told t (begins n env) j es fs h g = (h, subst (λ z. es ≡ told_item t z fs) (sym h) g)
same_told t (done n) j es fs h g = (h, subst (λ z. es ≡ told_item t z fs) (sym h) g)
same_told t (edge n) j es fs h g = (h, subst (λ z. es ≡ told_item t z fs) (sym h) g)
same_told t (enter n env) j es fs h g = (h, subst (λ z. es ≡ told_item t z fs) (sym h) g)
same_told t (out n) j es fs h g = (h, subst (λ z. es ≡ told_item t z fs) (sym h) g)

-- Where one part goes on and the other makes an operation

data Kind : Type 0 where
  an_act : Kind
  a_place : Kind
  a_mark : Kind

abbrev kind : Item → Kind
kind (made l a) = an_act
kind (begins l env) = a_mark
kind (done l) = a_mark
kind (edge l) = a_place
kind (enter f env) = a_place
kind (out f) = a_mark

same_kind : (i j : Item) → AreAlike i j → kind i ≡ kind j
same_kind (made n c) (made k d) h = refl
same_kind (made n c) (begins k env) h = cc
same_kind (made n c) (done k) h = cc
same_kind (made n c) (edge k) h = cc
same_kind (made n c) (enter k env) h = cc
same_kind (made n c) (out k) h = cc
same_kind (begins n env) j h = ap kind h
same_kind (done n) j h = ap kind h
same_kind (edge n) j h = ap kind h
same_kind (enter n env) j h = ap kind h
same_kind (out n) j h = ap kind h

-- if there is a first item, it has that kind
abbrev Begins : Kind → List Item → Type 0
Begins k [] = Unit {0}
Begins k (i ∷ is) = kind i ≡ k

-- there is a place of what comes next only before an act, and before the marks that pass a place
no_place : (z : Walk) (is : List Item) (y : Place) → Begins a_mark is → place_of_item z is ≡ Some y → ⊥
no_place z [] y k h = cc
no_place z (made l a ∷ is) y k h = cc
no_place z (begins l env ∷ is) y k h = cc
no_place z (done l ∷ is) y k h = cc
no_place z (edge l ∷ is) y k h = cc
no_place z (enter f env ∷ is) y k h = cc
no_place z (out f ∷ is) y k h = cc

-- places are passed until the next entry: a `Cross` that is told first counts at least those that were passed already
later_cross : (p : Source) (plans : Plans) (t : ℕ) (z : Walk) (ss : List PartStep) (ahead : List Item) (l x v n : ℕ) (es : List Entry) → AreWoven p plans z ss ahead
    → filter_entries t ss ≡ entry_of_operation t l (cross x v n) ∷ es → length z.passed ≤ n
later_cross p plans t z [] ahead l x v n es h g = cc
later_cross p plans t z (goes (made m a) ∷ ss) ahead l x v n es h g =
    let first : entry_by t m a ≡ entry_of_operation t l (cross x v n) = cc in
    absurd (act_is_no_op t m l a (cross x v n) first)
later_cross p plans t z (goes (begins m env) ∷ ss) ahead l x v n es h g = later_cross p plans t (walk_behind p plans z (goes (begins m env))) ss ahead l x v n es h.1 g
later_cross p plans t z (goes (done m) ∷ ss) ahead l x v n es h g = later_cross p plans t (walk_behind p plans z (goes (done m))) ss ahead l x v n es h.1 g
later_cross p plans t z (goes (edge m) ∷ ss) ahead l x v n es h g =
    let ih : suc (length z.passed) ≤ n = later_cross p plans t (walk_behind p plans z (goes (edge m))) ss ahead l x v n es h.1 g in
    omega arith
later_cross p plans t z (goes (enter f env) ∷ ss) ahead l x v n es h g =
    let ih : suc (length z.passed) ≤ n = later_cross p plans t (walk_behind p plans z (goes (enter f env))) ss ahead l x v n es h.1 g in
    omega arith
later_cross p plans t z (goes (out f) ∷ ss) ahead l x v n es h g = later_cross p plans t (walk_behind p plans z (goes (out f))) ss ahead l x v n es h.1 g
later_cross p plans t z (makes m o ∷ ss) ahead l x v n es h g =
    let first : entry_of_operation t m o ≡ entry_of_operation t l (cross x v n) = cc in
    let same : (m ≡ l) × (o ≡ cross x v n) = same_op t m l o (cross x v n) first in
    let P : Operation → Type 0 = λ q. MayStand p z (makes m q) (items ss ++ ahead) in
    counted (subst P same.1 h.0)
  where
    counted : MayCross p z (items ss ++ ahead) m x v n → length z.passed ≤ n
    counted c = let same : n ≡ length z.passed = c.passed in omega arith

goes_rest : (p : Source) (z : Walk) (i : Item) (rest : List Item) → MayStand p z (goes i) rest → z.owed ≡ []
goes_rest p z (made l begin) rest h = h.0
goes_rest p z (made l end) rest h = h
goes_rest p z (made l (trap c)) rest h = h
goes_rest p z (made l (read x v)) rest h = h
goes_rest p z (made l (write x v)) rest h = h
goes_rest p z (made l (lock m)) rest h = h
goes_rest p z (made l (unlock m)) rest h = h
goes_rest p z (made l (down x)) rest h = h
goes_rest p z (made l (up x)) rest h = h
goes_rest p z (made l (spawn c f vs)) rest h = h
goes_rest p z (made l (join c)) rest h = h
goes_rest p z (made l (print v)) rest h = h
goes_rest p z (begins l env) rest h = h
goes_rest p z (done l) rest h = h
goes_rest p z (edge l) rest h = h
goes_rest p z (enter f env) rest h = h
goes_rest p z (out f) rest h = h

owes_nothing : (os : Queue) (l : ℕ) (o : Operation) → os ≡ [] → Owes os l o → ⊥
owes_nothing [] l o none h = h
owes_nothing (x ∷ os) l o none h = cc

acts_first : (os : Queue) (is : List Item) (l : ℕ) (a : Act) (k : Kind) → Acts os is l a → Begins k is → k ≡ an_act
acts_first (o ∷ os) is l a k h b = absurd h
acts_first [] [] l a k h b = absurd h
acts_first [] (i ∷ is) l a k h b = sym b ∙ ap kind h

-- where an operation stands that isn't owed, an act comes next, or a place
cross_next : (z : Walk) (rest : List Item) (y : Place) → z.owed ≡ [] → place_of_next z z.owed rest ≡ Some y → place_of_item z rest ≡ Some y
cross_next z rest y none h = subst (λ os. place_of_next z os rest ≡ Some y) none h

asks_act : (z : Walk) (rest : List Item) (l : ℕ) (what : What) (k : Kind) → z.owed ≡ [] → AsksFor z rest l what → Begins k rest → k ≡ an_act
asks_act z rest l (w.Lock m) k none h b = acts_first z.owed rest l (lock m) k h b
asks_act z rest l (w.Down s) k none h b = acts_first z.owed rest l (down s) k h b
asks_act z rest l (w.Join c) k none h b = acts_first z.owed rest l (join c) k h b
asks_act z rest l (w.Enter f c) k none h b = absurd (owes_nothing z.owed l (enters f c) none h)
asks_act z rest l (w.Wait f n) k none h b = absurd (owes_nothing z.owed l (wait f n) none h)

-- an act is told at once
act_told : (t l m : ℕ) (a : Act) (o : Operation) (es fs : List Entry) → entry_by t l a ∷ es ≡ entry_of_operation t m o ∷ fs → ⊥
act_told t l m a o es fs g =
    let first : entry_by t l a ≡ entry_of_operation t m o = cc in
    act_is_no_op t l m a o first

no_split : (p : Source) (plans : Plans) (t : ℕ) (z : Walk) (i : Item) (ss : List PartStep) (ahead : List Item) (l : ℕ) (o : Operation) (rest : List Item) (es : List Entry)
    → AreWoven p plans z (goes i ∷ ss) ahead → MayStand p z (makes l o) rest → Begins (kind i) rest → filter_entries t (goes i ∷ ss) ≡ entry_of_operation t l o ∷ es → ⊥
no_split p plans t z i ss ahead l (wait k n) rest es h m b g = owes_nothing z.owed l (wait k n) (goes_rest p z i (items ss ++ ahead) h.0) m
no_split p plans t z i ss ahead l (enters k c) rest es h m b g = owes_nothing z.owed l (enters k c) (goes_rest p z i (items ss ++ ahead) h.0) m
no_split p plans t z i ss ahead l (at k ns) rest es h m b g = owes_nothing z.owed l (at k ns) (goes_rest p z i (items ss ++ ahead) h.0) m
no_split p plans t z i ss ahead l (past k ns) rest es h m b g = owes_nothing z.owed l (past k ns) (goes_rest p z i (items ss ++ ahead) h.0) m
no_split p plans t z i ss ahead l (post k n) rest es h m b g = owes_nothing z.owed l (post k n) (goes_rest p z i (items ss ++ ahead) h.0) m
no_split p plans t z i ss ahead l (leave k c) rest es h m b g = owes_nothing z.owed l (leave k c) (goes_rest p z i (items ss ++ ahead) h.0) m
no_split p plans t z i ss ahead l back rest es h m b g = owes_nothing z.owed l back (goes_rest p z i (items ss ++ ahead) h.0) m
no_split p plans t z i ss ahead l (tick x) rest es h m b g = owes_nothing z.owed l (tick x) (goes_rest p z i (items ss ++ ahead) h.0) m
no_split p plans t z (made k a) ss ahead l (cross x v n) rest es h m b g = act_told t k l a (cross x v n) (filter_entries t ss) es g
no_split p plans t z (begins k env) ss ahead l (cross x v n) rest es h m b g =
    let c : MayCross p z rest l x v n = m in no_place z rest c.place b (cross_next z rest c.place h.0 c.next)
no_split p plans t z (done k) ss ahead l (cross x v n) rest es h m b g =
    let c : MayCross p z rest l x v n = m in no_place z rest c.place b (cross_next z rest c.place h.0 c.next)
no_split p plans t z (out f) ss ahead l (cross x v n) rest es h m b g =
    let c : MayCross p z rest l x v n = m in no_place z rest c.place b (cross_next z rest c.place h.0 c.next)
no_split p plans t z (edge k) ss ahead l (cross x v n) rest es h m b g =
    let c : MayCross p z rest l x v n = m in
    let few : n ≡ length z.passed = c.passed in
    let many : suc (length z.passed) ≤ n = later_cross p plans t (walk_behind p plans z (goes (edge k))) ss ahead l x v n es h.1 g in
    omega arith
no_split p plans t z (enter f env) ss ahead l (cross x v n) rest es h m b g =
    let c : MayCross p z rest l x v n = m in
    let few : n ≡ length z.passed = c.passed in
    let many : suc (length z.passed) ≤ n = later_cross p plans t (walk_behind p plans z (goes (enter f env))) ss ahead l x v n es h.1 g in
    omega arith
no_split p plans t z (made k a) ss ahead l (blocked what) rest es h m b g = act_told t k l a (blocked what) (filter_entries t ss) es g
no_split p plans t z (begins k env) ss ahead l (blocked what) rest es h m b g =
    let c : MayBlock z rest l what = m in let no : a_mark ≡ an_act = asks_act z rest l what a_mark h.0 c.asks b in cc
no_split p plans t z (done k) ss ahead l (blocked what) rest es h m b g =
    let c : MayBlock z rest l what = m in let no : a_mark ≡ an_act = asks_act z rest l what a_mark h.0 c.asks b in cc
no_split p plans t z (out f) ss ahead l (blocked what) rest es h m b g =
    let c : MayBlock z rest l what = m in let no : a_mark ≡ an_act = asks_act z rest l what a_mark h.0 c.asks b in cc
no_split p plans t z (edge k) ss ahead l (blocked what) rest es h m b g =
    let c : MayBlock z rest l what = m in let no : a_place ≡ an_act = asks_act z rest l what a_place h.0 c.asks b in cc
no_split p plans t z (enter f env) ss ahead l (blocked what) rest es h m b g =
    let c : MayBlock z rest l what = m in let no : a_place ≡ an_act = asks_act z rest l what a_place h.0 c.asks b in cc

-- Two parts

-- what is left of the steps tells an entry, from each step on
abbrev pub AreMade : ℕ → List PartStep → Type 0
AreMade t [] = Unit {0}
AreMade t (s ∷ ss) = (filter_entries t (s ∷ ss) ≡ [] → ⊥) × AreMade t ss

agrees_right : (i : Item) (is js : List Item) (r s : Outcome) → Agree (i ∷ is) r js s → Begins (kind i) js
agrees_right i is [] r s h = tt
agrees_right i is (j ∷ js) r s h = sym (same_kind i j h.0)

agrees_left : (is js : List Item) (j : Item) (r s : Outcome) → Agree is r (j ∷ js) s → Begins (kind j) is
agrees_left [] js j r s h = tt
agrees_left (i ∷ is) js j r s h = same_kind i j h.0

pub one_way : (p : Source) (plans : Plans) (t : ℕ) (z : Walk) (ss us : List PartStep) (ahead above : List Item) (r s : Outcome) → AreWoven p plans z ss ahead
    → AreWoven p plans z us above → Agree (items ss ++ ahead) r (items us ++ above) s → filter_entries t ss ≡ filter_entries t us → AreMade t ss → AreMade t us → ss ≡ us
one_way p plans t z [] [] ahead above r s h k a g m n = refl
one_way p plans t z [] (u ∷ us) ahead above r s h k a g m n = absurd (n.0 (sym g))
one_way p plans t z (x ∷ ss) [] ahead above r s h k a g m n = absurd (m.0 g)
one_way p plans t z (goes i ∷ ss) (makes l o ∷ us) ahead above r s h k a g m n =
    absurd (no_split p plans t z i ss ahead l o (items us ++ above) (filter_entries t us) h k.0 (agrees_right i (items ss ++ ahead) (items us ++ above) r s a) g)
one_way p plans t z (makes l o ∷ ss) (goes j ∷ us) ahead above r s h k a g m n =
    absurd (no_split p plans t z j us above l o (items ss ++ ahead) (filter_entries t ss) k h.0 (agrees_left (items ss ++ ahead) (items us ++ above) j r s a) (sym g))
one_way p plans t z (goes i ∷ ss) (goes j ∷ us) ahead above r s h k a g m n =
    let same : (i ≡ j) × (filter_entries t ss ≡ filter_entries t us) = same_told t i j (filter_entries t ss) (filter_entries t us) a.0 g in
    let P : Item → Type 0 = λ y. AreWoven p plans (walk_behind p plans z (goes y)) us above in
    let ih : ss ≡ us = one_way p plans t (walk_behind p plans z (goes i)) ss us ahead above r s h.1 (subst P (sym same.0) k.1) (a.1 same.0) same.1 m.1 n.1 in
    ap (λ y. goes y ∷ ss) same.0 ∙ ap (λ ys. goes j ∷ ys) ih
one_way p plans t z (makes l o ∷ ss) (makes q u ∷ us) ahead above r s h k a g m n =
    let first : entry_of_operation t l o ≡ entry_of_operation t q u = cc in
    let others : filter_entries t ss ≡ filter_entries t us = cc in
    let same : (l ≡ q) × (o ≡ u) = same_op t l q o u first in
    let P : Operation → Type 0 = λ y. AreWoven p plans (walk_behind p plans z (makes q y)) us above in
    let ih : ss ≡ us = one_way p plans t (walk_behind p plans z (makes l o)) ss us ahead above r s h.1 (subst P (sym same.1) k.1) a others m.1 n.1 in
    ap (λ y. makes y o ∷ ss) same.0 ∙ (ap (λ y. makes q y ∷ ss) same.1 ∙ ap (λ ys. makes q u ∷ ys) ih)

-- the last step tells an entry

told_last : (t : ℕ) (ss : List PartStep) (s : PartStep) (y : Entry) → filter_entries t (s ∷ []) ≡ y ∷ [] → filter_entries t (ss ++ s ∷ []) ≡ [] → ⊥
told_last t [] s y h g =
    let no : y ∷ [] ≡ [] = sym h ∙ g in cc
told_last t (makes l o ∷ ss) s y h g = cc
told_last t (goes (made l a) ∷ ss) s y h g = cc
told_last t (goes (begins l env) ∷ ss) s y h g = told_last t ss s y h g
told_last t (goes (done l) ∷ ss) s y h g = told_last t ss s y h g
told_last t (goes (edge l) ∷ ss) s y h g = told_last t ss s y h g
told_last t (goes (enter f env) ∷ ss) s y h g = told_last t ss s y h g
told_last t (goes (out f) ∷ ss) s y h g = told_last t ss s y h g

pub made_up_to : (t : ℕ) (ss : List PartStep) (s : PartStep) (y : Entry) → filter_entries t (s ∷ []) ≡ y ∷ [] → AreMade t (ss ++ s ∷ [])
made_up_to t [] s y h = (told_last t [] s y h, tt)
made_up_to t (x ∷ ss) s y h = (told_last t (x ∷ ss) s y h, made_up_to t ss s y h)

ends_made : (x : Own) (steps : List PartStep) → EndsWithEntry x steps → AreMade x.thread steps
ends_made x steps h = subst (AreMade x.thread) (sym h.1.1.0) (made_up_to x.thread h.0 h.1.0 h.1.1.1.0 h.1.1.1.1)

pub one_part : HasOnePart
one_part p plans x a b m n =
    one_way p plans x.thread (unborn x.versions) a.steps b.steps a.ahead b.ahead a.outcome b.outcome a.woven b.woven
    (traces_agree p x.func x.args _ _ _ _ a.trace b.trace) (a.tells ∙ sym b.tells) (ends_made x a.steps m) (ends_made x b.steps n)

-- The steps up to the last entry, and the marks behind it

record Halves (t : ℕ) (ss : List PartStep) : Type 0 where
  before : List PartStep
  behind : List PartStep
  whole : ss ≡ before ++ behind
  made : AreMade t before
  marks : filter_entries t behind ≡ []

-- a step that tells an entry
told_half : (t : ℕ) (s : PartStep) (ss : List PartStep) (y : Entry) → ((us : List PartStep) → filter_entries t (s ∷ us) ≡ y ∷ filter_entries t us) → Halves t ss → Halves t (s ∷ ss)
told_half t s ss y tells h = record {
  before = s ∷ h.before;
  behind = h.behind;
  whole = ap (◌∷◌ s) h.whole;
  made = ((λ g. let no : y ∷ filter_entries t h.before ≡ [] = sym (tells h.before) ∙ g in cc), h.made);
  marks = h.marks;
}

-- a mark: it is made only where an entry is behind it
mark_half : (t : ℕ) (s : PartStep) (ss : List PartStep) → ((us : List PartStep) → filter_entries t (s ∷ us) ≡ filter_entries t us) → (h : Halves t ss) → (before : List PartStep) → h.before ≡ before → Halves t (s ∷ ss)
mark_half t s ss skips h [] none = record {
  before = [];
  behind = s ∷ h.behind;
  whole = ap (◌∷◌ s) (h.whole ∙ ap (λ us. us ++ h.behind) none);
  made = tt;
  marks = skips h.behind ∙ h.marks;
}
mark_half t s ss skips h (u ∷ us) some =
    let made : AreMade t (u ∷ us) = subst (AreMade t) some h.made in
    record {
      before = s ∷ (u ∷ us);
      behind = h.behind;
      whole = ap (◌∷◌ s) (h.whole ∙ ap (λ ws. ws ++ h.behind) some);
      made = ((λ g. made.0 (sym (skips (u ∷ us)) ∙ g)), made);
      marks = h.marks;
    }

halves : (t : ℕ) (ss : List PartStep) → Halves t ss
halves t [] = record { before = []; behind = []; whole = refl; made = tt; marks = refl }
halves t (makes l o ∷ ss) = told_half t (makes l o) ss (entry_of_operation t l o) (λ us. refl) (halves t ss)
halves t (goes (made l a) ∷ ss) = told_half t (goes (made l a)) ss (entry_by t l a) (λ us. refl) (halves t ss)
halves t (goes (begins l env) ∷ ss) = let h = halves t ss in mark_half t (goes (begins l env)) ss (λ us. refl) h h.before refl
halves t (goes (done l) ∷ ss) = let h = halves t ss in mark_half t (goes (done l)) ss (λ us. refl) h h.before refl
halves t (goes (edge l) ∷ ss) = let h = halves t ss in mark_half t (goes (edge l)) ss (λ us. refl) h h.before refl
halves t (goes (enter f env) ∷ ss) = let h = halves t ss in mark_half t (goes (enter f env)) ss (λ us. refl) h h.before refl
halves t (goes (out f) ∷ ss) = let h = halves t ss in mark_half t (goes (out f)) ss (λ us. refl) h h.before refl

append_assoc : {A : Type 0} (xs ys zs : List A) → (xs ++ ys) ++ zs ≡ xs ++ (ys ++ zs)
append_assoc [] ys zs = refl
append_assoc (x ∷ xs) ys zs = ap (◌∷◌ x) (append_assoc xs ys zs)

pub append_none : {A : Type 0} (xs : List A) → xs ++ [] ≡ xs
append_none [] = refl
append_none (x ∷ xs) = ap (◌∷◌ x) (append_none xs)

items_append : (us vs : List PartStep) → items (us ++ vs) ≡ items us ++ items vs
items_append [] vs = refl
items_append (goes i ∷ us) vs = ap (◌∷◌ i) (items_append us vs)
items_append (makes l o ∷ us) vs = items_append us vs

items_ahead : (us vs : List PartStep) (ahead : List Item) → items (us ++ vs) ++ ahead ≡ items us ++ (items vs ++ ahead)
items_ahead us vs ahead = ap (λ z. z ++ ahead) (items_append us vs) ∙ append_assoc (items us) (items vs) ahead

told_item_append : (t : ℕ) (i : Item) (es fs : List Entry) → told_item t i (es ++ fs) ≡ told_item t i es ++ fs
told_item_append t (made l a) es fs = refl
told_item_append t (begins l env) es fs = refl
told_item_append t (done l) es fs = refl
told_item_append t (edge l) es fs = refl
told_item_append t (enter f env) es fs = refl
told_item_append t (out f) es fs = refl

pub told_append : (t : ℕ) (us vs : List PartStep) → filter_entries t (us ++ vs) ≡ filter_entries t us ++ filter_entries t vs
told_append t [] vs = refl
told_append t (goes i ∷ us) vs = ap (told_item t i) (told_append t us vs) ∙ told_item_append t i (filter_entries t us) (filter_entries t vs)
told_append t (makes l o ∷ us) vs = ap (◌∷◌ (entry_of_operation t l o)) (told_append t us vs)

woven_front : (p : Source) (plans : Plans) (z : Walk) (us vs : List PartStep) (ahead : List Item) → AreWoven p plans z (us ++ vs) ahead → AreWoven p plans z us (items vs ++ ahead)
woven_front p plans z [] vs ahead h = tt
woven_front p plans z (u ∷ us) vs ahead h =
    (subst (MayStand p z u) (items_ahead us vs ahead) h.0, woven_front p plans (walk_behind p plans z u) us vs ahead h.1)

-- what is made of a part
half_told : (t : ℕ) (ss : List PartStep) (h : Halves t ss) → filter_entries t h.before ≡ filter_entries t ss
half_told t ss h = sym (ap (filter_entries t) h.whole ∙ (told_append t h.before h.behind ∙ (ap (λ es. filter_entries t h.before ++ es) h.marks ∙ append_none (filter_entries t h.before))))

pub one_made : HasOneMade
one_made p plans x a b =
    let t : ℕ = x.thread in
    let h : Halves t a.steps = halves t a.steps in
    let k : Halves t b.steps = halves t b.steps in
    let first : AreWoven p plans (unborn x.versions) h.before (items h.behind ++ a.ahead) =
    woven_front p plans (unborn x.versions) h.before h.behind a.ahead (subst (λ ss. AreWoven p plans (unborn x.versions) ss a.ahead) h.whole a.woven) in
    let second : AreWoven p plans (unborn x.versions) k.before (items k.behind ++ b.ahead) =
    woven_front p plans (unborn x.versions) k.before k.behind b.ahead (subst (λ ss. AreWoven p plans (unborn x.versions) ss b.ahead) k.whole b.woven) in
    let agree : Agree (items a.steps ++ a.ahead) a.outcome (items b.steps ++ b.ahead) b.outcome = traces_agree p x.func x.args _ _ _ _ a.trace b.trace in
    let left : items a.steps ++ a.ahead ≡ items h.before ++ (items h.behind ++ a.ahead) = ap (λ ss. items ss ++ a.ahead) h.whole ∙ items_ahead h.before h.behind a.ahead in
    let right : items b.steps ++ b.ahead ≡ items k.before ++ (items k.behind ++ b.ahead) = ap (λ ss. items ss ++ b.ahead) k.whole ∙ items_ahead k.before k.behind b.ahead in
    let agree' : Agree (items h.before ++ (items h.behind ++ a.ahead)) a.outcome (items k.before ++ (items k.behind ++ b.ahead)) b.outcome =
    subst (λ z. Agree (items h.before ++ (items h.behind ++ a.ahead)) a.outcome z b.outcome) right (subst (λ z. Agree z a.outcome (items b.steps ++ b.ahead) b.outcome) left agree) in
    let same : h.before ≡ k.before =
    one_way p plans t (unborn x.versions) h.before k.before (items h.behind ++ a.ahead) (items k.behind ++ b.ahead) a.outcome b.outcome first second agree'
    (half_told t a.steps h ∙ (a.tells ∙ (sym b.tells ∙ sym (half_told t b.steps k)))) h.made k.made in
    record {
      made = h.before;
      behind = h.behind;
      behind' = k.behind;
      first = h.whole;
      second = k.whole ∙ ap (λ ss. ss ++ k.behind) (sym same);
      marks = h.marks;
      marks' = k.marks;
    }

-- What stands before the last step

pub never_empty : {A : Type 0} (xs : List A) (x : A) → [] ≡ xs ++ x ∷ [] → ⊥
never_empty [] x h = cc
never_empty (y ∷ xs) x h = cc

pub same_front : {A : Type 0} (xs ys : List A) (x y : A) → xs ++ x ∷ [] ≡ ys ++ y ∷ [] → xs ≡ ys
same_front [] [] x y h = refl
same_front [] (z ∷ ys) x y h = let no : [] ≡ ys ++ y ∷ [] = cc in absurd (never_empty ys y no)
same_front (z ∷ xs) [] x y h = let no : [] ≡ xs ++ x ∷ [] = cc in absurd (never_empty xs x no)
same_front (z ∷ xs) (u ∷ ys) x y h =
    let first : z ≡ u = cc in
    let others : xs ++ x ∷ [] ≡ ys ++ y ∷ [] = cc in
    ap (λ v. v ∷ xs) first ∙ ap (◌∷◌ u) (same_front xs ys x y others)

pub one_move : HasOneMove
one_move p plans x before before' a b =
    same_front before before' a.last b.last
    (one_way p plans x.thread (unborn x.versions) (before ++ a.last ∷ []) (before' ++ b.last ∷ []) a.ahead b.ahead a.outcome b.outcome a.woven b.woven
    (traces_agree p x.func x.args _ _ _ _ a.trace b.trace) (a.tells ∙ sym b.tells)
    (made_up_to x.thread before a.last a.entry a.is) (made_up_to x.thread before' b.last b.entry b.is))
