-- A thread that waits for the end of another one makes that join next, but for newer versions: no trap and no tick stands there.
use Rattle.std.proofs.Common.{ℕ, ◌≡◌, Bool, true, false, List, [], ◌∷◌, ◌++◌, refl, sym, ap, subst, ◌∙◌}
use Rattle.loom_tree.specs.Tree.{Source}
use Rattle.loom_lang.specs.Trace.{Act, begin, end, trap, read, write, lock, unlock, down, up, spawn, join, print, Item, made, begins, done, edge, enter, out}
use Rattle.loom_trace.specs.declared.entry.Entry.{Entry}
use Rattle.loom_trace.specs.declared.entry.Entry.TheVariants as e
use Rattle.loom_trace.specs.declared.entry.What.TheVariants as w
use Rattle.loom_event.specs.TargetEvent.{TargetEvent, entry_by}
use Rattle.loom_law.specs.Walk.{Version, Plans, wait, enters, at, past, post, leave, back, tick, cross, blocked, Queue, PartStep, goes, makes, items, filter_entries, Walk, unborn, owed_behind_cross, crossing, walk_behind, walk_from, Owes, Acts, MayBlock, AreWoven}
use Rattle.loom_law.specs.ThreadPart.{Own, with_entry, AsksToMake}
use Rattle.loom_law.specs.Control.{entries_of}
use Rattle.loom_law.specs.Lawful.{Setting, plans}
use Rattle.loom_law.specs.Laws.{own_with, MayTurn}
use Rattle.loom_law.proofs.OnePart.{told_append, same_front}
use Rattle.loom_law.proofs.Earlier.{woven_front}
use Rattle.loom_law.proofs.Turns.{stands_there}
use Rattle.loom_law.proofs.Makings.{OpPart, cut_part}
use Rattle.loom_strand.specs.Life.{awaits_behind, awaits_from, awaits_end}

-- Nothing is owed, and a join comes next.
record JoinsNext (z : Walk) (rest : List Item) : Type 0 where
  line : ℕ
  child : ℕ
  behind : List Item
  owed : z.owed ≡ []
  next : rest ≡ made line (join child) ∷ behind

acts_next : (z : Walk) (os : Queue) (rest : List Item) (l c : ℕ) → z.owed ≡ os → Acts os rest l (join c) → JoinsNext z rest
acts_next z (o ∷ os) rest l c is h = absurd h
acts_next z [] [] l c is h = absurd h
acts_next z [] (i ∷ rest) l c is h = record { line = l; child = c; behind = rest; owed = is; next = ap (λ j. j ∷ rest) h }

-- A newer version lets nothing be owed.
crossing_owed : (p : Source) (ps : Plans) (z : Walk) (vs : List Version) → z.owed ≡ [] → Walk.owed (crossing p ps z vs) ≡ []
crossing_owed p ps z [] h = h
crossing_owed p ps z (v ∷ vs) h = ap (owed_behind_cross p ps z.spot z.active v.active) h

act_awaits : (t l : ℕ) (a : Act) (b : Bool) → awaits_behind b (entry_by t l a) ≡ false
act_awaits t l begin b = refl
act_awaits t l end b = refl
act_awaits t l (trap c) b = refl
act_awaits t l (read x v) b = refl
act_awaits t l (write x v) b = refl
act_awaits t l (lock m) b = refl
act_awaits t l (unlock m) b = refl
act_awaits t l (down m) b = refl
act_awaits t l (up m) b = refl
act_awaits t l (spawn c f vs) b = refl
act_awaits t l (join c) b = refl
act_awaits t l (print v) b = refl

never : {P : Type 0} → false ≡ true → P
never h = cc

-- While it waits no mark stands next.
no_mark : (z : Walk) (i : Item) (rest : List Item) → ((l c : ℕ) → i ≡ made l (join c) → ⊥) → (b : Bool) → (b ≡ true → JoinsNext z (i ∷ rest)) → (P : Type 0) → b ≡ true → P
no_mark z i rest never_made b h P is = let n = h is in absurd (never_made n.line n.child (let same : i ≡ made n.line (join n.child) = cc (n.next) in same))

joins_along : (p : Source) (ps : Plans) (t : ℕ) (z : Walk) (ss : List PartStep) (ahead : List Item) (b : Bool) → AreWoven p ps z ss ahead
    → (b ≡ true → JoinsNext z (items ss ++ ahead)) → awaits_from b (filter_entries t ss) ≡ true → JoinsNext (walk_from p ps z ss) ahead
joins_along p ps t z [] ahead b woven h waits = h waits
joins_along p ps t z (goes (made l a) ∷ ss) ahead b woven h waits =
    joins_along p ps t (walk_behind p ps z (goes (made l a))) ss ahead false woven.1 (λ is. never is) (subst (λ c. awaits_from c (filter_entries t ss) ≡ true) (act_awaits t l a b) waits)
joins_along p ps t z (goes (begins l env) ∷ ss) ahead b woven h waits =
    joins_along p ps t (walk_behind p ps z (goes (begins l env))) ss ahead b woven.1 (λ is. no_mark z (begins l env) (items ss ++ ahead) (λ m c g. cc) b h _ is) waits
joins_along p ps t z (goes (done l) ∷ ss) ahead b woven h waits =
    joins_along p ps t (walk_behind p ps z (goes (done l))) ss ahead b woven.1 (λ is. no_mark z (done l) (items ss ++ ahead) (λ m c g. cc) b h _ is) waits
joins_along p ps t z (goes (edge l) ∷ ss) ahead b woven h waits =
    joins_along p ps t (walk_behind p ps z (goes (edge l))) ss ahead b woven.1 (λ is. no_mark z (edge l) (items ss ++ ahead) (λ m c g. cc) b h _ is) waits
joins_along p ps t z (goes (enter f env) ∷ ss) ahead b woven h waits =
    joins_along p ps t (walk_behind p ps z (goes (enter f env))) ss ahead b woven.1 (λ is. no_mark z (enter f env) (items ss ++ ahead) (λ m c g. cc) b h _ is) waits
joins_along p ps t z (goes (out f) ∷ ss) ahead b woven h waits =
    joins_along p ps t (walk_behind p ps z (goes (out f))) ss ahead b woven.1 (λ is. no_mark z (out f) (items ss ++ ahead) (λ m c g. cc) b h _ is) waits
joins_along p ps t z (makes l (cross x v n) ∷ ss) ahead b woven h waits =
    joins_along p ps t (walk_behind p ps z (makes l (cross x v n))) ss ahead b woven.1
    (λ is. (let n = h is in record { line = n.line; child = n.child; behind = n.behind; owed = crossing_owed p ps z z.coming n.owed; next = n.next })) waits
joins_along p ps t z (makes l (blocked (w.Join c)) ∷ ss) ahead b woven h waits =
    let may : MayBlock z (items ss ++ ahead) l (w.Join c) = woven.0 in
    joins_along p ps t (walk_behind p ps z (makes l (blocked (w.Join c)))) ss ahead true woven.1
    (λ is. (let n = acts_next z z.owed (items ss ++ ahead) l c refl may.asks in record { line = n.line; child = n.child; behind = n.behind; owed = n.owed; next = n.next })) waits
joins_along p ps t z (makes l (blocked (w.Lock m)) ∷ ss) ahead b woven h waits = joins_along p ps t (walk_behind p ps z (makes l (blocked (w.Lock m)))) ss ahead false woven.1 (λ is. never is) waits
joins_along p ps t z (makes l (blocked (w.Down m)) ∷ ss) ahead b woven h waits = joins_along p ps t (walk_behind p ps z (makes l (blocked (w.Down m)))) ss ahead false woven.1 (λ is. never is) waits
joins_along p ps t z (makes l (blocked (w.Enter k c)) ∷ ss) ahead b woven h waits = joins_along p ps t (walk_behind p ps z (makes l (blocked (w.Enter k c)))) ss ahead false woven.1 (λ is. never is) waits
joins_along p ps t z (makes l (blocked (w.Wait k n)) ∷ ss) ahead b woven h waits = joins_along p ps t (walk_behind p ps z (makes l (blocked (w.Wait k n)))) ss ahead false woven.1 (λ is. never is) waits
joins_along p ps t z (makes l (wait k n) ∷ ss) ahead b woven h waits = joins_along p ps t (walk_behind p ps z (makes l (wait k n))) ss ahead false woven.1 (λ is. never is) waits
joins_along p ps t z (makes l (enters k c) ∷ ss) ahead b woven h waits = joins_along p ps t (walk_behind p ps z (makes l (enters k c))) ss ahead false woven.1 (λ is. never is) waits
joins_along p ps t z (makes l (at k ns) ∷ ss) ahead b woven h waits = joins_along p ps t (walk_behind p ps z (makes l (at k ns))) ss ahead false woven.1 (λ is. never is) waits
joins_along p ps t z (makes l (past k ns) ∷ ss) ahead b woven h waits = joins_along p ps t (walk_behind p ps z (makes l (past k ns))) ss ahead false woven.1 (λ is. never is) waits
joins_along p ps t z (makes l (post k n) ∷ ss) ahead b woven h waits = joins_along p ps t (walk_behind p ps z (makes l (post k n))) ss ahead false woven.1 (λ is. never is) waits
joins_along p ps t z (makes l (leave k c) ∷ ss) ahead b woven h waits = joins_along p ps t (walk_behind p ps z (makes l (leave k c))) ss ahead false woven.1 (λ is. never is) waits
joins_along p ps t z (makes l back ∷ ss) ahead b woven h waits = joins_along p ps t (walk_behind p ps z (makes l back)) ss ahead false woven.1 (λ is. never is) waits
joins_along p ps t z (makes l (tick x) ∷ ss) ahead b woven h waits = joins_along p ps t (walk_behind p ps z (makes l (tick x))) ss ahead false woven.1 (λ is. never is) waits

-- the act is a join
pub record IsJoin (a : Act) : Type 0 where
  pub child : ℕ
  pub is : a ≡ join child

-- The act that it makes next is that join.
pub turn_joins : (s : Setting) (es : List Entry) (xs : List TargetEvent) (t l : ℕ) (a : Act) → MayTurn s es xs t (entry_by t l a) (goes (made l a)) → awaits_end (entries_of t es) ≡ true → IsJoin a
turn_joins s es xs t l a m waits =
    let x : Own = own_with s es t m.state (entry_by t l a) in
    let last : List PartStep = goes (made l a) ∷ [] in
    let woven : AreWoven s.program (plans s) (unborn x.versions) (m.before ++ last) m.part.ahead =
    subst (λ ss. AreWoven s.program (plans s) (unborn x.versions) ss m.part.ahead) m.last m.part.woven in
    let front : AreWoven s.program (plans s) (unborn x.versions) m.before (made l a ∷ m.part.ahead) = woven_front s.program (plans s) (unborn x.versions) m.before last m.part.ahead woven in
    let told : filter_entries t m.before ++ entry_by t l a ∷ [] ≡ entries_of t es ++ entry_by t l a ∷ [] =
    sym (told_append t m.before last) ∙ (sym (ap (filter_entries t) m.last) ∙ m.part.tells) in
    let same : filter_entries t m.before ≡ entries_of t es = same_front (filter_entries t m.before) (entries_of t es) (entry_by t l a) (entry_by t l a) told in
    let n = joins_along s.program (plans s) t (unborn x.versions) m.before (made l a ∷ m.part.ahead) false front (λ is. never is) (ap awaits_end same ∙ waits) in
    let first : made l a ≡ made n.line (join n.child) = cc (n.next) in
    record { child = n.child; is = let act : a ≡ join n.child = cc (first) in act }

-- It owes no tick there.
pub no_tick : (p : Source) (ps : Plans) (x : Own) (l k : ℕ) → AsksToMake p ps x l (tick k) → awaits_end x.entries ≡ true → ⊥
no_tick p ps x l k h waits =
    let t : ℕ = x.thread in
    let z : Walk = unborn x.versions in
    let o : OpPart p ps (with_entry x (e.Tick t l k)) l (tick k) = cut_part p ps (with_entry x (e.Tick t l k)) x.entries l (tick k) refl h in
    let last : List PartStep = makes l (tick k) ∷ [] in
    let woven : AreWoven p ps z (o.before ++ last) o.part.ahead = subst (λ ss. AreWoven p ps z ss o.part.ahead) o.last o.part.woven in
    let owes : Owes (walk_from p ps z o.before).owed l (tick k) = stands_there p ps z o.before (makes l (tick k)) [] o.part.ahead woven in
    let told : filter_entries t o.before ++ e.Tick t l k ∷ [] ≡ x.entries ++ e.Tick t l k ∷ [] =
    sym (told_append t o.before last) ∙ (sym (ap (filter_entries t) o.last) ∙ o.part.tells) in
    let same : filter_entries t o.before ≡ x.entries = same_front (filter_entries t o.before) x.entries (e.Tick t l k) (e.Tick t l k) told in
    let n = joins_along p ps t z o.before o.part.ahead false (woven_front p ps z o.before last o.part.ahead woven) (λ is. never is) (ap awaits_end same ∙ waits) in
    subst (λ os. Owes os l (tick k)) n.owed owes
