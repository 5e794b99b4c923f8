-- What a thread asks for gives one more entry of a lawful journal.
use Rattle.std.proofs.Common.{ℕ, ◌≡◌, inl, inr, false, List, [], ◌∷◌, ◌++◌, ℤ, pos, length, take, drop, Option, Some, None, refl, sym, ap, subst, ◌∙◌}
use Rattle.std.proofs.lemmas.List.{take-append-drop}
use Rattle.loom_tree.specs.Tree.{Source}
use Rattle.loom_trace.specs.declared.entry.Entry.{Entry}
use Rattle.loom_trace.specs.declared.entry.Entry.TheVariants as e
use Rattle.loom_trace.specs.declared.entry.What.{What}
use Rattle.loom_trace.specs.declared.entry.What.TheVariants as w
use Rattle.loom_trace.specs.declared.request.Request.{Request}
use Rattle.loom_lang.specs.Places.{Place}
use Rattle.loom_lang.specs.Trace.{division, index, not_held, not_spawned, threads, frames, overflow, Act, begin, end, trap, read, write, lock, unlock, down, up, spawn, join, print, Item, made, begins, done, edge, enter, out, Open, IsTrace}
use Rattle.loom_lang.specs.Acts.{Deed, AnswerTheSame}
use Rattle.loom_lang.specs.Alike.{AreAlike}
use Rattle.loom_lang.proofs.NextItem.{one_next_item}
use Rattle.loom_event.specs.Answer.{trap_deed, IsAnswered}
use Rattle.loom_event.specs.TargetEvent.{event_of_deed, entry_by, targets}
use Rattle.loom_event.specs.Entries.{thread_of, is_thread}
use Rattle.loom_event.specs.Replay.{ThreadState, start, thread_at, replay, IsAllowed}
use Rattle.loom_law.specs.Walk.{Version, Plans, wait, enters, at, past, post, leave, back, tick, cross, blocked, Queue, PartStep, goes, makes, items, filter_entries, Walk, unborn, behind_entry, crossing, walk_behind, walk_from, request_place, place_of_item, place_of_next, Acts, AsksFor, MayCross, MayBlock, MayStand, AreWoven}
use Rattle.loom_law.specs.ThreadPart.{Own, IsPart, KeepsAway, AsksToAct, GoesOn}
use Rattle.loom_law.specs.Control.{Control, control, versions_of, entries_of}
use Rattle.loom_law.specs.Lawful.{Setting, Front, front_of, plans, own, IsFlagged, is_cross, IsLawful, MayFollow, Permits}
use Rattle.loom_law.specs.Laws.{with_newest}
use Rattle.loom_law.specs.TurnLaws.{HasAnswers, HasAnswerTurns}
use Rattle.loom_law.proofs.OnePart.{told_append}
use Rattle.loom_law.proofs.Earlier.{items_ahead, to_take, an_own, stays, by_test, if_true, if_false, IsOf}
use Rattle.loom_law.proofs.Lawful.{event_turns}

-- A walk with more versions to take than it takes

place_same : (z : Walk) (vs us : List Version) (os : Queue) (is : List Item) (y : Place) → place_of_next (to_take z vs) os is ≡ Some y → place_of_next (to_take z us) os is ≡ Some y
place_same z vs us (o ∷ os) is y h = h
place_same z vs us [] [] y h = h
place_same z vs us [] (made l begin ∷ is) y h = h
place_same z vs us [] (made l end ∷ is) y h = h
place_same z vs us [] (made l (trap c) ∷ is) y h = h
place_same z vs us [] (made l (read x v) ∷ is) y h = h
place_same z vs us [] (made l (write x v) ∷ is) y h = h
place_same z vs us [] (made l (lock x) ∷ is) y h = h
place_same z vs us [] (made l (unlock x) ∷ is) y h = h
place_same z vs us [] (made l (down x) ∷ is) y h = h
place_same z vs us [] (made l (up x) ∷ is) y h = h
place_same z vs us [] (made l (spawn c f ws) ∷ is) y h = h
place_same z vs us [] (made l (join c) ∷ is) y h = h
place_same z vs us [] (made l (print v) ∷ is) y h = h
place_same z vs us [] (begins l env ∷ is) y h = h
place_same z vs us [] (done l ∷ is) y h = h
place_same z vs us [] (edge l ∷ is) y h = h
place_same z vs us [] (enter f env ∷ is) y h = h
place_same z vs us [] (out f ∷ is) y h = h

asks_same : (z : Walk) (vs us : List Version) (is : List Item) (l : ℕ) (what : What) → AsksFor (to_take z vs) is l what → AsksFor (to_take z us) is l what
asks_same z vs us is l (w.Lock m) h = h
asks_same z vs us is l (w.Down m) h = h
asks_same z vs us is l (w.Join c) h = h
asks_same z vs us is l (w.Enter k c) h = h
asks_same z vs us is l (w.Wait k n) h = h

-- the same steps, with `us` still to take behind them
abbrev pub HasMore : Source → Plans → Walk → List Version → List Version → List PartStep → List Item → Type 0
HasMore p plans z vs us ss ahead =
    AreWoven p plans (to_take z (vs ++ us)) ss ahead
    × (walk_from p plans (to_take z (vs ++ us)) ss ≡ to_take (walk_from p plans (to_take z vs) ss) (Walk.coming (walk_from p plans (to_take z vs) ss) ++ us))

pub more : (p : Source) (plans : Plans) (z : Walk) (vs us : List Version) (ss : List PartStep) (ahead : List Item) → AreWoven p plans (to_take z vs) ss ahead → HasMore p plans z vs us ss ahead
more p plans z vs us [] ahead h = (tt, refl)
more p plans z [] us (goes (made l begin) ∷ ss) ahead h = absurd h.0.1
more p plans z (v ∷ vs) us (goes (made l begin) ∷ ss) ahead h =
    let ih = more p plans (record (behind_entry z) { active = v.active }) vs us ss ahead h.1 in (((h.0.0, tt), ih.0), ih.1)
more p plans z vs us (goes (made l end) ∷ ss) ahead h =
    let ih = more p plans (walk_behind p plans z (goes (made l end))) vs us ss ahead h.1 in ((h.0, ih.0), ih.1)
more p plans z vs us (goes (made l (trap c)) ∷ ss) ahead h =
    let ih = more p plans (walk_behind p plans z (goes (made l (trap c)))) vs us ss ahead h.1 in ((h.0, ih.0), ih.1)
more p plans z vs us (goes (made l (read x v)) ∷ ss) ahead h =
    let ih = more p plans (walk_behind p plans z (goes (made l (read x v)))) vs us ss ahead h.1 in ((h.0, ih.0), ih.1)
more p plans z vs us (goes (made l (write x v)) ∷ ss) ahead h =
    let ih = more p plans (walk_behind p plans z (goes (made l (write x v)))) vs us ss ahead h.1 in ((h.0, ih.0), ih.1)
more p plans z vs us (goes (made l (lock x)) ∷ ss) ahead h =
    let ih = more p plans (walk_behind p plans z (goes (made l (lock x)))) vs us ss ahead h.1 in ((h.0, ih.0), ih.1)
more p plans z vs us (goes (made l (unlock x)) ∷ ss) ahead h =
    let ih = more p plans (walk_behind p plans z (goes (made l (unlock x)))) vs us ss ahead h.1 in ((h.0, ih.0), ih.1)
more p plans z vs us (goes (made l (down x)) ∷ ss) ahead h =
    let ih = more p plans (walk_behind p plans z (goes (made l (down x)))) vs us ss ahead h.1 in ((h.0, ih.0), ih.1)
more p plans z vs us (goes (made l (up x)) ∷ ss) ahead h =
    let ih = more p plans (walk_behind p plans z (goes (made l (up x)))) vs us ss ahead h.1 in ((h.0, ih.0), ih.1)
more p plans z vs us (goes (made l (spawn c f ws)) ∷ ss) ahead h =
    let ih = more p plans (walk_behind p plans z (goes (made l (spawn c f ws)))) vs us ss ahead h.1 in ((h.0, ih.0), ih.1)
more p plans z vs us (goes (made l (join c)) ∷ ss) ahead h =
    let ih = more p plans (walk_behind p plans z (goes (made l (join c)))) vs us ss ahead h.1 in ((h.0, ih.0), ih.1)
more p plans z vs us (goes (made l (print v)) ∷ ss) ahead h =
    let ih = more p plans (walk_behind p plans z (goes (made l (print v)))) vs us ss ahead h.1 in ((h.0, ih.0), ih.1)
more p plans z vs us (goes (begins l env) ∷ ss) ahead h =
    let ih = more p plans (walk_behind p plans z (goes (begins l env))) vs us ss ahead h.1 in ((h.0, ih.0), ih.1)
more p plans z vs us (goes (done l) ∷ ss) ahead h =
    let ih = more p plans (walk_behind p plans z (goes (done l))) vs us ss ahead h.1 in ((h.0, ih.0), ih.1)
more p plans z vs us (goes (edge l) ∷ ss) ahead h =
    let ih = more p plans (walk_behind p plans z (goes (edge l))) vs us ss ahead h.1 in ((h.0, ih.0), ih.1)
more p plans z vs us (goes (enter f env) ∷ ss) ahead h =
    let ih = more p plans (walk_behind p plans z (goes (enter f env))) vs us ss ahead h.1 in ((h.0, ih.0), ih.1)
more p plans z vs us (goes (out f) ∷ ss) ahead h =
    let ih = more p plans (walk_behind p plans z (goes (out f))) vs us ss ahead h.1 in ((h.0, ih.0), ih.1)
more p plans z vs us (makes l (wait k n) ∷ ss) ahead h =
    let ih = more p plans (walk_behind p plans z (makes l (wait k n))) vs us ss ahead h.1 in ((h.0, ih.0), ih.1)
more p plans z vs us (makes l (enters k c) ∷ ss) ahead h =
    let ih = more p plans (walk_behind p plans z (makes l (enters k c))) vs us ss ahead h.1 in ((h.0, ih.0), ih.1)
more p plans z vs us (makes l (at k ns) ∷ ss) ahead h =
    let ih = more p plans (walk_behind p plans z (makes l (at k ns))) vs us ss ahead h.1 in ((h.0, ih.0), ih.1)
more p plans z vs us (makes l (past k ns) ∷ ss) ahead h =
    let ih = more p plans (walk_behind p plans z (makes l (past k ns))) vs us ss ahead h.1 in ((h.0, ih.0), ih.1)
more p plans z vs us (makes l (post k n) ∷ ss) ahead h =
    let ih = more p plans (walk_behind p plans z (makes l (post k n))) vs us ss ahead h.1 in ((h.0, ih.0), ih.1)
more p plans z vs us (makes l (leave k c) ∷ ss) ahead h =
    let ih = more p plans (walk_behind p plans z (makes l (leave k c))) vs us ss ahead h.1 in ((h.0, ih.0), ih.1)
more p plans z vs us (makes l back ∷ ss) ahead h =
    let ih = more p plans (walk_behind p plans z (makes l back)) vs us ss ahead h.1 in ((h.0, ih.0), ih.1)
more p plans z vs us (makes l (tick x) ∷ ss) ahead h =
    let ih = more p plans (walk_behind p plans z (makes l (tick x))) vs us ss ahead h.1 in ((h.0, ih.0), ih.1)
more p plans z [] us (makes l (cross x m k) ∷ ss) ahead h =
    let c : MayCross p (to_take z []) (items ss ++ ahead) l x m k = h.0 in
    let no : None ≡ Some m = c.version in cc
more p plans z (v ∷ vs) us (makes l (cross x m k) ∷ ss) ahead h =
    let ih = more p plans (crossing p plans z (v ∷ [])) vs us ss ahead h.1 in
    let c : MayCross p (to_take z (v ∷ vs)) (items ss ++ ahead) l x m k = h.0 in
    let d : MayCross p (to_take z ((v ∷ vs) ++ us)) (items ss ++ ahead) l x m k = record {
      place = c.place;
      next = place_same z (v ∷ vs) ((v ∷ vs) ++ us) z.owed (items ss ++ ahead) c.place c.next;
      number = c.number;
      line = c.line;
      version = c.version;
      passed = c.passed;
    } in
    ((d, ih.0), ih.1)
more p plans z vs us (makes l (blocked what) ∷ ss) ahead h =
    let ih = more p plans (walk_behind p plans z (makes l (blocked what))) vs us ss ahead h.1 in
    let c : MayBlock (to_take z vs) (items ss ++ ahead) l what = h.0 in
    let d : MayBlock (to_take z (vs ++ us)) (items ss ++ ahead) l what =
    record { asks = asks_same z vs (vs ++ us) (items ss ++ ahead) l what c.asks; not_yet = c.not_yet } in
    ((d, ih.0), ih.1)

-- Another act that answers the same

-- the steps don't say that the thread is blocked at a `join` in whose place this is a trap
abbrev pub IsFree : List PartStep → Act → Type 0
IsFree ss a = (before : List PartStep) (l c : ℕ) (behind : List PartStep) → ss ≡ before ++ makes l (blocked (w.Join c)) ∷ behind → a ≡ trap (not_spawned (pos c)) → ⊥

free_behind : (s : PartStep) (ss : List PartStep) (a : Act) → IsFree (s ∷ ss) a → IsFree ss a
free_behind s ss a h before l c behind is trap_deed = h (s ∷ before) l c behind (ap (◌∷◌ s) is) trap_deed

join_same : (c : ℕ) (a : Act) → AnswerTheSame (join c) a → (a ≡ trap (not_spawned (pos c)) → ⊥) → join c ≡ a
join_same c begin h free = h
join_same c end h free = h
join_same c (trap division) h free = h
join_same c (trap index) h free = h
join_same c (trap (not_held m)) h free = h
join_same c (trap (not_spawned v)) h free = absurd (free (ap (λ u. trap (not_spawned u)) h))
join_same c (trap threads) h free = h
join_same c (trap frames) h free = h
join_same c (trap (overflow s)) h free = h
join_same c (read x v) h free = h
join_same c (write x v) h free = h
join_same c (lock m) h free = h
join_same c (unlock m) h free = h
join_same c (down m) h free = h
join_same c (up m) h free = h
join_same c (spawn d f vs) h free = h
join_same c (join d) h free = h
join_same c (print v) h free = h

act_same : (os : Queue) (m l : ℕ) (b a x : Act) → AnswerTheSame b a → (b ≡ x → x ≡ a) → Acts os (made m b ∷ []) l x → Acts os (made m a ∷ []) l x
act_same (o ∷ os) m l b a x like same h = h
act_same [] m l b a x like same h =
    let line : m ≡ l = cc in
    let act : b ≡ x = cc in
    ap (λ y. made m y) (sym (same act)) ∙ ap (λ n. made n x) line

asked_same : (z : Walk) (m l : ℕ) (b a : Act) (what : What) → AnswerTheSame b a → ((c : ℕ) → what ≡ w.Join c → a ≡ trap (not_spawned (pos c)) → ⊥)
    → AsksFor z (made m b ∷ []) l what → AsksFor z (made m a ∷ []) l what
asked_same z m l b a (w.Lock x) like free h = act_same z.owed m l b a (lock x) like (λ e. subst (λ y. AnswerTheSame y a) e like) h
asked_same z m l b a (w.Down x) like free h = act_same z.owed m l b a (down x) like (λ e. subst (λ y. AnswerTheSame y a) e like) h
asked_same z m l b a (w.Join c) like free h = act_same z.owed m l b a (join c) like (λ e. join_same c a (subst (λ y. AnswerTheSame y a) e like) (free c refl)) h
asked_same z m l b a (w.Enter k c) like free h = h
asked_same z m l b a (w.Wait k n) like free h = h

begin_like : (b : Act) → AnswerTheSame b begin → b ≡ begin
begin_like begin h = h
begin_like end h = h
begin_like (trap division) h = h
begin_like (trap index) h = h
begin_like (trap (not_held n)) h = h
begin_like (trap (not_spawned v)) h = h
begin_like (trap threads) h = h
begin_like (trap frames) h = h
begin_like (trap (overflow n)) h = h
begin_like (read x v) h = h
begin_like (write x v) h = h
begin_like (lock x) h = h
begin_like (unlock x) h = h
begin_like (down x) h = h
begin_like (up x) h = h
begin_like (spawn c f ws) h = h
begin_like (join c) h = h
begin_like (print v) h = h

-- the place of what comes next doesn't tell one act from another, but for a begin
other_place : (z : Walk) (m : ℕ) (a : Act) → (a ≡ begin → ⊥) → place_of_item z (made m a ∷ []) ≡ Some (request_place z)
other_place z m begin h = absurd (h refl)
other_place z m end h = refl
other_place z m (trap c) h = refl
other_place z m (read x v) h = refl
other_place z m (write x v) h = refl
other_place z m (lock x) h = refl
other_place z m (unlock x) h = refl
other_place z m (down x) h = refl
other_place z m (up x) h = refl
other_place z m (spawn c f ws) h = refl
other_place z m (join c) h = refl
other_place z m (print v) h = refl

act_place : (z : Walk) (m : ℕ) (b a : Act) (y : Place) → AnswerTheSame b a → place_of_item z (made m b ∷ []) ≡ Some y → place_of_item z (made m a ∷ []) ≡ Some y
act_place z m begin a y like h = cc
act_place z m end a y like h = other_place z m a (λ g. let no : end ≡ begin = begin_like end (subst (AnswerTheSame end) g like) in cc) ∙ h
act_place z m (trap c) a y like h = other_place z m a (λ g. let no : (trap c) ≡ begin = begin_like (trap c) (subst (AnswerTheSame (trap c)) g like) in cc) ∙ h
act_place z m (read x v) a y like h = other_place z m a (λ g. let no : (read x v) ≡ begin = begin_like (read x v) (subst (AnswerTheSame (read x v)) g like) in cc) ∙ h
act_place z m (write x v) a y like h = other_place z m a (λ g. let no : (write x v) ≡ begin = begin_like (write x v) (subst (AnswerTheSame (write x v)) g like) in cc) ∙ h
act_place z m (lock x) a y like h = other_place z m a (λ g. let no : (lock x) ≡ begin = begin_like (lock x) (subst (AnswerTheSame (lock x)) g like) in cc) ∙ h
act_place z m (unlock x) a y like h = other_place z m a (λ g. let no : (unlock x) ≡ begin = begin_like (unlock x) (subst (AnswerTheSame (unlock x)) g like) in cc) ∙ h
act_place z m (down x) a y like h = other_place z m a (λ g. let no : (down x) ≡ begin = begin_like (down x) (subst (AnswerTheSame (down x)) g like) in cc) ∙ h
act_place z m (up x) a y like h = other_place z m a (λ g. let no : (up x) ≡ begin = begin_like (up x) (subst (AnswerTheSame (up x)) g like) in cc) ∙ h
act_place z m (spawn c f ws) a y like h = other_place z m a (λ g. let no : (spawn c f ws) ≡ begin = begin_like (spawn c f ws) (subst (AnswerTheSame (spawn c f ws)) g like) in cc) ∙ h
act_place z m (join c) a y like h = other_place z m a (λ g. let no : (join c) ≡ begin = begin_like (join c) (subst (AnswerTheSame (join c)) g like) in cc) ∙ h
act_place z m (print v) a y like h = other_place z m a (λ g. let no : (print v) ≡ begin = begin_like (print v) (subst (AnswerTheSame (print v)) g like) in cc) ∙ h

head_place : (z : Walk) (i : Item) (is js : List Item) (y : Place) → place_of_item z (i ∷ is) ≡ Some y → place_of_item z (i ∷ js) ≡ Some y
head_place z (made l begin) is js y h = h
head_place z (made l end) is js y h = h
head_place z (made l (trap c)) is js y h = h
head_place z (made l (read x v)) is js y h = h
head_place z (made l (write x v)) is js y h = h
head_place z (made l (lock x)) is js y h = h
head_place z (made l (unlock x)) is js y h = h
head_place z (made l (down x)) is js y h = h
head_place z (made l (up x)) is js y h = h
head_place z (made l (spawn c f ws)) is js y h = h
head_place z (made l (join c)) is js y h = h
head_place z (made l (print v)) is js y h = h
head_place z (begins l env) is js y h = h
head_place z (done l) is js y h = h
head_place z (edge l) is js y h = h
head_place z (enter f env) is js y h = h
head_place z (out f) is js y h = h

place_ahead : (z : Walk) (os : Queue) (is : List Item) (m : ℕ) (b a : Act) (y : Place) → AnswerTheSame b a → place_of_next z os (is ++ made m b ∷ []) ≡ Some y
    → place_of_next z os (is ++ made m a ∷ []) ≡ Some y
place_ahead z (o ∷ os) is m b a y like h = h
place_ahead z [] [] m b a y like h = act_place z m b a y like h
place_ahead z [] (i ∷ is) m b a y like h = head_place z i (is ++ made m b ∷ []) (is ++ made m a ∷ []) y h

head_acts : (os : Queue) (i : Item) (is js : List Item) (l : ℕ) (x : Act) → Acts os (i ∷ is) l x → Acts os (i ∷ js) l x
head_acts (o ∷ os) i is js l x h = h
head_acts [] i is js l x h = h

asked_ahead : (z : Walk) (is : List Item) (m l : ℕ) (b a : Act) (what : What) → AnswerTheSame b a → ((c : ℕ) → what ≡ w.Join c → a ≡ trap (not_spawned (pos c)) → ⊥)
    → AsksFor z (is ++ made m b ∷ []) l what → AsksFor z (is ++ made m a ∷ []) l what
asked_ahead z [] m l b a what like free h = asked_same z m l b a what like free h
asked_ahead z (i ∷ is) m l b a (w.Lock x) like free h = head_acts z.owed i (is ++ made m b ∷ []) (is ++ made m a ∷ []) l (lock x) h
asked_ahead z (i ∷ is) m l b a (w.Down x) like free h = head_acts z.owed i (is ++ made m b ∷ []) (is ++ made m a ∷ []) l (down x) h
asked_ahead z (i ∷ is) m l b a (w.Join c) like free h = head_acts z.owed i (is ++ made m b ∷ []) (is ++ made m a ∷ []) l (join c) h
asked_ahead z (i ∷ is) m l b a (w.Enter k c) like free h = h
asked_ahead z (i ∷ is) m l b a (w.Wait k n) like free h = h

stand_ahead : (p : Source) (z : Walk) (s : PartStep) (is : List Item) (m : ℕ) (b a : Act) → AnswerTheSame b a
    → ((l c : ℕ) → s ≡ makes l (blocked (w.Join c)) → a ≡ trap (not_spawned (pos c)) → ⊥) → MayStand p z s (is ++ made m b ∷ []) → MayStand p z s (is ++ made m a ∷ [])
stand_ahead p z (goes (made l begin)) is m b d like free h = h
stand_ahead p z (goes (made l end)) is m b d like free h = h
stand_ahead p z (goes (made l (trap c))) is m b d like free h = h
stand_ahead p z (goes (made l (read x v))) is m b d like free h = h
stand_ahead p z (goes (made l (write x v))) is m b d like free h = h
stand_ahead p z (goes (made l (lock x))) is m b d like free h = h
stand_ahead p z (goes (made l (unlock x))) is m b d like free h = h
stand_ahead p z (goes (made l (down x))) is m b d like free h = h
stand_ahead p z (goes (made l (up x))) is m b d like free h = h
stand_ahead p z (goes (made l (spawn c f ws))) is m b d like free h = h
stand_ahead p z (goes (made l (join c))) is m b d like free h = h
stand_ahead p z (goes (made l (print v))) is m b d like free h = h
stand_ahead p z (goes (begins l env)) is m b d like free h = h
stand_ahead p z (goes (done l)) is m b d like free h = h
stand_ahead p z (goes (edge l)) is m b d like free h = h
stand_ahead p z (goes (enter f env)) is m b d like free h = h
stand_ahead p z (goes (out f)) is m b d like free h = h
stand_ahead p z (makes l (wait k n)) is m b d like free h = h
stand_ahead p z (makes l (enters k c)) is m b d like free h = h
stand_ahead p z (makes l (at k ns)) is m b d like free h = h
stand_ahead p z (makes l (past k ns)) is m b d like free h = h
stand_ahead p z (makes l (post k n)) is m b d like free h = h
stand_ahead p z (makes l (leave k c)) is m b d like free h = h
stand_ahead p z (makes l back) is m b d like free h = h
stand_ahead p z (makes l (tick x)) is m b d like free h = h
stand_ahead p z (makes l (cross x v n)) is m b a like free h =
    let c : MayCross p z (is ++ made m b ∷ []) l x v n = h in
    record {
      place = c.place;
      next = place_ahead z z.owed is m b a c.place like c.next;
      number = c.number;
      line = c.line;
      version = c.version;
      passed = c.passed;
    }
stand_ahead p z (makes l (blocked what)) is m b a like free h =
    let c : MayBlock z (is ++ made m b ∷ []) l what = h in
    record { asks = asked_ahead z is m l b a what like (λ d e trap_deed. free l d (ap (λ u. makes l (blocked u)) e) trap_deed) c.asks; not_yet = c.not_yet }

other_act : (p : Source) (plans : Plans) (z : Walk) (ss : List PartStep) (m : ℕ) (b a : Act) → AnswerTheSame b a → IsFree ss a → AreWoven p plans z ss (made m b ∷ [])
    → AreWoven p plans z ss (made m a ∷ [])
other_act p plans z [] m b a like free h = tt
other_act p plans z (s ∷ ss) m b a like free h = (
  stand_ahead p z s (items ss) m b a like (λ l c is trap_deed. free [] l c ss (ap (λ u. u ∷ ss) is) trap_deed) h.0,
  other_act p plans (walk_behind p plans z s) ss m b a like (free_behind s ss a free) h.1,
)

-- what comes next is an act that is answered the same
pub next_act : (i : Item) (l : ℕ) (a : Act) → AreAlike i (made l a) → (b : Act) × ((i ≡ made l b) × AnswerTheSame b a)
next_act (made m b) l a h = (b, (ap (λ n. made n b) h.0, h.1))
next_act (begins m env) l a h = cc
next_act (done m) l a h = cc
next_act (edge m) l a h = cc
next_act (enter f env) l a h = cc
next_act (out f) l a h = cc

-- The part with one more step

pub walk_append : (p : Source) (plans : Plans) (z : Walk) (us vs : List PartStep) → walk_from p plans z (us ++ vs) ≡ walk_from p plans (walk_from p plans z us) vs
walk_append p plans z [] vs = refl
walk_append p plans z (u ∷ us) vs = walk_append p plans (walk_behind p plans z u) us vs

pub woven_last : (p : Source) (plans : Plans) (z : Walk) (ss : List PartStep) (s : PartStep) (ahead : List Item) → AreWoven p plans z ss (items (s ∷ []) ++ ahead)
    → MayStand p (walk_from p plans z ss) s ahead → AreWoven p plans z (ss ++ s ∷ []) ahead
woven_last p plans z [] s ahead h m = (m, tt)
woven_last p plans z (u ∷ ss) s ahead h m =
    (subst (MayStand p z u) (sym (items_ahead ss (s ∷ []) ahead)) h.0, woven_last p plans (walk_behind p plans z u) ss s ahead h.1 m)

-- the thread's part with the act behind these steps; but for the versions to come the walk there is the same
record ActPart (p : Source) (plans : Plans) (t f : ℕ) (args : List ℤ) (vs ws : List Version) (es : List Entry) (l : ℕ) (a : Act) (steps : List PartStep) : Type 0 where
  part : IsPart p plans (an_own t f args ws (es ++ entry_by t l a ∷ []))
  last : part.steps ≡ steps ++ goes (made l a) ∷ []
  coming : List Version
  walk : walk_from p plans (unborn ws) steps ≡ to_take (walk_from p plans (unborn vs) steps) coming

part_with : (p : Source) (plans : Plans) (t f : ℕ) (args : List ℤ) (vs ws : List Version) (es : List Entry) (l : ℕ) (a : Act) (steps : List PartStep)
    → IsTrace p f args (items steps ++ made l a ∷ []) Open → AreWoven p plans (unborn ws) steps (made l a ∷ []) → filter_entries t steps ≡ es
    → MayStand p (walk_from p plans (unborn ws) steps) (goes (made l a)) [] → Walk.coming (walk_behind p plans (walk_from p plans (unborn ws) steps) (goes (made l a))) ≡ []
    → (coming : List Version) → walk_from p plans (unborn ws) steps ≡ to_take (walk_from p plans (unborn vs) steps) coming → ActPart p plans t f args vs ws es l a steps
part_with p plans t f args vs ws es l a steps trace woven tells stands taken coming walk =
    let last : List PartStep = goes (made l a) ∷ [] in
    record {
      part = record {
        steps = steps ++ last;
        ahead = [];
        outcome = Open;
        trace = subst (λ is. IsTrace p f args is Open) (sym (items_ahead steps last [])) trace;
        woven = woven_last p plans (unborn ws) steps (goes (made l a)) [] woven stands;
        tells = told_append t steps last ∙ ap (λ us. us ++ entry_by t l a ∷ []) tells;
        taken = ap (λ z. Walk.coming z) (walk_append p plans (unborn ws) steps last) ∙ taken;
      };
      last = refl;
      coming = coming;
      walk = walk;
    }

act_part : (p : Source) (plans : Plans) (t f : ℕ) (args : List ℤ) (vs : List Version) (v : Version) (es : List Entry) (l : ℕ) (a : Act) (steps : List PartStep)
    → IsTrace p f args (items steps ++ made l a ∷ []) Open → AreWoven p plans (unborn vs) steps (made l a ∷ []) → filter_entries t steps ≡ es
    → Walk.owed (walk_from p plans (unborn vs) steps) ≡ [] → Walk.coming (walk_from p plans (unborn vs) steps) ≡ []
    → ActPart p plans t f args vs (with_newest (entry_by t l a) v vs) es l a steps
act_part p plans t f args vs v es l begin steps trace woven tells rests taken =
    let z : Walk = walk_from p plans (unborn vs) steps in
    let ws : List Version = vs ++ v ∷ [] in
    let m : HasMore p plans (unborn []) vs (v ∷ []) steps (made l begin ∷ []) = more p plans (unborn []) vs (v ∷ []) steps (made l begin ∷ []) woven in
    let next : Walk.coming z ++ v ∷ [] ≡ v ∷ [] = ap (λ us. us ++ v ∷ []) taken in
    let walk : walk_from p plans (unborn ws) steps ≡ to_take z (v ∷ []) = m.1 ∙ ap (to_take z) next in
    let stands : MayStand p (to_take z (v ∷ [])) (goes (made l begin)) [] = (rests, tt) in
    let none : Walk.coming (walk_behind p plans (to_take z (v ∷ [])) (goes (made l begin))) ≡ [] = refl in
    part_with p plans t f args vs ws es l begin steps trace m.0 tells (subst (λ y. MayStand p y (goes (made l begin)) []) (sym walk) stands)
    (ap (λ y. Walk.coming (walk_behind p plans y (goes (made l begin)))) walk ∙ none) (v ∷ []) walk
act_part p plans t f args vs u es l end steps trace woven tells rests taken =
    part_with p plans t f args vs vs es l end steps trace woven tells rests taken (Walk.coming (walk_from p plans (unborn vs) steps)) refl
act_part p plans t f args vs u es l (trap c) steps trace woven tells rests taken =
    part_with p plans t f args vs vs es l (trap c) steps trace woven tells rests taken (Walk.coming (walk_from p plans (unborn vs) steps)) refl
act_part p plans t f args vs u es l (read x v) steps trace woven tells rests taken =
    part_with p plans t f args vs vs es l (read x v) steps trace woven tells rests taken (Walk.coming (walk_from p plans (unborn vs) steps)) refl
act_part p plans t f args vs u es l (write x v) steps trace woven tells rests taken =
    part_with p plans t f args vs vs es l (write x v) steps trace woven tells rests taken (Walk.coming (walk_from p plans (unborn vs) steps)) refl
act_part p plans t f args vs u es l (lock x) steps trace woven tells rests taken =
    part_with p plans t f args vs vs es l (lock x) steps trace woven tells rests taken (Walk.coming (walk_from p plans (unborn vs) steps)) refl
act_part p plans t f args vs u es l (unlock x) steps trace woven tells rests taken =
    part_with p plans t f args vs vs es l (unlock x) steps trace woven tells rests taken (Walk.coming (walk_from p plans (unborn vs) steps)) refl
act_part p plans t f args vs u es l (down x) steps trace woven tells rests taken =
    part_with p plans t f args vs vs es l (down x) steps trace woven tells rests taken (Walk.coming (walk_from p plans (unborn vs) steps)) refl
act_part p plans t f args vs u es l (up x) steps trace woven tells rests taken =
    part_with p plans t f args vs vs es l (up x) steps trace woven tells rests taken (Walk.coming (walk_from p plans (unborn vs) steps)) refl
act_part p plans t f args vs u es l (spawn c g xs) steps trace woven tells rests taken =
    part_with p plans t f args vs vs es l (spawn c g xs) steps trace woven tells rests taken (Walk.coming (walk_from p plans (unborn vs) steps)) refl
act_part p plans t f args vs u es l (join c) steps trace woven tells rests taken =
    part_with p plans t f args vs vs es l (join c) steps trace woven tells rests taken (Walk.coming (walk_from p plans (unborn vs) steps)) refl
act_part p plans t f args vs u es l (print v) steps trace woven tells rests taken =
    part_with p plans t f args vs vs es l (print v) steps trace woven tells rests taken (Walk.coming (walk_from p plans (unborn vs) steps)) refl

-- Nobody was blocked at a thread that wasn't spawned

entry_in : (t : ℕ) (es us : List Entry) (x : Entry) (vs : List Entry) → entries_of t es ≡ us ++ x ∷ vs → (front : List Entry) × ((rest : List Entry) × (es ≡ front ++ x ∷ rest))
entry_in t [] [] x vs h = cc
entry_in t [] (u ∷ us) x vs h = cc
entry_in t (y ∷ es) us x vs h =
    by_test (is_thread t (thread_of y)) ((front : List Entry) × ((rest : List Entry) × (y ∷ es ≡ front ++ x ∷ rest)))
    (λ b. mine us (sym (if_true (is_thread t (thread_of y)) (y ∷ entries_of t es) (entries_of t es) b) ∙ h) (entry_in t es))
    (λ b. behind (entry_in t es us x vs (sym (if_false (is_thread t (thread_of y)) (y ∷ entries_of t es) (entries_of t es) b) ∙ h)))
  where
    behind : ((front : List Entry) × ((rest : List Entry) × (es ≡ front ++ x ∷ rest))) → (front : List Entry) × ((rest : List Entry) × (y ∷ es ≡ front ++ x ∷ rest))
    behind g = (y ∷ g.0, (g.1.0, ap (◌∷◌ y) g.1.1))

    mine : (us : List Entry) → y ∷ entries_of t es ≡ us ++ x ∷ vs
        → ((us : List Entry) (x : Entry) (vs : List Entry) → entries_of t es ≡ us ++ x ∷ vs → (front : List Entry) × ((rest : List Entry) × (es ≡ front ++ x ∷ rest)))
        → (front : List Entry) × ((rest : List Entry) × (y ∷ es ≡ front ++ x ∷ rest))
    mine [] g ih = let same : y ≡ x = cc in ([], (es, ap (λ u. u ∷ es) same))
    mine (u ∷ us) g ih = let others : entries_of t es ≡ us ++ x ∷ vs = cc in behind (ih us x vs others)

-- what stood spawned is spawned
still_there : (s : Setting) (es : List Entry) (h : IsLawful s es) (front : List Entry) (c : ℕ) (y : ThreadState)
    → thread_at (replay (start s.program s.threads) (take (length (targets front)) h.events)) c ≡ Some y → thread_at (replay (start s.program s.threads) h.events) c ≡ None → ⊥
still_there s es h front c y there none =
    let p : Source = s.program in
    let n : ℕ = length (targets front) in
    let o : Option ThreadState = thread_at (replay (start p s.threads) h.events) c in
    let kept : IsOf (thread_at (replay (start p s.threads) (take n h.events)) c) (thread_at (replay (start p s.threads) (take n h.events ++ drop n h.events)) c) =
    stays p s.threads (take n h.events) (drop n h.events) c in
    let whole : IsOf (thread_at (replay (start p s.threads) (take n h.events)) c) o =
    subst (λ xs. IsOf (thread_at (replay (start p s.threads) (take n h.events)) c) (thread_at (replay (start p s.threads) xs) c)) (take-append-drop n h.events) kept in
    subst (IsOf (Some y)) none (subst (λ u. IsOf u o) there whole)

free_steps : (s : Setting) (es : List Entry) (h : IsLawful s es) (t : ℕ) (d : Deed) (steps : List PartStep) → filter_entries t steps ≡ entries_of t es
    → IsAllowed (replay (start s.program s.threads) h.events) (event_of_deed t d) → IsFree steps d.act
free_steps s es h t d steps tells ok before l c behind is trap_deed =
    let x : Entry = e.Blocked t l (w.Join c) in
    let whole : entries_of t es ≡ filter_entries t before ++ x ∷ filter_entries t behind =
    sym tells ∙ (ap (filter_entries t) is ∙ told_append t before (makes l (blocked (w.Join c)) ∷ behind)) in
    let found = entry_in t es (filter_entries t before) x (filter_entries t behind) whole in
    let stood : MayFollow s (front_of s found.0 (take (length (targets found.0)) h.events)) x found.1.0 = h.follows found.0 x found.1.0 found.1.1 in
    let caused : IsAllowed (replay (start s.program s.threads) h.events) (event_of_deed t (record { line = d.line; act = trap (not_spawned (pos c)) })) =
    subst (λ a. IsAllowed (replay (start s.program s.threads) h.events) (event_of_deed t (record { line = d.line; act = a }))) trap_deed ok in
    still_there s es h found.0 c stood.1.0 stood.1.1 (caused.1 c refl)

-- The turn

act_no_cross : (t l : ℕ) (a : Act) → is_cross (entry_by t l a) ≡ false
act_no_cross t l begin = refl
act_no_cross t l end = refl
act_no_cross t l (trap c) = refl
act_no_cross t l (read x v) = refl
act_no_cross t l (write x v) = refl
act_no_cross t l (lock x) = refl
act_no_cross t l (unlock x) = refl
act_no_cross t l (down x) = refl
act_no_cross t l (up x) = refl
act_no_cross t l (spawn c f ws) = refl
act_no_cross t l (join c) = refl
act_no_cross t l (print v) = refl

act_permits : (s : Setting) (f : Front) (t l : ℕ) (a : Act) → Permits s f (entry_by t l a)
act_permits s g t l begin = tt
act_permits s g t l end = tt
act_permits s g t l (trap c) = tt
act_permits s g t l (read x v) = tt
act_permits s g t l (write x v) = tt
act_permits s g t l (lock x) = tt
act_permits s g t l (unlock x) = tt
act_permits s g t l (down x) = tt
act_permits s g t l (up x) = tt
act_permits s g t l (spawn c f ws) = tt
act_permits s g t l (join c) = tt
act_permits s g t l (print v) = tt

pub goes_with : (p : Source) (plans : Plans) (x : Own) (q : Request) (d : Deed) (h : AsksToAct p plans x q) → IsAnswered q d
    → IsTrace p x.func x.args (items h.steps ++ made d.line d.act ∷ []) Open
goes_with p plans x q d h (inl g) = subst (GoesOn p x h.steps) g.1 (h.granted g.0)
goes_with p plans x q d h (inr g) = subst (GoesOn p x h.steps) g h.trapped

-- what stands before the request stands so before each answer to it
pub woven_ahead : (p : Source) (plans : Plans) (x : Own) (q : Request) (d : Deed) (h : AsksToAct p plans x q) → IsAnswered q d → IsFree h.steps d.act
    → AreWoven p plans (unborn x.versions) h.steps (made d.line d.act ∷ [])
woven_ahead p plans x q d h answer free =
    let trace : IsTrace p x.func x.args (items h.steps ++ made d.line d.act ∷ []) Open = goes_with p plans x q d h answer in
    let next = next_act h.next d.line d.act
    (one_next_item p x.func x.args (items h.steps ++ h.next ∷ []) (items h.steps ++ made d.line d.act ∷ []) Open Open h.trace trace (items h.steps) [] [] h.next
    (made d.line d.act) refl refl) in
    let woven : AreWoven p plans (unborn x.versions) h.steps (made d.line next.0 ∷ []) =
    subst (λ i. AreWoven p plans (unborn x.versions) h.steps (i ∷ [])) next.1.0 h.woven in
    other_act p plans (unborn x.versions) h.steps d.line next.0 d.act next.1.1 free woven

keeps_taking : (F : Place → Type 0) (z : Walk) (vs : List Version) → KeepsAway F z → KeepsAway F (to_take z vs)
keeps_taking F z vs h = record { passed = h.passed; stood = h.stood }

pub answers : HasAnswers
answers s es h t q d m =
    let p : Source = s.program in
    let x : Own = own s es t m.state in
    let vs : List Version = versions_of s.commands t es in
    let steps : List PartStep = m.asks.steps in
    let trace : IsTrace p x.func x.args (items steps ++ made d.line d.act ∷ []) Open = goes_with p (plans s) x q d m.asks m.answer in
    let a : ActPart p (plans s) t m.state.func m.state.args vs (with_newest (entry_by t d.line d.act) (Control.version (control s.commands es)) vs) (entries_of t es) d.line d.act steps =
    act_part p (plans s) t m.state.func m.state.args vs (Control.version (control s.commands es)) (entries_of t es) d.line d.act steps trace
    (woven_ahead p (plans s) x q d m.asks m.answer (free_steps s es h t d steps m.asks.tells m.allowed)) m.asks.tells m.asks.rests m.asks.taken in (
      record {
        state = m.state;
        there = m.there;
        part = a.part;
        before = steps;
        last = a.last;
        goes_on = m.goes_on;
        not_held_off = m.not_held_off;
        crosses = act_no_cross t d.line d.act ∙ sym m.no_cross;
        away = λ k is some. subst (KeepsAway (IsFlagged s k)) (sym a.walk) (keeps_taking (IsFlagged s k) (walk_from p (plans s) (unborn vs) steps) a.coming (m.away k is some));
        no_begin = m.no_begin;
        permits = act_permits s (front_of s es h.events) t d.line d.act;
      },
      (refl, refl),
    )

pub answer_turns : HasAnswerTurns
answer_turns s es h open_ t q d m =
    let turn = answers s es h t q d m in
    event_turns s es h open_ (event_of_deed t d) turn.0 m.allowed
