-- A thread whose last entry is `Blocked` comes to one place.
use Rattle.std.proofs.Common.{ℕ, ◌≡◌, ◌⊎◌, inl, inr, Bool, true, false, List, [], ◌∷◌, ◌++◌, append-nil, Option, Some, None, refl, sym, ap, subst, ◌∙◌}
use Rattle.loom_tree.specs.Tree.{Source}
use Rattle.loom_lang.specs.Places.{Place}
use Rattle.loom_lang.specs.Trace.{Act, begin, end, trap, read, write, lock, unlock, down, up, spawn, join, print, Item, made, begins, done, edge, enter, out, Open}
use Rattle.loom_trace.specs.declared.entry.What.{What}
use Rattle.loom_trace.specs.declared.entry.What.TheVariants as w
use Rattle.loom_trace.specs.declared.entry.Entry.{Entry}
use Rattle.loom_event.specs.TargetEvent.{entry_by}
use Rattle.loom_law.specs.Walk.{Plans, Operation, wait, enters, at, past, post, leave, back, tick, cross, blocked, Queue, PartStep, goes, makes, items, filter_entries, Walk, request_place, place_of_item, place_of_next, unborn, walk_behind, walk_from, Owes, Acts, AsksFor, AreWoven}
use Rattle.loom_law.specs.ThreadPart.{Own, walk_of, IsPart, Point, ComesTo, HasMoved}
use Rattle.loom_law.specs.Laws.{SameSteps}
use Rattle.loom_law.specs.TurnLaws.{is_blocked_entry, blocked_behind, ends_blocked}
use Rattle.loom_law.proofs.OnePart.{one_made, told_append, same_front}
use Rattle.loom_law.proofs.Earlier.{woven_front}

-- No mark stands next: something is owed, or an act comes.

abbrev IsActNext : List Item → Type 0
IsActNext (made l a ∷ is) = Unit {0}
IsActNext _ = ⊥

abbrev StopsThere : Walk → List Item → Type 0
StopsThere z rest = (z.owed ≡ [] → ⊥) ⊎ IsActNext rest

mark_stops : (z : Walk) (i : Item) (rest : List Item) → (IsActNext (i ∷ rest) → ⊥) → z.owed ≡ [] → StopsThere z (i ∷ rest) → ⊥
mark_stops z i rest mark none (inl g) = g none
mark_stops z i rest mark none (inr g) = mark g

stop_acting : (z : Walk) (os : Queue) (rest : List Item) (l : ℕ) (a : Act) → z.owed ≡ os → Acts os rest l a → StopsThere z rest
stop_acting z (o ∷ os) rest l a is h = absurd h
stop_acting z [] [] l a is h = absurd h
stop_acting z [] (i ∷ rest) l a is h = inr (subst (λ j. IsActNext (j ∷ rest)) (sym h) tt)

stop_owing : (z : Walk) (os : Queue) (rest : List Item) (l : ℕ) (o : Operation) → z.owed ≡ os → Owes os l o → StopsThere z rest
stop_owing z [] rest l o is h = absurd h
stop_owing z (x ∷ os) rest l o is h = inl (λ none. let no : x ∷ os ≡ [] = sym is ∙ none in cc)

-- where a request is disabled
stop_for : (z : Walk) (rest : List Item) (l : ℕ) (what : What) → AsksFor z rest l what → StopsThere z rest
stop_for z rest l (w.Lock m) h = stop_acting z z.owed rest l (lock m) refl h
stop_for z rest l (w.Down s) h = stop_acting z z.owed rest l (down s) refl h
stop_for z rest l (w.Join c) h = stop_acting z z.owed rest l (join c) refl h
stop_for z rest l (w.Enter k c) h = stop_owing z z.owed rest l (enters k c) refl h
stop_for z rest l (w.Wait k n) h = stop_owing z z.owed rest l (wait k n) refl h

act_unblocked : (t l : ℕ) (a : Act) → is_blocked_entry (entry_by t l a) ≡ false
act_unblocked t l begin = refl
act_unblocked t l end = refl
act_unblocked t l (trap c) = refl
act_unblocked t l (read x v) = refl
act_unblocked t l (write x v) = refl
act_unblocked t l (lock m) = refl
act_unblocked t l (unlock m) = refl
act_unblocked t l (down m) = refl
act_unblocked t l (up m) = refl
act_unblocked t l (spawn c f vs) = refl
act_unblocked t l (join c) = refl
act_unblocked t l (print v) = refl

never : {P : Type 0} → false ≡ true → P
never h = cc

-- and with it nothing was passed
blocked_along : (p : Source) (ps : Plans) (t : ℕ) (z : Walk) (ss : List PartStep) (ahead : List Item) (b : Bool) → AreWoven p ps z ss ahead
    → (b ≡ true → StopsThere z (items ss ++ ahead) × (z.passed ≡ [])) → blocked_behind b (filter_entries t ss) ≡ true
    → StopsThere (walk_from p ps z ss) ahead × (Walk.passed (walk_from p ps z ss) ≡ [])
blocked_along p ps t z [] ahead b woven h told = h told
blocked_along p ps t z (goes (made l a) ∷ ss) ahead b woven h told =
    blocked_along p ps t (walk_behind p ps z (goes (made l a))) ss ahead false woven.1 (λ is. never is) (subst (λ c. blocked_behind c (filter_entries t ss) ≡ true) (act_unblocked t l a) told)
blocked_along p ps t z (goes (begins l env) ∷ ss) ahead b woven h told =
    blocked_along p ps t (walk_behind p ps z (goes (begins l env))) ss ahead b woven.1 (λ is. absurd (mark_stops z (begins l env) (items ss ++ ahead) (λ g. g) woven.0 (h is).0)) told
blocked_along p ps t z (goes (done l) ∷ ss) ahead b woven h told =
    blocked_along p ps t (walk_behind p ps z (goes (done l))) ss ahead b woven.1 (λ is. absurd (mark_stops z (done l) (items ss ++ ahead) (λ g. g) woven.0 (h is).0)) told
blocked_along p ps t z (goes (edge l) ∷ ss) ahead b woven h told =
    blocked_along p ps t (walk_behind p ps z (goes (edge l))) ss ahead b woven.1 (λ is. absurd (mark_stops z (edge l) (items ss ++ ahead) (λ g. g) woven.0 (h is).0)) told
blocked_along p ps t z (goes (enter f env) ∷ ss) ahead b woven h told =
    blocked_along p ps t (walk_behind p ps z (goes (enter f env))) ss ahead b woven.1 (λ is. absurd (mark_stops z (enter f env) (items ss ++ ahead) (λ g. g) woven.0 (h is).0)) told
blocked_along p ps t z (goes (out f) ∷ ss) ahead b woven h told =
    blocked_along p ps t (walk_behind p ps z (goes (out f))) ss ahead b woven.1 (λ is. absurd (mark_stops z (out f) (items ss ++ ahead) (λ g. g) woven.0 (h is).0)) told
blocked_along p ps t z (makes l (blocked what) ∷ ss) ahead b woven h told =
    blocked_along p ps t (walk_behind p ps z (makes l (blocked what))) ss ahead true woven.1 (λ is. (stop_for z (items ss ++ ahead) l what woven.0.asks, refl)) told
blocked_along p ps t z (makes l (cross x v n) ∷ ss) ahead b woven h told = blocked_along p ps t (walk_behind p ps z (makes l (cross x v n))) ss ahead false woven.1 (λ is. never is) told
blocked_along p ps t z (makes l (wait k n) ∷ ss) ahead b woven h told = blocked_along p ps t (walk_behind p ps z (makes l (wait k n))) ss ahead false woven.1 (λ is. never is) told
blocked_along p ps t z (makes l (enters k c) ∷ ss) ahead b woven h told = blocked_along p ps t (walk_behind p ps z (makes l (enters k c))) ss ahead false woven.1 (λ is. never is) told
blocked_along p ps t z (makes l (at k ns) ∷ ss) ahead b woven h told = blocked_along p ps t (walk_behind p ps z (makes l (at k ns))) ss ahead false woven.1 (λ is. never is) told
blocked_along p ps t z (makes l (past k ns) ∷ ss) ahead b woven h told = blocked_along p ps t (walk_behind p ps z (makes l (past k ns))) ss ahead false woven.1 (λ is. never is) told
blocked_along p ps t z (makes l (post k n) ∷ ss) ahead b woven h told = blocked_along p ps t (walk_behind p ps z (makes l (post k n))) ss ahead false woven.1 (λ is. never is) told
blocked_along p ps t z (makes l (leave k c) ∷ ss) ahead b woven h told = blocked_along p ps t (walk_behind p ps z (makes l (leave k c))) ss ahead false woven.1 (λ is. never is) told
blocked_along p ps t z (makes l back ∷ ss) ahead b woven h told = blocked_along p ps t (walk_behind p ps z (makes l back)) ss ahead false woven.1 (λ is. never is) told
blocked_along p ps t z (makes l (tick x) ∷ ss) ahead b woven h told = blocked_along p ps t (walk_behind p ps z (makes l (tick x))) ss ahead false woven.1 (λ is. never is) told

-- Behind it stand no marks.
no_marks : (p : Source) (ps : Plans) (t : ℕ) (z : Walk) (ss : List PartStep) (ahead : List Item) → filter_entries t ss ≡ [] → StopsThere z (items ss ++ ahead) → AreWoven p ps z ss ahead → ss ≡ []
no_marks p ps t z [] ahead none stops woven = refl
no_marks p ps t z (goes (made l a) ∷ ss) ahead none stops woven = cc
no_marks p ps t z (goes (begins l env) ∷ ss) ahead none stops woven = absurd (mark_stops z (begins l env) (items ss ++ ahead) (λ g. g) woven.0 stops)
no_marks p ps t z (goes (done l) ∷ ss) ahead none stops woven = absurd (mark_stops z (done l) (items ss ++ ahead) (λ g. g) woven.0 stops)
no_marks p ps t z (goes (edge l) ∷ ss) ahead none stops woven = absurd (mark_stops z (edge l) (items ss ++ ahead) (λ g. g) woven.0 stops)
no_marks p ps t z (goes (enter f env) ∷ ss) ahead none stops woven = absurd (mark_stops z (enter f env) (items ss ++ ahead) (λ g. g) woven.0 stops)
no_marks p ps t z (goes (out f) ∷ ss) ahead none stops woven = absurd (mark_stops z (out f) (items ss ++ ahead) (λ g. g) woven.0 stops)
no_marks p ps t z (makes l o ∷ ss) ahead none stops woven = cc

woven_behind : (p : Source) (ps : Plans) (z : Walk) (us vs : List PartStep) (ahead : List Item) → AreWoven p ps z (us ++ vs) ahead → AreWoven p ps (walk_from p ps z us) vs ahead
woven_behind p ps z [] vs ahead h = h
woven_behind p ps z (u ∷ us) vs ahead h = woven_behind p ps (walk_behind p ps z u) us vs ahead h.1

-- Points of a thread that is told as blocked

no_more : (p : Source) (ps : Plans) (x : Own) (d : Point p ps x) (first behind : List PartStep) → ends_blocked x.entries ≡ true → d.steps ≡ first ++ behind → filter_entries x.thread behind ≡ [] → behind ≡ []
no_more p ps x d first behind told split marks =
    let t : ℕ = x.thread in
    let z : Walk = unborn x.versions in
    let ahead : List Item = d.next ∷ [] in
    let woven : AreWoven p ps z (first ++ behind) ahead = subst (λ ss. AreWoven p ps z ss ahead) split d.woven in
    let front : AreWoven p ps z first (items behind ++ ahead) = woven_front p ps z first behind ahead woven in
    let same : x.entries ≡ filter_entries t first =
    sym d.tells ∙ (ap (filter_entries t) split ∙ (told_append t first behind ∙ (ap (λ us. filter_entries t first ++ us) marks ∙ append-nil (filter_entries t first)))) in
    let stops : StopsThere (walk_from p ps z first) (items behind ++ ahead) =
    (blocked_along p ps t z first (items behind ++ ahead) false front (λ is. never is) (sym (ap ends_blocked same) ∙ told)).0 in
    no_marks p ps t (walk_from p ps z first) behind ahead marks stops (woven_behind p ps z first behind ahead woven)

abbrev part_of : (p : Source) (ps : Plans) (x : Own) → Point p ps x → IsPart p ps x
part_of p ps x d = record { steps = d.steps; ahead = d.next ∷ []; outcome = Open; trace = d.trace; woven = d.woven; tells = d.tells; taken = d.taken }

same_steps : (p : Source) (ps : Plans) (x : Own) (a b : Point p ps x) → ends_blocked x.entries ≡ true → a.steps ≡ b.steps
same_steps p ps x a b told =
    let c : SameSteps x a.steps b.steps = one_made p ps x (part_of p ps x a) (part_of p ps x b) in
    let one : c.behind ≡ [] = no_more p ps x a c.made c.behind told c.first c.marks in
    let two : c.behind' ≡ [] = no_more p ps x b c.made c.behind' told c.second c.marks' in
    c.first ∙ (ap (λ ss. c.made ++ ss) (one ∙ sym two) ∙ sym c.second)

-- Their place is that of the request.

same_place : (y u : Place) → ◌≡◌ {A = Option Place} (Some y) (Some u) → y ≡ u
same_place y u h = cc

no_place : (u : Place) → ◌≡◌ {A = Option Place} None (Some u) → ⊥
no_place u h = cc

act_place : (z : Walk) (l : ℕ) (a : Act) (y : Place) → place_of_item z (made l a ∷ []) ≡ Some y → request_place z ≡ y
act_place z l begin y h = absurd (no_place y h)
act_place z l end y h = same_place (request_place z) y h
act_place z l (trap c) y h = same_place (request_place z) y h
act_place z l (read x v) y h = same_place (request_place z) y h
act_place z l (write x v) y h = same_place (request_place z) y h
act_place z l (lock m) y h = same_place (request_place z) y h
act_place z l (unlock m) y h = same_place (request_place z) y h
act_place z l (down m) y h = same_place (request_place z) y h
act_place z l (up m) y h = same_place (request_place z) y h
act_place z l (spawn c f vs) y h = same_place (request_place z) y h
act_place z l (join c) y h = same_place (request_place z) y h
act_place z l (print v) y h = same_place (request_place z) y h

place_next : (z : Walk) (i : Item) (y : Place) → IsActNext (i ∷ []) → place_of_item z (i ∷ []) ≡ Some y → request_place z ≡ y
place_next z (made l a) y acts h = act_place z l a y h
place_next z (begins l env) y acts h = absurd acts
place_next z (done l) y acts h = absurd acts
place_next z (edge l) y acts h = absurd acts
place_next z (enter f env) y acts h = absurd acts
place_next z (out f) y acts h = absurd acts

place_there : (z : Walk) (os : Queue) (i : Item) (y : Place) → z.owed ≡ os → StopsThere z (i ∷ []) → place_of_next z os (i ∷ []) ≡ Some y → request_place z ≡ y
place_there z (o ∷ os) i y is stops h = same_place (request_place z) y h
place_there z [] i y is (inl g) h = absurd (g is)
place_there z [] i y is (inr acts) h = place_next z i y acts h

its_place : (p : Source) (ps : Plans) (x : Own) (y : Place) → ends_blocked x.entries ≡ true → (h : ComesTo p ps x y) → request_place (walk_of p ps x h.point.steps) ≡ y
its_place p ps x y told h =
    let d : Point p ps x = h.point in
    let z : Walk = walk_of p ps x d.steps in
    place_there z z.owed d.next y refl (blocked_along p ps x.thread (unborn x.versions) d.steps (d.next ∷ []) false d.woven (λ is. never is) (ap ends_blocked d.tells ∙ told)).0 h.place

pub one_stand : (p : Source) (ps : Plans) (x : Own) (y u : Place) → ends_blocked x.entries ≡ true → ComesTo p ps x y → ComesTo p ps x u → y ≡ u
one_stand p ps x y u told a b =
    sym (its_place p ps x y told a) ∙ (ap (λ ss. request_place (walk_of p ps x ss)) (same_steps p ps x a.point b.point told) ∙ its_place p ps x u told b)

-- It passes nothing with its next entry.
pub passes_nothing : (p : Source) (ps : Plans) (x : Own) (es : List Entry) (y : Entry) (steps : List PartStep) → x.entries ≡ es ++ y ∷ [] → ends_blocked es ≡ true → HasMoved p ps x steps
    → Walk.passed (walk_of p ps x steps) ≡ []
passes_nothing p ps x es y steps is told h =
    let t : ℕ = x.thread in
    let z : Walk = unborn x.versions in
    let last : List PartStep = h.last ∷ [] in
    let ends : filter_entries t steps ++ h.entry ∷ [] ≡ es ++ y ∷ [] =
    ap (λ us. filter_entries t steps ++ us) (sym h.is) ∙ (sym (told_append t steps last) ∙ (h.tells ∙ is)) in
    let same : filter_entries t steps ≡ es = same_front (filter_entries t steps) es h.entry y ends in
    let woven : AreWoven p ps z steps (items last ++ h.ahead) = woven_front p ps z steps last h.ahead h.woven in
    (blocked_along p ps t z steps (items last ++ h.ahead) false woven (λ b. never b) (ap ends_blocked same ∙ told)).1
