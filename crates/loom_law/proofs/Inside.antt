-- Along each full part a thread holds each clause whose regions it is inside.
use Rattle.std.proofs.Common.{ℕ, suc, ◌≡◌, ◌==◌, Bool, true, false, not, ◌&&◌, List, [], ◌∷◌, ◌++◌, length, refl, sym, ap, subst, ◌∙◌}
use Rattle.std.specs.List.{filter}
use Rattle.std.proofs.lemmas.Bool.{and_parts}
use Rattle.std.proofs.Common.{Some}
use Rattle.loom_tree.specs.Tree.{Source}
use Rattle.loom_trace.specs.declared.entry.Entry.{Entry}
use Rattle.loom_trace.specs.declared.entry.Entry.TheVariants as e
use Rattle.loom_lang.specs.Places.{Place}
use Rattle.loom_lang.specs.Places as place
use Rattle.loom_lang.specs.Trace.{Act, begin, end, trap, read, write, lock, unlock, down, up, spawn, join, print, Item, made, begins, done, edge, enter, out}
use Rattle.loom_event.specs.TargetEvent.{entry_by}
use Rattle.loom_law.specs.Walk.{tick_after}
use Rattle.loom_law.specs.Filter.{statement, function, clauses}
use Rattle.loom_law.specs.Walk.{Version, Plans, Operation, wait, enters, at, past, post, leave, back, tick, cross, blocked, PartStep, goes, makes, filter_entries, entry_of_operation, Inside, OpenFrame, Spot, elsewhere, beginning, entered, complete, left, trapped, Queue, Walk, unborn, holds, all_inside, is_left_with, completed, in_frame, open_statement, close_statement, without_first, inside_first, function_line, with_tick, taking, behind_entry, after_item, noted_at, begun_at, entered_regions, without_clause, left_behind, after_operation, walk_from, all_leaves, with_back, without_filters, frames_without, spot_without, new_filters, owed_fresh, owed_behind_cross, crossing, begun_with, MayStand, AreWoven}
use Rattle.loom_law.specs.ThreadPart.{leaving, is_inside}
use Rattle.loom_law.specs.Laws.{HasHeldRegions}
use Rattle.loom_law.proofs.Cross.{held_in, each_in, all_held_in, kept_safe}
use Rattle.loom_law.proofs.Holdings.{pick, held_append, HeldAll, HeldEach, AllHeld, UnderEach, Safe, in_first, safe_now, safe_op, safe_needs, Covers, beginning_safe, behind_safe, all_leaves_safe, back_safe, within_frames}

abbrev pub insides : List OpenFrame → List (List Inside)
insides [] = []
insides (x ∷ xs) = x.inside ∷ insides xs

-- all that the thread is inside is held, now and behind each operation that it owes
abbrev pub Good : Plans → Walk → Type 0
Good plans z = Safe plans z.held (insides z.frames) (leaving z.spot) z.owed

none_held : (hs : List (ℕ × ℕ)) → HeldAll hs []
none_held hs k c m = cc

under_itself : (fs : List OpenFrame) → UnderEach (insides fs) fs
under_itself [] = tt
under_itself (x ∷ xs) = ((λ q m. m), under_itself xs)

insides_first : (g : OpenFrame → OpenFrame) (h : List Inside → List Inside) → ((x : OpenFrame) → OpenFrame.inside (g x) ≡ h x.inside) → (fs : List OpenFrame)
    → insides (in_frame g fs) ≡ in_first h (insides fs)
insides_first g h e [] = refl
insides_first g h e (x ∷ xs) = ap (λ is. is ∷ insides xs) (e x)

insides_same : (g : OpenFrame → OpenFrame) → ((x : OpenFrame) → OpenFrame.inside (g x) ≡ x.inside) → (fs : List OpenFrame) → insides (in_frame g fs) ≡ insides fs
insides_same g e [] = refl
insides_same g e (x ∷ xs) = ap (λ is. is ∷ insides xs) (e x)

tick_safe : (p : Source) (plans : Plans) (hs : List (ℕ × ℕ)) (iss : List (List Inside)) (lv : List Inside) (x : Place) (n : ℕ) (os : Queue)
    → Safe plans hs iss lv os → Safe plans hs iss lv (with_tick p x n os)
tick_safe p plans hs iss lv x n os h = pick (Safe plans hs iss lv) (n == tick_after) _ _ (λ b. (safe_now plans hs iss lv os h, tt, h)) (λ b. h)

-- An item, where nothing is owed

abbrev pub Rests : Walk → Type 0
Rests z = AllHeld z.held (insides z.frames) []

resting_good : (plans : Plans) (z : Walk) → z.owed ≡ [] → Rests z → Good plans (behind_entry z)
resting_good plans z is h =
    let P : Queue → Type 0 = λ os. Safe plans z.held (insides z.frames) [] os in
    subst P (sym is) h

taking_good : (plans : Plans) (z : Walk) (vs : List Version) → z.owed ≡ [] → Rests z → Good plans (taking (behind_entry z) vs)
taking_good plans z [] is h = resting_good plans z is h
taking_good plans z (v ∷ vs) is h = resting_good plans z is h

out_good : (plans : Plans) (hs : List (ℕ × ℕ)) (fs : List OpenFrame) (l : ℕ) (ks : List ℕ) → AllHeld hs (insides fs) []
    → Safe plans hs (insides (without_first fs)) (inside_first fs) (with_back l (all_leaves plans hs (all_inside (without_first fs)) l ks))
out_good plans hs [] l ks h = back_safe plans hs [] [] l _ h (all_leaves_safe plans hs [] hs [] [] l ks h tt (λ k c m. m))
out_good plans hs (x ∷ xs) l ks h =
    back_safe plans hs (insides xs) x.inside l _ (h.0.1, h.0.0)
    (all_leaves_safe plans hs (all_inside xs) hs (insides xs) [] l ks (h.0.1, h.1) (within_frames (all_inside xs) (insides xs) xs (λ k c m. m) (under_itself xs))
    (λ k c m. cc))

pub item_good : (p : Source) (plans : Plans) (z : Walk) (i : Item) → z.owed ≡ [] → Rests z → Good plans (after_item p plans z i)
item_good p plans z (made l begin) is h = taking_good plans z z.coming is h
item_good p plans z (made l (trap c)) is h = all_leaves_safe plans z.held [] z.held [] [] l z.active (tt, none_held z.held) tt (λ k d m. m)
item_good p plans z (made l end) is h = resting_good plans z is h
item_good p plans z (made l (read x v)) is h = resting_good plans z is h
item_good p plans z (made l (write x v)) is h = resting_good plans z is h
item_good p plans z (made l (lock m)) is h = resting_good plans z is h
item_good p plans z (made l (unlock m)) is h = resting_good plans z is h
item_good p plans z (made l (down x)) is h = resting_good plans z is h
item_good p plans z (made l (up x)) is h = resting_good plans z is h
item_good p plans z (made l (spawn c f vs)) is h = resting_good plans z is h
item_good p plans z (made l (join c)) is h = resting_good plans z is h
item_good p plans z (made l (print v)) is h = resting_good plans z is h
item_good p plans z (begins l env) is h =
    let P : List (List Inside) → Type 0 = λ iss. Safe plans z.held iss [] (Walk.owed (after_item p plans z (begins l env))) in
    subst P (sym (insides_same (open_statement l) (λ x. refl) z.frames))
    (beginning_safe plans z.held z.held (insides z.frames) [] l (statement l) env z.active h (λ k c m. m))
item_good p plans z (done l) is h =
    let P : List (List Inside) → Type 0 = λ iss. Safe plans z.held iss [] (Walk.owed (after_item p plans z (done l))) in
    subst P (sym (insides_same close_statement (λ x. refl) z.frames))
    (behind_safe plans z.held z.held (insides z.frames) z.frames l (begun_with z.frames) z.active h (under_itself z.frames))
item_good p plans z (edge l) is h = tick_safe p plans z.held (insides z.frames) [] (place.back_edge l) (suc (length z.passed)) [] h
item_good p plans z (enter f env) is h =
    tick_safe p plans z.held ([] ∷ insides z.frames) [] (place.entry f) (suc (length z.passed)) _
    (beginning_safe plans z.held z.held ([] ∷ insides z.frames) [] (function_line p f) (function (Some f)) env z.active ((none_held z.held, h.0), h.1) (λ k c m. m))
item_good p plans z (out f) is h = out_good plans z.held z.frames (function_line p f) z.active h

-- Steps

pub owed_none : (p : Source) (z : Walk) (i : Item) (rest : List Item) → MayStand p z (goes i) rest → z.owed ≡ []
owed_none p z (made l begin) rest h = h.0
owed_none p z (made l (trap c)) rest h = h
owed_none p z (made l end) rest h = h
owed_none p z (made l (read x v)) rest h = h
owed_none p z (made l (write x v)) rest h = h
owed_none p z (made l (lock m)) rest h = h
owed_none p z (made l (unlock m)) rest h = h
owed_none p z (made l (down x)) rest h = h
owed_none p z (made l (up x)) rest h = h
owed_none p z (made l (spawn c f vs)) rest h = h
owed_none p z (made l (join c)) rest h = h
owed_none p z (made l (print v)) rest h = h
owed_none p z (begins l env) rest h = h
owed_none p z (done l) rest h = h
owed_none p z (edge l) rest h = h
owed_none p z (enter f env) rest h = h
owed_none p z (out f) rest h = h

abbrev pub is_crossing : Operation → Bool
is_crossing (cross x v n) = true
is_crossing _ = false

noted_inside : (s : Spot) (k : ℕ) (ns : List ℕ) (x : OpenFrame) → OpenFrame.inside (noted_at s k ns x) ≡ x.inside
noted_inside elsewhere k ns x = refl
noted_inside (beginning l env) k ns x = refl
noted_inside (entered f env) k ns x = refl
noted_inside (complete l) k ns x = refl
noted_inside (left f is) k ns x = refl
noted_inside (trapped l) k ns x = refl

none_leaving : (s : Spot) → leaving (left_behind s) ≡ []
none_leaving elsewhere = refl
none_leaving (beginning l env) = refl
none_leaving (entered f env) = refl
none_leaving (complete l) = refl
none_leaving (left f is) = refl
none_leaving (trapped l) = refl

frames_in : (ks : List ℕ) (fs : List OpenFrame) → insides (frames_without ks fs) ≡ each_in ks (insides fs)
frames_in ks [] = refl
frames_in ks (x ∷ xs) = ap (λ iss. without_filters ks x.inside ∷ iss) (frames_in ks xs)

leaving_in : (ks : List ℕ) (s : Spot) → leaving (spot_without ks s) ≡ without_filters ks (leaving s)
leaving_in ks elsewhere = refl
leaving_in ks (beginning l env) = refl
leaving_in ks (entered f env) = refl
leaving_in ks (complete l) = refl
leaving_in ks (left f is) = refl
leaving_in ks (trapped l) = refl

fresh_safe : (p : Source) (plans : Plans) (s : Spot) (ks : List ℕ) (hs : List (ℕ × ℕ)) (iss : List (List Inside)) (lv : List Inside) → AllHeld hs iss lv
    → Safe plans hs iss lv (owed_fresh p plans s ks)
fresh_safe p plans elsewhere ks hs iss lv h = h
fresh_safe p plans (beginning l env) ks hs iss lv h = beginning_safe plans [] hs iss lv l (statement l) env ks h (λ k c m. cc)
fresh_safe p plans (entered f env) ks hs iss lv h = beginning_safe plans [] hs iss lv (function_line p f) (function (Some f)) env ks h (λ k c m. cc)
fresh_safe p plans (complete l) ks hs iss lv h = h
fresh_safe p plans (left f is) ks hs iss lv h = h
fresh_safe p plans (trapped l) ks hs iss lv h = h

crossed_safe : (p : Source) (plans : Plans) (s : Spot) (old ks : List ℕ) (hs : List (ℕ × ℕ)) (iss : List (List Inside)) (lv : List Inside) (os : Queue)
    → Safe plans hs iss lv os → Safe plans (held_in ks hs) (each_in ks iss) (without_filters ks lv) (owed_behind_cross p plans s old ks os)
crossed_safe p plans s old ks hs iss lv [] h = all_held_in ks hs iss lv h
crossed_safe p plans s old ks hs iss lv (o ∷ os) h =
    kept_safe plans ks (owed_fresh p plans s (new_filters old ks)) (λ gs jss mv all. fresh_safe p plans s (new_filters old ks) gs jss mv all) hs iss lv (o ∷ os) h

pub crossing_good : (p : Source) (plans : Plans) (z : Walk) (vs : List Version) → Good plans z → Good plans (crossing p plans z vs)
crossing_good p plans z [] h = h
crossing_good p plans z (v ∷ vs) h =
    let ks : List ℕ = v.active in
    let os : Queue = owed_behind_cross p plans z.spot z.active ks z.owed in
    let P : List (List Inside) → Type 0 = λ iss. Safe plans (held_in ks z.held) iss (leaving (spot_without ks z.spot)) os in
    let Q : List Inside → Type 0 = λ lv. Safe plans (held_in ks z.held) (each_in ks (insides z.frames)) lv os in
    subst P (sym (frames_in ks z.frames)) (subst Q (sym (leaving_in ks z.spot))
    (crossed_safe p plans z.spot z.active ks z.held (insides z.frames) (leaving z.spot) z.owed h))

pub op_good : (p : Source) (plans : Plans) (z : Walk) (l : ℕ) (o : Operation) (rest : List Item) → MayStand p z (makes l o) rest → Good plans z
    → Good plans (after_operation p plans z o)
op_good p plans z l (wait k n) rest m h = safe_op plans z.held (insides z.frames) (leaving z.spot) z.owed l (wait k n) m h
op_good p plans z l (enters k n) rest m h = safe_op plans z.held (insides z.frames) (leaving z.spot) z.owed l (enters k n) m h
op_good p plans z l (at k ns) rest m h =
    let P : List (List Inside) → Type 0 = λ iss. Safe plans z.held iss (leaving z.spot) (without_first z.owed) in
    subst P (sym (insides_first (begun_at (plans k) z.spot k ns) (λ is. entered_regions (plans k) k ns ++ is) (λ x. noted_inside z.spot k ns _) z.frames))
    (safe_op plans z.held (insides z.frames) (leaving z.spot) z.owed l (at k ns) m h)
op_good p plans z l (past k ns) rest m h =
    let P : List (List Inside) → Type 0 = λ iss. Safe plans z.held iss (leaving z.spot) (without_first z.owed) in
    subst P (sym (insides_first (completed k ns) (λ is. filter (λ (i : Inside). not (is_left_with k ns i)) is) (λ x. refl) z.frames))
    (safe_op plans z.held (insides z.frames) (leaving z.spot) z.owed l (past k ns) m h)
op_good p plans z l (post k n) rest m h = safe_op plans z.held (insides z.frames) (leaving z.spot) z.owed l (post k n) m h
op_good p plans z l (leave k n) rest m h = safe_op plans z.held (insides z.frames) (leaving z.spot) z.owed l (leave k n) m h
op_good p plans z l back rest m h =
    let P : List Inside → Type 0 = λ lv. Safe plans z.held (insides z.frames) lv (without_first z.owed) in
    subst P (sym (none_leaving z.spot)) (safe_op plans z.held (insides z.frames) (leaving z.spot) z.owed l back m h)
op_good p plans z l (tick x) rest m h = safe_op plans z.held (insides z.frames) (leaving z.spot) z.owed l (tick x) m h
op_good p plans z l (cross x v n) rest m h = crossing_good p plans z z.coming h
op_good p plans z l (blocked w) rest m h = h

-- whether a step takes a new version
abbrev pub crosses : PartStep → Bool
crosses (goes i) = false
crosses (makes l o) = is_crossing o

abbrev pub NoneCross : List PartStep → Type 0
NoneCross [] = Unit {0}
NoneCross (s ∷ ss) = (crosses s ≡ false) × NoneCross ss

rests : (plans : Plans) (z : Walk) → Good plans z → Rests z
rests plans z h = ((safe_now plans z.held (insides z.frames) (leaving z.spot) z.owed h).0, none_held z.held)

pub walk_good : (p : Source) (plans : Plans) (z : Walk) (ss : List PartStep) (ahead : List Item) → AreWoven p plans z ss ahead → Good plans z
    → Good plans (walk_from p plans z ss)
walk_good p plans z [] ahead w h = h
walk_good p plans z (goes i ∷ ss) ahead w h =
    walk_good p plans (after_item p plans z i) ss ahead w.1 (item_good p plans z i (owed_none p z i _ w.0) (rests plans z h))
walk_good p plans z (makes l o ∷ ss) ahead w h = walk_good p plans (after_operation p plans z o) ss ahead w.1 (op_good p plans z l o _ w.0 h)

-- a thread has nothing before its begin
pub good_start : (plans : Plans) (vs : List Version) → Good plans (unborn vs)
good_start plans vs = (tt, λ k c m. cc)

frames_held : (hs : List (ℕ × ℕ)) (fs : List OpenFrame) → HeldEach hs (insides fs) → HeldAll hs (all_inside fs)
frames_held hs [] h = none_held hs
frames_held hs (x ∷ xs) h = held_append hs x.inside (all_inside xs) h.0 (frames_held hs xs h.1)

-- what it is inside it holds
pub inside_held : (plans : Plans) (z : Walk) (k c : ℕ) → Good plans z → is_inside z k c ≡ true → holds z.held k c ≡ true
inside_held plans z k c h m =
    let all = safe_now plans z.held (insides z.frames) (leaving z.spot) z.owed h in
    held_append z.held (all_inside z.frames) (leaving z.spot) (frames_held z.held z.frames all.0) all.1 k c m

-- The law: at each point of a full part a thread holds each clause whose regions it is inside.
pub inside_is_held : HasHeldRegions
inside_is_held p plans x k c h =
    inside_held plans (walk_from p plans (unborn x.versions) h.part.steps) k c
    (walk_good p plans (unborn x.versions) h.part.steps h.part.ahead h.part.woven (good_start plans x.versions)) h.is

-- What it holds is told by its entries

abbrev pub held_after : List (ℕ × ℕ) → Entry → List (ℕ × ℕ)
held_after hs (e.Enter t l k c) = (k, c) ∷ hs
held_after hs (e.Leave t l k c) = without_clause k c hs
held_after hs x = hs

abbrev pub held_by : List (ℕ × ℕ) → List Entry → List (ℕ × ℕ)
held_by hs [] = hs
held_by hs (x ∷ xs) = held_by (held_after hs x) xs

act_held : (hs : List (ℕ × ℕ)) (t l : ℕ) (a : Act) → held_after hs (entry_by t l a) ≡ hs
act_held hs t l begin = refl
act_held hs t l end = refl
act_held hs t l (trap c) = refl
act_held hs t l (read x v) = refl
act_held hs t l (write x v) = refl
act_held hs t l (lock m) = refl
act_held hs t l (unlock m) = refl
act_held hs t l (down x) = refl
act_held hs t l (up x) = refl
act_held hs t l (spawn c f vs) = refl
act_held hs t l (join c) = refl
act_held hs t l (print v) = refl

taking_held : (z : Walk) (vs : List Version) → Walk.held (taking z vs) ≡ z.held
taking_held z [] = refl
taking_held z (v ∷ vs) = refl

made_held : (p : Source) (plans : Plans) (z : Walk) (l : ℕ) (a : Act) → Walk.held (after_item p plans z (made l a)) ≡ z.held
made_held p plans z l begin = taking_held (behind_entry z) z.coming
made_held p plans z l end = refl
made_held p plans z l (trap c) = refl
made_held p plans z l (read x v) = refl
made_held p plans z l (write x v) = refl
made_held p plans z l (lock m) = refl
made_held p plans z l (unlock m) = refl
made_held p plans z l (down x) = refl
made_held p plans z l (up x) = refl
made_held p plans z l (spawn c f vs) = refl
made_held p plans z l (join c) = refl
made_held p plans z l (print v) = refl

op_told : (p : Source) (plans : Plans) (z : Walk) (t l : ℕ) (o : Operation) → is_crossing o ≡ false → Walk.held (after_operation p plans z o) ≡ held_after z.held (entry_of_operation t l o)
op_told p plans z t l (wait k n) c = refl
op_told p plans z t l (enters k n) c = refl
op_told p plans z t l (at k ns) c = refl
op_told p plans z t l (past k ns) c = refl
op_told p plans z t l (post k n) c = refl
op_told p plans z t l (leave k n) c = refl
op_told p plans z t l back c = refl
op_told p plans z t l (tick x) c = refl
op_told p plans z t l (cross x v n) c = cc
op_told p plans z t l (blocked w) c = refl

pub held_told : (p : Source) (plans : Plans) (z : Walk) (t : ℕ) (ss : List PartStep) → NoneCross ss → Walk.held (walk_from p plans z ss) ≡ held_by z.held (filter_entries t ss)
held_told p plans z t [] c = refl
held_told p plans z t (goes (made l a) ∷ ss) c =
    held_told p plans (after_item p plans z (made l a)) t ss c.1
    ∙ ap (λ hs. held_by hs (filter_entries t ss)) (made_held p plans z l a ∙ sym (act_held z.held t l a))
held_told p plans z t (goes (begins l env) ∷ ss) c = held_told p plans (after_item p plans z (begins l env)) t ss c.1
held_told p plans z t (goes (done l) ∷ ss) c = held_told p plans (after_item p plans z (done l)) t ss c.1
held_told p plans z t (goes (edge l) ∷ ss) c = held_told p plans (after_item p plans z (edge l)) t ss c.1
held_told p plans z t (goes (enter f env) ∷ ss) c = held_told p plans (after_item p plans z (enter f env)) t ss c.1
held_told p plans z t (goes (out f) ∷ ss) c = held_told p plans (after_item p plans z (out f)) t ss c.1
held_told p plans z t (makes l o ∷ ss) c = held_told p plans (after_operation p plans z o) t ss c.1 ∙ ap (λ hs. held_by hs (filter_entries t ss)) (op_told p plans z t l o c.0)

-- Entries without a `Cross`

abbrev pub is_cross : Entry → Bool
is_cross (e.Cross t l x v n) = true
is_cross _ = false

abbrev pub none_cross : List Entry → Bool
none_cross [] = true
none_cross (x ∷ xs) = not (is_cross x) && none_cross xs

op_cross : (t l : ℕ) (o : Operation) → not (is_cross (entry_of_operation t l o)) ≡ true → is_crossing o ≡ false
op_cross t l (wait k n) h = refl
op_cross t l (enters k n) h = refl
op_cross t l (at k ns) h = refl
op_cross t l (past k ns) h = refl
op_cross t l (post k n) h = refl
op_cross t l (leave k n) h = refl
op_cross t l back h = refl
op_cross t l (tick x) h = refl
op_cross t l (cross x v n) h = cc
op_cross t l (blocked w) h = refl

act_cross : (t l : ℕ) (a : Act) (b : Bool) → (not (is_cross (entry_by t l a)) && b) ≡ true → b ≡ true
act_cross t l begin b h = h
act_cross t l end b h = h
act_cross t l (trap c) b h = h
act_cross t l (read x v) b h = h
act_cross t l (write x v) b h = h
act_cross t l (lock m) b h = h
act_cross t l (unlock m) b h = h
act_cross t l (down x) b h = h
act_cross t l (up x) b h = h
act_cross t l (spawn c f vs) b h = h
act_cross t l (join c) b h = h
act_cross t l (print v) b h = h

pub steps_cross : (t : ℕ) (ss : List PartStep) → none_cross (filter_entries t ss) ≡ true → NoneCross ss
steps_cross t [] h = tt
steps_cross t (goes (made l a) ∷ ss) h = (refl, steps_cross t ss (act_cross t l a _ h))
steps_cross t (goes (begins l env) ∷ ss) h = (refl, steps_cross t ss h)
steps_cross t (goes (done l) ∷ ss) h = (refl, steps_cross t ss h)
steps_cross t (goes (edge l) ∷ ss) h = (refl, steps_cross t ss h)
steps_cross t (goes (enter f env) ∷ ss) h = (refl, steps_cross t ss h)
steps_cross t (goes (out f) ∷ ss) h = (refl, steps_cross t ss h)
steps_cross t (makes l o ∷ ss) h =
    let parts = and_parts (not (is_cross (entry_of_operation t l o))) (none_cross (filter_entries t ss)) h in
    (op_cross t l o parts.0, steps_cross t ss parts.1)

-- An `At` stands only where each clause that begins with its events is held

act_is_no_at : (t l : ℕ) (a : Act) (m k : ℕ) (ns : List ℕ) → entry_by t l a ≡ e.At t m k ns → ⊥
act_is_no_at t l begin m k ns h = cc
act_is_no_at t l end m k ns h = cc
act_is_no_at t l (trap c) m k ns h = cc
act_is_no_at t l (read x v) m k ns h = cc
act_is_no_at t l (write x v) m k ns h = cc
act_is_no_at t l (lock x) m k ns h = cc
act_is_no_at t l (unlock x) m k ns h = cc
act_is_no_at t l (down x) m k ns h = cc
act_is_no_at t l (up x) m k ns h = cc
act_is_no_at t l (spawn c f vs) m k ns h = cc
act_is_no_at t l (join c) m k ns h = cc
act_is_no_at t l (print v) m k ns h = cc

covers_of : (hs : List (ℕ × ℕ)) (plans : Plans) (j k : ℕ) (ms ns : List ℕ) → j ≡ k → ms ≡ ns → Covers hs j ms (clauses (plans j)) → Covers hs k ns (clauses (plans k))
covers_of hs plans j k ms ns e g h =
    let P : ℕ → Type 0 = λ a. Covers hs a ms (clauses (plans a)) in
    let Q : List ℕ → Type 0 = λ as'. Covers hs k as' (clauses (plans k)) in
    subst Q g (subst P e h)

at_covered : (p : Source) (plans : Plans) (z : Walk) (t l : ℕ) (o : Operation) (rest : List Item) (m k : ℕ) (ns : List ℕ) → MayStand p z (makes l o) rest → Good plans z
    → entry_of_operation t l o ≡ e.At t m k ns → Covers z.held k ns (clauses (plans k))
at_covered p plans z t l (wait j n) rest m k ns s h is = cc
at_covered p plans z t l (enters j n) rest m k ns s h is = cc
at_covered p plans z t l (at j ms) rest m k ns s h is =
    let same : j ≡ k = cc in
    let events : ms ≡ ns = cc in
    covers_of z.held plans j k ms ns same events (safe_needs plans z.held (insides z.frames) (leaving z.spot) z.owed l (at j ms) s h)
at_covered p plans z t l (past j ms) rest m k ns s h is = cc
at_covered p plans z t l (post j n) rest m k ns s h is = cc
at_covered p plans z t l (leave j n) rest m k ns s h is = cc
at_covered p plans z t l back rest m k ns s h is = cc
at_covered p plans z t l (tick x) rest m k ns s h is = cc
at_covered p plans z t l (cross x v n) rest m k ns s h is = cc
at_covered p plans z t l (blocked w) rest m k ns s h is = cc

pub covered : (p : Source) (plans : Plans) (z : Walk) (t : ℕ) (ss : List PartStep) (ahead : List Item) (front : List Entry) (m k : ℕ) (ns : List ℕ) (rest : List Entry)
    → NoneCross ss → AreWoven p plans z ss ahead → Good plans z → filter_entries t ss ≡ front ++ e.At t m k ns ∷ rest
    → Covers (held_by z.held front) k ns (clauses (plans k))
covered p plans z t [] ahead [] m k ns rest c w h is = cc
covered p plans z t [] ahead (y ∷ front) m k ns rest c w h is = cc
covered p plans z t (goes (made l a) ∷ ss) ahead [] m k ns rest c w h is =
    let first : entry_by t l a ≡ e.At t m k ns = cc in
    absurd (act_is_no_at t l a m k ns first)
covered p plans z t (goes (made l a) ∷ ss) ahead (y ∷ front) m k ns rest c w h is =
    let first : entry_by t l a ≡ y = cc in
    let others : filter_entries t ss ≡ front ++ e.At t m k ns ∷ rest = cc in
    let z1 : Walk = after_item p plans z (made l a) in
    let held : z1.held ≡ held_after z.held y = made_held p plans z l a ∙ sym (act_held z.held t l a) ∙ ap (held_after z.held) first in
    let P : List (ℕ × ℕ) → Type 0 = λ hs. Covers (held_by hs front) k ns (clauses (plans k)) in
    subst P held (covered p plans z1 t ss ahead front m k ns rest c.1 w.1 (item_good p plans z (made l a) (owed_none p z (made l a) _ w.0) (rests plans z h)) others)
covered p plans z t (goes (begins l env) ∷ ss) ahead front m k ns rest c w h is =
    covered p plans (after_item p plans z (begins l env)) t ss ahead front m k ns rest c.1 w.1 (item_good p plans z (begins l env) w.0 (rests plans z h)) is
covered p plans z t (goes (done l) ∷ ss) ahead front m k ns rest c w h is =
    covered p plans (after_item p plans z (done l)) t ss ahead front m k ns rest c.1 w.1 (item_good p plans z (done l) w.0 (rests plans z h)) is
covered p plans z t (goes (edge l) ∷ ss) ahead front m k ns rest c w h is =
    covered p plans (after_item p plans z (edge l)) t ss ahead front m k ns rest c.1 w.1 (item_good p plans z (edge l) w.0 (rests plans z h)) is
covered p plans z t (goes (enter f env) ∷ ss) ahead front m k ns rest c w h is =
    covered p plans (after_item p plans z (enter f env)) t ss ahead front m k ns rest c.1 w.1 (item_good p plans z (enter f env) w.0 (rests plans z h)) is
covered p plans z t (goes (out f) ∷ ss) ahead front m k ns rest c w h is =
    covered p plans (after_item p plans z (out f)) t ss ahead front m k ns rest c.1 w.1 (item_good p plans z (out f) w.0 (rests plans z h)) is
covered p plans z t (makes l o ∷ ss) ahead [] m k ns rest c w h is =
    let first : entry_of_operation t l o ≡ e.At t m k ns = cc in
    at_covered p plans z t l o _ m k ns w.0 h first
covered p plans z t (makes l o ∷ ss) ahead (y ∷ front) m k ns rest c w h is =
    let first : entry_of_operation t l o ≡ y = cc in
    let others : filter_entries t ss ≡ front ++ e.At t m k ns ∷ rest = cc in
    let z1 : Walk = after_operation p plans z o in
    let held : z1.held ≡ held_after z.held y = op_told p plans z t l o c.0 ∙ ap (held_after z.held) first in
    let P : List (ℕ × ℕ) → Type 0 = λ hs. Covers (held_by hs front) k ns (clauses (plans k)) in
    subst P held (covered p plans z1 t ss ahead front m k ns rest c.1 w.1 (op_good p plans z l o _ w.0 h) others)
