-- What the walk notes of a filter fits the course, where the thread takes a new version: the filter stays, goes or comes in.
use Rattle.std.proofs.Common.{ℕ, ◌≡◌, ◌==◌, ◌⊎◌, inl, inr, Bool, true, false, not, List, [], ◌∷◌, ◌++◌, flat_map, Option, Some, None, refl, sym, ap, subst, ◌∙◌, if◌then◌else◌}
use Rattle.std.specs.List.{Contains, filter}
use Rattle.loom_tree.specs.Tree.{Body, Source}
use Rattle.loom_lang.specs.Places.{Place}
use Rattle.loom_lang.specs.Trace.{Locals, begin, end, trap, read, write, lock, unlock, down, up, spawn, join, print, Item, made, begins, done, edge, enter, out}
use Rattle.loom_law.specs.Filter.{statement, function, Plan, matching, has}
use Rattle.loom_law.specs.Walk.{Version, Plans, Operation, at, past, back, Inside, OpenStatement, OpenFrame, Spot, elsewhere, beginning, entered, complete, left, trapped, Queue, Walk, function_line, without_filters, frames_without, spot_without, new_filters, owed_fresh, owed_behind_cross, still_owed, crossing, left_behind, stays, operation_filter, place_of_request, place_of_item, place_of_next}
use Rattle.loom_law.specs.FilterView.{FrameView, FilterView, with_events, with_begun}
use Rattle.loom_law.specs.ThreadPart.{leaving}
use Rattle.loom_law.specs.Paths.{Begins, watch_at, IsUnsafe}
use Rattle.loom_law.specs.Paths as path
use Rattle.loom_law.specs.OneRegion.{inside_by_frame}
use Rattle.loom_law.proofs.Course.{Level, Course, OnFirst, Runs, IsCourse, no_member}
use Rattle.loom_law.proofs.Matches.{same_number, filter_member, untested_matches}
use Rattle.loom_law.proofs.Holdings.{or_cases, or_left, or_right, pick}
use Rattle.loom_law.proofs.ActiveFilters.{fresh_among}
use Rattle.loom_law.proofs.Sight.{IsWellSited, FitsNode, AreGood, Knows, AreKnown, one_line}
use Rattle.loom_law.proofs.Unsafe.{AreClear}
use Rattle.loom_law.proofs.Sound.{FitsSpot, Is, item_clear, owed_clear}
use Rattle.loom_law.proofs.OwedEvents.{never_both, AllOwed, at_all, both_all, still_all, IsInQueue, owed_left, owed_right, at_owed, still_owed_there}
use Rattle.loom_law.proofs.RegionNests.{Noted, OnPaths, FitFrames, AnyOf, inside_each, AreOneRegion}
use Rattle.loom_law.proofs.RegionItems.{by_bool, HereAt, IsDone, AsksEvents, plain, Pending, Leaving, NoneInside, Live, IsCalled, FitsCourse, more_fit, IsCalm}
use Rattle.loom_law.proofs.RegionOperations.{Less, one_less}

-- A new version

-- regions of filters that stay

less_each : (k : ℕ) (ks : List ℕ) (zs : List OpenFrame) → Less k (inside_each (frames_without ks zs)) (inside_each zs)
less_each k ks [] = tt
less_each k ks (z ∷ zs) = ((λ i c ik. (filter_member (λ (q : Inside). has ks q.filter) z.inside i c).1), less_each k ks zs)

less_left : (k : ℕ) (ks : List ℕ) (t : Spot) (i : Inside) → Contains (leaving (spot_without ks t)) i → i.filter ≡ k → Contains (leaving t) i
less_left k ks elsewhere i c ik = c
less_left k ks (beginning l env) i c ik = c
less_left k ks (entered g env) i c ik = c
less_left k ks (complete l) i c ik = c
less_left k ks (left g is) i c ik = (filter_member (λ (q : Inside). has ks q.filter) is i c).1
less_left k ks (trapped l) i c ik = c

pub crossing_one : (p : Source) (plans : Plans) (k : ℕ) (z : Walk) (vs : List Version) → AreOneRegion k (inside_by_frame z) → AreOneRegion k (inside_by_frame (crossing p plans z vs))
crossing_one p plans k z [] h = h
crossing_one p plans k z (v ∷ vs) h =
    one_less k (inside_by_frame (crossing p plans z (v ∷ vs))) (inside_by_frame z) (less_left k v.active z.spot, less_each k v.active z.frames) h

-- what is owed in it

crossed_here : (f : Plan) (ks : List ℕ) (t : Spot) (ns : List ℕ) → HereAt f t ns → HereAt f (spot_without ks t) ns
crossed_here f ks elsewhere ns h = h
crossed_here f ks (beginning l env) ns h = h
crossed_here f ks (entered g env) ns h = h
crossed_here f ks (complete l) ns h = h
crossed_here f ks (left g is) ns h = h
crossed_here f ks (trapped l) ns h = h

crossed_done : (ks : List ℕ) (t : Spot) → IsDone t → IsDone (spot_without ks t)
crossed_done ks elsewhere h = h
crossed_done ks (beginning l env) h = h
crossed_done ks (entered g env) h = h
crossed_done ks (complete l) h = h
crossed_done ks (left g is) h = h
crossed_done ks (trapped l) h = h

stays_asked : (f : Plan) (k : ℕ) (old ks : List ℕ) (t : Spot) (o : Operation) → stays ks (operation_filter o) ≡ true → AsksEvents f k old t o → AsksEvents f k ks (spot_without ks t) o
stays_asked f k old ks t (at j ns) b h = λ e. (subst (λ q. has ks q ≡ true) e b, crossed_here f ks t ns (h e).1)
stays_asked f k old ks t (past j ns) b h = λ e. crossed_done ks t (h e)
stays_asked f k old ks t _ b h = tt

fresh_asked : (p : Source) (plans : Plans) (k : ℕ) (old ks : List ℕ) (t : Spot) → AllOwed (AsksEvents (plans k) k ks (spot_without ks t)) (owed_fresh p plans t (new_filters old ks))
fresh_asked p plans k old ks elsewhere = tt
fresh_asked p plans k old ks (beginning l env) =
    at_all (AsksEvents (plans k) k ks (beginning l env)) plans [] l (statement l) env (new_filters old ks) (plain (plans k) k ks (beginning l env))
    (λ j g e. (subst (λ m. has ks m ≡ true) e (fresh_among old ks j g), ap (λ m. matching (plans m) (statement l) env) e))
fresh_asked p plans k old ks (entered h env) =
    at_all (AsksEvents (plans k) k ks (entered h env)) plans [] (function_line p h) (function (Some h)) env (new_filters old ks) (plain (plans k) k ks (entered h env))
    (λ j g e. (subst (λ m. has ks m ≡ true) e (fresh_among old ks j g), ap (λ m. matching (plans m) (function (Some h)) env) e))
fresh_asked p plans k old ks (complete l) = tt
fresh_asked p plans k old ks (left h is) = tt
fresh_asked p plans k old ks (trapped l) = tt

crossed_asks : (p : Source) (plans : Plans) (k : ℕ) (old ks : List ℕ) (t : Spot) (os : Queue) → AllOwed (AsksEvents (plans k) k old t) os
    → AllOwed (AsksEvents (plans k) k ks (spot_without ks t)) (owed_behind_cross p plans t old ks os)
crossed_asks p plans k old ks t [] h = tt
crossed_asks p plans k old ks t (o ∷ os) h =
    both_all (AsksEvents (plans k) k ks (spot_without ks t)) (still_owed ks (o ∷ os)) (owed_fresh p plans t (new_filters old ks))
    (still_all (AsksEvents (plans k) k old t) (AsksEvents (plans k) k ks (spot_without ks t)) ks (o ∷ os) (plain (plans k) k ks (spot_without ks t))
    (λ q b a. stays_asked (plans k) k old ks t q b a) h) (fresh_asked p plans k old ks t)

crossed_called : (ks : List ℕ) (ls : List Level) (t : Spot) → IsCalled ls t → IsCalled ls (spot_without ks t)
crossed_called ks ls elsewhere h = h
crossed_called ks ls (beginning l env) h = h
crossed_called ks ls (entered g env) h = h
crossed_called ks ls (complete l) h = h
crossed_called ks ls (left g is) h = h
crossed_called ks ls (trapped l) h = h

crossed_calm : (ks : List ℕ) (t : Spot) (ns : List ℕ) → IsCalm t ns → IsCalm (spot_without ks t) ns
crossed_calm ks elsewhere ns h = h
crossed_calm ks (beginning l env) ns h = h
crossed_calm ks (entered g env) ns h = h
crossed_calm ks (complete l) ns h = h
crossed_calm ks (left g is) ns h = h
crossed_calm ks (trapped l) ns h = h

-- a filter that stays

crossed_owed : (p : Source) (plans : Plans) (k : ℕ) (old ks : List ℕ) (t : Spot) (os : Queue) (o : Operation) → (back ≡ o → ⊥) → stays ks (operation_filter o) ≡ true → IsInQueue os o
    → IsInQueue (owed_behind_cross p plans t old ks os) o
crossed_owed p plans k old ks t [] o n b h = h
crossed_owed p plans k old ks t (x ∷ os) o n b h =
    owed_left (still_owed ks (x ∷ os)) (owed_fresh p plans t (new_filters old ks)) o (still_owed_there ks (x ∷ os) o n b h)

no_back_at : (k : ℕ) (ns : List ℕ) → back ≡ at k ns → ⊥
no_back_at k ns e = cc

no_back_past : (k : ℕ) (ns : List ℕ) → back ≡ past k ns → ⊥
no_back_past k ns e = cc

fewer_frames : (f : Plan) (k : ℕ) (E : ℕ → Type 0) (X : Inside → Type 0) (ks : List ℕ) (ls : List Level) (zs : List OpenFrame) → FitFrames f k E X ls zs
    → FitFrames f k E X ls (frames_without ks zs)
fewer_frames f k E X ks [] zs h = tt
fewer_frames f k E X ks (x ∷ xs) [] h = tt
fewer_frames f k E X ks (x ∷ xs) (z ∷ zs) h =
    ((h.0.0, (λ i c ik. h.0.1 i (filter_member (λ (q : Inside). has ks q.filter) z.inside i c).1 ik)), fewer_frames f k (λ n. ⊥) (λ i. ⊥) ks xs zs h.1)

stays_live : (p : Source) (plans : Plans) (k : ℕ) (old ks : List ℕ) (t : Spot) (os : Queue) (ls : List Level) (zs : List OpenFrame) → has ks k ≡ true
    → Live (plans k) k true os ls zs → Live (plans k) k true (owed_behind_cross p plans t old ks os) ls (frames_without ks zs)
stays_live p plans k old ks t os ls zs b h =
    let os' : Queue = owed_behind_cross p plans t old ks os in
    more_fit (plans k) k (λ n. Pending k os) (λ n. Pending k os') (Leaving k os) (Leaving k os') ls (frames_without ks zs)
    (λ n a. (a.0, crossed_owed p plans k old ks t os (at k a.0) (no_back_at k a.0) b a.1))
    (λ i a. (a.0, (crossed_owed p plans k old ks t os (past k a.0) (no_back_past k a.0) b a.1.0, a.1.1)))
    (fewer_frames (plans k) k (λ n. Pending k os) (Leaving k os) ks ls zs h)

-- a filter that goes, or isn't there

gone_none : (k : ℕ) (ks : List ℕ) (zs : List OpenFrame) → has ks k ≡ false → NoneInside k (frames_without ks zs)
gone_none k ks [] b = λ i m ik. m
gone_none k ks (z ∷ zs) b = λ i m ik. by_cases (gone_none k ks zs b) i ik m
  where
    by_cases : NoneInside k (frames_without ks zs) → (i : Inside) → i.filter ≡ k → Contains (without_filters ks z.inside) i ⊎ AnyOf (inside_each (frames_without ks zs)) i → ⊥
    by_cases ih i ik (inr m) = ih i m ik
    by_cases ih i ik (inl c) =
        never_both (has ks k) (subst (λ q. has ks q ≡ true) ik (filter_member (λ (q : Inside). has ks q.filter) z.inside i c).0) b

-- a filter that comes in

-- an event without test watches the line of none of these
abbrev Unwatched : Plan → List Body → Type 0
Unwatched f [] = Unit {0}
Unwatched f (b ∷ bs) = ((l n : ℕ) → Begins b l → watch_at f n ≡ Some (record { site = statement l; test = None }) → ⊥) × Unwatched f bs

append_first : (xs ys : List ℕ) → xs ++ ys ≡ [] → xs ≡ []
append_first [] ys e = refl
append_first (x ∷ xs) ys e = cc

append_rest : (xs ys : List ℕ) → xs ++ ys ≡ [] → ys ≡ []
append_rest [] ys e = e
append_rest (x ∷ xs) ys e = cc

knows_unwatched : (f : Plan) (bs : List Body) (nss : List (List ℕ)) → Knows f bs nss → flat_map (λ (ns : List ℕ). ns) nss ≡ [] → Unwatched f bs
knows_unwatched f [] nss k e = tt
knows_unwatched f (b ∷ bs) [] k e = absurd k
knows_unwatched f (b ∷ bs) (ns ∷ nss) k e =
    let none : ns ≡ [] = append_first ns (flat_map (λ (ms : List ℕ). ms) nss) e in
    ((λ l n a u. no_member n (subst (λ (ms : List ℕ). Contains ms n) none (k.0 l n a u))), knows_unwatched f bs nss k.1 (append_rest ns (flat_map (λ (ms : List ℕ). ms) nss) e))

abbrev AllUnwatched : Plan → List Level → Type 0
AllUnwatched f [] = Unit {0}
AllUnwatched f (x ∷ xs) = Unwatched f x.opened × AllUnwatched f xs

known_unwatched : (f : Plan) (ls : List Level) (ws : List FrameView) → AreKnown f ls ws → AreClear ws → AllUnwatched f ls
known_unwatched f [] ws k c = tt
known_unwatched f (x ∷ xs) [] k c = absurd k
known_unwatched f (x ∷ xs) (w ∷ ws) k c = (knows_unwatched f x.opened w.under_way k.0 c.0.at_rest, known_unwatched f xs ws k.1 c.1)

unwatched_noted : (f : Plan) (k : ℕ) (E : ℕ → Type 0) (bs : List Body) (ss : List OpenStatement) → Unwatched f bs → Noted f k E bs ss
unwatched_noted f k E [] ss h = tt
unwatched_noted f k E (b ∷ bs) [] h = tt
unwatched_noted f k E (b ∷ bs) (s ∷ ss) h = ((λ l n a u. absurd (h.0 l n a u)), unwatched_noted f k (λ n. ⊥) bs ss h.1)

none_paths : (f : Plan) (k : ℕ) (X : Inside → Type 0) (x : Level) (ks : List ℕ) (z : OpenFrame) (zs : List OpenFrame) → NoneInside k (z ∷ zs) → OnPaths f k X x (without_filters ks z.inside)
none_paths f k X x ks z zs h i c ik = absurd (h i (inl (filter_member (λ (q : Inside). has ks q.filter) z.inside i c).1) ik)

unwatched_fit : (f : Plan) (k : ℕ) (E : ℕ → Type 0) (X : Inside → Type 0) (ks : List ℕ) (ls : List Level) (zs : List OpenFrame) → AllUnwatched f ls → NoneInside k zs
    → FitFrames f k E X ls (frames_without ks zs)
unwatched_fit f k E X ks [] zs u h = tt
unwatched_fit f k E X ks (x ∷ xs) [] u h = tt
unwatched_fit f k E X ks (x ∷ xs) (z ∷ zs) u h = (
  (unwatched_noted f k E x.opened z.statements u.0, none_paths f k X x ks z zs h),
  unwatched_fit f k (λ n. ⊥) (λ i. ⊥) ks xs zs u.1 (λ i m ik. h i (inr m) ik),
)

-- where a beginning is owed, its events come in with the filter, and only the other statements are unwatched
begun_fit : (f : Plan) (k : ℕ) (E : ℕ → Type 0) (X : Inside → Type 0) (ks : List ℕ) (x : Level) (xs : List Level) (zs : List OpenFrame)
    → ((ss : List OpenStatement) → Noted f k E x.opened ss) → AllUnwatched f xs → NoneInside k zs → FitFrames f k E X (x ∷ xs) (frames_without ks zs)
begun_fit f k E X ks x xs [] n u h = tt
begun_fit f k E X ks x xs (z ∷ zs) n u h =
    ((n z.statements, none_paths f k X x ks z zs h), unwatched_fit f k (λ m. ⊥) (λ i. ⊥) ks xs zs u (λ i m ik. h i (inr m) ik))

abbrev RestUnwatched : Plan → List Body → Type 0
RestUnwatched f [] = Unit {0}
RestUnwatched f (b ∷ bs) = Unwatched f bs

with_pending : (plans : Plans) (k : ℕ) (os : Queue) (l : ℕ) (env : Locals) (bs : List Body) (ss : List OpenStatement) → OnFirst bs (λ b cs. Begins b l)
    → ((n : ℕ) → Contains (matching (plans k) (statement l) env) n → Pending k os) → RestUnwatched (plans k) bs → Noted (plans k) k (λ n. Pending k os) bs ss
with_pending plans k os l env [] ss a e u = tt
with_pending plans k os l env (b ∷ bs) [] a e u = tt
with_pending plans k os l env (b ∷ bs) (s ∷ ss) a e u = ((λ q n begun untested. inr (there q n begun untested)), unwatched_noted (plans k) k (λ n. ⊥) bs ss u)
  where
    there : (q n : ℕ) → Begins b q → watch_at (plans k) n ≡ Some (record { site = statement q; test = None }) → Pending k os
    there q n begun untested =
        let P : ℕ → Type 0 = λ m. watch_at (plans k) n ≡ Some (record { site = statement m; test = None }) in
        e n (untested_matches (plans k) l env n (subst P (one_line b q l begun a) untested))

-- events under way, where none are

knows_begun : (f : Plan) (bs : List Body) (nss : List (List ℕ)) → Knows f bs (with_events [] nss) → flat_map (λ (ns : List ℕ). ns) nss ≡ [] → Unwatched f bs
knows_begun f bs [] k e = knows_unwatched f bs [] k e
knows_begun f bs (ns ∷ nss) k e = knows_unwatched f bs (ns ∷ nss) k e

known_begun : (f : Plan) (ls : List Level) (ws : List FrameView) → AreKnown f ls (with_begun f [] ws) → AreClear ws → AllUnwatched f ls
known_begun f [] ws k c = tt
known_begun f (x ∷ xs) [] k c = absurd k
known_begun f (x ∷ xs) (w ∷ ws) k c = (knows_begun f x.opened w.under_way k.0 c.0.at_rest, known_unwatched f xs ws k.1 c.1)

-- where no event matches here
calm_fit : (f : Plan) (k : ℕ) (E : ℕ → Type 0) (X : Inside → Type 0) (ks : List ℕ) (ls : List Level) (zs : List OpenFrame) (here_ : List ℕ) (ws : List FrameView) → here_ ≡ []
    → AreKnown f ls (with_begun f here_ ws) → AreClear ws → NoneInside k zs → FitFrames f k E X ls (frames_without ks zs)
calm_fit f k E X ks ls zs here_ ws calm known clear none =
    let P : List ℕ → Type 0 = λ q. AreKnown f ls (with_begun f q ws) in
    unwatched_fit f k E X ks ls zs (known_begun f ls ws (subst P calm known) clear) none

knows_rest : (f : Plan) (here_ : List ℕ) (bs : List Body) (nss : List (List ℕ)) → Knows f bs (with_events here_ nss) → flat_map (λ (ns : List ℕ). ns) nss ≡ [] → RestUnwatched f bs
knows_rest f here_ [] nss k e = tt
knows_rest f here_ (b ∷ bs) [] k e = absurd k
knows_rest f here_ (b ∷ bs) (ns ∷ nss) k e = knows_unwatched f bs nss k.1 (append_rest ns (flat_map (λ (ms : List ℕ). ms) nss) e)

-- of the frames below the top
known_below : (f : Plan) (here_ : List ℕ) (x : Level) (xs : List Level) (ws : List FrameView) → AreKnown f (x ∷ xs) (with_begun f here_ ws) → AreClear ws
    → RestUnwatched f x.opened × AllUnwatched f xs
known_below f here_ x xs [] k c = absurd k
known_below f here_ x xs (w ∷ ws) k c = (knows_rest f here_ x.opened w.under_way k.0 c.0.at_rest, known_unwatched f xs ws k.1 c.1)

has_new : (old ks : List ℕ) (k : ℕ) → has ks k ≡ true → has old k ≡ false → has (new_filters old ks) k ≡ true
has_new old [] k h n = cc
has_new old (j ∷ js) k h n = by_cases (λ g. has_new old js k g n) (or_cases (j == k) (has js k) h)
  where
    more : List ℕ
    more = filter (λ (m : ℕ). not (has old m)) js

    by_cases : (has js k ≡ true → has more k ≡ true) → ((j == k) ≡ true) ⊎ (has js k ≡ true) → has (if not (has old j) then j ∷ more else more) k ≡ true
    by_cases ih (inl e) =
        pick (λ (q : List ℕ). has q k ≡ true) (not (has old j)) (j ∷ more) more (λ b. or_left (j == k) (has more k) e)
        (λ b. absurd (not_new (has old j) (subst (λ m. has old m ≡ false) (sym (same_number j k e)) n) b))
      where
        not_new : (b : Bool) → b ≡ false → not b ≡ false → ⊥
        not_new true a b = cc
        not_new false a b = cc
    by_cases ih (inr g) = pick (λ (q : List ℕ). has q k ≡ true) (not (has old j)) (j ∷ more) more (λ b. or_right (j == k) (has more k) (ih g)) (λ b. ih g)

fresh_pending : (p : Source) (plans : Plans) (k : ℕ) (old ks : List ℕ) (l : ℕ) (env : Locals) (o : ℕ × Operation) (os : Queue) (n : ℕ) → has old k ≡ false → has ks k ≡ true
    → Contains (matching (plans k) (statement l) env) n → Pending k (owed_behind_cross p plans (beginning l env) old ks (o ∷ os))
fresh_pending p plans k old ks l env o os n out_ in_ c = (
  matching (plans k) (statement l) env,
  owed_right (still_owed ks (o ∷ os)) (owed_fresh p plans (beginning l env) (new_filters old ks)) (at k (matching (plans k) (statement l) env))
      (at_owed plans [] l (statement l) env (new_filters old ks) k n (has_new old ks k in_ out_) c),
)

-- something is owed at the `Cross`
owing_fit : (p : Source) (plans : Plans) (k : ℕ) (old ks : List ℕ) (ls gone : List Level) (zs : List OpenFrame) (t : Spot) (o : ℕ × Operation) (os : Queue) (here_ : List ℕ)
    (ws : List FrameView) → has old k ≡ false → has ks k ≡ true → AreGood p ls → FitsSpot ls gone t → IsCalm t here_ → AreKnown (plans k) ls (with_begun (plans k) here_ ws) → AreClear ws
    → NoneInside k zs
    → FitFrames (plans k) k (λ n. Pending k (owed_behind_cross p plans t old ks (o ∷ os))) (Leaving k (owed_behind_cross p plans t old ks (o ∷ os))) ls (frames_without ks zs)
owing_fit p plans k old ks [] gone zs t o os here_ ws out_ in_ good s calm known clear none = tt
owing_fit p plans k old ks (x ∷ xs) gone zs (beginning l env) o os here_ ws out_ in_ good s calm known clear none =
    let u = known_below (plans k) here_ x xs ws known clear in
    let P : Option path.Node → Type 0 = λ q. FitsNode x.function q x.opened in
    let os' : Queue = owed_behind_cross p plans (beginning l env) old ks (o ∷ os) in
    begun_fit (plans k) k (λ n. Pending k os') (Leaving k os') ks x xs zs
    (λ ss. with_pending plans k os' l env x.opened ss (subst P s.1 good.0.node) (λ n c. fresh_pending p plans k old ks l env o os n out_ in_ c) u.0) u.1 none
owing_fit p plans k old ks (x ∷ xs) gone zs (entered h env) o os here_ ws out_ in_ good s calm known clear none =
    let u = known_below (plans k) here_ x xs ws known clear in
    let P : Option path.Node → Type 0 = λ q. FitsNode x.function q x.opened in
    let os' : Queue = owed_behind_cross p plans (entered h env) old ks (o ∷ os) in
    begun_fit (plans k) k (λ n. Pending k os') (Leaving k os') ks x xs zs (λ ss. of_none os' x.opened ss (subst P s.1 good.0.node)) u.1 none
  where
    of_none : (q : Queue) (bs : List Body) (ss : List OpenStatement) → FitsNode x.function None bs → Noted (plans k) k (λ n. Pending k q) bs ss
    of_none q [] ss a = tt
    of_none q (b ∷ bs) ss a = absurd a
owing_fit p plans k old ks (x ∷ xs) gone zs elsewhere o os here_ ws out_ in_ good s calm known clear none =
    calm_fit (plans k) k _ _ ks (x ∷ xs) zs here_ ws calm known clear none
owing_fit p plans k old ks (x ∷ xs) gone zs (complete l) o os here_ ws out_ in_ good s calm known clear none =
    calm_fit (plans k) k _ _ ks (x ∷ xs) zs here_ ws calm known clear none
owing_fit p plans k old ks (x ∷ xs) gone zs (left h is) o os here_ ws out_ in_ good s calm known clear none =
    calm_fit (plans k) k _ _ ks (x ∷ xs) zs here_ ws calm known clear none
owing_fit p plans k old ks (x ∷ xs) gone zs (trapped l) o os here_ ws out_ in_ good s calm known clear none =
    calm_fit (plans k) k _ _ ks (x ∷ xs) zs here_ ws calm known clear none

some_same : (x y : Place) → Some x ≡ Some y → x ≡ y
some_same x y e = cc

none_some : {B : Type 0} (y : Place) → None ≡ Some y → B
none_some y e = cc

-- the place of an item is that of the items that begin with it
one_item : (z : Walk) (i : Item) (is : List Item) → place_of_item z (i ∷ is) ≡ place_of_item z (i ∷ [])
one_item z (made l begin) is = refl
one_item z (made l end) is = refl
one_item z (made l (trap c)) is = refl
one_item z (made l (read x v)) is = refl
one_item z (made l (write x v)) is = refl
one_item z (made l (lock m)) is = refl
one_item z (made l (unlock m)) is = refl
one_item z (made l (down x)) is = refl
one_item z (made l (up x)) is = refl
one_item z (made l (spawn c h vs)) is = refl
one_item z (made l (join c)) is = refl
one_item z (made l (print v)) is = refl
one_item z (begins l env) is = refl
one_item z (done l) is = refl
one_item z (edge l) is = refl
one_item z (enter h env) is = refl
one_item z (out h) is = refl

opened_runs : (p : Source) (bs : List Body) (Q R : Body → List Body → Type 0) → ((b : Body) (cs : List Body) → Q b cs → R b cs) → OnFirst bs Q → OnFirst bs R
opened_runs p [] Q R g h = h
opened_runs p (b ∷ bs) Q R g h = g b bs h

level_runs : (ls : List Level) (Q R : Level → List Level → Type 0) → ((x : Level) (xs : List Level) → Q x xs → R x xs) → OnFirst ls Q → OnFirst ls R
level_runs [] Q R g h = h
level_runs (x ∷ xs) Q R g h = g x xs h

-- an item runs, wherever it leads
runs_anywhere : (p : Source) (s : Course) (i : Item) (P : Course → Type 0) → Runs p s i P → Runs p s i (λ s'. Unit {0})
runs_anywhere p s (made l begin) P r = (r.0, (r.1.0, tt))
runs_anywhere p s (made l end) P r = (r.0, tt)
runs_anywhere p s (made l (trap c)) P r = (r.0, tt)
runs_anywhere p s (made l (read x v)) P r = (r.0, tt)
runs_anywhere p s (made l (write x v)) P r = (r.0, tt)
runs_anywhere p s (made l (lock m)) P r = (r.0, tt)
runs_anywhere p s (made l (unlock m)) P r = (r.0, tt)
runs_anywhere p s (made l (down x)) P r = (r.0, tt)
runs_anywhere p s (made l (up x)) P r = (r.0, tt)
runs_anywhere p s (made l (spawn c h vs)) P r = (r.0, tt)
runs_anywhere p s (made l (join c)) P r = (r.0, tt)
runs_anywhere p s (made l (print v)) P r = (r.0, tt)
runs_anywhere p s (begins l env) P r = level_runs s.levels _ _ (λ x xs q. (q.0, (q.1.0, (q.1.1.0, (q.1.1.1.0, tt))))) r
runs_anywhere p s (done l) P r = level_runs s.levels _ _ (λ x xs q. opened_runs p x.opened _ _ (λ b bs u. (u.0, (u.1.0, tt))) q) r
runs_anywhere p s (edge l) P r = level_runs s.levels _ _ (λ x xs q. opened_runs p x.opened _ _ (λ b bs u. (u.0, (u.1.0, tt))) q) r
runs_anywhere p s (enter h env) P r = (r.0, (r.1.0, (r.1.1.0, tt)))
runs_anywhere p s (out h) P r = level_runs s.levels _ _ (λ x xs q. (q.0, (q.1.0, (q.1.1.0, tt)))) r

-- A filter that comes in at a safe place begins with nothing: no region of it is noted, and no event of it could be under way.
comes_in : (p : Source) (plans : Plans) (k : ℕ) (s : Course) (z : Walk) (w : FilterView) (ks : List ℕ) (rest : List Item) (y : Place) (os : Queue) → IsWellSited (plans k)
    → Is p (plans k) s z w → IsCalm z.spot w.here → IsCourse p s rest → z.owed ≡ os → place_of_next z os rest ≡ Some y → (IsUnsafe p (plans k) y → ⊥) → NoneInside k z.frames
    → has z.active k ≡ false → has ks k ≡ true
    → FitFrames (plans k) k (λ n. Pending k (owed_behind_cross p plans z.spot z.active ks os)) (Leaving k (owed_behind_cross p plans z.spot z.active ks os)) s.levels
    (frames_without ks z.frames)
comes_in p plans k s z w ks [] y [] well is calm c o e safe none out_ in_ = none_some y e
comes_in p plans k s z w ks (i ∷ rest) y [] well is calm c o e safe none out_ in_ =
    let clear : AreClear (with_begun (plans k) w.here w.frames) =
    item_clear p (plans k) s z w y i well is (runs_anywhere p s i (λ s'. IsCourse p s' rest) c) o (sym (one_item z i rest) ∙ e) safe in
    unwatched_fit (plans k) k (λ n. Pending k []) (Leaving k []) ks s.levels z.frames
    (known_unwatched (plans k) s.levels (with_begun (plans k) w.here w.frames) is.sees.knows clear) none
comes_in p plans k s z w ks rest y (o ∷ os) well is calm c q e safe none out_ in_ =
    let there : place_of_request z.spot (o ∷ os) z.frames ≡ y = ap (λ rs. place_of_request z.spot rs z.frames) (sym q) ∙ some_same _ y e in
    let clear = owed_clear p (plans k) s z w y o os z.spot well is is.spot there safe in
    owing_fit p plans k z.active ks s.levels s.gone z.frames z.spot o os w.here w.frames out_ in_ is.good is.spot calm is.sees.knows clear.0 none

pub crossing_fits : (p : Source) (plans : Plans) (k : ℕ) (s : Course) (z : Walk) (w : FilterView) (vs : List Version) (rest : List Item) (y : Place) → IsWellSited (plans k)
    → Is p (plans k) s z w → IsCalm z.spot w.here → IsCourse p s rest → place_of_next z z.owed rest ≡ Some y
    → (has z.active k ≡ false → has (Walk.active (crossing p plans z vs)) k ≡ true → IsUnsafe p (plans k) y → ⊥) → FitsCourse (plans k) k s.levels z
    → FitsCourse (plans k) k s.levels (crossing p plans z vs)
crossing_fits p plans k s z w [] rest y well is calm c e safe h = h
crossing_fits p plans k s z w (v ∷ vs) rest y well is calm c e safe h = record {
  asks = crossed_asks p plans k z.active v.active z.spot z.owed h.asks;
  live = by_bool (has v.active k)
      (λ b. subst P (sym b) (by_bool (has z.active k)
      (λ a. stays_live p plans k z.active v.active z.spot z.owed s.levels z.frames b (subst Q a h.live))
      (λ a. comes_in p plans k s z w v.active rest y z.owed well is calm c refl e (safe a b) (subst Q a h.live) a b)))
      (λ b. subst P (sym b) (gone_none k v.active z.frames b));
  called = crossed_called v.active s.levels z.spot h.called;
}
  where
    P : Bool → Type 0
    P b = Live (plans k) k b (owed_behind_cross p plans z.spot z.active v.active z.owed) s.levels (frames_without v.active z.frames)

    Q : Bool → Type 0
    Q b = Live (plans k) k b z.owed s.levels z.frames

pub crossing_calm : (p : Source) (plans : Plans) (z : Walk) (vs : List Version) (ns : List ℕ) → IsCalm z.spot ns → IsCalm (Walk.spot (crossing p plans z vs)) ns
crossing_calm p plans z [] ns h = h
crossing_calm p plans z (v ∷ vs) ns h = crossed_calm v.active z.spot ns h

-- a frame is left
pub back_calm : (t : Spot) (ns : List ℕ) → IsCalm t ns → IsCalm (left_behind t) ns
back_calm elsewhere ns h = h
back_calm (beginning l env) ns h = h
back_calm (entered g env) ns h = h
back_calm (complete l) ns h = h
back_calm (left g is) ns h = h
back_calm (trapped l) ns h = h
