-- Unsafe places are sound.
use Rattle.std.proofs.Common.{ℕ, ◌≡◌, ◌⊎◌, inl, inr, List, [], ◌∷◌, ◌++◌, slice_get, Option, Some, None, refl, sym, ap, subst, ◌∙◌, if◌then◌else◌}
use Rattle.std.specs.List.{Contains}
use Rattle.std.proofs.lemmas.List.Elements.{Contains-append_left, Contains-append_right}
use Rattle.loom_tree.specs.Tree.{Body, Function, Source}
use Rattle.loom_lang.specs.Places.{Place, body_places}
use Rattle.loom_lang.specs.Places as place
use Rattle.loom_lang.specs.Trace.{Locals, begin, end, trap, read, write, lock, unlock, down, up, spawn, join, print, Item, made, begins, done, edge, enter, out}
use Rattle.loom_law.specs.Filter.{Plan, statement, matching}
use Rattle.loom_law.specs.Walk.{Version, Plans, Operation, wait, enters, at, past, post, leave, back, tick, cross, blocked, PartStep, goes, makes, items, OpenStatement, OpenFrame, Spot, elsewhere, beginning, entered, complete, left, trapped, Queue, Walk, unborn, in_frame, open_statement, close_statement, completed, without_first, taking, behind_entry, after_item, note_events, noted_at, begun_at, left_behind, frames_without, spot_without, crossing, after_operation, walk_from, innermost, place_of_request, place_of_next}
use Rattle.loom_law.specs.FilterView as view
use Rattle.loom_law.specs.FilterView.{FrameView, FilterView, nothing_seen, settled, seen_item, seen_step, seen_from, IsClear}
use Rattle.loom_law.specs.Paths.{Node, statements, Begins, places_in, places_of, IsUnsafe, Halts, node_places}
use Rattle.loom_law.specs.Paths as path
use Rattle.loom_law.specs.ThreadPart.{walk_of}
use Rattle.loom_law.specs.Laws.{IsSound}
use Rattle.loom_law.proofs.Course.{Level, Course, no_frames, AreNone, OnFirst, Follows, IsWithin, Acts, IsNested, AllReturn, IsLoop, moved, at_level, Runs, IsCourse, contains_first, contains_later, trace_is_course}
use Rattle.loom_law.proofs.Sight.{IsWellSited, FitsNode, IsGood, AreGood, AreGone, AreFit, AreKnown, IsFresh, AreLeaving, Sees, begun_fits, none_here, known_again, one_line, loop_begins, begins_seen, done_seen, edge_seen, enter_seen, out_seen}
use Rattle.loom_law.proofs.Unsafe.{statement_places, own_place, loop_place, others_in, AreRound, IsHere, IsClearOf, own_clear, reached_first, AreClear, below_clear, all_clear, clear_append, none_inside, none_under_way}

-- The walk has the frames of the course

abbrev pub SameLines : List Body → List OpenStatement → Type 0
SameLines [] [] = Unit {0}
SameLines [] (s ∷ ss) = ⊥
SameLines (b ∷ bs) [] = ⊥
SameLines (b ∷ bs) (s ∷ ss) = Begins b s.line × SameLines bs ss

abbrev pub SameFrames : List Level → List OpenFrame → Type 0
SameFrames [] [] = Unit {0}
SameFrames [] (z ∷ zs) = ⊥
SameFrames (x ∷ xs) [] = ⊥
SameFrames (x ∷ xs) (z ∷ zs) = (z.func ≡ x.func) × (SameLines x.opened z.statements × SameFrames xs zs)

abbrev pub TopActs : List Level → Type 0
TopActs [] = Unit {0}
TopActs (x ∷ xs) = (l : ℕ) × IsWithin x.node l

abbrev pub FitsSpot : List Level → List Level → Spot → Type 0
FitsSpot ls gone elsewhere = AreNone gone × TopActs ls
FitsSpot ls gone (beginning l env) = AreNone gone × OnFirst ls (λ (x : Level) xs. x.node ≡ Some (path.begins l))
FitsSpot ls gone (entered h env) = AreNone gone × OnFirst ls (λ (x : Level) xs. x.node ≡ None)
FitsSpot ls gone (complete l) = AreNone gone × OnFirst ls (λ (x : Level) xs. x.node ≡ Some (path.complete l))
FitsSpot ls gone (left h is) = OnFirst gone (λ (x : Level) xs. h ≡ x.func)
FitsSpot ls gone (trapped l) = AreNone ls × AreNone gone

-- the thread is there in the tree, and the filter sees of it what fits
pub record Is (p : Source) (f : Plan) (s : Course) (z : Walk) (w : FilterView) : Type 0 where
  pub good : AreGood p s.levels
  pub gone : AreGone p s.levels s.gone
  pub sees : Sees f s w
  pub frames : SameFrames s.levels z.frames
  pub spot : FitsSpot s.levels s.gone z.spot

-- Items

none_fit : (f : Plan) (ls : List Level) (ys : List FrameView) → AreNone ls → AreFit f ls ys → AreFit f [] ys
none_fit f [] ys n h = h
none_fit f (x ∷ xs) ys n h = absurd n

none_same : (ls : List Level) (zs : List OpenFrame) → AreNone ls → SameFrames ls zs → SameFrames [] zs
none_same [] zs n h = h
none_same (x ∷ xs) zs n h = absurd n

nothing_sees : (f : Plan) → Sees f no_frames nothing_seen
nothing_sees f = record { fits = tt; here = tt; knows = tt; fresh = tt; leaving = tt }

taking_frames : (ls : List Level) (z : Walk) (vs : List Version) → SameFrames ls z.frames → SameFrames ls (Walk.frames (taking z vs))
taking_frames ls z [] h = h
taking_frames ls z (v ∷ vs) h = h

taking_spot : (z : Walk) (vs : List Version) → FitsSpot [] [] z.spot → FitsSpot [] [] (Walk.spot (taking z vs))
taking_spot z [] h = h
taking_spot z (v ∷ vs) h = h

within_not_none : (m : Option Node) (l : ℕ) → IsWithin m l → m ≡ None → ⊥
within_not_none None l h e = h
within_not_none (Some n) l h e = cc

acts_not_fresh : (f : Plan) (ls : List Level) (l : ℕ) (ys : List FrameView) → Acts ls l → AreFit f ls ys → IsFresh ls ys
acts_not_fresh f [] l ys a h = absurd a
acts_not_fresh f (x ∷ xs) l [] a h = absurd h
acts_not_fresh f (x ∷ xs) l (y ∷ ys) a h = λ e. absurd (within_not_none x.node l a.0 e)

acts_top : (ls : List Level) (l : ℕ) → Acts ls l → TopActs ls
acts_top [] l a = tt
acts_top (x ∷ xs) l a = (l, a.0)

abbrev now : Plan → FilterView → List FrameView
now f w = view.with_begun f w.here w.frames

act_keeps : (p : Source) (f : Plan) (s : Course) (z : Walk) (w : FilterView) (l : ℕ) → IsWellSited f → Is p f s z w → Acts s.levels l
    → Is p f (record s { gone = [] }) (behind_entry z) (settled f w)
act_keeps p f s z w l well is a =
    let fit : AreFit f s.levels (now f w) = begun_fits p f s.levels w.here w.frames well is.good is.sees.here is.sees.fits in
    record {
      good = is.good;
      gone = tt;
      sees = record {
        fits = fit;
        here = none_here f s.levels;
        knows = known_again f s.levels (now f w) is.sees.knows;
        fresh = acts_not_fresh f s.levels l (now f w) a fit;
        leaving = tt;
      };
      frames = is.frames;
      spot = (tt, acts_top s.levels l a);
    }

same_begins : (x : Level) (xs : List Level) (zs : List OpenFrame) (l : ℕ) (b : Body) → Begins b l → SameFrames (x ∷ xs) zs
    → SameFrames (moved x (path.begins l) (b ∷ x.opened) ∷ xs) (in_frame (open_statement l) zs)
same_begins x xs [] l b begun h = absurd h
same_begins x xs (z ∷ zs) l b begun h = (h.0, ((begun, h.1.0), h.1.1))

same_rest : (b : Body) (bs : List Body) (ss : List OpenStatement) → SameLines (b ∷ bs) ss → SameLines bs (without_first ss)
same_rest b bs [] h = absurd h
same_rest b bs (s ∷ ss) h = h.1

abbrev lv : ℕ → Function → Option Node → List Body → Level
lv g fn m os = record { func = g; function = fn; node = m; opened = os }

same_done : (g : ℕ) (fn : Function) (m n : Option Node) (b : Body) (bs : List Body) (xs : List Level) (zs : List OpenFrame) → SameFrames (lv g fn m (b ∷ bs) ∷ xs) zs
    → SameFrames (lv g fn n bs ∷ xs) (in_frame close_statement zs)
same_done g fn m n b bs xs [] h = absurd h
same_done g fn m n b bs xs (z ∷ zs) h = (h.0, (same_rest b bs z.statements h.1.0, h.1.1))

same_edge : (g : ℕ) (fn : Function) (m n : Option Node) (os : List Body) (xs : List Level) (zs : List OpenFrame) → SameFrames (lv g fn m os ∷ xs) zs → SameFrames (lv g fn n os ∷ xs) zs
same_edge g fn m n os xs [] h = absurd h
same_edge g fn m n os xs (z ∷ zs) h = h

same_out : (x : Level) (xs : List Level) (zs : List OpenFrame) → SameFrames (x ∷ xs) zs → SameFrames xs (without_first zs)
same_out x xs [] h = absurd h
same_out x xs (z ∷ zs) h = h.1.1

-- where an item leads to
abbrev Leads : Source → Plan → (Course → Type 0) → Walk → FilterView → Type 0
Leads p f P z w = (s : Course) × (P s × Is p f s z w)

begins_keeps : (p : Source) (plans : Plans) (f : Plan) (ls : List Level) (z : Walk) (ys : List FrameView) (l : ℕ) (env : Locals) (P : Course → Type 0) → AreGood p ls
    → SameFrames ls z.frames → AreFit f ls ys → AreKnown f ls ys → Runs p (record { levels = ls; gone = [] }) (begins l env) P
    → Leads p f P (after_item p plans z (begins l env)) (record { frames = view.with_statement ys; leaving = []; here = matching f (statement l) env })
begins_keeps p plans f [] z ys l env P good same fit k r = absurd r
begins_keeps p plans f (x ∷ xs) z ys l env P good same fit k (b, (begun, (there, (fol, done_there)))) = (
  at_level (moved x (path.begins l) (b ∷ x.opened)) xs,
  (
    done_there,
    record {
      good = (record { is = good.0.is; opened = (there.0, (there.1, good.0.opened)); node = begun }, good.1);
      gone = tt;
      sees = begins_seen f x xs l env b ys begun fol fit k;
      frames = same_begins x xs z.frames l b begun same;
      spot = (tt, refl);
    },
  ),
)

done_keeps : (p : Source) (plans : Plans) (f : Plan) (g : ℕ) (fn : Function) (m : Option Node) (os : List Body) (xs : List Level) (z : Walk) (ys : List FrameView) (l : ℕ)
    (P : Course → Type 0) → AreGood p (lv g fn m os ∷ xs) → SameFrames (lv g fn m os ∷ xs) z.frames → AreFit f (lv g fn m os ∷ xs) ys
    → AreKnown f (lv g fn m os ∷ xs) ys → Runs p (record { levels = lv g fn m os ∷ xs; gone = [] }) (done l) P
    → Leads p f P (after_item p plans z (done l)) (record { frames = view.with_all_complete ys; leaving = []; here = [] })
done_keeps p plans f g fn m [] xs z ys l P good same fit k r = absurd r
done_keeps p plans f g fn m (b ∷ bs) xs z ys l P good same fit k r = (
  at_level (lv g fn (Some (path.complete l)) bs) xs,
  (
    r.1.1,
    record {
      good = (record { is = good.0.is; opened = good.0.opened.1.1; node = (b, (r.0, (good.0.opened.0, good.0.opened.1.0))) }, good.1);
      gone = tt;
      sees = done_seen f g fn m b bs xs l ys r.0 r.1.0 fit k;
      frames = same_done g fn m (Some (path.complete l)) b bs xs z.frames same;
      spot = (tt, refl);
    },
  ),
)

edge_keeps : (p : Source) (plans : Plans) (f : Plan) (g : ℕ) (fn : Function) (m : Option Node) (os : List Body) (xs : List Level) (z : Walk) (ys : List FrameView) (l : ℕ)
    (P : Course → Type 0) → AreGood p (lv g fn m os ∷ xs) → SameFrames (lv g fn m os ∷ xs) z.frames → AreFit f (lv g fn m os ∷ xs) ys
    → AreKnown f (lv g fn m os ∷ xs) ys → Runs p (record { levels = lv g fn m os ∷ xs; gone = [] }) (edge l) P
    → Leads p f P (after_item p plans z (edge l)) (record { frames = ys; leaving = []; here = [] })
edge_keeps p plans f g fn m [] xs z ys l P good same fit k r = absurd r
edge_keeps p plans f g fn m (b ∷ bs) xs z ys l P good same fit k r = (
  at_level (lv g fn (Some (path.turns l)) (b ∷ bs)) xs,
  (
    r.1.1,
    record {
      good = (record { is = good.0.is; opened = good.0.opened; node = r.0 }, good.1);
      gone = tt;
      sees = edge_seen f g fn m (b ∷ bs) xs l ys r.1.0 fit k;
      frames = same_edge g fn m (Some (path.turns l)) (b ∷ bs) xs z.frames same;
      spot = (tt, (l, refl));
    },
  ),
)

out_keeps : (p : Source) (plans : Plans) (f : Plan) (x : Level) (xs : List Level) (z : Walk) (ys : List FrameView) (h : ℕ) (P : Course → Type 0) → AreGood p (x ∷ xs)
    → SameFrames (x ∷ xs) z.frames → AreFit f (x ∷ xs) ys → AreKnown f (x ∷ xs) ys → Runs p (record { levels = x ∷ xs; gone = [] }) (out h) P
    → Leads p f P (after_item p plans z (out h)) (record { frames = view.other_frames ys; leaving = if view.is_empty (Walk.owed (after_item p plans z (out h))) then [] else view.first_frame ys; here = [] })
out_keeps p plans f x xs z ys h P good same fit k r = (
  record { levels = xs; gone = x ∷ [] },
  (
    r.1.1.1,
    record {
      good = good.1.1;
      gone = (good.0, (good.1.0, (r.1.1.0, r.1.0)));
      sees = out_seen p f x xs ys (Walk.owed (after_item p plans z (out h))) good.1.0 fit k;
      frames = same_out x xs z.frames same;
      spot = r.0;
    },
  ),
)

nothing_gone : {A : Type 0} (xs : List A) → AreNone xs → xs ≡ []
nothing_gone [] h = refl
nothing_gone (x ∷ xs) h = absurd h

begin_keeps : (p : Source) (f : Plan) (s : Course) (z : Walk) (w : FilterView) → IsWellSited f → Is p f s z w → AreNone s.levels
    → Is p f no_frames (taking (behind_entry z) z.coming) (settled f w)
begin_keeps p f s z w well is n =
    let fit : AreFit f [] (now f w) = none_fit f s.levels (now f w) n (begun_fits p f s.levels w.here w.frames well is.good is.sees.here is.sees.fits) in
    record {
      good = tt;
      gone = tt;
      sees = record { fits = fit; here = tt; knows = tt; fresh = tt; leaving = tt };
      frames = taking_frames [] (behind_entry z) z.coming (none_same s.levels z.frames n is.frames);
      spot = taking_spot (behind_entry z) z.coming (tt, tt);
    }

fitted : (p : Source) (f : Plan) (s : Course) (z : Walk) (w : FilterView) → IsWellSited f → Is p f s z w → AreFit f s.levels (now f w)
fitted p f s z w well is = begun_fits p f s.levels w.here w.frames well is.good is.sees.here is.sees.fits

pub item_keeps : (p : Source) (plans : Plans) (f : Plan) (s : Course) (z : Walk) (w : FilterView) (i : Item) (P : Course → Type 0) → IsWellSited f → Is p f s z w → Runs p s i P
    → Leads p f P (after_item p plans z i) (seen_item f (after_item p plans z i) (settled f w) i)
item_keeps p plans f s z w (made l begin) P well is r = (no_frames, (r.1.1, begin_keeps p f s z w well is r.0))
item_keeps p plans f s z w (made l end) P well is r =
    (no_frames, (r.1, record { good = tt; gone = tt; sees = nothing_sees f; frames = none_same s.levels z.frames r.0 is.frames; spot = (tt, tt) }))
item_keeps p plans f s z w (made l (trap c)) P well is r =
    (no_frames, (r.1, record { good = tt; gone = tt; sees = nothing_sees f; frames = tt; spot = (tt, tt) }))
item_keeps p plans f s z w (made l (read x v)) P well is r = (record s { gone = [] }, (r.1, act_keeps p f s z w l well is r.0))
item_keeps p plans f s z w (made l (write x v)) P well is r = (record s { gone = [] }, (r.1, act_keeps p f s z w l well is r.0))
item_keeps p plans f s z w (made l (lock m)) P well is r = (record s { gone = [] }, (r.1, act_keeps p f s z w l well is r.0))
item_keeps p plans f s z w (made l (unlock m)) P well is r = (record s { gone = [] }, (r.1, act_keeps p f s z w l well is r.0))
item_keeps p plans f s z w (made l (down x)) P well is r = (record s { gone = [] }, (r.1, act_keeps p f s z w l well is r.0))
item_keeps p plans f s z w (made l (up x)) P well is r = (record s { gone = [] }, (r.1, act_keeps p f s z w l well is r.0))
item_keeps p plans f s z w (made l (spawn c h vs)) P well is r = (record s { gone = [] }, (r.1, act_keeps p f s z w l well is r.0))
item_keeps p plans f s z w (made l (join c)) P well is r = (record s { gone = [] }, (r.1, act_keeps p f s z w l well is r.0))
item_keeps p plans f s z w (made l (print v)) P well is r = (record s { gone = [] }, (r.1, act_keeps p f s z w l well is r.0))
item_keeps p plans f s z w (begins l env) P well is r =
    begins_keeps p plans f s.levels z (now f w) l env P is.good is.frames (fitted p f s z w well is) is.sees.knows r
item_keeps p plans f s z w (done l) P well is r = on_levels s.levels is.good is.frames (fitted p f s z w well is) is.sees.knows r
  where
    on_levels : (ls : List Level) → AreGood p ls → SameFrames ls z.frames → AreFit f ls (now f w) → AreKnown f ls (now f w)
        → Runs p (record { levels = ls; gone = [] }) (done l) P → Leads p f P (after_item p plans z (done l)) (record { frames = view.with_all_complete (now f w); leaving = []; here = [] })
    on_levels [] g same fit k r' = absurd r'
    on_levels (x ∷ xs) g same fit k r' = done_keeps p plans f x.func x.function x.node x.opened xs z (now f w) l P g same fit k r'
item_keeps p plans f s z w (edge l) P well is r = on_levels s.levels is.good is.frames (fitted p f s z w well is) is.sees.knows r
  where
    on_levels : (ls : List Level) → AreGood p ls → SameFrames ls z.frames → AreFit f ls (now f w) → AreKnown f ls (now f w)
        → Runs p (record { levels = ls; gone = [] }) (edge l) P → Leads p f P (after_item p plans z (edge l)) (record { frames = now f w; leaving = []; here = [] })
    on_levels [] g same fit k r' = absurd r'
    on_levels (x ∷ xs) g same fit k r' = edge_keeps p plans f x.func x.function x.node x.opened xs z (now f w) l P g same fit k r'
item_keeps p plans f s z w (enter h env) P well is r = (
  at_level (lv h r.1.0 None []) s.levels,
  (
    r.1.1.1,
    record {
      good = (record { is = r.1.1.0; opened = tt; node = tt }, (r.0, is.good));
      gone = tt;
      sees = enter_seen f h r.1.0 env s.levels (now f w) (fitted p f s z w well is) is.sees.knows;
      frames = (refl, (tt, is.frames));
      spot = (tt, refl);
    },
  ),
)
item_keeps p plans f s z w (out h) P well is r = on_levels s.levels is.good is.frames (fitted p f s z w well is) is.sees.knows r
  where
    on_levels : (ls : List Level) → AreGood p ls → SameFrames ls z.frames → AreFit f ls (now f w) → AreKnown f ls (now f w)
        → Runs p (record { levels = ls; gone = [] }) (out h) P
        → Leads p f P (after_item p plans z (out h)) (record { frames = view.other_frames (now f w); leaving = if view.is_empty (Walk.owed (after_item p plans z (out h))) then [] else view.first_frame (now f w); here = [] })
    on_levels [] g same fit k r' = absurd r'
    on_levels (x ∷ xs) g same fit k r' = out_keeps p plans f x xs z (now f w) h P g same fit k r'

-- Operations

same_in_frame : (h : OpenFrame → OpenFrame) → ((x : OpenFrame) → OpenFrame.func (h x) ≡ x.func) → ((x : OpenFrame) (os : List Body) → SameLines os x.statements → SameLines os (OpenFrame.statements (h x)))
    → (ls : List Level) (zs : List OpenFrame) → SameFrames ls zs → SameFrames ls (in_frame h zs)
same_in_frame h a b [] [] s = s
same_in_frame h a b [] (z ∷ zs) s = absurd s
same_in_frame h a b (x ∷ xs) [] s = s
same_in_frame h a b (x ∷ xs) (z ∷ zs) s = (a z ∙ s.0, (b z x.opened s.1.0, s.1.1))

noted_lines : (k : ℕ) (ns : List ℕ) (os : List Body) (ss : List OpenStatement) → SameLines os ss → SameLines os (note_events k ns ss)
noted_lines k ns [] [] h = h
noted_lines k ns [] (s ∷ ss) h = absurd h
noted_lines k ns (b ∷ bs) [] h = h
noted_lines k ns (b ∷ bs) (s ∷ ss) h = h

noted_func : (t : Spot) (k : ℕ) (ns : List ℕ) (x : OpenFrame) → OpenFrame.func (noted_at t k ns x) ≡ x.func
noted_func elsewhere k ns x = refl
noted_func (beginning l env) k ns x = refl
noted_func (entered h env) k ns x = refl
noted_func (complete l) k ns x = refl
noted_func (left h is) k ns x = refl
noted_func (trapped l) k ns x = refl

noted_at_lines : (t : Spot) (k : ℕ) (ns : List ℕ) (x : OpenFrame) (os : List Body) → SameLines os x.statements → SameLines os (OpenFrame.statements (noted_at t k ns x))
noted_at_lines elsewhere k ns x os h = h
noted_at_lines (beginning l env) k ns x os h = noted_lines k ns os x.statements h
noted_at_lines (entered g env) k ns x os h = h
noted_at_lines (complete l) k ns x os h = h
noted_at_lines (left g is) k ns x os h = h
noted_at_lines (trapped l) k ns x os h = h

without_lines : (ks : List ℕ) (ls : List Level) (zs : List OpenFrame) → SameFrames ls zs → SameFrames ls (frames_without ks zs)
without_lines ks [] [] s = s
without_lines ks [] (z ∷ zs) s = absurd s
without_lines ks (x ∷ xs) [] s = s
without_lines ks (x ∷ xs) (z ∷ zs) s = (s.0, (s.1.0, without_lines ks xs zs s.1.1))

left_spot : (ls gone : List Level) (t : Spot) → FitsSpot ls gone t → FitsSpot ls gone (left_behind t)
left_spot ls gone elsewhere h = h
left_spot ls gone (beginning l env) h = h
left_spot ls gone (entered g env) h = h
left_spot ls gone (complete l) h = h
left_spot ls gone (left g is) h = h
left_spot ls gone (trapped l) h = h

without_spot : (ks : List ℕ) (ls gone : List Level) (t : Spot) → FitsSpot ls gone t → FitsSpot ls gone (spot_without ks t)
without_spot ks ls gone elsewhere h = h
without_spot ks ls gone (beginning l env) h = h
without_spot ks ls gone (entered g env) h = h
without_spot ks ls gone (complete l) h = h
without_spot ks ls gone (left g is) h = h
without_spot ks ls gone (trapped l) h = h

crossing_keeps : (p : Source) (plans : Plans) (f : Plan) (s : Course) (z : Walk) (w : FilterView) (vs : List Version) → Is p f s z w → Is p f s (crossing p plans z vs) w
crossing_keeps p plans f s z w [] is = is
crossing_keeps p plans f s z w (v ∷ vs) is = record {
  good = is.good;
  gone = is.gone;
  sees = is.sees;
  frames = without_lines v.active s.levels z.frames is.frames;
  spot = without_spot v.active s.levels s.gone z.spot is.spot;
}

pub op_keeps : (p : Source) (plans : Plans) (f : Plan) (s : Course) (z z' : Walk) (w : FilterView) (l : ℕ) (o : Operation) → Is p f s z w
    → Is p f s (after_operation p plans z o) (seen_step f z' w (makes l o))
op_keeps p plans f s z z' w l (wait k n) is = record { good = is.good; gone = is.gone; sees = is.sees; frames = is.frames; spot = is.spot }
op_keeps p plans f s z z' w l (enters k n) is = record { good = is.good; gone = is.gone; sees = is.sees; frames = is.frames; spot = is.spot }
op_keeps p plans f s z z' w l (at k ns) is = record {
  good = is.good;
  gone = is.gone;
  sees = is.sees;
  frames = same_in_frame (begun_at (plans k) z.spot k ns) (λ x. noted_func z.spot k ns _) (λ x os h. noted_at_lines z.spot k ns _ os h) s.levels z.frames is.frames;
  spot = is.spot;
}
op_keeps p plans f s z z' w l (past k ns) is = record {
  good = is.good;
  gone = is.gone;
  sees = is.sees;
  frames = same_in_frame (completed k ns) (λ x. refl) (λ x os h. h) s.levels z.frames is.frames;
  spot = is.spot;
}
op_keeps p plans f s z z' w l (post k n) is = record { good = is.good; gone = is.gone; sees = is.sees; frames = is.frames; spot = is.spot }
op_keeps p plans f s z z' w l (leave k n) is = record { good = is.good; gone = is.gone; sees = is.sees; frames = is.frames; spot = is.spot }
op_keeps p plans f s z z' w l back is = record {
  good = is.good;
  gone = is.gone;
  sees = record { fits = is.sees.fits; here = is.sees.here; knows = is.sees.knows; fresh = is.sees.fresh; leaving = tt };
  frames = is.frames;
  spot = left_spot s.levels s.gone z.spot is.spot;
}
op_keeps p plans f s z z' w l (tick x) is = record { good = is.good; gone = is.gone; sees = is.sees; frames = is.frames; spot = is.spot }
op_keeps p plans f s z z' w l (cross x v n) is = crossing_keeps p plans f s z w z.coming is
op_keeps p plans f s z z' w l (blocked what) is = record { good = is.good; gone = is.gone; sees = is.sees; frames = is.frames; spot = is.spot }

-- Along the steps

pub walk_keeps : (p : Source) (plans : Plans) (f : Plan) (s : Course) (z : Walk) (w : FilterView) (ss : List PartStep) (ahead : List Item) → IsWellSited f → Is p f s z w
    → IsCourse p s (items ss ++ ahead) → Leads p f (λ s'. IsCourse p s' ahead) (walk_from p plans z ss) (seen_from p plans f z w ss)
walk_keeps p plans f s z w [] ahead well is c = (s, (c, is))
walk_keeps p plans f s z w (goes i ∷ ss) ahead well is c =
    let r = item_keeps p plans f s z w i (λ s'. IsCourse p s' (items ss ++ ahead)) well is c in
    walk_keeps p plans f r.0 (after_item p plans z i) (seen_step f (after_item p plans z i) w (goes i)) ss ahead well r.1.1 r.1.0
walk_keeps p plans f s z w (makes l o ∷ ss) ahead well is c =
    walk_keeps p plans f s (after_operation p plans z o) (seen_step f (after_operation p plans z o) w (makes l o)) ss ahead well (op_keeps p plans f s z (after_operation p plans z o) w l o is) c

-- Places of the top frame

round_nested : (g : ℕ) (os : List Body) (b : Body) (y : Place) → IsNested os b → Contains (body_places b) y → AreRound g os y
round_nested g [] b y n c = tt
round_nested g (o ∷ os) b y n c = (inl (statement_places o b y (others_in (statements o) b n.0) c), round_nested g os b y n.1 c)

place_in : (p : Source) (g : ℕ) (fn : Function) (y : Place) → slice_get p.funcs g ≡ Some fn → Contains (body_places fn.body) y → Contains (places_of p g) y
place_in p g fn y is c =
    let P : Option Function → Type 0 = λ z. Contains (places_in g z) y in
    subst P (sym is) (contains_later (place.entry g) y (body_places fn.body ++ place.out g ∷ []) (Contains-append_left (body_places fn.body) (place.out g ∷ []) y c))

out_in : (p : Source) (g : ℕ) (fn : Function) → slice_get p.funcs g ≡ Some fn → Contains (places_of p g) (place.out g)
out_in p g fn is =
    let P : Option Function → Type 0 = λ z. Contains (places_in g z) (place.out g) in
    subst P (sym is) (contains_later (place.entry g) (place.out g) (body_places fn.body ++ place.out g ∷ [])
    (Contains-append_right (body_places fn.body) (place.out g ∷ []) (place.out g) (contains_first (place.out g) [])))

entry_in : (p : Source) (g : ℕ) (fn : Function) → slice_get p.funcs g ≡ Some fn → Contains (places_of p g) (place.entry g)
entry_in p g fn is =
    let P : Option Function → Type 0 = λ z. Contains (places_in g z) (place.entry g) in
    subst P (sym is) (contains_first (place.entry g) (body_places fn.body ++ place.out g ∷ []))

inside_no_entry : (l g : ℕ) → place.inside l ≡ place.entry g → ⊥
inside_no_entry l g e = cc

edge_no_entry : (l g : ℕ) → place.back_edge l ≡ place.entry g → ⊥
edge_no_entry l g e = cc

out_no_entry : (h g : ℕ) → place.out h ≡ place.entry g → ⊥
out_no_entry h g e = cc

-- in a statement that has begun
node_within : (g : ℕ) (n : Node) (l : ℕ) → IsWithin (Some n) l → Contains (node_places g n) (place.inside l)
node_within g (path.begins m) l h =
    let P : ℕ → Type 0 = λ z. Contains (node_places g (path.begins m)) (place.inside z) in
    subst P h (contains_first (place.inside m) [])
node_within g (path.complete m) l h = absurd h
node_within g (path.turns m) l h =
    let P : ℕ → Type 0 = λ z. Contains (node_places g (path.turns m)) (place.inside z) in
    subst P h (contains_later (place.back_edge m) (place.inside m) (place.inside m ∷ []) (contains_first (place.inside m) []))
node_within g path.leaves l h = absurd h

acting_here : (p : Source) (g : ℕ) (fn : Function) (m : Option Node) (os : List Body) (l : ℕ) → IsGood p (lv g fn m os) → IsWithin m l → OnFirst os (λ b bs. Begins b l)
    → IsHere p (lv g fn m os) (place.inside l)
acting_here p g fn None os l good within_ first_ = absurd within_
acting_here p g fn (Some n) [] l good within_ first_ = absurd first_
acting_here p g fn (Some n) (b ∷ bs) l good within_ first_ = record {
  node = n;
  at = inl refl;
  shown = node_within g n l within_;
  nested = (inl (own_place b l first_), round_nested g bs b (place.inside l) good.opened.1.0 (own_place b l first_));
  own = place_in p g fn (place.inside l) good.is (statement_places fn.body b (place.inside l) good.opened.0 (own_place b l first_));
  not_entry = inside_no_entry l g;
}

begun_first : (fn : Function) (m : Option Node) (os : List Body) (l : ℕ) → FitsNode fn m os → IsWithin m l → OnFirst os (λ b bs. Begins b l)
begun_first fn None os l k h = absurd h
begun_first fn (Some (path.begins n)) os l k h =
    let P : ℕ → Type 0 = λ z. OnFirst os (λ b bs. Begins b z) in
    subst P h k
begun_first fn (Some (path.complete n)) os l k h = absurd h
begun_first fn (Some (path.turns n)) [] l k h = absurd k
begun_first fn (Some (path.turns n)) (b ∷ bs) l k h =
    let P : ℕ → Type 0 = λ z. Begins b z in
    subst P h (loop_begins b n k)
begun_first fn (Some path.leaves) os l k h = absurd h

-- at a back edge
edge_here : (p : Source) (g : ℕ) (fn : Function) (m : Option Node) (os : List Body) (l : ℕ) (Q : Body → List Body → Type 0) → IsGood p (lv g fn m os)
    → OnFirst os (λ b bs. IsLoop b l × (Follows fn m (path.turns l) × Q b bs)) → IsHere p (lv g fn m os) (place.back_edge l)
edge_here p g fn m [] l Q good r = absurd r
edge_here p g fn m (b ∷ bs) l Q good r = record {
  node = path.turns l;
  at = inr (r.1.0, λ f xs h. h);
  shown = contains_first (place.back_edge l) (place.inside l ∷ []);
  nested = (inl (loop_place b l r.0), round_nested g bs b (place.back_edge l) good.opened.1.0 (loop_place b l r.0));
  own = place_in p g fn (place.back_edge l) good.is (statement_places fn.body b (place.back_edge l) good.opened.0 (loop_place b l r.0));
  not_entry = edge_no_entry l g;
}

-- behind a statement
complete_here : (p : Source) (g : ℕ) (fn : Function) (m : Option Node) (os : List Body) (l : ℕ) → IsGood p (lv g fn m os) → m ≡ Some (path.complete l)
    → IsHere p (lv g fn m os) (place.inside l)
complete_here p g fn m os l good is =
    let P : Option Node → Type 0 = λ z. FitsNode fn z os in
    let k : FitsNode fn (Some (path.complete l)) os = subst P is good.node in
    record {
      node = path.complete l;
      at = inl is;
      shown = contains_first (place.inside l) [];
      nested = round_nested g os k.0 (place.inside l) k.1.1.1 (own_place k.0 l k.1.0);
      own = place_in p g fn (place.inside l) good.is (statement_places fn.body k.0 (place.inside l) k.1.1.0 (own_place k.0 l k.1.0));
      not_entry = inside_no_entry l g;
    }

-- behind a frame
round_return : (g : ℕ) (os : List Body) → AllReturn os → AreRound g os (place.out g)
round_return g [] h = tt
round_return g (o ∷ os) h = (inr (h.0, refl), round_return g os h.1)

out_here : (p : Source) (x : Level) → IsGood p x → AllReturn x.opened → Follows x.function x.node path.leaves → IsHere p x (place.out x.func)
out_here p x good all fol = record {
  node = path.leaves;
  at = inr (fol, λ f xs h. h);
  shown = contains_first (place.out x.func) [];
  nested = round_return x.func x.opened all;
  own = out_in p x.func x.function good.is;
  not_entry = out_no_entry x.func x.func;
}

innermost_is : (os : List Body) (fr : OpenFrame) (l : ℕ) → OnFirst os (λ b bs. Begins b l) → SameLines os fr.statements → innermost fr.func fr.statements ≡ place.inside l
innermost_is os fr l a s = by_cases os fr.statements a s
  where
    by_cases : (bs : List Body) (ss : List OpenStatement) → OnFirst bs (λ b cs. Begins b l) → SameLines bs ss → innermost fr.func ss ≡ place.inside l
    by_cases [] ss a' s' = absurd a'
    by_cases (b ∷ bs) [] a' s' = absurd s'
    by_cases (b ∷ bs) (t ∷ ts) a' s' = ap place.inside (one_line b t.line l s'.0 a')

-- At the point

safe_at : (p : Source) (f : Plan) (x y : Place) → x ≡ y → (IsUnsafe p f y → ⊥) → IsUnsafe p f x → ⊥
safe_at p f x y e safe =
    let P : Place → Type 0 = λ z. IsUnsafe p f z → ⊥ in
    subst P (sym e) safe

clear : (frames leaving : List FrameView) (w : FilterView) → w.frames ≡ frames → w.leaving ≡ leaving → AreClear frames → AreClear leaving → IsClear w
clear fs lv' w a b h k =
    let same : w.frames ++ w.leaving ≡ fs ++ lv' = ap (λ z. z ++ w.leaving) a ∙ ap (λ z. fs ++ z) b in
    let all : AreClear (fs ++ lv') = clear_append fs lv' h k in
    let P : List FrameView → Type 0 = λ z. (view.all_of z ≡ []) × (view.all_under_way z ≡ []) in
    let both = subst P (sym same) (none_inside _ all, none_under_way _ all) in
    record { outside = both.0; at_rest = both.1 }

none_clear : (f : Plan) (ls : List Level) (ws : List FrameView) → AreNone ls → AreFit f ls ws → AreClear ws
none_clear f [] [] n h = tt
none_clear f [] (w ∷ ws) n h = absurd h
none_clear f (x ∷ xs) ws n h = absurd n

none_leaving : (f : Plan) (gone : List Level) (ws : List FrameView) → AreNone gone → AreLeaving f gone ws → AreClear ws
none_leaving f [] [] n h = tt
none_leaving f [] (w ∷ ws) n h = absurd h
none_leaving f (x ∷ xs) ws n h = absurd n

-- an act comes next
act_place : (ls gone : List Level) (zs : List OpenFrame) (t : Spot) (l : ℕ) → Acts ls l → SameFrames ls zs → FitsSpot ls gone t → place_of_request t [] zs ≡ place.inside l
act_place [] gone zs t l a s k = absurd a
act_place (x ∷ xs) gone [] t l a s k = absurd s
act_place (x ∷ xs) gone (z ∷ zs) elsewhere l a s k = innermost_is x.opened z l a.1 s.1.0
act_place (x ∷ xs) gone (z ∷ zs) (beginning m env) l a s k = innermost_is x.opened z l a.1 s.1.0
act_place (x ∷ xs) gone (z ∷ zs) (entered h env) l a s k = innermost_is x.opened z l a.1 s.1.0
act_place (x ∷ xs) gone (z ∷ zs) (complete m) l a s k =
    let P : Option Node → Type 0 = λ q. IsWithin q l in
    absurd (subst P k.1 a.0)
act_place (x ∷ xs) gone (z ∷ zs) (left h is) l a s k = innermost_is x.opened z l a.1 s.1.0
act_place (x ∷ xs) gone (z ∷ zs) (trapped m) l a s k = absurd k.0

acts_clear : (p : Source) (f : Plan) (ls : List Level) (ws : List FrameView) (l : ℕ) → IsWellSited f → AreGood p ls → AreFit f ls ws → Acts ls l
    → (IsUnsafe p f (place.inside l) → ⊥) → AreClear ws
acts_clear p f [] ws l well good fit a safe = absurd a
acts_clear p f (x ∷ xs) ws l well good fit a safe =
    all_clear p f x xs ws (place.inside l) well good fit (acting_here p x.func x.function x.node x.opened l good.0 a.0 a.1) safe

act_clear : (p : Source) (f : Plan) (s : Course) (z : Walk) (w : FilterView) (y : Place) (l : ℕ) → IsWellSited f → Is p f s z w → Acts s.levels l
    → place_of_request z.spot [] z.frames ≡ y → (IsUnsafe p f y → ⊥) → AreClear (now f w)
act_clear p f s z w y l well is a e safe =
    let there : place.inside l ≡ y = sym (act_place s.levels s.gone z.frames z.spot l a is.frames is.spot) ∙ e in
    acts_clear p f s.levels (now f w) l well is.good (fitted p f s z w well is) a (safe_at p f (place.inside l) y there safe)

over_clear : (p : Source) (f : Plan) (s : Course) (z : Walk) (w : FilterView) → IsWellSited f → Is p f s z w → AreNone s.levels → AreClear (now f w)
over_clear p f s z w well is n = none_clear f s.levels (now f w) n (fitted p f s z w well is)

edges_clear : (p : Source) (f : Plan) (ls : List Level) (ws : List FrameView) (l : ℕ) → IsWellSited f → AreGood p ls → AreFit f ls ws
    → Runs p (record { levels = ls; gone = [] }) (edge l) (λ s'. Unit {0}) → (IsUnsafe p f (place.back_edge l) → ⊥) → AreClear ws
edges_clear p f [] ws l well good fit r safe = absurd r
edges_clear p f (x ∷ xs) ws l well good fit r safe =
    all_clear p f x xs ws (place.back_edge l) well good fit (edge_here p x.func x.function x.node x.opened l _ good.0 r) safe

some_same : {A : Type 0} (x y : A) → Some x ≡ Some y → x ≡ y
some_same x y e = cc

none_some : {A : Type 0} {B : Type 0} (y : A) → None ≡ Some y → B
none_some y e = cc

-- something is owed
fresh_clear : (w : FrameView) → w ≡ record { under_way = [] ∷ []; inside = [] } → IsClearOf w
fresh_clear w e =
    let P : FrameView → Type 0 = λ z. IsClearOf z in
    subst P (sym e) (record { outside = refl; at_rest = refl })

entered_clear : (p : Source) (f : Plan) (ls : List Level) (ws : List FrameView) (zs : List OpenFrame) (y : Place) → IsWellSited f → AreGood p ls → AreFit f ls ws
    → IsFresh ls ws → SameFrames ls zs → OnFirst ls (λ (x : Level) xs. x.node ≡ None) → (h : ℕ) (env : Locals) (o : ℕ × Operation) (os : Queue)
    → place_of_request (entered h env) (o ∷ os) zs ≡ y → (IsUnsafe p f y → ⊥) → AreClear ws
entered_clear p f [] ws zs y well good fit fresh same k h env o os e safe = absurd k
entered_clear p f (x ∷ xs) [] zs y well good fit fresh same k h env o os e safe = absurd fit
entered_clear p f (x ∷ xs) (w ∷ ws) [] y well good fit fresh same k h env o os e safe = absurd same
entered_clear p f (x ∷ xs) (w ∷ ws) (z ∷ zs) y well good fit fresh same k h env o os e safe =
    let P : Option Node → Type 0 = λ q. FitsNode x.function q x.opened in
    let at_entry : innermost z.func z.statements ≡ place.entry x.func = before x.opened z.statements (subst P k good.0.node) same.1.0 ∙ ap place.entry same.0 in (
      fresh_clear w (fresh k),
      below_clear p f xs ws (place.entry x.func) x.func well good.1.1 fit.1 good.1.0
          (reached_first p x.func (place.entry x.func) (entry_in p x.func x.function good.0.is)) (safe_at p f (place.entry x.func) y (sym at_entry ∙ e) safe),
    )
  where
    before : (bs : List Body) (ss : List OpenStatement) → AreNone bs → SameLines bs ss → innermost z.func ss ≡ place.entry z.func
    before [] [] n s = refl
    before [] (t ∷ ts) n s = absurd s
    before (b ∷ bs) ss n s = absurd n

top_place : (ls : List Level) (zs : List OpenFrame) (t : Spot) (o : ℕ × Operation) (os : Queue) (l : ℕ) → Acts ls l → SameFrames ls zs → (place_of_request t (o ∷ os) zs ≡ place_of_request elsewhere (o ∷ os) zs)
    → place_of_request t (o ∷ os) zs ≡ place.inside l
top_place [] zs t o os l a s e = absurd a
top_place (x ∷ xs) [] t o os l a s e = absurd s
top_place (x ∷ xs) (z ∷ zs) t o os l a s e = e ∙ innermost_is x.opened z l a.1 s.1.0

acts_of : (p : Source) (ls : List Level) (l : ℕ) → AreGood p ls → OnFirst ls (λ (x : Level) xs. IsWithin x.node l) → Acts ls l
acts_of p [] l good h = absurd h
acts_of p (x ∷ xs) l good h = (h, begun_first x.function x.node x.opened l good.0.node h)

begun_acts : (p : Source) (ls : List Level) (l : ℕ) → AreGood p ls → OnFirst ls (λ (x : Level) xs. x.node ≡ Some (path.begins l)) → Acts ls l
begun_acts p [] l good h = absurd h
begun_acts p (x ∷ xs) l good h =
    let P : Option Node → Type 0 = λ q. IsWithin q l in
    acts_of p (x ∷ xs) l good (subst P (sym h) refl)

-- no frame is open, or an act of some line may come
top_cases : (p : Source) (ls : List Level) → AreGood p ls → TopActs ls → AreNone ls ⊎ ((l : ℕ) × Acts ls l)
top_cases p [] good t = inl tt
top_cases p (x ∷ xs) good t = inr (t.0, acts_of p (x ∷ xs) t.0 good t.1)

completes_clear : (p : Source) (f : Plan) (ls : List Level) (ws : List FrameView) (l : ℕ) → IsWellSited f → AreGood p ls → AreFit f ls ws
    → OnFirst ls (λ (x : Level) xs. x.node ≡ Some (path.complete l)) → (IsUnsafe p f (place.inside l) → ⊥) → AreClear ws
completes_clear p f [] ws l well good fit k safe = absurd k
completes_clear p f (x ∷ xs) ws l well good fit k safe =
    all_clear p f x xs ws (place.inside l) well good fit (complete_here p x.func x.function x.node x.opened l good.0 k) safe

gone_clear : (p : Source) (f : Plan) (ls gone : List Level) (ws lvs : List FrameView) (h : ℕ) → IsWellSited f → AreGood p ls → AreGone p ls gone → AreFit f ls ws
    → AreLeaving f gone lvs → OnFirst gone (λ (x : Level) xs. h ≡ x.func) → (IsUnsafe p f (place.out h) → ⊥) → AreClear ws × AreClear lvs
gone_clear p f ls [] ws lvs h well good g fit lea k safe = absurd k
gone_clear p f ls (x ∷ xs) ws lvs h well good g fit lea k safe =
    let safe' : IsUnsafe p f (place.out x.func) → ⊥ = safe_at p f (place.out x.func) (place.out h) (ap place.out (sym k)) safe in
    let here_ : IsHere p x (place.out x.func) = out_here p x g.0 g.1.1.0 g.1.1.1 in
    (below_clear p f ls ws (place.out x.func) x.func well good fit g.1.0 (reached_first p x.func (place.out x.func) here_.own) safe', of_gone lvs lea here_ safe')
  where
    of_gone : (vs : List FrameView) → AreLeaving f (x ∷ xs) vs → IsHere p x (place.out x.func) → (IsUnsafe p f (place.out x.func) → ⊥) → AreClear vs
    of_gone [] a b c = tt
    of_gone (v ∷ vs) a b c = (own_clear p f x v (place.out x.func) well g.0 a.0 b c, none_left vs a.1)
      where
        none_left : (us : List FrameView) → us ≡ [] → AreClear us
        none_left [] e = tt
        none_left (u ∷ us) e = cc

pub owed_clear : (p : Source) (f : Plan) (s : Course) (z : Walk) (w : FilterView) (y : Place) (o : ℕ × Operation) (os : Queue) (t : Spot) → IsWellSited f → Is p f s z w
    → FitsSpot s.levels s.gone t → place_of_request t (o ∷ os) z.frames ≡ y → (IsUnsafe p f y → ⊥) → AreClear w.frames × AreClear w.leaving
owed_clear p f s z w y o os elsewhere well is k e safe = by_cases (top_cases p s.levels is.good k.1)
  where
    by_cases : AreNone s.levels ⊎ ((l : ℕ) × Acts s.levels l) → AreClear w.frames × AreClear w.leaving
    by_cases (inl n) = (none_clear f s.levels w.frames n is.sees.fits, none_leaving f s.gone w.leaving k.0 is.sees.leaving)
    by_cases (inr a) =
        let at_line : place.inside a.0 ≡ y = sym (top_place s.levels z.frames elsewhere o os a.0 a.1 is.frames refl) ∙ e in
        (acts_clear p f s.levels w.frames a.0 well is.good is.sees.fits a.1 (safe_at p f (place.inside a.0) y at_line safe), none_leaving f s.gone w.leaving k.0 is.sees.leaving)
owed_clear p f s z w y o os (beginning l env) well is k e safe =
    let a : Acts s.levels l = begun_acts p s.levels l is.good k.1 in
    let at_line : place.inside l ≡ y = sym (top_place s.levels z.frames (beginning l env) o os l a is.frames (same_rest_place z.frames)) ∙ e in
    (acts_clear p f s.levels w.frames l well is.good is.sees.fits a (safe_at p f (place.inside l) y at_line safe), none_leaving f s.gone w.leaving k.0 is.sees.leaving)
  where
    same_rest_place : (zs : List OpenFrame) → place_of_request (beginning l env) (o ∷ os) zs ≡ place_of_request elsewhere (o ∷ os) zs
    same_rest_place [] = refl
    same_rest_place (z' ∷ zs) = refl
owed_clear p f s z w y o os (entered h env) well is k e safe =
    (entered_clear p f s.levels w.frames z.frames y well is.good is.sees.fits is.sees.fresh is.frames k.1 h env o os e safe, none_leaving f s.gone w.leaving k.0 is.sees.leaving)
owed_clear p f s z w y o os (complete l) well is k e safe =
    (completes_clear p f s.levels w.frames l well is.good is.sees.fits k.1 (safe_at p f (place.inside l) y e safe), none_leaving f s.gone w.leaving k.0 is.sees.leaving)
owed_clear p f s z w y o os (left h vs) well is k e safe =
    gone_clear p f s.levels s.gone w.frames w.leaving h well is.good is.gone is.sees.fits is.sees.leaving k (safe_at p f (place.out h) y e safe)
owed_clear p f s z w y o os (trapped l) well is k e safe =
    (none_clear f s.levels w.frames k.0 is.sees.fits, none_leaving f s.gone w.leaving k.1 is.sees.leaving)

-- nothing is owed
pub item_clear : (p : Source) (f : Plan) (s : Course) (z : Walk) (w : FilterView) (y : Place) (i : Item) → IsWellSited f → Is p f s z w → Runs p s i (λ s'. Unit {0}) → z.owed ≡ []
    → place_of_next z [] (i ∷ []) ≡ Some y → (IsUnsafe p f y → ⊥) → AreClear (now f w)
item_clear p f s z w y (made l begin) well is r o e safe = over_clear p f s z w well is r.0
item_clear p f s z w y (made l end) well is r o e safe = over_clear p f s z w well is r.0
item_clear p f s z w y (made l (trap c)) well is r o e safe = act_clear p f s z w y l well is r.0 (ap (λ os. place_of_request z.spot os z.frames) (sym o) ∙ some_same _ y e) safe
item_clear p f s z w y (made l (read x v)) well is r o e safe = act_clear p f s z w y l well is r.0 (ap (λ os. place_of_request z.spot os z.frames) (sym o) ∙ some_same _ y e) safe
item_clear p f s z w y (made l (write x v)) well is r o e safe = act_clear p f s z w y l well is r.0 (ap (λ os. place_of_request z.spot os z.frames) (sym o) ∙ some_same _ y e) safe
item_clear p f s z w y (made l (lock m)) well is r o e safe = act_clear p f s z w y l well is r.0 (ap (λ os. place_of_request z.spot os z.frames) (sym o) ∙ some_same _ y e) safe
item_clear p f s z w y (made l (unlock m)) well is r o e safe = act_clear p f s z w y l well is r.0 (ap (λ os. place_of_request z.spot os z.frames) (sym o) ∙ some_same _ y e) safe
item_clear p f s z w y (made l (down x)) well is r o e safe = act_clear p f s z w y l well is r.0 (ap (λ os. place_of_request z.spot os z.frames) (sym o) ∙ some_same _ y e) safe
item_clear p f s z w y (made l (up x)) well is r o e safe = act_clear p f s z w y l well is r.0 (ap (λ os. place_of_request z.spot os z.frames) (sym o) ∙ some_same _ y e) safe
item_clear p f s z w y (made l (spawn c h vs)) well is r o e safe = act_clear p f s z w y l well is r.0 (ap (λ os. place_of_request z.spot os z.frames) (sym o) ∙ some_same _ y e) safe
item_clear p f s z w y (made l (join c)) well is r o e safe = act_clear p f s z w y l well is r.0 (ap (λ os. place_of_request z.spot os z.frames) (sym o) ∙ some_same _ y e) safe
item_clear p f s z w y (made l (print v)) well is r o e safe = act_clear p f s z w y l well is r.0 (ap (λ os. place_of_request z.spot os z.frames) (sym o) ∙ some_same _ y e) safe
item_clear p f s z w y (begins l env) well is r o e safe = none_some y e
item_clear p f s z w y (done l) well is r o e safe = none_some y e
item_clear p f s z w y (edge l) well is r o e safe =
    edges_clear p f s.levels (now f w) l well is.good (fitted p f s z w well is) r (safe_at p f (place.back_edge l) y (some_same _ y e) safe)
item_clear p f s z w y (enter h env) well is r o e safe =
    below_clear p f s.levels (now f w) (place.entry h) h well is.good (fitted p f s z w well is) r.0
    (reached_first p h (place.entry h) (entry_in p h r.1.0 r.1.1.0)) (safe_at p f (place.entry h) y (some_same _ y e) safe)
item_clear p f s z w y (out h) well is r o e safe = none_some y e

-- what is seen, with what is owed
abbrev seen_where : Plan → Queue → FilterView → FilterView
seen_where f os w = if view.is_empty os then settled f w else w

point_clear : (p : Source) (f : Plan) (s : Course) (z : Walk) (w : FilterView) (y : Place) (i : Item) (os : Queue) → IsWellSited f → Is p f s z w
    → Runs p s i (λ s'. Unit {0}) → z.owed ≡ os → place_of_next z os (i ∷ []) ≡ Some y → (IsUnsafe p f y → ⊥) → IsClear (seen_where f os w)
point_clear p f s z w y i [] well is r o e safe = clear (now f w) [] (settled f w) refl refl (item_clear p f s z w y i well is r o e safe) tt
point_clear p f s z w y i (o ∷ os) well is r q e safe =
    let there : place_of_request z.spot (o ∷ os) z.frames ≡ y = ap (λ rs. place_of_request z.spot rs z.frames) (sym q) ∙ some_same _ y e in
    let both = owed_clear p f s z w y o os z.spot well is is.spot there safe in
    clear w.frames w.leaving w refl refl both.0 both.1

pub start : (p : Source) (f : Plan) (vs : List Version) → Is p f no_frames (unborn vs) nothing_seen
start p f vs = record { good = tt; gone = tt; sees = nothing_sees f; frames = tt; spot = (tt, tt) }

-- The unsafe places of a filter whose regions and events are of their kinds are sound.
pub sound_of_sites : (p : Source) (f : Plan) → IsWellSited f → IsSound p f
sound_of_sites p f well plans x h y there safe =
    let c : IsCourse p no_frames (items h.steps ++ h.next ∷ []) = trace_is_course p x.func x.args _ _ h.trace in
    let r = walk_keeps p plans f no_frames (unborn x.versions) nothing_seen h.steps (h.next ∷ []) well (start p f x.versions) c in
    point_clear p f r.0 (walk_of p plans x h.steps) _ y h.next (walk_of p plans x h.steps).owed well r.1.1 r.1.0 refl there safe
