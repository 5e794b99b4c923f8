-- A thread is inside at most one region of a clause at a time, of a filter that no path refuses and that comes in where that is safe.
use Rattle.std.proofs.Common.{ℕ, zero, suc, ◌≡◌, inl, inr, List, [], ◌∷◌, ◌++◌, slice_get, Some, refl, sym, ap, subst, ◌∙◌}
use Rattle.std.specs.List.{Contains}
use Rattle.loom_tree.specs.Tree.{Source}
use Rattle.loom_lang.specs.Trace.{Item, IsTrace}
use Rattle.loom_law.specs.Walk.{Version, Plans, Operation, wait, enters, at, past, post, leave, back, tick, cross, blocked, PartStep, goes, makes, items, Inside, Walk, unborn, after_item, after_operation, walk_behind, walk_from, place_of_next, MayStand, AreWoven}
use Rattle.loom_law.specs.FilterView.{FilterView, nothing_seen, seen_step}
use Rattle.loom_law.specs.FilterRefusal.{IsPathFault}
use Rattle.loom_law.specs.Judgement.{HasNone}
use Rattle.loom_law.specs.OneRegion.{inside_by_frame, IsInOneRegion, ComesInSafely, HasOneRegion}
use Rattle.loom_law.proofs.Course.{Course, no_frames, IsCourse, trace_is_course, no_member}
use Rattle.loom_law.proofs.Earlier.{append_assoc, items_ahead, woven_front}
use Rattle.loom_law.proofs.Inside.{owed_none}
use Rattle.loom_law.proofs.Sight.{IsWellSited}
use Rattle.loom_law.proofs.Sound.{Is, item_keeps, op_keeps, start}
use Rattle.loom_law.proofs.Sites.{plan_sited}
use Rattle.loom_law.proofs.RegionNests.{AnyOf, AreOneRegion}
use Rattle.loom_law.proofs.RegionItems.{FitsCourse, item_fits, item_one, IsCalm, item_calm}
use Rattle.loom_law.proofs.RegionOperations.{other_fits, past_fits, past_one, at_fits, at_one, back_fits, back_one}
use Rattle.loom_law.proofs.RegionVersions.{crossing_one, crossing_fits, crossing_calm, back_calm}

-- Along the steps

-- what holds behind an operation
record HoldsOneRegion (p : Source) (plans : Plans) (k : ℕ) (s : Course) (z : Walk) (w : FilterView) : Type 0 where
  is : Is p (plans k) s z w
  calm : IsCalm z.spot w.here
  fits : FitsCourse (plans k) k s.levels z
  one : AreOneRegion k (inside_by_frame z)

later_safe : (p : Source) (plans : Plans) (z : Walk) (s : PartStep) (ss : List PartStep) (ahead : List Item) (k : ℕ) → ComesInSafely p plans z (s ∷ ss) ahead k
    → ComesInSafely p plans (walk_behind p plans z s) ss ahead k
later_safe p plans z s ss ahead k safe before l y v n behind e = safe (s ∷ before) l y v n behind (ap (◌∷◌ s) e)

crossing_holds : (p : Source) (plans : Plans) (k : ℕ) (s : Course) (z : Walk) (w : FilterView) (l y v n : ℕ) (ss : List PartStep) (ahead : List Item) → IsWellSited (plans k)
    → MayStand p z (makes l (cross y v n)) (items ss ++ ahead) → IsCourse p s (items ss ++ ahead) → ComesInSafely p plans z (makes l (cross y v n) ∷ ss) ahead k
    → HoldsOneRegion p plans k s z w → HoldsOneRegion p plans k s (after_operation p plans z (cross y v n)) w
crossing_holds p plans k s z w l y v n ss ahead well m c safe h = record {
  is = op_keeps p plans (plans k) s z z w l (cross y v n) h.is;
  calm = crossing_calm p plans z z.coming w.here h.calm;
  fits = crossing_fits p plans k s z w z.coming (items ss ++ ahead) m.place well h.is h.calm c m.next
      (λ out_ in_ u. safe [] l y v n ss refl out_ in_ m.place m.next u) h.fits;
  one = crossing_one p plans k z z.coming h.one;
}

operation_holds : (p : Source) (plans : Plans) (k : ℕ) (s : Course) (z : Walk) (w : FilterView) (l : ℕ) (o : Operation) (ss : List PartStep) (ahead : List Item)
    → HasNone (IsPathFault p (plans k)) → IsWellSited (plans k) → MayStand p z (makes l o) (items ss ++ ahead) → IsCourse p s (items ss ++ ahead)
    → ComesInSafely p plans z (makes l o ∷ ss) ahead k → HoldsOneRegion p plans k s z w
    → HoldsOneRegion p plans k s (after_operation p plans z o) (seen_step (plans k) (after_operation p plans z o) w (makes l o))
operation_holds p plans k s z w l (wait j n) ss ahead none well m c safe h = record {
  is = op_keeps p plans (plans k) s z (after_operation p plans z (wait j n)) w l (wait j n) h.is;
  calm = h.calm;
  fits = other_fits (plans k) k s.levels z l (wait j n) m (λ ns e. cc) (λ ns e. cc) h.fits;
  one = h.one;
}
operation_holds p plans k s z w l (enters j n) ss ahead none well m c safe h = record {
  is = op_keeps p plans (plans k) s z (after_operation p plans z (enters j n)) w l (enters j n) h.is;
  calm = h.calm;
  fits = (let q = other_fits (plans k) k s.levels z l (enters j n) m (λ ns e. cc) (λ ns e. cc) h.fits in record { asks = q.asks; live = q.live; called = q.called });
  one = h.one;
}
operation_holds p plans k s z w l (at j ns) ss ahead none well m c safe h = record {
  is = op_keeps p plans (plans k) s z (after_operation p plans z (at j ns)) w l (at j ns) h.is;
  calm = h.calm;
  fits = at_fits p plans k s.levels s.gone z l j ns well (Is.good h.is) (Is.spot h.is) m h.fits;
  one = at_one p plans k s.levels s.gone z l j ns none well (Is.good h.is) (Is.frames h.is) (Is.spot h.is) m h.fits h.one;
}
operation_holds p plans k s z w l (past j ns) ss ahead none well m c safe h = record {
  is = op_keeps p plans (plans k) s z (after_operation p plans z (past j ns)) w l (past j ns) h.is;
  calm = h.calm;
  fits = past_fits p plans k s.levels z l j ns m h.fits;
  one = past_one p plans k z j ns h.one;
}
operation_holds p plans k s z w l (post j n) ss ahead none well m c safe h = record {
  is = op_keeps p plans (plans k) s z (after_operation p plans z (post j n)) w l (post j n) h.is;
  calm = h.calm;
  fits = other_fits (plans k) k s.levels z l (post j n) m (λ ns e. cc) (λ ns e. cc) h.fits;
  one = h.one;
}
operation_holds p plans k s z w l (leave j n) ss ahead none well m c safe h = record {
  is = op_keeps p plans (plans k) s z (after_operation p plans z (leave j n)) w l (leave j n) h.is;
  calm = h.calm;
  fits = (let q = other_fits (plans k) k s.levels z l (leave j n) m (λ ns e. cc) (λ ns e. cc) h.fits in record { asks = q.asks; live = q.live; called = q.called });
  one = h.one;
}
operation_holds p plans k s z w l back ss ahead none well m c safe h = record {
  is = op_keeps p plans (plans k) s z (after_operation p plans z back) w l back h.is;
  calm = back_calm z.spot w.here h.calm;
  fits = back_fits p plans (plans k) k s.levels z l m h.fits;
  one = back_one k z.spot _ h.one;
}
operation_holds p plans k s z w l (tick x) ss ahead none well m c safe h = record {
  is = op_keeps p plans (plans k) s z (after_operation p plans z (tick x)) w l (tick x) h.is;
  calm = h.calm;
  fits = other_fits (plans k) k s.levels z l (tick x) m (λ ns e. cc) (λ ns e. cc) h.fits;
  one = h.one;
}
operation_holds p plans k s z w l (cross y v n) ss ahead none well m c safe h = crossing_holds p plans k s z w l y v n ss ahead well m c safe h
operation_holds p plans k s z w l (blocked what) ss ahead none well m c safe h = record {
  is = op_keeps p plans (plans k) s z (after_operation p plans z (blocked what)) w l (blocked what) h.is;
  calm = h.calm;
  fits = record { asks = FitsCourse.asks h.fits; live = FitsCourse.live h.fits; called = FitsCourse.called h.fits };
  one = h.one;
}

along : (p : Source) (plans : Plans) (k : ℕ) (s : Course) (z : Walk) (w : FilterView) (ss : List PartStep) (ahead : List Item) → HasNone (IsPathFault p (plans k))
    → IsWellSited (plans k) → AreWoven p plans z ss ahead → IsCourse p s (items ss ++ ahead) → ComesInSafely p plans z ss ahead k → HoldsOneRegion p plans k s z w
    → AreOneRegion k (inside_by_frame (walk_from p plans z ss))
along p plans k s z w [] ahead none well woven c safe h = h.one
along p plans k s z w (goes i ∷ ss) ahead none well woven c safe h =
    let P : Course → Type 0 = λ s'. IsCourse p s' (items ss ++ ahead) in
    let r = item_keeps p plans (plans k) s z w i (λ s'. P s' × FitsCourse (plans k) k s'.levels (after_item p plans z i)) well h.is
    (item_fits p plans k s z w i P h.is (owed_none p z i _ woven.0) h.fits c) in
    along p plans k r.0 (after_item p plans z i) (seen_step (plans k) (after_item p plans z i) w (goes i)) ss ahead none well woven.1 r.1.0.0
    (later_safe p plans z (goes i) ss ahead k safe)
    (record { is = r.1.1; calm = item_calm p plans (plans k) z w i; fits = r.1.0.1; one = item_one p plans k z i h.one })
along p plans k s z w (makes l o ∷ ss) ahead none well woven c safe h =
    along p plans k s (after_operation p plans z o) (seen_step (plans k) (after_operation p plans z o) w (makes l o)) ss ahead none well woven.1 c
    (later_safe p plans z (makes l o) ss ahead k safe) (operation_holds p plans k s z w l o ss ahead none well woven.0 c safe h)

-- By positions

some_same : (is js : List Inside) → Some is ≡ Some js → is ≡ js
some_same is js e = cc

at_position : (iss : List (List Inside)) (n : ℕ) (js : List Inside) (j : Inside) → slice_get iss n ≡ Some js → Contains js j → AnyOf iss j
at_position [] n js j e c = cc
at_position (is ∷ iss) zero js j e c =
    let P : List Inside → Type 0 = λ q. Contains q j in
    inl (subst P (sym (some_same is js e)) c)
at_position (is ∷ iss) (suc n) js j e c = inr (at_position iss n js j e c)

one_position : (k : ℕ) (iss : List (List Inside)) (m n : ℕ) (as' bs : List Inside) (i j : Inside) → AreOneRegion k iss → slice_get iss m ≡ Some as' → Contains as' i
    → slice_get iss n ≡ Some bs → Contains bs j → i.filter ≡ k → j.filter ≡ k → i.clause ≡ j.clause → (m ≡ n) × (i ≡ j)
one_position k [] m n as' bs i j h a c b d ik jk e = cc
one_position k (is ∷ iss) zero zero as' bs i j h a c b d ik jk e =
    let P : Inside → List Inside → Type 0 = λ x q. Contains q x in
    (refl, h.0.0 i j (subst (P i) (sym (some_same is as' a)) c) (subst (P j) (sym (some_same is bs b)) d) ik jk e)
one_position k (is ∷ iss) zero (suc n) as' bs i j h a c b d ik jk e =
    let P : Inside → List Inside → Type 0 = λ x q. Contains q x in
    absurd (h.0.1 i j (subst (P i) (sym (some_same is as' a)) c) (at_position iss n bs j b d) ik jk e)
one_position k (is ∷ iss) (suc m) zero as' bs i j h a c b d ik jk e =
    let P : Inside → List Inside → Type 0 = λ x q. Contains q x in
    absurd (h.0.1 j i (subst (P j) (sym (some_same is bs b)) d) (at_position iss m as' i a c) jk ik (sym e))
one_position k (is ∷ iss) (suc m) (suc n) as' bs i j h a c b d ik jk e =
    let ih = one_position k iss m n as' bs i j h.1 a c b d ik jk e in
    (ap suc ih.0, ih.1)

pub in_one_region : (k : ℕ) (z : Walk) → AreOneRegion k (inside_by_frame z) → IsInOneRegion k z
in_one_region k z h m n i j a b ik jk e = one_position k (inside_by_frame z) m n a.inside b.inside i j h a.frame a.there b.frame b.there ik jk e

-- The law

-- so it is with the first of these steps
pub front_safe : (p : Source) (plans : Plans) (z : Walk) (before behind : List PartStep) (ahead : List Item) (k : ℕ) → ComesInSafely p plans z (before ++ behind) ahead k
    → ComesInSafely p plans z before (items behind ++ ahead) k
front_safe p plans z before behind ahead k safe first l y v n more e out_ in_ place next u =
    let P : List Item → Type 0 = λ q. place_of_next (walk_from p plans z first) (walk_from p plans z first).owed q ≡ Some place in
    safe first l y v n (more ++ behind) (ap (λ q. q ++ behind) e ∙ append_assoc first (makes l (cross y v n) ∷ more) behind) out_ in_ place
    (subst P (sym (items_ahead more behind ahead)) next) u

starts : (p : Source) (plans : Plans) (k : ℕ) (vs : List Version) → HoldsOneRegion p plans k no_frames (unborn vs) nothing_seen
starts p plans k vs = record {
  is = start p (plans k) vs;
  calm = refl;
  fits = record { asks = tt; live = (λ i m. absurd m); called = tt };
  one = (((λ i j c. absurd (no_member i c)), (λ i j c. absurd (no_member i c))), tt);
}

-- At each point of a full part a thread is inside at most one region of a clause.
pub one_region : HasOneRegion
one_region p plans x h k t is none safe before behind split =
    let z : Walk = unborn x.versions in
    let woven : AreWoven p plans z (before ++ behind) h.ahead = subst (λ ss. AreWoven p plans z ss h.ahead) split h.woven in
    let trace : IsTrace p x.func x.args (items (before ++ behind) ++ h.ahead) h.outcome = subst (λ ss. IsTrace p x.func x.args (items ss ++ h.ahead) h.outcome) split h.trace in
    let first : IsTrace p x.func x.args (items before ++ (items behind ++ h.ahead)) h.outcome =
    subst (λ q. IsTrace p x.func x.args q h.outcome) (items_ahead before behind h.ahead) trace in
    let course : IsCourse p no_frames (items before ++ (items behind ++ h.ahead)) = trace_is_course p x.func x.args _ _ first in
    let well : IsWellSited (plans k) = subst IsWellSited (sym is) (plan_sited p t) in
    let all : ComesInSafely p plans z (before ++ behind) h.ahead k = subst (λ ss. ComesInSafely p plans z ss h.ahead k) split safe in
    in_one_region k (walk_from p plans z before)
    (along p plans k no_frames z nothing_seen before (items behind ++ h.ahead) none well (woven_front p plans z before behind h.ahead woven) course
    (front_safe p plans z before behind h.ahead k all) (starts p plans k x.versions))
