-- What the walk notes of a filter fits the course, behind each operation that takes no new version.
use Rattle.std.proofs.Common.{ℕ, ◌≡◌, ◌==◌, ◌⊎◌, inl, inr, Bool, true, false, not, List, [], ◌∷◌, ◌++◌, flat_map, Option, Some, None, refl, sym, ap, subst, ◌∙◌, if◌then◌else◌}
use Rattle.std.specs.List.{Contains, filter}
use Rattle.std.proofs.lemmas.List.Elements.{Contains-append_cases}
use Rattle.loom_tree.specs.Tree.{Body, Function, Source}
use Rattle.loom_lang.specs.Trace.{Locals}
use Rattle.loom_law.specs.Filter.{statement, function, Range, Ruling, Plan, matching, has, share, entry_events, ranges_of, clauses}
use Rattle.loom_law.specs.Walk.{Plans, Operation, at, past, back, Inside, OpenStatement, OpenFrame, Spot, elsewhere, beginning, entered, complete, left, trapped, Queue, Walk, in_frame, completed, is_left_with, events_of_filter, note_events, begun_at, entered_ranges, entered_regions, left_behind, without_first, made_one, after_operation, Owes}
use Rattle.loom_law.specs.FilterRefusal.{IsPathFault}
use Rattle.loom_law.specs.Judgement.{HasNone}
use Rattle.loom_law.specs.ThreadPart.{leaving}
use Rattle.loom_law.specs.OneRegion.{inside_by_frame}
use Rattle.loom_law.specs.Paths.{Node, Begins, watch_at}
use Rattle.loom_law.specs.Paths as path
use Rattle.loom_law.proofs.Course.{Level, contains_first, contains_later, no_member}
use Rattle.loom_law.proofs.Matches.{Watches, is_same, same_number, if_cases, filter_member, shared_one, untested_matches, matches_statement, matches_function}
use Rattle.loom_law.proofs.Holdings.{pick}
use Rattle.loom_law.proofs.Sight.{IsWellSited, FitsNode, IsGood, AreGood, FitsRange, MatchesAt, begun_range, one_line}
use Rattle.loom_law.proofs.Sound.{SameFrames, FitsSpot}
use Rattle.loom_law.proofs.OwedEvents.{never_both, AllOwed, less_all, first_all, IsInQueue}
use Rattle.loom_law.proofs.RegionFaults.{IsRegionOf, region_there}
use Rattle.loom_law.proofs.RegionNests.{Noted, OnPaths, FitFrames, AnyOf, inside_each, AreOneRegion, IsBegun, one_begun}
use Rattle.loom_law.proofs.RegionItems.{by_bool, HereAt, IsDone, AsksEvents, Pending, Leaving, NoneInside, Live, IsCalled, FitsCourse, more_noted, more_paths, more_fit, less_leaving}

-- Regions of a filter

not_both : (b : Bool) → not b ≡ true → b ≡ true → ⊥
not_both true n y = cc
not_both false n y = cc

same_filter : (j k : ℕ) → j ≡ k → (j == k) ≡ false → ⊥
same_filter j k e h = never_both (j == k) (subst (λ m. (j == m) ≡ true) e (is_same j)) h

-- this region is entered with these events
pub record IsEntered (f : Plan) (k : ℕ) (ns : List ℕ) (i : Inside) : Type 0 where
  pub filter_is : i.filter ≡ k
  pub region : IsRegionOf f i.clause i.range
  pub shared : share (entry_events i.range) ns ≡ true

entered_range : (f : Plan) (k : ℕ) (ns : List ℕ) (c : ℕ) (q : Ruling) (rs : List Range) (i : Inside) → Contains (clauses f) (c, q) → ((r : Range) → Contains rs r → Contains (ranges_of q) r)
    → Contains (entered_ranges k ns c rs) i → IsEntered f k ns i
entered_range f k ns c q [] i clause there h = absurd (no_member i h)
entered_range f k ns c q (r ∷ rs) i clause there h =
    by_cases (entered_range f k ns c q rs i clause (λ s d. there s (contains_later r s rs d)))
    (if_cases (share (entry_events r) ns) (record { filter = k; clause = c; range = r }) i (entered_ranges k ns c rs) h)
  where
    by_cases : (Contains (entered_ranges k ns c rs) i → IsEntered f k ns i)
        → ((share (entry_events r) ns ≡ true) × (record { filter = k; clause = c; range = r } ≡ i)) ⊎ Contains (entered_ranges k ns c rs) i → IsEntered f k ns i
    by_cases ih (inr m) = ih m
    by_cases ih (inl m) =
        let P : Inside → Type 0 = λ z. IsEntered f k ns z in
        subst P m.1 (record {
          filter_is = refl;
          region = record { ruling = q; clause = clause; there = there r (contains_first r rs) };
          shared = m.0;
        })

entered_among : (f : Plan) (k : ℕ) (ns : List ℕ) (cs : List (ℕ × Ruling)) (i : Inside) → ((c : ℕ × Ruling) → Contains cs c → Contains (clauses f) c)
    → Contains (flat_map (λ (c : ℕ × Ruling). entered_ranges k ns c.0 (ranges_of c.1)) cs) i → IsEntered f k ns i
entered_among f k ns [] i there h = absurd (no_member i h)
entered_among f k ns (c ∷ cs) i there h =
    by_cases (entered_among f k ns cs i (λ d m. there d (contains_later c d cs m)))
    (Contains-append_cases (entered_ranges k ns c.0 (ranges_of c.1)) (flat_map (λ (d : ℕ × Ruling). entered_ranges k ns d.0 (ranges_of d.1)) cs) i h)
  where
    by_cases : (Contains (flat_map (λ (d : ℕ × Ruling). entered_ranges k ns d.0 (ranges_of d.1)) cs) i → IsEntered f k ns i)
        → Contains (entered_ranges k ns c.0 (ranges_of c.1)) i ⊎ Contains (flat_map (λ (d : ℕ × Ruling). entered_ranges k ns d.0 (ranges_of d.1)) cs) i → IsEntered f k ns i
    by_cases ih (inr m) = ih m
    by_cases ih (inl m) = entered_range f k ns c.0 c.1 (ranges_of c.1) i (there c (contains_first c cs)) (λ r d. d) m

pub entered_member : (f : Plan) (k : ℕ) (ns : List ℕ) (i : Inside) → Contains (entered_regions f k ns) i → IsEntered f k ns i
entered_member f k ns i h = entered_among f k ns (clauses f) i (λ c m. m) h

-- Fewer regions

abbrev pub Less : ℕ → List (List Inside) → List (List Inside) → Type 0
Less k [] [] = Unit {0}
Less k [] (b ∷ bs) = ⊥
Less k (a ∷ as') [] = ⊥
Less k (a ∷ as') (b ∷ bs) = ((i : Inside) → Contains a i → i.filter ≡ k → Contains b i) × Less k as' bs

any_less : (k : ℕ) (as' bs : List (List Inside)) (i : Inside) → Less k as' bs → i.filter ≡ k → AnyOf as' i → AnyOf bs i
any_less k [] [] i h ik m = m
any_less k [] (b ∷ bs) i h ik m = absurd h
any_less k (a ∷ as') [] i h ik m = absurd h
any_less k (a ∷ as') (b ∷ bs) i h ik (inl c) = inl (h.0 i c ik)
any_less k (a ∷ as') (b ∷ bs) i h ik (inr m) = inr (any_less k as' bs i h.1 ik m)

pub one_less : (k : ℕ) (as' bs : List (List Inside)) → Less k as' bs → AreOneRegion k bs → AreOneRegion k as'
one_less k [] [] h g = tt
one_less k [] (b ∷ bs) h g = absurd h
one_less k (a ∷ as') [] h g = absurd h
one_less k (a ∷ as') (b ∷ bs) h g = (
  ((λ i j c d ik jk e. g.0.0 i j (h.0 i c ik) (h.0 j d jk) ik jk e), (λ i j c m ik jk e. g.0.1 i j (h.0 i c ik) (any_less k as' bs j h.1 jk m) ik jk e)),
  one_less k as' bs h.1 g.1,
)

less_itself : (k : ℕ) (iss : List (List Inside)) → Less k iss iss
less_itself k [] = tt
less_itself k (is ∷ iss) = ((λ i c ik. c), less_itself k iss)

-- What is still owed

-- of what was owed, that is made, or it is still owed
owed_less : (os : Queue) (l : ℕ) (o q : Operation) → Owes os l o → IsInQueue os q → (o ≡ q) ⊎ IsInQueue (without_first os) q
owed_less [] l o q is h = absurd is
owed_less (x ∷ os) l o q is (inl e) = inl (sym (ap (λ (y : ℕ × Operation). y.1) is) ∙ e)
owed_less (x ∷ os) l o q is (inr h) = inr h

still_pending : (k : ℕ) (os : Queue) (l : ℕ) (o : Operation) → Owes os l o → ((ns : List ℕ) → o ≡ at k ns → ⊥) → Pending k os → Pending k (without_first os)
still_pending k os l o is n h = by_cases (owed_less os l o (at k h.0) is h.1)
  where
    by_cases : (o ≡ at k h.0) ⊎ IsInQueue (without_first os) (at k h.0) → Pending k (without_first os)
    by_cases (inl e) = absurd (n h.0 e)
    by_cases (inr m) = (h.0, m)

still_leaving : (k : ℕ) (os : Queue) (l : ℕ) (o : Operation) (i : Inside) → Owes os l o → ((ns : List ℕ) → o ≡ past k ns → is_left_with k ns i ≡ true → ⊥) → Leaving k os i
    → Leaving k (without_first os) i
still_leaving k os l o i is n h = by_cases (owed_less os l o (past k h.0) is h.1.0)
  where
    by_cases : (o ≡ past k h.0) ⊎ IsInQueue (without_first os) (past k h.0) → Leaving k (without_first os) i
    by_cases (inl e) = absurd (n h.0 e h.1.1)
    by_cases (inr m) = (h.0, (m, h.1.1))

less_live : (f : Plan) (k : ℕ) (b : Bool) (os : Queue) (ls : List Level) (zs : List OpenFrame) (l : ℕ) (o : Operation) → Owes os l o → ((ns : List ℕ) → o ≡ at k ns → ⊥)
    → ((ns : List ℕ) → o ≡ past k ns → ⊥) → Live f k b os ls zs → Live f k b (without_first os) ls zs
less_live f k true os ls zs l o is n m h =
    more_fit f k (λ q. Pending k os) (λ q. Pending k (without_first os)) (Leaving k os) (Leaving k (without_first os)) ls zs (λ q a. still_pending k os l o is n a)
    (λ i a. still_leaving k os l o i is (λ ns e d. m ns e) a) h
less_live f k false os ls zs l o is n m h = h

-- an operation that neither begins nor completes events
pub other_fits : (f : Plan) (k : ℕ) (ls : List Level) (z : Walk) (l : ℕ) (o : Operation) → Owes z.owed l o → ((ns : List ℕ) → o ≡ at k ns → ⊥) → ((ns : List ℕ) → o ≡ past k ns → ⊥)
    → FitsCourse f k ls z → FitsCourse f k ls (made_one z)
other_fits f k ls z l o is n m h = record {
  asks = less_all (AsksEvents f k z.active z.spot) z.owed h.asks;
  live = less_live f k (has z.active k) z.owed ls z.frames l o is n m h.live;
  called = h.called;
}

-- Events are complete

past_live : (f : Plan) (k : ℕ) (b : Bool) (os : Queue) (ls : List Level) (zs : List OpenFrame) (l j : ℕ) (ns : List ℕ) → Owes os l (past j ns) → Live f k b os ls zs
    → Live f k b (without_first os) ls (in_frame (completed j ns) zs)
past_live f k true os [] zs l j ns is h = tt
past_live f k true os (x ∷ xs) [] l j ns is h = tt
past_live f k true os (x ∷ xs) (z ∷ zs) l j ns is h = (
  (
    more_noted f k (λ q. Pending k os) (λ q. Pending k (without_first os)) x.opened z.statements (λ q a. still_pending k os l (past j ns) is (λ ms e. no_at ms e) a) h.0.0,
    (λ i c ik. on_paths i ik (filter_member (λ (q : Inside). not (is_left_with j ns q)) z.inside i c)),
  ),
  h.1,
)
  where
    no_at : (ms : List ℕ) → past j ns ≡ at k ms → ⊥
    no_at ms e = cc

    stays_inside : (i : Inside) → not (is_left_with j ns i) ≡ true → (ms : List ℕ) → past j ns ≡ past k ms → is_left_with k ms i ≡ true → ⊥
    stays_inside i a ms e d =
        let filter_is : j ≡ k = cc in
        let events : ns ≡ ms = cc in
        let P : ℕ → Type 0 = λ q. not (is_left_with q ns i) ≡ true in
        let Q : List ℕ → Type 0 = λ q. not (is_left_with k q i) ≡ true in
        not_both (is_left_with k ms i) (subst Q events (subst P filter_is a)) d

    by_cases : (i : Inside) → not (is_left_with j ns i) ≡ true → FitsRange f x i.range ⊎ Leaving k os i → FitsRange f x i.range ⊎ Leaving k (without_first os) i
    by_cases i a (inl d) = inl d
    by_cases i a (inr d) = inr (still_leaving k os l (past j ns) i is (stays_inside i a) d)

    on_paths : (i : Inside) → i.filter ≡ k → (not (is_left_with j ns i) ≡ true) × Contains z.inside i
        → IsRegionOf f i.clause i.range × (FitsRange f x i.range ⊎ Leaving k (without_first os) i)
    on_paths i ik c = let a = h.0.1 i c.1 ik in (a.0, by_cases i c.0 a.1)
past_live f k false os ls [] l j ns is h = h
past_live f k false os ls (z ∷ zs) l j ns is h = λ i m ik. by_cases i ik m
  where
    by_cases : (i : Inside) → i.filter ≡ k → Contains (filter (λ (q : Inside). not (is_left_with j ns q)) z.inside) i ⊎ AnyOf (inside_each zs) i → ⊥
    by_cases i ik (inl c) = h i (inl (filter_member (λ (q : Inside). not (is_left_with j ns q)) z.inside i c).1) ik
    by_cases i ik (inr m) = h i (inr m) ik

pub past_fits : (p : Source) (plans : Plans) (k : ℕ) (ls : List Level) (z : Walk) (l j : ℕ) (ns : List ℕ) → Owes z.owed l (past j ns) → FitsCourse (plans k) k ls z
    → FitsCourse (plans k) k ls (after_operation p plans z (past j ns))
past_fits p plans k ls z l j ns is h = record {
  asks = less_all (AsksEvents (plans k) k z.active z.spot) z.owed h.asks;
  live = past_live (plans k) k (has z.active k) z.owed ls z.frames l j ns is h.live;
  called = h.called;
}

less_completed : (k j : ℕ) (ns : List ℕ) (zs : List OpenFrame) → Less k (inside_each (in_frame (completed j ns) zs)) (inside_each zs)
less_completed k j ns [] = tt
less_completed k j ns (z ∷ zs) = ((λ i c ik. (filter_member (λ (q : Inside). not (is_left_with j ns q)) z.inside i c).1), less_itself k (inside_each zs))

pub past_one : (p : Source) (plans : Plans) (k : ℕ) (z : Walk) (j : ℕ) (ns : List ℕ) → AreOneRegion k (inside_by_frame z) → AreOneRegion k (inside_by_frame (after_operation p plans z (past j ns)))
past_one p plans k z j ns h =
    one_less k (inside_by_frame (after_operation p plans z (past j ns))) (inside_by_frame z) ((λ i c ik. c), less_completed k j ns z.frames) h

-- Events begin

-- those of a beginning match at the frame's node
here_matches : (f : Plan) (g : ℕ) (fn : Function) (m : Option Node) (os : List Body) (xs gone : List Level) (t : Spot) (ns : List ℕ) → FitsNode fn m os
    → FitsSpot (record { func = g; function = fn; node = m; opened = os } ∷ xs) gone t → IsCalled (record { func = g; function = fn; node = m; opened = os } ∷ xs) t → HereAt f t ns
    → (n : ℕ) → Contains ns n → MatchesAt f g m os n
here_matches f g fn m os xs gone elsewhere ns k s c h n d = absurd h
here_matches f g fn m os xs gone (beginning l env) ns k s c h n d =
    let P : Option Node → Type 0 = λ q. FitsNode fn q os in
    let Q : Option Node → Type 0 = λ q. MatchesAt f g q os n in
    let R : List ℕ → Type 0 = λ q. Contains q n in
    subst Q (sym s.1) (by_opened os (subst P s.1 k) (matches_statement f l env n (subst R h d)))
  where
    by_opened : (bs : List Body) → FitsNode fn (Some (path.begins l)) bs → Watches f n (statement l) → MatchesAt f g (Some (path.begins l)) bs n
    by_opened [] k' a = absurd k'
    by_opened (b ∷ bs) k' a = a
here_matches f g fn m os xs gone (entered h' env) ns k s c h n d =
    let P : Option Node → Type 0 = λ q. FitsNode fn q os in
    let Q : Option Node → Type 0 = λ q. MatchesAt f g q os n in
    let R : List ℕ → Type 0 = λ q. Contains q n in
    subst Q (sym s.1) (by_opened os (subst P s.1 k) (matches_function f h' env n (subst R h d)))
  where
    by_opened : (bs : List Body) → FitsNode fn None bs → Watches f n (function (Some h')) → MatchesAt f g None bs n
    by_opened [] k' a =
        let S : ℕ → Type 0 = λ q. Watches f n (function (Some q)) in
        subst S (sym c) a
    by_opened (b ∷ bs) k' a = absurd k'
here_matches f g fn m os xs gone (complete l) ns k s c h n d = absurd h
here_matches f g fn m os xs gone (left h' is) ns k s c h n d = absurd h
here_matches f g fn m os xs gone (trapped l) ns k s c h n d = absurd h

-- nothing is complete where events begin
not_done : (f : Plan) (t : Spot) (ns : List ℕ) → HereAt f t ns → IsDone t → ⊥
not_done f elsewhere ns h d = d
not_done f (beginning l env) ns h d = d
not_done f (entered g env) ns h d = d
not_done f (complete l) ns h d = h
not_done f (left g is) ns h d = d
not_done f (trapped l) ns h d = d

all_of : (Q : Operation → Type 0) (os : Queue) (o : Operation) → AllOwed Q os → IsInQueue os o → Q o
all_of Q [] o h m = absurd m
all_of Q (x ∷ os) o h (inl e) = subst Q e h.0
all_of Q (x ∷ os) o h (inr m) = all_of Q os o h.1 m

none_leaving : (f : Plan) (k : ℕ) (ks : List ℕ) (t : Spot) (os : Queue) (ns : List ℕ) (i : Inside) → HereAt f t ns → AllOwed (AsksEvents f k ks t) os → Leaving k os i → ⊥
none_leaving f k ks t os ns i here_ asks h = not_done f t ns here_ (all_of (AsksEvents f k ks t) os (past k h.0) asks h.1.0 refl)

-- where events of the filter begin in this frame
record StartsEvents (p : Source) (f : Plan) (k : ℕ) (ks : List ℕ) (x : Level) (xs gone : List Level) (t : Spot) (os : Queue) (ns : List ℕ) : Type 0 where
  well : IsWellSited f
  good : IsGood p x
  spot : FitsSpot (x ∷ xs) gone t
  called : IsCalled (x ∷ xs) t
  asks : AllOwed (AsksEvents f k ks t) os
  here_ : HereAt f t ns

matched : (p : Source) (f : Plan) (k : ℕ) (ks : List ℕ) (x : Level) (xs gone : List Level) (t : Spot) (os : Queue) (ns : List ℕ) → StartsEvents p f k ks x xs gone t os ns
    → (n : ℕ) → Contains ns n → MatchesAt f x.func x.node x.opened n
matched p f k ks x xs gone t os ns s = here_matches f x.func x.function x.node x.opened xs gone t ns s.good.node s.spot s.called s.here_

-- all regions of the frame are on its path, those that begin too
begun_paths : (p : Source) (f : Plan) (k : ℕ) (ks : List ℕ) (x : Level) (xs gone : List Level) (t : Spot) (os : Queue) (ns : List ℕ) (is : List Inside)
    → StartsEvents p f k ks x xs gone t os ns → OnPaths f k (Leaving k os) x is → OnPaths f k (λ i. ⊥) x (entered_regions f k ns ++ is)
begun_paths p f k ks x xs gone t os ns is s h i c ik = by_cases (Contains-append_cases (entered_regions f k ns) is i c)
  where
    only_on : FitsRange f x i.range ⊎ Leaving k os i → FitsRange f x i.range ⊎ ⊥
    only_on (inl a) = inl a
    only_on (inr a) = absurd (none_leaving f k ks t os ns i s.here_ s.asks a)

    by_cases : Contains (entered_regions f k ns) i ⊎ Contains is i → IsRegionOf f i.clause i.range × (FitsRange f x i.range ⊎ ⊥)
    by_cases (inr m) = let a = h i m ik in (a.0, only_on a.1)
    by_cases (inl m) =
        let e : IsEntered f k ns i = entered_member f k ns i m in (
          e.region,
          inl (begun_range p f x.func x.function x.node x.opened ns i.range s.well s.good.opened s.good.node (matched p f k ks x xs gone t os ns s)
              (region_there f i.clause i.range e.region) e.shared),
        )

begun_each : (p : Source) (f : Plan) (k : ℕ) (ks : List ℕ) (x : Level) (xs gone : List Level) (t : Spot) (os : Queue) (ns : List ℕ) → StartsEvents p f k ks x xs gone t os ns
    → (i : Inside) → Contains (entered_regions f k ns) i → i.filter ≡ k → IsBegun f x i
begun_each p f k ks x xs gone t os ns s i c ik =
    let e : IsEntered f k ns i = entered_member f k ns i c in
    let one = shared_one (entry_events i.range) ns e.shared in
    record { event = one.0; entry = one.1.0; matches = matched p f k ks x xs gone t os ns s one.0 one.1.1 }

-- events of the statement are noted with it
noted_first : (f : Plan) (k : ℕ) (E : ℕ → Type 0) (g : ℕ) (fn : Function) (m : Option Node) (os : List Body) (ss : List OpenStatement) (l : ℕ) (env : Locals)
    (ns : List ℕ) → FitsNode fn m os → m ≡ Some (path.begins l) → ns ≡ matching f (statement l) env → Noted f k E os ss → Noted f k (λ n. ⊥) os (note_events k ns ss)
noted_first f k E g fn m [] ss l env ns node is e h = tt
noted_first f k E g fn m (b ∷ bs) [] l env ns node is e h = tt
noted_first f k E g fn m (b ∷ bs) (s ∷ ss) l env ns node is e h = ((λ q n begun untested. inl (there q n begun untested)), h.1)
  where
    begins_there : Begins b l
    begins_there =
        let P : Option Node → Type 0 = λ q. FitsNode fn q (b ∷ bs) in
        subst P is node

    there : (q n : ℕ) → Begins b q → watch_at f n ≡ Some (record { site = statement q; test = None }) → Contains (if k == k then ns else events_of_filter k s.events) n
    there q n begun untested =
        let P : ℕ → Type 0 = λ a. watch_at f n ≡ Some (record { site = statement a; test = None }) in
        let R : List ℕ → Type 0 = λ a. Contains a n in
        let c : Contains ns n = subst R (sym e) (untested_matches f l env n (subst P (one_line b q l begun begins_there) untested)) in
        pick R (k == k) ns (events_of_filter k s.events) (λ a. c) (λ a. absurd (same_filter k k refl a))

-- events of another filter change nothing
noted_beside : (f : Plan) (k j : ℕ) (E : ℕ → Type 0) (os : List Body) (ss : List OpenStatement) (ns : List ℕ) → (j == k) ≡ false → Noted f k E os ss → Noted f k E os (note_events j ns ss)
noted_beside f k j E [] ss ns e h = tt
noted_beside f k j E (b ∷ bs) [] ns e h = tt
noted_beside f k j E (b ∷ bs) (s ∷ ss) ns e h = ((λ q n begun untested. there n (h.0 q n begun untested)), h.1)
  where
    there : (n : ℕ) → Contains (events_of_filter k s.events) n ⊎ E n → Contains (if j == k then ns else events_of_filter k s.events) n ⊎ E n
    there n (inr a) = inr a
    there n (inl c) =
        let R : List ℕ → Type 0 = λ a. Contains a n in
        inl (pick R (j == k) ns (events_of_filter k s.events) (λ a. absurd (never_both (j == k) a e)) (λ a. c))

-- the frame in which events begin

abbrev statements_at : Spot → ℕ → List ℕ → List OpenStatement → List OpenStatement
statements_at elsewhere k ns ss = ss
statements_at (beginning l env) k ns ss = note_events k ns ss
statements_at (entered g env) k ns ss = ss
statements_at (complete l) k ns ss = ss
statements_at (left g is) k ns ss = ss
statements_at (trapped l) k ns ss = ss

abbrev begun_frame : Plan → Spot → ℕ → List ℕ → OpenFrame → OpenFrame
begun_frame f t k ns z = record { func = z.func; statements = statements_at t k ns z.statements; inside = entered_regions f k ns ++ z.inside }

begun_is : (f : Plan) (t : Spot) (k : ℕ) (ns : List ℕ) (z : OpenFrame) → begun_at f t k ns z ≡ begun_frame f t k ns z
begun_is f elsewhere k ns z = refl
begun_is f (beginning l env) k ns z = refl
begun_is f (entered g env) k ns z = refl
begun_is f (complete l) k ns z = refl
begun_is f (left g is) k ns z = refl
begun_is f (trapped l) k ns z = refl

-- of another filter

beside_noted : (f : Plan) (k j : ℕ) (E : ℕ → Type 0) (t : Spot) (os : List Body) (ss : List OpenStatement) (ns : List ℕ) → (j == k) ≡ false → Noted f k E os ss
    → Noted f k E os (statements_at t j ns ss)
beside_noted f k j E elsewhere os ss ns e h = h
beside_noted f k j E (beginning l env) os ss ns e h = noted_beside f k j E os ss ns e h
beside_noted f k j E (entered g env) os ss ns e h = h
beside_noted f k j E (complete l) os ss ns e h = h
beside_noted f k j E (left g is) os ss ns e h = h
beside_noted f k j E (trapped l) os ss ns e h = h

not_entered : (g : Plan) (k j : ℕ) (ns : List ℕ) (is : List Inside) (i : Inside) → (j == k) ≡ false → i.filter ≡ k → Contains (entered_regions g j ns ++ is) i → Contains is i
not_entered g k j ns is i e ik c = by_cases (Contains-append_cases (entered_regions g j ns) is i c)
  where
    by_cases : Contains (entered_regions g j ns) i ⊎ Contains is i → Contains is i
    by_cases (inr m) = m
    by_cases (inl m) = absurd (same_filter j k (sym (IsEntered.filter_is (entered_member g j ns i m)) ∙ ik) e)

beside_live : (f g : Plan) (k j : ℕ) (b : Bool) (t : Spot) (os : Queue) (ls : List Level) (zs : List OpenFrame) (l : ℕ) (ns : List ℕ) → (j == k) ≡ false → Owes os l (at j ns)
    → Live f k b os ls zs → Live f k b (without_first os) ls (in_frame (begun_at g t j ns) zs)
beside_live f g k j true t os [] zs l ns e is h = tt
beside_live f g k j true t os (x ∷ xs) [] l ns e is h = tt
beside_live f g k j true t os (x ∷ xs) (z ∷ zs) l ns e is h =
    let P : OpenFrame → Type 0 = λ q. FitFrames f k (λ n. Pending k (without_first os)) (Leaving k (without_first os)) (x ∷ xs) (q ∷ zs) in
    subst P (sym (begun_is g t j ns z)) (
      (
        beside_noted f k j (λ n. Pending k (without_first os)) t x.opened z.statements ns e
            (more_noted f k (λ n. Pending k os) (λ n. Pending k (without_first os)) x.opened z.statements (λ n a. still_pending k os l (at j ns) is no_at a) h.0.0),
        (λ i c ik. more_paths f k (Leaving k os) (Leaving k (without_first os)) x z.inside (λ q a. still_leaving k os l (at j ns) q is (λ ms u d. no_past ms u) a) h.0.1 i
            (not_entered g k j ns z.inside i e ik c) ik),
      ),
      h.1,
    )
  where
    no_at : (ms : List ℕ) → at j ns ≡ at k ms → ⊥
    no_at ms u =
        let same : j ≡ k = cc in
        same_filter j k same e

    no_past : (ms : List ℕ) → at j ns ≡ past k ms → ⊥
    no_past ms u = cc
beside_live f g k j false t os ls [] l ns e is h = h
beside_live f g k j false t os ls (z ∷ zs) l ns e is h =
    let P : OpenFrame → Type 0 = λ q. NoneInside k (q ∷ zs) in
    subst P (sym (begun_is g t j ns z)) (λ i m ik. by_cases i ik m)
  where
    by_cases : (i : Inside) → i.filter ≡ k → Contains (entered_regions g j ns ++ z.inside) i ⊎ AnyOf (inside_each zs) i → ⊥
    by_cases i ik (inl c) = h i (inl (not_entered g k j ns z.inside i e ik c)) ik
    by_cases i ik (inr m) = h i (inr m) ik

beside_one : (g : Plan) (k j : ℕ) (t : Spot) (ns : List ℕ) (zs : List OpenFrame) → (j == k) ≡ false → AreOneRegion k (leaving t ∷ inside_each zs)
    → AreOneRegion k (leaving t ∷ inside_each (in_frame (begun_at g t j ns) zs))
beside_one g k j t ns [] e h = h
beside_one g k j t ns (z ∷ zs) e h =
    let P : OpenFrame → Type 0 = λ q. AreOneRegion k (leaving t ∷ inside_each (q ∷ zs)) in
    subst P (sym (begun_is g t j ns z))
    (one_less k (leaving t ∷ (entered_regions g j ns ++ z.inside) ∷ inside_each zs) (leaving t ∷ z.inside ∷ inside_each zs)
    ((λ i c ik. c), ((λ i c ik. not_entered g k j ns z.inside i e ik c), less_itself k (inside_each zs))) h)

-- of the filter itself

own_noted : (f : Plan) (k : ℕ) (E : ℕ → Type 0) (x : Level) (xs gone : List Level) (t : Spot) (ss : List OpenStatement) (ns : List ℕ) → FitsNode x.function x.node x.opened
    → FitsSpot (x ∷ xs) gone t → HereAt f t ns → Noted f k E x.opened ss → Noted f k (λ n. ⊥) x.opened (statements_at t k ns ss)
own_noted f k E x xs gone elsewhere ss ns node s c h = absurd c
own_noted f k E x xs gone (beginning l env) ss ns node s c h = noted_first f k E x.func x.function x.node x.opened ss l env ns node s.1 c h
own_noted f k E x xs gone (entered g env) ss ns node s c h =
    let P : Option Node → Type 0 = λ q. FitsNode x.function q x.opened in
    by_opened x.opened (subst P s.1 node)
  where
    by_opened : (bs : List Body) → FitsNode x.function None bs → Noted f k (λ n. ⊥) bs ss
    by_opened [] a = tt
    by_opened (b ∷ bs) a = absurd a
own_noted f k E x xs gone (complete l) ss ns node s c h = absurd c
own_noted f k E x xs gone (left g is) ss ns node s c h = absurd c
own_noted f k E x xs gone (trapped l) ss ns node s c h = absurd c

own_fit : (p : Source) (f : Plan) (k : ℕ) (ks : List ℕ) (ls gone : List Level) (zs : List OpenFrame) (t : Spot) (os more : Queue) (ns : List ℕ) → IsWellSited f → AreGood p ls
    → FitsSpot ls gone t → IsCalled ls t → AllOwed (AsksEvents f k ks t) os → HereAt f t ns → FitFrames f k (λ n. Pending k os) (Leaving k os) ls zs
    → FitFrames f k (λ n. Pending k more) (Leaving k more) ls (in_frame (begun_at f t k ns) zs)
own_fit p f k ks [] gone zs t os more ns well good s called asks here_ h = tt
own_fit p f k ks (x ∷ xs) gone [] t os more ns well good s called asks here_ h = tt
own_fit p f k ks (x ∷ xs) gone (z ∷ zs) t os more ns well good s called asks here_ h =
    let st : StartsEvents p f k ks x xs gone t os ns = record { well = well; good = good.0; spot = s; called = called; asks = asks; here_ = here_ } in
    let P : OpenFrame → Type 0 = λ q. FitFrames f k (λ n. Pending k more) (Leaving k more) (x ∷ xs) (q ∷ zs) in
    subst P (sym (begun_is f t k ns z)) (
      (
        more_noted f k (λ n. ⊥) (λ n. Pending k more) x.opened (statements_at t k ns z.statements) (λ n a. absurd a)
            (own_noted f k (λ n. Pending k os) x xs gone t z.statements ns good.0.node s here_ h.0.0),
        more_paths f k (λ i. ⊥) (Leaving k more) x (entered_regions f k ns ++ z.inside) (λ i a. absurd a) (begun_paths p f k ks x xs gone t os ns z.inside st h.0.1),
      ),
      h.1,
    )

none_left : (f : Plan) (t : Spot) (ns : List ℕ) → HereAt f t ns → leaving t ≡ []
none_left f elsewhere ns h = refl
none_left f (beginning l env) ns h = refl
none_left f (entered g env) ns h = refl
none_left f (complete l) ns h = refl
none_left f (left g is) ns h = absurd h
none_left f (trapped l) ns h = refl

own_one : (p : Source) (f : Plan) (k : ℕ) (ks : List ℕ) (ls gone : List Level) (zs : List OpenFrame) (t : Spot) (os : Queue) (ns : List ℕ) → HasNone (IsPathFault p f) → IsWellSited f
    → AreGood p ls → SameFrames ls zs → FitsSpot ls gone t → IsCalled ls t → AllOwed (AsksEvents f k ks t) os → HereAt f t ns
    → FitFrames f k (λ n. Pending k os) (Leaving k os) ls zs → AreOneRegion k (leaving t ∷ inside_each zs) → AreOneRegion k (leaving t ∷ inside_each (in_frame (begun_at f t k ns) zs))
own_one p f k ks ls gone [] t os ns none well good same s called asks here_ h one = one
own_one p f k ks [] gone (z ∷ zs) t os ns none well good same s called asks here_ h one = absurd same
own_one p f k ks (x ∷ xs) gone (z ∷ zs) t os ns none well good same s called asks here_ h one =
    let st : StartsEvents p f k ks x xs gone t os ns = record { well = well; good = good.0; spot = s; called = called; asks = asks; here_ = here_ } in
    let P : OpenFrame → Type 0 = λ q. AreOneRegion k (leaving t ∷ inside_each (q ∷ zs)) in
    let Q : List Inside → Type 0 = λ q. AreOneRegion k (q ∷ (entered_regions f k ns ++ z.inside) ∷ inside_each zs) in
    let new : AreOneRegion k ((entered_regions f k ns ++ z.inside) ∷ inside_each zs) =
    one_begun p f k x xs zs (entered_regions f k ns) z.inside none good same.1.1 h.1 (begun_paths p f k ks x xs gone t os ns z.inside st h.0.1)
    (begun_each p f k ks x xs gone t os ns st) one.1 in
    subst P (sym (begun_is f t k ns z)) (subst Q (sym (none_left f t ns here_)) (((λ i j c. absurd (no_member i c)), (λ i j c. absurd (no_member i c))), new))

-- Events of any filter begin

pub at_fits : (p : Source) (plans : Plans) (k : ℕ) (ls gone : List Level) (z : Walk) (l j : ℕ) (ns : List ℕ) → IsWellSited (plans k) → AreGood p ls → FitsSpot ls gone z.spot
    → Owes z.owed l (at j ns) → FitsCourse (plans k) k ls z → FitsCourse (plans k) k ls (after_operation p plans z (at j ns))
at_fits p plans k ls gone z l j ns well good s is h = record {
  asks = less_all (AsksEvents (plans k) k z.active z.spot) z.owed h.asks;
  live = by_bool (j == k) (λ e. own_live (same_number j k e)) (λ e. beside_live (plans k) (plans j) k j (has z.active k) z.spot z.owed ls z.frames l ns e is h.live);
  called = h.called;
}
  where
    own_live : j ≡ k → Live (plans k) k (has z.active k) (without_first z.owed) ls (in_frame (begun_at (plans j) z.spot j ns) z.frames)
    own_live same =
        let a = first_all (AsksEvents (plans k) k z.active z.spot) z.owed l (at j ns) is h.asks same in
        let P : ℕ → Type 0 = λ q. Live (plans k) k (has z.active k) (without_first z.owed) ls (in_frame (begun_at (plans q) z.spot q ns) z.frames) in
        let Q : Bool → Type 0 = λ b. Live (plans k) k b (without_first z.owed) ls (in_frame (begun_at (plans k) z.spot k ns) z.frames) in
        let R : Bool → Type 0 = λ b. Live (plans k) k b z.owed ls z.frames in
        subst P (sym same) (subst Q (sym a.0)
        (own_fit p (plans k) k z.active ls gone z.frames z.spot z.owed (without_first z.owed) ns well good s h.called h.asks a.1 (subst R a.0 h.live)))

pub at_one : (p : Source) (plans : Plans) (k : ℕ) (ls gone : List Level) (z : Walk) (l j : ℕ) (ns : List ℕ) → HasNone (IsPathFault p (plans k)) → IsWellSited (plans k) → AreGood p ls
    → SameFrames ls z.frames → FitsSpot ls gone z.spot → Owes z.owed l (at j ns) → FitsCourse (plans k) k ls z → AreOneRegion k (inside_by_frame z)
    → AreOneRegion k (inside_by_frame (after_operation p plans z (at j ns)))
at_one p plans k ls gone z l j ns none well good same_frames s is h one =
    by_bool (j == k) (λ e. own_case (same_number j k e)) (λ e. beside_one (plans j) k j z.spot ns z.frames e one)
  where
    own_case : j ≡ k → AreOneRegion k (inside_by_frame (after_operation p plans z (at j ns)))
    own_case same =
        let a = first_all (AsksEvents (plans k) k z.active z.spot) z.owed l (at j ns) is h.asks same in
        let P : ℕ → Type 0 = λ q. AreOneRegion k (leaving z.spot ∷ inside_each (in_frame (begun_at (plans q) z.spot q ns) z.frames)) in
        let R : Bool → Type 0 = λ b. Live (plans k) k b z.owed ls z.frames in
        subst P (sym same)
        (own_one p (plans k) k z.active ls gone z.frames z.spot z.owed ns none well good same_frames s h.called h.asks a.1 (subst R a.0 h.live) one)

-- A frame is left

left_asks : (f : Plan) (k : ℕ) (ks : List ℕ) (t : Spot) (os : Queue) → AllOwed (AsksEvents f k ks t) os → AllOwed (AsksEvents f k ks (left_behind t)) os
left_asks f k ks elsewhere os h = h
left_asks f k ks (beginning l env) os h = h
left_asks f k ks (entered g env) os h = h
left_asks f k ks (complete l) os h = h
left_asks f k ks (left g is) [] h = tt
left_asks f k ks (left g is) (x ∷ os) h = (of_one x.1 h.0, left_asks f k ks (left g is) os h.1)
  where
    of_one : (o : Operation) → AsksEvents f k ks (left g is) o → AsksEvents f k ks (left g []) o
    of_one (at j ns) a = a
    of_one (past j ns) a = a
    of_one _ a = a
left_asks f k ks (trapped l) os h = h

left_called : (ls : List Level) (t : Spot) → IsCalled ls t → IsCalled ls (left_behind t)
left_called ls elsewhere h = h
left_called ls (beginning l env) h = h
left_called ls (entered g env) h = h
left_called ls (complete l) h = h
left_called ls (left g is) h = h
left_called ls (trapped l) h = h

pub back_fits : (p : Source) (plans : Plans) (f : Plan) (k : ℕ) (ls : List Level) (z : Walk) (l : ℕ) → Owes z.owed l back → FitsCourse f k ls z → FitsCourse f k ls (after_operation p plans z back)
back_fits p plans f k ls z l is h = record {
  asks = left_asks f k z.active z.spot (without_first z.owed) (less_all (AsksEvents f k z.active z.spot) z.owed h.asks);
  live = less_live f k (has z.active k) z.owed ls z.frames l back is no_at no_past h.live;
  called = left_called ls z.spot h.called;
}
  where
    no_at : (ns : List ℕ) → back ≡ at k ns → ⊥
    no_at ns e = cc

    no_past : (ns : List ℕ) → back ≡ past k ns → ⊥
    no_past ns e = cc

pub back_one : (k : ℕ) (t : Spot) (iss : List (List Inside)) → AreOneRegion k (leaving t ∷ iss) → AreOneRegion k (leaving (left_behind t) ∷ iss)
back_one k elsewhere iss h = h
back_one k (beginning l env) iss h = h
back_one k (entered g env) iss h = h
back_one k (complete l) iss h = h
back_one k (left g is) iss h = less_leaving k is iss h
back_one k (trapped l) iss h = h
