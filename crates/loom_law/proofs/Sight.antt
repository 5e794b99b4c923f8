-- What a filter would see along a course fits it: events under way are those of open statements, and regions were entered on the path of their frame.
use Rattle.loom_law.specs.Walk.{Queue}
use Rattle.std.proofs.Common.{ℕ, ◌≡◌, ◌⊎◌, inl, inr, not, Bool, true, false, List, [], ◌∷◌, ◌++◌, slice_get, Option, Some, None, refl, sym, ap, subst, ◌∙◌, if◌then◌else◌}
use Rattle.std.specs.List.{Contains, filter}
use Rattle.std.proofs.lemmas.List.Elements.{Contains-append_left, Contains-append_cases}
use Rattle.loom_tree.specs.Tree.{Body, simple, if_, while_, Function, Source}
use Rattle.loom_tree.specs.Tree as tree
use Rattle.loom_lang.specs.Trace.{Locals}
use Rattle.loom_law.specs.Filter.{Site, statement, function, Watch, Range, between, whole, Plan, matching, share, entry_events, exit_events}
use Rattle.loom_law.specs.FilterView.{FrameView, FilterView, all_ranges, with_events, with_begun, with_complete, with_all_complete, with_statement, first_frame, other_frames, is_empty}
use Rattle.loom_law.specs.Paths.{Node, links_of, statements, others, Begins, watch_at, IsExit, Halts, Comes, here, goes}
use Rattle.loom_law.specs.Paths as path
use Rattle.loom_law.proofs.Course.{Level, Course, AreNone, OnFirst, Follows, IsNested, AllReturn, IsLoop, IsCalledFrom, moved, at_level, no_member, contains_cases}
use Rattle.loom_law.proofs.Matches.{Watches, filter_member, shared_one, one_shared, matches_statement, matches_function, untested_matches}

-- A filter's regions between events watch lines, its other regions functions, and an event that watches a function is a region.

abbrev pub IsSited : Plan → Range → Type 0
IsSited f (between es xs) = (n : ℕ) → Contains es n → (w : Watch) → watch_at f n ≡ Some w → (l : ℕ) × (w.site ≡ statement l)
IsSited f (whole n) = (w : Watch) → watch_at f n ≡ Some w → (g : Option ℕ) × (w.site ≡ function g)

pub record IsWellSited (f : Plan) : Type 0 where
  pub ranges : (r : Range) → Contains (all_ranges f) r → IsSited f r
  pub functions : (n : ℕ) (w : Watch) (g : Option ℕ) → watch_at f n ≡ Some w → w.site ≡ function g → Contains (all_ranges f) (whole n)

-- A course is right: what each frame has to do with its function, and with the frame that called it.

abbrev pub AreOpened : Function → List Body → Type 0
AreOpened f [] = Unit {0}
AreOpened f (b ∷ bs) = Contains (statements f.body) b × (IsNested bs b × AreOpened f bs)

abbrev pub FitsNode : Function → Option Node → List Body → Type 0
FitsNode f None os = AreNone os
FitsNode f (Some (path.begins l)) os = OnFirst os (λ b bs. Begins b l)
FitsNode f (Some (path.complete l)) os = (b : Body) × (Begins b l × (Contains (statements f.body) b × IsNested os b))
FitsNode f (Some (path.turns l)) os = OnFirst os (λ b bs. IsLoop b l)
FitsNode f (Some path.leaves) os = ⊥

pub record IsGood (p : Source) (x : Level) : Type 0 where
  pub is : slice_get p.funcs x.func ≡ Some x.function
  pub opened : AreOpened x.function x.opened
  pub node : FitsNode x.function x.node x.opened

abbrev pub AreGood : Source → List Level → Type 0
AreGood p [] = Unit {0}
AreGood p (x ∷ xs) = IsGood p x × (IsCalledFrom p xs x.func × AreGood p xs)

abbrev pub AreGone : Source → List Level → List Level → Type 0
AreGone p ls [] = Unit {0}
AreGone p ls (x ∷ xs) = IsGood p x × (IsCalledFrom p ls x.func × (AllReturn x.opened × Follows x.function x.node path.leaves))

-- What is seen of a frame fits it.

abbrev pub WatchesBody : Plan → ℕ → Body → Type 0
WatchesBody f n b = (l : ℕ) × (Watches f n (statement l) × Begins b l)

abbrev pub FitsUnder : Plan → ℕ → List Body → List (List ℕ) → Type 0
FitsUnder f g [] [] = ⊥
FitsUnder f g [] (ns ∷ []) = (n : ℕ) → Contains ns n → Watches f n (function (Some g))
FitsUnder f g [] (ns ∷ ms ∷ mss) = ⊥
FitsUnder f g (b ∷ bs) [] = ⊥
FitsUnder f g (b ∷ bs) (ns ∷ nss) = ((n : ℕ) → Contains ns n → WatchesBody f n b) × FitsUnder f g bs nss

-- the region was entered on the path of this frame, on which no exit event without test was complete since
pub record IsOnPath (f : Plan) (x : Level) (es xs : List ℕ) : Type 0 where
  pub region : Contains (all_ranges f) (between es xs)
  pub event : ℕ
  pub one : Contains es event
  pub line : ℕ
  pub watches : Watches f event (statement line)
  pub body : Body
  pub there : Contains (statements (Function.body x.function)) body
  pub begun : Begins body line
  pub node : Node
  pub is : x.node ≡ Some node
  pub comes : Comes (links_of x.function) f xs (path.begins line) node

pub record IsInWhole (f : Plan) (x : Level) (n : ℕ) : Type 0 where
  pub region : Contains (all_ranges f) (whole n)
  pub watches : Watches f n (function (Some x.func))

abbrev pub FitsRange : Plan → Level → Range → Type 0
FitsRange f x (between es xs) = IsOnPath f x es xs
FitsRange f x (whole n) = IsInWhole f x n

pub record Fits (f : Plan) (x : Level) (y : FrameView) : Type 0 where
  pub under : FitsUnder f x.func x.opened y.under_way
  pub inside : (r : Range) → Contains y.inside r → FitsRange f x r

abbrev pub AreFit : Plan → List Level → List FrameView → Type 0
AreFit f [] [] = Unit {0}
AreFit f [] (y ∷ ys) = ⊥
AreFit f (x ∷ xs) [] = ⊥
AreFit f (x ∷ xs) (y ∷ ys) = Fits f x y × AreFit f xs ys

-- the events that match here are those of the node
abbrev pub MatchesAt : Plan → ℕ → Option Node → List Body → ℕ → Type 0
MatchesAt f g None [] n = Watches f n (function (Some g))
MatchesAt f g None (b ∷ bs) n = ⊥
MatchesAt f g (Some (path.begins l)) [] n = ⊥
MatchesAt f g (Some (path.begins l)) (b ∷ bs) n = Watches f n (statement l)
MatchesAt f g (Some (path.complete l)) os n = ⊥
MatchesAt f g (Some (path.turns l)) os n = ⊥
MatchesAt f g (Some path.leaves) os n = ⊥

abbrev pub AreHere : Plan → List Level → List ℕ → Type 0
AreHere f [] ns = Unit {0}
AreHere f (x ∷ xs) ns = (n : ℕ) → Contains ns n → MatchesAt f x.func x.node x.opened n

-- with each open statement the events without test on its line have begun
abbrev pub Knows : Plan → List Body → List (List ℕ) → Type 0
Knows f [] nss = Unit {0}
Knows f (b ∷ bs) [] = ⊥
Knows f (b ∷ bs) (ns ∷ nss) = ((l n : ℕ) → Begins b l → watch_at f n ≡ Some (record { site = statement l; test = None }) → Contains ns n) × Knows f bs nss

abbrev pub AreKnown : Plan → List Level → List FrameView → Type 0
AreKnown f [] ys = Unit {0}
AreKnown f (x ∷ xs) [] = ⊥
AreKnown f (x ∷ xs) (y ∷ ys) = Knows f x.opened y.under_way × AreKnown f xs ys

-- of a frame that has just begun nothing is seen yet
abbrev pub IsFresh : List Level → List FrameView → Type 0
IsFresh [] ys = Unit {0}
IsFresh (x ∷ xs) [] = ⊥
IsFresh (x ∷ xs) (y ∷ ys) = x.node ≡ None → y ≡ record { under_way = [] ∷ []; inside = [] }

abbrev pub AreLeaving : Plan → List Level → List FrameView → Type 0
AreLeaving f gone [] = Unit {0}
AreLeaving f [] (y ∷ ys) = ⊥
AreLeaving f (x ∷ xs) (y ∷ ys) = Fits f x y × (ys ≡ [])

pub record Sees (f : Plan) (s : Course) (w : FilterView) : Type 0 where
  pub fits : AreFit f s.levels w.frames
  pub here : AreHere f s.levels w.here
  pub knows : AreKnown f s.levels (with_begun f w.here w.frames)
  pub fresh : IsFresh s.levels w.frames
  pub leaving : AreLeaving f s.gone w.leaving

-- Where all is made that is owed

matches_function_alone : (f : Plan) (g : ℕ) (m : Option Node) (n : ℕ) → MatchesAt f g m [] n → Watches f n (function (Some g))
matches_function_alone f g None n h = h
matches_function_alone f g (Some (path.begins l)) n h = absurd h
matches_function_alone f g (Some (path.complete l)) n h = absurd h
matches_function_alone f g (Some (path.turns l)) n h = absurd h
matches_function_alone f g (Some path.leaves) n h = absurd h

matches_body : (f : Plan) (g : ℕ) (fn : Function) (m : Option Node) (b : Body) (bs : List Body) (n : ℕ) → FitsNode fn m (b ∷ bs) → MatchesAt f g m (b ∷ bs) n → WatchesBody f n b
matches_body f g fn None b bs n k h = absurd h
matches_body f g fn (Some (path.begins l)) b bs n k h = (l, (h, k))
matches_body f g fn (Some (path.complete l)) b bs n k h = absurd h
matches_body f g fn (Some (path.turns l)) b bs n k h = absurd h
matches_body f g fn (Some path.leaves) b bs n k h = absurd h

either_member : {P : ℕ → Type 0} (ms ns : List ℕ) → ((n : ℕ) → Contains ms n → P n) → ((n : ℕ) → Contains ns n → P n) → (n : ℕ) → Contains (ms ++ ns) n → P n
either_member {P} ms ns a b n c = by_cases (Contains-append_cases ms ns n c)
  where
    by_cases : Contains ms n ⊎ Contains ns n → P n
    by_cases (inl h) = a n h
    by_cases (inr h) = b n h

begun_under : (f : Plan) (g : ℕ) (fn : Function) (m : Option Node) (os : List Body) (ms : List ℕ) (nss : List (List ℕ)) → FitsNode fn m os
    → ((n : ℕ) → Contains ms n → MatchesAt f g m os n) → FitsUnder f g os nss → FitsUnder f g os (with_events ms nss)
begun_under f g fn m [] ms [] k h u = u
begun_under f g fn m [] ms (ns ∷ []) k h u = either_member ms ns (λ n c. matches_function_alone f g m n (h n c)) u
begun_under f g fn m [] ms (ns ∷ ns' ∷ nss) k h u = absurd u
begun_under f g fn m (b ∷ bs) ms [] k h u = u
begun_under f g fn m (b ∷ bs) ms (ns ∷ nss) k h u = (either_member ms ns (λ n c. matches_body f g fn m b bs n k (h n c)) u.0, u.1)

site_differs : (l : ℕ) (g : Option ℕ) → statement l ≡ function g → ⊥
site_differs l g e = cc

same_watch : (f : Plan) (n : ℕ) (v w : Watch) → watch_at f n ≡ Some v → watch_at f n ≡ Some w → v ≡ w
same_watch f n v w a b = cc

-- an event doesn't watch both a line and a function
never_both : (f : Plan) (n l : ℕ) (g : Option ℕ) → Watches f n (statement l) → Watches f n (function g) → ⊥
never_both f n l g a b =
    let same : a.watch ≡ b.watch = same_watch f n _ _ a.is b.is in
    site_differs l g (sym a.site ∙ ap (λ (w : Watch). w.site) same ∙ b.site)

sited_line : (f : Plan) (n : ℕ) (at : Site) (l : ℕ) (w : Watch) → watch_at f n ≡ Some w → w.site ≡ statement l → Watches f n (statement l)
sited_line f n at l w is site = record { watch = w; is = is; site = site }

same_member : (n j : ℕ) (ms : List ℕ) → Contains ms j → (n ≡ j) ⊎ Contains [] j → Contains ms n
same_member n j ms b (inl same) =
    let P : ℕ → Type 0 = λ z. Contains ms z in
    subst P (sym same) b
same_member n j ms b (inr none) = absurd (no_member j none)

pub begun_range : (p : Source) (f : Plan) (g : ℕ) (fn : Function) (m : Option Node) (os : List Body) (ms : List ℕ) (r : Range) → IsWellSited f
    → AreOpened fn os → FitsNode fn m os → ((n : ℕ) → Contains ms n → MatchesAt f g m os n) → Contains (all_ranges f) r → share (entry_events r) ms ≡ true
    → FitsRange f (record { func = g; function = fn; node = m; opened = os }) r
begun_range p f g fn m os ms (between es xs) well open_ k h c t =
    let one = shared_one es ms t in
    by_node m os open_ k (h one.0 one.1.1)
  where
    x : Option Node → List Body → Level
    x m' os' = record { func = g; function = fn; node = m'; opened = os' }

    e : (n : ℕ) × (Contains es n × Contains ms n)
    e = shared_one es ms t

    on_line : (l : ℕ) (w : Watch) → watch_at f e.0 ≡ Some w → w.site ≡ function (Some g) → ⊥
    on_line l w is site =
        let there = well.ranges (between es xs) c e.0 e.1.0 w is in
        site_differs there.0 (Some g) (sym there.1 ∙ site)

    by_node : (m' : Option Node) (os' : List Body) → AreOpened fn os' → FitsNode fn m' os' → MatchesAt f g m' os' e.0 → IsOnPath f (x m' os') es xs
    by_node None [] o k' a = absurd (on_line 0 a.watch a.is a.site)
    by_node None (b ∷ bs) o k' a = absurd a
    by_node (Some (path.begins l)) [] o k' a = absurd a
    by_node (Some (path.begins l)) (b ∷ bs) o k' a = record {
      region = c;
      event = e.0;
      one = e.1.0;
      line = l;
      watches = a;
      body = b;
      there = o.0;
      begun = k';
      node = path.begins l;
      is = refl;
      comes = here;
    }
    by_node (Some (path.complete l)) os' o k' a = absurd a
    by_node (Some (path.turns l)) os' o k' a = absurd a
    by_node (Some path.leaves) os' o k' a = absurd a
begun_range p f g fn m os ms (whole n) well open_ k h c t =
    let one = shared_one (n ∷ []) ms t in
    by_node m os (h n (is_n one))
  where
    is_n : ((j : ℕ) × (Contains (n ∷ []) j × Contains ms j)) → Contains ms n
    is_n q = same_member n q.0 ms q.1.1 (contains_cases n q.0 [] q.1.0)

    by_node : (m' : Option Node) (os' : List Body) → MatchesAt f g m' os' n → IsInWhole f (record { func = g; function = fn; node = m; opened = os }) n
    by_node None [] a = record { region = c; watches = a }
    by_node None (b ∷ bs) a = absurd a
    by_node (Some (path.begins l)) [] a = absurd a
    by_node (Some (path.begins l)) (b ∷ bs) a =
        let there = well.ranges (whole n) c a.watch a.is in
        absurd (site_differs l there.0 (sym a.site ∙ there.1))
    by_node (Some (path.complete l)) os' a = absurd a
    by_node (Some (path.turns l)) os' a = absurd a
    by_node (Some path.leaves) os' a = absurd a

-- what has begun here fits too
pub begun_fits : (p : Source) (f : Plan) (ls : List Level) (ns : List ℕ) (ys : List FrameView) → IsWellSited f → AreGood p ls → AreHere f ls ns → AreFit f ls ys
    → AreFit f ls (with_begun f ns ys)
begun_fits p f [] ns [] well good h fit = tt
begun_fits p f [] ns (y ∷ ys) well good h fit = absurd fit
begun_fits p f (x ∷ xs) ns [] well good h fit = absurd fit
begun_fits p f (x ∷ xs) ns (y ∷ ys) well good h fit = (
  record {
    under = begun_under f x.func x.function x.node x.opened ns y.under_way good.0.node h fit.0.under;
    inside = (λ r c. by_cases r (Contains-append_cases (filter (λ q. share (entry_events q) ns) (all_ranges f)) y.inside r c));
  },
  fit.1,
)
  where
    by_cases : (r : Range) → Contains (filter (λ q. share (entry_events q) ns) (all_ranges f)) r ⊎ Contains y.inside r → FitsRange f x r
    by_cases r (inl c) =
        let m = filter_member (λ q. share (entry_events q) ns) (all_ranges f) r c in
        begun_range p f x.func x.function x.node x.opened ns r well good.0.opened good.0.node h m.1 m.0
    by_cases r (inr c) = fit.0.inside r c

-- What each item does to it

pub none_here : (f : Plan) (ls : List Level) → AreHere f ls []
none_here f [] = tt
none_here f (x ∷ xs) = λ n c. absurd (no_member n c)

knows_again : (f : Plan) (os : List Body) (nss : List (List ℕ)) → Knows f os nss → Knows f os (with_events [] nss)
knows_again f [] nss k = tt
knows_again f (b ∷ bs) [] k = k
knows_again f (b ∷ bs) (ns ∷ nss) k = k

pub known_again : (f : Plan) (ls : List Level) (ys : List FrameView) → AreKnown f ls ys → AreKnown f ls (with_begun f [] ys)
known_again f [] ys k = tt
known_again f (x ∷ xs) [] k = k
known_again f (x ∷ xs) (y ∷ ys) k = (knows_again f x.opened y.under_way k.0, k.1)

pub one_line : (b : Body) (l m : ℕ) → Begins b l → Begins b m → l ≡ m
one_line tree.end l m a b = absurd a
one_line (simple n s rest) l m a b = sym a ∙ b
one_line (if_ n e x y rest) l m a b = sym a ∙ b
one_line (while_ n e x rest) l m a b = sym a ∙ b

pub loop_begins : (b : Body) (l : ℕ) → IsLoop b l → Begins b l
loop_begins tree.end l h = absurd h
loop_begins (simple n s rest) l h = absurd h
loop_begins (if_ n e x y rest) l h = absurd h
loop_begins (while_ n e x rest) l h = h

pub range_moves : (f : Plan) (x : Level) (n : Node) (os : List Body) (r : Range) → Follows x.function x.node n → (Halts f (exit_events r) n → ⊥) → FitsRange f x r
    → FitsRange f (moved x n os) r
range_moves f x n os (between es xs) fol halts h =
    let P : Option Node → Type 0 = λ z. Follows x.function z n in
    record {
      region = h.region;
      event = h.event;
      one = h.one;
      line = h.line;
      watches = h.watches;
      body = h.body;
      there = h.there;
      begun = h.begun;
      node = n;
      is = refl;
      comes = goes h.comes (subst P h.is fol) halts;
    }
range_moves f x n os (whole m) fol halts h = record { region = h.region; watches = h.watches }

pub begins_seen : (f : Plan) (x : Level) (xs : List Level) (l : ℕ) (env : Locals) (b : Body) (ys : List FrameView) → Begins b l → Follows x.function x.node (path.begins l)
    → AreFit f (x ∷ xs) ys → AreKnown f (x ∷ xs) ys
    → Sees f (at_level (moved x (path.begins l) (b ∷ x.opened)) xs) (record { frames = with_statement ys; leaving = []; here = matching f (statement l) env })
begins_seen f x xs l env b [] begun fol fit k = absurd fit
begins_seen f x xs l env b (y ∷ ys) begun fol fit k = record {
  fits = (
    record {
      under = ((λ n c. absurd (no_member n c)), fit.0.under);
      inside = (λ r c. range_moves f x (path.begins l) (b ∷ x.opened) r fol (λ h. h) (fit.0.inside r c));
    },
    fit.1,
  );
  here = (λ n c. matches_statement f l env n c);
  knows = (((λ m n at is. Contains-append_left (matching f (statement l) env) [] n (untested_matches f l env n (on_line m n at is))), k.0), k.1);
  fresh = (λ e. cc);
  leaving = tt;
}
  where
    on_line : (m n : ℕ) → Begins b m → watch_at f n ≡ Some (record { site = statement m; test = None }) → watch_at f n ≡ Some (record { site = statement l; test = None })
    on_line m n at is =
        let P : ℕ → Type 0 = λ z. watch_at f n ≡ Some (record { site = statement z; test = None }) in
        subst P (one_line b m l at begun) is

not_both : (b : Bool) → not b ≡ true → b ≡ true → ⊥
not_both true n y = cc
not_both false n y = cc

abbrev lv : ℕ → Function → Option Node → List Body → Level
lv g fn m os = record { func = g; function = fn; node = m; opened = os }

done_fits : (f : Plan) (g : ℕ) (fn : Function) (m : Option Node) (b : Body) (bs : List Body) (l : ℕ) (y : FrameView) (nss : List (List ℕ)) → Begins b l
    → Follows fn m (path.complete l) → FitsUnder f g (b ∷ bs) nss → Knows f (b ∷ bs) nss → ((r : Range) → Contains y.inside r → FitsRange f (lv g fn m (b ∷ bs)) r)
    → Fits f (lv g fn (Some (path.complete l)) bs) (with_complete nss y) × Knows f bs (with_events [] (FrameView.under_way (with_complete nss y)))
done_fits f g fn m b bs l y [] begun fol u k h = absurd u
done_fits f g fn m b bs l y (ns ∷ nss) begun fol u k h =
    (record { under = u.1; inside = (λ r c. left_or_stays r (filter_member (λ q. not (share (exit_events q) ns)) y.inside r c)) }, knows_again f bs nss k.1)
  where
    left_or_stays : (r : Range) → (not (share (exit_events r) ns) ≡ true) × Contains y.inside r → FitsRange f (lv g fn (Some (path.complete l)) bs) r
    left_or_stays r c = range_moves f (lv g fn m (b ∷ bs)) (path.complete l) bs r fol
        (λ (e : IsExit f (exit_events r) l). not_both (share (exit_events r) ns) c.0 (one_shared (exit_events r) ns e.event e.one (k.0 l e.event begun e.is))) (h r c.1)

pub done_seen : (f : Plan) (g : ℕ) (fn : Function) (m : Option Node) (b : Body) (bs : List Body) (xs : List Level) (l : ℕ) (ys : List FrameView) → Begins b l
    → Follows fn m (path.complete l) → AreFit f (lv g fn m (b ∷ bs) ∷ xs) ys → AreKnown f (lv g fn m (b ∷ bs) ∷ xs) ys
    → Sees f (at_level (lv g fn (Some (path.complete l)) bs) xs) (record { frames = with_all_complete ys; leaving = []; here = [] })
done_seen f g fn m b bs xs l [] begun fol fit k = absurd fit
done_seen f g fn m b bs xs l (y ∷ ys) begun fol fit k =
    let d = done_fits f g fn m b bs l y y.under_way begun fol fit.0.under k.0 fit.0.inside in
    record { fits = (d.0, fit.1); here = (λ n c. absurd (no_member n c)); knows = (d.1, k.1); fresh = (λ e. cc); leaving = tt }

pub edge_seen : (f : Plan) (g : ℕ) (fn : Function) (m : Option Node) (os : List Body) (xs : List Level) (l : ℕ) (ys : List FrameView)
    → Follows fn m (path.turns l) → AreFit f (lv g fn m os ∷ xs) ys → AreKnown f (lv g fn m os ∷ xs) ys
    → Sees f (at_level (lv g fn (Some (path.turns l)) os) xs) (record { frames = ys; leaving = []; here = [] })
edge_seen f g fn m os xs l [] fol fit k = absurd fit
edge_seen f g fn m os xs l (y ∷ ys) fol fit k = record {
  fits = (record { under = fit.0.under; inside = (λ r c. range_moves f (lv g fn m os) (path.turns l) os r fol (λ h. h) (fit.0.inside r c)) }, fit.1);
  here = (λ n c. absurd (no_member n c));
  knows = (knows_again f os y.under_way k.0, k.1);
  fresh = (λ e. cc);
  leaving = tt;
}

pub enter_seen : (f : Plan) (h : ℕ) (fn : Function) (env : Locals) (ls : List Level) (ys : List FrameView) → AreFit f ls ys → AreKnown f ls ys
    → Sees f (at_level (lv h fn None []) ls) (record { frames = record { under_way = [] ∷ []; inside = [] } ∷ ys; leaving = []; here = matching f (function (Some h)) env })
enter_seen f h fn env ls ys fit k = record {
  fits = (record { under = (λ n c. absurd (no_member n c)); inside = (λ r c. absurd (no_member r c)) }, fit);
  here = (λ n c. matches_function f h env n c);
  knows = (tt, k);
  fresh = (λ e. refl);
  leaving = tt;
}

caller_not_fresh : (p : Source) (f : Plan) (xs : List Level) (h : ℕ) (ys : List FrameView) → IsCalledFrom p xs h → AreFit f xs ys → IsFresh xs ys
caller_not_fresh p f [] h ys c fit = tt
caller_not_fresh p f (x ∷ xs) h [] c fit = absurd fit
caller_not_fresh p f (x ∷ xs) h (y ∷ ys) c fit = λ e. none_is_some (sym e ∙ c.node)
  where
    none_is_some : None ≡ Some (path.begins c.line) → y ≡ record { under_way = [] ∷ []; inside = [] }
    none_is_some e = cc

pub out_seen : (p : Source) (f : Plan) (x : Level) (xs : List Level) (ys : List FrameView) (os : Queue) → IsCalledFrom p xs x.func → AreFit f (x ∷ xs) ys
    → AreKnown f (x ∷ xs) ys → Sees f (record { levels = xs; gone = x ∷ [] }) (record { frames = other_frames ys; leaving = if is_empty os then [] else first_frame ys; here = [] })
out_seen p f x xs [] os c fit k = absurd fit
out_seen p f x xs (y ∷ ys) [] c fit k = record {
  fits = fit.1;
  here = none_here f xs;
  knows = known_again f xs ys k.1;
  fresh = caller_not_fresh p f xs x.func ys c fit.1;
  leaving = tt;
}
out_seen p f x xs (y ∷ ys) (o ∷ os) c fit k = record {
  fits = fit.1;
  here = none_here f xs;
  knows = known_again f xs ys k.1;
  fresh = caller_not_fresh p f xs x.func ys c fit.1;
  leaving = (fit.0, refl);
}
