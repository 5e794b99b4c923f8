-- Where a thread is inside a region in an open frame, no other region of the clause can begin, and the same one in its own frame alone.
use Rattle.std.proofs.Common.{ℕ, ◌≡◌, ◌⊎◌, inl, inr, List, [], ◌∷◌, ◌++◌, map, Option, Some, None, refl, sym, ap, subst, ◌∙◌}
use Rattle.std.specs.List.{Contains}
use Rattle.std.proofs.lemmas.List.Elements.{Contains-append_cases}
use Rattle.loom_tree.specs.Tree.{Body, Function, Source}
use Rattle.loom_law.specs.Filter.{statement, function, Range, between, whole, Plan, entry_events}
use Rattle.loom_law.specs.Walk.{Inside, OpenStatement, OpenFrame, events_of_filter}
use Rattle.loom_law.specs.Paths.{Node, Begins, IsStatement, CallsFunction, statements_of, Reaches, watch_at}
use Rattle.loom_law.specs.Paths as path
use Rattle.loom_law.specs.FilterRefusal.{ComesInside, IsWholeOf, LiesIn, CallsFrom, BeginsInside, Nests, IsPathFault}
use Rattle.loom_law.specs.Judgement.{HasNone}
use Rattle.loom_law.proofs.Course.{Level, IsCaller, IsCalledFrom}
use Rattle.loom_law.proofs.Matches.{Watches}
use Rattle.loom_law.proofs.Sight.{IsGood, AreGood, IsOnPath, FitsRange, MatchesAt}
use Rattle.loom_law.proofs.Unsafe as reach
use Rattle.loom_law.proofs.Unsafe.{statement_in, calls_from, reaches_on}
use Rattle.loom_law.proofs.Sound.{SameFrames}
use Rattle.loom_law.proofs.RegionFaults.{IsRegionOf, same_region, never_again}

abbrev lv : ℕ → Function → Option Node → List Body → Level
lv g fn m os = record { func = g; function = fn; node = m; opened = os }

whole_of : (f : Plan) (g n : ℕ) → Watches f n (function (Some g)) → IsWholeOf f n g
whole_of f g n a = (a.watch, (a.is, a.site))

some_same : (a b : Node) → Some a ≡ Some b → a ≡ b
some_same a b e = cc

none_some : {B : Type 0} (n : Node) → None ≡ Some n → B
none_some n e = cc

-- A region of a frame

on_path : (p : Source) (f : Plan) (x : Level) (es xs : List ℕ) (n : Node) → IsGood p x → IsOnPath f x es xs → x.node ≡ Some n → ComesInside p f es xs x.func n
on_path p f x es xs n good a is =
    let same : a.node ≡ n = some_same a.node n (sym a.is ∙ is) in
    let P : Node → Type 0 = λ m. path.Comes (path.links_of x.function) f xs (path.begins a.line) m in
    record {
      event = a.event;
      one = a.one;
      watch = a.watches.watch;
      is = a.watches.is;
      line = a.line;
      site = a.watches.site;
      there = (a.body, statement_in p x a.line a.body good a.there a.begun);
      function = x.function;
      of_number = good.is;
      comes = subst P same a.comes;
    }

pub lies_in : (p : Source) (f : Plan) (x : Level) (r : Range) → IsGood p x → FitsRange f x r → LiesIn p f r x.func
lies_in p f x (between es xs) good a = (a.node, on_path p f x es xs a.node good a a.is)
lies_in p f x (whole n) good a = whole_of f x.func n a.watches

-- what calls of function h reach
abbrev pub ReachesFrom : Source → ℕ → ℕ → Type 0
ReachesFrom p h g = (ys : List Body) → CallsFunction p ys h → Reaches p ys g

called_from : (p : Source) (x : Level) (h : ℕ) → IsGood p x → (k : IsCaller p x h) → reach.CallsFrom p x.func x.function x.opened (IsCaller.line k) h
called_from p x h good k = calls_from p x.func x.function x.opened k.line h good.is good.opened k.statement

calls_of : (p : Source) (f : Plan) (x : Level) (h g : ℕ) (r : Range) → IsGood p x → IsCaller p x h → ReachesFrom p h g → FitsRange f x r → CallsFrom p f r g
calls_of p f x h g (between es xs) good k deep a =
    let c = called_from p x h good k in
    (x.func, (k.line, (c.body, (on_path p f x es xs (path.begins k.line) good a k.node, (statement_in p x k.line c.body good c.there c.begun, deep (c.body ∷ []) c.alone)))))
calls_of p f x h g (whole n) good k deep a =
    let c = called_from p x h good k in
    (x.func, (whole_of f x.func n a.watches, deep (statements_of p x.func) c.whole_function))

-- An event that begins in the top frame

-- it can begin where calls inside a region reach the frame's function
begins_below : (p : Source) (f : Plan) (g : ℕ) (fn : Function) (m : Option Node) (os : List Body) (n : ℕ) (r : Range) → IsGood p (lv g fn m os) → MatchesAt f g m os n
    → CallsFrom p f r g → BeginsInside p f r n
begins_below p f g fn None [] n r good a c = inr (g, (whole_of f g n a, inr c))
begins_below p f g fn None (b ∷ bs) n r good a c = absurd a
begins_below p f g fn (Some (path.begins l)) [] n r good a c = absurd a
begins_below p f g fn (Some (path.begins l)) (b ∷ bs) n r good a c =
    inl (a.watch, (l, (g, (a.is, (a.site, ((b, statement_in p (lv g fn (Some (path.begins l)) (b ∷ bs)) l b good good.opened.0 good.node), inr c))))))
begins_below p f g fn (Some (path.complete l)) os n r good a c = absurd a
begins_below p f g fn (Some (path.turns l)) os n r good a c = absurd a
begins_below p f g fn (Some path.leaves) os n r good a c = absurd a

-- and inside a region of the frame itself
begins_here : (p : Source) (f : Plan) (g : ℕ) (fn : Function) (m : Option Node) (os : List Body) (n : ℕ) (r : Range) → IsGood p (lv g fn m os) → MatchesAt f g m os n
    → FitsRange f (lv g fn m os) r → BeginsInside p f r n
begins_here p f g fn None [] n (between es xs) good a h = none_some h.node h.is
begins_here p f g fn None [] n (whole k) good a h = inr (g, (whole_of f g n a, inl (whole_of f g k h.watches)))
begins_here p f g fn None (b ∷ bs) n r good a h = absurd a
begins_here p f g fn (Some (path.begins l)) [] n r good a h = absurd a
begins_here p f g fn (Some (path.begins l)) (b ∷ bs) n (between es xs) good a h =
    let x : Level = lv g fn (Some (path.begins l)) (b ∷ bs) in
    inl (a.watch, (l, (g, (a.is, (a.site, ((b, statement_in p x l b good good.opened.0 good.node), inl (on_path p f x es xs (path.begins l) good h refl)))))))
begins_here p f g fn (Some (path.begins l)) (b ∷ bs) n (whole k) good a h =
    let x : Level = lv g fn (Some (path.begins l)) (b ∷ bs) in
    inl (a.watch, (l, (g, (a.is, (a.site, ((b, statement_in p x l b good good.opened.0 good.node), inl (whole_of f g k h.watches)))))))
begins_here p f g fn (Some (path.complete l)) os n r good a h = absurd a
begins_here p f g fn (Some (path.turns l)) os n r good a h = absurd a
begins_here p f g fn (Some path.leaves) os n r good a h = absurd a

-- What is noted in the walk fits the course

-- An event without test on the line of an open statement began with it. `E` says that events are still to begin with the innermost one.
abbrev pub Noted : Plan → ℕ → (ℕ → Type 0) → List Body → List OpenStatement → Type 0
Noted f k E [] ss = Unit {0}
Noted f k E (b ∷ bs) [] = Unit {0}
Noted f k E (b ∷ bs) (s ∷ ss) =
    ((l n : ℕ) → Begins b l → watch_at f n ≡ Some (record { site = statement l; test = None }) → Contains (events_of_filter k s.events) n ⊎ E n)
    × Noted f k (λ n. ⊥) bs ss

-- a region is on the path of its frame, or `X`, it is about to be left
abbrev pub OnPaths : Plan → ℕ → (Inside → Type 0) → Level → List Inside → Type 0
OnPaths f k X x is = (i : Inside) → Contains is i → i.filter ≡ k → IsRegionOf f i.clause i.range × (FitsRange f x i.range ⊎ X i)

abbrev pub FitFrames : Plan → ℕ → (ℕ → Type 0) → (Inside → Type 0) → List Level → List OpenFrame → Type 0
FitFrames f k E X [] zs = Unit {0}
FitFrames f k E X (x ∷ xs) [] = Unit {0}
FitFrames f k E X (x ∷ xs) (z ∷ zs) = (Noted f k E x.opened z.statements × OnPaths f k X x z.inside) × FitFrames f k (λ n. ⊥) (λ i. ⊥) xs zs

-- Of all frames

abbrev pub AnyOf : List (List Inside) → Inside → Type 0
AnyOf [] i = ⊥
AnyOf (is ∷ iss) i = Contains is i ⊎ AnyOf iss i

abbrev pub inside_each : List OpenFrame → List (List Inside)
inside_each zs = map (λ (z : OpenFrame). z.inside) zs

-- regions of a clause in one frame are one
abbrev pub AreSameRegion : ℕ → List Inside → Type 0
AreSameRegion k is = (i j : Inside) → Contains is i → Contains is j → i.filter ≡ k → j.filter ≡ k → i.clause ≡ j.clause → i ≡ j

-- and there is none in the frames below
abbrev pub AreRegionsApart : ℕ → List Inside → List (List Inside) → Type 0
AreRegionsApart k is iss = (i j : Inside) → Contains is i → AnyOf iss j → i.filter ≡ k → j.filter ≡ k → i.clause ≡ j.clause → ⊥

abbrev pub AreOneRegion : ℕ → List (List Inside) → Type 0
AreOneRegion k [] = Unit {0}
AreOneRegion k (is ∷ iss) = (AreSameRegion k is × AreRegionsApart k is iss) × AreOneRegion k iss

pub only : {A : Type 0} → A ⊎ ⊥ → A
only (inl a) = a
only (inr n) = absurd n

-- In no frame below is a region of the clause of a region that begins in function g.
none_below : (p : Source) (f : Plan) (k : ℕ) (xs : List Level) (zs : List OpenFrame) (h g c : ℕ) (s : Range) (j : Inside) → HasNone (IsPathFault p f) → SameFrames xs zs
    → FitFrames f k (λ n. ⊥) (λ i. ⊥) xs zs → AreGood p xs → IsCalledFrom p xs h → ReachesFrom p h g → IsRegionOf f c s
    → ((r : Range) → CallsFrom p f r g → Nests p f r s) → LiesIn p f s g → AnyOf (inside_each zs) j → j.filter ≡ k → c ≡ j.clause → ⊥
none_below p f k [] [] h g c s j none same fit good called deep region nests lies m jk e = m
none_below p f k [] (z ∷ zs) h g c s j none same fit good called deep region nests lies m jk e = same
none_below p f k (x ∷ xs) [] h g c s j none same fit good called deep region nests lies m jk e = same
none_below p f k (x ∷ xs) (z ∷ zs) h g c s j none same fit good called deep region nests lies m jk e =
    by_cases (none_below p f k xs zs x.func g c s j none same.1.1 fit.1 good.1.1 good.1.0
    (λ ys call. reaches_on p ys x.func g call (deep (statements_of p x.func) (reach.CallsFrom.whole_function (called_from p x h good.0 called)))) region nests lies) m
  where
    by_cases : (AnyOf (inside_each zs) j → j.filter ≡ k → c ≡ j.clause → ⊥) → Contains z.inside j ⊎ AnyOf (inside_each zs) j → ⊥
    by_cases ih (inr m') = ih m' jk e
    by_cases ih (inl there) =
        let a = fit.0.1 j there jk in
        let calls : CallsFrom p f j.range g = calls_of p f x h g j.range good.0 called deep (only a.1) in
        let P : ℕ → Type 0 = λ d. IsRegionOf f d s in
        let one : j.range ≡ s = same_region p f j.clause j.range s none a.0 (subst P e region) (nests j.range calls) in
        let Q : Range → Type 0 = λ q. CallsFrom p f q g in
        never_again p f c s none region (g, (lies, subst Q one calls))

one_inside : (i j : Inside) → i.filter ≡ j.filter → i.clause ≡ j.clause → i.range ≡ j.range → i ≡ j
one_inside i j a b c =
    let first : i ≡ record { filter = j.filter; clause = i.clause; range = i.range } = ap (λ q. record { filter = q; clause = i.clause; range = i.range }) a in
    let second : record { filter = j.filter; clause = i.clause; range = i.range } ≡ record { filter = j.filter; clause = j.clause; range = i.range } =
    ap (λ q. record { filter = j.filter; clause = q; range = i.range }) b in
    let third : record { filter = j.filter; clause = j.clause; range = i.range } ≡ j = ap (λ q. record { filter = j.filter; clause = j.clause; range = q }) c in
    first ∙ (second ∙ third)

-- a region that begins in the top frame, with an event that matches there
pub record IsBegun (f : Plan) (x : Level) (i : Inside) : Type 0 where
  pub event : ℕ
  pub entry : Contains (entry_events i.range) event
  pub matches : MatchesAt f x.func x.node x.opened event

-- Where regions begin in the top frame, those of a clause stay one.
pub one_begun : (p : Source) (f : Plan) (k : ℕ) (x : Level) (xs : List Level) (zs : List OpenFrame) (new is : List Inside) → HasNone (IsPathFault p f) → AreGood p (x ∷ xs)
    → SameFrames xs zs → FitFrames f k (λ n. ⊥) (λ i. ⊥) xs zs → OnPaths f k (λ i. ⊥) x (new ++ is) → ((i : Inside) → Contains new i → i.filter ≡ k → IsBegun f x i)
    → AreOneRegion k (is ∷ inside_each zs) → AreOneRegion k ((new ++ is) ∷ inside_each zs)
one_begun p f k x xs zs new is none good same fit on begun one = (
  (
    (λ i j a b ik jk e. are_same i j a b ik jk e (Contains-append_cases new is i a) (Contains-append_cases new is j b)),
    (λ i j a b ik jk e. are_apart i j a b ik jk e (Contains-append_cases new is i a)),
  ),
  one.1,
)
  where
    fits : (i : Inside) → Contains (new ++ is) i → i.filter ≡ k → FitsRange f x i.range
    fits i a ik = only (on i a ik).1

    -- the region that begins is the other one
    one_range : (i j : Inside) → Contains (new ++ is) i → Contains (new ++ is) j → i.filter ≡ k → j.filter ≡ k → j.clause ≡ i.clause → IsBegun f x i → j.range ≡ i.range
    one_range i j a b ik jk e new_one =
        let P : ℕ → Type 0 = λ d. IsRegionOf f d i.range in
        same_region p f j.clause j.range i.range none (on j b jk).0 (subst P (sym e) (on i a ik).0)
        (new_one.event, (new_one.entry, begins_here p f x.func x.function x.node x.opened new_one.event j.range good.0 new_one.matches (fits j b jk)))

    are_same : (i j : Inside) → Contains (new ++ is) i → Contains (new ++ is) j → i.filter ≡ k → j.filter ≡ k → i.clause ≡ j.clause → Contains new i ⊎ Contains is i
        → Contains new j ⊎ Contains is j → i ≡ j
    are_same i j a b ik jk e (inr old) (inr old') = one.0.0 i j old old' ik jk e
    are_same i j a b ik jk e (inl c) d = one_inside i j (ik ∙ sym jk) e (sym (one_range i j a b ik jk (sym e) (begun i c ik)))
    are_same i j a b ik jk e (inr old) (inl c) = one_inside i j (ik ∙ sym jk) e (one_range j i b a jk ik e (begun j c jk))

    are_apart : (i j : Inside) → Contains (new ++ is) i → AnyOf (inside_each zs) j → i.filter ≡ k → j.filter ≡ k → i.clause ≡ j.clause → Contains new i ⊎ Contains is i → ⊥
    are_apart i j a b ik jk e (inr old) = one.0.1 i j old b ik jk e
    are_apart i j a b ik jk e (inl c) =
        let new_one : IsBegun f x i = begun i c ik in
        none_below p f k xs zs x.func x.func i.clause i.range j none same fit good.1.1 good.1.0 (λ ys call. path.calls call) (on i a ik).0
        (λ r calls. (new_one.event, (new_one.entry, begins_below p f x.func x.function x.node x.opened new_one.event r good.0 new_one.matches calls)))
        (lies_in p f x i.range good.0 (fits i a ik)) b jk e
