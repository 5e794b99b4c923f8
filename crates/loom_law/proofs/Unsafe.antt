-- Where something of a filter is seen in an open frame, the places that the thread can come to from there are unsafe.
use Rattle.std.proofs.Common.{ℕ, ◌≡◌, ◌⊎◌, inl, inr, true, List, [], ◌∷◌, ◌++◌, slice_get, flat_map, Option, Some, refl, sym, subst, ◌∙◌}
use Rattle.std.specs.List.{Contains}
use Rattle.std.proofs.lemmas.List.Elements.{Contains-append_left, Contains-append_right, Contains-append_cases}
use Rattle.loom_tree.specs.Tree.{Body, simple, if_, while_, Function, Source}
use Rattle.loom_tree.specs.Tree as tree
use Rattle.loom_lang.specs.Numbers.{function_number}
use Rattle.loom_lang.specs.Places.{Place, body_places}
use Rattle.loom_lang.specs.Places as place
use Rattle.loom_law.specs.Filter.{statement, function, Range, between, whole, Plan}
use Rattle.loom_law.specs.FilterView.{FrameView, all_of, all_under_way}
use Rattle.loom_law.specs.Paths.{Node, links_of, statements, others, has_return, Begins, IsStatement, called_by, CallsFunction, statements_in, statements_of, Reaches, calls, through, places_in, places_of, IsReached, watch_at, IsUnsafeByEvent, Halts, Comes, here, goes, node_places, IsReachedAt, IsUnsafeByPath, IsUnsafeByFunction, IsUnsafe}
use Rattle.loom_law.specs.Paths as path
use Rattle.loom_law.proofs.Course.{Level, OnFirst, Follows, IsNested, IsLoop, IsCaller, IsCalledFrom, Sub, contains_first, contains_later, no_member, contains_cases}
use Rattle.loom_law.proofs.Matches.{Watches, none_there}
use Rattle.loom_law.proofs.Sight.{IsWellSited, AreOpened, IsGood, AreGood, FitsUnder, FitsRange, Fits, AreFit}

-- Places of nested statements

sub_append : {A : Type 0} (xs ys zs : List A) → Sub ys zs → Sub (xs ++ ys) (xs ++ zs)
sub_append xs ys zs s a c = by_cases (Contains-append_cases xs ys a c)
  where
    by_cases : Contains xs a ⊎ Contains ys a → Contains (xs ++ zs) a
    by_cases (inl h) = Contains-append_left xs zs a h
    by_cases (inr h) = Contains-append_right xs zs a (s a h)

sub_cons : {A : Type 0} (x : A) (ys zs : List A) → Sub ys zs → Sub (x ∷ ys) (x ∷ zs)
sub_cons {A} x ys zs s a c = by_cases (contains_cases x a ys c)
  where
    by_cases : (x ≡ a) ⊎ Contains ys a → Contains (x ∷ zs) a
    by_cases (inl e) =
        let P : A → Type 0 = λ z. Contains (x ∷ zs) z in
        subst P e (contains_first x zs)
    by_cases (inr h) = contains_later x a zs (s a h)

sub_none : {A : Type 0} (zs : List A) → Sub [] zs
sub_none zs a c = absurd (no_member a c)

moved_place : (x x' : Body) (y : Place) (ps : List Place) → x ≡ x' → Sub (body_places x) ps → Contains (body_places x') y → Contains ps y
moved_place x x' y ps e s c =
    let P : Body → Type 0 = λ z. Contains (body_places z) y in
    s y (subst P (sym e) c)

-- the places of a statement of a body are places of the body
pub statement_places : (b x : Body) (y : Place) → Contains (statements b) x → Contains (body_places x) y → Contains (body_places b) y
statement_places tree.end x y c h = absurd (no_member x c)
statement_places (simple l s rest) x y c h = by_cases (statement_places rest x y) (contains_cases _ x (statements rest) c)
  where
    by_cases : (Contains (statements rest) x → Contains (body_places x) y → Contains (body_places rest) y) → (simple l s tree.end ≡ x) ⊎ Contains (statements rest) x
        → Contains (body_places (simple l s rest)) y
    by_cases ih (inl e) = moved_place (simple l s tree.end) x y (body_places (simple l s rest)) e (sub_cons (place.inside l) [] (body_places rest) (sub_none (body_places rest))) h
    by_cases ih (inr k) = contains_later (place.inside l) y (body_places rest) (ih k h)
statement_places (if_ l e a b rest) x y c h =
    by_cases (statement_places a x y) (statement_places b x y) (statement_places rest x y) (contains_cases _ x (statements a ++ (statements b ++ statements rest)) c)
  where
    pa : List Place
    pa = body_places a

    pb : List Place
    pb = body_places b

    pr : List Place
    pr = body_places rest

    in_rest : (Contains (statements b) x → Contains (body_places x) y → Contains pb y) → (Contains (statements rest) x → Contains (body_places x) y → Contains pr y)
        → Contains (statements b) x ⊎ Contains (statements rest) x → Contains (pb ++ pr) y
    in_rest ib ir (inl k) = Contains-append_left pb pr y (ib k h)
    in_rest ib ir (inr k) = Contains-append_right pb pr y (ir k h)

    in_parts : (Contains (statements a) x → Contains (body_places x) y → Contains pa y) → (Contains (statements b) x → Contains (body_places x) y → Contains pb y)
        → (Contains (statements rest) x → Contains (body_places x) y → Contains pr y)
        → Contains (statements a) x ⊎ Contains (statements b ++ statements rest) x → Contains (pa ++ (pb ++ pr)) y
    in_parts ia ib ir (inl k) = Contains-append_left pa (pb ++ pr) y (ia k h)
    in_parts ia ib ir (inr k) = Contains-append_right pa (pb ++ pr) y (in_rest ib ir (Contains-append_cases (statements b) (statements rest) x k))

    by_cases : (Contains (statements a) x → Contains (body_places x) y → Contains pa y) → (Contains (statements b) x → Contains (body_places x) y → Contains pb y)
        → (Contains (statements rest) x → Contains (body_places x) y → Contains pr y)
        → (if_ l e a b tree.end ≡ x) ⊎ Contains (statements a ++ (statements b ++ statements rest)) x → Contains (body_places (if_ l e a b rest)) y
    by_cases ia ib ir (inl is) =
        moved_place (if_ l e a b tree.end) x y (body_places (if_ l e a b rest)) is
        (sub_cons (place.inside l) (pa ++ (pb ++ [])) (pa ++ (pb ++ pr)) (sub_append pa (pb ++ []) (pb ++ pr) (sub_append pb [] pr (sub_none pr)))) h
    by_cases ia ib ir (inr k) =
        contains_later (place.inside l) y (pa ++ (pb ++ pr)) (in_parts ia ib ir (Contains-append_cases (statements a) (statements b ++ statements rest) x k))
statement_places (while_ l e a rest) x y c h =
    by_cases (statement_places a x y) (statement_places rest x y) (contains_cases _ x (statements a ++ statements rest) c)
  where
    pa : List Place
    pa = body_places a

    pr : List Place
    pr = body_places rest

    in_parts : (Contains (statements a) x → Contains (body_places x) y → Contains pa y) → (Contains (statements rest) x → Contains (body_places x) y → Contains pr y)
        → Contains (statements a) x ⊎ Contains (statements rest) x → Contains (pa ++ pr) y
    in_parts ia ir (inl k) = Contains-append_left pa pr y (ia k h)
    in_parts ia ir (inr k) = Contains-append_right pa pr y (ir k h)

    by_cases : (Contains (statements a) x → Contains (body_places x) y → Contains pa y) → (Contains (statements rest) x → Contains (body_places x) y → Contains pr y)
        → (while_ l e a tree.end ≡ x) ⊎ Contains (statements a ++ statements rest) x → Contains (body_places (while_ l e a rest)) y
    by_cases ia ir (inl is) =
        moved_place (while_ l e a tree.end) x y (body_places (while_ l e a rest)) is
        (sub_cons (place.inside l) (place.back_edge l ∷ (pa ++ [])) (place.back_edge l ∷ (pa ++ pr))
        (sub_cons (place.back_edge l) (pa ++ []) (pa ++ pr) (sub_append pa [] pr (sub_none pr)))) h
    by_cases ia ir (inr k) =
        contains_later (place.inside l) y (place.back_edge l ∷ (pa ++ pr))
        (contains_later (place.back_edge l) y (pa ++ pr) (in_parts ia ir (Contains-append_cases (statements a) (statements rest) x k)))

pub own_place : (b : Body) (l : ℕ) → Begins b l → Contains (body_places b) (place.inside l)
own_place tree.end l h = absurd h
own_place (simple m s rest) l h =
    let P : ℕ → Type 0 = λ z. Contains (body_places (simple m s rest)) (place.inside z) in
    subst P h (contains_first (place.inside m) (body_places rest))
own_place (if_ m e a b rest) l h =
    let P : ℕ → Type 0 = λ z. Contains (body_places (if_ m e a b rest)) (place.inside z) in
    subst P h (contains_first (place.inside m) (body_places a ++ (body_places b ++ body_places rest)))
own_place (while_ m e a rest) l h =
    let P : ℕ → Type 0 = λ z. Contains (body_places (while_ m e a rest)) (place.inside z) in
    subst P h (contains_first (place.inside m) (place.back_edge m ∷ (body_places a ++ body_places rest)))

pub loop_place : (b : Body) (l : ℕ) → IsLoop b l → Contains (body_places b) (place.back_edge l)
loop_place tree.end l h = absurd h
loop_place (simple m s rest) l h = absurd h
loop_place (if_ m e a b rest) l h = absurd h
loop_place (while_ m e a rest) l h =
    let ps : List Place = body_places a ++ body_places rest in
    let P : ℕ → Type 0 = λ z. Contains (body_places (while_ m e a rest)) (place.back_edge z) in
    subst P h (contains_later (place.inside m) (place.back_edge m) (place.back_edge m ∷ ps) (contains_first (place.back_edge m) ps))

pub others_in : (xs : List Body) (x : Body) → Contains (others xs) x → Contains xs x
others_in [] x c = c
others_in (y ∷ ys) x c = contains_later y x ys c

-- A place of the frame itself

-- round the place, or behind a `return`
abbrev pub AreRound : ℕ → List Body → Place → Type 0
AreRound g [] y = Unit {0}
AreRound g (o ∷ os) y = (Contains (body_places o) y ⊎ ((has_return o ≡ true) × (y ≡ place.out g))) × AreRound g os y

pub record IsHere (p : Source) (x : Level) (y : Place) : Type 0 where
  pub node : Node
  -- the frame's last node, or the next one, which no exit event halts
  pub at : (x.node ≡ Some node) ⊎ (Follows x.function x.node node × ((f : Plan) (xs : List ℕ) → Halts f xs node → ⊥))
  pub shown : Contains (node_places x.func node) y
  pub nested : AreRound x.func x.opened y
  pub own : Contains (places_of p x.func) y
  pub not_entry : y ≡ place.entry x.func → ⊥

pub record IsClearOf (w : FrameView) : Type 0 where
  pub outside : w.inside ≡ []
  pub at_rest : flat_map (λ (ns : List ℕ). ns) w.under_way ≡ []

append_none : {A : Type 0} (xs ys : List A) → xs ≡ [] → ys ≡ [] → xs ++ ys ≡ []
append_none [] ys a b = b
append_none (x ∷ xs) ys a b = cc

pub statement_in : (p : Source) (x : Level) (l : ℕ) (b : Body) → IsGood p x → Contains (statements (Function.body x.function)) b → Begins b l → IsStatement p x.func l b
statement_in p x l b good there begun = record { function = x.function; is = good.is; there = there; line = begun }

comes_to : (f : Plan) (x : Level) (xs : List ℕ) (start m n : Node) → x.node ≡ Some m → Comes (links_of x.function) f xs start m
    → (x.node ≡ Some n) ⊎ (Follows x.function x.node n × ((f : Plan) (xs : List ℕ) → Halts f xs n → ⊥)) → Comes (links_of x.function) f xs start n
comes_to f x xs start m n is c (inl e) =
    let same : m ≡ n = some_same m n (sym is ∙ e) in
    let P : Node → Type 0 = λ z. Comes (links_of x.function) f xs start z in
    subst P same c
  where
    some_same : (a b : Node) → Some a ≡ Some b → a ≡ b
    some_same a b e = cc
comes_to f x xs start m n is c (inr h) =
    let P : Option Node → Type 0 = λ z. Follows x.function z n in
    goes c (subst P is h.0) (h.1 f xs)

range_unsafe : (p : Source) (f : Plan) (x : Level) (y : Place) (r : Range) → IsGood p x → IsHere p x y → FitsRange f x r → IsUnsafe p f y
range_unsafe p f x y (between es xs) good h a = inr (inl (record {
  entries = es;
  exits = xs;
  region = a.region;
  event = a.event;
  one = a.one;
  watch = a.watches.watch;
  is = a.watches.is;
  line = a.line;
  site = a.watches.site;
  function = x.function;
  number = x.func;
  of_number = good.is;
  there = (a.body, statement_in p x a.line a.body good a.there a.begun);
  node = h.node;
  comes = comes_to f x xs (path.begins a.line) a.node h.node a.is a.comes h.at;
  place = inl h.shown;
}))
range_unsafe p f x y (whole n) good h a = inr (inr (record {
  event = n;
  region = a.region;
  watch = a.watches.watch;
  is = a.watches.is;
  number = x.func;
  site = a.watches.site;
  place = inl (h.own, h.not_entry);
}))

under_clear : (p : Source) (f : Plan) (g : ℕ) (fn : Function) (y : Place) (os : List Body) (nss : List (List ℕ)) → slice_get p.funcs g ≡ Some fn → IsWellSited f
    → AreOpened fn os → ((n : ℕ) → Watches f n (function (Some g)) → ⊥)
    → ((o : Body) → Contains (statements fn.body) o → Contains os o → (n l : ℕ) → Watches f n (statement l) → Begins o l → ⊥)
    → FitsUnder f g os nss → flat_map (λ (ns : List ℕ). ns) nss ≡ []
under_clear p f g fn y [] [] is well open_ a b u = refl
under_clear p f g fn y [] (ns ∷ []) is well open_ a b u = append_none ns [] (none_there ns (λ n c. a n (u n c))) refl
under_clear p f g fn y [] (ns ∷ ms ∷ mss) is well open_ a b u = absurd u
under_clear p f g fn y (o ∷ os) [] is well open_ a b u = refl
under_clear p f g fn y (o ∷ os) (ns ∷ nss) is well open_ a b u =
    append_none ns _ (none_there ns (λ n c. let w = u.0 n c in b o open_.0 (contains_first o os) n w.0 w.1.0 w.1.1))
    (under_clear p f g fn y os nss is well open_.1.1 a (λ q s t. b q s (contains_later o q os t)) u.1)

round_one : (g : ℕ) (os : List Body) (o : Body) (y : Place) → Contains os o → AreRound g os y → Contains (body_places o) y ⊎ ((has_return o ≡ true) × (y ≡ place.out g))
round_one g [] o y c h = absurd (no_member o c)
round_one g (q ∷ os) o y c h = by_cases (λ k. round_one g os o y k h.1) (contains_cases q o os c)
  where
    R : Body → Type 0
    R z = Contains (body_places z) y ⊎ ((has_return z ≡ true) × (y ≡ place.out g))

    by_cases : (Contains os o → R o) → (q ≡ o) ⊎ Contains os o → R o
    by_cases ih (inl e) = subst R e h.0
    by_cases ih (inr k) = ih k

-- where the place is one of the frame itself
pub own_clear : (p : Source) (f : Plan) (x : Level) (w : FrameView) (y : Place) → IsWellSited f → IsGood p x → Fits f x w → IsHere p x y → (IsUnsafe p f y → ⊥) → IsClearOf w
own_clear p f x w y well good fit h safe = record {
  outside = none_there w.inside (λ r c. safe (range_unsafe p f x y r good h (fit.inside r c)));
  at_rest = under_clear p f x.func x.function y x.opened w.under_way good.is well good.opened
      (λ n a. safe (range_unsafe p f x y (whole n) good h (record { region = well.functions n a.watch (Some x.func) a.is a.site; watches = a })))
      (λ o there c n l a begun. safe (inl (record {
        event = n;
        watch = a.watch;
        is = a.is;
        line = l;
        site = a.site;
        function = x.func;
        body = o;
        there = statement_in p x l o good there begun;
        place = round_place o (round_one x.func x.opened o y c h.nested);
      }))) fit.under;
}
  where
    round_place : (o : Body) → Contains (body_places o) y ⊎ ((has_return o ≡ true) × (y ≡ place.out x.func))
        → Contains (body_places o) y ⊎ (((has_return o ≡ true) × (y ≡ place.out x.func)) ⊎ IsReached p (statements o) y)
    round_place o (inl k) = inl k
    round_place o (inr k) = inr (inl k)

-- A place of a function that a call in the frame reaches

abbrev pub ReachedFrom : Source → ℕ → Place → Type 0
ReachedFrom p h y = (xs : List Body) → CallsFunction p xs h → IsReached p xs y

pub reached_first : (p : Source) (h : ℕ) (y : Place) → Contains (places_of p h) y → ReachedFrom p h y
reached_first p h y there xs c = record { function = h; reached = calls c; there = there }

pub reaches_on : (p : Source) (xs : List Body) (g h : ℕ) → CallsFunction p xs g → Reaches p (statements_of p g) h → Reaches p xs h
reaches_on p xs g h c (calls k) = through (calls c) k
reaches_on p xs g h c (through r k) = through (reaches_on p xs g _ c r) k

reached_on : (p : Source) (g : ℕ) (y : Place) → IsReached p (statements_of p g) y → ReachedFrom p g y
reached_on p g y r xs c = record { function = r.function; reached = reaches_on p xs g r.function c r.reached; there = r.there }

calls_in_itself : (p : Source) (b : Body) (name : List ℕ) (h : ℕ) → called_by b ≡ Some name → function_number p name ≡ Some h → CallsFunction p (statements b) h
calls_in_itself p tree.end name h is number = cc
calls_in_itself p (simple l s rest) name h is number =
    record { statement = simple l s tree.end; there = contains_first (simple l s tree.end) (statements rest); name = name; calls = is; number = number }
calls_in_itself p (if_ l e a b rest) name h is number = cc
calls_in_itself p (while_ l e a rest) name h is number = cc

calls_in_each : (p : Source) (os : List Body) (b : Body) (name : List ℕ) (h : ℕ) → called_by b ≡ Some name → function_number p name ≡ Some h → IsNested os b
    → (o : Body) → Contains os o → CallsFunction p (statements o) h
calls_in_each p [] b name h is number n o c = absurd (no_member o c)
calls_in_each p (q ∷ os) b name h is number n o c =
    by_cases (calls_in_each p os b name h is number n.1 o) (contains_cases q o os c)
  where
    R : Body → Type 0
    R z = CallsFunction p (statements z) h

    by_cases : (Contains os o → R o) → (q ≡ o) ⊎ Contains os o → R o
    by_cases ih (inl e) = subst R e (record { statement = b; there = others_in (statements q) b n.0; name = name; calls = is; number = number })
    by_cases ih (inr k) = ih k

-- the calls that this frame's innermost statement makes: of each open statement, of the function, and alone
pub record CallsFrom (p : Source) (g : ℕ) (fn : Function) (os : List Body) (line h : ℕ) : Type 0 where
  pub each : (o : Body) → Contains os o → CallsFunction p (statements o) h
  pub whole_function : CallsFunction p (statements_of p g) h
  pub body : Body
  pub there : Contains (statements fn.body) body
  pub begun : Begins body line
  pub alone : CallsFunction p (body ∷ []) h

pub calls_from : (p : Source) (g : ℕ) (fn : Function) (os : List Body) (line h : ℕ) → slice_get p.funcs g ≡ Some fn → AreOpened fn os
    → OnFirst os (λ b bs. Begins b line × ((name : List ℕ) × ((called_by b ≡ Some name) × (function_number p name ≡ Some h)))) → CallsFrom p g fn os line h
calls_from p g fn [] line h is open_ c = absurd c
calls_from p g fn (b ∷ bs) line h is open_ c =
    let name : List ℕ = c.1.0 in
    let P : Option Function → Type 0 = λ z. Contains (statements_in z) b in
    record {
      each = (λ o k. by_cases o (contains_cases b o bs k));
      whole_function = record { statement = b; there = subst P (sym is) open_.0; name = name; calls = c.1.1.0; number = c.1.1.1 };
      body = b;
      there = open_.0;
      begun = c.0;
      alone = record { statement = b; there = contains_first b []; name = name; calls = c.1.1.0; number = c.1.1.1 };
    }
  where
    R : Body → Type 0
    R z = CallsFunction p (statements z) h

    by_cases : (o : Body) → (b ≡ o) ⊎ Contains bs o → CallsFunction p (statements o) h
    by_cases o (inl e) = subst R e (calls_in_itself p b c.1.0 h c.1.1.0 c.1.1.1)
    by_cases o (inr k) = calls_in_each p bs b c.1.0 h c.1.1.0 c.1.1.1 open_.1.0 o k

deep_range : (p : Source) (f : Plan) (x : Level) (y : Place) (h line : ℕ) (r : Range) → IsGood p x → x.node ≡ Some (path.begins line)
    → CallsFrom p x.func x.function x.opened line h → ReachedFrom p h y → FitsRange f x r → IsUnsafe p f y
deep_range p f x y h line (between es xs) good is c deep a =
    inr (inl (record {
      entries = es;
      exits = xs;
      region = a.region;
      event = a.event;
      one = a.one;
      watch = a.watches.watch;
      is = a.watches.is;
      line = a.line;
      site = a.watches.site;
      function = x.function;
      number = x.func;
      of_number = good.is;
      there = (a.body, statement_in p x a.line a.body good a.there a.begun);
      node = path.begins line;
      comes = comes_to f x xs (path.begins a.line) a.node (path.begins line) a.is a.comes (inl is);
      place = inr (c.body, statement_in p x line c.body good c.there c.begun, deep (c.body ∷ []) c.alone);
    }))
deep_range p f x y h line (whole n) good is c deep a = inr (inr (record {
  event = n;
  region = a.region;
  watch = a.watches.watch;
  is = a.watches.is;
  number = x.func;
  site = a.watches.site;
  place = inr (deep (statements_of p x.func) c.whole_function);
}))

deep_clear : (p : Source) (f : Plan) (x : Level) (w : FrameView) (y : Place) (h : ℕ) → IsWellSited f → IsGood p x → Fits f x w → IsCaller p x h → ReachedFrom p h y
    → (IsUnsafe p f y → ⊥) → IsClearOf w
deep_clear p f x w y h well good fit k deep safe =
    let c : CallsFrom p x.func x.function x.opened k.line h = calls_from p x.func x.function x.opened k.line h good.is good.opened k.statement in
    record {
      outside = none_there w.inside (λ r m. safe (deep_range p f x y h k.line r good k.node c deep (fit.inside r m)));
      at_rest = under_clear p f x.func x.function y x.opened w.under_way good.is well good.opened
          (λ n a. safe (deep_range p f x y h k.line (whole n) good k.node c deep (record { region = well.functions n a.watch (Some x.func) a.is a.site; watches = a })))
          (λ o there m n l a begun. safe (inl (record {
            event = n;
            watch = a.watch;
            is = a.is;
            line = l;
            site = a.site;
            function = x.func;
            body = o;
            there = statement_in p x l o good there begun;
            place = inr (inr (deep (statements o) (c.each o m)));
          }))) fit.under;
    }

abbrev pub AreClear : List FrameView → Type 0
AreClear [] = Unit {0}
AreClear (w ∷ ws) = IsClearOf w × AreClear ws

-- where the place is one that a call in the first of these frames reaches
pub below_clear : (p : Source) (f : Plan) (ls : List Level) (ws : List FrameView) (y : Place) (h : ℕ) → IsWellSited f → AreGood p ls → AreFit f ls ws → IsCalledFrom p ls h
    → ReachedFrom p h y → (IsUnsafe p f y → ⊥) → AreClear ws
below_clear p f [] [] y h well good fit k deep safe = tt
below_clear p f [] (w ∷ ws) y h well good fit k deep safe = absurd fit
below_clear p f (x ∷ xs) [] y h well good fit k deep safe = tt
below_clear p f (x ∷ xs) (w ∷ ws) y h well good fit k deep safe =
    let c : CallsFrom p x.func x.function x.opened k.line h = calls_from p x.func x.function x.opened k.line h good.0.is good.0.opened k.statement in (
      deep_clear p f x w y h well good.0 fit.0 k deep safe,
      below_clear p f xs ws y x.func well good.1.1 fit.1 good.1.0 (reached_on p x.func y (deep (statements_of p x.func) c.whole_function)) safe,
    )

-- of the top frame, and of those below it
pub all_clear : (p : Source) (f : Plan) (x : Level) (xs : List Level) (ws : List FrameView) (y : Place) → IsWellSited f → AreGood p (x ∷ xs) → AreFit f (x ∷ xs) ws
    → IsHere p x y → (IsUnsafe p f y → ⊥) → AreClear ws
all_clear p f x xs [] y well good fit h safe = tt
all_clear p f x xs (w ∷ ws) y well good fit h safe =
    (own_clear p f x w y well good.0 fit.0 h safe, below_clear p f xs ws y x.func well good.1.1 fit.1 good.1.0 (reached_first p x.func y h.own) safe)

pub clear_append : (xs ys : List FrameView) → AreClear xs → AreClear ys → AreClear (xs ++ ys)
clear_append [] ys a b = b
clear_append (x ∷ xs) ys a b = (a.0, clear_append xs ys a.1 b)

pub none_inside : (ws : List FrameView) → AreClear ws → all_of ws ≡ []
none_inside [] h = refl
none_inside (w ∷ ws) h = append_none w.inside _ h.0.outside (none_inside ws h.1)

pub none_under_way : (ws : List FrameView) → AreClear ws → all_under_way ws ≡ []
none_under_way [] h = refl
none_under_way (w ∷ ws) h = append_none _ _ h.0.at_rest (none_under_way ws h.1)
