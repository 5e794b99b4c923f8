-- How rows are put behind each other.
use Rattle.std.proofs.Common.{ℕ, zero, suc, ◌≡◌, ◌<◌, ◌≤◌, ◌+◌, Bool, true, false, if◌then◌else◌, List, [], ◌∷◌, ◌++◌, length, map, take, drop, get_or, Option, Some, None, refl, sym, ap, subst, ◌∙◌, arith, append_assoc}
use Rattle.std.proofs.lemmas.List.{map-append, append-nil}
use Rattle.loom_tree.specs.Tree.{Expression, Function, Source, functions_of}
use Rattle.loom_tree.specs.declared.statement.Func.{Func}
use Rattle.loom_tree.specs.Tree.{function_of}
use Rattle.loom_lang.specs.Limits.{local_limit}
use Rattle.loom_lang.specs.Places.{Place, entry, out, places_from, body_places}
use Rattle.loom_lang.specs.Rules.{locals_of, FunctionsKeepRules}
use Rattle.loom_law.specs.Filter.{Site, Watch, Ruling, Plan, is_site}
use Rattle.loom_plan.specs.declared.plan.EventWatch.{EventWatch}
use Rattle.loom_plan.specs.declared.plan.EventSite.{EventSite}
use Rattle.loom_plan.specs.declared.plan.Pick.{Pick}
use Rattle.loom_plan.specs.declared.plan.WatchRow.{WatchRow}
use Rattle.loom_plan.specs.ElementNumbers.{numbers_where}
use Rattle.loom_plan.specs.PlanView.{event_watch_of, watches_of}
use Rattle.loom_plan.specs.Tests.{MeansIf}
use Rattle.loom_plan.specs.PlaceEvents.{site_at, watched_from, picks_from, names_from, ArePicks, IsWatchRow, AreRows}
use Rattle.loom_plan.specs.Table.{site_if, sites_of, sites_at, AreSiteRows, same_names, GoOn, pick_if, HasPick, HaveFewLocals}
use Rattle.loom_plan.proofs.ElementNumbers.{drop_map}

pub watched_chosen : (at : Site) (n : ℕ) (ws : List Watch) → watched_from n at ws ≡ numbers_where (λ m (w : Watch). is_site at w.site) n ws
watched_chosen at n [] = refl
watched_chosen at n (w ∷ ws) = ap (λ (ns : List ℕ). if is_site at w.site then n ∷ ns else ns) (watched_chosen at (suc n) ws)

-- picks

picks_snoc : (names : List (List ℕ)) (xs : List Pick) (ys : List (ℕ × Option Expression)) (x : Pick) (y : ℕ × Option Expression)
    → (x.event ≡ y.0) × MeansIf names x.test y.1 → ArePicks names xs ys → ArePicks names (xs ++ x ∷ []) (ys ++ y ∷ [])
picks_snoc names [] [] x y h g = (h, tt)
picks_snoc names (z ∷ xs) (w ∷ ys) x y h g = (g.0, picks_snoc names xs ys x y h g.1)
picks_snoc names [] (w ∷ ys) x y h g = absurd g
picks_snoc names (z ∷ xs) [] x y h g = absurd g

pub pick_on : (names : List (List ℕ)) (at : Site) (old new : List Pick) (x : Pick) (w : Watch) → new ≡ old ++ x ∷ [] → is_site at w.site ≡ true
    → MeansIf names x.test w.test → HasPick names old new (pick_if at x.event w)
pick_on names at old new x w e is means ys h =
    subst (λ (zs : List Pick). ArePicks names zs (ys ++ pick_if at x.event w)) (sym e)
    (subst (λ (b : Bool). ArePicks names (old ++ x ∷ []) (ys ++ (if b then (x.event, w.test) ∷ [] else []))) (sym is)
    (picks_snoc names old ys x (x.event, w.test) (refl, means) h))

cut : (b : Bool) (x : ℕ × Option Expression) (xs : List (ℕ × Option Expression)) → (if b then x ∷ xs else xs) ≡ (if b then x ∷ [] else []) ++ xs
cut true x xs = refl
cut false x xs = refl

pub picks_more : (at : Site) (n m i j : ℕ) (es : List EventWatch) (d : EventWatch) (ys all : List (ℕ × Option Expression)) → m ≡ suc n → j ≡ suc i → i < length es
    → ys ++ picks_from n at (drop i (watches_of es)) ≡ all → (ys ++ pick_if at n (event_watch_of (get_or es i d))) ++ picks_from m at (drop j (watches_of es)) ≡ all
picks_more at n m i j es d ys all e f low h =
    let w : Watch = event_watch_of (get_or es i d) in
    append_assoc ys (pick_if at n w) (picks_from m at (drop j (watches_of es)))
    ∙ (ap (λ (k : ℕ). ys ++ (pick_if at n w ++ picks_from k at (drop j (watches_of es)))) e
    ∙ (ap (λ (k : ℕ). ys ++ (pick_if at n w ++ picks_from (suc n) at (drop k (watches_of es)))) f
    ∙ (ap (λ (zs : List (ℕ × Option Expression)). ys ++ zs) (sym (cut (is_site at w.site) (n, w.test) (picks_from (suc n) at (drop (suc i) (watches_of es)))))
    ∙ (ap (λ (ws : List Watch). ys ++ picks_from n at ws) (sym (drop_map event_watch_of es i d low)) ∙ h))))

-- rows

rows_snoc : (f : Plan) (ns : List (List (List ℕ))) (ps : List (Option Site)) (rows : List WatchRow) (names : List (List ℕ)) (o : Option Site) (row : WatchRow)
    → IsWatchRow f names o row → AreSiteRows f ns ps rows → AreSiteRows f (ns ++ names ∷ []) (ps ++ o ∷ []) (rows ++ row ∷ [])
rows_snoc f [] [] [] names o row h g = (h, tt)
rows_snoc f (n ∷ ns) (p ∷ ps) (r ∷ rows) names o row h g = (g.0, rows_snoc f ns ps rows names o row h g.1)
rows_snoc f [] [] (r ∷ rows) names o row h g = absurd g
rows_snoc f [] (p ∷ ps) rows names o row h g = absurd g
rows_snoc f (n ∷ ns) [] rows names o row h g = absurd g
rows_snoc f (n ∷ ns) (p ∷ ps) [] names o row h g = absurd g

pub row_on : (f : Plan) (old new : List WatchRow) (names : List (List ℕ)) (o : Option Site) (row : WatchRow) → new ≡ old ++ row ∷ [] → IsWatchRow f names o row
    → GoOn f old new (names ∷ []) (o ∷ [])
row_on f old new names o row e h ns ps g =
    subst (λ (rs : List WatchRow). AreSiteRows f (ns ++ names ∷ []) (ps ++ o ∷ []) rs) (sym e) (rows_snoc f ns ps old names o row h g)

pub go_on : (f : Plan) (old mid new : List WatchRow) (ms bs cs : List (List (List ℕ))) (os qs rs : List (Option Site))
    → cs ≡ ms ++ bs → rs ≡ os ++ qs → GoOn f old mid ms os → GoOn f mid new bs qs → GoOn f old new cs rs
go_on f old mid new ms bs cs os qs rs e g h k ns ps x =
    subst (λ (zs : List (List (List ℕ))). AreSiteRows f (ns ++ zs) (ps ++ rs) new) (sym e)
    (subst (λ (zs : List (Option Site)). AreSiteRows f (ns ++ (ms ++ bs)) (ps ++ zs) new) (sym g)
    (subst (λ (zs : List (List (List ℕ))). AreSiteRows f zs (ps ++ (os ++ qs)) new) (append_assoc ns ms bs)
    (subst (λ (zs : List (Option Site)). AreSiteRows f ((ns ++ ms) ++ bs) zs new) (append_assoc ps os qs)
    (k (ns ++ ms) (ps ++ os) (h ns ps x)))))

pub go_nowhere : (f : Plan) (old : List WatchRow) → GoOn f old old [] []
go_nowhere f old ns ps x =
    subst (λ (zs : List (List (List ℕ))). AreSiteRows f zs (ps ++ []) old) (sym (append-nil ns))
    (subst (λ (zs : List (Option Site)). AreSiteRows f ns zs old) (sym (append-nil ps)) x)

pub take_next : {A : Type 0} (xs : List A) (i j : ℕ) (d : A) → j ≡ suc i → i < length xs → take j xs ≡ take i xs ++ get_or xs i d ∷ []
take_next [] i j d e low = absurd (omega arith)
take_next (x ∷ xs) zero j d e low = ap (λ (k : ℕ). take k (x ∷ xs)) e
take_next (x ∷ xs) (suc i) j d e low = ap (λ (k : ℕ). take k (x ∷ xs)) e ∙ ap (λ ys. x ∷ ys) (take_next xs i (suc i) d refl (omega arith))

pub sites_next : (xs : List (Option EventSite)) (i j : ℕ) (d : Option EventSite) → j ≡ suc i → i < length xs → sites_of (take j xs) ≡ sites_of (take i xs) ++ site_if (get_or xs i d) ∷ []
sites_next xs i j d e low = ap sites_of (take_next xs i j d e low) ∙ map-append site_if (take i xs) (get_or xs i d ∷ [])

pub names_next : (names : List (List ℕ)) (os ps : List (Option Site)) (o : Option Site) → ps ≡ os ++ o ∷ [] → same_names names ps ≡ same_names names os ++ names ∷ []
names_next names os ps o e = ap (same_names names) e ∙ map-append (λ (q : Option Site). names) os (o ∷ [])

-- functions

same_places : (names : List (List ℕ)) (xs : List Place) (x : Place) → same_names names (sites_at (xs ++ x ∷ [])) ≡ map (λ (y : Place). names) xs ++ names ∷ []
same_places names [] x = refl
same_places names (y ∷ ys) x = ap (λ zs. names ∷ zs) (same_places names ys x)

pub same_in_function : (n : ℕ) (f : Function) → same_names (locals_of f) (sites_at (places_from n (f ∷ []))) ≡ names_from (f ∷ [])
same_in_function n f = ap (λ zs. locals_of f ∷ zs) (same_places (locals_of f) (body_places f.body) (out n))

pub function_on : (plan : Plan) (old new : List WatchRow) (n : ℕ) (f : Function) (names : List (List ℕ)) (sites : List (Option Site))
    → names ≡ locals_of f → sites ≡ sites_at (places_from n (f ∷ [])) → GoOn plan old new (same_names names sites) sites
    → GoOn plan old new (names_from (f ∷ [])) (sites_at (places_from n (f ∷ [])))
function_on plan old new n f names sites e g h =
    subst (λ (zs : List (List (List ℕ))). GoOn plan old new zs (sites_at (places_from n (f ∷ [])))) (ap (λ xs. same_names xs (sites_at (places_from n (f ∷ [])))) e ∙ same_in_function n f)
    (subst (λ (ps : List (Option Site)). GoOn plan old new (same_names names ps) ps) g h)

names_append : (fs : List Function) (f : Function) → names_from (fs ++ f ∷ []) ≡ names_from fs ++ names_from (f ∷ [])
names_append [] f = refl
names_append (g ∷ fs) f =
    ap (λ zs. locals_of g ∷ (map (λ (x : Place). locals_of g) (body_places g.body) ++ locals_of g ∷ zs)) (names_append fs f)
    ∙ ap (λ zs. locals_of g ∷ zs) (sym (append_assoc (map (λ (x : Place). locals_of g) (body_places g.body)) (locals_of g ∷ names_from fs) (names_from (f ∷ []))))

places_append : (n m : ℕ) (fs : List Function) (f : Function) → m ≡ n + length fs → places_from n (fs ++ f ∷ []) ≡ places_from n fs ++ places_from m (f ∷ [])
places_append n m [] f e = ap (λ (k : ℕ). places_from k (f ∷ [])) (omega arith)
places_append n m (g ∷ fs) f e =
    ap (λ zs. entry n ∷ (body_places g.body ++ out n ∷ zs)) (places_append (suc n) m fs f (omega arith))
    ∙ ap (λ zs. entry n ∷ zs) (sym (append_assoc (body_places g.body) (out n ∷ places_from (suc n) fs) (places_from m (f ∷ []))))

functions_next : (xs : List Func) (i j : ℕ) (d : Func) → j ≡ suc i → i < length xs → functions_of (take j xs) ≡ functions_of (take i xs) ++ function_of (get_or xs i d) ∷ []
functions_next xs i j d e low = ap functions_of (take_next xs i j d e low) ∙ map-append function_of (take i xs) (get_or xs i d ∷ [])

as_many_taken : (xs : List Func) (i : ℕ) → i ≤ length xs → length (functions_of (take i xs)) ≡ i
as_many_taken xs zero low = refl
as_many_taken [] (suc i) low = absurd (omega arith)
as_many_taken (x ∷ xs) (suc i) low = ap suc (as_many_taken xs i (omega arith))

pub functions_on : (plan : Plan) (old mid new : List WatchRow) (xs : List Func) (i j : ℕ) (d : Func) → j ≡ suc i → i < length xs
    → GoOn plan old mid (names_from (functions_of (take i xs))) (sites_at (places_from 0 (functions_of (take i xs))))
    → GoOn plan mid new (names_from (function_of (get_or xs i d) ∷ [])) (sites_at (places_from i (function_of (get_or xs i d) ∷ [])))
    → GoOn plan old new (names_from (functions_of (take j xs))) (sites_at (places_from 0 (functions_of (take j xs))))
functions_on plan old mid new xs i j d e low h k =
    let f : Function = function_of (get_or xs i d) in
    let fs : List Function = functions_of (take i xs) in
    go_on plan old mid new (names_from fs) (names_from (f ∷ [])) (names_from (functions_of (take j xs))) (sites_at (places_from 0 fs)) (sites_at (places_from i (f ∷ []))) (sites_at (places_from 0 (functions_of (take j xs))))
    (ap names_from (functions_next xs i j d e low) ∙ names_append fs f)
    (ap (λ (gs : List Function). sites_at (places_from 0 gs)) (functions_next xs i j d e low)
    ∙ (ap sites_at (places_append 0 i fs f (sym (as_many_taken xs i (omega arith)) ∙ omega arith)) ∙ map-append site_at (places_from 0 fs) (places_from i (f ∷ []))))
    h k

pub few_at : (xs : List Func) (i : ℕ) (d : Func) → i < length xs → HaveFewLocals (functions_of xs) → length (locals_of (function_of (get_or xs i d))) ≤ local_limit
few_at [] i d low h = absurd (omega arith)
few_at (x ∷ xs) zero d low h = h.0
few_at (x ∷ xs) (suc i) d low h = few_at xs i d (omega arith) h.1

pub few_locals : (p : Source) (fs : List Function) → FunctionsKeepRules p fs → HaveFewLocals fs
few_locals p [] h = tt
few_locals p (f ∷ fs) h = (h.0.locals, few_locals p fs h.1)

-- the table

pub site_rows : (f : Plan) (ns : List (List (List ℕ))) (xs : List Place) (rows : List WatchRow) → AreSiteRows f ns (sites_at xs) rows → AreRows f ns xs rows
site_rows f [] [] [] h = tt
site_rows f (n ∷ ns) (x ∷ xs) (r ∷ rows) h = (h.0, site_rows f ns xs rows h.1)
site_rows f [] [] (r ∷ rows) h = absurd h
site_rows f [] (x ∷ xs) rows h = absurd h
site_rows f (n ∷ ns) [] rows h = absurd h
site_rows f (n ∷ ns) (x ∷ xs) [] h = absurd h

row_alike : (ws : List Watch) (rs ss : List Ruling) (names : List (List ℕ)) (o : Option Site) (row : WatchRow)
    → IsWatchRow (record { watches = ws; rulings = rs }) names o row → IsWatchRow (record { watches = ws; rulings = ss }) names o row
row_alike ws rs ss names None row h = record { events = h.events; picks = h.picks }
row_alike ws rs ss names (Some at) row h = record { events = h.events; picks = h.picks }

pub rows_alike : (ws : List Watch) (rs ss : List Ruling) (ns : List (List (List ℕ))) (xs : List Place) (rows : List WatchRow)
    → AreRows (record { watches = ws; rulings = rs }) ns xs rows → AreRows (record { watches = ws; rulings = ss }) ns xs rows
rows_alike ws rs ss [] [] [] h = tt
rows_alike ws rs ss (n ∷ ns) (x ∷ xs) (r ∷ rows) h = (row_alike ws rs ss n (site_at x) r h.0, rows_alike ws rs ss ns xs rows h.1)
rows_alike ws rs ss [] [] (r ∷ rows) h = absurd h
rows_alike ws rs ss [] (x ∷ xs) rows h = absurd h
rows_alike ws rs ss (n ∷ ns) [] rows h = absurd h
rows_alike ws rs ss (n ∷ ns) (x ∷ xs) [] h = absurd h
