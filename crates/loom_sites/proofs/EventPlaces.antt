-- What stands at a statement's run of places: its own places, its calls and its returns.
use Rattle.std.proofs.Common.{ℕ, suc, ◌+◌, ◌-◌, ◌<◌, ◌≤◌, ◌≡◌, ◌==◌, ◌⊎◌, ◌↔◌, inl, inr, Bool, true, false, ◌&&◌, nat_lt, nat_le, List, [], ◌∷◌, ◌++◌, length, length-append, slice_get, Option, Some, None, refl, sym, ap, subst, ◌∙◌, arith, eqb-true, eq-eqb}
use Rattle.std.specs.List.{Contains}
use Rattle.std.proofs.lemmas.Bool.{leb-true, ltb-true, le-leb, lt-ltb}
use Rattle.std.proofs.lemmas.Option.{slice_get_within}
use Rattle.std.proofs.lemmas.List.Elements.{Contains-append_cases}
use Rattle.loom_tree.specs.Tree.{Expression, Right, Simple, let_, set, return, Body, simple, if_, while_, Function, Source}
use Rattle.loom_tree.specs.Tree as tree
use Rattle.loom_lang.specs.Numbers.{function_number}
use Rattle.loom_lang.specs.Rules.{KeepsRules}
use Rattle.loom_lang.specs.Places.{Place, inside, out, body_places, places, place_at}
use Rattle.loom_flow.specs.FlatCode.{place_count}
use Rattle.loom_law.specs.Filter.{Watch, statement, Plan}
use Rattle.loom_law.specs.Paths.{statements, others, is_simple_return, is_return, has_return, Begins, IsStatement, called_right, called, called_by, CallsFunction, watch_at}
use Rattle.loom_law.proofs.Course.{contains_first, contains_cases, no_member, any_contains}
use Rattle.loom_law.proofs.Matches.{any_found}
use Rattle.loom_law.proofs.Unsafe.{others_in}
use Rattle.loom_plan.proofs.Rows.{get_some}
use Rattle.loom_law.proofs.Holdings.{either_of, or_cases, or_left, or_right}
use Rattle.loom_sites.specs.declared.node.TableNode.{TableNode}
use Rattle.loom_sites.specs.declared.node.TableNode.TheVariants as n
use Rattle.loom_sites.specs.declared.links.PlaceKind.{PlaceKind}
use Rattle.loom_sites.specs.declared.links.PlaceKind.TheVariants as kind
use Rattle.loom_sites.specs.declared.links.PlaceLinks.{PlaceLinks}
use Rattle.loom_sites.specs.declared.links.Owner.{Owner}
use Rattle.loom_sites.specs.Links.{is_statement, is_return_kind, is_call_of, kind_if, right_kind, simple_kind, first_at, next_simple, program_rows, out_behind}
use Rattle.loom_sites.specs.Nodes.{node_number}
use Rattle.loom_sites.specs.Rows.{test_if, meets_at, any_meets, any_run}
use Rattle.loom_sites.specs.Events.{watched_at, are_some, has_event, is_between, is_out, is_unsafe_at, makes_unsafe, calls_here, calls_by_event}
use Rattle.loom_sites.proofs.Passes.{any_found_all, any_there_all, run_found, run_there}
use Rattle.loom_sites.proofs.Watches.{event_told, event_found}
use Rattle.loom_sites.proofs.Stands.{Stand, function_stands, place_in_function, simple_here, if_here, while_here}
use Rattle.loom_sites.proofs.RowPlaces.{program_aligned, place_row, statement_place, statement_stands, statement_at}
use Rattle.loom_sites.proofs.Owners.{get_contains, contains_get}
use Rattle.loom_sites.proofs.Courses.{same_number, not_nowhere, inside_first, inside_last}

-- Kinds

number_told : (o : Option ℕ) (h : ℕ) → is_call_of h (kind_if o) ≡ true → o ≡ Some h
number_told None h e = cc
number_told (Some f) h e = ap Some (eqb-true f h e)

number_found : (o : Option ℕ) (h : ℕ) → o ≡ Some h → is_call_of h (kind_if o) ≡ true
number_found None h e = cc
number_found (Some f) h e = let same : f ≡ h = cc in eq-eqb f h same

abbrev CallsName : Source → Option (List ℕ) → ℕ → Type 0
CallsName p o h = (x : List ℕ) × ((o ≡ Some x) × (function_number p x ≡ Some h))

right_told : (p : Source) (r : Right Expression) (h : ℕ) → is_call_of h (right_kind p r) ≡ true → CallsName p (called_right r) h
right_told p (Right.value e) h i = cc
right_told p (Right.call f es) h i = (f, (refl, number_told (function_number p f) h i))
right_told p (Right.spawn f es) h i = cc

simple_told : (p : Source) (s : Simple Expression) (h : ℕ) → is_call_of h (simple_kind p s) ≡ true → CallsName p (called s) h
simple_told p (let_ x r) h i = right_told p r h i
simple_told p (set x r) h i = right_told p r h i
simple_told p (Simple.call f es) h i = (f, (refl, number_told (function_number p f) h i))
simple_told p (return e) h i = cc
simple_told p (tree.set_cell x j e) h i = cc
simple_told p (tree.lock x) h i = cc
simple_told p (tree.unlock x) h i = cc
simple_told p (tree.down x) h i = cc
simple_told p (tree.up x) h i = cc
simple_told p (tree.join e) h i = cc
simple_told p (tree.print e) h i = cc
simple_told p tree.skip h i = cc

same_name : (p : Source) (x y : List ℕ) (h : ℕ) → Some x ≡ Some y → function_number p y ≡ Some h → function_number p x ≡ Some h
same_name p x y h e g = let same : x ≡ y = cc in ap (function_number p) same ∙ g

right_found : (p : Source) (r : Right Expression) (x : List ℕ) (h : ℕ) → called_right r ≡ Some x → function_number p x ≡ Some h → is_call_of h (right_kind p r) ≡ true
right_found p (Right.value e) x h i g = cc
right_found p (Right.call f es) x h i g = number_found (function_number p f) h (same_name p f x h i g)
right_found p (Right.spawn f es) x h i g = cc

simple_found : (p : Source) (s : Simple Expression) (x : List ℕ) (h : ℕ) → called s ≡ Some x → function_number p x ≡ Some h → is_call_of h (simple_kind p s) ≡ true
simple_found p (let_ y r) x h i g = right_found p r x h i g
simple_found p (set y r) x h i g = right_found p r x h i g
simple_found p (Simple.call f es) x h i g = number_found (function_number p f) h (same_name p f x h i g)
simple_found p (return e) x h i g = cc
simple_found p (tree.set_cell y j e) x h i g = cc
simple_found p (tree.lock y) x h i g = cc
simple_found p (tree.unlock y) x h i g = cc
simple_found p (tree.down y) x h i g = cc
simple_found p (tree.up y) x h i g = cc
simple_found p (tree.join e) x h i g = cc
simple_found p (tree.print e) x h i g = cc
simple_found p tree.skip x h i g = cc

pub call_statement : (h : ℕ) (x : PlaceKind) → is_call_of h x ≡ true → is_statement x ≡ true
call_statement h kind.Entry e = cc
call_statement h kind.Out e = cc
call_statement h kind.Turn e = cc
call_statement h kind.Plain e = refl
call_statement h kind.Return e = refl
call_statement h (kind.Call f) e = refl

-- The row of a statement

same_row : (a b : PlaceLinks) → Some a ≡ Some b → a ≡ b
same_row a b e = cc

pub row_calls : (p : Source) (o : Owner) (i l : ℕ) (x : Body) (next : TableNode) (h : ℕ) (row : PlaceLinks) → Stand p o i x next → Begins x l → slice_get (program_rows p) i ≡ Some row → is_call_of h row.kind ≡ true
    → CallsName p (called_by x) h
row_calls p o i l tree.end next h row stand b e c = absurd b
row_calls p o i l (simple m s rest) next h row stand b e c =
    let same = same_row row _ (sym e ∙ (simple_here p o i m s rest next stand).0) in
    simple_told p s h (ap (λ (z : PlaceLinks). is_call_of h z.kind) (sym same) ∙ c)
row_calls p o i l (if_ m t a b' rest) next h row stand b e c =
    let same = same_row row _ (sym e ∙ (if_here p o i m t a b' rest next stand).0) in
    let clash : false ≡ true = ap (λ (z : PlaceLinks). is_call_of h z.kind) (sym same) ∙ c in
    cc
row_calls p o i l (while_ m t a rest) next h row stand b e c =
    let same = same_row row _ (sym e ∙ (while_here p o i m t a rest next stand).0) in
    let clash : false ≡ true = ap (λ (z : PlaceLinks). is_call_of h z.kind) (sym same) ∙ c in
    cc

pub calls_row : (p : Source) (o : Owner) (i : ℕ) (x : Body) (next : TableNode) (h : ℕ) → Stand p o i x next → CallsName p (called_by x) h → meets_at (calls_here h) (program_rows p) i ≡ true
calls_row p o i tree.end next h stand c = let clash = c.1.0 in cc
calls_row p o i (simple m s rest) next h stand c = ap (test_if (calls_here h) i) (simple_here p o i m s rest next stand).0 ∙ simple_found p s c.0 h c.1.0 c.1.1
calls_row p o i (if_ m t a b rest) next h stand c = let clash = c.1.0 in cc
calls_row p o i (while_ m t a rest) next h stand c = let clash = c.1.0 in cc

-- a statement that calls begins on a line
caller_line : (x : Body) (name : List ℕ) → called_by x ≡ Some name → (l : ℕ) × Begins x l
caller_line tree.end name e = cc
caller_line (simple l s rest) name e = (l, refl)
caller_line (if_ l t a b rest) name e = cc
caller_line (while_ l t a rest) name e = cc

-- Calls in a run of places

pub run_calls : (p : Source) (o : Owner) (j : ℕ) (x : Body) (next : TableNode) (h : ℕ) → Stand p o j x next → (any_run (calls_here h) (program_rows p) j (place_count x) ≡ true) ↔ CallsFunction p (statements x) h
run_calls p o j x next h stand = (told, found)
  where
    by_row : (i : ℕ) → j ≤ i → i < j + place_count x → (z : Option PlaceLinks) → slice_get (program_rows p) i ≡ z → test_if (calls_here h) i z ≡ true → CallsFunction p (statements x) h
    by_row i low high None e t = cc
    by_row i low high (Some row) e t =
        let at = statement_place p i row e (call_statement h row.kind t) in
        let s = statement_at p o j x next i at.0 stand low high at.1 in
        let c = row_calls p o i at.0 s.statement s.next h row s.stand s.line e t in
        record { statement = s.statement; there = s.there; name = c.0; calls = c.1.0; number = c.1.1 }

    told : any_run (calls_here h) (program_rows p) j (place_count x) ≡ true → CallsFunction p (statements x) h
    told e = let r = run_found (calls_here h) (program_rows p) j (place_count x) e in by_row r.0 r.1.0.0 r.1.0.1 (slice_get (program_rows p) r.0) refl r.1.1

    found : CallsFunction p (statements x) h → any_run (calls_here h) (program_rows p) j (place_count x) ≡ true
    found c =
        let line = caller_line c.statement c.name c.calls in
        let s = statement_stands p o j x next c.statement line.0 stand c.there line.1 in
        run_there (calls_here h) (program_rows p) j (place_count x) s.number s.from s.before (calls_row p o s.number c.statement s.next h s.stand (c.name, (c.calls, c.number)))

-- The run of a statement by itself ends where its row says.

abbrev pub IsAlone : Body → Type 0
IsAlone tree.end = ⊥
IsAlone (simple l s rest) = rest ≡ tree.end
IsAlone (if_ l e a b rest) = rest ≡ tree.end
IsAlone (while_ l e a rest) = rest ≡ tree.end

moved_alone : (x y : Body) → x ≡ y → IsAlone x → IsAlone y
moved_alone x y e h = let P : Body → Type 0 = λ z. IsAlone z in subst P e h

pub alone : (b x : Body) → Contains (statements b) x → IsAlone x
alone tree.end x c = absurd (no_member x c)
alone (simple l s rest) x c = either_of (contains_cases (simple l s tree.end) x (statements rest) c) (λ e. moved_alone (simple l s tree.end) x e refl) (λ d. alone rest x d)
alone (if_ l e a b rest) x c =
    either_of (contains_cases (if_ l e a b tree.end) x (statements a ++ (statements b ++ statements rest)) c) (λ q. moved_alone (if_ l e a b tree.end) x q refl)
    (λ d. either_of (Contains-append_cases (statements a) (statements b ++ statements rest) x d) (λ i. alone a x i)
    (λ i. either_of (Contains-append_cases (statements b) (statements rest) x i) (λ j. alone b x j) (λ j. alone rest x j)))
alone (while_ l e a rest) x c =
    either_of (contains_cases (while_ l e a tree.end) x (statements a ++ statements rest) c) (λ q. moved_alone (while_ l e a tree.end) x q refl)
    (λ d. either_of (Contains-append_cases (statements a) (statements rest) x d) (λ i. alone a x i) (λ i. alone rest x i))

no_places : (rest : Body) → rest ≡ tree.end → place_count rest ≡ 0
no_places rest e = ap place_count e

pub row_end : (p : Source) (o : Owner) (j : ℕ) (x : Body) (next : TableNode) (row : PlaceLinks) → Stand p o j x next → IsAlone x → slice_get (program_rows p) j ≡ Some row → row.end ≡ j + place_count x
row_end p o j tree.end next row stand a e = absurd a
row_end p o j (simple l s rest) next row stand a e =
    let same = same_row row _ (sym e ∙ (simple_here p o j l s rest next stand).0) in
    let none = no_places rest a in
    ap (λ (z : PlaceLinks). z.end) same ∙ omega (arith, none)
row_end p o j (if_ l t y z rest) next row stand a e =
    let same = same_row row _ (sym e ∙ (if_here p o j l t y z rest next stand).0) in
    let none = no_places rest a in
    let many = length-append (body_places y) (body_places z ++ body_places rest) in
    let more = length-append (body_places z) (body_places rest) in
    ap (λ (w : PlaceLinks). w.end) same ∙ omega (arith, none, many, more)
row_end p o j (while_ l t y rest) next row stand a e =
    let same = same_row row _ (sym e ∙ (while_here p o j l t y rest next stand).0) in
    let none = no_places rest a in
    let many = length-append (body_places y) (body_places rest) in
    ap (λ (w : PlaceLinks). w.end) same ∙ omega (arith, none, many)

-- A place with an event, and an event's place

first_of : (ns : List ℕ) → are_some ns ≡ true → (m : ℕ) × Contains ns m
first_of [] e = cc
first_of (m ∷ ns) e = (m, contains_first m ns)

some_there : (ns : List ℕ) (m : ℕ) → Contains ns m → are_some ns ≡ true
some_there [] m c = absurd (no_member m c)
some_there (i ∷ ns) m c = refl

-- the statement of a place, in its function
pub record IsOwnerOf (p : Source) (j l : ℕ) : Type 0 where
  pub number : ℕ
  pub statement : Body
  pub there : IsStatement p number l statement
  pub owner : Owner
  pub owner_is : owner.number ≡ number
  pub last : place_at p owner.out ≡ Some (out number)
  pub next : TableNode
  pub stand : Stand p owner j statement next
  pub alone_is : IsAlone statement

pub statement_owner : (p : Source) (j l : ℕ) → place_at p j ≡ Some (inside l) → IsOwnerOf p j l
statement_owner p j l at =
    let high : j < length (places p) = slice_get_within (places p) j (inside l) at in
    let r = place_in_function p j (not_nowhere p j l at) high in
    let o : Owner = record { number = r.number; out = out_behind r.first r.function } in
    let low = inside_first p r.first r.number j l r.stand.entry_place at r.from in
    let less = inside_last p (out_behind r.first r.function) r.number j l r.stand.out_place at r.to in
    let s = statement_at p o (suc r.first) r.function.body (n.Start (out_behind r.first r.function)) j l r.stand.body low less at in
    record {
      number = r.number;
      statement = s.statement;
      there = record { function = r.function; is = r.is; there = s.there; line = s.line };
      owner = o;
      owner_is = refl;
      last = r.stand.out_place;
      next = s.next;
      stand = s.stand;
      alone_is = alone r.function.body s.statement s.there;
    }

pub record IsEventStand (p : Source) (f : Plan) (j : ℕ) : Type 0 where
  pub event : ℕ
  pub watch : Watch
  pub is : watch_at f event ≡ Some watch
  pub line : ℕ
  pub site : watch.site ≡ statement line
  pub number : ℕ
  pub body : Body
  pub there : IsStatement p number line body
  pub owner : Owner
  pub owner_is : owner.number ≡ number
  pub last : place_at p owner.out ≡ Some (out number)
  pub next : TableNode
  pub stand : Stand p owner j body next
  pub alone_is : IsAlone body

and_parts : (a b : Bool) → (a && b) ≡ true → (a ≡ true) × (b ≡ true)
and_parts true b h = (refl, h)
and_parts false b h = cc

and_true : (a b : Bool) → a ≡ true → b ≡ true → (a && b) ≡ true
and_true true b h g = g
and_true false b h g = cc

pub event_stand : (p : Source) (f : Plan) (j : ℕ) (row : PlaceLinks) → slice_get (program_rows p) j ≡ Some row → has_event p f j row ≡ true → IsEventStand p f j
event_stand p f j row e t =
    let parts = and_parts (is_statement row.kind) (are_some (watched_at p f j)) t in
    let at = statement_place p j row e parts.0 in
    let first = first_of (watched_at p f j) parts.1 in
    let w = event_told p f j at.0 first.0 at.1 first.1 in
    let r = statement_owner p j at.0 at.1 in
    record {
      event = first.0;
      watch = w.0;
      is = w.1.0;
      line = at.0;
      site = w.1.1;
      number = r.number;
      body = r.statement;
      there = r.there;
      owner = r.owner;
      owner_is = r.owner_is;
      last = r.last;
      next = r.next;
      stand = r.stand;
      alone_is = r.alone_is;
    }

-- and where an event's statement stands
pub event_row : (p : Source) (f : Plan) (m l g : ℕ) (w : Watch) (x : Body) → watch_at f m ≡ Some w → w.site ≡ statement l → IsStatement p g l x
    → (j : ℕ) × ((row : PlaceLinks) × ((slice_get (program_rows p) j ≡ Some row) × ((has_event p f j row ≡ true) × ((o : Owner) × ((next : TableNode) × ((o.number ≡ g) × ((place_at p o.out ≡ Some (out g)) × (Stand p o j x next × IsAlone x))))))))
event_row p f m l g w x is site there =
    let s = function_stands p g there.function there.is in
    let last : ℕ = out_behind s.0 there.function in
    let o : Owner = record { number = g; out = last } in
    let at = statement_stands p o (suc s.0) (Function.body there.function) (n.Start last) x l s.1.body there.there there.line in
    let row = place_row (program_rows p) (places p) at.number (inside l) (program_aligned p) at.place in
    let watched = event_found p f at.number l m at.place (w, (is, site)) in
    (at.number, (row.0, (row.1.0, (and_true (is_statement row.0.kind) (are_some (watched_at p f at.number)) row.1.1 (some_there (watched_at p f at.number) m watched), (o, (at.next, (refl, (s.1.out_place, (at.stand, alone (Function.body there.function) x there.there)))))))))

abbrev pub IsEventCall : Source → Plan → ℕ → Type 0
IsEventCall p f h =
    (m : ℕ) × ((w : Watch) × ((l : ℕ) × ((g : ℕ) × ((x : Body) × ((watch_at f m ≡ Some w) × ((w.site ≡ statement l) × (IsStatement p g l x × CallsFunction p (statements x) h)))))))

pub event_call : (p : Source) (f : Plan) (h : ℕ) → (any_meets (calls_by_event p f (program_rows p) h) 0 (program_rows p) ≡ true) ↔ IsEventCall p f h
event_call p f h = (told, found)
  where
    rows : List PlaceLinks
    rows = program_rows p

    run_end : (j : ℕ) (x : Body) (end : ℕ) → end ≡ j + place_count x → end - j ≡ place_count x
    run_end j x end e = omega (arith, e)

    told : any_meets (calls_by_event p f rows h) 0 rows ≡ true → IsEventCall p f h
    told e =
        let found = any_found_all (calls_by_event p f rows h) rows e in
        let row : PlaceLinks = found.1.0 in
        let parts = and_parts (has_event p f found.0 row) (any_run (calls_here h) rows found.0 (row.end - found.0)) found.1.1.1 in
        let s = event_stand p f found.0 row found.1.1.0 parts.0 in
        let long = run_end found.0 s.body row.end (row_end p s.owner found.0 s.body s.next row s.stand s.alone_is found.1.1.0) in
        let P : ℕ → Type 0 = λ z. any_run (calls_here h) rows found.0 z ≡ true in
        (s.event, (s.watch, (s.line, (s.number, (s.body, (s.is, (s.site, (s.there, (run_calls p s.owner found.0 s.body s.next h s.stand).0 (subst P long parts.1)))))))))

    found : IsEventCall p f h → any_meets (calls_by_event p f rows h) 0 rows ≡ true
    found t =
        let x : Body = t.1.1.1.1.0 in
        let s = event_row p f t.0 t.1.1.0 t.1.1.1.0 t.1.0 x t.1.1.1.1.1.0 t.1.1.1.1.1.1.0 t.1.1.1.1.1.1.1.0 in
        let j : ℕ = s.0 in
        let row : PlaceLinks = s.1.0 in
        let o : Owner = s.1.1.1.1.0 in
        let next : TableNode = s.1.1.1.1.1.0 in
        let stand : Stand p o j x next = s.1.1.1.1.1.1.1.1.0 in
        let by_itself : IsAlone x = s.1.1.1.1.1.1.1.1.1 in
        let long = run_end j x row.end (row_end p o j x next row stand by_itself s.1.1.0) in
        let P : ℕ → Type 0 = λ z. any_run (calls_here h) rows j z ≡ true in
        any_there_all (calls_by_event p f rows h) rows j row s.1.1.0
        (and_true (has_event p f j row) (any_run (calls_here h) rows j (row.end - j)) s.1.1.1.0 (subst P (sym long) ((run_calls p o j x next h stand).1 t.1.1.1.1.1.1.1.1)))

-- Places in a run

same_some : {A : Type 0} (x y : A) → Some x ≡ Some y → x ≡ y
same_some x y e = cc

between_told : (low high k : ℕ) → is_between low high k ≡ true → (low ≤ k) × (k < high)
between_told low high k e = let parts = and_parts (nat_le low k) (nat_lt k high) e in (leb-true low k parts.0, ltb-true k high parts.1)

between_found : (low high k : ℕ) → low ≤ k → k < high → is_between low high k ≡ true
between_found low high k h g = and_true (nat_le low k) (nat_lt k high) (le-leb low k h) (lt-ltb k high g)

pub run_places : (p : Source) (o : Owner) (j k : ℕ) (x : Body) (next : TableNode) (y : Place) → KeepsRules p → Stand p o j x next → place_at p k ≡ Some y
    → (is_between j (j + place_count x) k ≡ true) ↔ Contains (body_places x) y
run_places p o j k x next y rules stand at = (told, found)
  where
    told : is_between j (j + place_count x) k ≡ true → Contains (body_places x) y
    told e =
        let range = between_told j (j + place_count x) k e in
        let low = range.0 in
        let high = range.1 in
        let d : ℕ = k - j in
        let some = get_some (body_places x) d (omega (arith, low, high)) in
        let there : j + d ≡ k = omega (arith, low) in
        let same : some.0 ≡ y = same_some some.0 y (sym (stand.places d some.0 some.1) ∙ (ap (slice_get (places p)) there ∙ at)) in
        let P : Place → Type 0 = λ z. Contains (body_places x) z in
        subst P same (get_contains (body_places x) d some.0 some.1)

    found : Contains (body_places x) y → is_between j (j + place_count x) k ≡ true
    found c =
        let some = contains_get (body_places x) y c in
        let high = slice_get_within (body_places x) some.0 y some.1 in
        let same : j + some.0 ≡ k = same_number p (j + some.0) k y rules (stand.places some.0 y some.1) at in
        between_found j (j + place_count x) k (omega (arith, same)) (omega (arith, same, high))

-- Returns in a run

return_told : (p : Source) (o : Owner) (s : Simple Expression) (next : TableNode) → is_return_kind (simple_kind p s) ≡ true → (is_simple_return s ≡ true) × (next_simple o s next ≡ n.Start o.out)
return_told p o (return e) next h = (refl, refl)
return_told p o (let_ x r) next h = right_returns r h
  where
    number_returns : {A : Type 0} (z : Option ℕ) → is_return_kind (kind_if z) ≡ true → A
    number_returns None e = cc
    number_returns (Some f) e = cc

    right_returns : {A : Type 0} (q : Right Expression) → is_return_kind (right_kind p q) ≡ true → A
    right_returns (Right.value e) i = cc
    right_returns (Right.call f es) i = number_returns (function_number p f) i
    right_returns (Right.spawn f es) i = cc
return_told p o (set x r) next h = right_returns r h
  where
    number_returns : {A : Type 0} (z : Option ℕ) → is_return_kind (kind_if z) ≡ true → A
    number_returns None e = cc
    number_returns (Some f) e = cc

    right_returns : {A : Type 0} (q : Right Expression) → is_return_kind (right_kind p q) ≡ true → A
    right_returns (Right.value e) i = cc
    right_returns (Right.call f es) i = number_returns (function_number p f) i
    right_returns (Right.spawn f es) i = cc
return_told p o (Simple.call f es) next h = number_returns (function_number p f) h
  where
    number_returns : {A : Type 0} (z : Option ℕ) → is_return_kind (kind_if z) ≡ true → A
    number_returns None e = cc
    number_returns (Some g) e = cc
return_told p o (tree.set_cell x j e) next h = cc
return_told p o (tree.lock x) next h = cc
return_told p o (tree.unlock x) next h = cc
return_told p o (tree.down x) next h = cc
return_told p o (tree.up x) next h = cc
return_told p o (tree.join e) next h = cc
return_told p o (tree.print e) next h = cc
return_told p o tree.skip next h = cc

return_found : (p : Source) (o : Owner) (s : Simple Expression) (next : TableNode) → is_simple_return s ≡ true → (is_return_kind (simple_kind p s) ≡ true) × (next_simple o s next ≡ n.Start o.out)
return_found p o (return e) next h = (refl, refl)
return_found p o (let_ x r) next h = cc
return_found p o (set x r) next h = cc
return_found p o (Simple.call f es) next h = cc
return_found p o (tree.set_cell x j e) next h = cc
return_found p o (tree.lock x) next h = cc
return_found p o (tree.unlock x) next h = cc
return_found p o (tree.down x) next h = cc
return_found p o (tree.up x) next h = cc
return_found p o (tree.join e) next h = cc
return_found p o (tree.print e) next h = cc
return_found p o tree.skip next h = cc

return_statement : (x : PlaceKind) → is_return_kind x ≡ true → is_statement x ≡ true
return_statement kind.Entry e = cc
return_statement kind.Out e = cc
return_statement kind.Turn e = cc
return_statement kind.Plain e = cc
return_statement kind.Return e = refl
return_statement (kind.Call f) e = cc

-- the row of a statement that stands there is a return's
row_returns : (p : Source) (o : Owner) (i l : ℕ) (x : Body) (next : TableNode) (row : PlaceLinks) → Stand p o i x next → Begins x l → slice_get (program_rows p) i ≡ Some row → is_return_kind row.kind ≡ true
    → (is_return x ≡ true) × (row.behind ≡ n.Start o.out)
row_returns p o i l tree.end next row stand b e c = absurd b
row_returns p o i l (simple m s rest) next row stand b e c =
    let same = same_row row _ (sym e ∙ (simple_here p o i m s rest next stand).0) in
    let r = return_told p o s (first_at rest (suc i) next) (ap (λ (z : PlaceLinks). is_return_kind z.kind) (sym same) ∙ c) in
    (r.0, ap (λ (z : PlaceLinks). z.behind) same ∙ r.1)
row_returns p o i l (if_ m t y z rest) next row stand b e c =
    let same = same_row row _ (sym e ∙ (if_here p o i m t y z rest next stand).0) in
    let clash : false ≡ true = ap (λ (w : PlaceLinks). is_return_kind w.kind) (sym same) ∙ c in
    cc
row_returns p o i l (while_ m t y rest) next row stand b e c =
    let same = same_row row _ (sym e ∙ (while_here p o i m t y rest next stand).0) in
    let clash : false ≡ true = ap (λ (w : PlaceLinks). is_return_kind w.kind) (sym same) ∙ c in
    cc

returns_row : (p : Source) (o : Owner) (i k : ℕ) (x : Body) (next : TableNode) → Stand p o i x next → is_return x ≡ true → o.out ≡ k → meets_at (is_out k) (program_rows p) i ≡ true
returns_row p o i k tree.end next stand r e = cc
returns_row p o i k (simple m s rest) next stand r e =
    let t = return_found p o s (first_at rest (suc i) next) r in
    ap (test_if (is_out k) i) (simple_here p o i m s rest next stand).0
    ∙ and_true (is_return_kind (simple_kind p s)) (node_number (next_simple o s (first_at rest (suc i) next)) == k) t.0 (ap (λ (z : TableNode). node_number z == k) t.1 ∙ eq-eqb o.out k e)
returns_row p o i k (if_ m t y z rest) next stand r e = cc
returns_row p o i k (while_ m t y rest) next stand r e = cc

-- a return is a statement of its own, or stands among the others
nested : (x z : Body) → IsAlone x → is_return z ≡ true → 1 < place_count x → Contains (statements x) z → Contains (others (statements x)) z
nested tree.end z a r many c = absurd a
nested (simple l s rest) z a r many c = let none = no_places rest a in absurd (omega (arith, none, many))
nested (if_ l t y w rest) z a r many c =
    either_of (contains_cases (if_ l t y w tree.end) z (statements y ++ (statements w ++ statements rest)) c) (λ e. let clash : false ≡ true = ap is_return e ∙ r in cc) (λ d. d)
nested (while_ l t y rest) z a r many c =
    either_of (contains_cases (while_ l t y tree.end) z (statements y ++ statements rest) c) (λ e. let clash : false ≡ true = ap is_return e ∙ r in cc) (λ d. d)

-- and doesn't stand at the place of the outer one
apart : (p : Source) (o : Owner) (j i l : ℕ) (x z : Body) (next after : TableNode) → IsAlone x → Contains (others (statements x)) z → is_return z ≡ true → Begins z l → Stand p o j x next → Stand p o i z after → i ≡ j → ⊥
apart p o j i l tree.end z next after a c r b h g e = a
apart p o j i l (simple m s rest) z next after a c r b h g e = let P : Body → Type 0 = λ w. Contains (statements w) z in no_member z (subst P a c)
apart p o j i l (if_ m t y w rest) z next after a c r b h g e =
    let out_row = returns_row p o i o.out z after g r refl in
    let own = ap (test_if (is_out o.out) i) (ap (slice_get (program_rows p)) e ∙ (if_here p o j m t y w rest next h).0) in
    let clash : false ≡ true = sym own ∙ out_row in
    cc
apart p o j i l (while_ m t y rest) z next after a c r b h g e =
    let out_row = returns_row p o i o.out z after g r refl in
    let own = ap (test_if (is_out o.out) i) (ap (slice_get (program_rows p)) e ∙ (while_here p o j m t y rest next h).0) in
    let clash : false ≡ true = sym own ∙ out_row in
    cc

return_line : (x : Body) → is_return x ≡ true → (l : ℕ) × Begins x l
return_line tree.end e = cc
return_line (simple l s rest) e = (l, refl)
return_line (if_ l t a b rest) e = cc
return_line (while_ l t a rest) e = cc

pub run_returns : (p : Source) (o : Owner) (g j k m : ℕ) (x : Body) (next : TableNode) (y : Place) → KeepsRules p → o.number ≡ g → place_at p o.out ≡ Some (out g) → Stand p o j x next → IsAlone x → m ≡ place_count x - 1
    → place_at p k ≡ Some y → (any_run (is_out k) (program_rows p) (suc j) m ≡ true) ↔ ((has_return x ≡ true) × (y ≡ out g))
run_returns p o g j k m x next y rules number last stand by_itself count at = (told, found)
  where
    by_row : (i : ℕ) → suc j ≤ i → i < suc j + m → (z : Option PlaceLinks) → slice_get (program_rows p) i ≡ z → test_if (is_out k) i z ≡ true → (has_return x ≡ true) × (y ≡ out g)
    by_row i low high None e t = cc
    by_row i low high (Some row) e t =
        let parts = and_parts (is_return_kind row.kind) (node_number row.behind == k) t in
        let there = statement_place p i row e (return_statement row.kind parts.0) in
        let s = statement_at p o j x next i there.0 stand (omega (arith, low)) (omega (arith, low, high, count)) there.1 in
        let r = row_returns p o i there.0 s.statement s.next row s.stand s.line e parts.0 in
        let inner = nested x s.statement by_itself r.0 (omega (arith, low, high, count)) s.there in
        let same : o.out ≡ k = ap node_number (sym r.1) ∙ eqb-true (node_number row.behind) k parts.1 in
        (any_contains is_return (others (statements x)) s.statement inner r.0, same_some y (out g) (sym at ∙ (ap (place_at p) (sym same) ∙ last)))

    told : any_run (is_out k) (program_rows p) (suc j) m ≡ true → (has_return x ≡ true) × (y ≡ out g)
    told e = let r = run_found (is_out k) (program_rows p) (suc j) m e in by_row r.0 r.1.0.0 r.1.0.1 (slice_get (program_rows p) r.0) refl r.1.1

    found : (has_return x ≡ true) × (y ≡ out g) → any_run (is_out k) (program_rows p) (suc j) m ≡ true
    found h =
        let some = any_found is_return (others (statements x)) h.0 in
        let line = return_line some.0 some.1.1 in
        let s = statement_stands p o j x next some.0 line.0 stand (others_in (statements x) some.0 some.1.0) line.1 in
        let from = s.from in
        let before = s.before in
        let other : s.number ≡ j → ⊥ = apart p o j s.number line.0 x some.0 next s.next by_itself some.1.0 some.1.1 line.1 stand s.stand in
        let same : o.out ≡ k = same_number p o.out k (out g) rules last (at ∙ ap Some h.1) in
        run_there (is_out k) (program_rows p) (suc j) m s.number (omega (arith, from, other)) (omega (arith, before, count)) (returns_row p o s.number k some.0 s.next s.stand some.1.1 same)

-- What is unsafe at the statements of events

abbrev pub IsEventPlace : Source → Plan → Place → Type 0
IsEventPlace p f y =
    (m : ℕ) × ((w : Watch) × ((l : ℕ) × ((g : ℕ) × ((x : Body) × ((watch_at f m ≡ Some w) × ((w.site ≡ statement l) × (IsStatement p g l x
    × (Contains (body_places x) y ⊎ ((has_return x ≡ true) × (y ≡ out g))))))))))

pub event_place : (p : Source) (f : Plan) (k : ℕ) (y : Place) → KeepsRules p → place_at p k ≡ Some y → (any_meets (makes_unsafe p f (program_rows p) k) 0 (program_rows p) ≡ true) ↔ IsEventPlace p f y
event_place p f k y rules at = (told, found)
  where
    rows : List PlaceLinks
    rows = program_rows p

    told : any_meets (makes_unsafe p f rows k) 0 rows ≡ true → IsEventPlace p f y
    told e =
        let some = any_found_all (makes_unsafe p f rows k) rows e in
        let j : ℕ = some.0 in
        let row : PlaceLinks = some.1.0 in
        let parts = and_parts (has_event p f j row) (is_unsafe_at rows j row.end k) some.1.1.1 in
        let s = event_stand p f j row some.1.1.0 parts.0 in
        let long = row_end p s.owner j s.body s.next row s.stand s.alone_is some.1.1.0 in
        let P : ℕ → Type 0 = λ z. is_between j z k ≡ true in
        let place : Contains (body_places s.body) y ⊎ ((has_return s.body ≡ true) × (y ≡ out s.number)) =
        either_of (or_cases (is_between j row.end k) (any_run (is_out k) rows (suc j) (row.end - suc j)) parts.1)
        (λ i. inl ((run_places p s.owner j k s.body s.next y rules s.stand at).0 (subst P long i)))
        (λ i. inr ((run_returns p s.owner s.number j k (row.end - suc j) s.body s.next y rules s.owner_is s.last s.stand s.alone_is (omega (arith, long)) at).0 i)) in
        (s.event, (s.watch, (s.line, (s.number, (s.body, (s.is, (s.site, (s.there, place))))))))

    found : IsEventPlace p f y → any_meets (makes_unsafe p f rows k) 0 rows ≡ true
    found t =
        let x : Body = t.1.1.1.1.0 in
        let s = event_row p f t.0 t.1.1.0 t.1.1.1.0 t.1.0 x t.1.1.1.1.1.0 t.1.1.1.1.1.1.0 t.1.1.1.1.1.1.1.0 in
        let j : ℕ = s.0 in
        let row : PlaceLinks = s.1.0 in
        let o : Owner = s.1.1.1.1.0 in
        let next : TableNode = s.1.1.1.1.1.0 in
        let stand : Stand p o j x next = s.1.1.1.1.1.1.1.1.0 in
        let by_itself : IsAlone x = s.1.1.1.1.1.1.1.1.1 in
        let long = row_end p o j x next row stand by_itself s.1.1.0 in
        let P : ℕ → Type 0 = λ z. is_between j z k ≡ true in
        any_there_all (makes_unsafe p f rows k) rows j row s.1.1.0
        (and_true (has_event p f j row) (is_unsafe_at rows j row.end k) s.1.1.1.0
        (either_of t.1.1.1.1.1.1.1.1
        (λ c. or_left (is_between j row.end k) (any_run (is_out k) rows (suc j) (row.end - suc j)) (subst P (sym long) ((run_places p o j k x next y rules stand at).1 c)))
        (λ c. or_right (is_between j row.end k) (any_run (is_out k) rows (suc j) (row.end - suc j))
        ((run_returns p o t.1.1.1.0 j k (row.end - suc j) x next y rules s.1.1.1.1.1.1.0 s.1.1.1.1.1.1.1.0 stand by_itself (omega (arith, long)) at).1 c))))
