-- What lies inside a region between events, from the paths in the table.
use Rattle.std.proofs.Common.{ℕ, zero, suc, ◌<◌, ◌≡◌, ◌==◌, ◌⊎◌, ◌↔◌, inl, inr, Bool, true, false, ◌&&◌, ◌||◌, List, [], ◌∷◌, ◌++◌, length, slice_get, Option, Some, None, refl, sym, ap, subst, ◌∙◌, arith, eqb-true, eq-eqb}
use Rattle.std.specs.List.{Contains}
use Rattle.std.proofs.lemmas.Option.{slice_get_within}
use Rattle.std.proofs.lemmas.List.Elements.{Contains-append_cases}
use Rattle.loom_tree.specs.Tree.{Body, simple, if_, while_, Function, Source}
use Rattle.loom_tree.specs.Tree as tree
use Rattle.loom_lang.specs.Rules.{KeepsRules}
use Rattle.loom_lang.specs.Places.{Place, nowhere, entry, inside, back_edge, out, body_places, places, place_at}
use Rattle.loom_trace.specs.Places.{has_place}
use Rattle.loom_law.specs.Filter.{between, Plan, has}
use Rattle.loom_law.specs.Paths.{Node, begins, complete, turns, leaves, IsStatement, statements_of, called_by, CallsFunction, Reaches, places_in, places_of, watch_at, Comes}
use Rattle.loom_law.specs.Paths as path
use Rattle.loom_law.specs.FilterRefusal.{ComesInside, LiesIn, CallsFrom, BeginsInside}
use Rattle.loom_law.proofs.Course.{contains_first, contains_cases, no_member}
use Rattle.loom_law.proofs.Matches.{has_member, member_has}
use Rattle.loom_law.proofs.Holdings.{either_of, or_cases, or_left, or_right}
use Rattle.loom_plan.specs.Sets.{event_numbers}
use Rattle.loom_plan.proofs.Walks.{function_within}
use Rattle.loom_plan.proofs.Rows.{get_some}
use Rattle.loom_sites.specs.declared.node.TableNode.{TableNode}
use Rattle.loom_sites.specs.declared.node.TableNode.TheVariants as n
use Rattle.loom_sites.specs.declared.links.PlaceKind.TheVariants as kind
use Rattle.loom_sites.specs.declared.links.PlaceLinks.{PlaceLinks}
use Rattle.loom_sites.specs.declared.links.Owner.{Owner}
use Rattle.loom_sites.specs.declared.reach.NodeSet.{NodeSet}
use Rattle.loom_sites.specs.declared.area.AreaContents.{AreaContents}
use Rattle.loom_sites.specs.Nodes.{node_number, IsNode}
use Rattle.loom_sites.specs.Links.{is_call_of, frame_row, program_rows, out_behind}
use Rattle.loom_sites.specs.Rows.{test_if, any_meets}
use Rattle.loom_sites.specs.Reach.{HasPathTo, has_node}
use Rattle.loom_sites.specs.Reach as reach
use Rattle.loom_sites.specs.Functions.{has_function, IsReachedFrom, one, through, calls_there, lies_there}
use Rattle.loom_sites.specs.Events.{watched_at, calls_here}
use Rattle.loom_sites.specs.Areas.{has_inside, TellsContents}
use Rattle.loom_sites.proofs.Passes.{any_found_all, any_there_all}
use Rattle.loom_sites.proofs.Watches.{event_told, event_found, frame_told, frame_found, none_told}
use Rattle.loom_sites.proofs.Stands.{Stand, function_stands, place_in_function}
use Rattle.loom_sites.proofs.Ways.{start_node}
use Rattle.loom_sites.proofs.RowPlaces.{program_aligned, row_place, statement_place, statement_stands}
use Rattle.loom_sites.proofs.Courses.{same_number, AreStarts, AreHalts, IsFoundPath, comes_found, IsTold, start_told, comes_told}
use Rattle.loom_sites.proofs.Owners.{IsOwned, owned_in, place_in}
use Rattle.loom_sites.proofs.EventPlaces.{IsOwnerOf, statement_owner, call_statement, row_calls, calls_row}

-- what the passes over the table have found for a region between events
pub record IsGathered (p : Source) (f : Plan) (es xs starts halts : List ℕ) (r : NodeSet) (direct : ℕ) (x : AreaContents) : Type 0 where
  pub rules : KeepsRules p
  pub starts_are : AreStarts p f es starts
  pub halts_are : AreHalts p f xs halts
  pub reached : (m : TableNode) → (has_node r m ≡ true) ↔ HasPathTo (program_rows p) starts halts m
  pub directly : (g : ℕ) → has_function direct g ≡ any_meets (calls_there r.starts g) 0 (program_rows p)
  pub calls : (g : ℕ) → (has_function x.calls g ≡ true) ↔ IsReachedFrom p direct g
  pub functions : (g : ℕ) → has_function x.functions g ≡ any_meets (lies_there starts g) 0 (program_rows p)
  pub events : (m : ℕ) → has (event_numbers x.events) m ≡ any_meets (has_inside p f r.starts x.calls m) 0 (program_rows p)

and_parts : (a b : Bool) → (a && b) ≡ true → (a ≡ true) × (b ≡ true)
and_parts true b h = (refl, h)
and_parts false b h = cc

and_true : (a b : Bool) → a ≡ true → b ≡ true → (a && b) ≡ true
and_true true b h g = g
and_true false b h g = cc

same_row : (a b : PlaceLinks) → Some a ≡ Some b → a ≡ b
same_row a b e = cc

-- Where a statement of a function stands

pub record IsNumbered (p : Source) (g l : ℕ) (x : Body) : Type 0 where
  pub number : ℕ
  pub place : place_at p number ≡ Some (inside l)
  pub owned : IsOwned p g number (inside l)
  pub owner : Owner
  pub next : TableNode
  pub stand : Stand p owner number x next

pub statement_number : (p : Source) (g l : ℕ) (x : Body) → IsStatement p g l x → IsNumbered p g l x
statement_number p g l x h =
    let s = function_stands p g h.function h.is in
    let o : Owner = record { number = g; out = out_behind s.0 h.function } in
    let at = statement_stands p o (suc s.0) (Function.body h.function) (n.Start (out_behind s.0 h.function)) x l s.1.body h.there h.line in
    let from = at.from in
    let before = at.before in
    record {
      number = at.number;
      place = at.place;
      owned = owned_in p g s.0 at.number h.function (inside l) s.1 (omega (arith, from)) (omega (arith, before));
      owner = o;
      next = at.next;
      stand = at.stand;
    }

-- the statement of a place is of the function of its row
pub owner_function : (p : Source) (k l : ℕ) (row : PlaceLinks) → KeepsRules p → place_at p k ≡ Some (inside l) → slice_get (program_rows p) k ≡ Some row → (o : IsOwnerOf p k l) → row.function ≡ o.number
owner_function p k l row rules at e o =
    let t = statement_number p o.number l o.statement o.there in
    let P : ℕ → Type 0 = λ z. IsOwned p o.number z (inside l) in
    let own = subst P (same_number p t.number k (inside l) rules t.place at) t.owned in
    ap (λ (z : PlaceLinks). z.function) (same_row row own.row (sym e ∙ own.is)) ∙ own.function

-- what is told of a node lies in the function of its row
told_function : (p : Source) (f : Plan) (es xs : List ℕ) (i : TableNode) (row : PlaceLinks) → (t : IsTold p f es xs i) → slice_get (program_rows p) (node_number i) ≡ Some row → row.function ≡ t.number
told_function p f es xs i row t e =
    let from = t.from in
    let own = owned_in p t.number t.first (node_number i) t.function nowhere t.stand (omega (arith, from)) t.to in
    ap (λ (z : PlaceLinks). z.function) (same_row row own.row (sym e ∙ own.is)) ∙ own.function

-- The functions in which it lies

lies_told : (p : Source) (f : Plan) (es xs starts halts : List ℕ) (r : NodeSet) (direct : ℕ) (x : AreaContents) → IsGathered p f es xs starts halts r direct x → (g : ℕ) → has_function x.functions g ≡ true
    → (g < length p.funcs) × LiesIn p f (between es xs) g
lies_told p f es xs starts halts r direct x z g e =
    let some = any_found_all (lies_there starts g) (program_rows p) (sym (z.functions g) ∙ e) in
    let k : ℕ = some.0 in
    let row : PlaceLinks = some.1.0 in
    let parts = and_parts (has_place starts k) (row.function == g) some.1.1.1 in
    let s = (z.starts_are k).0 parts.0 in
    let t = start_told p f es xs k s.0 s.1.1.0 s.1.1.1.0 s.1.1.1.1 s.1.0 in
    let number : t.number ≡ g = sym (told_function p f es xs (n.Start k) row t some.1.1.0) ∙ eqb-true row.function g parts.1 in
    let P : ℕ → Type 0 = λ m. (m < length p.funcs) × LiesIn p f (between es xs) m in
    subst P number (slice_get_within p.funcs t.number t.function t.of_number, (t.node, t.inside))

-- an entry event's statement is a start
entry_start : (p : Source) (f : Plan) (es xs starts : List ℕ) (g : ℕ) (node : Node) → AreStarts p f es starts → (c : ComesInside p f es xs g node) → (t : IsNumbered p g c.line (ComesInside.there c).0) × (has_place starts t.number ≡ true)
entry_start p f es xs starts g node s c =
    let t = statement_number p g c.line c.there.0 c.there.1 in
    (t, (s t.number).1 (c.line, (t.place, (c.event, (c.one, (c.watch, (c.is, c.site)))))))

lies_found : (p : Source) (f : Plan) (es xs starts halts : List ℕ) (r : NodeSet) (direct : ℕ) (x : AreaContents) → IsGathered p f es xs starts halts r direct x → (g : ℕ) → LiesIn p f (between es xs) g → has_function x.functions g ≡ true
lies_found p f es xs starts halts r direct x z g h =
    let t = entry_start p f es xs starts g h.0 z.starts_are h.1 in
    z.functions g
    ∙ any_there_all (lies_there starts g) (program_rows p) t.0.number t.0.owned.row t.0.owned.is
    (and_true (has_place starts t.0.number) (t.0.owned.row.function == g) t.1 (eq-eqb t.0.owned.row.function g t.0.owned.function))

-- Each node inside is reached

pub inside_path : (p : Source) (f : Plan) (es xs starts halts : List ℕ) (g : ℕ) (node : Node) → KeepsRules p → AreStarts p f es starts → AreHalts p f xs halts → ComesInside p f es xs g node → IsFoundPath p starts halts g node
inside_path p f es xs starts halts g node rules s a c =
    let t = entry_start p f es xs starts g node s c in
    let st = function_stands p g c.function c.of_number in
    let low = slice_get_within (program_rows p) t.0.number t.0.owned.row t.0.owned.is in
    comes_found p f xs starts halts g st.0 c.function (begins c.line) node rules st.1 a (record { node = n.Start t.0.number; is = t.0.place; path = reach.from low t.1 }) c.comes

-- a statement that begins inside
begins_start : (p : Source) (f : Plan) (es xs starts halts : List ℕ) (r : NodeSet) (direct : ℕ) (x : AreaContents) → IsGathered p f es xs starts halts r direct x → (g l k : ℕ) → ComesInside p f es xs g (begins l) → place_at p k ≡ Some (inside l)
    → has_place r.starts k ≡ true
begins_start p f es xs starts halts r direct x z g l k c at = by_node (inside_path p f es xs starts halts g (begins l) z.rules z.starts_are z.halts_are c)
  where
    by_kind : (i : TableNode) → IsNode p g i (begins l) → HasPathTo (program_rows p) starts halts i → has_place r.starts k ≡ true
    by_kind (n.Start m) is h =
        let same : m ≡ k = same_number p m k (inside l) z.rules is at in
        let P : ℕ → Type 0 = λ q. has_place r.starts q ≡ true in
        subst P same ((z.reached (n.Start m)).1 h)
    by_kind (n.Complete m) is h = absurd is

    by_node : IsFoundPath p starts halts g (begins l) → has_place r.starts k ≡ true
    by_node h = by_kind h.node h.is h.path

-- and a start that was reached is one
start_inside : (p : Source) (f : Plan) (es xs starts halts : List ℕ) (r : NodeSet) (direct : ℕ) (x : AreaContents) → IsGathered p f es xs starts halts r direct x → (k l : ℕ) → has_place r.starts k ≡ true → place_at p k ≡ Some (inside l)
    → (t : IsTold p f es xs (n.Start k)) × ComesInside p f es xs t.number (begins l)
start_inside p f es xs starts halts r direct x z k l e at =
    let t = comes_told p f es xs starts halts (n.Start k) z.rules z.starts_are z.halts_are ((z.reached (n.Start k)).0 e) in
    let P : Node → Type 0 = λ m. ComesInside p f es xs t.number m in
    (t, subst P (start_node p t.number k l t.node t.is at) t.inside)

-- Calls

direct_told : (p : Source) (f : Plan) (es xs starts halts : List ℕ) (r : NodeSet) (direct : ℕ) (x : AreaContents) → IsGathered p f es xs starts halts r direct x → (g : ℕ) → has_function direct g ≡ true → CallsFrom p f (between es xs) g
direct_told p f es xs starts halts r direct x z g e =
    let some = any_found_all (calls_there r.starts g) (program_rows p) (sym (z.directly g) ∙ e) in
    let k : ℕ = some.0 in
    let row : PlaceLinks = some.1.0 in
    let parts = and_parts (has_place r.starts k) (is_call_of g row.kind) some.1.1.1 in
    let at = statement_place p k row some.1.1.0 (call_statement g row.kind parts.1) in
    let s = start_inside p f es xs starts halts r direct x z k at.0 parts.0 at.1 in
    let o = statement_owner p k at.0 at.1 in
    let c = row_calls p o.owner k at.0 o.statement o.next g row o.stand o.there.line some.1.1.0 parts.1 in
    let number : o.number ≡ s.0.number = sym (owner_function p k at.0 row z.rules at.1 some.1.1.0 o) ∙ told_function p f es xs (n.Start k) row s.0 some.1.1.0 in
    let P : ℕ → Type 0 = λ m. IsStatement p m at.0 o.statement in
    (s.0.number, (at.0, (o.statement, (s.1, (subst P number o.there, path.calls (record { statement = o.statement; there = contains_first o.statement []; name = c.0; calls = c.1.0; number = c.1.1 }))))))

call_told : (p : Source) (f : Plan) (es xs starts halts : List ℕ) (r : NodeSet) (direct : ℕ) (x : AreaContents) → IsGathered p f es xs starts halts r direct x → (g : ℕ) → IsReachedFrom p direct g → CallsFrom p f (between es xs) g
call_told p f es xs starts halts r direct x z g (one h) = direct_told p f es xs starts halts r direct x z g h
call_told p f es xs starts halts r direct x z g (through {f = u} h c) =
    let t = call_told p f es xs starts halts r direct x z u h in
    (t.0, (t.1.0, (t.1.1.0, (t.1.1.1.0, (t.1.1.1.1.0, path.through t.1.1.1.1.1 c)))))

direct_found : (p : Source) (f : Plan) (es xs starts halts : List ℕ) (r : NodeSet) (direct : ℕ) (x : AreaContents) → IsGathered p f es xs starts halts r direct x → (g l : ℕ) (b : Body) → ComesInside p f es xs g (begins l) → IsStatement p g l b
    → (h : ℕ) → CallsFunction p (b ∷ []) h → has_function direct h ≡ true
direct_found p f es xs starts halts r direct x z g l b c s h k =
    let t = statement_number p g l b s in
    let same : b ≡ k.statement = either_of (contains_cases b k.statement [] k.there) (λ e. e) (λ d. absurd (no_member k.statement d)) in
    let calls = calls_row p t.owner t.number b t.next h t.stand (k.name, (ap called_by same ∙ k.calls, k.number)) in
    z.directly h
    ∙ any_there_all (calls_there r.starts h) (program_rows p) t.number t.owned.row t.owned.is
    (and_true (has_place r.starts t.number) (is_call_of h t.owned.row.kind) (begins_start p f es xs starts halts r direct x z g l t.number c t.place) (sym (ap (test_if (calls_here h) t.number) t.owned.is) ∙ calls))

call_found : (p : Source) (f : Plan) (es xs starts halts : List ℕ) (r : NodeSet) (direct : ℕ) (x : AreaContents) → IsGathered p f es xs starts halts r direct x → (g l : ℕ) (b : Body) → ComesInside p f es xs g (begins l) → IsStatement p g l b
    → (h : ℕ) → Reaches p (b ∷ []) h → IsReachedFrom p direct h
call_found p f es xs starts halts r direct x z g l b c s h (path.calls k) = one (direct_found p f es xs starts halts r direct x z g l b c s h k)
call_found p f es xs starts halts r direct x z g l b c s h (path.through {g = u} q k) = through (call_found p f es xs starts halts r direct x z g l b c s u q) k

-- Events

-- no node is at an entry place
no_node : (p : Source) (g k q : ℕ) (m : Node) → IsNode p g (n.Start k) m → place_at p k ≡ Some (entry q) → ⊥
no_node p g k q (begins l) is at = let clash : Some (inside l) ≡ Some (entry q) = sym is ∙ at in cc
no_node p g k q (turns l) is at = let clash : Some (back_edge l) ≡ Some (entry q) = sym is ∙ at in cc
no_node p g k q leaves is at = let clash : Some (out g) ≡ Some (entry q) = sym is ∙ at in cc
no_node p g k q (complete l) is at = is

-- a function has one entry place
no_entry : (b : Body) (g : ℕ) → Contains (body_places b) (entry g) → ⊥
no_entry tree.end g c = no_member (entry g) c
no_entry (simple l s rest) g c = either_of (contains_cases (inside l) (entry g) (body_places rest) c) (λ e. cc) (λ d. no_entry rest g d)
no_entry (if_ l t a b rest) g c =
    either_of (contains_cases (inside l) (entry g) (body_places a ++ (body_places b ++ body_places rest)) c) (λ e. cc)
    (λ d. either_of (Contains-append_cases (body_places a) (body_places b ++ body_places rest) (entry g) d) (λ i. no_entry a g i)
    (λ i. either_of (Contains-append_cases (body_places b) (body_places rest) (entry g) i) (λ j. no_entry b g j) (λ j. no_entry rest g j)))
no_entry (while_ l t a rest) g c =
    either_of (contains_cases (inside l) (entry g) (back_edge l ∷ (body_places a ++ body_places rest)) c) (λ e. cc)
    (λ d. either_of (contains_cases (back_edge l) (entry g) (body_places a ++ body_places rest) d) (λ e. cc)
    (λ i. either_of (Contains-append_cases (body_places a) (body_places rest) (entry g) i) (λ j. no_entry a g j) (λ j. no_entry rest g j)))

own_entry : (p : Source) (h g : ℕ) (o : Option Function) → Contains (places_in h o) (entry g) → h ≡ g
own_entry p h g None c = absurd (no_member (entry g) c)
own_entry p h g (Some f) c =
    either_of (contains_cases (entry h) (entry g) (body_places f.body ++ out h ∷ []) c) (λ e. same_entry e)
    (λ d. either_of (Contains-append_cases (body_places f.body) (out h ∷ []) (entry g) d) (λ i. absurd (no_entry f.body g i))
    (λ i. either_of (contains_cases (out h) (entry g) [] i) (λ e. cc) (λ j. absurd (no_member (entry g) j))))
  where
    same_entry : entry h ≡ entry g → h ≡ g
    same_entry e = cc

pub reaches_within : (p : Source) (xs : List Body) (g : ℕ) → Reaches p xs g → g < length p.funcs
reaches_within p xs g (path.calls c) = function_within p c.name g c.number
reaches_within p xs g (path.through r c) = function_within p c.name g c.number

-- the row of an entry place is of its function
pub entry_function : (p : Source) (k g : ℕ) (row : PlaceLinks) → KeepsRules p → place_at p k ≡ Some (entry g) → slice_get (program_rows p) k ≡ Some row → row.function ≡ g
entry_function p k g row rules at e =
    let r = place_in_function p k (positive k at) (slice_get_within (places p) k (entry g) at) in
    let own = owned_in p r.number r.first k r.function (entry g) r.stand r.from r.to in
    let there = place_in p r.number r.first k r.function (entry g) r.is r.stand r.from r.to at in
    ap (λ (z : PlaceLinks). z.function) (same_row row own.row (sym e ∙ own.is)) ∙ (own.function ∙ own_entry p r.number g (slice_get p.funcs r.number) there)
  where
    positive : (i : ℕ) → place_at p i ≡ Some (entry g) → 0 < i
    positive zero q = cc
    positive (suc i) q = omega arith

event_inside : (p : Source) (f : Plan) (es xs starts halts : List ℕ) (r : NodeSet) (direct : ℕ) (x : AreaContents) → IsGathered p f es xs starts halts r direct x → (m : ℕ) → has (event_numbers x.events) m ≡ true → BeginsInside p f (between es xs) m
event_inside p f es xs starts halts r direct x z m e =
    let some = any_found_all (has_inside p f r.starts x.calls m) (program_rows p) (sym (z.events m) ∙ e) in
    let row : PlaceLinks = some.1.0 in
    let parts = and_parts (has_place r.starts some.0 || has_function x.calls row.function) (has (watched_at p f some.0) m) some.1.1.1 in
    let y = row_place (program_rows p) (places p) some.0 row (program_aligned p) some.1.1.0 in
    by_place some.0 row some.1.1.0 (or_cases (has_place r.starts some.0) (has_function x.calls row.function) parts.0) (has_member (watched_at p f some.0) m parts.1) y.0 y.1.0
  where
    by_place : (k : ℕ) (row : PlaceLinks) → slice_get (program_rows p) k ≡ Some row → (has_place r.starts k ≡ true) ⊎ (has_function x.calls row.function ≡ true) → Contains (watched_at p f k) m
        → (y : Place) → place_at p k ≡ Some y → BeginsInside p f (between es xs) m
    by_place k row is h c nowhere at = absurd (none_told p f k m nowhere at refl c)
    by_place k row is h c (back_edge l) at = absurd (none_told p f k m (back_edge l) at refl c)
    by_place k row is h c (out g) at = absurd (none_told p f k m (out g) at refl c)
    by_place k row is (inl h) c (entry g) at =
        let t = comes_told p f es xs starts halts (n.Start k) z.rules z.starts_are z.halts_are ((z.reached (n.Start k)).0 h) in
        absurd (no_node p t.number k g t.node t.is at)
    by_place k row is (inr h) c (entry g) at =
        let P : ℕ → Type 0 = λ q. CallsFrom p f (between es xs) q in
        inr (g, (frame_told p f k g m at c, inr (subst P (entry_function p k g row z.rules at is) (call_told p f es xs starts halts r direct x z row.function ((z.calls row.function).0 h)))))
    by_place k row is (inl h) c (inside l) at =
        let w = event_told p f k l m at c in
        let s = start_inside p f es xs starts halts r direct x z k l h at in
        let o = statement_owner p k l at in
        let number : s.0.number ≡ o.number = sym (told_function p f es xs (n.Start k) row s.0 is) ∙ owner_function p k l row z.rules at is o in
        let P : ℕ → Type 0 = λ q. ComesInside p f es xs q (begins l) in
        inl (w.0, (l, (o.number, (w.1.0, (w.1.1, ((o.statement, o.there), inl (subst P number s.1)))))))
    by_place k row is (inr h) c (inside l) at =
        let w = event_told p f k l m at c in
        let o = statement_owner p k l at in
        let P : ℕ → Type 0 = λ q. CallsFrom p f (between es xs) q in
        inl (w.0, (l, (o.number, (w.1.0, (w.1.1, ((o.statement, o.there), inr (subst P (owner_function p k l row z.rules at is o) (call_told p f es xs starts halts r direct x z row.function ((z.calls row.function).0 h)))))))))

inside_event : (p : Source) (f : Plan) (es xs starts halts : List ℕ) (r : NodeSet) (direct : ℕ) (x : AreaContents) → IsGathered p f es xs starts halts r direct x → (m : ℕ) → BeginsInside p f (between es xs) m → has (event_numbers x.events) m ≡ true
inside_event p f es xs starts halts r direct x z m (inl h) =
    let l : ℕ = h.1.0 in
    let g : ℕ = h.1.1.0 in
    let s = h.1.1.1.1.1.0 in
    let t = statement_number p g l s.0 s.1 in
    let watched = event_found p f t.number l m t.place (h.0, (h.1.1.1.0, h.1.1.1.1.0)) in
    let there : (has_place r.starts t.number || has_function x.calls t.owned.row.function) ≡ true =
    either_of h.1.1.1.1.1.1 (λ c. or_left (has_place r.starts t.number) (has_function x.calls t.owned.row.function) (begins_start p f es xs starts halts r direct x z g l t.number c t.place))
    (λ c. or_right (has_place r.starts t.number) (has_function x.calls t.owned.row.function)
    (ap (has_function x.calls) t.owned.function ∙ (z.calls g).1 (call_found p f es xs starts halts r direct x z c.0 c.1.0 c.1.1.0 c.1.1.1.0 c.1.1.1.1.0 g c.1.1.1.1.1))) in
    z.events m
    ∙ any_there_all (has_inside p f r.starts x.calls m) (program_rows p) t.number t.owned.row t.owned.is
    (and_true (has_place r.starts t.number || has_function x.calls t.owned.row.function) (has (watched_at p f t.number) m) there (member_has (watched_at p f t.number) m watched))
inside_event p f es xs starts halts r direct x z m (inr h) = either_of h.1.1 (λ c. absurd c) (λ c. in_function c)
  where
    in_function : CallsFrom p f (between es xs) h.0 → has (event_numbers x.events) m ≡ true
    in_function c =
        let g : ℕ = h.0 in
        let some = get_some p.funcs g (reaches_within p (c.1.1.0 ∷ []) g c.1.1.1.1.1) in
        let s = function_stands p g some.0 some.1 in
        let watched = frame_found p f s.0 g m s.1.entry_place h.1.0 in
        let row : PlaceLinks = frame_row kind.Entry s.0 g in
        let calls : has_function x.calls g ≡ true = (z.calls g).1 (call_found p f es xs starts halts r direct x z c.0 c.1.0 c.1.1.0 c.1.1.1.0 c.1.1.1.1.0 g c.1.1.1.1.1) in
        z.events m
        ∙ any_there_all (has_inside p f r.starts x.calls m) (program_rows p) s.0 row s.1.entry_row
        (and_true (has_place r.starts s.0 || has_function x.calls g) (has (watched_at p f s.0) m) (or_right (has_place r.starts s.0) (has_function x.calls g) calls) (member_has (watched_at p f s.0) m watched))

pub between_told : (p : Source) (f : Plan) (es xs starts halts : List ℕ) (r : NodeSet) (direct : ℕ) (x : AreaContents) → IsGathered p f es xs starts halts r direct x → TellsContents p f (between es xs) x
between_told p f es xs starts halts r direct x z = record {
  functions = λ g low. (λ e. (lies_told p f es xs starts halts r direct x z g e).1, lies_found p f es xs starts halts r direct x z g);
  within = λ g e. (lies_told p f es xs starts halts r direct x z g e).0;
  calls = λ g. (λ e. call_told p f es xs starts halts r direct x z g ((z.calls g).0 e), λ h. (z.calls g).1 (call_found p f es xs starts halts r direct x z h.0 h.1.0 h.1.1.0 h.1.1.1.0 h.1.1.1.1.0 g h.1.1.1.1.1));
  events = λ m. (event_inside p f es xs starts halts r direct x z m, inside_event p f es xs starts halts r direct x z m);
}
