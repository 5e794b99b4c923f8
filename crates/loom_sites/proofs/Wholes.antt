-- What lies inside a region that is a function.
use Rattle.std.proofs.Common.{ℕ, ◌<◌, ◌≡◌, ◌==◌, ◌⊎◌, ◌↔◌, inl, inr, Bool, true, false, not, ◌&&◌, ◌||◌, List, length, slice_get, Option, Some, None, refl, sym, ap, subst, ◌∙◌, arith, eqb-true, eq-eqb}
use Rattle.std.specs.List.{Contains}
use Rattle.loom_tree.specs.Tree.{Source}
use Rattle.loom_lang.specs.Rules.{KeepsRules}
use Rattle.loom_lang.specs.Places.{Place, nowhere, entry, inside, back_edge, out, places, place_at}
use Rattle.loom_trace.specs.Places.{has_place}
use Rattle.loom_law.specs.Filter.{Watch, function, whole, Plan, has, is_site}
use Rattle.loom_law.specs.Paths.{IsStatement, statements_of, CallsFunction, Reaches, watch_at}
use Rattle.loom_law.specs.Paths as path
use Rattle.loom_law.specs.FilterRefusal.{IsWholeOf, CallsFrom, BeginsInside}
use Rattle.loom_law.proofs.Matches.{has_member, member_has}
use Rattle.loom_law.proofs.Holdings.{either_of, or_cases, or_left, or_right}
use Rattle.loom_plan.specs.Sets.{event_numbers}
use Rattle.loom_plan.proofs.Rows.{get_some}
use Rattle.loom_sites.specs.declared.links.PlaceKind.{PlaceKind}
use Rattle.loom_sites.specs.declared.links.PlaceKind.TheVariants as kind
use Rattle.loom_sites.specs.declared.links.PlaceLinks.{PlaceLinks}
use Rattle.loom_sites.specs.declared.area.AreaContents.{AreaContents}
use Rattle.loom_sites.specs.Links.{is_entry, is_statement, frame_row, program_rows}
use Rattle.loom_sites.specs.Rows.{test_if, meets_at, any_meets}
use Rattle.loom_sites.specs.Functions.{has_function, IsReachedFrom, one, through}
use Rattle.loom_sites.specs.Events.{watched_at, is_frame_if, is_frame_event}
use Rattle.loom_sites.specs.Areas.{has_inside, is_own, TellsContents}
use Rattle.loom_sites.proofs.Passes.{any_found_all, any_there_all}
use Rattle.loom_sites.proofs.Watches.{event_told, event_found, frame_told, frame_found, none_told, function_site}
use Rattle.loom_sites.proofs.Stands.{function_stands}
use Rattle.loom_sites.proofs.RowPlaces.{program_aligned, row_place, place_row}
use Rattle.loom_sites.proofs.EventPlaces.{statement_owner}
use Rattle.loom_sites.proofs.Regions.{statement_number, owner_function, entry_function, reaches_within}

pub record IsFrame (p : Source) (f : Plan) (m g : ℕ) (own : List ℕ) (direct : ℕ) (x : AreaContents) : Type 0 where
  pub rules : KeepsRules p
  pub whole_of : IsWholeOf f m g
  pub there : g < length p.funcs
  pub own_are : (k : ℕ) → has_place own k ≡ meets_at (is_own g) (program_rows p) k
  pub directly : (h : ℕ) → (has_function direct h ≡ true) ↔ CallsFunction p (statements_of p g) h
  pub calls : (h : ℕ) → (has_function x.calls h ≡ true) ↔ IsReachedFrom p direct h
  pub functions : (h : ℕ) → has_function x.functions h ≡ (g == h)
  pub events : (n : ℕ) → has (event_numbers x.events) n ≡ (is_frame_event f g n || any_meets (has_inside p f own x.calls n) 0 (program_rows p))

and_parts : (a b : Bool) → (a && b) ≡ true → (a ≡ true) × (b ≡ true)
and_parts true b h = (refl, h)
and_parts false b h = cc

and_true : (a b : Bool) → a ≡ true → b ≡ true → (a && b) ≡ true
and_true true b h g = g
and_true false b h g = cc

-- an event is of one function
pub same_function : (f : Plan) (m g h : ℕ) → IsWholeOf f m g → IsWholeOf f m h → g ≡ h
same_function f m g h a b =
    let same : a.0 ≡ b.0 = same_watch a.0 b.0 (sym a.1.0 ∙ b.1.0) in
    same_site (sym a.1.1 ∙ (ap (λ (w : Watch). w.site) same ∙ b.1.1))
  where
    same_watch : (v w : Watch) → Some v ≡ Some w → v ≡ w
    same_watch v w e = cc

    same_site : function (Some g) ≡ function (Some h) → g ≡ h
    same_site e = cc

pub frame_event : (f : Plan) (g n : ℕ) → is_frame_event f g n ≡ true → IsWholeOf f n g
frame_event f g n e = by_watch (watch_at f n) refl e
  where
    by_watch : (o : Option Watch) → watch_at f n ≡ o → is_frame_if g o ≡ true → IsWholeOf f n g
    by_watch None i t = cc
    by_watch (Some w) i t = (w, (i, function_site g w.site t))

pub event_frame : (f : Plan) (g n : ℕ) → IsWholeOf f n g → is_frame_event f g n ≡ true
event_frame f g n h = ap (is_frame_if g) h.1.0 ∙ (ap (is_site (function (Some g))) h.1.1 ∙ eq-eqb g g refl)

-- Calls

call_told : (p : Source) (f : Plan) (m g : ℕ) (own : List ℕ) (direct : ℕ) (x : AreaContents) → IsFrame p f m g own direct x → (h : ℕ) → IsReachedFrom p direct h → Reaches p (statements_of p g) h
call_told p f m g own direct x z h (one e) = path.calls ((z.directly h).0 e)
call_told p f m g own direct x z h (through {f = u} r c) = path.through (call_told p f m g own direct x z u r) c

call_found : (p : Source) (f : Plan) (m g : ℕ) (own : List ℕ) (direct : ℕ) (x : AreaContents) → IsFrame p f m g own direct x → (h : ℕ) → Reaches p (statements_of p g) h → IsReachedFrom p direct h
call_found p f m g own direct x z h (path.calls c) = one ((z.directly h).1 c)
call_found p f m g own direct x z h (path.through {g = u} r c) = through (call_found p f m g own direct x z u r) c

calls_told : (p : Source) (f : Plan) (m g : ℕ) (own : List ℕ) (direct : ℕ) (x : AreaContents) → IsFrame p f m g own direct x → (h : ℕ) → has_function x.calls h ≡ true → CallsFrom p f (whole m) h
calls_told p f m g own direct x z h e = (g, (z.whole_of, call_told p f m g own direct x z h ((z.calls h).0 e)))

calls_found : (p : Source) (f : Plan) (m g : ℕ) (own : List ℕ) (direct : ℕ) (x : AreaContents) → IsFrame p f m g own direct x → (h : ℕ) → CallsFrom p f (whole m) h → has_function x.calls h ≡ true
calls_found p f m g own direct x z h c =
    let P : ℕ → Type 0 = λ q. Reaches p (statements_of p q) h in
    (z.calls h).1 (call_found p f m g own direct x z h (subst P (same_function f m c.0 g c.1.0 z.whole_of) c.1.1))

-- Its own places

own_told : (p : Source) (f : Plan) (m g : ℕ) (own : List ℕ) (direct : ℕ) (x : AreaContents) → IsFrame p f m g own direct x → (k : ℕ) (row : PlaceLinks) → slice_get (program_rows p) k ≡ Some row → has_place own k ≡ true
    → (row.function ≡ g) × (is_entry row.kind ≡ false)
own_told p f m g own direct x z k row is e =
    let parts = and_parts (row.function == g) (not (is_entry row.kind)) (sym (z.own_are k ∙ ap (test_if (is_own g) k) is) ∙ e) in
    (eqb-true row.function g parts.0, not_true (is_entry row.kind) parts.1)
  where
    not_true : (b : Bool) → not b ≡ true → b ≡ false
    not_true true h = cc
    not_true false h = refl

statement_own : (p : Source) (f : Plan) (m g : ℕ) (own : List ℕ) (direct : ℕ) (x : AreaContents) → IsFrame p f m g own direct x → (k l : ℕ) (row : PlaceLinks) → slice_get (program_rows p) k ≡ Some row → place_at p k ≡ Some (inside l)
    → row.function ≡ g → has_place own k ≡ true
statement_own p f m g own direct x z k l row is at e =
    let found = place_row (program_rows p) (places p) k (inside l) (program_aligned p) at in
    let same : found.0 ≡ row = same_row found.0 row (sym found.1.0 ∙ is) in
    let statement_is : is_statement row.kind ≡ true = ap (λ (w : PlaceLinks). is_statement w.kind) (sym same) ∙ found.1.1 in
    z.own_are k ∙ (ap (test_if (is_own g) k) is ∙ and_true (row.function == g) (not (is_entry row.kind)) (eq-eqb row.function g e) (no_entry_kind row.kind statement_is))
  where
    same_row : (a b : PlaceLinks) → Some a ≡ Some b → a ≡ b
    same_row a b q = cc

    no_entry_kind : (y : PlaceKind) → is_statement y ≡ true → not (is_entry y) ≡ true
    no_entry_kind kind.Entry q = cc
    no_entry_kind kind.Out q = refl
    no_entry_kind kind.Turn q = refl
    no_entry_kind kind.Plain q = refl
    no_entry_kind kind.Return q = refl
    no_entry_kind (kind.Call h) q = refl

-- Events

event_inside : (p : Source) (f : Plan) (m g : ℕ) (own : List ℕ) (direct : ℕ) (x : AreaContents) → IsFrame p f m g own direct x → (n : ℕ) → has (event_numbers x.events) n ≡ true → BeginsInside p f (whole m) n
event_inside p f m g own direct x z n e =
    either_of (or_cases (is_frame_event f g n) (any_meets (has_inside p f own x.calls n) 0 (program_rows p)) (sym (z.events n) ∙ e)) (λ i. inr (g, (frame_event f g n i, inl z.whole_of))) at_place
  where
    by_place : (k : ℕ) (row : PlaceLinks) → slice_get (program_rows p) k ≡ Some row → (has_place own k ≡ true) ⊎ (has_function x.calls row.function ≡ true) → Contains (watched_at p f k) n
        → (y : Place) → place_at p k ≡ Some y → BeginsInside p f (whole m) n
    by_place k row is h c nowhere at = absurd (none_told p f k n nowhere at refl c)
    by_place k row is h c (back_edge l) at = absurd (none_told p f k n (back_edge l) at refl c)
    by_place k row is h c (out q) at = absurd (none_told p f k n (out q) at refl c)
    by_place k row is (inl h) c (entry q) at =
        let number : q ≡ g = sym (entry_function p k q row z.rules at is) ∙ (own_told p f m g own direct x z k row is h).0 in
        let P : ℕ → Type 0 = λ r. IsWholeOf f n r in
        inr (g, (subst P number (frame_told p f k q n at c), inl z.whole_of))
    by_place k row is (inr h) c (entry q) at =
        let P : ℕ → Type 0 = λ r. CallsFrom p f (whole m) r in
        inr (q, (frame_told p f k q n at c, inr (subst P (entry_function p k q row z.rules at is) (calls_told p f m g own direct x z row.function h))))
    by_place k row is (inl h) c (inside l) at =
        let w = event_told p f k l n at c in
        let o = statement_owner p k l at in
        let number : g ≡ o.number = sym (own_told p f m g own direct x z k row is h).0 ∙ owner_function p k l row z.rules at is o in
        let P : ℕ → Type 0 = λ r. IsWholeOf f m r in
        inl (w.0, (l, (o.number, (w.1.0, (w.1.1, ((o.statement, o.there), inl (subst P number z.whole_of)))))))
    by_place k row is (inr h) c (inside l) at =
        let w = event_told p f k l n at c in
        let o = statement_owner p k l at in
        let P : ℕ → Type 0 = λ r. CallsFrom p f (whole m) r in
        inl (w.0, (l, (o.number, (w.1.0, (w.1.1, ((o.statement, o.there), inr (subst P (owner_function p k l row z.rules at is o) (calls_told p f m g own direct x z row.function h))))))))

    at_place : any_meets (has_inside p f own x.calls n) 0 (program_rows p) ≡ true → BeginsInside p f (whole m) n
    at_place i =
        let some = any_found_all (has_inside p f own x.calls n) (program_rows p) i in
        let row : PlaceLinks = some.1.0 in
        let parts = and_parts (has_place own some.0 || has_function x.calls row.function) (has (watched_at p f some.0) n) some.1.1.1 in
        let y = row_place (program_rows p) (places p) some.0 row (program_aligned p) some.1.1.0 in
        by_place some.0 row some.1.1.0 (or_cases (has_place own some.0) (has_function x.calls row.function) parts.0) (has_member (watched_at p f some.0) n parts.1) y.0 y.1.0

inside_event : (p : Source) (f : Plan) (m g : ℕ) (own : List ℕ) (direct : ℕ) (x : AreaContents) → IsFrame p f m g own direct x → (n : ℕ) → BeginsInside p f (whole m) n → has (event_numbers x.events) n ≡ true
inside_event p f m g own direct x z n (inl h) =
    let l : ℕ = h.1.0 in
    let q : ℕ = h.1.1.0 in
    let s = h.1.1.1.1.1.0 in
    let t = statement_number p q l s.0 s.1 in
    let watched = event_found p f t.number l n t.place (h.0, (h.1.1.1.0, h.1.1.1.1.0)) in
    let there : (has_place own t.number || has_function x.calls t.owned.row.function) ≡ true =
    either_of h.1.1.1.1.1.1
    (λ c. or_left (has_place own t.number) (has_function x.calls t.owned.row.function) (statement_own p f m g own direct x z t.number l t.owned.row t.owned.is t.place (t.owned.function ∙ same_function f m q g c z.whole_of)))
    (λ c. or_right (has_place own t.number) (has_function x.calls t.owned.row.function) (ap (has_function x.calls) t.owned.function ∙ calls_found p f m g own direct x z q c)) in
    z.events n
    ∙ or_right (is_frame_event f g n) (any_meets (has_inside p f own x.calls n) 0 (program_rows p))
    (any_there_all (has_inside p f own x.calls n) (program_rows p) t.number t.owned.row t.owned.is
    (and_true (has_place own t.number || has_function x.calls t.owned.row.function) (has (watched_at p f t.number) n) there (member_has (watched_at p f t.number) n watched)))
inside_event p f m g own direct x z n (inr h) = either_of h.1.1 own_frame in_function
  where
    own_frame : IsWholeOf f m h.0 → has (event_numbers x.events) n ≡ true
    own_frame c =
        let P : ℕ → Type 0 = λ r. IsWholeOf f n r in
        z.events n ∙ or_left (is_frame_event f g n) (any_meets (has_inside p f own x.calls n) 0 (program_rows p)) (event_frame f g n (subst P (same_function f m h.0 g c z.whole_of) h.1.0))

    in_function : CallsFrom p f (whole m) h.0 → has (event_numbers x.events) n ≡ true
    in_function c =
        let q : ℕ = h.0 in
        let some = get_some p.funcs q (reaches_within p (statements_of p c.0) q c.1.1) in
        let s = function_stands p q some.0 some.1 in
        let watched = frame_found p f s.0 q n s.1.entry_place h.1.0 in
        z.events n
        ∙ or_right (is_frame_event f g n) (any_meets (has_inside p f own x.calls n) 0 (program_rows p))
        (any_there_all (has_inside p f own x.calls n) (program_rows p) s.0 (frame_row kind.Entry s.0 q) s.1.entry_row
        (and_true (has_place own s.0 || has_function x.calls q) (has (watched_at p f s.0) n) (or_right (has_place own s.0) (has_function x.calls q) (calls_found p f m g own direct x z q c)) (member_has (watched_at p f s.0) n watched)))

pub frame_contents : (p : Source) (f : Plan) (m g : ℕ) (own : List ℕ) (direct : ℕ) (x : AreaContents) → IsFrame p f m g own direct x → TellsContents p f (whole m) x
frame_contents p f m g own direct x z = record {
  functions = λ h low. (
    λ e. (let P : ℕ → Type 0 = λ q. IsWholeOf f m q in subst P (eqb-true g h (sym (z.functions h) ∙ e)) z.whole_of),
    λ c. z.functions h ∙ eq-eqb g h (same_function f m g h z.whole_of c),
  );
  within = λ h e. (let there = z.there in let same : g ≡ h = eqb-true g h (sym (z.functions h) ∙ e) in omega (arith, there, same));
  calls = λ h. (calls_told p f m g own direct x z h, calls_found p f m g own direct x z h);
  events = λ n. (event_inside p f m g own direct x z n, inside_event p f m g own direct x z n);
}
