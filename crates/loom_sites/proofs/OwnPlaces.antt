-- The own places of a region between events are those of the nodes that paths reach.
use Rattle.std.proofs.Common.{ℕ, zero, suc, ◌+◌, ◌<◌, ◌≤◌, ◌≡◌, ◌⊎◌, ◌↔◌, inl, inr, Bool, true, false, ◌&&◌, ◌||◌, List, [], ◌∷◌, ◌++◌, length-append, slice_get, Option, Some, None, refl, sym, ap, subst, ◌∙◌, arith}
use Rattle.std.specs.List.{Contains}
use Rattle.std.proofs.lemmas.Bool.{cases_lt}
use Rattle.std.proofs.lemmas.Option.{slice_get_within}
use Rattle.std.proofs.Math.Decide.{ℕ_discrete}
use Rattle.loom_tree.specs.Tree.{Body, simple, if_, while_, Source}
use Rattle.loom_tree.specs.Tree as tree
use Rattle.loom_lang.specs.Rules.{KeepsRules}
use Rattle.loom_lang.specs.Places.{Place, nowhere, entry, inside, back_edge, out, body_places, places, place_at}
use Rattle.loom_trace.specs.Places.{has_place}
use Rattle.loom_flow.specs.FlatCode.{place_count}
use Rattle.loom_law.specs.Filter.{between, Plan}
use Rattle.loom_law.specs.Paths.{Node, begins, complete, turns, leaves, node_places}
use Rattle.loom_law.specs.FilterRefusal.{ComesInside}
use Rattle.loom_law.proofs.Course.{contains_first, contains_later, contains_cases, no_member}
use Rattle.loom_law.proofs.Holdings.{either_of, or_cases, or_left, or_right}
use Rattle.loom_sites.specs.declared.node.TableNode.{TableNode}
use Rattle.loom_sites.specs.declared.node.TableNode.TheVariants as n
use Rattle.loom_sites.specs.declared.links.PlaceKind.{PlaceKind}
use Rattle.loom_sites.specs.declared.links.PlaceKind.TheVariants as kind
use Rattle.loom_sites.specs.declared.links.PlaceLinks.{PlaceLinks}
use Rattle.loom_sites.specs.declared.links.Owner.{Owner}
use Rattle.loom_sites.specs.declared.reach.NodeSet.{NodeSet}
use Rattle.loom_sites.specs.Nodes.{node_number, IsNode}
use Rattle.loom_sites.specs.Links.{is_statement, is_turn, out_behind, program_rows}
use Rattle.loom_sites.specs.Rows.{test_if, meets_at}
use Rattle.loom_sites.specs.Reach.{HasPathTo, has_node}
use Rattle.loom_sites.specs.Areas.{has_its_node, turns_there, IsOwnNumber, AreWith}
use Rattle.loom_sites.proofs.Stands.{Stand, rest_of_simple, first_branch, second_branch, rest_of_if, loop_body, rest_of_loop, simple_here, if_here, while_here, turn_here, place_in_function}
use Rattle.loom_sites.proofs.RowPlaces.{program_aligned, row_place, place_row, IsOfPlace}
use Rattle.loom_sites.proofs.Ways.{turn_node}
use Rattle.loom_sites.proofs.Courses.{same_number, AreStarts, AreHalts, comes_told}
use Rattle.loom_sites.proofs.Regions.{inside_path}

-- A node shows its place.
node_place : (p : Source) (g : ℕ) (i : TableNode) (m : Node) → IsNode p g i m → (y : Place) × ((place_at p (node_number i) ≡ Some y) × Contains (node_places g m) y)
node_place p g (n.Start k) (begins l) h = (inside l, (h, contains_first (inside l) []))
node_place p g (n.Start k) (turns l) h = (back_edge l, (h, contains_first (back_edge l) (inside l ∷ [])))
node_place p g (n.Start k) leaves h = (out g, (h, contains_first (out g) []))
node_place p g (n.Start k) (complete l) h = absurd h
node_place p g (n.Complete k) (complete l) h = (inside l, (h, contains_first (inside l) []))
node_place p g (n.Complete k) (begins l) h = absurd h
node_place p g (n.Complete k) (turns l) h = absurd h
node_place p g (n.Complete k) leaves h = absurd h

-- The place before a back edge is that of its loop.

abbrev IsBehindLoop : Source → ℕ → ℕ → Type 0
IsBehindLoop p i l = (j : ℕ) × ((suc j ≡ i) × (place_at p j ≡ Some (inside l)))

no_edge : {A : Type 0} (p : Source) (k i m l : ℕ) → k ≡ i → place_at p k ≡ Some (inside m) → place_at p i ≡ Some (back_edge l) → A
no_edge p k i m l e h g = let clash : Some (inside m) ≡ Some (back_edge l) = sym h ∙ (ap (place_at p) e ∙ g) in cc

edge_in_body : (p : Source) (o : Owner) (k : ℕ) (b : Body) (next : TableNode) (i l : ℕ) → Stand p o k b next → k ≤ i → i < k + place_count b → place_at p i ≡ Some (back_edge l) → IsBehindLoop p i l
edge_in_body p o k tree.end next i l h low high e = absurd (omega arith)
edge_in_body p o k (simple m s rest) next i l h low high e =
    elim (ℕ_discrete k i) [
      | yes at ↦ no_edge p k i m l at (simple_here p o k m s rest next h).1 e
      | no d ↦ edge_in_body p o (suc k) rest next i l (rest_of_simple p o k m s rest next h) (omega arith) (omega arith) e
    ]
edge_in_body p o k (if_ m t a b rest) next i l h low high e =
    let other : ℕ = suc k + place_count a in
    let end : ℕ = other + place_count b in
    let many = length-append (body_places a) (body_places b ++ body_places rest) in
    let more = length-append (body_places b) (body_places rest) in
    elim (ℕ_discrete k i) [
      | yes at ↦ no_edge p k i m l at (if_here p o k m t a b rest next h).1 e
      | no d ↦ either_of (cases_lt i other) (λ in_a. edge_in_body p o (suc k) a (n.Complete k) i l (first_branch p o k m t a b rest next h) (omega arith) in_a e)
          (λ past. either_of (cases_lt i end) (λ in_b. edge_in_body p o other b (n.Complete k) i l (second_branch p o k m t a b rest next h) past in_b e)
          (λ last. edge_in_body p o end rest next i l (rest_of_if p o k m t a b rest next h) last (omega (arith, high, many, more)) e))
    ]
edge_in_body p o k (while_ m t a rest) next i l h low high e =
    let first : ℕ = suc (suc k) in
    let end : ℕ = first + place_count a in
    let many = length-append (body_places a) (body_places rest) in
    elim (ℕ_discrete k i) [
      | yes at ↦ no_edge p k i m l at (while_here p o k m t a rest next h).1 e
      | no d ↦ elim (ℕ_discrete (suc k) i) [
        | yes at ↦ (let line : m ≡ l = same_edge m l (sym (turn_here p o k m t a rest next h).1 ∙ (ap (place_at p) at ∙ e)) in
            (k, (at, (while_here p o k m t a rest next h).1 ∙ ap (λ z. Some (inside z)) line)))
        | no f ↦ either_of (cases_lt i end) (λ in_a. edge_in_body p o first a (n.Start (suc k)) i l (loop_body p o k m t a rest next h) (omega arith) in_a e)
            (λ past. edge_in_body p o end rest next i l (rest_of_loop p o k m t a rest next h) past (omega (arith, high, many)) e)
      ]
    ]
  where
    same_edge : (a b : ℕ) → Some (back_edge a) ≡ Some (back_edge b) → a ≡ b
    same_edge a b q = cc

pub loop_before : (p : Source) (i l : ℕ) → place_at p i ≡ Some (back_edge l) → IsBehindLoop p i l
loop_before p i l e =
    let r = place_in_function p i (positive i e) (slice_get_within (places p) i (back_edge l) e) in
    let from = r.from in
    let to = r.to in
    edge_in_body p (record { number = r.number; out = out_behind r.first r.function }) (suc r.first) r.function.body (n.Start (out_behind r.first r.function)) i l r.stand.body (low r.first r.number r.stand.entry_place from)
    (high (out_behind r.first r.function) r.number r.stand.out_place to) e
  where
    positive : (k : ℕ) → place_at p k ≡ Some (back_edge l) → 0 < k
    positive zero q = cc
    positive (suc k) q = omega arith

    low : (k g : ℕ) → place_at p k ≡ Some (entry g) → k ≤ i → suc k ≤ i
    low k g q h = elim (ℕ_discrete k i) [ yes same ↦ (let clash : Some (entry g) ≡ Some (back_edge l) = sym q ∙ (ap (place_at p) same ∙ e) in cc) | no d ↦ omega arith ]

    high : (k g : ℕ) → place_at p k ≡ Some (out g) → i ≤ k → i < k
    high k g q h = elim (ℕ_discrete i k) [ yes same ↦ (let clash : Some (out g) ≡ Some (back_edge l) = sym q ∙ (ap (place_at p) (sym same) ∙ e) in cc) | no d ↦ omega arith ]

-- What was reached, and what the definitions say of it

pub record IsReachedSet (p : Source) (f : Plan) (es xs starts halts : List ℕ) (r : NodeSet) : Type 0 where
  pub rules : KeepsRules p
  pub starts_are : AreStarts p f es starts
  pub halts_are : AreHalts p f xs halts
  pub reached : (m : TableNode) → (has_node r m ≡ true) ↔ HasPathTo (program_rows p) starts halts m

and_parts : (a b : Bool) → (a && b) ≡ true → (a ≡ true) × (b ≡ true)
and_parts true b h = (refl, h)
and_parts false b h = cc

and_true : (a b : Bool) → a ≡ true → b ≡ true → (a && b) ≡ true
and_true true b h g = g
and_true false b h g = cc

own_node : (p : Source) (f : Plan) (es xs starts halts : List ℕ) (r : NodeSet) → IsReachedSet p f es xs starts halts r → (i : TableNode) → has_node r i ≡ true → IsOwnNumber p f (between es xs) (node_number i)
own_node p f es xs starts halts r z i e =
    let t = comes_told p f es xs starts halts i z.rules z.starts_are z.halts_are ((z.reached i).0 e) in
    let y = node_place p t.number i t.node t.is in
    (y.0, (y.1.0, (t.number, (t.node, (t.inside, y.1.1)))))

node_told : (p : Source) (f : Plan) (es xs starts halts : List ℕ) (r : NodeSet) → IsReachedSet p f es xs starts halts r → (k : ℕ) → meets_at (has_its_node r) (program_rows p) k ≡ true → IsOwnNumber p f (between es xs) k
node_told p f es xs starts halts r z k e = by_row (slice_get (program_rows p) k) e
  where
    by_row : (o : Option PlaceLinks) → test_if (has_its_node r) k o ≡ true → IsOwnNumber p f (between es xs) k
    by_row None t = cc
    by_row (Some row) t =
        either_of (or_cases (has_place r.starts k) (has_place r.completions k) t) (λ i. own_node p f es xs starts halts r z (n.Start k) i) (λ i. own_node p f es xs starts halts r z (n.Complete k) i)

-- a statement is no back edge
no_turn : (x : PlaceKind) → is_statement x ≡ true → is_turn x ≡ false
no_turn kind.Entry e = refl
no_turn kind.Out e = refl
no_turn kind.Turn e = cc
no_turn kind.Plain e = refl
no_turn kind.Return e = refl
no_turn (kind.Call f) e = refl

turn_told : (p : Source) (f : Plan) (es xs starts halts : List ℕ) (r : NodeSet) → IsReachedSet p f es xs starts halts r → (k : ℕ) → meets_at (turns_there r) (program_rows p) (suc k) ≡ true → IsOwnNumber p f (between es xs) k
turn_told p f es xs starts halts r z k e = by_row (slice_get (program_rows p) (suc k)) refl e
  where
    at_edge : (l : ℕ) → place_at p (suc k) ≡ Some (back_edge l) → has_place r.starts (suc k) ≡ true → IsOwnNumber p f (between es xs) k
    at_edge l at h =
        let t = comes_told p f es xs starts halts (n.Start (suc k)) z.rules z.starts_are z.halts_are ((z.reached (n.Start (suc k))).0 h) in
        let b = loop_before p (suc k) l at in
        let less = b.1.0 in
        let same : b.0 ≡ k = omega (arith, less) in
        let P : Node → Type 0 = λ m. ComesInside p f es xs t.number m in
        (inside l, (ap (place_at p) (sym same) ∙ b.1.1, (t.number, (turns l, (subst P (turn_node p t.number (suc k) l t.node t.is at) t.inside, contains_later (back_edge l) (inside l) (inside l ∷ []) (contains_first (inside l) []))))))

    by_place : (row : PlaceLinks) → is_turn row.kind ≡ true → (y : Place) → place_at p (suc k) ≡ Some y → IsOfPlace y row.kind → has_place r.starts (suc k) ≡ true → IsOwnNumber p f (between es xs) k
    by_place row t nowhere at h s = let clash : false ≡ true = sym (ap is_turn h) ∙ t in cc
    by_place row t (entry g) at h s = let clash : false ≡ true = sym (ap is_turn h) ∙ t in cc
    by_place row t (inside l) at h s = let clash : false ≡ true = sym (no_turn row.kind h) ∙ t in cc
    by_place row t (back_edge l) at h s = at_edge l at s
    by_place row t (out g) at h s = let clash : false ≡ true = sym (ap is_turn h) ∙ t in cc

    by_row : (o : Option PlaceLinks) → slice_get (program_rows p) (suc k) ≡ o → test_if (turns_there r) (suc k) o ≡ true → IsOwnNumber p f (between es xs) k
    by_row None i t = cc
    by_row (Some row) i t =
        let parts = and_parts (has_place r.starts (suc k)) (is_turn row.kind) t in
        let y = row_place (program_rows p) (places p) (suc k) row (program_aligned p) i in
        by_place row parts.1 y.0 y.1.0 y.1.1 parts.0

own_found : (p : Source) (f : Plan) (es xs starts halts : List ℕ) (r : NodeSet) → IsReachedSet p f es xs starts halts r → (k : ℕ) → IsOwnNumber p f (between es xs) k
    → (meets_at (has_its_node r) (program_rows p) k ≡ true) ⊎ (meets_at (turns_there r) (program_rows p) (suc k) ≡ true)
own_found p f es xs starts halts r z k h =
    let c = h.1.1 in
    let i = inside_path p f es xs starts halts c.0 c.1.0 z.rules z.starts_are z.halts_are c.1.1.0 in
    by_node c.0 i.node c.1.0 h.0 i.is ((z.reached i.node).1 i.path) h.1.0 c.1.1.1
  where
    start_row : (j : ℕ) → j ≡ k → has_place r.starts j ≡ true → (y : Place) → place_at p k ≡ Some y → meets_at (has_its_node r) (program_rows p) k ≡ true
    start_row j e h y at =
        let row = place_row (program_rows p) (places p) k y (program_aligned p) at in
        ap (test_if (has_its_node r) k) row.1.0 ∙ or_left (has_place r.starts k) (has_place r.completions k) (ap (has_place r.starts) (sym e) ∙ h)

    complete_row : (j : ℕ) → j ≡ k → has_place r.completions j ≡ true → (y : Place) → place_at p k ≡ Some y → meets_at (has_its_node r) (program_rows p) k ≡ true
    complete_row j e h y at =
        let row = place_row (program_rows p) (places p) k y (program_aligned p) at in
        ap (test_if (has_its_node r) k) row.1.0 ∙ or_right (has_place r.starts k) (has_place r.completions k) (ap (has_place r.completions) (sym e) ∙ h)

    only : (a b : Place) → Contains (a ∷ []) b → a ≡ b
    only a b d = either_of (contains_cases a b [] d) (λ e. e) (λ q. absurd (no_member b q))

    number : (j : ℕ) (a y : Place) → place_at p j ≡ Some a → a ≡ y → place_at p k ≡ Some y → j ≡ k
    number j a y e same at = same_number p j k y z.rules (e ∙ ap Some same) at

    edge_row : (j l : ℕ) → j ≡ suc k → has_place r.starts j ≡ true → place_at p j ≡ Some (back_edge l) → meets_at (turns_there r) (program_rows p) (suc k) ≡ true
    edge_row j l e h at =
        let row = place_row (program_rows p) (places p) (suc k) (back_edge l) (program_aligned p) (ap (place_at p) (sym e) ∙ at) in
        ap (test_if (turns_there r) (suc k)) row.1.0 ∙ and_true (has_place r.starts (suc k)) (is_turn row.0.kind) (ap (has_place r.starts) (sym e) ∙ h) (ap is_turn row.1.1)

    by_node : (g : ℕ) (i : TableNode) (m : Node) (y : Place) → IsNode p g i m → has_node r i ≡ true → place_at p k ≡ Some y → Contains (node_places g m) y
        → (meets_at (has_its_node r) (program_rows p) k ≡ true) ⊎ (meets_at (turns_there r) (program_rows p) (suc k) ≡ true)
    by_node g (n.Start j) (begins l) y is h at d = inl (start_row j (number j (inside l) y is (only (inside l) y d) at) h y at)
    by_node g (n.Start j) leaves y is h at d = inl (start_row j (number j (out g) y is (only (out g) y d) at) h y at)
    by_node g (n.Start j) (turns l) y is h at d =
        either_of (contains_cases (back_edge l) y (inside l ∷ []) d) (λ e. inl (start_row j (number j (back_edge l) y is e at) h y at))
        (λ q. let b = loop_before p j l is in
        let less = b.1.0 in
        let same : b.0 ≡ k = number b.0 (inside l) y b.1.1 (only (inside l) y q) at in
        inr (edge_row j l (omega (arith, less, same)) h is))
    by_node g (n.Start j) (complete l) y is h at d = absurd is
    by_node g (n.Complete j) (complete l) y is h at d = inl (complete_row j (number j (inside l) y is (only (inside l) y d) at) h y at)
    by_node g (n.Complete j) (begins l) y is h at d = absurd is
    by_node g (n.Complete j) (turns l) y is h at d = absurd is
    by_node g (n.Complete j) leaves y is h at d = absurd is

pub own_places : (p : Source) (f : Plan) (es xs starts halts old mid new : List ℕ) (r : NodeSet) → IsReachedSet p f es xs starts halts r
    → ((k : ℕ) → has_place mid k ≡ (has_place old k || meets_at (has_its_node r) (program_rows p) k)) → ((k : ℕ) → has_place new k ≡ (has_place mid k || meets_at (turns_there r) (program_rows p) (suc k)))
    → AreWith (IsOwnNumber p f (between es xs)) old new
own_places p f es xs starts halts old mid new r z a b k = (told, found)
  where
    told : has_place new k ≡ true → (has_place old k ≡ true) ⊎ IsOwnNumber p f (between es xs) k
    told e =
        either_of (or_cases (has_place mid k) (meets_at (turns_there r) (program_rows p) (suc k)) (sym (b k) ∙ e))
        (λ i. either_of (or_cases (has_place old k) (meets_at (has_its_node r) (program_rows p) k) (sym (a k) ∙ i)) (λ j. inl j) (λ j. inr (node_told p f es xs starts halts r z k j)))
        (λ i. inr (turn_told p f es xs starts halts r z k i))

    found : (has_place old k ≡ true) ⊎ IsOwnNumber p f (between es xs) k → has_place new k ≡ true
    found (inl e) = b k ∙ or_left (has_place mid k) (meets_at (turns_there r) (program_rows p) (suc k)) (a k ∙ or_left (has_place old k) (meets_at (has_its_node r) (program_rows p) k) e)
    found (inr h) =
        either_of (own_found p f es xs starts halts r z k h)
        (λ i. b k ∙ or_left (has_place mid k) (meets_at (turns_there r) (program_rows p) (suc k)) (a k ∙ or_right (has_place old k) (meets_at (has_its_node r) (program_rows p) k) i))
        (λ i. b k ∙ or_right (has_place mid k) (meets_at (turns_there r) (program_rows p) (suc k)) i)
