-- The rows of a function lead to its own places.
use Rattle.std.proofs.Common.{ℕ, zero, suc, ◌+◌, ◌-◌, ◌<◌, ◌≤◌, ◌≡◌, List, [], ◌∷◌, ◌++◌, length-append, slice_get, Some, sym, ap, subst, ◌∙◌, arith}
use Rattle.std.specs.List.{Contains}
use Rattle.std.proofs.lemmas.Bool.{cases_lt}
use Rattle.loom_tree.specs.Tree.{Expression, Simple, let_, set, return, Body, simple, if_, while_, Function, Source}
use Rattle.loom_tree.specs.Tree as tree
use Rattle.loom_lang.specs.Places.{body_places}
use Rattle.loom_flow.specs.FlatCode.{place_count}
use Rattle.loom_law.proofs.Course.{contains_cases, no_member}
use Rattle.loom_law.proofs.Holdings.{either_of}
use Rattle.loom_plan.proofs.Rows.{get_some}
use Rattle.loom_sites.specs.declared.node.TableNode.{TableNode}
use Rattle.loom_sites.specs.declared.node.TableNode.TheVariants as n
use Rattle.loom_sites.specs.declared.links.PlaceKind.TheVariants as kind
use Rattle.loom_sites.specs.declared.links.PlaceLinks.{PlaceLinks}
use Rattle.loom_sites.specs.declared.links.Owner.{Owner}
use Rattle.loom_sites.specs.Nodes.{node_number}
use Rattle.loom_sites.specs.Links.{first_at, next_simple, frame_row, body_rows, out_behind, program_rows}
use Rattle.loom_sites.specs.Reach.{nexts_if, nexts}
use Rattle.loom_sites.proofs.Rows.{length_rows}
use Rattle.loom_sites.proofs.Stands.{Stand, FunctionStand}

-- each node behind has a number of this kind
abbrev pub RowLeads : (ℕ → Type 0) → PlaceLinks → Type 0
RowLeads Q row = Q (node_number row.first) × (Q (node_number row.second) × Q (node_number row.behind))

abbrev pub AllLead : (ℕ → Type 0) → List PlaceLinks → Type 0
AllLead Q [] = Unit {0}
AllLead Q (row ∷ rows) = RowLeads Q row × AllLead Q rows

lead_both : (Q : ℕ → Type 0) (xs ys : List PlaceLinks) → AllLead Q xs → AllLead Q ys → AllLead Q (xs ++ ys)
lead_both Q [] ys h g = g
lead_both Q (x ∷ xs) ys h g = (h.0, lead_both Q xs ys h.1 g)

-- the numbers from one on and before another are of this kind
abbrev pub IsRun : (ℕ → Type 0) → ℕ → ℕ → Type 0
IsRun Q low high = (z : ℕ) → low ≤ z → z < high → Q z

first_leads : (Q : ℕ → Type 0) (k : ℕ) (b : Body) (next : TableNode) → IsRun Q k (k + place_count b) → Q (node_number next) → Q (node_number (first_at b k next))
first_leads Q k tree.end next h g = g
first_leads Q k (simple l s rest) next h g = h k (omega arith) (omega arith)
first_leads Q k (if_ l e a b rest) next h g = h k (omega arith) (omega arith)
first_leads Q k (while_ l e a rest) next h g = h k (omega arith) (omega arith)

simple_leads : (Q : ℕ → Type 0) (o : Owner) (s : Simple Expression) (next : TableNode) → Q o.out → Q (node_number next) → Q (node_number (next_simple o s next))
simple_leads Q o (return e) next h g = h
simple_leads Q o (let_ x r) next h g = g
simple_leads Q o (set x r) next h g = g
simple_leads Q o (Simple.call f es) next h g = g
simple_leads Q o (tree.set_cell x i e) next h g = g
simple_leads Q o (tree.lock x) next h g = g
simple_leads Q o (tree.unlock x) next h g = g
simple_leads Q o (tree.down x) next h g = g
simple_leads Q o (tree.up x) next h g = g
simple_leads Q o (tree.join e) next h g = g
simple_leads Q o (tree.print e) next h g = g
simple_leads Q o tree.skip next h g = g

narrow : (Q : ℕ → Type 0) (a b c d : ℕ) → a ≤ c → d ≤ b → IsRun Q a b → IsRun Q c d
narrow Q a b c d low high h z from to = h z (omega (arith, low, from)) (omega (arith, high, to))

all_lead : (Q : ℕ → Type 0) (p : Source) (o : Owner) (k : ℕ) (b : Body) (next : TableNode) → IsRun Q k (k + place_count b) → Q o.out → Q (node_number next) → AllLead Q (body_rows p o k b next)
all_lead Q p o k tree.end next run out after = tt
all_lead Q p o k (simple l s rest) next run out after =
    let own : Q k = run k (omega arith) (omega arith) in
    let more : IsRun Q (suc k) (suc k + place_count rest) = narrow Q k (k + place_count (simple l s rest)) (suc k) (suc k + place_count rest) (omega arith) (omega arith) run in
    ((own, (own, simple_leads Q o s (first_at rest (suc k) next) out (first_leads Q (suc k) rest next more after))), all_lead Q p o (suc k) rest next more out after)
all_lead Q p o k (if_ l e a b rest) next run out after =
    let other : ℕ = suc k + place_count a in
    let end : ℕ = other + place_count b in
    let high : ℕ = k + place_count (if_ l e a b rest) in
    let many = length-append (body_places a) (body_places b ++ body_places rest) in
    let more = length-append (body_places b) (body_places rest) in
    let own : Q k = run k (omega arith) (omega arith) in
    let run_a : IsRun Q (suc k) (suc k + place_count a) = narrow Q k high (suc k) (suc k + place_count a) (omega arith) (omega (arith, many)) run in
    let run_b : IsRun Q other (other + place_count b) = narrow Q k high other (other + place_count b) (omega arith) (omega (arith, many, more)) run in
    let run_rest : IsRun Q end (end + place_count rest) = narrow Q k high end (end + place_count rest) (omega arith) (omega (arith, many, more)) run in (
      (first_leads Q (suc k) a (n.Complete k) run_a own, (first_leads Q other b (n.Complete k) run_b own, first_leads Q end rest next run_rest after)),
      lead_both Q (body_rows p o (suc k) a (n.Complete k)) (body_rows p o other b (n.Complete k) ++ body_rows p o end rest next) (all_lead Q p o (suc k) a (n.Complete k) run_a out own)
          (lead_both Q (body_rows p o other b (n.Complete k)) (body_rows p o end rest next) (all_lead Q p o other b (n.Complete k) run_b out own) (all_lead Q p o end rest next run_rest out after)),
    )
all_lead Q p o k (while_ l e a rest) next run out after =
    let first : ℕ = suc (suc k) in
    let end : ℕ = first + place_count a in
    let high : ℕ = k + place_count (while_ l e a rest) in
    let turn : TableNode = n.Start (suc k) in
    let many = length-append (body_places a) (body_places rest) in
    let own : Q k = run k (omega arith) (omega arith) in
    let back : Q (suc k) = run (suc k) (omega arith) (omega (arith, many)) in
    let run_a : IsRun Q first (first + place_count a) = narrow Q k high first (first + place_count a) (omega arith) (omega (arith, many)) run in
    let run_rest : IsRun Q end (end + place_count rest) = narrow Q k high end (end + place_count rest) (omega arith) (omega (arith, many)) run in
    let row : Q (node_number (first_at a first turn)) × (Q k × Q (node_number (first_at rest end next))) = (first_leads Q first a turn run_a back, (own, first_leads Q end rest next run_rest after)) in
    (row, (row, lead_both Q (body_rows p o first a turn) (body_rows p o end rest next) (all_lead Q p o first a turn run_a out back) (all_lead Q p o end rest next run_rest out after)))

leads_at : (Q : ℕ → Type 0) (rows : List PlaceLinks) (i : ℕ) (row : PlaceLinks) → AllLead Q rows → slice_get rows i ≡ Some row → RowLeads Q row
leads_at Q [] i row h e = cc
leads_at Q (x ∷ rows) zero row h e = let same : x ≡ row = cc in let P : PlaceLinks → Type 0 = λ z. RowLeads Q z in subst P same h.0
leads_at Q (x ∷ rows) (suc i) row h e = leads_at Q rows i row h.1 e

next_leads : (Q : ℕ → Type 0) (row : PlaceLinks) (i j : TableNode) → RowLeads Q row → Contains (nexts_if (Some row) i) j → Q (node_number j)
next_leads Q row (n.Start k) j h c =
    let P : TableNode → Type 0 = λ z. Q (node_number z) in
    either_of (contains_cases row.first j (row.second ∷ []) c) (λ e. subst P e h.0)
    (λ d. either_of (contains_cases row.second j [] d) (λ e. subst P e h.1.0) (λ d. absurd (no_member j d)))
next_leads Q row (n.Complete k) j h c =
    let P : TableNode → Type 0 = λ z. Q (node_number z) in
    either_of (contains_cases row.behind j [] c) (λ e. subst P e h.1.1) (λ d. absurd (no_member j d))

-- the row of a number in a body
body_leads : (Q : ℕ → Type 0) (p : Source) (o : Owner) (k : ℕ) (b : Body) (next i j : TableNode) → Stand p o k b next → IsRun Q k (k + place_count b) → Q o.out → Q (node_number next)
    → k ≤ node_number i → node_number i < k + place_count b → Contains (nexts (program_rows p) i) j → Q (node_number j)
body_leads Q p o k b next i j stand run out after low high c =
    let rows : List PlaceLinks = body_rows p o k b next in
    let d : ℕ = node_number i - k in
    let long = length_rows p o k b next in
    let found = get_some rows d (omega (arith, long, low, high)) in
    let at : k + d ≡ node_number i = omega (arith, low) in
    let is : slice_get (program_rows p) (node_number i) ≡ Some found.0 = ap (slice_get (program_rows p)) (sym at) ∙ stand.rows d found.0 found.1 in
    let P : List TableNode → Type 0 = λ z. Contains z j in
    next_leads Q found.0 i j (leads_at Q rows d found.0 (all_lead Q p o k b next run out after) found.1) (subst P (ap (λ z. nexts_if z i) is) c)

-- behind the out place there is the out place alone
out_next : (p : Source) (g k : ℕ) (h : Function) (i j : TableNode) → FunctionStand p g k h → node_number i ≡ out_behind k h → Contains (nexts (program_rows p) i) j → j ≡ n.Start (out_behind k h)
out_next p g k h i j stand at c =
    let last : ℕ = out_behind k h in
    let P : List TableNode → Type 0 = λ z. Contains z j in
    only i (subst P (ap (λ z. nexts_if z i) (ap (slice_get (program_rows p)) at ∙ stand.out_row)) c)
  where
    only : (m : TableNode) → Contains (nexts_if (Some (frame_row kind.Out (out_behind k h) g)) m) j → j ≡ n.Start (out_behind k h)
    only (n.Start z) d =
        either_of (contains_cases (n.Start (out_behind k h)) j (n.Start (out_behind k h) ∷ []) d) (λ e. sym e)
        (λ q. either_of (contains_cases (n.Start (out_behind k h)) j [] q) (λ e. sym e) (λ r. absurd (no_member j r)))
    only (n.Complete z) d = either_of (contains_cases (n.Start (out_behind k h)) j [] d) (λ e. sym e) (λ r. absurd (no_member j r))

pub out_leads : (p : Source) (g k : ℕ) (h : Function) (i j : TableNode) → FunctionStand p g k h → node_number i ≡ out_behind k h → Contains (nexts (program_rows p) i) j → j ≡ n.Start (out_behind k h)
out_leads p g k h i j stand at c = out_next p g k h i j stand at c

pub nexts_within : (p : Source) (g k : ℕ) (h : Function) (i j : TableNode) → FunctionStand p g k h → suc k ≤ node_number i → node_number i ≤ out_behind k h → Contains (nexts (program_rows p) i) j
    → (suc k ≤ node_number j) × (node_number j ≤ out_behind k h)
nexts_within p g k h i j stand low high c =
    let last : ℕ = out_behind k h in
    let Q : ℕ → Type 0 = λ z. (suc k ≤ z) × (z ≤ last) in
    let end : Q last = (omega arith, omega arith) in
    either_of (cases_lt (node_number i) last)
    (λ less. body_leads Q p (record { number = g; out = last }) (suc k) h.body (n.Start last) i j stand.body (λ z from to. (from, omega (arith, to))) end end low less c)
    (λ past. let P : TableNode → Type 0 = λ z. Q (node_number z) in subst P (sym (out_next p g k h i j stand (omega (arith, past, high)) c)) end)
