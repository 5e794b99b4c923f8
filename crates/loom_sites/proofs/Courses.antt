-- Paths by links, and paths in the table.
use Rattle.std.proofs.Common.{ℕ, zero, suc, ◌<◌, ◌≤◌, ◌≡◌, ◌↔◌, Bool, true, false, List, length, slice_get, Some, refl, sym, ap, subst, ◌∙◌, arith}
use Rattle.std.specs.List.{Contains}
use Rattle.std.proofs.lemmas.Bool.{cases_lt}
use Rattle.std.proofs.lemmas.Option.{slice_get_within}
use Rattle.std.proofs.Math.Decide.{ℕ_discrete}
use Rattle.loom_tree.specs.Tree.{Function, Source}
use Rattle.loom_lang.specs.Rules.{KeepsRules}
use Rattle.loom_lang.specs.Places.{Place, entry, inside, back_edge, out, places, place_at}
use Rattle.loom_trace.specs.Places.{has_place}
use Rattle.loom_law.specs.Filter.{Plan}
use Rattle.loom_law.specs.Paths.{Node, begins, complete, turns, leaves, links_of, IsStatement, watch_at, IsExit, Halts, Comes, here, goes}
use Rattle.loom_law.specs.Paths as path
use Rattle.loom_law.specs.FilterRefusal.{ComesInside}
use Rattle.loom_law.proofs.PlaceNumbers.{one_number}
use Rattle.loom_law.proofs.Holdings.{either_of}
use Rattle.loom_sites.specs.declared.node.TableNode.{TableNode}
use Rattle.loom_sites.specs.declared.node.TableNode.TheVariants as n
use Rattle.loom_sites.specs.declared.links.Owner.{Owner}
use Rattle.loom_sites.specs.Nodes.{node_number, IsNode}
use Rattle.loom_sites.specs.Links.{out_behind, program_rows}
use Rattle.loom_sites.specs.Reach.{nexts_if, nexts, is_halted, HasPathTo}
use Rattle.loom_sites.specs.Reach as reach
use Rattle.loom_sites.proofs.Watches.{WatchesStatement}
use Rattle.loom_sites.proofs.Stands.{FunctionStand, place_in_function}
use Rattle.loom_sites.proofs.Leads.{nexts_within, out_leads}
use Rattle.loom_sites.proofs.Ways.{link_told, link_found}
use Rattle.loom_sites.proofs.RowPlaces.{statement_at}

-- A place has one number.

pub same_number : (p : Source) (i j : ℕ) (y : Place) → KeepsRules p → place_at p i ≡ Some y → place_at p j ≡ Some y → i ≡ j
same_number p i j y rules e g = sym (one_number p rules i y e) ∙ one_number p rules j y g

same_start : (i j : ℕ) → i ≡ j → n.Start i ≡ n.Start j
same_start i j e = ap n.Start e

pub one_node : (p : Source) (g : ℕ) (i j : TableNode) (m : Node) → KeepsRules p → IsNode p g i m → IsNode p g j m → i ≡ j
one_node p g (n.Start i) (n.Start j) (begins l) rules e h = ap n.Start (same_number p i j (inside l) rules e h)
one_node p g (n.Start i) (n.Start j) (turns l) rules e h = ap n.Start (same_number p i j (back_edge l) rules e h)
one_node p g (n.Start i) (n.Start j) leaves rules e h = ap n.Start (same_number p i j (out g) rules e h)
one_node p g (n.Complete i) (n.Complete j) (complete l) rules e h = ap n.Complete (same_number p i j (inside l) rules e h)
one_node p g (n.Start i) j (complete l) rules e h = absurd e
one_node p g (n.Complete i) j (begins l) rules e h = absurd e
one_node p g (n.Complete i) j (turns l) rules e h = absurd e
one_node p g (n.Complete i) j leaves rules e h = absurd e
one_node p g (n.Start i) (n.Complete j) (begins l) rules e h = absurd h
one_node p g (n.Start i) (n.Complete j) (turns l) rules e h = absurd h
one_node p g (n.Start i) (n.Complete j) leaves rules e h = absurd h
one_node p g (n.Complete i) (n.Start j) (complete l) rules e h = absurd h

-- What the starts and the ends of paths are: the statements of entry events, and those of exit events without a test.

abbrev pub AreStarts : Source → Plan → List ℕ → List ℕ → Type 0
AreStarts p f es starts = (k : ℕ) → (has_place starts k ≡ true) ↔ ((l : ℕ) × ((place_at p k ≡ Some (inside l)) × ((n : ℕ) × (Contains es n × WatchesStatement f n l))))

abbrev pub AreHalts : Source → Plan → List ℕ → List ℕ → Type 0
AreHalts p f xs halts = (k l : ℕ) → place_at p k ≡ Some (inside l) → (has_place halts k ≡ true) ↔ IsExit f xs l

-- Each path by links is one in the table.

not_halted : (p : Source) (f : Plan) (xs halts : List ℕ) (g : ℕ) (j : TableNode) (m : Node) → AreHalts p f xs halts → IsNode p g j m → (Halts f xs m → ⊥) → is_halted halts j ≡ false
not_halted p f xs halts g (n.Start k) m a h free = refl
not_halted p f xs halts g (n.Complete k) (begins l) a h free = absurd h
not_halted p f xs halts g (n.Complete k) (turns l) a h free = absurd h
not_halted p f xs halts g (n.Complete k) leaves a h free = absurd h
not_halted p f xs halts g (n.Complete k) (complete l) a h free = by_test (has_place halts k) refl
  where
    by_test : (b : Bool) → has_place halts k ≡ b → has_place halts k ≡ false
    by_test false e = e
    by_test true e = absurd (free ((a k l h).0 e))

pub record IsFoundPath (p : Source) (starts halts : List ℕ) (g : ℕ) (m : Node) : Type 0 where
  pub node : TableNode
  pub is : IsNode p g node m
  pub path : HasPathTo (program_rows p) starts halts node

pub comes_found : (p : Source) (f : Plan) (xs starts halts : List ℕ) (g k : ℕ) (h : Function) (start m : Node) → KeepsRules p → FunctionStand p g k h → AreHalts p f xs halts
    → IsFoundPath p starts halts g start → Comes (links_of h) f xs start m → IsFoundPath p starts halts g m
comes_found p f xs starts halts g k h start m rules stand a s here = s
comes_found p f xs starts halts g k h start m rules stand a s (goes {m = u} c link free) =
    let o : Owner = record { number = g; out = out_behind k h } in
    let before = comes_found p f xs starts halts g k h start u rules stand a s c in
    let linked = link_told p o (suc k) h.body (n.Start (out_behind k h)) leaves stand.out_place stand.body stand.out_place (u, m) link in
    let same : linked.one ≡ before.node = one_node p g linked.one before.node u rules linked.one_is before.is in
    let P : TableNode → Type 0 = λ z. Contains (nexts (program_rows p) z) linked.other in
    record { node = linked.other; is = linked.other_is; path = reach.goes before.path (subst P same linked.next) (not_halted p f xs halts g linked.other m a linked.other_is free) }

-- Each path in the table is one by links, in one function.

pub record IsTold (p : Source) (f : Plan) (es xs : List ℕ) (i : TableNode) : Type 0 where
  pub number : ℕ
  pub function : Function
  pub first : ℕ
  pub of_number : slice_get p.funcs number ≡ Some function
  pub stand : FunctionStand p number first function
  pub from : suc first ≤ node_number i
  pub to : node_number i ≤ out_behind first function
  pub node : Node
  pub is : IsNode p number i node
  pub inside : ComesInside p f es xs number node

-- what is behind the out place is the out place
at_out : (p : Source) (g k : ℕ) (h : Function) (i j : TableNode) (m : Node) → FunctionStand p g k h → node_number i ≡ out_behind k h → IsNode p g i m → Contains (nexts (program_rows p) i) j → j ≡ i
at_out p g k h (n.Start z) j m stand at is c = out_leads p g k h (n.Start z) j stand at c ∙ sym (ap n.Start at)
at_out p g k h (n.Complete z) j (begins l) stand at is c = absurd is
at_out p g k h (n.Complete z) j (turns l) stand at is c = absurd is
at_out p g k h (n.Complete z) j leaves stand at is c = absurd is
at_out p g k h (n.Complete z) j (complete l) stand at is c = let clash : Some (inside l) ≡ Some (out g) = sym is ∙ (ap (place_at p) at ∙ stand.out_place) in cc

halted_exit : (p : Source) (f : Plan) (xs halts : List ℕ) (g : ℕ) (j : TableNode) (m : Node) → AreHalts p f xs halts → IsNode p g j m → is_halted halts j ≡ false → Halts f xs m → ⊥
halted_exit p f xs halts g (n.Start k) (begins l) a is h x = x
halted_exit p f xs halts g (n.Start k) (turns l) a is h x = x
halted_exit p f xs halts g (n.Start k) leaves a is h x = x
halted_exit p f xs halts g (n.Start k) (complete l) a is h x = is
halted_exit p f xs halts g (n.Complete k) (begins l) a is h x = is
halted_exit p f xs halts g (n.Complete k) (turns l) a is h x = is
halted_exit p f xs halts g (n.Complete k) leaves a is h x = is
halted_exit p f xs halts g (n.Complete k) (complete l) a is h x = let clash : true ≡ false = sym ((a k l is).1 x) ∙ h in cc

on_link : (p : Source) (f : Plan) (es xs : List ℕ) (g : ℕ) (u m : Node) (h : Function) → slice_get p.funcs g ≡ Some h → ComesInside p f es xs g u → Contains (links_of h) (u, m) → (Halts f xs m → ⊥) → ComesInside p f es xs g m
on_link p f es xs g u m h is c link free =
    let same : c.function ≡ h = some_same c.function h (sym c.of_number ∙ is) in
    let P : Function → Type 0 = λ z. Contains (links_of z) (u, m) in
    record { event = c.event; one = c.one; watch = c.watch; is = c.is; line = c.line; site = c.site; there = c.there; function = c.function; of_number = c.of_number; comes = goes c.comes (subst P (sym same) link) free }
  where
    some_same : (a b : Function) → Some a ≡ Some b → a ≡ b
    some_same a b e = cc

-- where the place of a statement lies

pub not_nowhere : (p : Source) (i l : ℕ) → place_at p i ≡ Some (inside l) → 0 < i
not_nowhere p zero l e = cc
not_nowhere p (suc i) l e = omega arith

pub inside_first : (p : Source) (i g k l : ℕ) → place_at p i ≡ Some (entry g) → place_at p k ≡ Some (inside l) → i ≤ k → suc i ≤ k
inside_first p i g k l e at h =
    elim (ℕ_discrete i k) [
      | yes same ↦ (let clash : Some (entry g) ≡ Some (inside l) = sym e ∙ (ap (place_at p) same ∙ at) in cc)
      | no d ↦ omega arith
    ]

pub inside_last : (p : Source) (i g k l : ℕ) → place_at p i ≡ Some (out g) → place_at p k ≡ Some (inside l) → k ≤ i → k < i
inside_last p i g k l e at h =
    elim (ℕ_discrete k i) [
      | yes same ↦ (let clash : Some (out g) ≡ Some (inside l) = sym e ∙ (ap (place_at p) (sym same) ∙ at) in cc)
      | no d ↦ omega arith
    ]

-- a start is told
pub start_told : (p : Source) (f : Plan) (es xs : List ℕ) (k l m : ℕ) → Contains es m → WatchesStatement f m l → place_at p k ≡ Some (inside l) → IsTold p f es xs (n.Start k)
start_told p f es xs k l m one w at =
    let high : k < length (places p) = slice_get_within (places p) k (inside l) at in
    let r = place_in_function p k (not_nowhere p k l at) high in
    let from = r.from in
    let to = r.to in
    let low : suc r.first ≤ k = inside_first p r.first r.number k l r.stand.entry_place at from in
    let less : k < out_behind r.first r.function = inside_last p (out_behind r.first r.function) r.number k l r.stand.out_place at to in
    let o : Owner = record { number = r.number; out = out_behind r.first r.function } in
    let here = statement_at p o (suc r.first) r.function.body (n.Start (out_behind r.first r.function)) k l r.stand.body low less at in
    record {
      number = r.number;
      function = r.function;
      first = r.first;
      of_number = r.is;
      stand = r.stand;
      from = low;
      to = to;
      node = begins l;
      is = at;
      inside = record {
        event = m;
        one = one;
        watch = w.0;
        is = w.1.0;
        line = l;
        site = w.1.1;
        there = (here.statement, record { function = r.function; is = r.is; there = here.there; line = here.line });
        function = r.function;
        of_number = r.is;
        comes = path.here;
      };
    }

pub comes_told : (p : Source) (f : Plan) (es xs starts halts : List ℕ) (i : TableNode) → KeepsRules p → AreStarts p f es starts → AreHalts p f xs halts → HasPathTo (program_rows p) starts halts i → IsTold p f es xs i
comes_told p f es xs starts halts i rules s a (reach.from {k = k} low h) = let d = (s k).0 h in start_told p f es xs k d.0 d.1.1.0 d.1.1.1.0 d.1.1.1.1 d.1.0
comes_told p f es xs starts halts i rules s a (reach.goes {l = u} c next free) =
    let t = comes_told p f es xs starts halts u rules s a c in
    let o : Owner = record { number = t.number; out = out_behind t.first t.function } in
    let range = nexts_within p t.number t.first t.function u i t.stand t.from t.to next in
    either_of (cases_lt (node_number u) (out_behind t.first t.function))
    (λ less. let way = link_found p o (suc t.first) t.function.body (n.Start (out_behind t.first t.function)) leaves t.stand.out_place t.stand.body t.stand.out_place u i t.node t.from less t.is next in
    record {
      number = t.number;
      function = t.function;
      first = t.first;
      of_number = t.of_number;
      stand = t.stand;
      from = range.0;
      to = range.1;
      node = way.node;
      is = way.is;
      inside = on_link p f es xs t.number t.node way.node t.function t.of_number t.inside way.there (halted_exit p f xs halts t.number i way.node a way.is free);
    })
    (λ past. let last = t.to in
    let stays = at_out p t.number t.first t.function u i t.node t.stand (omega (arith, past, last)) t.is next in
    let P : TableNode → Type 0 = λ z. IsTold p f es xs z in
    subst P (sym stays) t)
