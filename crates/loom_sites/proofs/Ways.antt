-- The links of a body, and the rows of the table.
use Rattle.std.proofs.Common.{ℕ, suc, ◌+◌, ◌<◌, ◌≤◌, ◌≡◌, ◌⊎◌, inl, inr, List, [], ◌∷◌, ◌++◌, length-append, slice_get, Some, sym, ap, subst, ◌∙◌, arith}
use Rattle.std.specs.List.{Contains}
use Rattle.std.proofs.lemmas.Bool.{cases_lt}
use Rattle.std.proofs.lemmas.List.Elements.{Contains-append_left, Contains-append_right, Contains-append_cases}
use Rattle.std.proofs.Math.Decide.{ℕ_discrete}
use Rattle.loom_tree.specs.Tree.{Expression, Simple, let_, set, return, Body, simple, if_, while_, Function, Source}
use Rattle.loom_tree.specs.Tree as tree
use Rattle.loom_lang.specs.Places.{inside, back_edge, out, body_places, place_at}
use Rattle.loom_flow.specs.FlatCode.{place_count}
use Rattle.loom_law.specs.Paths.{Node, begins, complete, turns, leaves, first_node, behind_simple, links}
use Rattle.loom_law.proofs.Course.{contains_first, contains_later, contains_cases, no_member}
use Rattle.loom_law.proofs.Holdings.{either_of}
use Rattle.loom_sites.specs.declared.node.TableNode.{TableNode}
use Rattle.loom_sites.specs.declared.node.TableNode.TheVariants as n
use Rattle.loom_sites.specs.declared.links.PlaceLinks.{PlaceLinks}
use Rattle.loom_sites.specs.declared.links.Owner.{Owner}
use Rattle.loom_sites.specs.Nodes.{node_number, IsNode}
use Rattle.loom_sites.specs.Links.{first_at, next_simple, program_rows}
use Rattle.loom_sites.specs.Reach.{nexts_if, nexts}
use Rattle.loom_sites.proofs.Stands.{Stand, rest_of_simple, first_branch, second_branch, rest_of_if, loop_body, rest_of_loop, simple_here, if_here, while_here, turn_here}

-- The first node of statements

pub first_is : (p : Source) (o : Owner) (k : ℕ) (b : Body) (next : TableNode) (m : Node) → Stand p o k b next → IsNode p o.number next m → IsNode p o.number (first_at b k next) (first_node b m)
first_is p o k tree.end next m h g = g
first_is p o k (simple l s rest) next m h g = (simple_here p o k l s rest next h).1
first_is p o k (if_ l e a b rest) next m h g = (if_here p o k l e a b rest next h).1
first_is p o k (while_ l e a rest) next m h g = (while_here p o k l e a rest next h).1

-- behind a statement
next_is : (p : Source) (o : Owner) (s : Simple Expression) (next : TableNode) (m : Node) → place_at p o.out ≡ Some (out o.number) → IsNode p o.number next m
    → IsNode p o.number (next_simple o s next) (behind_simple s m)
next_is p o (return e) next m h g = h
next_is p o (let_ x r) next m h g = g
next_is p o (set x r) next m h g = g
next_is p o (Simple.call f es) next m h g = g
next_is p o (tree.set_cell x i e) next m h g = g
next_is p o (tree.lock x) next m h g = g
next_is p o (tree.unlock x) next m h g = g
next_is p o (tree.down x) next m h g = g
next_is p o (tree.up x) next m h g = g
next_is p o (tree.join e) next m h g = g
next_is p o (tree.print e) next m h g = g
next_is p o tree.skip next m h g = g

-- Nodes behind one whose row is known

nexts_at : (p : Source) (i : TableNode) (row : PlaceLinks) → slice_get (program_rows p) (node_number i) ≡ Some row → nexts (program_rows p) i ≡ nexts_if (Some row) i
nexts_at p i row e = ap (λ z. nexts_if z i) e

first_next : (p : Source) (k : ℕ) (row : PlaceLinks) → slice_get (program_rows p) k ≡ Some row → Contains (nexts (program_rows p) (n.Start k)) row.first
first_next p k row e = let P : List TableNode → Type 0 = λ z. Contains z row.first in subst P (sym (nexts_at p (n.Start k) row e)) (contains_first row.first (row.second ∷ []))

second_next : (p : Source) (k : ℕ) (row : PlaceLinks) → slice_get (program_rows p) k ≡ Some row → Contains (nexts (program_rows p) (n.Start k)) row.second
second_next p k row e =
    let P : List TableNode → Type 0 = λ z. Contains z row.second in
    subst P (sym (nexts_at p (n.Start k) row e)) (contains_later row.first row.second (row.second ∷ []) (contains_first row.second []))

behind_next : (p : Source) (k : ℕ) (row : PlaceLinks) → slice_get (program_rows p) k ≡ Some row → Contains (nexts (program_rows p) (n.Complete k)) row.behind
behind_next p k row e = let P : List TableNode → Type 0 = λ z. Contains z row.behind in subst P (sym (nexts_at p (n.Complete k) row e)) (contains_first row.behind [])

-- and what they can only be
start_cases : (p : Source) (k : ℕ) (row : PlaceLinks) (j : TableNode) → slice_get (program_rows p) k ≡ Some row → Contains (nexts (program_rows p) (n.Start k)) j → (row.first ≡ j) ⊎ (row.second ≡ j)
start_cases p k row j e c =
    let P : List TableNode → Type 0 = λ z. Contains z j in
    either_of (contains_cases row.first j (row.second ∷ []) (subst P (nexts_at p (n.Start k) row e) c)) (λ i. inl i)
    (λ d. either_of (contains_cases row.second j [] d) (λ i. inr i) (λ d. absurd (no_member j d)))

complete_cases : (p : Source) (k : ℕ) (row : PlaceLinks) (j : TableNode) → slice_get (program_rows p) k ≡ Some row → Contains (nexts (program_rows p) (n.Complete k)) j → row.behind ≡ j
complete_cases p k row j e c =
    let P : List TableNode → Type 0 = λ z. Contains z j in
    either_of (contains_cases row.behind j [] (subst P (nexts_at p (n.Complete k) row e) c)) (λ i. i) (λ d. absurd (no_member j d))

-- Each link is in the table.

pub record IsLinked (p : Source) (g : ℕ) (z : Node × Node) : Type 0 where
  pub one : TableNode
  pub other : TableNode
  pub one_is : IsNode p g one z.0
  pub next : Contains (nexts (program_rows p) one) other
  pub other_is : IsNode p g other z.1

linked_at : (p : Source) (g : ℕ) (y z : Node × Node) → y ≡ z → IsLinked p g y → IsLinked p g z
linked_at p g y z e h = let P : Node × Node → Type 0 = λ w. IsLinked p g w in subst P e h

cons_linked : (p : Source) (g : ℕ) (x : Node × Node) (xs : List (Node × Node)) (z : Node × Node) → Contains (x ∷ xs) z → IsLinked p g x → (Contains xs z → IsLinked p g z) → IsLinked p g z
cons_linked p g x xs z c h f = either_of (contains_cases x z xs c) (λ e. linked_at p g x z e h) f

pub link_told : (p : Source) (o : Owner) (k : ℕ) (b : Body) (next : TableNode) (m : Node) → place_at p o.out ≡ Some (out o.number) → Stand p o k b next → IsNode p o.number next m
    → (z : Node × Node) → Contains (links b m) z → IsLinked p o.number z
link_told p o k tree.end next m last h g z c = absurd (no_member z c)
link_told p o k (simple l s rest) next m last h g z c =
    let here = simple_here p o k l s rest next h in
    let more = rest_of_simple p o k l s rest next h in
    cons_linked p o.number (begins l, complete l) ((complete l, behind_simple s (first_node rest m)) ∷ links rest m) z c
    (record { one = n.Start k; other = n.Complete k; one_is = here.1; next = first_next p k _ here.0; other_is = here.1 })
    (λ d. cons_linked p o.number (complete l, behind_simple s (first_node rest m)) (links rest m) z d
    (record {
      one = n.Complete k;
      other = next_simple o s (first_at rest (suc k) next);
      one_is = here.1;
      next = behind_next p k _ here.0;
      other_is = next_is p o s (first_at rest (suc k) next) (first_node rest m) last (first_is p o (suc k) rest next m more g);
    })
    (λ q. link_told p o (suc k) rest next m last more g z q))
link_told p o k (if_ l e a b rest) next m last h g z c =
    let other : ℕ = suc k + place_count a in
    let end : ℕ = other + place_count b in
    let here = if_here p o k l e a b rest next h in
    let at_a = first_branch p o k l e a b rest next h in
    let at_b = second_branch p o k l e a b rest next h in
    let at_rest = rest_of_if p o k l e a b rest next h in
    let inner : List (Node × Node) = links a (complete l) ++ (links b (complete l) ++ links rest m) in
    cons_linked p o.number (begins l, first_node a (complete l)) ((begins l, first_node b (complete l)) ∷ (complete l, first_node rest m) ∷ inner) z c
    (record { one = n.Start k; other = first_at a (suc k) (n.Complete k); one_is = here.1; next = first_next p k _ here.0; other_is = first_is p o (suc k) a (n.Complete k) (complete l) at_a here.1 })
    (λ d. cons_linked p o.number (begins l, first_node b (complete l)) ((complete l, first_node rest m) ∷ inner) z d
    (record { one = n.Start k; other = first_at b other (n.Complete k); one_is = here.1; next = second_next p k _ here.0; other_is = first_is p o other b (n.Complete k) (complete l) at_b here.1 })
    (λ q. cons_linked p o.number (complete l, first_node rest m) inner z q
    (record { one = n.Complete k; other = first_at rest end next; one_is = here.1; next = behind_next p k _ here.0; other_is = first_is p o end rest next m at_rest g })
    (λ r. either_of (Contains-append_cases (links a (complete l)) (links b (complete l) ++ links rest m) z r)
    (λ t. link_told p o (suc k) a (n.Complete k) (complete l) last at_a here.1 z t)
    (λ t. either_of (Contains-append_cases (links b (complete l)) (links rest m) z t)
    (λ u. link_told p o other b (n.Complete k) (complete l) last at_b here.1 z u)
    (λ u. link_told p o end rest next m last at_rest g z u)))))
link_told p o k (while_ l e a rest) next m last h g z c =
    let first : ℕ = suc (suc k) in
    let end : ℕ = first + place_count a in
    let turn : TableNode = n.Start (suc k) in
    let here = while_here p o k l e a rest next h in
    let back = turn_here p o k l e a rest next h in
    let at_a = loop_body p o k l e a rest next h in
    let at_rest = rest_of_loop p o k l e a rest next h in
    let inner : List (Node × Node) = links a (turns l) ++ links rest m in
    cons_linked p o.number (begins l, first_node a (turns l)) ((begins l, complete l) ∷ (turns l, first_node a (turns l)) ∷ (turns l, complete l) ∷ (complete l, first_node rest m) ∷ inner) z c
    (record { one = n.Start k; other = first_at a first turn; one_is = here.1; next = first_next p k _ here.0; other_is = first_is p o first a turn (turns l) at_a back.1 })
    (λ d. cons_linked p o.number (begins l, complete l) ((turns l, first_node a (turns l)) ∷ (turns l, complete l) ∷ (complete l, first_node rest m) ∷ inner) z d
    (record { one = n.Start k; other = n.Complete k; one_is = here.1; next = second_next p k _ here.0; other_is = here.1 })
    (λ q. cons_linked p o.number (turns l, first_node a (turns l)) ((turns l, complete l) ∷ (complete l, first_node rest m) ∷ inner) z q
    (record { one = turn; other = first_at a first turn; one_is = back.1; next = first_next p (suc k) _ back.0; other_is = first_is p o first a turn (turns l) at_a back.1 })
    (λ r. cons_linked p o.number (turns l, complete l) ((complete l, first_node rest m) ∷ inner) z r
    (record { one = turn; other = n.Complete k; one_is = back.1; next = second_next p (suc k) _ back.0; other_is = here.1 })
    (λ t. cons_linked p o.number (complete l, first_node rest m) inner z t
    (record { one = n.Complete k; other = first_at rest end next; one_is = here.1; next = behind_next p k _ here.0; other_is = first_is p o end rest next m at_rest g })
    (λ u. either_of (Contains-append_cases (links a (turns l)) (links rest m) z u)
    (λ v. link_told p o first a turn (turns l) last at_a back.1 z v)
    (λ v. link_told p o end rest next m last at_rest g z v))))))

-- Each way of the table from a node of the body is a link.

-- what node a number is, where its place is known
pub start_node : (p : Source) (g k l : ℕ) (u : Node) → IsNode p g (n.Start k) u → place_at p k ≡ Some (inside l) → u ≡ begins l
start_node p g k l (begins i) h e = let same : Some (inside i) ≡ Some (inside l) = sym h ∙ e in cc
start_node p g k l (complete i) h e = absurd h
start_node p g k l (turns i) h e = let clash : Some (back_edge i) ≡ Some (inside l) = sym h ∙ e in cc
start_node p g k l leaves h e = let clash : Some (out g) ≡ Some (inside l) = sym h ∙ e in cc

pub turn_node : (p : Source) (g k l : ℕ) (u : Node) → IsNode p g (n.Start k) u → place_at p k ≡ Some (back_edge l) → u ≡ turns l
turn_node p g k l (begins i) h e = let clash : Some (inside i) ≡ Some (back_edge l) = sym h ∙ e in cc
turn_node p g k l (complete i) h e = absurd h
turn_node p g k l (turns i) h e = let same : Some (back_edge i) ≡ Some (back_edge l) = sym h ∙ e in cc
turn_node p g k l leaves h e = let clash : Some (out g) ≡ Some (back_edge l) = sym h ∙ e in cc

complete_node : (p : Source) (g k l : ℕ) (u : Node) → IsNode p g (n.Complete k) u → place_at p k ≡ Some (inside l) → u ≡ complete l
complete_node p g k l (begins i) h e = absurd h
complete_node p g k l (complete i) h e = let same : Some (inside i) ≡ Some (inside l) = sym h ∙ e in cc
complete_node p g k l (turns i) h e = absurd h
complete_node p g k l leaves h e = absurd h

-- a back edge completes nothing
no_complete : (p : Source) (g k l : ℕ) (u : Node) → IsNode p g (n.Complete k) u → place_at p k ≡ Some (back_edge l) → ⊥
no_complete p g k l (begins i) h e = h
no_complete p g k l (complete i) h e = let clash : Some (inside i) ≡ Some (back_edge l) = sym h ∙ e in cc
no_complete p g k l (turns i) h e = h
no_complete p g k l leaves h e = h

pub record IsWay (p : Source) (g : ℕ) (ls : List (Node × Node)) (u : Node) (j : TableNode) : Type 0 where
  pub node : Node
  pub there : Contains ls (u, node)
  pub is : IsNode p g j node

way_in : (p : Source) (g : ℕ) (xs ys : List (Node × Node)) (u : Node) (j : TableNode) → ((z : Node × Node) → Contains xs z → Contains ys z) → IsWay p g xs u j → IsWay p g ys u j
way_in p g xs ys u j f h = record { node = h.node; there = f (u, h.node) h.there; is = h.is }

-- by the link from this node to that one
by_link : (p : Source) (g : ℕ) (ls : List (Node × Node)) (u w v : Node) (i j : TableNode) → u ≡ w → i ≡ j → Contains ls (w, v) → IsNode p g i v → IsWay p g ls u j
by_link p g ls u w v i j e same c h =
    let P : Node → Type 0 = λ z. Contains ls (z, v) in
    let Q : TableNode → Type 0 = λ z. IsNode p g z v in
    record { node = v; there = subst P (sym e) c; is = subst Q same h }

in_second : {A : Type 0} (x y : A) (xs : List A) → Contains (x ∷ y ∷ xs) y
in_second x y xs = contains_later x y (y ∷ xs) (contains_first y xs)

in_third : {A : Type 0} (x y z : A) (xs : List A) → Contains (x ∷ y ∷ z ∷ xs) z
in_third x y z xs = contains_later x z (y ∷ z ∷ xs) (in_second y z xs)

in_fourth : {A : Type 0} (x y z w : A) (xs : List A) → Contains (x ∷ y ∷ z ∷ w ∷ xs) w
in_fourth x y z w xs = contains_later x w (y ∷ z ∷ w ∷ xs) (in_third y z w xs)

in_fifth : {A : Type 0} (x y z w v : A) (xs : List A) → Contains (x ∷ y ∷ z ∷ w ∷ v ∷ xs) v
in_fifth x y z w v xs = contains_later x v (y ∷ z ∷ w ∷ v ∷ xs) (in_fourth y z w v xs)

simple_way : (p : Source) (o : Owner) (k l : ℕ) (s : Simple Expression) (rest : Body) (next : TableNode) (m : Node) (i j : TableNode) (u : Node) → place_at p o.out ≡ Some (out o.number)
    → Stand p o k (simple l s rest) next → IsNode p o.number next m → node_number i ≡ k → IsNode p o.number i u → Contains (nexts (program_rows p) i) j → IsWay p o.number (links (simple l s rest) m) u j
simple_way p o k l s rest next m (n.Start x) j u last h g e is c =
    let here = simple_here p o k l s rest next h in
    let more : List (Node × Node) = (complete l, behind_simple s (first_node rest m)) ∷ links rest m in
    let P : ℕ → Type 0 = λ z. IsNode p o.number (n.Start z) u in
    let Q : ℕ → Type 0 = λ z. Contains (nexts (program_rows p) (n.Start z)) j in
    either_of (start_cases p k _ j here.0 (subst Q e c))
    (λ same. by_link p o.number (links (simple l s rest) m) u (begins l) (complete l) (n.Complete k) j (start_node p o.number k l u (subst P e is) here.1) same (contains_first (begins l, complete l) more) here.1)
    (λ same. by_link p o.number (links (simple l s rest) m) u (begins l) (complete l) (n.Complete k) j (start_node p o.number k l u (subst P e is) here.1) same (contains_first (begins l, complete l) more) here.1)
simple_way p o k l s rest next m (n.Complete x) j u last h g e is c =
    let here = simple_here p o k l s rest next h in
    let P : ℕ → Type 0 = λ z. IsNode p o.number (n.Complete z) u in
    let Q : ℕ → Type 0 = λ z. Contains (nexts (program_rows p) (n.Complete z)) j in
    let more = rest_of_simple p o k l s rest next h in
    by_link p o.number (links (simple l s rest) m) u (complete l) (behind_simple s (first_node rest m)) (next_simple o s (first_at rest (suc k) next)) j (complete_node p o.number k l u (subst P e is) here.1) (complete_cases p k _ j here.0 (subst Q e c))
    (in_second (begins l, complete l) (complete l, behind_simple s (first_node rest m)) (links rest m))
    (next_is p o s (first_at rest (suc k) next) (first_node rest m) last (first_is p o (suc k) rest next m more g))

if_way : (p : Source) (o : Owner) (k l : ℕ) (e : Expression) (a b rest : Body) (next : TableNode) (m : Node) (i j : TableNode) (u : Node)
    → Stand p o k (if_ l e a b rest) next → IsNode p o.number next m → node_number i ≡ k → IsNode p o.number i u → Contains (nexts (program_rows p) i) j → IsWay p o.number (links (if_ l e a b rest) m) u j
if_way p o k l e a b rest next m (n.Start x) j u h g at is c =
    let other : ℕ = suc k + place_count a in
    let here = if_here p o k l e a b rest next h in
    let P : ℕ → Type 0 = λ z. IsNode p o.number (n.Start z) u in
    let Q : ℕ → Type 0 = λ z. Contains (nexts (program_rows p) (n.Start z)) j in
    let own : u ≡ begins l = start_node p o.number k l u (subst P at is) here.1 in
    either_of (start_cases p k _ j here.0 (subst Q at c))
    (λ same. by_link p o.number (links (if_ l e a b rest) m) u (begins l) (first_node a (complete l)) (first_at a (suc k) (n.Complete k)) j own same (contains_first (begins l, first_node a (complete l)) ((begins l, first_node b (complete l)) ∷ (complete l, first_node rest m) ∷ (links a (complete l) ++ (links b (complete l) ++ links rest m))))
    (first_is p o (suc k) a (n.Complete k) (complete l) (first_branch p o k l e a b rest next h) here.1))
    (λ same. by_link p o.number (links (if_ l e a b rest) m) u (begins l) (first_node b (complete l)) (first_at b other (n.Complete k)) j own same
    (in_second (begins l, first_node a (complete l)) (begins l, first_node b (complete l)) ((complete l, first_node rest m) ∷ (links a (complete l) ++ (links b (complete l) ++ links rest m))))
    (first_is p o other b (n.Complete k) (complete l) (second_branch p o k l e a b rest next h) here.1))
if_way p o k l e a b rest next m (n.Complete x) j u h g at is c =
    let end : ℕ = suc k + place_count a + place_count b in
    let here = if_here p o k l e a b rest next h in
    let P : ℕ → Type 0 = λ z. IsNode p o.number (n.Complete z) u in
    let Q : ℕ → Type 0 = λ z. Contains (nexts (program_rows p) (n.Complete z)) j in
    by_link p o.number (links (if_ l e a b rest) m) u (complete l) (first_node rest m) (first_at rest end next) j (complete_node p o.number k l u (subst P at is) here.1) (complete_cases p k _ j here.0 (subst Q at c))
    (in_third (begins l, first_node a (complete l)) (begins l, first_node b (complete l)) (complete l, first_node rest m) (links a (complete l) ++ (links b (complete l) ++ links rest m)))
    (first_is p o end rest next m (rest_of_if p o k l e a b rest next h) g)

while_way : (p : Source) (o : Owner) (k l : ℕ) (e : Expression) (a rest : Body) (next : TableNode) (m : Node) (i j : TableNode) (u : Node)
    → Stand p o k (while_ l e a rest) next → IsNode p o.number next m → node_number i ≡ k → IsNode p o.number i u → Contains (nexts (program_rows p) i) j → IsWay p o.number (links (while_ l e a rest) m) u j
while_way p o k l e a rest next m (n.Start x) j u h g at is c =
    let first : ℕ = suc (suc k) in
    let here = while_here p o k l e a rest next h in
    let back = turn_here p o k l e a rest next h in
    let P : ℕ → Type 0 = λ z. IsNode p o.number (n.Start z) u in
    let Q : ℕ → Type 0 = λ z. Contains (nexts (program_rows p) (n.Start z)) j in
    let own : u ≡ begins l = start_node p o.number k l u (subst P at is) here.1 in
    either_of (start_cases p k _ j here.0 (subst Q at c))
    (λ same. by_link p o.number (links (while_ l e a rest) m) u (begins l) (first_node a (turns l)) (first_at a first (n.Start (suc k))) j own same (contains_first (begins l, first_node a (turns l)) ((begins l, complete l) ∷ (turns l, first_node a (turns l)) ∷ (turns l, complete l) ∷ (complete l, first_node rest m) ∷ (links a (turns l) ++ links rest m)))
    (first_is p o first a (n.Start (suc k)) (turns l) (loop_body p o k l e a rest next h) back.1))
    (λ same. by_link p o.number (links (while_ l e a rest) m) u (begins l) (complete l) (n.Complete k) j own same (in_second (begins l, first_node a (turns l)) (begins l, complete l) ((turns l, first_node a (turns l)) ∷ (turns l, complete l) ∷ (complete l, first_node rest m) ∷ (links a (turns l) ++ links rest m))) here.1)
while_way p o k l e a rest next m (n.Complete x) j u h g at is c =
    let end : ℕ = suc (suc k) + place_count a in
    let here = while_here p o k l e a rest next h in
    let P : ℕ → Type 0 = λ z. IsNode p o.number (n.Complete z) u in
    let Q : ℕ → Type 0 = λ z. Contains (nexts (program_rows p) (n.Complete z)) j in
    by_link p o.number (links (while_ l e a rest) m) u (complete l) (first_node rest m) (first_at rest end next) j (complete_node p o.number k l u (subst P at is) here.1) (complete_cases p k _ j here.0 (subst Q at c))
    (in_fifth (begins l, first_node a (turns l)) (begins l, complete l) (turns l, first_node a (turns l)) (turns l, complete l) (complete l, first_node rest m) (links a (turns l) ++ links rest m))
    (first_is p o end rest next m (rest_of_loop p o k l e a rest next h) g)

turn_way : (p : Source) (o : Owner) (k l : ℕ) (e : Expression) (a rest : Body) (next : TableNode) (m : Node) (i j : TableNode) (u : Node)
    → Stand p o k (while_ l e a rest) next → node_number i ≡ suc k → IsNode p o.number i u → Contains (nexts (program_rows p) i) j → IsWay p o.number (links (while_ l e a rest) m) u j
turn_way p o k l e a rest next m (n.Start x) j u h at is c =
    let first : ℕ = suc (suc k) in
    let here = while_here p o k l e a rest next h in
    let back = turn_here p o k l e a rest next h in
    let P : ℕ → Type 0 = λ z. IsNode p o.number (n.Start z) u in
    let Q : ℕ → Type 0 = λ z. Contains (nexts (program_rows p) (n.Start z)) j in
    let own : u ≡ turns l = turn_node p o.number (suc k) l u (subst P at is) back.1 in
    either_of (start_cases p (suc k) _ j back.0 (subst Q at c))
    (λ same. by_link p o.number (links (while_ l e a rest) m) u (turns l) (first_node a (turns l)) (first_at a first (n.Start (suc k))) j own same
    (in_third (begins l, first_node a (turns l)) (begins l, complete l) (turns l, first_node a (turns l)) ((turns l, complete l) ∷ (complete l, first_node rest m) ∷ (links a (turns l) ++ links rest m)))
    (first_is p o first a (n.Start (suc k)) (turns l) (loop_body p o k l e a rest next h) back.1))
    (λ same. by_link p o.number (links (while_ l e a rest) m) u (turns l) (complete l) (n.Complete k) j own same
    (in_fourth (begins l, first_node a (turns l)) (begins l, complete l) (turns l, first_node a (turns l)) (turns l, complete l) ((complete l, first_node rest m) ∷ (links a (turns l) ++ links rest m))) here.1)
turn_way p o k l e a rest next m (n.Complete x) j u h at is c =
    let back = turn_here p o k l e a rest next h in
    let P : ℕ → Type 0 = λ z. IsNode p o.number (n.Complete z) u in
    absurd (no_complete p o.number (suc k) l u (subst P at is) back.1)

pub link_found : (p : Source) (o : Owner) (k : ℕ) (b : Body) (next : TableNode) (m : Node) → place_at p o.out ≡ Some (out o.number) → Stand p o k b next → IsNode p o.number next m
    → (i j : TableNode) (u : Node) → k ≤ node_number i → node_number i < k + place_count b → IsNode p o.number i u → Contains (nexts (program_rows p) i) j → IsWay p o.number (links b m) u j
link_found p o k tree.end next m last h g i j u low high is c = absurd (omega arith)
link_found p o k (simple l s rest) next m last h g i j u low high is c =
    elim (ℕ_discrete (node_number i) k) [
      | yes at ↦ simple_way p o k l s rest next m i j u last h g at is c
      | no d ↦ way_in p o.number (links rest m) (links (simple l s rest) m) u j (λ z q. contains_later (begins l, complete l) z ((complete l, behind_simple s (first_node rest m)) ∷ links rest m) (contains_later (complete l, behind_simple s (first_node rest m)) z (links rest m) q))
          (link_found p o (suc k) rest next m last (rest_of_simple p o k l s rest next h) g i j u (omega arith) (omega arith) is c)
    ]
link_found p o k (if_ l e a b rest) next m last h g i j u low high is c =
    let other : ℕ = suc k + place_count a in
    let end : ℕ = other + place_count b in
    let here = if_here p o k l e a b rest next h in
    let many = length-append (body_places a) (body_places b ++ body_places rest) in
    let more = length-append (body_places b) (body_places rest) in
    let all : List (Node × Node) = links (if_ l e a b rest) m in
    let la : List (Node × Node) = links a (complete l) in
    let lb : List (Node × Node) = links b (complete l) in
    let lr : List (Node × Node) = links rest m in
    let inner : (z : Node × Node) → Contains (la ++ (lb ++ lr)) z → Contains all z =
    λ z q. contains_later (begins l, first_node a (complete l)) z ((begins l, first_node b (complete l)) ∷ (complete l, first_node rest m) ∷ (la ++ (lb ++ lr))) (contains_later (begins l, first_node b (complete l)) z ((complete l, first_node rest m) ∷ (la ++ (lb ++ lr))) (contains_later (complete l, first_node rest m) z (la ++ (lb ++ lr)) q)) in
    elim (ℕ_discrete (node_number i) k) [
      | yes at ↦ if_way p o k l e a b rest next m i j u h g at is c
      | no d ↦ either_of (cases_lt (node_number i) other)
          (λ in_a. way_in p o.number la all u j (λ z q. inner z (Contains-append_left la (lb ++ lr) z q))
          (link_found p o (suc k) a (n.Complete k) (complete l) last (first_branch p o k l e a b rest next h) here.1 i j u (omega arith) (omega (arith, in_a)) is c))
          (λ past. either_of (cases_lt (node_number i) end)
          (λ in_b. way_in p o.number lb all u j (λ z q. inner z (Contains-append_right la (lb ++ lr) z (Contains-append_left lb lr z q)))
          (link_found p o other b (n.Complete k) (complete l) last (second_branch p o k l e a b rest next h) here.1 i j u past in_b is c))
          (λ last_part. way_in p o.number lr all u j (λ z q. inner z (Contains-append_right la (lb ++ lr) z (Contains-append_right lb lr z q)))
          (link_found p o end rest next m last (rest_of_if p o k l e a b rest next h) g i j u last_part (omega (arith, high, many, more)) is c)))
    ]
link_found p o k (while_ l e a rest) next m last h g i j u low high is c =
    let first : ℕ = suc (suc k) in
    let end : ℕ = first + place_count a in
    let back = turn_here p o k l e a rest next h in
    let many = length-append (body_places a) (body_places rest) in
    let all : List (Node × Node) = links (while_ l e a rest) m in
    let la : List (Node × Node) = links a (turns l) in
    let lr : List (Node × Node) = links rest m in
    let inner : (z : Node × Node) → Contains (la ++ lr) z → Contains all z =
    λ z q. contains_later (begins l, first_node a (turns l)) z ((begins l, complete l) ∷ (turns l, first_node a (turns l)) ∷ (turns l, complete l) ∷ (complete l, first_node rest m) ∷ (la ++ lr)) (contains_later (begins l, complete l) z ((turns l, first_node a (turns l)) ∷ (turns l, complete l) ∷ (complete l, first_node rest m) ∷ (la ++ lr)) (contains_later (turns l, first_node a (turns l)) z ((turns l, complete l) ∷ (complete l, first_node rest m) ∷ (la ++ lr)) (contains_later (turns l, complete l) z ((complete l, first_node rest m) ∷ (la ++ lr)) (contains_later (complete l, first_node rest m) z (la ++ lr) q)))) in
    elim (ℕ_discrete (node_number i) k) [
      | yes at ↦ while_way p o k l e a rest next m i j u h g at is c
      | no d ↦ elim (ℕ_discrete (node_number i) (suc k)) [
        | yes at ↦ turn_way p o k l e a rest next m i j u h at is c
        | no f ↦ either_of (cases_lt (node_number i) end)
            (λ in_a. way_in p o.number la all u j (λ z q. inner z (Contains-append_left la lr z q))
            (link_found p o first a (n.Start (suc k)) (turns l) last (loop_body p o k l e a rest next h) back.1 i j u (omega arith) in_a is c))
            (λ past. way_in p o.number lr all u j (λ z q. inner z (Contains-append_right la lr z q))
            (link_found p o end rest next m last (rest_of_loop p o k l e a rest next h) g i j u past (omega (arith, high, many)) is c))
      ]
    ]
