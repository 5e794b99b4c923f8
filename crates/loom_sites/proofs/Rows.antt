-- The rows of a table: how many there are, how they are put, and that they lead nowhere else.
use Rattle.std.proofs.Common.{ℕ, zero, suc, ◌+◌, ◌<◌, ◌≤◌, ◌≡◌, List, [], ◌∷◌, ◌++◌, length, length-append, append_assoc, slice_get, Option, Some, None, refl, sym, ap, subst, ◌∙◌, arith}
use Rattle.std.proofs.lemmas.List.{append-nil}
use Rattle.loom_tree.specs.declared.statement.Kind.{Kind}
use Rattle.loom_tree.specs.declared.statement.Kind.TheVariants as k
use Rattle.loom_tree.specs.Tree.{Expression, Right, Simple, let_, set, return, Body, simple, if_, while_, Function, Source, behind, body_of, right_of, returned_of, expression_of, expressions_of}
use Rattle.loom_tree.specs.Tree as tree
use Rattle.loom_lang.specs.Limits.{function_limit}
use Rattle.loom_lang.specs.Numbers.{function_number}
use Rattle.loom_lang.specs.Rules.{KeepsRules}
use Rattle.loom_lang.specs.Places.{Place, body_places, places_from, places}
use Rattle.loom_lang.specs.Places as place
use Rattle.loom_flow.specs.FlatCode.{place_count}
use Rattle.loom_flow.proofs.Places.{few_places}
use Rattle.loom_plan.specs.Table.{inner_places}
use Rattle.loom_plan.proofs.Walks.{function_within}
use Rattle.loom_sites.specs.declared.node.TableNode.{TableNode}
use Rattle.loom_sites.specs.declared.node.TableNode.TheVariants as n
use Rattle.loom_sites.specs.declared.links.PlaceKind.{PlaceKind}
use Rattle.loom_sites.specs.declared.links.PlaceKind.TheVariants as kind
use Rattle.loom_sites.specs.declared.links.PlaceLinks.{PlaceLinks}
use Rattle.loom_sites.specs.declared.links.Owner.{Owner}
use Rattle.loom_sites.specs.Nodes.{node_number}
use Rattle.loom_sites.specs.Links.{kind_if, call_kind, right_kind, simple_kind, first_at, next_simple, frame_row, block_row, body_rows, out_behind, functions_rows, program_rows}
use Rattle.loom_sites.specs.Rows.{IsFewCall, IsRowOf, IsTable}

-- How many there are

pub length_rows : (p : Source) (o : Owner) (j : ℕ) (b : Body) (next : TableNode) → length (body_rows p o j b next) ≡ place_count b
length_rows p o j tree.end next = refl
length_rows p o j (simple l s rest) next = ap suc (length_rows p o (suc j) rest next)
length_rows p o j (if_ l e a b rest) next =
    let other : ℕ = suc j + place_count a in
    let end : ℕ = other + place_count b in
    let xs : List PlaceLinks = body_rows p o (suc j) a (n.Complete j) in
    let ys : List PlaceLinks = body_rows p o other b (n.Complete j) in
    let zs : List PlaceLinks = body_rows p o end rest next in
    let h = length_rows p o (suc j) a (n.Complete j) in
    let g = length_rows p o other b (n.Complete j) in
    let i = length_rows p o end rest next in
    omega (arith, h, g, i, length-append xs (ys ++ zs), length-append ys zs, length-append (body_places a) (body_places b ++ body_places rest), length-append (body_places b) (body_places rest))
length_rows p o j (while_ l e a rest) next =
    let first : ℕ = suc (suc j) in
    let end : ℕ = first + place_count a in
    let xs : List PlaceLinks = body_rows p o first a (n.Start (suc j)) in
    let zs : List PlaceLinks = body_rows p o end rest next in
    let h = length_rows p o first a (n.Start (suc j)) in
    let i = length_rows p o end rest next in
    omega (arith, h, i, length-append xs zs, length-append (body_places a) (body_places rest))

pub length_functions : (p : Source) (m j : ℕ) (fs : List Function) → length (functions_rows p m j fs) ≡ length (places_from m fs)
length_functions p m j [] = refl
length_functions p m j (f ∷ fs) =
    let out : ℕ = out_behind j f in
    let xs : List PlaceLinks = body_rows p (record { number = m; out = out }) (suc j) f.body (n.Start out) in
    let ys : List PlaceLinks = functions_rows p (suc m) (suc out) fs in
    let h = length_rows p (record { number = m; out = out }) (suc j) f.body (n.Start out) in
    let g = length_functions p (suc m) (suc out) fs in
    omega (arith, h, g, length-append xs (frame_row kind.Out out m ∷ ys), length-append (body_places f.body) (place.out m ∷ places_from (suc m) fs))

pub as_many_rows : (p : Source) → length (program_rows p) ≡ length (places p)
as_many_rows p = ap suc (length_functions p 0 1 p.funcs)

-- A statement, and the statements behind it

pub simple_split : (p : Source) (o : Owner) (j i l : ℕ) (s : Simple Expression) (rest : Body) (next : TableNode) → i ≡ suc j
    → body_rows p o j (simple l s rest) next ≡ body_rows p o j (simple l s tree.end) (first_at rest i next) ++ body_rows p o i rest next
simple_split p o j i l s rest next e =
    let P : ℕ → Type 0 = λ z. body_rows p o j (simple l s rest) next ≡ body_rows p o j (simple l s tree.end) (first_at rest z next) ++ body_rows p o z rest next in
    subst P (sym e) refl

three : {A : Type 0} (xs ys zs : List A) → xs ++ (ys ++ zs) ≡ (xs ++ (ys ++ [])) ++ zs
three xs ys zs = sym (append_assoc xs (ys ++ []) zs ∙ ap (λ ws. xs ++ ws) (append_assoc ys [] zs))

two : {A : Type 0} (xs zs : List A) → xs ++ zs ≡ (xs ++ []) ++ zs
two xs zs = ap (λ ws. ws ++ zs) (sym (append-nil xs))

pub if_split : (p : Source) (o : Owner) (j i l : ℕ) (e : Expression) (a b rest : Body) (next : TableNode) → i ≡ suc j + place_count a + place_count b
    → body_rows p o j (if_ l e a b rest) next ≡ body_rows p o j (if_ l e a b tree.end) (first_at rest i next) ++ body_rows p o i rest next
if_split p o j i l e a b rest next h =
    let other : ℕ = suc j + place_count a in
    let end : ℕ = other + place_count b in
    let P : ℕ → Type 0 = λ z. body_rows p o j (if_ l e a b rest) next ≡ body_rows p o j (if_ l e a b tree.end) (first_at rest z next) ++ body_rows p o z rest next in
    subst P (sym h)
    (ap (λ ws. block_row o kind.Plain (first_at a (suc j) (n.Complete j)) (first_at b other (n.Complete j)) (first_at rest end next) end ∷ ws)
    (three (body_rows p o (suc j) a (n.Complete j)) (body_rows p o other b (n.Complete j)) (body_rows p o end rest next)))

pub while_split : (p : Source) (o : Owner) (j i l : ℕ) (e : Expression) (a rest : Body) (next : TableNode) → i ≡ suc (suc j) + place_count a
    → body_rows p o j (while_ l e a rest) next ≡ body_rows p o j (while_ l e a tree.end) (first_at rest i next) ++ body_rows p o i rest next
while_split p o j i l e a rest next h =
    let first : ℕ = suc (suc j) in
    let end : ℕ = first + place_count a in
    let turn : TableNode = n.Start (suc j) in
    let P : ℕ → Type 0 = λ z. body_rows p o j (while_ l e a rest) next ≡ body_rows p o j (while_ l e a tree.end) (first_at rest z next) ++ body_rows p o z rest next in
    subst P (sym h)
    (ap (λ ws. block_row o kind.Plain (first_at a first turn) (n.Complete j) (first_at rest end next) end ∷ (block_row o kind.Turn (first_at a first turn) (n.Complete j) (first_at rest end next) end ∷ ws))
    (two (body_rows p o first a turn) (body_rows p o end rest next)))

-- by the kind of the first statement
pub rows_split : (p : Source) (o : Owner) (j i l : ℕ) (s : Kind) (rest : Body) (next : TableNode) → i ≡ j + suc (length (inner_places s))
    → body_rows p o j (behind l s rest) next ≡ body_rows p o j (behind l s tree.end) (first_at rest i next) ++ body_rows p o i rest next
rows_split p o j i l (k.If e a b) rest next h =
    let many = length-append (body_places (body_of a)) (body_places (body_of b)) in
    if_split p o j i l (expression_of e) (body_of a) (body_of b) rest next (omega (arith, h, many))
rows_split p o j i l (k.While e a) rest next h = while_split p o j i l (expression_of e) (body_of a) rest next (omega (arith, h))
rows_split p o j i l (k.Let x e) rest next h = simple_split p o j i l (let_ x (right_of e)) rest next (omega (arith, h))
rows_split p o j i l (k.Set x e) rest next h = simple_split p o j i l (set x (right_of e)) rest next (omega (arith, h))
rows_split p o j i l (k.SetCell x y e) rest next h = simple_split p o j i l (tree.set_cell x (expression_of y) (expression_of e)) rest next (omega (arith, h))
rows_split p o j i l (k.Call x e) rest next h = simple_split p o j i l (Simple.call x (expressions_of e)) rest next (omega (arith, h))
rows_split p o j i l (k.Return e) rest next h = simple_split p o j i l (return (returned_of e)) rest next (omega (arith, h))
rows_split p o j i l (k.Lock x) rest next h = simple_split p o j i l (tree.lock x) rest next (omega (arith, h))
rows_split p o j i l (k.Unlock x) rest next h = simple_split p o j i l (tree.unlock x) rest next (omega (arith, h))
rows_split p o j i l (k.Down x) rest next h = simple_split p o j i l (tree.down x) rest next (omega (arith, h))
rows_split p o j i l (k.Up x) rest next h = simple_split p o j i l (tree.up x) rest next (omega (arith, h))
rows_split p o j i l (k.Join e) rest next h = simple_split p o j i l (tree.join (expression_of e)) rest next (omega (arith, h))
rows_split p o j i l (k.Print e) rest next h = simple_split p o j i l (tree.print (expression_of e)) rest next (omega (arith, h))
rows_split p o j i l k.Skip rest next h = simple_split p o j i l tree.skip rest next (omega (arith, h))

plus_one : (m : ℕ) → suc m ≡ 1 + m
plus_one m = omega arith

pub count_split : (l : ℕ) (s : Kind) (rest : Body) → place_count (behind l s rest) ≡ suc (length (inner_places s)) + place_count rest
count_split l (k.If e a b) rest =
    omega (arith, length-append (body_places (body_of a)) (body_places (body_of b) ++ body_places rest), length-append (body_places (body_of b)) (body_places rest), length-append (body_places (body_of a)) (body_places (body_of b)))
count_split l (k.While e a) rest = omega (arith, length-append (body_places (body_of a)) (body_places rest))
count_split l _ rest = plus_one (place_count rest)

-- Rows of functions, one behind the others

-- Where rows lead

abbrev pub AreRowsOf : ℕ → List PlaceLinks → Type 0
AreRowsOf count [] = Unit {0}
AreRowsOf count (row ∷ rows) = IsRowOf count row × AreRowsOf count rows

of_both : (count : ℕ) (xs ys : List PlaceLinks) → AreRowsOf count xs → AreRowsOf count ys → AreRowsOf count (xs ++ ys)
of_both count [] ys h g = g
of_both count (x ∷ xs) ys h g = (h.0, of_both count xs ys h.1 g)

few_if : (o : Option ℕ) → ((g : ℕ) → o ≡ Some g → g < function_limit) → IsFewCall (kind_if o)
few_if None h = tt
few_if (Some g) h = h g refl

few_call : (p : Source) (x : List ℕ) → KeepsRules p → IsFewCall (call_kind p x)
few_call p x rules = few_if (function_number p x) (λ g e. (let low = function_within p x g e in let few = rules.function_count in omega (arith, low, few)))

few_right : (p : Source) (r : Right Expression) → KeepsRules p → IsFewCall (right_kind p r)
few_right p (Right.value e) rules = tt
few_right p (Right.call f es) rules = few_call p f rules
few_right p (Right.spawn f es) rules = tt

few_simple : (p : Source) (s : Simple Expression) → KeepsRules p → IsFewCall (simple_kind p s)
few_simple p (let_ x r) rules = few_right p r rules
few_simple p (set x r) rules = few_right p r rules
few_simple p (Simple.call f es) rules = few_call p f rules
few_simple p (return e) rules = tt
few_simple p (tree.set_cell x i e) rules = tt
few_simple p (tree.lock x) rules = tt
few_simple p (tree.unlock x) rules = tt
few_simple p (tree.down x) rules = tt
few_simple p (tree.up x) rules = tt
few_simple p (tree.join e) rules = tt
few_simple p (tree.print e) rules = tt
few_simple p tree.skip rules = tt

-- the first node of statements whose places lie below a number
first_within : (count j : ℕ) (b : Body) (next : TableNode) → node_number next < count → j + place_count b ≤ count → node_number (first_at b j next) < count
first_within count j tree.end next h g = h
first_within count j (simple l s rest) next h g = omega (arith, g)
first_within count j (if_ l e a b rest) next h g = omega (arith, g)
first_within count j (while_ l e a rest) next h g = omega (arith, g)

simple_within : (count : ℕ) (o : Owner) (s : Simple Expression) (next : TableNode) → o.out < count → node_number next < count → node_number (next_simple o s next) < count
simple_within count o (return e) next h g = h
simple_within count o (let_ x r) next h g = g
simple_within count o (set x r) next h g = g
simple_within count o (Simple.call f es) next h g = g
simple_within count o (tree.set_cell x i e) next h g = g
simple_within count o (tree.lock x) next h g = g
simple_within count o (tree.unlock x) next h g = g
simple_within count o (tree.down x) next h g = g
simple_within count o (tree.up x) next h g = g
simple_within count o (tree.join e) next h g = g
simple_within count o (tree.print e) next h g = g
simple_within count o tree.skip next h g = g

rows_within : (p : Source) (o : Owner) (count j : ℕ) (b : Body) (next : TableNode) → KeepsRules p → o.number < function_limit → o.out < count → node_number next < count → j + place_count b ≤ count
    → AreRowsOf count (body_rows p o j b next)
rows_within p o count j tree.end next rules few out after room = tt
rows_within p o count j (simple l s rest) next rules few out after room = (
  record {
    first = omega (arith, room);
    second = omega (arith, room);
    behind = simple_within count o s (first_at rest (suc j) next) out (first_within count (suc j) rest next after (omega (arith, room)));
    end = omega (arith, room);
    function = few;
    call = few_simple p s rules;
  },
  rows_within p o count (suc j) rest next rules few out after (omega (arith, room)),
)
rows_within p o count j (if_ l e a b rest) next rules few out after room =
    let other : ℕ = suc j + place_count a in
    let end : ℕ = other + place_count b in
    let many = length-append (body_places a) (body_places b ++ body_places rest) in
    let more = length-append (body_places b) (body_places rest) in
    let low : j < count = omega (arith, room, many, more) in
    let at_a : suc j + place_count a ≤ count = omega (arith, room, many, more) in
    let at_b : other + place_count b ≤ count = omega (arith, room, many, more) in
    let at_rest : end + place_count rest ≤ count = omega (arith, room, many, more) in (
      record {
        first = first_within count (suc j) a (n.Complete j) low at_a;
        second = first_within count other b (n.Complete j) low at_b;
        behind = first_within count end rest next after at_rest;
        end = at_b;
        function = few;
        call = tt;
      },
      of_both count (body_rows p o (suc j) a (n.Complete j)) (body_rows p o other b (n.Complete j) ++ body_rows p o end rest next)
          (rows_within p o count (suc j) a (n.Complete j) rules few out low at_a)
          (of_both count (body_rows p o other b (n.Complete j)) (body_rows p o end rest next)
          (rows_within p o count other b (n.Complete j) rules few out low at_b) (rows_within p o count end rest next rules few out after at_rest)),
    )
rows_within p o count j (while_ l e a rest) next rules few out after room =
    let first : ℕ = suc (suc j) in
    let end : ℕ = first + place_count a in
    let turn : TableNode = n.Start (suc j) in
    let many = length-append (body_places a) (body_places rest) in
    let low : suc j < count = omega (arith, room, many) in
    let own : j < count = omega (arith, low) in
    let at_a : first + place_count a ≤ count = omega (arith, room, many) in
    let at_rest : end + place_count rest ≤ count = omega (arith, room, many) in
    let row : (x : PlaceKind) → IsFewCall x → IsRowOf count (block_row o x (first_at a first turn) (n.Complete j) (first_at rest end next) end) =
    λ x c. record { first = first_within count first a turn low at_a; second = own; behind = first_within count end rest next after at_rest; end = at_a; function = few; call = c } in (
      row kind.Plain tt,
      (
        row kind.Turn tt,
        of_both count (body_rows p o first a turn) (body_rows p o end rest next)
            (rows_within p o count first a turn rules few out low at_a) (rows_within p o count end rest next rules few out after at_rest),
      ),
    )

frame_within : (count j f : ℕ) (x : PlaceKind) → j < count → f < function_limit → IsFewCall x → IsRowOf count (frame_row x j f)
frame_within count j f x low few c = record { first = low; second = low; behind = low; end = omega (arith, low); function = few; call = c }

functions_within : (p : Source) (count m j : ℕ) (fs : List Function) → KeepsRules p → m + length fs ≤ function_limit → j + length (places_from m fs) ≤ count → AreRowsOf count (functions_rows p m j fs)
functions_within p count m j [] rules few room = tt
functions_within p count m j (f ∷ fs) rules few room =
    let out : ℕ = out_behind j f in
    let many = length-append (body_places f.body) (place.out m ∷ places_from (suc m) fs) in
    let small : m < function_limit = omega (arith, few) in
    let last : out < count = omega (arith, room, many) in (
      frame_within count j m kind.Entry (omega (arith, last)) small tt,
      of_both count (body_rows p (record { number = m; out = out }) (suc j) f.body (n.Start out)) (frame_row kind.Out out m ∷ functions_rows p (suc m) (suc out) fs)
          (rows_within p (record { number = m; out = out }) count (suc j) f.body (n.Start out) rules small last last (omega (arith, last)))
          (frame_within count out m kind.Out last small tt, functions_within p count (suc m) (suc out) fs rules (omega (arith, few)) (omega (arith, room, many))),
    )

row_of : (count : ℕ) (rows : List PlaceLinks) (j : ℕ) (row : PlaceLinks) → AreRowsOf count rows → slice_get rows j ≡ Some row → IsRowOf count row
row_of count [] j row h e = cc
row_of count (x ∷ rows) zero row h e = let same : x ≡ row = cc in let P : PlaceLinks → Type 0 = λ z. IsRowOf count z in subst P same h.0
row_of count (x ∷ rows) (suc j) row h e = row_of count rows j row h.1 e

pub program_table : (p : Source) → KeepsRules p → IsTable (program_rows p)
program_table p rules =
    let count : ℕ = length (program_rows p) in
    let same = as_many_rows p in
    let few = few_places p rules in
    let functions = rules.function_count in
    let all : AreRowsOf count (program_rows p) = (frame_within count 0 0 kind.Entry (omega arith) (omega arith) tt, functions_within p count 0 1 p.funcs rules (omega (arith, functions)) (omega (arith, same))) in
    record { few = omega (arith, same, few); each = λ j row e. row_of count (program_rows p) j row all e }

-- the first node of a statement and those behind it
pub first_behind : (l j : ℕ) (s : Kind) (rest : Body) (next : TableNode) → n.Start j ≡ first_at (behind l s rest) j next
first_behind l j (k.If e a b) rest next = refl
first_behind l j (k.While e a) rest next = refl
first_behind l j _ rest next = refl
