-- The table of the places of a program.
use Rattle.std.specs.Prelude.{ℕ, suc, ◌+◌, List, [], ◌∷◌, ◌++◌, Option, Some, None, Bool, true, false, ◌==◌}
use Rattle.loom_tree.specs.Tree.{Expression, Right, Simple, let_, set, return, Body, simple, if_, while_, Function, Source}
use Rattle.loom_tree.specs.Tree as tree
use Rattle.loom_lang.specs.Numbers.{function_number}
use Rattle.loom_flow.specs.FlatCode.{place_count}
use Rattle.loom_sites.specs.declared.node.TableNode.{TableNode}
use Rattle.loom_sites.specs.declared.node.TableNode.TheVariants as n
use Rattle.loom_sites.specs.declared.links.PlaceKind.{PlaceKind}
use Rattle.loom_sites.specs.declared.links.PlaceKind.TheVariants as kind
use Rattle.loom_sites.specs.declared.links.PlaceLinks.{PlaceLinks}
use Rattle.loom_sites.specs.declared.links.Owner.{Owner}

-- what stands at a place

abbrev pub is_statement : PlaceKind → Bool
is_statement kind.Entry = false
is_statement kind.Out = false
is_statement kind.Turn = false
is_statement kind.Plain = true
is_statement kind.Return = true
is_statement (kind.Call f) = true

abbrev pub is_entry : PlaceKind → Bool
is_entry kind.Entry = true
is_entry _ = false

abbrev pub is_turn : PlaceKind → Bool
is_turn kind.Turn = true
is_turn _ = false

abbrev pub is_return_kind : PlaceKind → Bool
is_return_kind kind.Return = true
is_return_kind _ = false

-- a statement that itself calls function g
abbrev pub is_call_of : ℕ → PlaceKind → Bool
is_call_of g (kind.Call f) = f == g
is_call_of g _ = false

abbrev pub kind_if : Option ℕ → PlaceKind
kind_if None = kind.Plain
kind_if (Some f) = kind.Call f

abbrev pub call_kind : Source → List ℕ → PlaceKind
call_kind p f = kind_if (function_number p f)

abbrev pub right_kind : Source → Right Expression → PlaceKind
right_kind p (Right.value e) = kind.Plain
right_kind p (Right.call f es) = call_kind p f
right_kind p (Right.spawn f es) = kind.Plain

abbrev pub simple_kind : Source → Simple Expression → PlaceKind
simple_kind p (let_ x r) = right_kind p r
simple_kind p (set x r) = right_kind p r
simple_kind p (Simple.call f es) = call_kind p f
simple_kind p (return e) = kind.Return
simple_kind p _ = kind.Plain

-- rows

-- the first node of statements whose places begin with number k, or the node behind them
abbrev pub first_at : Body → ℕ → TableNode → TableNode
first_at tree.end k next = next
first_at (simple l s rest) k next = n.Start k
first_at (if_ l e a b rest) k next = n.Start k
first_at (while_ l e a rest) k next = n.Start k

-- a `return` leaves the function
abbrev pub next_simple : Owner → Simple Expression → TableNode → TableNode
next_simple o (return e) next = n.Start o.out
next_simple o s next = next

abbrev pub frame_row : PlaceKind → ℕ → ℕ → PlaceLinks
frame_row x k f = record { first = n.Start k; second = n.Start k; behind = n.Start k; end = k; function = f; kind = x }

abbrev pub simple_row : Owner → ℕ → PlaceKind → TableNode → PlaceLinks
simple_row o k x next = record { first = n.Complete k; second = n.Complete k; behind = next; end = suc k; function = o.number; kind = x }

abbrev pub block_row : Owner → PlaceKind → TableNode → TableNode → TableNode → ℕ → PlaceLinks
block_row o x first second next end = record { first = first; second = second; behind = next; end = end; function = o.number; kind = x }

-- the rows of statements whose places begin with number k, with the node behind them
abbrev pub body_rows : Source → Owner → ℕ → Body → TableNode → List PlaceLinks
body_rows p o k tree.end next = []
body_rows p o k (simple l s rest) next =
    simple_row o k (simple_kind p s) (next_simple o s (first_at rest (suc k) next)) ∷ body_rows p o (suc k) rest next
body_rows p o k (if_ l e a b rest) next =
    let other : ℕ = suc k + place_count a in
    let end : ℕ = other + place_count b in
    block_row o kind.Plain (first_at a (suc k) (n.Complete k)) (first_at b other (n.Complete k)) (first_at rest end next) end
    ∷ (body_rows p o (suc k) a (n.Complete k) ++ (body_rows p o other b (n.Complete k) ++ body_rows p o end rest next))
body_rows p o k (while_ l e a rest) next =
    let first : ℕ = suc (suc k) in
    let end : ℕ = first + place_count a in
    let turn : TableNode = n.Start (suc k) in
    block_row o kind.Plain (first_at a first turn) (n.Complete k) (first_at rest end next) end
    ∷ block_row o kind.Turn (first_at a first turn) (n.Complete k) (first_at rest end next) end
    ∷ (body_rows p o first a turn ++ body_rows p o end rest next)

-- the out place of a function whose entry place has number k
abbrev pub out_behind : ℕ → Function → ℕ
out_behind k f = suc k + place_count f.body

-- those of functions, the first of which has number m, and an entry place of number k
abbrev pub functions_rows : Source → ℕ → ℕ → List Function → List PlaceLinks
functions_rows p m k [] = []
functions_rows p m k (f ∷ fs) =
    frame_row kind.Entry k m
    ∷ (body_rows p (record { number = m; out = out_behind k f }) (suc k) f.body (n.Start (out_behind k f))
    ++ frame_row kind.Out (out_behind k f) m
    ∷ functions_rows p (suc m) (suc (out_behind k f)) fs)

abbrev pub program_rows : Source → List PlaceLinks
program_rows p = frame_row kind.Entry 0 0 ∷ functions_rows p 0 1 p.funcs
