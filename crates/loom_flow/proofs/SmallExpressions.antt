-- The expressions of a program have few nodes, by the rules.
use Rattle.std.proofs.Common.{ℕ, suc, List, [], ◌∷◌, Some, None}
use Rattle.std.specs.List.{AllByRecursion}
use Rattle.loom_tree.specs.Tree.{Expression, Right, Simple, let_, set, set_cell, return, Body, end, simple, if_, while_, Function, Source}
use Rattle.loom_tree.specs.Tree as tree
use Rattle.loom_expression.specs.Text.{node_limit}
use Rattle.loom_lang.specs.WellFormed.{IsWellFormed, IsWellFormedRight, IsWellFormedStatement, IsWellFormedBlock}
use Rattle.loom_lang.specs.Rules.{KeepsRules, FunctionsKeepRules}
use Rattle.loom_flow.specs.Depth.{AreSmall, IsSmallRight, IsSmallSimple, IsSmallBody, AreSmallFunctions, HasSmallBodies}

small_all : (es : List Expression) → AllByRecursion IsWellFormed es → AreSmall node_limit es
small_all [] h = tt
small_all (e ∷ es) h = (h.0.nodes, small_all es h.1)

small_right : (r : Right Expression) → IsWellFormedRight r → IsSmallRight node_limit r
small_right (Right.value e) h = h.nodes
small_right (Right.call f es) h = small_all es h
small_right (Right.spawn f es) h = small_all es h

small_simple : (x : Simple Expression) → IsWellFormedStatement x → IsSmallSimple node_limit x
small_simple (let_ x r) h = small_right r h
small_simple (set x r) h = small_right r h
small_simple (set_cell x i e) h = (h.0.nodes, h.1.nodes)
small_simple (Simple.call f es) h = small_all es h
small_simple (return None) h = tt
small_simple (return (Some e)) h = h.nodes
small_simple (tree.join e) h = h.nodes
small_simple (tree.print e) h = h.nodes
small_simple (tree.lock x) h = tt
small_simple (tree.unlock x) h = tt
small_simple (tree.down x) h = tt
small_simple (tree.up x) h = tt
small_simple tree.skip h = tt

small_body : (k : ℕ) (b : Body) → IsWellFormedBlock k b → IsSmallBody node_limit b
small_body k end h = tt
small_body k (simple l x rest) h = (small_simple x h.0, small_body k rest h.1)
small_body k (if_ l e a b rest) h = (h.0.0.nodes, small_body (suc k) a h.0.2, small_body (suc k) b h.0.3, small_body k rest h.1)
small_body k (while_ l e a rest) h = (h.0.0.nodes, small_body (suc k) a h.0.2, small_body k rest h.1)

small_functions : (p : Source) (fs : List Function) → FunctionsKeepRules p fs → AreSmallFunctions node_limit fs
small_functions p [] h = tt
small_functions p (f ∷ fs) h = (small_body 1 f.body h.0.form, small_functions p fs h.1)

pub small_program : (p : Source) → KeepsRules p → HasSmallBodies node_limit p
small_program p h = small_functions p p.funcs h.functions
