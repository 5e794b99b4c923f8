-- Nodes of paths, by the numbers of places.
use Rattle.std.specs.Prelude.{ℕ, ◌≡◌, ◌==◌, Bool, false, Some}
use Rattle.loom_tree.specs.Tree.{Source}
use Rattle.loom_lang.specs.Places.{inside, back_edge, out, place_at}
use Rattle.loom_law.specs.Paths as path
use Rattle.loom_sites.specs.declared.node.TableNode.{TableNode}
use Rattle.loom_sites.specs.declared.node.TableNode.TheVariants as n

abbrev pub node_number : TableNode → ℕ
node_number (n.Start k) = k
node_number (n.Complete k) = k

abbrev pub is_same_node : TableNode → TableNode → Bool
is_same_node (n.Start j) (n.Start k) = j == k
is_same_node (n.Complete j) (n.Complete k) = j == k
is_same_node _ _ = false

-- The first is the second, a node of the links of function g.
abbrev pub IsNode : Source → ℕ → TableNode → path.Node → Type 0
IsNode p g (n.Start k) (path.begins l) = place_at p k ≡ Some (inside l)
IsNode p g (n.Start k) (path.turns l) = place_at p k ≡ Some (back_edge l)
IsNode p g (n.Start k) path.leaves = place_at p k ≡ Some (out g)
IsNode p g (n.Complete k) (path.complete l) = place_at p k ≡ Some (inside l)
IsNode p g _ _ = ⊥
