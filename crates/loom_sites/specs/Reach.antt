-- The nodes to which paths come, in a table of places.
use Rattle.std.specs.Prelude.{ℕ, zero, suc, ◌+◌, ◌*◌, ◌≡◌, ◌<◌, ◌⊎◌, Bool, true, false, ◌||◌, List, [], ◌∷◌, ◌++◌, length, slice_get, Option, Some, None, if◌then◌else◌}
use Rattle.std.specs.List.{Contains}
use Rattle.loom_trace.specs.Places.{has_place}
use Rattle.loom_sites.specs.declared.node.TableNode.{TableNode}
use Rattle.loom_sites.specs.declared.node.TableNode.TheVariants as n
use Rattle.loom_sites.specs.declared.links.PlaceLinks.{PlaceLinks}
use Rattle.loom_sites.specs.declared.reach.NodeSet.{NodeSet}
use Rattle.loom_sites.specs.Nodes.{node_number, is_same_node}

-- the nodes behind a node
abbrev pub nexts_if : Option PlaceLinks → TableNode → List TableNode
nexts_if None m = []
nexts_if (Some row) (n.Start k) = row.first ∷ row.second ∷ []
nexts_if (Some row) (n.Complete k) = row.behind ∷ []

abbrev pub nexts : List PlaceLinks → TableNode → List TableNode
nexts rows m = nexts_if (slice_get rows (node_number m)) m

-- paths end before the completions at these places
abbrev pub is_halted : List ℕ → TableNode → Bool
is_halted halts (n.Start k) = false
is_halted halts (n.Complete k) = has_place halts k

-- A path comes from a start at one of these places to the node.
pub data HasPathTo (rows : List PlaceLinks) (starts halts : List ℕ) : TableNode → Type 0 where
  from : {k : ℕ} → k < length rows → has_place starts k ≡ true → HasPathTo rows starts halts (n.Start k)
  goes : {l m : TableNode} → HasPathTo rows starts halts l → Contains (nexts rows l) m → is_halted halts m ≡ false → HasPathTo rows starts halts m

-- sets of nodes

abbrev pub has_node : NodeSet → TableNode → Bool
has_node r (n.Start k) = has_place r.starts k
has_node r (n.Complete k) = has_place r.completions k

-- the set, and one node
abbrev pub IsWith : TableNode → NodeSet → NodeSet → Type 0
IsWith m r s = (o : TableNode) → has_node s o ≡ (if is_same_node o m then true else has_node r o)

-- Where a path comes to a node that isn't in the set, and doesn't end before, it is put there, and is to be gone on from.
abbrev pub Visits : List ℕ → TableNode → NodeSet → List TableNode → NodeSet → List TableNode → Type 0
Visits halts m r ms s os =
    (((has_node r m || is_halted halts m) ≡ true) × ((s ≡ r) × (os ≡ ms)))
    ⊎ (((has_node r m || is_halted halts m) ≡ false) × (IsWith m r s × (os ≡ ms ++ m ∷ [])))

-- one after the other
abbrev pub VisitsEach : List ℕ → List TableNode → NodeSet → List TableNode → NodeSet → List TableNode → Type 0
VisitsEach halts [] r ms s os = (s ≡ r) × (os ≡ ms)
VisitsEach halts (m ∷ more) r ms s os = (t : NodeSet) × ((ns : List TableNode) × (Visits halts m r ms t ns × VisitsEach halts more t ns s os))

-- What holds while paths are gone on from these nodes: each start below the number is in the set, and what is behind a node of the set is in it too, or
-- the node is still to be gone on from.
pub record IsWalked (rows : List PlaceLinks) (starts halts : List ℕ) (count : ℕ) (r : NodeSet) (todo : List TableNode) : Type 0 where
  pub sound : (m : TableNode) → has_node r m ≡ true → HasPathTo rows starts halts m
  pub started : (k : ℕ) → k < count → has_place starts k ≡ true → has_node r (n.Start k) ≡ true
  pub within : (m : TableNode) → Contains todo m → node_number m < length rows
  pub marked : (m : TableNode) → Contains todo m → has_node r m ≡ true
  pub closed : (l m : TableNode) → has_node r l ≡ true → Contains (nexts rows l) m → is_halted halts m ≡ false → (has_node r m ≡ true) ⊎ Contains todo l

-- how many numbers below a number don't meet a test
unfoldable pub left_out : (ℕ → Bool) → ℕ → ℕ
left_out test zero = 0
left_out test (suc k) = if test k then left_out test k else suc (left_out test k)

-- what is left to be done over so many places: each node outside the set counts for two, each that is to be gone on from for one
abbrev pub left_to_do : ℕ → NodeSet → List TableNode → ℕ
left_to_do count r todo = 2 * (left_out (has_place r.starts) count + left_out (has_place r.completions) count) + length todo
