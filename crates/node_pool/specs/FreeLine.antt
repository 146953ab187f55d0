-- The line of the free nodes, as a pool keeps it. No clause of a call speaks of it.
use Rattle.std.specs.Prelude.{◌≡◌, ℕ, zero, suc, ◌<◌, ◌^◌, List, length, map, count_by, Option, Some, None, IsSome}
use Rattle.std.specs.Prelude.{is_some, unwrap_or, slice_index_or, slice_set}
use Rattle.node_pool.specs.declared.Held.{Held}
use Rattle.node_pool.specs.declared.Node.{Node}
use Rattle.node_pool.specs.declared.Node.TheVariants as node
use Rattle.node_pool.specs.Nodes.{Nodes}

-- what a contract sees of a node
abbrev pub held_of : {T : Type 0} → Node T → Option (Held T)
held_of (node.Free next) = None
held_of (node.Taken held) = Some held

-- the node with that value, if it is taken
abbrev pub valued : {T : Type 0} → Node T → T → Node T
valued (node.Free next) value = node.Free next
valued (node.Taken held) value = node.Taken (record held { value = value })

-- of a free node, which free one comes next
abbrev pub next_of : {T : Type 0} → Node T → Option (Option ℕ)
next_of (node.Free next) = Some next
next_of (node.Taken held) = None

-- from this node on the line passes so many nodes, which are all the free ones: once the first is taken, the rest
-- of the line has those that are still free
abbrev pub IsFreeLine : List (Option (Option ℕ)) → Option ℕ → ℕ → Type 0
IsFreeLine nexts None zero = count_by is_some nexts ≡ 0
IsFreeLine nexts None (suc free) = ⊥
IsFreeLine nexts (Some at) zero = ⊥
IsFreeLine nexts (Some at) (suc free) =
    IsSome (slice_index_or nexts at None)
    × IsFreeLine (slice_set nexts at None) (unwrap_or (slice_index_or nexts at None) None) free

-- the nodes with their line
pub record IsLined {T : Type 0} (nodes : List (Node T)) (first : Option ℕ) (free : ℕ) : Type 0 where
  pub few : length nodes < 2 ^ 32
  pub line : IsFreeLine (map next_of nodes) first free

-- what a contract sees of the nodes
abbrev pub nodes_of : {T : Type 0} → List (Node T) → Nodes T
nodes_of nodes = map held_of nodes
