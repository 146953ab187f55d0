-- How a line of tasks lies in a pool: each of its nodes is linked to the next. No clause of a queue speaks of it.
use Rattle.std.specs.Prelude.{◌≡◌, ◌≢◌, ℕ, zero, suc, ◌+◌, ◌<◌, ◌^◌, List, [], ◌∷◌, length, map, Option, Some, None}
use Rattle.std.specs.Prelude.{option_map, unwrap_or, slice_get}
use Rattle.sched_base.specs.declared.task.Task.{Task}
use Rattle.node_pool.specs.declared.Held.{Held}
use Rattle.node_pool.specs.Nodes.{Nodes, free_of, held_at, with_link}
use Rattle.run_queue.specs.declared.line.Spot.{Spot}

-- a node of the line, with its task
pub record Cell : Type 0 where
  pub node : ℕ
  pub task : Task

-- a line as its own calls see it: its nodes in order, and how many tasks have room
pub record LineView : Type 0 where
  pub cells : List Cell
  pub room : ℕ

abbrev pub tasks_of : List Cell → List Task
tasks_of cells = map (λ (cell : Cell). cell.task) cells

-- the node in that place of the line
abbrev pub node_at : List Cell → ℕ → Option ℕ
node_at cells k = option_map (λ (cell : Cell). cell.node) (slice_get cells k)

-- the node before that place
abbrev pub node_before : List Cell → ℕ → Option ℕ
node_before cells zero = None
node_before cells (suc k) = node_at cells k

-- what is known of a place by who walks along the line
abbrev pub spot_at : List Cell → ℕ → Option Spot
spot_at cells k =
    option_map (λ (cell : Cell). record { before = node_before cells k; node = cell.node }) (slice_get cells k)

-- the spot is one of the line
abbrev pub IsSpot : List Cell → Spot → Type 0
IsSpot cells spot = (k : ℕ) × (spot_at cells k ≡ Some spot)

-- so many nodes along the links from there, as far as they are taken
abbrev pub cells_from : Nodes Task → Option ℕ → ℕ → List Cell
cells_from nodes at zero = []
cells_from nodes None (suc n) = []
cells_from nodes (Some node) (suc n) =
    unwrap_or
    (option_map (λ (held : Held Task). record { node = node; task = held.value } ∷ cells_from nodes held.link n)
    (held_at nodes node))
    []

-- the nodes lie in a line of these cells
pub record IsLinked (nodes : Nodes Task) (first last : Option ℕ) (cells : List Cell) : Type 0 where
  pub begins : first ≡ node_at cells 0
  pub ends : last ≡ node_before cells (length cells)
  pub held : (k : ℕ) (cell : Cell) → slice_get cells k ≡ Some cell
      → held_at nodes cell.node ≡ Some (record { value = cell.task; link = node_at cells (suc k) })
  pub apart : (i j : ℕ) (a b : Cell) → i ≢ j → slice_get cells i ≡ Some a → slice_get cells j ≡ Some b → a.node ≢ b.node

-- the nodes that are taken lie in one line
pub record IsLaid (nodes : Nodes Task) (first last : Option ℕ) (len : ℕ) : Type 0 where
  pub count : length (cells_from nodes first len) ≡ len
  pub linked : IsLinked nodes first last (cells_from nodes first len)
  pub free : free_of nodes + len ≡ length nodes
  pub small : length nodes < 2 ^ 32

-- the nodes once the one before a place is linked to that one. Where none is before, nothing changes
abbrev pub relinked : Nodes Task → Option ℕ → Option ℕ → Nodes Task
relinked nodes None next = nodes
relinked nodes (Some before) next = with_link nodes before next

-- the first node after that
abbrev pub first_after : Option ℕ → Option ℕ → Option ℕ → Option ℕ
first_after first None next = next
first_after first (Some before) next = first

-- the last node, after the one between these is gone
abbrev pub last_after : Option ℕ → Option ℕ → Option ℕ → Option ℕ
last_after last before None = before
last_after last before (Some next) = last
