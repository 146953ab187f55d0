-- The heap of a line, and what a queue keeps. No clause of a queue speaks of it.
use Rattle.std.specs.Prelude.{◌≡◌, ℕ, ◌==◌, ◌<◌, ◌≤◌, ◌^◌, List, All, Contains, Some, count_by, length, slice_get}
use Rattle.std.specs.Prelude.{sum_by}
use Rattle.sched_base.specs.declared.task.Task.{Task}
use Rattle.policy_tree.specs.Meaning.{KeyTree}
use Rattle.run_queue.specs.declared.ranked.Ranked.{Ranked}
use Rattle.run_queue.specs.Code.Ahead.{AreApart, ahead}
use Rattle.run_queue.specs.Code.Heaps.{IsHeap}
use Rattle.run_queue.specs.Code.Lines.{Cell, LineView, tasks_of}
use Rattle.run_queue.specs.Code.Scans.{CanScan}

-- the items are the nodes of the line, each once, and their numbers rise along the line
pub record IsRanked (cells : List Cell) (items : List Ranked) : Type 0 where
  pub count : length items ≡ length cells
  pub once : (node : ℕ) → count_by (λ (item : Ranked). item.node == node) items
      ≡ count_by (λ (cell : Cell). cell.node == node) cells
  pub rises : (i j : ℕ) (x y : Cell) (a b : Ranked) → i < j → slice_get cells i ≡ Some x → slice_get cells j ≡ Some y
      → Contains items a → Contains items b → a.node ≡ x.node → b.node ≡ y.node → a.arrival < b.arrival

-- the node is that of an item
abbrev pub HasItem : List Ranked → ℕ → Type 0
HasItem items node = (item : Ranked) × Contains items item × (item.node ≡ node)

-- the items came before that number
abbrev pub CameBefore : ℕ → List Ranked → Type 0
CameBefore next items = All (λ (item : Ranked). item.arrival < next) items

-- the items are a heap of the line
pub record IsHeapOf (keys : List KeyTree) (cells : List Cell) (items : List Ranked) : Type 0 where
  pub scan : CanScan keys (tasks_of cells)
  pub apart : AreApart cells
  pub ranked : IsRanked cells items
  pub heap : IsHeap (ahead keys cells) items

abbrev pub weights : List Task → ℕ
weights tasks = sum_by (λ (t : Task). t.weight) tasks

-- what holds of a queue between its calls
pub record IsKept (keys : List KeyTree) (line : LineView) (items : List Ranked) (capacity next sum : ℕ) : Type 0 where
  pub heap : IsHeapOf keys line.cells items
  pub came : CameBefore next items
  pub room : line.room ≤ capacity
  pub small : line.room < 2 ^ 32
  pub added : sum ≡ weights (tasks_of line.cells)
  pub light : All (λ (t : Task). t.weight < 2 ^ 32) (tasks_of line.cells)
