-- Which of two nodes of a line comes out of its heap first. No clause of a queue speaks of it.
use Rattle.std.specs.Prelude.{◌≡◌, ◌≢◌, ℕ, ◌==◌, Bool, true, false, cond, not, nat_lt, List, [], ◌∷◌, Some, All}
use Rattle.std.specs.Prelude.{slice_get}
use Rattle.sched_base.specs.declared.task.Task.{Task}
use Rattle.policy_tree.specs.Meaning.{KeyTree}
use Rattle.run_queue.specs.declared.ranked.Ranked.{Ranked}
use Rattle.run_queue.specs.Code.Lines.{Cell, node_at}
use Rattle.run_queue.specs.Tasks.{before}

-- the node is one of the line's
abbrev pub HasNode : List Cell → ℕ → Type 0
HasNode cells node = (k : ℕ) × (node_at cells k ≡ Some node)

-- no node stands twice in the line
pub record AreApart (cells : List Cell) : Type 0 where
  pub apart : (i j : ℕ) (a b : Cell) → i ≢ j → slice_get cells i ≡ Some a → slice_get cells j ≡ Some b → a.node ≢ b.node

-- what stands for the task of a node that is none of the line's
abbrev pub no_task : Task
no_task = record { id = 0; weight = 0; attrs = []; place = record { burst = 0; done = 0 } }

-- the task of that node
abbrev pub task_at : List Cell → ℕ → Task
task_at [] node = no_task
task_at (cell ∷ cells) node = cond (cell.node == node) cell.task (task_at cells node)

-- whether the first of two comes out first: by the test, and where it tells them not apart by their numbers
abbrev pub is_sooner : {X : Type 0} → (X → X → Bool) → X → ℕ → X → ℕ → Bool
is_sooner before x m y n = cond (before x y) true (cond (nat_lt m n) (not (before y x)) false)

-- whether the first of two items comes out first: by the keys, and of equals by the number of arrival
abbrev pub ahead : List KeyTree → List Cell → Ranked → Ranked → Bool
ahead keys cells a b = is_sooner (before keys) (task_at cells a.node) a.arrival (task_at cells b.node) b.arrival

-- the nodes of the items are the line's
abbrev pub AllNodes : List Cell → List Ranked → Type 0
AllNodes cells items = All (λ (item : Ranked). HasNode cells item.node) items
