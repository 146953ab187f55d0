-- A queue as a contract sees it, and which of its tasks comes first.
use Rattle.std.specs.Prelude.{ℕ, ◌==◌, Bool, cond, List, [], ◌∷◌, Option, Some, None}
use Rattle.sched_base.specs.declared.task.Task.{Task}
use Rattle.policy_tree.specs.Meaning.{KeyTree}
use Rattle.policy_eval.specs.Orders.{best_and_rest, precedes}
use Rattle.policy_eval.specs.Ranges.{AreIn, wide_ranges}
use Rattle.policy_eval.specs.Sights.{thread_values}

-- the queued tasks in the order of their arrival, the keys by which the best is elected, and how many tasks have room
pub record QueueView : Type 0 where
  pub tasks : List Task
  pub order : List KeyTree
  pub room : ℕ

-- the task's weight and attribute values are such as some policy may have
abbrev pub IsSeenTask : Task → Type 0
IsSeenTask t = AreIn wide_ranges (thread_values t.weight t.attrs)

-- whether the first of two tasks comes strictly before the second
abbrev pub before : List KeyTree → Task → Task → Bool
before keys a b = precedes keys (thread_values a.weight a.attrs) (thread_values b.weight b.attrs)

-- whether the task is the thread of that number
abbrev pub is_thread : ℕ → Task → Bool
is_thread id t = t.id == id

-- the list without the first item that passes
abbrev pub without_first : {X : Type 0} → (X → Bool) → List X → List X
without_first test [] = []
without_first test (x ∷ xs) = cond (test x) xs (x ∷ without_first test xs)

-- the others beside the best
abbrev pub others_of : {X : Type 0} → Option (X × List X) → List X
others_of None = []
others_of (Some best) = best.1

-- the list without its best
abbrev pub rest_of_best : {X : Type 0} → (X → X → Bool) → List X → List X
rest_of_best before xs = others_of (best_and_rest before xs)
