-- What a queue keeps, once a task came and once one left.
use Rattle.std.proofs.Common.{◌≡◌, ℕ, ◌+◌, ◌-◌, ◌^◌, ◌<◌, ◌≤◌, List, [], ◌∷◌, ◌++◌, All, IsPermutation, length, remove, slice_get, Some, refl, sym, ap, ap₂, subst, ◌∙◌, arith}
use Rattle.std.proofs.lemmas.List.{map_push}
use Rattle.std.proofs.lemmas.List.Elements.{All-push}
use Rattle.sched_base.specs.declared.task.Task.{Task}
use Rattle.policy_tree.specs.Meaning.{KeyTree}
use Rattle.run_queue.specs.declared.ranked.Ranked.{Ranked}
use Rattle.run_queue.specs.Code.Ahead.{HasNode, ahead}
use Rattle.run_queue.specs.Code.Heaps.{IsHeap}
use Rattle.run_queue.specs.Code.Lines.{Cell, LineView, tasks_of}
use Rattle.run_queue.specs.Code.Queues.{CameBefore, IsHeapOf, IsKept, weights}
use Rattle.run_queue.specs.Tasks.{IsSeenTask, QueueView}
use Rattle.run_queue.proofs.Queueing.{heap_of_longer, light-remove, weights-few, weights-push, weights-remove}
use Rattle.run_queue.proofs.Ranking.{came_pushed}
use Rattle.run_queue.proofs.Scanning.{queue_of}

module _ (keys : List KeyTree) (line after : LineView) (x : Cell) (cells : after.cells ≡ line.cells ++ x ∷ []) (room : after.room ≡ line.room) where
  longer : LineView
  longer = record { cells = line.cells ++ x ∷ []; room = line.room }

  is_longer : after ≡ longer
  unfolding longer
  is_longer = ap₂ (λ (c : List Cell) (r : ℕ). let l : LineView = record { cells = c; room = r } in l) cells room

  pub kept_pushed : (items more : List Ranked) (a : Ranked) (capacity sum now : ℕ) → IsHeapOf keys line.cells items → CameBefore a.arrival items
      → (HasNode line.cells x.node → ⊥) → IsSeenTask x.task → x.task.weight < 2 ^ 32 → a.node ≡ x.node → line.room ≤ capacity → line.room < 2 ^ 32
      → sum ≡ weights (tasks_of line.cells) → All (λ (t : Task). t.weight < 2 ^ 32) (tasks_of line.cells)
      → IsPermutation (items ++ a ∷ []) more → IsHeap (ahead keys after.cells) more → now ≡ sum + x.task.weight
      → IsKept keys after more capacity (a.arrival + 1) now
  unfolding longer is_longer
  kept_pushed items more a capacity sum now heap came fresh seen weight node fits small added light moved more_heap is =
      subst (λ (l : LineView). IsKept keys l more capacity (a.arrival + 1) now) (sym is_longer) (record {
        heap = heap_of_longer keys line.cells items heap x fresh seen a a.arrival more node refl came moved (subst (λ (c : List Cell). IsHeap (ahead keys c) more) cells more_heap);
        came = came_pushed line.cells items heap.ranked x a a.arrival more came fresh node refl moved;
        room = fits;
        small = small;
        added = (let all = weights-push line.cells x in omega arith);
        light = subst (λ (tasks : List Task). All (λ (t : Task). t.weight < 2 ^ 32) tasks) (sym (map_push (λ (cell : Cell). cell.task) line.cells x))
            (All-push (λ (t : Task). t.weight < 2 ^ 32) (tasks_of line.cells) x.task light weight);
      })

  -- the queue then
  pub view_pushed : (order : List KeyTree) → queue_of after order ≡ (let q : QueueView = record { tasks = tasks_of line.cells ++ x.task ∷ []; order = order; room = line.room } in q)
  unfolding longer is_longer
  view_pushed order =
      ap (λ (l : LineView). queue_of l order) is_longer
      ∙ ap (λ (t : List Task). let q : QueueView = record { tasks = t; order = order; room = line.room } in q) (map_push (λ (cell : Cell). cell.task) line.cells x)

-- the sum of few tasks and one more fits
pub sum_fits : (cells : List Cell) (sum weight : ℕ) → sum ≡ weights (tasks_of cells) → All (λ (t : Task). t.weight < 2 ^ 32) (tasks_of cells) → length cells < 4294967295 → weight < 2 ^ 32
    → sum + weight < 2 ^ 64
sum_fits cells sum weight is light few small = let all = weights-few cells light in omega arith

module _ (keys : List KeyTree) (line after : LineView) (items : List Ranked) (capacity next sum : ℕ) (is : IsKept keys line items capacity next sum)
    (gone : ℕ) (t : Task) (there : slice_get (tasks_of line.cells) gone ≡ Some t) where
  pub weight_within : t.weight ≤ sum
  weight_within = let all = weights-remove line.cells gone t there in let added = is.added in omega arith

  pub kept_removed : after ≡ record line { cells = remove line.cells gone } → (rest : List Ranked) (room now : ℕ) → IsHeapOf keys after.cells rest → CameBefore next rest
      → room ≡ capacity → now ≡ sum - t.weight → IsKept keys after rest room next now
  kept_removed shorter rest room now heap came same less =
      subst (λ (l : LineView). IsKept keys l rest room next now) (sym shorter) (record {
        heap = subst (λ (l : LineView). IsHeapOf keys l.cells rest) shorter heap;
        came = came;
        room = subst (λ n. line.room ≤ n) (sym same) is.room;
        small = is.small;
        added = (let all = weights-remove line.cells gone t there in let added = is.added in omega arith);
        light = light-remove line.cells gone is.light;
      })
