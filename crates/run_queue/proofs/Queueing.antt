-- The heap of a line, once a task came to the line's end, and once one left it.
use Rattle.std.proofs.Common.{◌≡◌, ℕ, suc, ◌+◌, ◌*◌, ◌^◌, ◌<◌, ◌≤◌, List, [], ◌∷◌, ◌++◌, All, Contains, IsPermutation, get_or, length, remove, slice_get, Some, sym, ap, ap₂, subst, ◌∙◌, arith}
use Rattle.std.proofs.lemmas.List.{length-map, map_push}
use Rattle.std.proofs.lemmas.List.Elements.{All-append, All-drop, All-push, All-take, All-weaker}
use Rattle.std.proofs.lemmas.List.Sums.{sum_by-le, sum_by-remove, sum_by_push}
use Rattle.std.proofs.lemmas.Option.{get_or_from_slice_get, slice_get_within}
use Rattle.sched_base.specs.declared.task.Task.{Task}
use Rattle.policy_tree.specs.Meaning.{KeyTree}
use Rattle.run_queue.specs.declared.ranked.Ranked.{Ranked}
use Rattle.run_queue.specs.Code.Ahead.{AllNodes, AreApart, HasNode, ahead, task_at}
use Rattle.run_queue.specs.Code.Heaps.{IsHeap}
use Rattle.run_queue.specs.Code.Lines.{Cell, tasks_of}
use Rattle.run_queue.specs.Code.Queues.{CameBefore, IsHeapOf, IsRanked, weights}
use Rattle.run_queue.specs.Code.Scans.{CanScan}
use Rattle.run_queue.specs.Tasks.{IsSeenTask}
use Rattle.run_queue.proofs.Places.{place_before, slice_get-append, slice_get-push, slice_get-remove}
use Rattle.run_queue.proofs.Ranking.{apart_pushed, apart_removed, cell_of, cell_of_item, has_node, heap_same, nodes_of_items, ranked_pushed, ranked_removed, same_tasks}
use Rattle.run_queue.proofs.Scanning.{can_scan-remove, tasks_of-remove}

-- a node of the line is one of the longer line, with its task
has_more : (cells : List Cell) (x : Cell) (node : ℕ) → HasNode cells node → HasNode (cells ++ x ∷ []) node
has_more cells x node has =
    let of = cell_of cells node has in
    subst (HasNode (cells ++ x ∷ [])) of.is
    (has_node (cells ++ x ∷ []) of.place of.cell (slice_get-append cells (x ∷ []) of.place (slice_get_within cells of.place of.cell of.at) ∙ of.at))

module _ (keys : List KeyTree) (cells : List Cell) (items : List Ranked) (is : IsHeapOf keys cells items) (x : Cell) (fresh : HasNode cells x.node → ⊥) where
  pub apart_longer : AreApart (cells ++ x ∷ [])
  apart_longer = apart_pushed cells x is.apart fresh

  -- before the item comes to the heap
  pub scan_longer : IsSeenTask x.task → CanScan keys (tasks_of (cells ++ x ∷ []))
  scan_longer seen = record {
    order = is.scan.order;
    each = subst (λ (tasks : List Task). All IsSeenTask tasks) (sym (map_push (λ (cell : Cell). cell.task) cells x))
        (All-push IsSeenTask (tasks_of cells) x.task is.scan.each seen);
  }

  pub nodes_longer : (a : Ranked) → a.node ≡ x.node → AllNodes (cells ++ x ∷ []) (items ++ a ∷ [])
  nodes_longer a same =
      All-push (λ (item : Ranked). HasNode (cells ++ x ∷ []) item.node) items a
      (λ k d inside. has_more cells x (get_or items k d).node (nodes_of_items cells items is.ranked k d inside))
      (subst (HasNode (cells ++ x ∷ [])) (sym same) (has_node (cells ++ x ∷ []) (length cells) x (slice_get-push cells x)))

  pub heap_longer : IsHeap (ahead keys (cells ++ x ∷ [])) items
  unfolding apart_longer
  heap_longer = heap_same keys cells (cells ++ x ∷ []) items same is.heap
    where
      same : (a : Ranked) → Contains items a → task_at (cells ++ x ∷ []) a.node ≡ task_at cells a.node
      same a in' =
          let of = cell_of_item cells items is.ranked a in' in
          subst (λ n. task_at (cells ++ x ∷ []) n ≡ task_at cells n) of.is
          (same_tasks cells (cells ++ x ∷ []) is.apart apart_longer of.place of.place of.cell of.at
          (slice_get-append cells (x ∷ []) of.place (slice_get_within cells of.place of.cell of.at) ∙ of.at))

  -- after it came
  pub heap_of_longer : IsSeenTask x.task → (a : Ranked) (next : ℕ) (more : List Ranked) → a.node ≡ x.node → a.arrival ≡ next → CameBefore next items
      → IsPermutation (items ++ a ∷ []) more → IsHeap (ahead keys (cells ++ x ∷ [])) more → IsHeapOf keys (cells ++ x ∷ []) more
  unfolding apart_longer scan_longer
  heap_of_longer seen a next more same number came moved heap = record {
    scan = scan_longer seen;
    apart = apart_longer;
    ranked = ranked_pushed cells items is.ranked x a next more came fresh same number moved;
    heap = heap;
  }

module _ (keys : List KeyTree) (cells : List Cell) (items : List Ranked) (is : IsHeapOf keys cells items) (gone : ℕ) (x : Cell) (at : slice_get cells gone ≡ Some x)
    (a : Ranked) (node : a.node ≡ x.node) (rest : List Ranked) (moved : IsPermutation items (a ∷ rest)) where
  left : AreApart (remove cells gone)
  left = apart_removed cells gone is.apart

  pub heap_of_shorter : IsHeap (ahead keys cells) rest → IsHeapOf keys (remove cells gone) rest
  unfolding left
  heap_of_shorter heap = record {
    scan = can_scan-remove keys cells gone is.scan;
    apart = left;
    ranked = ranked;
    heap = heap_same keys cells (remove cells gone) rest same heap;
  }
    where
      ranked : IsRanked (remove cells gone) rest
      ranked = ranked_removed cells items is.ranked gone x at a node rest moved

      same : (b : Ranked) → Contains rest b → task_at (remove cells gone) b.node ≡ task_at cells b.node
      same b in' =
          let of = cell_of_item (remove cells gone) rest ranked b in' in
          subst (λ n. task_at (remove cells gone) n ≡ task_at cells n) of.is
          (same_tasks cells (remove cells gone) is.apart left (place_before gone of.place) of.place of.cell (sym (slice_get-remove cells gone of.place) ∙ of.at) of.at)

-- the weights of the tasks, once one came
pub weights-push : (cells : List Cell) (x : Cell) → weights (tasks_of (cells ++ x ∷ [])) ≡ weights (tasks_of cells) + x.task.weight
weights-push cells x = ap weights (map_push (λ (cell : Cell). cell.task) cells x) ∙ sum_by_push (λ (t : Task). t.weight) (tasks_of cells) x.task

-- and once one left
pub weights-remove : (cells : List Cell) (gone : ℕ) (t : Task) → slice_get (tasks_of cells) gone ≡ Some t → weights (tasks_of (remove cells gone)) + t.weight ≡ weights (tasks_of cells)
weights-remove cells gone t at =
    ap₂ (λ (tasks : List Task) (u : Task). weights tasks + u.weight) (tasks_of-remove cells gone) (sym (get_or_from_slice_get (tasks_of cells) gone t t at))
    ∙ sum_by-remove (λ (u : Task). u.weight) (tasks_of cells) gone t (slice_get_within (tasks_of cells) gone t at)

-- light tasks weigh little
pub weights-few : (cells : List Cell) → All (λ (t : Task). t.weight < 2 ^ 32) (tasks_of cells) → weights (tasks_of cells) ≤ length cells * 4294967295
weights-few cells light =
    subst (λ n. weights (tasks_of cells) ≤ n * 4294967295) (length-map cells (λ (cell : Cell). cell.task))
    (sum_by-le (λ (t : Task). t.weight) 4294967295 (tasks_of cells) (All-weaker (λ (t : Task). t.weight < 2 ^ 32) (λ (t : Task). t.weight ≤ 4294967295) (λ t l. omega arith) (tasks_of cells) light))

pub light-remove : (cells : List Cell) (gone : ℕ) → All (λ (t : Task). t.weight < 2 ^ 32) (tasks_of cells) → All (λ (t : Task). t.weight < 2 ^ 32) (tasks_of (remove cells gone))
light-remove cells gone light =
    subst (λ (tasks : List Task). All (λ (t : Task). t.weight < 2 ^ 32) tasks) (sym (tasks_of-remove cells gone))
    (All-append (λ (t : Task). t.weight < 2 ^ 32) _ _ (All-take (λ (t : Task). t.weight < 2 ^ 32) gone (tasks_of cells) light) (All-drop (λ (t : Task). t.weight < 2 ^ 32) (suc gone) (tasks_of cells) light))
