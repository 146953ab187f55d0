-- The root of a line's heap is its best task.
use Rattle.std.proofs.Common.{◌≡◌, ℕ, ◌<◌, ◌≤◌, ◌⊎◌, inl, inr, ⊎_elim, false, true, List, Contains, get_or, length, slice_get, Some, option_map, refl, sym, ap, ap₂, subst, ◌∙◌, arith}
use Rattle.std.proofs.lemmas.List.{length-map}
use Rattle.std.proofs.lemmas.Option.{get_or_from_slice_get, same_Some, slice_get-map, slice_get_within}
use Rattle.sched_base.specs.declared.task.Task.{Task}
use Rattle.policy_tree.specs.Meaning.{KeyTree}
use Rattle.run_queue.specs.declared.line.Spot.{Spot}
use Rattle.run_queue.specs.declared.ranked.Ranked.{Ranked}
use Rattle.run_queue.specs.Code.Ahead.{ahead, task_at}
use Rattle.run_queue.specs.Code.Lines.{Cell, IsSpot, spot_at, tasks_of}
use Rattle.run_queue.specs.Code.Queues.{IsHeapOf}
use Rattle.run_queue.specs.Code.Scans.{IsBestSpot}
use Rattle.run_queue.specs.Tasks.{before}
use Rattle.run_queue.proofs.Best.{best_of_all}
use Rattle.run_queue.proofs.Counted.{stands_at}
use Rattle.run_queue.proofs.Lines.{spot_cell}
use Rattle.run_queue.proofs.Ordered.{items_order, not_sooner, tasks_order}
use Rattle.run_queue.proofs.Places.{item_at}
use Rattle.run_queue.proofs.Ranking.{item_of, task_at-is}
use Rattle.run_queue.proofs.Sifting.{root_first}

module _ (keys : List KeyTree) (cells : List Cell) (items : List Ranked) (is : IsHeapOf keys cells items) (root : Ranked) (some : 0 < length items) (at_root : get_or items 0 root ≡ root)
    (place : ℕ) (x : Cell) (at : slice_get cells place ≡ Some x) (node : x.node ≡ root.node) where
  root_in : Contains items root
  root_in = (0, some, at_root)

  -- no item is ahead of the root
  behind_root : (a : Ranked) → Contains items a → ahead keys cells a root ≡ false
  behind_root a in' =
      let first = root_first (ahead keys cells) (items_order keys cells) items is.heap in'.0 in'.1 in
      let here : get_or items in'.0 root ≡ a = get_or_from_slice_get items in'.0 a root (stands_at items a in') in
      ap₂ (ahead keys cells) (sym here) (sym at_root) ∙ first root

  -- the task of a cell that has the node of an item
  task_of_item : (k : ℕ) (y : Cell) (a : Ranked) → slice_get cells k ≡ Some y → a.node ≡ y.node → task_at cells a.node ≡ y.task
  task_of_item k y a there same = ap (task_at cells) same ∙ task_at-is cells k y is.apart there

  root_task : task_at cells root.node ≡ x.task
  unfolding task_of_item
  root_task = task_of_item place x root at (sym node)

  module _ (k : ℕ) (y : Cell) (there : slice_get cells k ≡ Some y) where
    item : (a : Ranked) × Contains items a × (a.node ≡ y.node)
    item = item_of cells items is.ranked k y there

    apart_from_root : (before keys y.task x.task ≡ false) × ((before keys x.task y.task ≡ true) ⊎ (root.arrival ≤ item.0.arrival))
    unfolding item behind_root task_of_item root_task
    apart_from_root =
        let a = item.0 in
        let not = not_sooner (before keys) (tasks_order keys) (task_at cells a.node) (task_at cells root.node) a.arrival root.arrival (behind_root a item.1) in
        let t : task_at cells a.node ≡ y.task = task_of_item k y a there item.2 in
        let u : task_at cells root.node ≡ x.task = root_task in (
          sym (ap₂ (before keys) t u) ∙ not.0,
          ⊎_elim (λ (h : before keys (task_at cells root.node) (task_at cells a.node) ≡ true). inl (sym (ap₂ (before keys) u t) ∙ h)) (λ (h : root.arrival ≤ a.arrival). inr h) not.1,
        )

    earlier : k < place → before keys x.task y.task ≡ true
    unfolding item apart_from_root root_in
    earlier less =
        ⊎_elim
        (λ (h : before keys x.task y.task ≡ true). h)
        (λ (h : root.arrival ≤ item.0.arrival). let rises = is.ranked.rises k place y x item.0 root less there at item.1 root_in item.2 (sym node) in absurd (omega arith))
        apart_from_root.1

  -- the cell of a task
  of_task : (k : ℕ) (t : Task) → slice_get (tasks_of cells) k ≡ Some t → (y : Cell) × (slice_get cells k ≡ Some y) × (y.task ≡ t)
  of_task k t there =
      let inside = slice_get_within (tasks_of cells) k t there in
      let size = length-map cells (λ (cell : Cell). cell.task) in
      let y = item_at cells k (omega arith) in
      (y.0, y.1, same_Some y.0.task t (sym (slice_get-map (λ (cell : Cell). cell.task) cells k ∙ ap (option_map (λ (cell : Cell). cell.task)) y.1) ∙ there))

  pub best_at_root : (spot : Spot) → spot_at cells place ≡ Some spot → IsBestSpot keys cells spot
  unfolding apart_from_root earlier of_task
  best_at_root spot there =
      let size = length-map cells (λ (cell : Cell). cell.task) in
      let inside = slice_get_within cells place x at in
      best_of_all keys cells (length (tasks_of cells)) spot refl (record {
        place = place;
        task = x.task;
        there = there;
        best = record {
          inside = omega arith;
          is = slice_get-map (λ (cell : Cell). cell.task) cells place ∙ ap (option_map (λ (cell : Cell). cell.task)) at;
          none_before = λ k t less here. let y = of_task k t here in subst (λ (u : Task). before keys u x.task ≡ false) y.2 (apart_from_root k y.0 y.1).0;
          earliest = λ k t less here. let y = of_task k t here in subst (λ (u : Task). before keys x.task u ≡ true) y.2 (earlier k y.0 y.1 less);
        };
      })

-- the spot of the root's node
pub best_of_root : (keys : List KeyTree) (cells : List Cell) (items : List Ranked) (root : Ranked) (spot : Spot) → IsHeapOf keys cells items → slice_get items 0 ≡ Some root
    → IsSpot cells spot → spot.node ≡ root.node → IsBestSpot keys cells spot
best_of_root keys cells items root spot is at is_spot node =
    let of = spot_cell cells is_spot.0 spot is_spot.1 in
    best_at_root keys cells items is root (slice_get_within items 0 root at) (get_or_from_slice_get items 0 root root at) is_spot.0 of.cell of.found (sym of.node ∙ node) spot is_spot.1
