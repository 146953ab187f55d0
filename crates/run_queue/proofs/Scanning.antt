-- The steps of a walk along a line.
use Rattle.std.proofs.Common.{◌≡◌, ℕ, suc, ◌+◌, ◌<◌, Bool, true, false, cond, List, [], ◌∷◌, ◌++◌, All, length, drop, take, find, remove, slice_get, Some, None, option_map, refl, sym, ap, ap₂, subst, ◌∙◌, arith}
use Rattle.std.proofs.lemmas.List.{append_assoc, drop-map, map-append, take-map, take_more}
use Rattle.std.proofs.lemmas.List.Elements.{All-append, All-drop, All-take}
use Rattle.std.proofs.lemmas.Option.{get_or_from_slice_get, slice_get-map, slice_get_within}
use Rattle.sched_base.specs.declared.task.Task.{Task}
use Rattle.policy_tree.specs.Meaning.{KeyTree}
use Rattle.run_queue.specs.declared.line.Spot.{Spot}
use Rattle.run_queue.specs.Code.Lines.{Cell, LineView, node_at, spot_at, tasks_of}
use Rattle.run_queue.specs.Code.Scans.{CanScan}
use Rattle.run_queue.specs.Tasks.{IsSeenTask, QueueView, without_first}
use Rattle.run_queue.proofs.Lines.{spot_cell}
use Rattle.run_queue.proofs.Places.{drop_here, item_at}

-- a line without a first place has no task
pub no_tasks : (cells : List Cell) → spot_at cells 0 ≡ None → tasks_of cells ≡ []
no_tasks [] none = refl
no_tasks (cell ∷ cells) none = absurd (cc)

-- each place of a line is a spot
pub spot_inside : (cells : List Cell) (k : ℕ) → k < length cells → spot_at cells k ≡ None → ⊥
spot_inside cells k inside none =
    let there : (cell : Cell) × (slice_get cells k ≡ Some cell) = item_at cells k inside in
    let some = sym (ap (option_map (λ (cell : Cell). let s : Spot = record { before = _; node = cell.node } in s)) there.1) ∙ none in
    cc

-- a task stands at each spot
pub task_there : (cells : List Cell) (k : ℕ) (spot : Spot) → spot_at cells k ≡ Some spot → (t : Task) × (slice_get (tasks_of cells) k ≡ Some t)
task_there cells k spot is =
    let of = spot_cell cells k spot is in
    (of.cell.task, slice_get-map (λ (cell : Cell). cell.task) cells k ∙ ap (option_map (λ (cell : Cell). cell.task)) of.found)

module _ {X : Type 0} (test : X → Bool) (xs : List X) (k : ℕ) (x : X) (at : slice_get xs k ≡ Some x) where
  pub find-here : test x ≡ true → find test (drop k xs) ≡ slice_get xs k
  find-here passes = ap (find test) (drop_here xs k x at) ∙ (ap (λ b. cond b (Some x) (find test (drop (suc k) xs))) passes ∙ sym at)

  pub without_first-here : test x ≡ true → without_first test (drop k xs) ≡ drop (suc k) xs
  without_first-here passes =
      ap (without_first test) (drop_here xs k x at) ∙ ap (λ b. cond b (drop (suc k) xs) (x ∷ without_first test (drop (suc k) xs))) passes

  next : suc k ≡ k + 1
  next = omega arith

  pub find-next : test x ≡ false → find test (drop (k + 1) xs) ≡ find test (drop k xs)
  find-next fails =
      ap (λ n. find test (drop n xs)) (sym next)
      ∙ sym (ap (find test) (drop_here xs k x at) ∙ ap (λ b. cond b (Some x) (find test (drop (suc k) xs))) fails)

  pub without_first-next : test x ≡ false → take k xs ++ without_first test (drop k xs) ≡ take (k + 1) xs ++ without_first test (drop (k + 1) xs)
  without_first-next fails =
      ap (λ (rest : List X). take k xs ++ without_first test rest) (drop_here xs k x at)
      ∙ (ap (λ b. take k xs ++ cond b (drop (suc k) xs) (x ∷ without_first test (drop (suc k) xs))) fails
      ∙ (sym (append_assoc (take k xs) (x ∷ []) (without_first test (drop (suc k) xs)))
      ∙ (ap (λ (front : List X). front ++ without_first test (drop (suc k) xs))
      (sym (take_more xs k x (slice_get_within xs k x at) ∙ ap (λ y. take k xs ++ y ∷ []) (get_or_from_slice_get xs k x x at)))
      ∙ ap (λ n. take (k + 1) xs ++ without_first test (drop n xs)) next)))

-- the tasks of a line without one of its cells
pub tasks_of-remove : (cells : List Cell) (k : ℕ) → tasks_of (remove cells k) ≡ remove (tasks_of cells) k
tasks_of-remove cells k =
    map-append (λ (cell : Cell). cell.task) (take k cells) (drop (suc k) cells)
    ∙ ap₂ (λ (front back : List Task). front ++ back) (sym (take-map (λ (cell : Cell). cell.task) k cells)) (sym (drop-map (λ (cell : Cell). cell.task) (suc k) cells))

-- what can be scanned can be, without one of the tasks
pub can_scan-remove : (keys : List KeyTree) (cells : List Cell) (k : ℕ) → CanScan keys (tasks_of cells) → CanScan keys (tasks_of (remove cells k))
can_scan-remove keys cells k can = record {
  order = can.order;
  each = subst (λ (tasks : List Task). All IsSeenTask tasks) (sym (tasks_of-remove cells k)) (all_without (tasks_of cells) k can.each);
}
  where
    all_without : (tasks : List Task) (k : ℕ) → All IsSeenTask tasks → All IsSeenTask (remove tasks k)
    all_without tasks k each = All-append IsSeenTask (take k tasks) (drop (suc k) tasks) (All-take IsSeenTask k tasks each) (All-drop IsSeenTask (suc k) tasks each)

-- a queue of that line and those keys
abbrev pub queue_of : LineView → List KeyTree → QueueView
queue_of line order = record { tasks = tasks_of line.cells; order = order; room = line.room }

-- the queue after the task at a place left it
pub view_without : (line after : LineView) (order : List KeyTree) (k : ℕ) (tasks : List Task) → after ≡ record line { cells = remove line.cells k }
    → remove (tasks_of line.cells) k ≡ tasks
    → queue_of after order ≡ (let q : QueueView = record { tasks = tasks; order = order; room = line.room } in q)
view_without line after order k tasks is rest =
    ap (λ (l : LineView). queue_of l order) is
    ∙ ap (λ (t : List Task). let q : QueueView = record { tasks = t; order = order; room = line.room } in q) (tasks_of-remove line.cells k ∙ rest)

-- the node of a spot
pub node_of_spot : (cells : List Cell) (k : ℕ) (spot : Spot) → spot_at cells k ≡ Some spot → node_at cells k ≡ Some spot.node
node_of_spot cells k spot is =
    let of = spot_cell cells k spot is in
    ap (option_map (λ (cell : Cell). cell.node)) of.found ∙ ap (λ (n : ℕ). Some n) (sym of.node)
