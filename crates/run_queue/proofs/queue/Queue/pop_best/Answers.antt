use Rattle.std.proofs.Common.{◌≡◌, ◌-◌, List, Some, option_map, remove, slice_get, sym, ap, ◌∙◌, arith}
use Rattle.std.specs.Vec.{vec_capacity}
use Rattle.policy_tree.specs.Meaning.{order_tree}
use Rattle.policy_eval.specs.Orders.{best_of}
use Rattle.sched_base.specs.declared.task.Task.{Task}
use Rattle.run_queue.specs.declared.ranked.Ranked.{Ranked}
use Rattle.run_queue.specs.Code.Lines.{tasks_of}
use Rattle.run_queue.specs.Tasks.{QueueView, before, others_of, rest_of_best}
use Rattle.run_queue.proofs.Counted.{contains_at}
use Rattle.run_queue.proofs.Keeping.{kept_removed, weight_within}
use Rattle.run_queue.proofs.Ranking.{node_of_item}
use Rattle.run_queue.proofs.Rooted.{best_of_root}
use Rattle.run_queue.proofs.Scanning.{view_without}
use Rattle.run_queue.proofs.queue.Queue.pop_best.Goals as goal

-- the item that was read is the root
is_root : (items read : List Ranked) (root : Ranked) → read ≡ items → Some root ≡ slice_get read 0 → slice_get items 0 ≡ Some root
is_root items read root same at = ap (λ (xs : List Ranked). slice_get xs 0) (sym same) ∙ sym at

pub spot_of-spot-requires : goal.spot_of-spot-requires
spot_of-spot-requires c =
    let cells = c.self.inside.line.cells in let items = c.self.inside.heap.items in
    let at = is_root items c.deref.result.now c.in_ok-root.field-0.now c.deref.ensures.value c.in_ok-root.ensures.value in
    node_of_item cells items c.self.invariant.heap.ranked c.in_ok-root.field-0.now (contains_at items 0 c.in_ok-root.field-0.now at)

pub take_out-task-requires : goal.take_out-task-requires
take_out-task-requires c = record { spot = c.spot_of-spot.ensures.spot; heap = c.self.invariant.heap }

pub overflow_sub-self : goal.overflow_sub-self
overflow_sub-self c =
    let spot = c.spot_of-spot.ensures.spot in let taken = c.take_out-task in
    let less = weight_within (order_tree c.self.inside.order) c.self.inside.line c.self.inside.line c.self.inside.heap.items (vec_capacity c.self.inside.heap) c.self.inside.next c.self.inside.sum
    c.self.invariant spot.0 taken.result (taken.ensures.task spot.0 spot.1) in
    omega (arith, c.from.ensures)

pub invariant_of-self : goal.invariant_of-self
invariant_of-self c =
    let spot = c.spot_of-spot.ensures.spot in let taken = c.take_out-task in
    kept_removed (order_tree c.self.inside.order) c.self.inside.line taken.new.line c.self.inside.heap.items (vec_capacity c.self.inside.heap) c.self.inside.next c.self.inside.sum
    c.self.invariant spot.0 taken.result (taken.ensures.task spot.0 spot.1) (taken.ensures.rest spot.0 spot.1) taken.new.heap.items _ _
    taken.ensures.heap (taken.ensures.came c.self.inside.next c.self.invariant.came) taken.ensures.capacity (ap (λ w. c.self.inside.sum - w) c.from.ensures)

pub returns-clause-best : goal.returns-clause-best
returns-clause-best c =
    let items = c.self.inside.heap.items in
    let at = is_root items c.deref.result.now c.in_ok-root.field-0.now c.deref.ensures.value c.in_ok-root.ensures.value in
    let found = best_of_root (order_tree c.self.inside.order) c.self.inside.line.cells items c.in_ok-root.field-0.now c.spot_of-spot.result c.self.invariant.heap at
    c.spot_of-spot.ensures.spot c.spot_of-spot.ensures.node in
    sym (c.take_out-task.ensures.task found.place found.there) ∙ (sym found.best ∙ ap (λ (q : QueueView). best_of (before q.order) q.tasks) c.self.view_is)

pub returns-clause-rest : goal.returns-clause-rest
returns-clause-rest c =
    let line = c.self.inside.line in let cells = line.cells in let keys = order_tree c.self.inside.order in let items = c.self.inside.heap.items in
    let at = is_root items c.deref.result.now c.in_ok-root.field-0.now c.deref.ensures.value c.in_ok-root.ensures.value in
    let found = best_of_root keys cells items c.in_ok-root.field-0.now c.spot_of-spot.result c.self.invariant.heap at c.spot_of-spot.ensures.spot c.spot_of-spot.ensures.node in
    let rest = ap others_of (found.rest ∙ ap (option_map (λ (t : Task). (t, remove (tasks_of cells) found.place))) (c.take_out-task.ensures.task found.place found.there)) in
    view_without line c.take_out-task.new.line keys found.place (rest_of_best (before keys) (tasks_of cells)) (c.take_out-task.ensures.rest found.place found.there) (sym rest)
    ∙ ap (λ (q : QueueView). let r : QueueView = record q { tasks = rest_of_best (before q.order) q.tasks } in r) c.self.view_is
