use Rattle.std.proofs.Common.{◌≡◌, ℕ, ◌+◌, ◌<◌, ◌++◌, ◌∷◌, [], List, length, refl, sym, ap, subst, ◌∙◌, arith}
use Rattle.std.proofs.lemmas.List.{length-map}
use Rattle.std.specs.Vec.{vec_capacity}
use Rattle.policy_tree.specs.Meaning.{KeyTree, order_tree}
use Rattle.run_queue.specs.declared.ranked.Ranked.{Ranked}
use Rattle.run_queue.specs.Code.Ahead.{AllNodes, ahead}
use Rattle.run_queue.specs.Code.Heaps.{IsHeap}
use Rattle.run_queue.specs.Code.Lines.{Cell, tasks_of}
use Rattle.run_queue.specs.Code.Scans.{CanScan}
use Rattle.run_queue.specs.Tasks.{QueueView}
use Rattle.run_queue.proofs.Keeping.{kept_pushed, sum_fits, view_pushed}
use Rattle.run_queue.proofs.Queueing.{heap_longer, nodes_longer, scan_longer}
use Rattle.run_queue.proofs.queue.Queue.push.Goals as goal

-- there is room for one more
few : {before : QueueView} (cells : List Cell) (room : ℕ) (order : List KeyTree) → (let q : QueueView = record { tasks = tasks_of cells; order = order; room = room } in q) ≡ before
    → length before.tasks < before.room → length cells < room
few cells room order is less =
    subst (λ n. n < room) (length-map cells (λ (cell : Cell). cell.task)) (subst (λ (q : QueueView). length q.tasks < q.room) (sym is) less)

pub next_number-arrival-requires : goal.next_number-arrival-requires
next_number-arrival-requires c =
    let kept = c.self.invariant in
    let less = few c.self.inside.line.cells c.self.inside.line.room (order_tree c.self.inside.order) c.self.view_is c.requires.room in
    let small = kept.small in let room = kept.room in
    record { heap = kept.heap; came = kept.came; room = omega arith; few = omega arith }

pub push-node-requires : goal.push-node-requires
push-node-requires c = few c.self.inside.line.cells c.self.inside.line.room (order_tree c.self.inside.order) c.self.view_is c.requires.room

pub add-requires : goal.add-requires
add-requires c =
    let keys = order_tree c.self.inside.order in let cells = c.self.inside.line.cells in let items = c.next_number-arrival.new.heap.items in
    let is = c.next_number-arrival.ensures.heap in let after = c.push-node.new.self in
    let x : Cell = record { node = c.push-node.result; task = c.args.task } in
    let longer = sym c.push-node.ensures.cells in
    let less = few cells c.self.inside.line.room keys c.self.view_is c.requires.room in
    let room = c.self.invariant.room in let capacity = c.next_number-arrival.ensures.capacity in
    let count = is.ranked.count in let ok = c.next_number-arrival.new.heap.ok.0 in
    let a : Ranked = record { node = c.push-node.result; arrival = c.next_number-arrival.result } in
    record {
      scan = subst (λ (all : List Cell). CanScan keys (tasks_of all)) longer (scan_longer keys cells items is x c.push-node.ensures.fresh c.requires.task);
      nodes = subst (λ (all : List Cell). AllNodes all (items ++ a ∷ [])) longer (nodes_longer keys cells items is x c.push-node.ensures.fresh a refl);
      heap = subst (λ (all : List Cell). IsHeap (ahead keys all) items) longer (heap_longer keys cells items is x c.push-node.ensures.fresh);
      room = omega arith;
    }

pub overflow_add-self-2 : goal.overflow_add-self-2
overflow_add-self-2 c =
    let less = few c.self.inside.line.cells c.self.inside.line.room (order_tree c.self.inside.order) c.self.view_is c.requires.room in
    let small = c.self.invariant.small in
    let fits = sum_fits c.self.inside.line.cells c.self.inside.sum c.args.task.weight c.self.invariant.added c.self.invariant.light (omega arith) (omega arith) in
    omega (arith, c.from.ensures)

pub invariant_of-self : goal.invariant_of-self
invariant_of-self c =
    let kept = c.self.invariant in let line = c.self.inside.line in let after = c.push-node.new.self in
    let x : Cell = record { node = c.push-node.result; task = c.args.task } in
    let a : Ranked = record { node = c.push-node.result; arrival = c.next_number-arrival.result } in
    let room = kept.room in let same = c.next_number-arrival.ensures.capacity in let still = c.add.ensures.capacity in
    kept_pushed (order_tree c.self.inside.order) line after x c.push-node.ensures.cells c.push-node.ensures.room
    c.next_number-arrival.new.heap.items c.add.new.heap.items a (vec_capacity c.add.new.heap) c.self.inside.sum _
    c.next_number-arrival.ensures.heap c.next_number-arrival.ensures.came c.push-node.ensures.fresh c.requires.task (omega arith) refl (omega arith) kept.small kept.added kept.light
    c.add.ensures.items c.add.ensures.heap (ap (λ w. c.self.inside.sum + w) c.from.ensures)

pub returns : goal.returns
returns c =
    let line = c.self.inside.line in let order = order_tree c.self.inside.order in
    let x : Cell = record { node = c.push-node.result; task = c.args.task } in
    view_pushed order line c.push-node.new.self x c.push-node.ensures.cells c.push-node.ensures.room order
    ∙ ap (λ (q : QueueView). let r : QueueView = record q { tasks = q.tasks ++ c.args.task ∷ [] } in r) c.self.view_is
