use Rattle.std.proofs.Common.{◌≡◌, ◌<◌, List, get_or, length, sym, ap, subst, ◌∙◌}
use Rattle.policy_tree.specs.Meaning.{order_tree}
use Rattle.run_queue.specs.declared.ranked.Ranked.{Ranked}
use Rattle.run_queue.specs.Code.Lines.{LineView}
use Rattle.run_queue.specs.Code.Queues.{HasItem, IsHeapOf}
use Rattle.run_queue.proofs.Lines.{spot_cell}
use Rattle.run_queue.proofs.Queueing.{heap_of_shorter}
use Rattle.run_queue.proofs.Ranking.{came_removed, item_of, nodes_of_items}
use Rattle.run_queue.proofs.heap.take_out.Goals as goal

pub place_of-at-requires : goal.place_of-at-requires
place_of-at-requires c =
    let cells = c.args.line.now.cells in let items = c.args.heap.now.items in
    let of = spot_cell cells c.requires.spot.0 c.args.spot c.requires.spot.1 in
    let item = item_of cells items c.requires.heap.ranked c.requires.spot.0 of.cell of.found in
    subst (λ (all : List Ranked). HasItem all c.args.spot.node) (sym c.deref.ensures.value) (item.0, item.1, item.2 ∙ sym of.node)

pub leave-requires-clause-inside : goal.leave-requires-clause-inside
leave-requires-clause-inside c = subst (λ (all : List Ranked). c.place_of-at.result < length all) c.deref.ensures.value c.place_of-at.ensures.inside

pub leave-requires-clause-nodes : goal.leave-requires-clause-nodes
leave-requires-clause-nodes c = nodes_of_items c.args.line.now.cells c.args.heap.now.items c.requires.heap.ranked

pub returns-clause-heap : goal.returns-clause-heap
returns-clause-heap c =
    let cells = c.args.line.now.cells in let items = c.args.heap.now.items in let rest = c.leave.new.heap.items in
    let place = c.requires.spot.0 in
    let of = spot_cell cells place c.args.spot c.requires.spot.1 in
    let there = subst (λ (all : List Ranked). (get_or all c.place_of-at.result c.leave.result).node ≡ c.args.spot.node) c.deref.ensures.value (c.place_of-at.ensures.node c.leave.result) in
    let node = ap (λ (item : Ranked). item.node) c.leave.ensures.item ∙ (there ∙ of.node) in
    subst (λ (line : LineView). IsHeapOf (order_tree c.args.order.now) line.cells rest) (sym (c.remove.ensures.rest place c.requires.spot.1))
    (heap_of_shorter (order_tree c.args.order.now) cells items c.requires.heap place of.cell of.found c.leave.result node rest c.leave.ensures.items c.leave.ensures.heap)

pub returns-clause-came : goal.returns-clause-came
returns-clause-came c next came =
    let cells = c.args.line.now.cells in let items = c.args.heap.now.items in
    let place = c.requires.spot.0 in
    let of = spot_cell cells place c.args.spot c.requires.spot.1 in
    let there = subst (λ (all : List Ranked). (get_or all c.place_of-at.result c.leave.result).node ≡ c.args.spot.node) c.deref.ensures.value (c.place_of-at.ensures.node c.leave.result) in
    let node = ap (λ (item : Ranked). item.node) c.leave.ensures.item ∙ (there ∙ of.node) in
    came_removed cells items c.requires.heap.ranked place of.cell of.found c.leave.result node c.leave.new.heap.items c.leave.ensures.items next came
