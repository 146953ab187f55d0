use Rattle.std.proofs.Common.{◌+◌, ◌*◌, true, false, refl, sym, ◌∙◌}
use Rattle.policy_tree.specs.Meaning.{order_tree}
use Rattle.run_queue.specs.Code.Ahead.{ahead}
use Rattle.run_queue.proofs.Ordered.{items_order}
use Rattle.run_queue.proofs.Ranking.{no_item}
use Rattle.run_queue.proofs.Sifting.{first_alone, first_left, first_right, read_two}
use Rattle.run_queue.proofs.sift.first_child.Goals as goal

pub is_ahead-requires-clause-first : goal.is_ahead-requires-clause-first
is_ahead-requires-clause-first c = c.requires.nodes (2 * c.args.at + 1 + 1) no_item c.if-right-heap.false

pub is_ahead-requires-clause-second : goal.is_ahead-requires-clause-second
is_ahead-requires-clause-second c = c.requires.nodes (2 * c.args.at + 1) no_item c.if-left-heap.false

pub returns-then-right-heap : goal.returns-then-right-heap
returns-then-right-heap c =
    first_alone (ahead (order_tree c.args.order.now) c.args.line.now.cells) (items_order (order_tree c.args.order.now) c.args.line.now.cells)
    c.args.heap.now c.args.at (2 * c.args.at + 1) refl c.if-left-heap.false c.if-right-heap.true

pub returns-then-is_ahead : goal.returns-then-is_ahead
returns-then-is_ahead c =
    let ranks = ahead (order_tree c.args.order.now) c.args.line.now.cells in
    first_right ranks (items_order (order_tree c.args.order.now) c.args.line.now.cells) c.args.heap.now c.args.at (2 * c.args.at + 1) refl c.if-right-heap.false
    (read_two ranks c.args.heap.now (2 * c.args.at + 1 + 1) (2 * c.args.at + 1) no_item true c.if-right-heap.false c.if-left-heap.false (sym c.is_ahead.ensures ∙ c.if-is_ahead.true))

pub returns : goal.returns
returns c =
    let ranks = ahead (order_tree c.args.order.now) c.args.line.now.cells in
    first_left ranks (items_order (order_tree c.args.order.now) c.args.line.now.cells) c.args.heap.now c.args.at (2 * c.args.at + 1) refl c.if-right-heap.false
    (read_two ranks c.args.heap.now (2 * c.args.at + 1 + 1) (2 * c.args.at + 1) no_item false c.if-right-heap.false c.if-left-heap.false (sym c.is_ahead.ensures ∙ c.if-is_ahead.false))
