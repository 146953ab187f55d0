use Rattle.std.proofs.Common.{true, false, sym, ◌∙◌}
use Rattle.policy_tree.specs.Meaning.{order_tree}
use Rattle.run_queue.specs.Code.Ahead.{ahead}
use Rattle.run_queue.proofs.Ordered.{items_order}
use Rattle.run_queue.proofs.Ranking.{no_item}
use Rattle.run_queue.proofs.Sifting.{leads_first, read_two}
use Rattle.run_queue.proofs.sift.child_ahead.Goals as goal

pub is_ahead-requires-clause-first : goal.is_ahead-requires-clause-first
is_ahead-requires-clause-first c = c.requires.nodes c.in_ok-child.child no_item c.in_ok-child.ensures.inside

pub is_ahead-requires-clause-second : goal.is_ahead-requires-clause-second
is_ahead-requires-clause-second c = c.requires.nodes c.args.at no_item c.requires.inside

pub returns-then-is_ahead : goal.returns-then-is_ahead
returns-then-is_ahead c = record {
  place = c.in_ok-child.ensures;
  first = read_two (ahead (order_tree c.args.order.now) c.args.line.now.cells) c.args.heap.now c.in_ok-child.child c.args.at no_item true
      c.in_ok-child.ensures.inside c.requires.inside (sym c.is_ahead.ensures ∙ c.if-is_ahead.true);
}

pub returns : goal.returns
returns c =
    let ranks = ahead (order_tree c.args.order.now) c.args.line.now.cells in
    leads_first ranks (items_order (order_tree c.args.order.now) c.args.line.now.cells) c.args.heap.now c.args.at c.in_ok-child.child c.in_ok-child.ensures
    (read_two ranks c.args.heap.now c.in_ok-child.child c.args.at no_item false
    c.in_ok-child.ensures.inside c.requires.inside (sym c.is_ahead.ensures ∙ c.if-is_ahead.false))
