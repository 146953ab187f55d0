use Rattle.std.proofs.Common.{◌-◌, ◌/◌, true, false, sym, ◌∙◌, arith}
use Rattle.policy_tree.specs.Meaning.{order_tree}
use Rattle.run_queue.specs.Code.Ahead.{ahead}
use Rattle.run_queue.specs.Code.Heaps.{IsChild}
use Rattle.run_queue.proofs.Ordered.{items_order}
use Rattle.run_queue.proofs.Ranking.{no_item}
use Rattle.run_queue.proofs.Sifting.{follows_at, read_two}
use Rattle.run_queue.proofs.sift.parent_behind.Goals as goal

pub is_ahead-requires-clause-first : goal.is_ahead-requires-clause-first
is_ahead-requires-clause-first c = c.requires.nodes c.args.at no_item c.requires.inside

pub is_ahead-requires-clause-second : goal.is_ahead-requires-clause-second
is_ahead-requires-clause-second c = c.requires.nodes ((c.args.at - 1) / 2) no_item (let inside = c.requires.inside in omega arith)

pub returns-then-is_ahead : goal.returns-then-is_ahead
returns-then-is_ahead c =
    let inside = c.requires.inside in let some = c.if-at-eq0.false in
    record {
      child = record { low = omega arith; high = omega arith };
      first = read_two (ahead (order_tree c.args.order.now) c.args.line.now.cells) c.args.heap.now c.args.at ((c.args.at - 1) / 2) no_item true
          inside (omega arith) (sym c.is_ahead.ensures ∙ c.if-is_ahead.true);
    }

pub returns : goal.returns
returns c =
    let ranks = ahead (order_tree c.args.order.now) c.args.line.now.cells in
    let inside = c.requires.inside in let some = c.if-at-eq0.false in
    let child : IsChild ((c.args.at - 1) / 2) c.args.at = record { low = omega arith; high = omega arith } in
    follows_at ranks (items_order (order_tree c.args.order.now) c.args.line.now.cells) c.args.heap.now c.args.at ((c.args.at - 1) / 2) child
    (read_two ranks c.args.heap.now c.args.at ((c.args.at - 1) / 2) no_item false inside (omega arith) (sym c.is_ahead.ensures ∙ c.if-is_ahead.false))
