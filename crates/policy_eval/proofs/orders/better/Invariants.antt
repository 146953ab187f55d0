use Rattle.std.proofs.Common.{◌≡◌, drop}
use Rattle.policy_tree.specs.Meaning.{order_tree}
use Rattle.policy_eval.specs.Evaluable.{IsEvaluableOrder}
use Rattle.policy_eval.specs.Orders.{precedes}
use Rattle.policy_eval.proofs.orders.better.Given as goal

-- the keys that are left decide as all keys do
abbrev pub invariant-loop-at : goal.invariant-loop-at
invariant-loop-at l = record {
  same : precedes (order_tree (drop l.at l.order)) l.a.vals l.b.vals ≡ precedes (order_tree l.order) l.a.vals l.b.vals;
  evaluable : IsEvaluableOrder (order_tree (drop l.at l.order));
}
