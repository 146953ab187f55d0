use Rattle.std.proofs.Common.{◌≡◌, drop, IfSome}
use Rattle.policy_tree.specs.Meaning.{order_tree}
use Rattle.policy_eval.specs.Orders.{best_of}
use Rattle.round_model.specs.Batches.{unnamed}
use Rattle.round_model.specs.UnitSteps.{IsSeenTask}
use Rattle.round_model.specs.Work.{before}
use Rattle.round_judge.proofs.batches.best_untaken.Given as goal

-- the best of those from here on
abbrev pub invariant-loop-at : goal.invariant-loop-at
invariant-loop-at l = record {
  best : l.best ≡ best_of (before (order_tree l.order)) (unnamed l.taken (drop l.at l.tasks));
  seen : IfSome l.best IsSeenTask;
}
