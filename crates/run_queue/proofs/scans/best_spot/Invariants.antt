use Rattle.std.proofs.Common.{◌≡◌}
use Rattle.policy_tree.specs.Meaning.{order_tree}
use Rattle.run_queue.specs.Code.Lines.{spot_at}
use Rattle.run_queue.proofs.Best.{BestTo}
use Rattle.run_queue.proofs.scans.best_spot.Given as goal

-- the best of the tasks so far, and where the walk goes on
abbrev pub invariant-loop-place : goal.invariant-loop-place
invariant-loop-place l = record {
  next : l.next ≡ spot_at l.line.cells l._place;
  best : BestTo (order_tree l.order) l.line.cells l._place l.best;
}
