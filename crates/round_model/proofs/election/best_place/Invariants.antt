use Rattle.std.proofs.Common.{◌≡◌, [], drop, MatchOption}
use Rattle.policy_tree.specs.Meaning.{order_tree}
use Rattle.round_model.specs.Work.{before}
use Rattle.round_model.proofs.Elections.{BestFrom}
use Rattle.round_model.proofs.election.best_place.Given as goal

-- the best of the tasks from here on
abbrev pub invariant-loop-at : goal.invariant-loop-at
invariant-loop-at l = MatchOption l.best (drop l.at l.tasks ≡ []) (BestFrom (before (order_tree l.order)) l.tasks l.at)
