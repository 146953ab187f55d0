use Rattle.std.proofs.Common.{◌≡◌, drop, map}
use Rattle.policy_tree.specs.Meaning.{case_tree, meaning_of}
use Rattle.policy_eval.specs.Events.{holding_cases}
use Rattle.policy_eval.proofs.Handling.{AreResolvedCases, holding_among}
use Rattle.policy_eval.proofs.events.apply_case.Given as goal

-- the cases passed over don't hold
abbrev pub invariant-loop-at : goal.invariant-loop-at
invariant-loop-at l = record {
  same : holding_among l.fresh l.consts l.task (map case_tree (drop l.at l.cases)) ≡ holding_cases (meaning_of l.policy) l.fn.event l.fresh l.consts l.task;
  resolved : AreResolvedCases (meaning_of l.policy) l.fn.event (map case_tree (drop l.at l.cases));
}
