use Rattle.std.proofs.Common.{◌≡◌, drop, map}
use Rattle.std.specs.List.{list_all}
use Rattle.policy_tree.specs.Meaning.{case_tree, cases_on, handler_trees}
use Rattle.wait_classes.specs.Rules.{obeys}
use Rattle.wait_classes.proofs.rules.obeys_on.Given as goal

-- the cases that are left decide as all cases do
abbrev pub invariant-loop-at : goal.invariant-loop-at
invariant-loop-at l = list_all (obeys l.rule) (map case_tree (drop l.at l.cases)) ≡ list_all (obeys l.rule) (cases_on (handler_trees l.policy.handlers) l.fn.event)
