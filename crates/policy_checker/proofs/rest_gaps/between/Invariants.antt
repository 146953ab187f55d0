-- One gap is passed and a greater one is left.
use Rattle.std.proofs.Common.{◌-◌, ◌<◌}
use Rattle.policy_tree.specs.Meaning.{meaning_of}
use Rattle.policy_eval.specs.Obligations.{RestGap}
use Rattle.policy_checker.specs.RestGaps.{IsWider}
use Rattle.policy_checker.proofs.rest_gaps.between.Given as goal

abbrev pub invariant-loop-passed : goal.invariant-loop-passed
invariant-loop-passed l = record {
  passed : IsWider (meaning_of l.policy) l.passed;
  left : RestGap (meaning_of l.policy) l.left;
  less : l.passed.gap < l.left;
}

abbrev pub decreases-loop-passed : goal.decreases-loop-passed
decreases-loop-passed l = l.left - l.passed.gap
