use Rattle.std.proofs.Common.{◌≡◌, ◌++◌, length, map, true}
use Rattle.std.specs.List.{AllByRecursion}
use Rattle.policy_tree.specs.Meaning.{case_tree}
use Rattle.policy_eval.specs.Forms.{EachSide, IsLinear}
use Rattle.obligations.specs.Cases.{cases_of}
use Rattle.obligations.specs.Refutations.{any_of, both_of, pairs_of}
use Rattle.obligations.specs.Tallies.{guards_of}
use Rattle.obligations.proofs.refuting.overlap_cases.Given as goal

abbrev pub invariant-loop-case : goal.invariant-loop-case
invariant-loop-case l = record {
  same : l.all.items ++ cases_of l.load true (any_of (map both_of (pairs_of (guards_of (map case_tree l.rest)))))
      ≡ cases_of l.load true (any_of (map both_of (pairs_of (guards_of (map case_tree l.cases)))));
  linear : AllByRecursion (EachSide IsLinear) (guards_of (map case_tree l.rest));
}

abbrev pub decreases-loop-case : goal.decreases-loop-case
decreases-loop-case l = length l.rest
