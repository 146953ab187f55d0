use Rattle.std.proofs.Common.{◌≡◌, drop, map, true}
use Rattle.std.specs.List.{AllByRecursion}
use Rattle.policy_tree.specs.Meaning.{case_tree}
use Rattle.policy_tree.specs.Trees.{negated}
use Rattle.policy_eval.specs.Forms.{EachSide, IsLinear}
use Rattle.obligations.specs.Cases.{cases_of, crossed}
use Rattle.obligations.specs.Refutations.{all_of}
use Rattle.obligations.specs.Tallies.{guards_of}
use Rattle.obligations.proofs.refuting.gap_cases.Given as goal

abbrev pub invariant-loop-case : goal.invariant-loop-case
invariant-loop-case l = record {
  same : crossed l.all.items (cases_of l.load true (all_of (map negated (guards_of (map case_tree (drop l.case-index l.cases))))))
      ≡ cases_of l.load true (all_of (map negated (guards_of (map case_tree l.cases))));
  linear : AllByRecursion (EachSide IsLinear) (guards_of (map case_tree (drop l.case-index l.cases)));
}
