use Rattle.std.proofs.Common.{◌≡◌, ◌++◌, drop, map, true}
use Rattle.std.specs.List.{AllByRecursion}
use Rattle.policy_tree.specs.Meaning.{case_tree}
use Rattle.policy_tree.specs.Trees.{cond_tree}
use Rattle.policy_eval.specs.Forms.{EachSide, IsLinear}
use Rattle.obligations.specs.Cases.{cases_of}
use Rattle.obligations.specs.Refutations.{any_of, both_of}
use Rattle.obligations.specs.Tallies.{guards_of}
use Rattle.obligations.proofs.refuting.with_later.Given as goal

abbrev pub invariant-loop-case : goal.invariant-loop-case
invariant-loop-case l = record {
  same : l.all.items ++ cases_of l.load true (any_of (map both_of (map (λ h. (cond_tree l.guard, h)) (guards_of (map case_tree (drop l.case-index l.later))))))
      ≡ l.initial.all.items ++ cases_of l.load true (any_of (map both_of (map (λ h. (cond_tree l.guard, h)) (guards_of (map case_tree l.later)))));
  linear : AllByRecursion (EachSide IsLinear) (guards_of (map case_tree (drop l.case-index l.later)));
}
