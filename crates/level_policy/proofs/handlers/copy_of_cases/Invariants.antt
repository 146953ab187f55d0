-- The cases so far are those of the copy.
use Rattle.std.proofs.Common.{◌≡◌, map, take, vec_len}
use Rattle.policy_tree.specs.Meaning.{case_tree}
use Rattle.level_policy.proofs.handlers.copy_of_cases.Given as goal

abbrev pub invariant-loop-case : goal.invariant-loop-case
invariant-loop-case l = record {
  same : map case_tree l.copy.items ≡ map case_tree (take l.case-index l.cases);
  len : vec_len l.copy ≡ l.case-index;
}
