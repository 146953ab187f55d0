-- The cases so far are read, and those that are left break the same rules.
use Rattle.std.proofs.Common.{◌≡◌, drop, map, take, vec_len}
use Rattle.policy_tree.specs.Meaning.{case_tree}
use Rattle.policy_syntax.specs.SyntaxTrees.{case_syntax_tree}
use Rattle.policy_types.specs.Handlers.{case_meaning, cases_faults}
use Rattle.policy_types.proofs.scope.Scope.cases.Given as goal

abbrev pub invariant-loop-case : goal.invariant-loop-case
invariant-loop-case l = record {
  same : map case_tree l.read.items ≡ map (case_meaning l.self) (map case_syntax_tree (take l.case-index l.cases));
  len : vec_len l.read ≡ l.case-index;
  faults : cases_faults l.self l.event (map case_syntax_tree (drop l.case-index l.cases)) ≡ cases_faults l.self l.event (map case_syntax_tree l.cases);
}
