use Rattle.std.proofs.Common.{◌≡◌, ◌+◌, ◌*◌, ◌≤◌, drop, map}
use Rattle.policy_tree.specs.Meaning.{case_tree}
use Rattle.obligations.specs.declared.counts.TheConstants.{MAX_COUNT}
use Rattle.obligations.specs.Counts.{reported}
use Rattle.obligations.specs.Tallies.{any_count, guards_of, pair_count}
use Rattle.obligations.proofs.crowding.pair_count.Given as goal

-- the pairs so far, those of an earlier guard with one that is left, and those of guards that are left
abbrev pub invariant-loop-case : goal.invariant-loop-case
invariant-loop-case l = record {
  same : reported (l.pairs + (l.earlier * any_count (guards_of (map case_tree (drop l.case-index l.cases))) + pair_count (guards_of (map case_tree (drop l.case-index l.cases)))))
      ≡ reported (pair_count (guards_of (map case_tree l.cases)));
  pairs : l.pairs ≤ MAX_COUNT;
  earlier : l.earlier ≤ MAX_COUNT;
}
