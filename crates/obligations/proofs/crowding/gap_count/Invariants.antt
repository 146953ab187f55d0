use Rattle.std.proofs.Common.{◌≡◌, ◌*◌, ◌≤◌, drop, map}
use Rattle.policy_tree.specs.Meaning.{case_tree}
use Rattle.obligations.specs.declared.counts.TheConstants.{MAX_COUNT}
use Rattle.obligations.specs.Counts.{reported}
use Rattle.obligations.specs.Tallies.{gap_count, guards_of}
use Rattle.obligations.proofs.crowding.gap_count.Given as goal

abbrev pub invariant-loop-case : goal.invariant-loop-case
invariant-loop-case l = record {
  same : reported (l.gaps * gap_count (guards_of (map case_tree (drop l.case-index l.cases)))) ≡ reported (gap_count (guards_of (map case_tree l.cases)));
  gaps : l.gaps ≤ MAX_COUNT;
}
