use Rattle.std.proofs.Common.{◌≡◌, ◌≤◌, None, drop, map, take, vec_len}
use Rattle.policy_tree.specs.Meaning.{meaning_of}
use Rattle.obligations.specs.Counts.{first_crowded}
use Rattle.obligations.specs.Names.{ob_names}
use Rattle.obligations.specs.Systems.{obligation_of}
use Rattle.obligations.proofs.making.obligations_of.Given as goal

abbrev pub invariant-loop-name : goal.invariant-loop-name
invariant-loop-name l = record {
  all : l.all.items ≡ map (obligation_of (meaning_of l.policy)) (take l.name-index ob_names);
  few : vec_len l.all ≤ l.name-index;
  left : first_crowded (meaning_of l.policy) (drop l.name-index ob_names) ≡ None;
}
