use Rattle.std.proofs.Common.{◌≡◌, drop}
use Rattle.policy_tree.specs.Meaning.{meaning_of}
use Rattle.obligations.specs.Counts.{first_crowded}
use Rattle.obligations.specs.Names.{ob_names}
use Rattle.obligations.proofs.crowding.first_crowded.Given as goal

-- none before has too many
abbrev pub invariant-loop-name : goal.invariant-loop-name
invariant-loop-name l = first_crowded (meaning_of l.policy) (drop l.name-index ob_names) ≡ first_crowded (meaning_of l.policy) ob_names
