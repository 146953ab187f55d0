-- The policies that texts spell are resolved ones.
use Rattle.std.specs.Prelude.{ℕ, ◌≤◌, List, length}
use Rattle.policy_eval.specs.Resolved.{IsResolved}
use Rattle.sched_base.specs.declared.limits.TheConstants.{MAX_POLICY_BYTES}
use Rattle.policy_tree.specs.Meaning.{Meaning}
use Rattle.policy_reader.specs.Spelled.{SpellsPolicy}

-- so is each policy that a text within the limit spells
abbrev pub SpellsResolved : Type 0
SpellsResolved = (text : List ℕ) (p : Meaning) → length text ≤ MAX_POLICY_BYTES → SpellsPolicy text p → IsResolved p
