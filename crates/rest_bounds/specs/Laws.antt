-- What the condition is for.
use Rattle.std.specs.Prelude.{◌≡◌, true}
use Rattle.policy_tree.specs.Meaning.{Meaning}
use Rattle.policy_eval.specs.Resolved.{IsResolved}
use Rattle.rest_laws.specs.LowestFirst.{LowestFirst}
use Rattle.rest_bounds.specs.Following.{raises_lowest}

-- where the condition holds of a policy, the lower core sees as much
abbrev pub RaisesLowestLaw : Type 0
RaisesLowestLaw = (p : Meaning) → IsResolved p → raises_lowest p ≡ true → LowestFirst p
