-- Who may take the last waiting thread of a core.
use Rattle.std.specs.Prelude.{◌≡◌}
use Rattle.policy_tree.specs.Meaning.{Meaning}
use Rattle.policy_eval.specs.Obligations.{BatchLeavesLast, FilterLeavesLast, MeetsObligations}
use Rattle.policy_eval.specs.Ranges.{greatest_weight, least_weight}

-- only an idle core takes the last waiting thread of another
pub record LeavesLastToIdle (p : Meaning) : Type 0 where
  pub filter : FilterLeavesLast p
  pub batch : BatchLeavesLast p p.batch

-- where all threads weigh the same, a policy that meets its obligations leaves the last waiting thread to idle cores
abbrev pub EqualWeightsLaw : Type 0
EqualWeightsLaw = (p : Meaning) → MeetsObligations p → least_weight p.load ≡ greatest_weight p.load → LeavesLastToIdle p
