-- The plainest filter: the victim has at least two threads more.
use Rattle.std.specs.Prelude.{◌≡◌, pos, Option, None, Some}
use Rattle.policy_tree.specs.declared.trees.Cmp.TheVariants as cmp
use Rattle.policy_tree.specs.declared.typed.Load.TheVariants as load
use Rattle.policy_tree.specs.Meaning.{BatchTree, Meaning}
use Rattle.policy_tree.specs.Trees.{CondTree, minus, number, test, variable}
use Rattle.policy_eval.specs.Obligations.{MeetsHandlerObligations, RestGap}
use Rattle.rest_laws.specs.LowestFirst.{LowestFirst}
use Rattle.round_laws.specs.Rest.{MeetsMoveObligations}

-- victim.nr - self.nr >= 2
abbrev pub is_two_apart : CondTree
is_two_apart = test cmp.Ge (minus (variable 2) (variable 0)) (number (pos 2))

-- a batch, if there is one, goes on as long as that holds
abbrev pub IsBatchTwoApart : Option BatchTree → Type 0
IsBatchTwoApart None = Unit {0}
IsBatchTwoApart (Some batch) = batch.condition ≡ is_two_apart

-- loads are counts, and that is the filter
pub record IsTwoApart (p : Meaning) : Type 0 where
  pub counts : p.load ≡ load.Count
  pub filter : p.filter ≡ is_two_apart
  pub batch : IsBatchTwoApart p.batch

-- such a policy owes no more than that one case of each handler holds, raises the lowest first, and leaves no gap but
-- one
pub record EvensOut (p : Meaning) : Type 0 where
  pub obligations : MeetsHandlerObligations p → MeetsMoveObligations p
  pub lowest_first : LowestFirst p
  pub gap : RestGap p 1

abbrev pub TwoApartLaw : Type 0
TwoApartLaw = (p : Meaning) → IsTwoApart p → EvensOut p
