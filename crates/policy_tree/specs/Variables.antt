-- The numbers of the variables, said a second time, so that none is changed by a slip.
use Rattle.std.specs.Prelude.{◌≡◌}
use Rattle.policy_tree.specs.declared.variables.TheConstants.{SELF_NR, SELF_LOAD, OTHER_NR, OTHER_LOAD, WEIGHT, FRESH}
use Rattle.policy_tree.specs.declared.variables.TheConstants.{SELF_ATTRIBUTES, OTHER_ATTRIBUTES, THREAD_ATTRIBUTES}

-- each variable has this number
pub record VariablesAreSaid : Type 0 where
  pub self_nr : SELF_NR ≡ 0
  pub self_load : SELF_LOAD ≡ 1
  pub other_nr : OTHER_NR ≡ 2
  pub other_load : OTHER_LOAD ≡ 3
  pub weight : WEIGHT ≡ 4
  pub fresh : FRESH ≡ 5
  pub self_attributes : SELF_ATTRIBUTES ≡ 6
  pub other_attributes : OTHER_ATTRIBUTES ≡ 14
  pub thread_attributes : THREAD_ATTRIBUTES ≡ 22
