-- A table of two cores.
use Rattle.std.specs.Prelude.{◌≡◌}
use Rattle.policy_tree.specs.Meaning.{meaning_of}
use Rattle.core_table.specs.declared.seat.Table.{Table}
use Rattle.core_table.specs.Public.{plan_of, policy_of}
use Rattle.model_tests.specs.Plans.{two_cores}
use Rattle.model_tests.specs.Policies.{basic}

-- the table of two threads without end on two cores, under the basic policy
pub record IsOfTwo (t : Table) : Type 0 where
  pub policy : meaning_of (policy_of t) ≡ basic
  pub plan : plan_of t ≡ two_cores
