-- Cores and threads whose numbers lie in the ranges of a policy.
use Rattle.std.specs.Prelude.{ℕ, ◌*◌, ◌≤◌}
use Rattle.sched_base.specs.declared.limits.TheConstants.{MAX_THREADS}
use Rattle.sched_base.specs.declared.task.Task.{Task}
use Rattle.policy_tree.specs.Meaning.{Meaning}
use Rattle.policy_eval.specs.declared.env.CoreValues.{CoreValues}
use Rattle.policy_eval.specs.Ranges.{AreIn, attribute_ranges, greatest_weight, least_weight}

-- thread count and load fit together
pub record LoadsFit (p : Meaning) (nr load : ℕ) : Type 0 where
  pub few : nr ≤ MAX_THREADS
  pub light : nr * least_weight p.load ≤ load
  pub heavy : load ≤ nr * greatest_weight p.load

-- what the policy may find when it asks for a core
pub record CoreFits (p : Meaning) (core : CoreValues) : Type 0 where
  pub loads : LoadsFit p core.nr core.load
  pub consts : AreIn (attribute_ranges p.core_attrs) core.consts

-- the weight is one that the policy's threads may have
pub record IsWeight (p : Meaning) (weight : ℕ) : Type 0 where
  pub least : least_weight p.load ≤ weight
  pub greatest : weight ≤ greatest_weight p.load

-- weight and attribute values lie in the policy's ranges
pub record IsTask (p : Meaning) (t : Task) : Type 0 where
  pub weight : IsWeight p t.weight
  pub attrs : AreIn (attribute_ranges p.thread_attrs) t.attrs
