-- The rows with batches: their policies and plans.
use Rattle.std.specs.Prelude.{ℕ}
use Rattle.policy_tree.specs.Meaning.{Meaning}
use Rattle.round_model.specs.declared.plan.Plan.{Plan}
use Rattle.model_tests.specs.declared.batched.BatchRow.{BatchRow}
use Rattle.model_tests.specs.declared.batched.BatchRow.TheVariants as row
use Rattle.model_tests.specs.Plans.{seven_threads, six_threads, six_weights, three_weights}
use Rattle.model_tests.specs.Policies.{in_batches, weighted}

-- the policy of a row, where a steal moves so many at most
abbrev pub policy_in : BatchRow → (limit : ℕ) → Meaning
policy_in row.SixThreads limit = in_batches limit
policy_in row.SevenThreads limit = in_batches limit
policy_in row.SixWeights limit = weighted limit
policy_in row.ThreeWeights limit = weighted limit

-- the plan of a row
abbrev pub plan_in : BatchRow → Plan
plan_in row.SixThreads = six_threads
plan_in row.SevenThreads = seven_threads
plan_in row.SixWeights = six_weights
plan_in row.ThreeWeights = three_weights
