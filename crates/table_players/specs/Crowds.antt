-- Plans of one round with threads that enter by several cores, and the policies under which they are played.
use Rattle.std.specs.Prelude.{◌≡◌, ℕ, ◌+◌, ◌<◌, ◌≤◌, ◌⊎◌, List, [], ◌∷◌, length, replicate, slice_index_or}
use Rattle.policy_tree.specs.Meaning.{Meaning}
use Rattle.policy_eval.specs.Sights.{no_attributes}
use Rattle.round_model.specs.declared.plan.Ending.TheVariants as ending
use Rattle.round_model.specs.declared.plan.Plan.{Plan}
use Rattle.round_model.specs.declared.plan.Planned.{Planned}
use Rattle.fair_policy.specs.Fair.{fair_meaning}
use Rattle.model_tests.specs.Plans.{run}
use Rattle.model_tests.specs.Policies.{basic, in_batches}

-- the policies under which such plans are played
abbrev pub IsTried : Meaning → Type 0
IsTried p = (p ≡ basic) ⊎ ((p ≡ fair_meaning) ⊎ (p ≡ in_batches 8))

-- the thread of that number: weight 1, without end, and let in by one of so many cores
pub record IsMember (cores number : ℕ) (t : Planned) : Type 0 where
  pub id : t.id ≡ number
  pub core : t.core < cores
  pub weight : t.weight ≡ 1
  pub bursts : t.bursts ≡ run 1 ending.Forever ∷ []

-- the threads are numbered by their places, from 1
abbrev pub AreMembers : ℕ → List Planned → Type 0
AreMembers cores threads = (k : ℕ) (d : Planned) → k < length threads →
    IsMember cores (k + 1) (slice_index_or threads k d)

-- a plan of one round, a few cores and a few such threads
pub record IsCrowd (plan : Plan) : Type 0 where
  pub some_cores : 1 ≤ plan.cores
  pub few_cores : plan.cores ≤ 4
  pub rounds : plan.rounds ≡ 1
  pub limit : plan.limit ≡ 64
  pub consts : plan.consts ≡ replicate plan.cores no_attributes
  pub some_threads : 1 ≤ length plan.threads
  pub few_threads : length plan.threads ≤ 8
  pub threads : AreMembers plan.cores plan.threads
  pub orders : plan.orders ≡ []
