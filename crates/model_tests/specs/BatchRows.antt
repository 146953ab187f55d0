-- Steals of several threads: what serial play makes of them, and lists that miss being legal by one change.
use Rattle.std.specs.Prelude.{◌≡◌, ℕ, List, [], ◌∷◌, ◌++◌}
use Rattle.policy_tree.specs.Meaning.{Meaning}
use Rattle.policy_eval.specs.Obligations.{MeetsObligations}
use Rattle.policy_eval.specs.Resolved.{IsResolved}
use Rattle.round_model.specs.declared.plan.Plan.{Plan}
use Rattle.round_model.specs.Legal.{LegalNext}
use Rattle.serial_steps.specs.SerialRounds.{serial_history}
use Rattle.model_tests.specs.Histories.{seven_front, seven_steal, six_front, six_steal, three_history}
use Rattle.model_tests.specs.Plans.{seven_threads, six_threads, six_weights, three_weights}
use Rattle.model_tests.specs.Policies.{basic, in_batches, weighted}

-- serial play of six threads ends with the steal of these
abbrev pub PlaysSteal : Meaning → Plan → List ℕ → Type 0
PlaysSteal p plan threads = serial_history p plan ≡ six_front ++ six_steal threads ∷ []

-- a steal stops where the gap is closed, or at the limit. With limit 1 it is as without a batch
pub record BatchesOfThreads : Type 0 where
  pub of_eight : PlaysSteal (in_batches 8) six_threads (2 ∷ 3 ∷ 4 ∷ [])
  pub of_two : PlaysSteal (in_batches 2) six_threads (2 ∷ 3 ∷ [])
  pub of_one : PlaysSteal (in_batches 1) six_threads (2 ∷ [])
  pub of_a_busy_thief : serial_history (in_batches 8) seven_threads ≡ seven_front ++ seven_steal (2 ∷ 3 ∷ []) ∷ []
  pub without : PlaysSteal basic six_threads (2 ∷ [])

-- a steal stops before the thread that weighs too much, or where the queue is empty
pub record BatchesOfWeights : Type 0 where
  pub of_eight : PlaysSteal (weighted 8) six_weights (3 ∷ 2 ∷ [])
  pub of_one : PlaysSteal (weighted 1) six_weights (3 ∷ [])
  pub runs_empty : serial_history (weighted 8) three_weights ≡ three_history

-- the two policies with a batch are right
pub record BatchedPoliciesFit : Type 0 where
  pub threads : IsResolved (in_batches 8)
  pub threads_meet : MeetsObligations (in_batches 8)
  pub weights : IsResolved (weighted 8)
  pub weights_meet : MeetsObligations (weighted 8)

-- the steal of these isn't legal after the front of the six threads, where a steal moves so many at most
abbrev pub MissesSteal : (limit : ℕ) → List ℕ → Type 0
MissesSteal limit threads = ¬ LegalNext (in_batches limit) six_threads six_front (six_steal threads)

-- lists of threads that no steal moves
pub record BatchMisses : Type 0 where
  pub three_by_a_limit_of_two : MissesSteal 2 (2 ∷ 3 ∷ 4 ∷ [])
  pub two_by_a_limit_of_eight : MissesSteal 8 (2 ∷ 3 ∷ [])
  pub one_too_many : MissesSteal 8 (2 ∷ 3 ∷ 4 ∷ 5 ∷ [])
  pub in_another_order : MissesSteal 8 (3 ∷ 2 ∷ 4 ∷ [])
  pub the_current_thread : MissesSteal 8 (2 ∷ 3 ∷ 1 ∷ [])
  pub one_thread_twice : MissesSteal 8 (2 ∷ 3 ∷ 3 ∷ [])
  pub of_the_thief_itself : ¬ LegalNext (in_batches 8) seven_threads seven_front (seven_steal (2 ∷ 7 ∷ []))
  pub of_weights_in_another_order : ¬ LegalNext (weighted 8) six_weights six_front (six_steal (2 ∷ 3 ∷ []))
