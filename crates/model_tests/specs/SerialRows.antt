-- What serial play makes of the worked plans.
use Rattle.std.specs.Prelude.{◌≡◌, ℕ, List, [], ◌∷◌, map, length, take}
use Rattle.round_model.specs.After.{after}
use Rattle.round_model.specs.Cores.{core_numbers, load_of}
use Rattle.round_model.specs.Spread.{spread}
use Rattle.serial_steps.specs.SerialRounds.{serial_history}
use Rattle.model_tests.specs.Histories.{block_and_wake_history, eight_threads_history, one_core_history}
use Rattle.model_tests.specs.Histories.{stale_read_history, two_cores_history}
use Rattle.model_tests.specs.Plans.{block_and_wake, eight_threads, one_core, stale_read, two_cores}
use Rattle.fair_policy.specs.Fair.{fair_meaning as fair}
use Rattle.model_tests.specs.Policies.{basic}

abbrev pub OneCoreTwoUnits : Type 0
OneCoreTwoUnits = serial_history basic one_core ≡ one_core_history

abbrev pub TwoCoresOneSteal : Type 0
TwoCoresOneSteal = serial_history basic two_cores ≡ two_cores_history

abbrev pub StaleReadFails : Type 0
StaleReadFails = serial_history basic stale_read ≡ stale_read_history

abbrev pub FairBlocksAndWakes : Type 0
FairBlocksAndWakes = serial_history fair block_and_wake ≡ block_and_wake_history

-- the loads of all cores after the first k entries
abbrev pub loads_at : ℕ → List ℕ
loads_at k = map (λ c. load_of (after basic eight_threads (take k eight_threads_history) c))
    (core_numbers eight_threads)

-- the eight threads, as the rounds 2, 3 and 4 begin
pub record EightThreadsSpread : Type 0 where
  pub plays : serial_history basic eight_threads ≡ eight_threads_history
  pub entries : length eight_threads_history ≡ 44
  pub second : loads_at 17 ≡ 8 ∷ 0 ∷ 0 ∷ 0 ∷ []
  pub third : loads_at 26 ≡ 5 ∷ 1 ∷ 1 ∷ 1 ∷ []
  pub fourth : loads_at 35 ≡ 2 ∷ 2 ∷ 2 ∷ 2 ∷ []
  pub spreads : map (λ k. spread eight_threads (after basic eight_threads (take k eight_threads_history)))
      (17 ∷ 26 ∷ 35 ∷ []) ≡ 24 ∷ 12 ∷ 0 ∷ []
