-- Bad and still rounds, an explained failed steal, phases of threads and owed entries, on the worked histories.
use Rattle.std.specs.Prelude.{◌≡◌, ℕ, List, [], ◌∷◌, map, take}
use Rattle.round_model.specs.After.{after}
use Rattle.round_model.specs.Cores.{core_numbers}
use Rattle.round_model.specs.Explains.{Explains}
use Rattle.round_model.specs.Owed.{owed}
use Rattle.round_model.specs.Phases.{Phase, blocked_places_of, live, outside, over, phase_of, places_of, waiting}
use Rattle.round_model.specs.Rounds.{IsBad, IsStill}
use Rattle.round_model.specs.Stretches.{InStretch, IsStillStretch}
use Rattle.model_tests.specs.Histories.{block_and_wake_history, eight_threads_history, stale_read_history}
use Rattle.model_tests.specs.Plans.{block_and_wake, eight_threads, stale_read}
use Rattle.fair_policy.specs.Fair.{fair_meaning as fair}
use Rattle.model_tests.specs.Policies.{basic}

-- of the rounds of the eight threads the second is bad and the third is not, and the first alone is not still
pub record EightThreadsRounds : Type 0 where
  pub second_is_bad : IsBad basic eight_threads eight_threads_history 2
  pub third_is_not : ¬ IsBad basic eight_threads eight_threads_history 3
  pub later_are_still : IsStillStretch eight_threads_history 2 4
  pub first_is_not : ¬ IsStill eight_threads_history 1 1
  pub end_is_in_stretch : InStretch eight_threads_history 2 4 44
  pub opening_of_the_next_is_in_stretch : InStretch eight_threads_history 2 3 35
  pub entry_of_the_next_is_not : ¬ InStretch eight_threads_history 2 3 36
  pub opening_of_the_first_is_before : ¬ InStretch eight_threads_history 2 4 16

-- the failed steal at 8 is explained by the steal at 7, and by nothing else
pub record StaleReadExplained : Type 0 where
  pub by_the_steal : Explains basic stale_read stale_read_history 8 7
  pub not_by_an_idle_unit : ¬ Explains basic stale_read stale_read_history 8 6
  pub not_by_what_was_read : ¬ Explains basic stale_read stale_read_history 8 3
  pub only : (cause : ℕ) → Explains basic stale_read stale_read_history 8 cause → cause ≡ 7
  pub no_fail_no_cause : ¬ Explains basic stale_read stale_read_history 7 3

-- the phases of thread 1 after each entry that names it, and where it stands then
abbrev pub phases_of_1 : List ℕ → List Phase
phases_of_1 positions = map (λ k. phase_of 1 (take k block_and_wake_history)) positions

abbrev pub stands_at : ℕ → ℕ × ℕ
stands_at k = let m = after fair block_and_wake (take k block_and_wake_history) in
    (places_of block_and_wake m 1, blocked_places_of block_and_wake m 1)

pub record ThreadPhases : Type 0 where
  pub phases : phases_of_1 (1 ∷ 2 ∷ 4 ∷ 9 ∷ 10 ∷ []) ≡ outside ∷ live ∷ waiting ∷ live ∷ over ∷ []
  pub stands : map stands_at (1 ∷ 2 ∷ 4 ∷ 9 ∷ 10 ∷ []) ≡ (0, 0) ∷ (1, 0) ∷ (0, 1) ∷ (1, 0) ∷ (0, 0) ∷ []

-- what each core owes before the first round, as rounds begin, and on the way
pub record OwedEntries : Type 0 where
  pub at_first : map (owed basic eight_threads []) (core_numbers eight_threads) ≡ 0 ∷ 0 ∷ 0 ∷ 0 ∷ []
  pub in_round_1 : map (owed basic eight_threads (take 1 eight_threads_history))
      (core_numbers eight_threads) ≡ 10 ∷ 2 ∷ 2 ∷ 2 ∷ []
  pub in_round_2 : map (owed basic eight_threads (take 20 eight_threads_history))
      (core_numbers eight_threads) ≡ 0 ∷ 2 ∷ 2 ∷ 2 ∷ []
  pub at_the_end : map (owed basic eight_threads eight_threads_history)
      (core_numbers eight_threads) ≡ 0 ∷ 0 ∷ 0 ∷ 0 ∷ []
  pub one_to_wake : map (owed fair block_and_wake (take 8 block_and_wake_history))
      (core_numbers block_and_wake) ≡ 3 ∷ 2 ∷ []
