-- Worked histories that are legal, and entries that miss being legal by one change.
use Rattle.std.specs.Prelude.{ℕ, List, [], ◌∷◌, take}
use Rattle.round_model.specs.declared.entry.Did.TheVariants as did
use Rattle.round_model.specs.declared.entry.Entry.{Entry}
use Rattle.round_model.specs.declared.entry.Entry.TheVariants as entry
use Rattle.round_model.specs.declared.plan.Ending.TheVariants as ending
use Rattle.round_model.specs.declared.plan.Plan.{Plan}
use Rattle.round_model.specs.Legal.{LegalNext, Whole}
use Rattle.model_tests.specs.Histories.{block_and_wake_history, one_core_history, stale_read_history, two_cores_front}
use Rattle.model_tests.specs.Histories.{two_cores_history}
use Rattle.model_tests.specs.Plans.{block_and_wake, late, one_core, plan_of, run, stale_read, thread, two_cores}
use Rattle.fair_policy.specs.Fair.{fair_meaning as fair}
use Rattle.model_tests.specs.Policies.{basic}

-- the worked histories are whole
pub record WorkedAreWhole : Type 0 where
  pub one_core : Whole basic one_core one_core_history
  pub two_cores : Whole basic two_cores two_cores_history
  pub stale_read : Whole basic stale_read stale_read_history
  pub block_and_wake : Whole fair block_and_wake block_and_wake_history

-- the entry isn't legal after the first k of the two cores' history
abbrev pub MissesAt : ℕ → Entry → Type 0
MissesAt k e = ¬ LegalNext basic two_cores (take k two_cores_history) e

-- changes of one thing in the two cores' history
pub record TwoCoresMisses : Type 0 where
  pub enters_before_a_round : MissesAt 0 (entry.Enter 1 0 0 [])
  pub begins_with_round_2 : MissesAt 0 (entry.Round 2)
  pub enters_out_of_order : MissesAt 1 (entry.Enter 2 0 0 [])
  pub enters_elsewhere : MissesAt 1 (entry.Enter 1 0 1 [])
  pub enters_by_another_core : MissesAt 1 (entry.Enter 1 1 1 [])
  pub enters_twice : MissesAt 2 (entry.Enter 1 0 0 [])
  pub works_before_all_entered : MissesAt 2 (entry.Work 0 (did.Kept 1))
  pub says_queued_for_kept : MissesAt 3 (entry.Work 0 (did.Queued 1))
  pub attempts_before_working : MissesAt 3 (entry.Pass 0 (3 ∷ 1 ∷ []))
  pub works_twice : MissesAt 4 (entry.Work 0 (did.Kept 1))
  pub acts_as_a_core_that_is_not_there : MissesAt 4 (entry.Work 2 did.Nothing)
  pub passes_over_a_candidate : MissesAt 6 (entry.Pass 1 (5 ∷ 6 ∷ []))
  pub fails_where_a_steal_is_due : MissesAt 6 (entry.Fail 1 0 (5 ∷ 6 ∷ []))
  pub steals_the_current_thread : MissesAt 6 (entry.Steal 1 0 (1 ∷ []) (5 ∷ 6 ∷ []))
  pub reads_what_is_to_come : MissesAt 6 (entry.Steal 1 0 (2 ∷ []) (5 ∷ 7 ∷ []))
  pub reads_one_core_alone : MissesAt 6 (entry.Steal 1 0 (2 ∷ []) (5 ∷ []))
  pub begins_a_round_too_many : MissesAt 7 (entry.Round 2)
  pub attempts_twice : MissesAt 5 (entry.Pass 0 (4 ∷ 1 ∷ []))

-- a thread has blocked, and as it may wake another is to enter
abbrev pub late_enter : Plan
late_enter = plan_of 2 2 (thread 1 3 (run 1 (ending.Block 1) ∷ run 1 ending.End ∷ []) ∷ late 2 5 ∷ []) []

abbrev pub late_enter_front : List Entry
late_enter_front = entry.Round 1 ∷ entry.Enter 1 0 0 (1 ∷ 1 ∷ []) ∷ entry.Work 0 (did.Blocked 1) ∷ entry.Round 2 ∷ []

-- changes of one thing in the others' histories
pub record OtherMisses : Type 0 where
  pub wakes_late : ¬ LegalNext fair block_and_wake (take 8 block_and_wake_history) (entry.Work 0 did.Nothing)
  pub wakes_another : ¬ LegalNext fair block_and_wake (take 8 block_and_wake_history) (entry.Wake 2 0 0 (8 ∷ 8 ∷ []))
  pub wakes_in_its_round : ¬ LegalNext fair block_and_wake (take 4 block_and_wake_history)
      (entry.Wake 1 0 0 (3 ∷ 3 ∷ []))
  pub places_on_the_greater_load : ¬ LegalNext fair block_and_wake (take 2 block_and_wake_history)
      (entry.Enter 2 0 0 (2 ∷ 1 ∷ []))
  pub places_without_reads : ¬ LegalNext fair block_and_wake (take 1 block_and_wake_history) (entry.Enter 1 0 0 [])
  pub begins_a_round_too_soon : ¬ LegalNext basic one_core (take 3 one_core_history) (entry.Round 2)
  pub reads_the_round_before : ¬ LegalNext basic one_core (take 6 one_core_history) (entry.Pass 0 (4 ∷ []))
  pub steals_by_a_stale_read : ¬ LegalNext basic stale_read (take 8 stale_read_history)
      (entry.Steal 2 0 (1 ∷ []) (5 ∷ 6 ∷ 7 ∷ []))
  pub sees_the_steal_and_fails : ¬ LegalNext basic stale_read (take 8 stale_read_history)
      (entry.Fail 2 0 (8 ∷ 6 ∷ 7 ∷ []))
  pub wakes_with_a_thread_to_let_in : ¬ LegalNext fair late_enter late_enter_front (entry.Wake 1 0 0 (4 ∷ 4 ∷ []))
  pub goes_on_after_the_end : ¬ LegalNext basic one_core one_core_history (entry.Round 3)

-- histories that are legal and not whole: a round isn't complete, or another is due
pub record NotWhole : Type 0 where
  pub round_is_open : ¬ Whole basic two_cores two_cores_front
  pub round_is_due : ¬ Whole basic one_core (take 4 one_core_history)
