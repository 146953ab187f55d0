-- What events do, and what serial play makes of order lines, on small plans.
use Rattle.std.specs.Prelude.{◌≡◌, ℕ, ℤ, pos, List, [], ◌∷◌, ◌++◌, length, replicate, Some, true}
use Rattle.sched_base.specs.declared.task.Task.{Task}
use Rattle.policy_tree.specs.declared.typed.Put.TheVariants as put
use Rattle.policy_tree.specs.Trees.{always, number, plus, variable}
use Rattle.policy_tree.specs.Meaning.{Meaning, SetTree}
use Rattle.policy_eval.specs.Events.{task_after_set}
use Rattle.policy_eval.specs.Sights.{no_attributes}
use Rattle.round_model.specs.declared.entry.Did.{Did}
use Rattle.round_model.specs.declared.entry.Did.TheVariants as did
use Rattle.round_model.specs.declared.entry.Entry.{Entry}
use Rattle.round_model.specs.declared.entry.Entry.TheVariants as entry
use Rattle.round_model.specs.declared.plan.Ending.TheVariants as ending
use Rattle.round_model.specs.declared.plan.Plan.{Plan}
use Rattle.round_model.specs.After.{after}
use Rattle.round_model.specs.Choices.{target_of}
use Rattle.round_model.specs.Cores.{tasks_of}
use Rattle.round_model.specs.Legal.{LegalNext}
use Rattle.serial_steps.specs.SerialRounds.{serial_history}
use Rattle.model_tests.specs.Histories.{stale_read_history}
use Rattle.model_tests.specs.Plans.{in_order, endless, one_core, plan_of, run, thread}
use Rattle.fair_policy.specs.Fair.{fair_meaning as fair}
use Rattle.fair_policy.specs.Forms.{whenever}
use Rattle.model_tests.specs.Policies.{basic, seen_count}
use Rattle.model_tests.specs.PolicyRows.{with_tick}

-- one core and a thread that yields between two units
abbrev pub yielding_plan : Plan
yielding_plan = plan_of 1 10 (thread 1 1 (run 1 ending.Yield ∷ run 1 ending.End ∷ []) ∷ []) []

abbrev pub YieldGoesToTheQueue : Type 0
YieldGoesToTheQueue = serial_history basic yielding_plan ≡
    entry.Round 1
    ∷ entry.Enter 1 0 0 []
    ∷ entry.Work 0 (did.Queued 1)
    ∷ entry.Pass 0 (3 ∷ [])
    ∷ entry.Round 2
    ∷ entry.Work 0 (did.Ended 1)
    ∷ entry.Pass 0 (6 ∷ [])
    ∷ []

-- a thread has entered on the one core
abbrev pub one_entered : List Entry
one_entered = entry.Round 1 ∷ entry.Enter 1 0 0 [] ∷ []

-- the handler of tick leaves a gap, or has two cases that hold
abbrev pub gap : Meaning
gap = with_tick []

abbrev pub overlap : Meaning
overlap = with_tick (record { guard = always; sets = []; put = put.Keep } ∷ whenever [] put.Queue)

-- the threads of the core after its unit
abbrev pub standing_after : Meaning → Did → ℕ
standing_after p d = length (tasks_of (after p one_core (one_entered ++ entry.Work 0 d ∷ []) 0))

-- a gap loses the thread, and nothing may be said of it; an overlap doubles it, and either word is right
pub record GapsAndOverlaps : Type 0 where
  pub gap_loses : standing_after gap (did.Kept 1) ≡ 0
  pub gap_says_nothing : (d : Did) → ¬ LegalNext gap one_core one_entered (entry.Work 0 d)
  pub overlap_doubles : standing_after overlap (did.Kept 1) ≡ 2
  pub overlap_says_kept : LegalNext overlap one_core one_entered (entry.Work 0 (did.Kept 1))
  pub overlap_says_queued : LegalNext overlap one_core one_entered (entry.Work 0 (did.Queued 1))
  pub overlap_says_no_other : ¬ LegalNext overlap one_core one_entered (entry.Work 0 (did.Ended 1))

-- a thread of the fair policy that has used so much
abbrev pub used_up : ℤ → Task
used_up used = record { id = 1; weight = 3; attrs = used ∷ replicate 7 (pos 0); place = record { burst = 0; done = 0 } }

-- the assignment of its tick
abbrev pub one_more_used : SetTree
one_more_used = record { attr = 0; expr = plus (variable 22) (number (pos 1)) }

-- an attribute stops at the end of its range
pub record Saturates : Type 0 where
  pub within : task_after_set fair true no_attributes (used_up (pos 7)) one_more_used ≡ used_up (pos 8)
  pub at_the_end : task_after_set fair true no_attributes (used_up (pos 1000)) one_more_used ≡ used_up (pos 1000)

-- three cores, where the order line has numbers of cores whose turn is over
abbrev pub long_order : Plan
long_order = plan_of 3 1 (endless 1 ∷ endless 2 ∷ [])
    (in_order (0 ∷ 0 ∷ 0 ∷ 0 ∷ 0 ∷ 0 ∷ 0 ∷ 1 ∷ 1 ∷ 2 ∷ 2 ∷ 1 ∷ 0 ∷ 1 ∷ 2 ∷ []))

-- such a number is passed over
abbrev pub OverNumbersArePassedOver : Type 0
OverNumbersArePassedOver = serial_history basic long_order ≡ stale_read_history

-- of cores with one load the lowest number is the target, whichever core places
pub record TiesGoToTheLowest : Type 0 where
  pub by_the_last : target_of fair 2 (λ c. seen_count 1) 1 ≡ Some 0
  pub by_the_first : target_of fair 2 (λ c. seen_count 1) 0 ≡ Some 0
