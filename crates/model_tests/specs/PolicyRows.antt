-- Policies that are resolved and meet what they owe, and policies that miss it by one change.
use Rattle.std.specs.Prelude.{pos, List, [], ◌∷◌}
use Rattle.policy_tree.specs.declared.trees.Cmp.TheVariants as cmp
use Rattle.policy_tree.specs.declared.typed.Event.TheVariants as event
use Rattle.policy_tree.specs.declared.typed.Put.TheVariants as put
use Rattle.policy_tree.specs.Trees.{CondTree, always, number, test, times, variable}
use Rattle.policy_tree.specs.Meaning.{CaseTree, Meaning}
use Rattle.policy_eval.specs.Obligations.{IdleSeesOverloaded, MeetsObligations, MoveNarrowsGap, NoGap, NoOverlap}
use Rattle.policy_eval.specs.Obligations.{VictimIsOverloaded}
use Rattle.policy_eval.specs.Resolved.{IsResolved}
use Rattle.round_model.specs.Fits.{Fits}
use Rattle.model_tests.specs.Plans.{block_and_wake, eight_threads, plan_of}
use Rattle.fair_policy.specs.Fair.{fair_meaning as fair}
use Rattle.fair_policy.specs.Forms.{handlers_with, whenever}
use Rattle.model_tests.specs.Policies.{basic, gap_of}

-- the two policies of the worked rows are right, and the plans fit them
pub record WorkedPoliciesFit : Type 0 where
  pub basic_resolved : IsResolved basic
  pub fair_resolved : IsResolved fair
  pub basic_meets : MeetsObligations basic
  pub fair_meets : MeetsObligations fair
  pub eight_threads_fit : Fits basic eight_threads
  pub block_and_wake_fits : Fits fair block_and_wake

-- the basic policy with another filter
abbrev pub with_filter : CondTree → Meaning
with_filter filter = record basic { filter = filter }

-- the basic policy with another handler of tick
abbrev pub with_tick : List CaseTree → Meaning
with_tick cases = record basic { handlers = handlers_with cases }

-- the nr of the acting core is not 0
abbrev pub self_is_busy : CondTree
self_is_busy = test cmp.Ne (variable 0) (number (pos 0))

-- changes of one thing in the basic policy
pub record PolicyMisses : Type 0 where
  pub gap_of_three_misses_a_pair : ¬ IdleSeesOverloaded (with_filter (gap_of 3))
  pub gap_of_one_takes_the_last_thread : ¬ VictimIsOverloaded (with_filter (gap_of 1))
  pub gap_of_one_keeps_the_gap : ¬ MoveNarrowsGap (with_filter (gap_of 1))
  pub victim_without_threads_keeps_the_gap : ¬ MoveNarrowsGap (with_filter always)
  pub two_cases_overlap : ¬ NoOverlap (with_tick (record { guard = always; sets = []; put = put.Keep }
      ∷ whenever [] put.Queue)) event.Tick
  pub no_case_leaves_a_gap : ¬ NoGap (with_tick []) event.Tick
  pub product_of_variables : ¬ IsResolved (with_filter (test cmp.Ge (times (variable 2) (variable 0)) (number (pos 2))))
  pub weight_in_a_filter : ¬ IsResolved (with_filter (test cmp.Ge (variable 4) (number (pos 2))))
  pub wide_number : ¬ IsResolved (with_filter (test cmp.Ge (variable 2) (number (pos 1099511627777))))
  pub queue_in_a_block : ¬ IsResolved (record basic {
    handlers =
        record basic.handlers { on_block = whenever [] put.Queue };
  })
  pub no_cores : ¬ Fits basic (plan_of 0 1 [] [])
