-- A history of 100 cores, which is more than the program plays: legal, and it keeps the laws.
use Rattle.std.specs.Prelude.{◌≡◌, ℕ, List, [], ◌∷◌, length, replicate}
use Rattle.policy_eval.specs.Obligations.{MeetsObligations}
use Rattle.round_model.specs.declared.entry.Did.TheVariants as did
use Rattle.round_model.specs.declared.entry.Entry.{Entry}
use Rattle.round_model.specs.declared.entry.Entry.TheVariants as entry
use Rattle.round_model.specs.declared.plan.Plan.{Plan}
use Rattle.round_model.specs.After.{after}
use Rattle.round_model.specs.Cores.{thread_count}
use Rattle.round_model.specs.Fits.{Fits}
use Rattle.round_model.specs.Legal.{Legal}
use Rattle.round_model.specs.Limits.{IsWithinLimits}
use Rattle.round_laws.specs.MainTheorem.{KeepsLaws}
use Rattle.model_tests.specs.Plans.{endless, plan_of}
use Rattle.model_tests.specs.Policies.{basic}

-- 100 cores, and on the first of them two threads without end
abbrev pub hundred_cores : Plan
hundred_cores = plan_of 100 1 (endless 1 ∷ endless 2 ∷ []) []

-- a look at all cores, just after the first core's unit
abbrev pub one_look : List ℕ
one_look = replicate 100 4

-- the cores 99 and 98 look at all 100 at the same moment. The one steals, and the other comes too late
abbrev pub hundred_history : List Entry
hundred_history =
    entry.Round 1
    ∷ entry.Enter 1 0 0 []
    ∷ entry.Enter 2 0 0 []
    ∷ entry.Work 0 (did.Kept 1)
    ∷ entry.Work 99 did.Nothing
    ∷ entry.Steal 99 0 (2 ∷ []) one_look
    ∷ entry.Work 98 did.Nothing
    ∷ entry.Fail 98 0 one_look
    ∷ []

-- the policy meets its obligations, so the laws hold of this history too
pub record HundredCoresKeepLaws : Type 0 where
  pub meets : MeetsObligations basic
  pub fits : Fits basic hundred_cores
  pub legal : Legal basic hundred_cores hundred_history
  pub keeps : KeepsLaws basic hundred_cores hundred_history
  -- core 99 has a thread in the end
  pub stolen : thread_count (after basic hundred_cores hundred_history 99) ≡ 1
  -- and no command plays such a plan
  pub wide : ¬ IsWithinLimits hundred_cores
