-- A bad round in which a thread ends: it has as many idle cores at its end as at its start.
use Rattle.std.specs.Prelude.{◌≡◌, ℕ, ◌<◌, List, [], ◌∷◌, map}
use Rattle.policy_tree.specs.Meaning.{Meaning}
use Rattle.policy_eval.specs.LastWaiting.{LeavesLastToIdle}
use Rattle.policy_eval.specs.Obligations.{MeetsObligations}
use Rattle.round_model.specs.declared.entry.Did.TheVariants as did
use Rattle.round_model.specs.declared.entry.Entry.{Entry}
use Rattle.round_model.specs.declared.entry.Entry.TheVariants as entry
use Rattle.round_model.specs.declared.plan.Ending.TheVariants as ending
use Rattle.round_model.specs.declared.plan.Plan.{Plan}
use Rattle.round_model.specs.Fits.{Fits}
use Rattle.round_model.specs.Legal.{Legal}
use Rattle.round_model.specs.Rounds.{BeginsAt, IsBad}
use Rattle.round_laws.specs.IdleBound.{EndsAt, idle_at}
use Rattle.model_tests.specs.Plans.{endless, plan_of, run, thread}
use Rattle.model_tests.specs.Policies.{basic}
use Rattle.row_tests.specs.BoundMet.{SaysOfAll}

-- two cores, and on the first of them a thread of two units and one without end
abbrev pub one_ends : Plan
one_ends = plan_of 2 2 (thread 1 1 (run 2 ending.End ∷ []) ∷ endless 2 ∷ []) []

-- in round 2 thread 1 ends before core 1 looks
abbrev pub one_ends_history : List Entry
one_ends_history =
    entry.Round 1
    ∷ entry.Enter 1 0 0 []
    ∷ entry.Enter 2 0 0 []
    ∷ entry.Work 0 (did.Kept 1)
    ∷ entry.Pass 0 (4 ∷ 1 ∷ [])
    ∷ entry.Work 1 did.Nothing
    ∷ entry.Pass 1 (1 ∷ 6 ∷ [])
    ∷ entry.Round 2
    ∷ entry.Work 0 (did.Ended 1)
    ∷ entry.Pass 0 (9 ∷ 8 ∷ [])
    ∷ entry.Work 1 did.Nothing
    ∷ entry.Pass 1 (9 ∷ 11 ∷ [])
    ∷ []

-- did a bad round end with fewer idle cores, whatever happens in it
abbrev pub StirredRoundsFill : Meaning → Plan → List Entry → Type 0
StirredRoundsFill p plan history = (number opening ending : ℕ) → IsBad p plan history number
    → BeginsAt history number opening → EndsAt history number ending
    → idle_at p plan history ending < idle_at p plan history opening

-- it doesn't
pub record NeedsStillness : Type 0 where
  pub meets : MeetsObligations basic
  pub leaves : LeavesLastToIdle basic
  pub fits : Fits basic one_ends
  pub legal : Legal basic one_ends one_ends_history
  pub second_is_bad : IsBad basic one_ends one_ends_history 2
  pub idle : map (idle_at basic one_ends one_ends_history) (7 ∷ 12 ∷ []) ≡ 1 ∷ 1 ∷ []
  pub not_every_round : ¬ SaysOfAll StirredRoundsFill
