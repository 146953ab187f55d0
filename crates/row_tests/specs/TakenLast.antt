-- A history in which a busy core takes the last waiting thread, so that one idle core lasts for two bad rounds.
use Rattle.std.specs.Prelude.{◌≡◌, ℕ, List, [], ◌∷◌, map}
use Rattle.policy_tree.specs.Meaning.{Meaning}
use Rattle.policy_eval.specs.LastWaiting.{LeavesLastToIdle}
use Rattle.policy_eval.specs.Obligations.{MeetsObligations}
use Rattle.round_model.specs.declared.entry.Did.TheVariants as did
use Rattle.round_model.specs.declared.entry.Entry.{Entry}
use Rattle.round_model.specs.declared.entry.Entry.TheVariants as entry
use Rattle.round_model.specs.declared.plan.Plan.{Plan}
use Rattle.round_model.specs.declared.plan.Planned.{Planned}
use Rattle.round_model.specs.Fits.{Fits}
use Rattle.round_model.specs.Legal.{Legal}
use Rattle.round_laws.specs.IdleBound.{PaysByIdleCores, idle_at, waiting_at}
use Rattle.fair_policy.specs.Fair.{fair_meaning as fair}
use Rattle.model_tests.specs.Plans.{plan_of, weighing}

-- a thread of that weight without end that core 1 lets in
abbrev pub beside : (id weight : ℕ) → Planned
beside id weight = record (weighing id weight) { core = 1 }

-- three cores, two heavy threads on the first and a light one on the second
abbrev pub three_cores : Plan
three_cores = plan_of 3 3 (weighing 1 8 ∷ weighing 2 8 ∷ beside 3 1 ∷ []) []

-- in round 2 core 1 takes the thread that core 2, which is idle, has seen; in round 3 core 2 gets it from there
abbrev pub three_cores_history : List Entry
three_cores_history =
    entry.Round 1
    ∷ entry.Enter 1 0 0 (1 ∷ 1 ∷ 1 ∷ [])
    ∷ entry.Enter 2 0 0 (1 ∷ 1 ∷ 1 ∷ [])
    ∷ entry.Enter 3 1 1 (3 ∷ 3 ∷ 3 ∷ [])
    ∷ entry.Work 0 (did.Queued 1)
    ∷ entry.Pass 0 (5 ∷ 5 ∷ 5 ∷ [])
    ∷ entry.Work 1 (did.Queued 3)
    ∷ entry.Pass 1 (1 ∷ 7 ∷ 7 ∷ [])
    ∷ entry.Work 2 did.Nothing
    ∷ entry.Pass 2 (1 ∷ 9 ∷ 9 ∷ [])
    ∷ entry.Round 2
    ∷ entry.Work 2 did.Nothing
    ∷ entry.Work 1 (did.Queued 3)
    ∷ entry.Steal 1 0 (2 ∷ []) (13 ∷ 13 ∷ 13 ∷ [])
    ∷ entry.Fail 2 0 (13 ∷ 13 ∷ 13 ∷ [])
    ∷ entry.Work 0 (did.Queued 1)
    ∷ entry.Pass 0 (16 ∷ 16 ∷ 16 ∷ [])
    ∷ entry.Round 3
    ∷ entry.Work 2 did.Nothing
    ∷ entry.Steal 2 1 (2 ∷ []) (19 ∷ 19 ∷ 19 ∷ [])
    ∷ entry.Work 0 (did.Queued 1)
    ∷ entry.Pass 0 (21 ∷ 21 ∷ 21 ∷ [])
    ∷ entry.Work 1 (did.Queued 3)
    ∷ entry.Pass 1 (23 ∷ 23 ∷ 23 ∷ [])
    ∷ []

-- idle cores and waiting threads as the rounds begin, and at the end
pub record ThreeCoresCounts : Type 0 where
  pub idle : map (idle_at fair three_cores three_cores_history) (0 ∷ 10 ∷ 17 ∷ 24 ∷ []) ≡ 3 ∷ 1 ∷ 1 ∷ 0 ∷ []
  pub waiting : map (waiting_at fair three_cores three_cores_history) (0 ∷ 10 ∷ 17 ∷ 24 ∷ []) ≡ 0 ∷ 1 ∷ 1 ∷ 0 ∷ []

-- the law without its premise on the policy
abbrev pub EveryPolicyPays : Type 0
EveryPolicyPays = (p : Meaning) (plan : Plan) (history : List Entry) → Fits p plan → MeetsObligations p
    → Legal p plan history → PaysByIdleCores p plan history

-- is false: this policy meets its obligations, and a core that isn't idle takes the last waiting thread
pub record NeedsItsPremise : Type 0 where
  pub meets : MeetsObligations fair
  pub fits : Fits fair three_cores
  pub legal : Legal fair three_cores three_cores_history
  pub not_every_policy : ¬ EveryPolicyPays
  pub not_this_one : ¬ LeavesLastToIdle fair
