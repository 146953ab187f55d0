-- Fairness at rest: where a thread goes to the queue's end after its unit and none is stolen, each has its turn.
use Rattle.std.specs.Prelude.{◌≡◌, ℕ, suc, ◌+◌, ◌-◌, ◌/◌, ◌<◌, ◌≤◌, List, take, sum_by, Contains}
use Rattle.sched_base.specs.declared.task.Task.{Task}
use Rattle.policy_tree.specs.Meaning.{Meaning}
use Rattle.policy_eval.specs.Obligations.{RestGap}
use Rattle.policy_eval.specs.Ranges.{greatest_weight, least_weight}
use Rattle.round_model.specs.declared.entry.Entry.{Entry}
use Rattle.round_model.specs.declared.plan.Plan.{Plan}
use Rattle.round_model.specs.declared.state.ModelCore.{ModelCore}
use Rattle.round_model.specs.After.{after}
use Rattle.round_model.specs.Cores.{Cores, core_numbers, tasks_of, thread_count}
use Rattle.round_model.specs.Fits.{Fits}
use Rattle.round_model.specs.Legal.{Legal}
use Rattle.round_model.specs.Rounds.{BeginsAt}
use Rattle.round_model.specs.Stretches.{IsStillStretch}
use Rattle.round_laws.specs.Rest.{MeetsMoveObligations, RestlessAt}
use Rattle.waiting_laws.specs.Waiting.{QueuesAlways, RunsIn}

-- the thread stands at the core: it is the current one, or waits there
abbrev pub StandsAt : ℕ → ModelCore → Type 0
StandsAt x core = (t : Task) × Contains (tasks_of core) t × (t.id ≡ x)

-- how many threads there are to a core, rounded up
abbrev pub share : Plan → Cores → ℕ
share plan m = (sum_by (λ c. thread_count (m c)) (core_numbers plan) + (plan.cores - 1)) / plan.cores

module _ (p : Meaning) (plan : Plan) (history : List Entry) where
  -- the stretch is still, and as its first round begins, so many entries being before it, the cores are at rest
  pub record RestsFrom (first last opening : ℕ) : Type 0 where
    pub stretch : IsStillStretch history first last
    pub begins : BeginsAt history first opening
    pub rest : ¬ RestlessAt p plan history opening

  -- the stretch has these rounds, the first of it and those that follow: the round behind them begins there
  pub record HasRounds (first last rounds ending : ℕ) : Type 0 where
    pub within : first + rounds ≤ suc last
    pub ends : BeginsAt history (first + rounds) ending

  -- each thread of a core runs in one of as many rounds as threads stand there
  abbrev pub TurnsAtRest : Type 0
  TurnsAtRest = (first last opening rounds ending x c : ℕ) → RestsFrom first last opening → c < plan.cores
      → StandsAt x (after p plan (take opening history) c)
      → thread_count (after p plan (take opening history) c) ≤ rounds → HasRounds first last rounds ending
      → RunsIn history x c opening ending

  -- and in one of as many as there are threads to a core
  abbrev pub FairShare : Type 0
  FairShare = (first last opening ending x c : ℕ) → RestsFrom first last opening → c < plan.cores
      → StandsAt x (after p plan (take opening history) c)
      → HasRounds first last (share plan (after p plan (take opening history))) ending
      → RunsIn history x c opening ending

-- the laws
abbrev pub TurnsAtRestLaw : Type 0
TurnsAtRestLaw = (p : Meaning) (plan : Plan) (history : List Entry) → Fits p plan → MeetsMoveObligations p
    → QueuesAlways p → Legal p plan history → TurnsAtRest p plan history

abbrev pub FairShareLaw : Type 0
FairShareLaw = (p : Meaning) (plan : Plan) (history : List Entry) → Fits p plan → MeetsMoveObligations p
    → QueuesAlways p → least_weight p.load ≡ greatest_weight p.load → RestGap p (least_weight p.load)
    → Legal p plan history → FairShare p plan history
