-- How the threads of a steal are found without moving any.
use Rattle.std.specs.Prelude.{◌≡◌, ℕ, ◌+◌, ◌-◌, ◌≤◌, List, ◌∷◌, ◌++◌, All, length, sum_by}
use Rattle.sched_base.specs.declared.task.Task.{Task}
use Rattle.policy_tree.specs.Meaning.{BatchTree, Meaning}
use Rattle.policy_eval.specs.declared.env.CoreValues.{CoreValues}
use Rattle.policy_eval.specs.Fitting.{CoreFits, IsTask}
use Rattle.round_model.specs.declared.plan.Plan.{Plan}
use Rattle.round_model.specs.declared.state.ModelCore.{ModelCore}
use Rattle.round_model.specs.Attempts.{further_moves}
use Rattle.round_model.specs.Bounds.{CoreInBounds}
use Rattle.round_model.specs.Cores.{load_of, seen_of, thread_count}
use Rattle.round_model.specs.Moves.{StandOnce, handed, handed_all, received, received_all, taken_from}
use Rattle.round_model.specs.Reads.{values_of}
use Rattle.round_model.specs.Batches.{unnamed}

-- what is seen of a core in bounds
pub record ShowsCore (p : Meaning) (seen : CoreValues) (core : ModelCore) : Type 0 where
  pub fits : CoreFits p seen
  pub bounds : CoreInBounds p core
  pub count : seen.nr ≡ thread_count core
  pub weight : seen.load ≡ load_of core

-- what is seen of the cores a and v of a plan, which are thief and victim. No number stands twice in the victim's queue
pub record AreSeen (plan : Plan) (a v : ℕ) (own other : CoreValues) (thief victim : ModelCore) : Type 0 where
  pub own_is : own ≡ values_of plan a (seen_of thief)
  pub other_is : other ≡ values_of plan v (seen_of victim)
  pub once : StandOnce victim.queue

-- of each plan and thief of which this is seen
abbrev pub OfEachThief : (own other : CoreValues) → ModelCore → (Plan → (a v : ℕ) → ModelCore → Type 0) → Type 0
OfEachThief own other victim P = (plan : Plan) (a v : ℕ) (thief : ModelCore) → AreSeen plan a v own other thief victim
    → P plan a v thief

-- `stolen` are so many, and what is still to come makes them whole. Their load is that of the tasks that were found
pub record IsJudged (p : Meaning) (plan : Plan) (a v : ℕ) (b : BatchTree) (thief victim : ModelCore) (whole : List ℕ)
    (at : ℕ) (stolen : List ℕ) (load : ℕ) : Type 0 where
  pub moves : whole ≡ stolen ++ further_moves p plan a v b (b.limit - at)
      (received_all (taken_from stolen victim.queue).found thief) (handed_all stolen victim)
  pub found : length (taken_from stolen victim.queue).found ≡ at
  pub sum : load ≡ sum_by (λ (t : Task). t.weight) (taken_from stolen victim.queue).found

-- and what is known also where a number stands twice: what was taken is a part of the queue, by any measure
pub record IsWithin (p : Meaning) (victim : ModelCore) (at : ℕ) (stolen : List ℕ) (load : ℕ) : Type 0 where
  pub taken : List Task
  pub fits : All (IsTask p) taken
  pub count : length stolen ≡ at
  pub many : length taken ≡ at
  pub sum : load ≡ sum_by (λ (t : Task). t.weight) taken
  pub part : (f : Task → ℕ) → sum_by f taken + sum_by f (unnamed stolen victim.queue) ≤ sum_by f victim.queue

-- both, of the threads of which that one is the first
pub record Judges (p : Meaning) (b : BatchTree) (own other : CoreValues) (victim : ModelCore) (first : Task)
    (at : ℕ) (stolen : List ℕ) (load : ℕ) : Type 0 where
  pub within : IsWithin p victim at stolen load
  pub exact : OfEachThief own other victim (λ plan a v thief. IsJudged p plan a v b thief victim
      (first.id ∷ further_moves p plan a v b (b.limit - 1) (received first thief) (handed first.id victim))
      at stolen load)
