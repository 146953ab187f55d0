-- Two cores between which threads may move, and what is said of them by their plan.
use Rattle.std.specs.Prelude.{◌≡◌, ℕ, ◌+◌, ◌≤◌, ℤ, List}
use Rattle.sched_base.specs.declared.limits.TheConstants.{MAX_THREADS}
use Rattle.policy_tree.specs.Meaning.{Meaning}
use Rattle.round_model.specs.declared.plan.Plan.{Plan}
use Rattle.round_model.specs.Bounds.{CoreInBounds, standing_count}
use Rattle.round_model.specs.Cores.{consts_of}
use Rattle.round_model.specs.Moves.{StandOnce}
use Rattle.core_state.specs.Views.{CoreView}

-- threads of the victim may go over to the thief: each core is in bounds, the thief has room for all that stand at
-- both, and no number stands twice in the victim's queue
pub record MayTake (p : Meaning) (thief victim : CoreView) : Type 0 where
  pub thief_bounds : CoreInBounds p thief.core
  pub victim_bounds : CoreInBounds p victim.core
  pub room : standing_count thief.core + standing_count victim.core ≤ thief.room
  pub few : thief.room ≤ MAX_THREADS
  pub once : StandOnce victim.core.queue

-- it holds by each plan that has these constants of thief and victim, and by their numbers there
abbrev pub InEachPlan : (own other : List ℤ) → (Plan → ℕ → ℕ → Type 0) → Type 0
InEachPlan own other holds =
    (plan : Plan) (a v : ℕ) → own ≡ consts_of plan a → other ≡ consts_of plan v → holds plan a v
