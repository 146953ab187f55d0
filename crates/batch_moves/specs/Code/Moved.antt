-- What is known after some moves, as the code makes them. No promise rests on this.
use Rattle.std.specs.Prelude.{◌≡◌, ℕ, ◌-◌, ℤ, List, ◌++◌, Some, length}
use Rattle.policy_tree.specs.Meaning.{BatchTree, Meaning}
use Rattle.policy_eval.specs.declared.env.CoreValues.{CoreValues}
use Rattle.round_model.specs.declared.state.ModelCore.{ModelCore}
use Rattle.round_model.specs.Attempts.{further_moves, moves_of}
use Rattle.round_model.specs.Cores.{load_of, thread_count}
use Rattle.round_model.specs.Moves.{handed_all, received_all, taken_from}
use Rattle.core_state.specs.Views.{CoreView}
use Rattle.batch_moves.specs.Sides.{InEachPlan, MayTake}

-- what a policy may ask of the core, with these constants
abbrev pub present_values : List ℤ → ModelCore → CoreValues
present_values consts core = record { nr = thread_count core; load = load_of core; consts = consts }

-- so many moves are made. The list so far, with what comes of the cores as they are, is the whole list, and the cores
-- are as the moves left them
pub record IsMoved (p : Meaning) (b : BatchTree) (own other : List ℤ) (thief victim : CoreView) (at : ℕ)
    (stolen : List ℕ) (thief_now victim_now : CoreView) : Type 0 where
  pub moves : InEachPlan own other (λ plan a v. moves_of p plan a v (Some b) thief.core victim.core
      ≡ stolen ++ further_moves p plan a v b (b.limit - at) thief_now.core victim_now.core)
  pub count : length stolen ≡ at
  pub is_thief : thief_now
      ≡ record thief { core = received_all (taken_from stolen victim.core.queue).found thief.core }
  pub is_victim : victim_now ≡ record victim { core = handed_all stolen victim.core }
  pub may : MayTake p thief_now victim_now
