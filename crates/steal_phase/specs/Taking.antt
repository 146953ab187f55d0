-- Threads that go over from one held core to another.
use Rattle.std.specs.Prelude.{◌≡◌, ◌≢◌, ℕ, ◌<◌, List}
use Rattle.policy_tree.specs.Meaning.{Meaning}
use Rattle.policy_eval.specs.Obligations.{MeetsHandlerObligations}
use Rattle.round_model.specs.declared.entry.Entry.{Entry}
use Rattle.round_model.specs.declared.plan.Plan.{Plan}
use Rattle.round_model.specs.declared.state.ModelCore.{ModelCore}
use Rattle.round_model.specs.Attempts.{moves_of}
use Rattle.round_model.specs.Fits.{Fits}
use Rattle.round_model.specs.Legal.{Legal}
use Rattle.round_model.specs.Moves.{handed_all, received_all, taken_from}
use Rattle.core_state.specs.Views.{CoreView}
use Rattle.core_table.specs.Told.{IsCoreNow}

-- two different cores of the plan, as one legal history leaves them
pub record AreTwo (p : Meaning) (plan : Plan) (a : ℕ) (y : CoreView) (b : ℕ) (z : CoreView) : Type 0 where
  pub history : List Entry
  pub fits : Fits p plan
  pub handlers : MeetsHandlerObligations p
  pub legal : Legal p plan history
  pub apart : a ≢ b
  pub first : a < plan.cores
  pub second : b < plan.cores
  pub first_now : IsCoreNow p plan history a y
  pub second_now : IsCoreNow p plan history b z

-- the threads that the core a takes of the core b, where these are the two
abbrev pub best_to_steal : Meaning → Plan → (a : ℕ) → ModelCore → (b : ℕ) → ModelCore → List ℕ
best_to_steal p plan a x b y = moves_of p plan a b p.batch x y

-- what the one queue has of these threads leaves it, and comes to the end of the other, in this order
pub record Steals (threads : List ℕ) (thief victim thief_now victim_now : CoreView) : Type 0 where
  pub gained : thief_now ≡ record thief { core = received_all (taken_from threads victim.core.queue).found thief.core }
  pub lost : victim_now ≡ record victim { core = handed_all threads victim.core }
