-- What serial play of the plan wasted that a text means is what the text is answered.
use Rattle.std.proofs.Common.{ℕ, List}
use Rattle.policy_tree.specs.Meaning.{Meaning}
use Rattle.round_model.specs.declared.plan.Plan.{Plan}
use Rattle.trace_play.specs.Plays.{MeansPlan}
use Rattle.trace_simulation.specs.declared.answer.PlayedWaste.{PlayedWaste}
use Rattle.trace_simulation.specs.declared.answer.PlayedWaste.TheVariants as wasted
use Rattle.trace_simulation.specs.declared.answer.SimulationAnswer.TheVariants as answer
use Rattle.trace_simulation.specs.Simulations.{IsWasteOf, WastesPlan}

module _ (p : Meaning) (text : List ℕ) (plan : Plan) (means : MeansPlan p text plan) where
  pub wasted_so : (waste : PlayedWaste) → WastesPlan p plan waste → IsWasteOf p text (answer.Wasted waste)
  wasted_so (wasted.Whole report) (history, ends, is) =
      record { history = history; simulates = record { plan = plan; means = means; ends = ends }; waste = is }
  wasted_so (wasted.Full report) (history, ends, is) =
      record { history = history; simulates = record { plan = plan; means = means; ends = ends }; waste = is }
