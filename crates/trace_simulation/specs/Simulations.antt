-- What a trace's text comes to that is simulated under a policy.
use Rattle.std.specs.Prelude.{ℕ, List}
use Rattle.policy_tree.specs.Meaning.{Meaning}
use Rattle.round_model.specs.declared.entry.Entry.{Entry}
use Rattle.round_model.specs.declared.plan.Plan.{Plan}
use Rattle.serial_steps.specs.SerialEnds.{EndsWhole, StopsFull}
use Rattle.history_merge.specs.Merged.{CanBeWritten}
use Rattle.sched_report.specs.Wastes.{IsWaste}
use Rattle.sched_report.specs.declared.rows.WasteReport.{WasteReport}
use Rattle.trace_play.specs.Plays.{HasFault, MeansPlan, PlaysCores, closed_of}
use Rattle.trace_simulation.specs.declared.answer.PlayedWaste.{PlayedWaste}
use Rattle.trace_simulation.specs.declared.answer.PlayedWaste.TheVariants as wasted
use Rattle.trace_simulation.specs.declared.answer.SimulationAnswer.{SimulationAnswer}
use Rattle.trace_simulation.specs.declared.answer.SimulationAnswer.TheVariants as answer

-- the answer can be written
abbrev pub IsShown : SimulationAnswer → Type 0
IsShown (answer.Broken fault) = Unit {0}
IsShown (answer.Played left) = CanBeWritten (closed_of left)
IsShown (answer.Wasted waste) = Unit {0}

-- a history of the plan that ends so wastes this
abbrev pub WastesSo : (Ends : List Entry → Type 0) → Meaning → Plan → WasteReport → Type 0
WastesSo Ends p plan report = (history : List Entry) × Ends history × IsWaste p plan history report

-- serial play of the plan wastes this
abbrev pub WastesPlan : Meaning → Plan → PlayedWaste → Type 0
WastesPlan p plan (wasted.Whole report) = WastesSo (EndsWhole p plan) p plan report
WastesPlan p plan (wasted.Full report) = WastesSo (StopsFull p plan) p plan report

module _ (p : Meaning) (text : List ℕ) where
  -- the text means a plan, serial play of which ends so with this history
  pub record Simulates (Ends : Meaning → Plan → List Entry → Type 0) (history : List Entry) : Type 0 where
    pub plan : Plan
    pub means : MeansPlan p text plan
    pub ends : Ends p plan history

  -- and the report is on that history
  pub record Wastes (Ends : Meaning → Plan → List Entry → Type 0) (report : WasteReport) : Type 0 where
    pub history : List Entry
    pub simulates : Simulates Ends history
    pub waste : IsWaste p simulates.plan history report

  -- the answer is the history that the text gets
  abbrev pub IsSimulationOf : SimulationAnswer → Type 0
  IsSimulationOf (answer.Broken fault) = HasFault p text fault
  IsSimulationOf (answer.Played left) = PlaysCores p text left
  IsSimulationOf (answer.Wasted waste) = ⊥

  -- the answer is what that history wastes
  abbrev pub IsWasteOf : SimulationAnswer → Type 0
  IsWasteOf (answer.Broken fault) = HasFault p text fault
  IsWasteOf (answer.Played left) = ⊥
  IsWasteOf (answer.Wasted (wasted.Whole report)) = Wastes EndsWhole report
  IsWasteOf (answer.Wasted (wasted.Full report)) = Wastes StopsFull report
