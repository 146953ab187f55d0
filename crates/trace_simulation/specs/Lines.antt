-- How a simulation is written, line by line.
use Rattle.std.specs.Prelude.{ℕ, List, [], ◌∷◌}
use Rattle.history_merge.specs.Merged.{text_lines}
use Rattle.sched_report.specs.Lines.{waste_lines}
use Rattle.sched_report.specs.declared.rows.WasteReport.{WasteReport}
use Rattle.trace_play.specs.Plays.{closed_of}
use Rattle.trace_play.specs.Told.{fault_line}
use Rattle.trace_simulation.specs.declared.answer.PlayedWaste.{PlayedWaste}
use Rattle.trace_simulation.specs.declared.answer.PlayedWaste.TheVariants as wasted
use Rattle.trace_simulation.specs.declared.answer.SimulationAnswer.{SimulationAnswer}
use Rattle.trace_simulation.specs.declared.answer.SimulationAnswer.TheVariants as answer

-- the report on the history that was played
abbrev pub report_of : PlayedWaste → WasteReport
report_of (wasted.Whole report) = report
report_of (wasted.Full report) = report

-- the lines of an answer
abbrev pub lines_of : SimulationAnswer → List (List ℕ)
lines_of (answer.Broken fault) = fault_line fault ∷ []
lines_of (answer.Played left) = text_lines (closed_of left)
lines_of (answer.Wasted waste) = waste_lines (report_of waste)
