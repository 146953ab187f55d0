-- The fault of lines that others stand before. It serves the code alone.
use Rattle.std.specs.Prelude.{◌≡◌, ℕ, ◌+◌, List}
use Rattle.sched_history.specs.declared.forms.LineForm.{LineForm}
use Rattle.history_reader.specs.Reading.{IsFirstBadOf}
use Rattle.history_reader.specs.declared.fault.HistoryFault.{HistoryFault}
use Rattle.history_reader.specs.declared.fault.HistoryFault.TheVariants.{BadLine, Memory}

-- the fault is the first bad one of the lines, or the want of memory
abbrev pub IsFaultIn : ℕ → LineForm → List ℕ → HistoryFault → Type 0
IsFaultIn before f lines (BadLine line) = (number : ℕ) × IsFirstBadOf f lines number × (line ≡ before + number)
IsFaultIn before f lines Memory = Unit {0}
