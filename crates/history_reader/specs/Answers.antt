-- What a reader answers, and what it must answer.
use Rattle.std.specs.Prelude.{◌≡◌, ℕ, List, Result, Ok, Err}
use Rattle.round_model.specs.declared.entry.Entry.{Entry}
use Rattle.history_reader.specs.Reading.{IsFirstBadLine, SpellsHistory}
use Rattle.history_reader.specs.declared.fault.HistoryFault.{HistoryFault}
use Rattle.history_reader.specs.declared.fault.HistoryFault.TheVariants.{BadLine, Memory}

-- the fault is the text's first bad line, or the want of memory
abbrev pub IsFaultOf : ℕ → List ℕ → HistoryFault → Type 0
IsFaultOf cores text (BadLine line) = IsFirstBadLine cores text line
IsFaultOf cores text Memory = Unit {0}

-- the answer, or the want of memory
abbrev pub IsUnlessMemory : Result (List Entry) HistoryFault → Result (List Entry) HistoryFault → Type 0
IsUnlessMemory answer (Ok history) = Ok history ≡ answer
IsUnlessMemory answer (Err (BadLine line)) = Err (BadLine line) ≡ answer
IsUnlessMemory answer (Err Memory) = Unit {0}

-- a text that spells a history is read as it
abbrev pub MustGive : ℕ → List ℕ → Result (List Entry) HistoryFault → Type 0
MustGive cores text result =
    (history : List Entry) → SpellsHistory cores text history → IsUnlessMemory (Ok history) result

-- and one with a bad line is refused with the first
abbrev pub MustRefuse : ℕ → List ℕ → Result (List Entry) HistoryFault → Type 0
MustRefuse cores text result = (line : ℕ) → IsFirstBadLine cores text line → IsUnlessMemory (Err (BadLine line)) result
