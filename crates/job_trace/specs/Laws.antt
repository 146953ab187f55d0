-- No text is lost.
use Rattle.std.specs.Prelude.{ℕ, ◌⊎◌, List}
use Rattle.job_trace.specs.declared.fault.TraceFault.{TraceFault}
use Rattle.job_trace.specs.declared.trace.Numbered.{Numbered}
use Rattle.job_trace.specs.Faults.{IsBroken}
use Rattle.job_trace.specs.TraceText.{SpellsTrace}

-- the text spells a trace, or it has a first fault
abbrev pub HasAnswer : List ℕ → Type 0
HasAnswer text = ((trace : List Numbered) × SpellsTrace text trace) ⊎ ((fault : TraceFault) × IsBroken text fault)

-- every text has an answer
abbrev pub EachHasAnswer : Type 0
EachHasAnswer = (text : List ℕ) → HasAnswer text
