-- What is told of the faults of a trace: the number of the line, and a word.
use Rattle.std.specs.Prelude.{ℕ, List, ◌++◌, codes, decimal, Option, Some, None}
use Rattle.job_trace.specs.declared.fault.TraceFault.{TraceFault}
use Rattle.job_trace.specs.declared.fault.TraceFault.TheVariants as trace
use Rattle.job_trace.specs.declared.plan_fault.PlanFault.{PlanFault}
use Rattle.job_trace.specs.declared.plan_fault.PlanFault.TheVariants as plan
use Rattle.trace_play.specs.declared.fault.FaultWord.{FaultWord}
use Rattle.trace_play.specs.declared.fault.FaultWord.TheVariants as word
use Rattle.trace_play.specs.declared.fault.LineFault.{LineFault}

-- the word of a fault
abbrev pub word_of : FaultWord → List ℕ
word_of word.BadLine = codes "bad-line"
word_of word.Limit = codes "limit"
word_of word.Twice = codes "twice"
word_of word.WeightRange = codes "weight-range"
word_of word.ConstRange = codes "const-range"
word_of word.ConstName = codes "const-name"

-- `trace`, the number of the line and the word, with one space between them, and a line feed
abbrev pub fault_line : LineFault → List ℕ
fault_line fault = codes "trace " ++ (decimal fault.line ++ (codes " " ++ (word_of fault.word ++ codes "\n")))

-- a fault of the text. Which end of a range is passed isn't told, and want of memory is no fault of a text
abbrev pub told_of_trace : TraceFault → Option LineFault
told_of_trace (trace.BadLine line) = Some (record { word = word.BadLine; line = line })
told_of_trace (trace.Limit line limit) = Some (record { word = word.Limit; line = line })
told_of_trace (trace.Twice line) = Some (record { word = word.Twice; line = line })
told_of_trace trace.Memory = None

-- a trace that doesn't fit its policy
abbrev pub told_of_plan : PlanFault → Option LineFault
told_of_plan (plan.WeightRange line) = Some (record { word = word.WeightRange; line = line })
told_of_plan (plan.ConstRange line) = Some (record { word = word.ConstRange; line = line })
told_of_plan (plan.ConstName line) = Some (record { word = word.ConstName; line = line })
told_of_plan plan.Memory = None
