use Rattle.std.proofs.Common.{take}
use Rattle.obligations.specs.Marks.{IsMarked}
use Rattle.obligations.specs.Systems.{occurs}
use Rattle.obligations.proofs.marking.mark_cases.Given as goal

abbrev pub invariant-loop-rows : goal.invariant-loop-rows
invariant-loop-rows l = IsMarked l.initial.marks l.marks (λ v. occurs v (take l.rows-index l.cases))
