use Rattle.std.proofs.Common.{take}
use Rattle.obligations.specs.Marks.{IsMarked, occurs_in_case}
use Rattle.obligations.proofs.marking.mark_rows.Given as goal

abbrev pub invariant-loop-row : goal.invariant-loop-row
invariant-loop-row l = IsMarked l.initial.marks l.marks (λ v. occurs_in_case v (take l.row-index l.rows))
