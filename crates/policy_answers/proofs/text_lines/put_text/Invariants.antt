-- The lines so far were written, and those of what is left come next.
use Rattle.std.proofs.Common.{length}
use Rattle.policy_answers.proofs.FirstLines.{ArePutSoFar}
use Rattle.policy_answers.proofs.text_lines.put_text.Given as goal

abbrev pub invariant-loop-left : goal.invariant-loop-left
invariant-loop-left g l = ArePutSoFar l.text l.left (g.S.Sink.shown l.initial.out) (g.S.Sink.shown l.out)

abbrev pub decreases-loop-left : goal.decreases-loop-left
decreases-loop-left g l = length l.left
