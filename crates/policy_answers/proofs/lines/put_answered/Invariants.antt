-- The lines of the answers so far were written.
use Rattle.std.proofs.Common.{map, take}
use Rattle.sched_io.specs.Puts.{WritesAll}
use Rattle.policy_tree.specs.Meaning.{meaning_of}
use Rattle.policy_answers.specs.Lines.{line_answered, shown_answers}
use Rattle.policy_answers.proofs.lines.put_answered.Given as goal

abbrev pub invariant-loop-answered : goal.invariant-loop-answered
invariant-loop-answered g l =
    WritesAll (map line_answered (shown_answers (meaning_of l.policy) (take l.answered-index l.answers))) (g.S.Sink.shown l.initial.out) (g.S.Sink.shown l.out)
