-- The lines of the names so far were written.
use Rattle.std.proofs.Common.{take}
use Rattle.sched_io.specs.Puts.{WritesAll}
use Rattle.policy_tree.specs.Meaning.{meaning_of}
use Rattle.policy_answers.specs.Lines.{is_shown, line_held}
use Rattle.policy_answers.proofs.ShownLines.{lines_of}
use Rattle.policy_answers.proofs.lines.put_names.Given as goal

abbrev pub invariant-loop-name : goal.invariant-loop-name
invariant-loop-name g l =
    WritesAll (lines_of (is_shown (meaning_of l.policy)) line_held (take l.name-index l.names)) (g.S.Sink.shown l.initial.out) (g.S.Sink.shown l.out)
