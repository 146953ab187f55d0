use Rattle.policy_tree.specs.Meaning.{batch_tree, meaning_of}
use Rattle.round_judge.specs.Code.Batches.{Judges}
use Rattle.round_judge.proofs.batches.further.Given as goal

abbrev pub invariant-loop-move : goal.invariant-loop-move
invariant-loop-move l = Judges (meaning_of l.policy) (batch_tree l.batch) l.own l.other l.victim l.fn.first l._move l.stolen l.load
