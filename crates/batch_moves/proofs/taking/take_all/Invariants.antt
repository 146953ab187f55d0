use Rattle.policy_tree.specs.Meaning.{batch_tree, meaning_of}
use Rattle.batch_moves.specs.Code.Moved.{IsMoved}
use Rattle.batch_moves.proofs.taking.take_all.Given as goal

abbrev pub invariant-loop-move : goal.invariant-loop-move
invariant-loop-move l =
    IsMoved (meaning_of l.policy) (batch_tree l.batch) l.own l.other l.fn.thief l.fn.victim l._move l.stolen l.thief l.victim
