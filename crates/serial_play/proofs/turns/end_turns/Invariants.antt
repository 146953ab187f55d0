use Rattle.policy_tree.specs.Meaning.{meaning_of}
use Rattle.serial_steps.proofs.SerialWholes.{turns_of}
use Rattle.serial_play.specs.Rounds.{Moves}
use Rattle.serial_play.proofs.turns.end_turns.Given as goal

-- the turns of the cores passed over are over
abbrev pub invariant-loop-core : goal.invariant-loop-core
invariant-loop-core l = Moves (meaning_of l.policy) l.plan (turns_of l.plan l.core) l.fn.play l.play
