use Rattle.std.proofs.Common.{take}
use Rattle.policy_tree.specs.Meaning.{meaning_of}
use Rattle.serial_play.specs.Rounds.{Moves}
use Rattle.serial_play.proofs.turns.take_steps.Given as goal

-- the cores passed over took their steps
abbrev pub invariant-loop-core : goal.invariant-loop-core
invariant-loop-core l = record {
  moves : Moves (meaning_of l.policy) l.plan (take l.core-index l.cores) l.fn.play l.play;
}
