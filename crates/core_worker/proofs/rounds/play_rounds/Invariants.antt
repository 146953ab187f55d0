use Rattle.policy_tree.specs.Meaning.{meaning_of}
use Rattle.core_worker.proofs.Rounding.{HasPlayed}
use Rattle.core_worker.proofs.rounds.play_rounds.Given as goal

-- so many rounds are played, each of which fitted
abbrev pub invariant-loop-begun : goal.invariant-loop-begun
invariant-loop-begun l = HasPlayed (meaning_of l.policy) l.plan l.begun l.run
