-- The past is that of the entries passed over.
use Rattle.std.proofs.Common.{take}
use Rattle.policy_tree.specs.Meaning.{meaning_of}
use Rattle.round_judge.specs.Past.{IsPastOf, StandsFor}
use Rattle.starving_plays.proofs.coming_back.past_of.Given as goal

abbrev pub invariant-loop-entry : goal.invariant-loop-entry
invariant-loop-entry l = record {
  belongs : IsPastOf (meaning_of l.policy) l.plan l.past;
  stands : StandsFor (meaning_of l.policy) l.plan l.past (take l.entry-index l.history);
}
