use Rattle.std.proofs.Common.{◌≡◌, take}
use Rattle.policy_tree.specs.Meaning.{meaning_of}
use Rattle.round_judge.specs.Past.{IsPastOf, StandsFor}
use Rattle.history_judge.proofs.judging.legal_past.Given as goal

-- the past is that of the entries passed over
abbrev pub invariant-loop-entry : goal.invariant-loop-entry
invariant-loop-entry l = record {
  position : l.position ≡ l.entry-index;
  belongs : IsPastOf (meaning_of l.policy) l.plan l.past;
  stands : StandsFor (meaning_of l.policy) l.plan l.past (take l.entry-index l.entries);
}
