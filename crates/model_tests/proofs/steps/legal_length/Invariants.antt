use Rattle.std.proofs.Common.{◌≡◌, take}
use Rattle.policy_tree.specs.Meaning.{meaning_of}
use Rattle.round_judge.specs.Past.{IsPastOf, StandsFor}
use Rattle.model_tests.proofs.steps.legal_length.Given as goal

-- the past is that of the entries passed over
abbrev pub invariant-loop-entry : goal.invariant-loop-entry
invariant-loop-entry l = record {
  count : l.added ≡ l.entry-index;
  belongs : IsPastOf (meaning_of l.policy) l.plan l.past;
  stands : StandsFor (meaning_of l.policy) l.plan l.past (take l.entry-index l.entries);
}
