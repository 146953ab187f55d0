-- The past is that of the entries passed over, all of which are legal.
use Rattle.std.proofs.Common.{◌≡◌, take}
use Rattle.policy_tree.specs.Meaning.{meaning_of}
use Rattle.round_model.specs.Reads.{round_start}
use Rattle.round_judge.specs.Past.{IsPastOf, StandsFor}
use Rattle.history_reasons.proofs.explaining.explain.Given as goal

abbrev pub invariant-loop-at : goal.invariant-loop-at
invariant-loop-at l = record {
  belongs : IsPastOf (meaning_of l.policy) l.plan l.past;
  stands : StandsFor (meaning_of l.policy) l.plan l.past (take l.at l.history);
  start : l.start ≡ round_start (take l.at l.history);
}
