-- The past is that of the entries passed over, and none of them is a return.
use Rattle.std.proofs.Common.{take, ℕ, ◌<◌}
use Rattle.policy_tree.specs.Meaning.{meaning_of}
use Rattle.round_judge.specs.Past.{IsPastOf, StandsFor}
use Rattle.starving_plays.specs.Code.{IsReturn}
use Rattle.starving_plays.proofs.coming_back.return_of.Given as goal

abbrev pub invariant-loop-entry : goal.invariant-loop-entry
invariant-loop-entry l = record {
  belongs : IsPastOf (meaning_of l.policy) l.plan l.past;
  stands : StandsFor (meaning_of l.policy) l.plan l.past (take l.entry-index l.history);
  none : (number at : ℕ) → at < l.entry-index → ¬ IsReturn (meaning_of l.policy) l.plan l.history l.core number at;
}
