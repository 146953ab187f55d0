-- What was added is legal, and each core so far has an entry whose turn isn't over.
use Rattle.std.proofs.Common.{◌≤◌, length}
use Rattle.policy_tree.specs.Meaning.{meaning_of}
use Rattle.round_judge.specs.Past.{OfEach}
use Rattle.history_reasons.specs.Next.{HaveTurns}
use Rattle.history_reasons.proofs.next.add_turns.Given as goal

abbrev pub invariant-loop-core : goal.invariant-loop-core
invariant-loop-core l = record {
  few : length l.next ≤ l.core;
  turns : OfEach (meaning_of l.policy) l.plan l.past (λ history. HaveTurns (meaning_of l.policy) l.plan history l.core l.next);
}
