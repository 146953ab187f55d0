-- The text up to the place has tokens.
use Rattle.std.proofs.Common.{◌≤◌, ◌-◌, List, length}
use Rattle.policy_lexer.specs.declared.token.Token.{Token}
use Rattle.policy_lexer.specs.Tokens.{Reads}
use Rattle.policy_lexer.proofs.scanning.fault_of.Given as goal

abbrev pub invariant-loop-at : goal.invariant-loop-at
invariant-loop-at l = record {
  within : l.at ≤ length l.text;
  reads : (tokens : List Token) × Reads l.text 0 tokens l.at;
}

abbrev pub decreases-loop-at : goal.decreases-loop-at
decreases-loop-at l = length l.text - l.at
