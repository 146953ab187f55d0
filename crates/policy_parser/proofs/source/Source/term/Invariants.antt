use Rattle.std.proofs.Common.{ℕ, ◌≡◌, ◌≤◌, ◌<◌, ◌-◌, ◌∷◌, List, length, vec_len}
use Rattle.policy_grammar.specs.Expressions.{IsTimes}
use Rattle.policy_grammar.specs.Symbols.{Symbol, operand, operators}
use Rattle.policy_grammar.specs.Machine.{go}
use Rattle.policy_parser.proofs.source.Source.term.Given as goal

abbrev pub invariant-stars : goal.invariant-stars
invariant-stars l = record {
  later : l.at < l.next;
  within : l.next ≤ length l.self.lexemes.now;
  few : l.counted ≤ l.self.limits.operators;
  short : vec_len l.rest ≤ l.next;
  is : IsTimes l.self.text.now l.self.lexemes.now l.initial.next l.rest.items l.next;
  reads : (count : ℕ) (below : List Symbol) →
      go l.self.limits l.self.lexemes.now l.at count (operand l.depth l.depth l.before ∷ below)
      ≡ go l.self.limits l.self.lexemes.now l.next count (operators l.depth l.counted ∷ below);
}

abbrev pub decreases-stars : goal.decreases-stars
decreases-stars l = length l.self.lexemes.now - l.next
