use Rattle.std.proofs.Common.{ℕ, ◌≡◌, ◌≤◌, ◌-◌, ◌∷◌, ◌==◌, List, length, vec_len, false}
use Rattle.policy_grammar.specs.declared.terminal.Terminal.TheVariants.{Star}
use Rattle.policy_grammar.specs.Terminals.{code, kind_at}
use Rattle.policy_grammar.specs.Expressions.{IsAdded}
use Rattle.policy_grammar.specs.Symbols.{Symbol, operators}
use Rattle.policy_grammar.specs.Machine.{go}
use Rattle.policy_parser.proofs.source.Source.added.Given as goal

abbrev pub invariant-sums : goal.invariant-sums
invariant-sums l = record {
  later : l.at ≤ l.next;
  within : l.next ≤ length l.self.lexemes.now;
  few : l.counted ≤ l.self.limits.operators;
  short : vec_len l.rest ≤ l.next;
  star : (kind_at l.self.lexemes.now l.next == code Star) ≡ false;
  is : IsAdded l.self.text.now l.self.lexemes.now l.at l.rest.items l.next;
  reads : (count : ℕ) (below : List Symbol) →
      go l.self.limits l.self.lexemes.now l.at count (operators l.depth l.before ∷ below)
      ≡ go l.self.limits l.self.lexemes.now l.next count (operators l.depth l.counted ∷ below);
}

abbrev pub decreases-sums : goal.decreases-sums
decreases-sums l = length l.self.lexemes.now - l.next
