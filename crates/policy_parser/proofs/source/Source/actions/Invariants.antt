use Rattle.std.proofs.Common.{◌≡◌, ◌≤◌, ◌-◌, ◌∷◌, List, length, vec_len}
use Rattle.policy_grammar.specs.Policies.{IsSets}
use Rattle.policy_grammar.specs.Symbols.{Symbol, actions}
use Rattle.policy_grammar.specs.Machine.{go}
use Rattle.policy_parser.proofs.source.Source.actions.Given as goal

abbrev pub invariant-sets : goal.invariant-sets
invariant-sets l = record {
  later : l.at ≤ l.next;
  within : l.next ≤ length l.self.lexemes.now;
  few : l.count ≤ l.next;
  short : vec_len l.sets ≤ l.next;
  are : IsSets l.self.text.now l.self.lexemes.now l.at l.sets.items l.next;
  reads : (below : List Symbol) →
      go l.self.limits l.self.lexemes.now l.at 0 (actions 0 ∷ below) ≡ go l.self.limits l.self.lexemes.now l.next 0 (actions l.count ∷ below);
}

abbrev pub decreases-sets : goal.decreases-sets
decreases-sets l = length l.self.lexemes.now - l.next
