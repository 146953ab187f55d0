use Rattle.std.proofs.Common.{◌≡◌, ◌≤◌, ◌<◌, ◌-◌, ◌∷◌, List, length, vec_len}
use Rattle.policy_grammar.specs.Symbols.{Symbol, order, keys}
use Rattle.policy_grammar.specs.Machine.{go}
use Rattle.policy_parser.proofs.Chains.{Keyed}
use Rattle.policy_parser.proofs.source.Source.order.Given as goal

abbrev pub invariant-keys : goal.invariant-keys
invariant-keys l = record {
  later : l.at < l.next;
  within : l.next ≤ length l.self.lexemes.now;
  few : l.count ≤ l.next;
  short : vec_len l.keys ≤ l.next;
  are : Keyed l.self.text.now l.self.lexemes.now l.keys.items l.at l.next;
  reads : (below : List Symbol) →
      go l.self.limits l.self.lexemes.now l.at 0 (order l.most ∷ below) ≡ go l.self.limits l.self.lexemes.now l.next 0 (keys l.most l.count ∷ below);
}

abbrev pub decreases-keys : goal.decreases-keys
decreases-keys l = length l.self.lexemes.now - l.next
