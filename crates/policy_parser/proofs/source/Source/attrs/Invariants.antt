use Rattle.std.proofs.Common.{◌≡◌, ◌≤◌, ◌-◌, ◌∷◌, List, length, vec_len}
use Rattle.policy_grammar.specs.Policies.{IsAttrs}
use Rattle.policy_grammar.specs.Symbols.{Symbol, attrs}
use Rattle.policy_grammar.specs.Machine.{go}
use Rattle.policy_parser.proofs.source.Source.attrs.Given as goal

abbrev pub invariant-attrs : goal.invariant-attrs
invariant-attrs l = record {
  later : l.at ≤ l.next;
  within : l.next ≤ length l.self.lexemes.now;
  few_cores : l.cores ≤ l.next;
  few_threads : l.threads ≤ l.next;
  short : vec_len l.attrs ≤ l.next;
  are : IsAttrs l.self.text.now l.self.lexemes.now l.at l.attrs.items l.next;
  reads : (below : List Symbol) →
      go l.self.limits l.self.lexemes.now l.at 0 (attrs 0 0 ∷ below) ≡ go l.self.limits l.self.lexemes.now l.next 0 (attrs l.cores l.threads ∷ below);
}

abbrev pub decreases-attrs : goal.decreases-attrs
decreases-attrs l = length l.self.lexemes.now - l.next
