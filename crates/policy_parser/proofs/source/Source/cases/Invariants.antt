use Rattle.std.proofs.Common.{◌≡◌, ◌≤◌, ◌<◌, ◌-◌, ◌∷◌, List, length, vec_len}
use Rattle.policy_grammar.specs.Symbols.{Symbol, case, cases}
use Rattle.policy_grammar.specs.Machine.{go}
use Rattle.policy_parser.specs.Cases.{Cased}
use Rattle.policy_parser.proofs.source.Source.cases.Given as goal

abbrev pub invariant-cases : goal.invariant-cases
invariant-cases l = record {
  later : l.at < l.next;
  within : l.next ≤ length l.self.lexemes.now;
  few : l.count ≤ l.next;
  short : vec_len l.cases ≤ l.next;
  are : Cased l.self.text.now l.self.lexemes.now l.cases.items l.at l.next;
  reads : (below : List Symbol) →
      go l.self.limits l.self.lexemes.now l.at 0 (case 0 ∷ below) ≡ go l.self.limits l.self.lexemes.now l.next 0 (cases l.count ∷ below);
}

abbrev pub decreases-cases : goal.decreases-cases
decreases-cases l = length l.self.lexemes.now - l.next
