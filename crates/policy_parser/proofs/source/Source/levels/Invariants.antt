use Rattle.std.proofs.Common.{◌≡◌, ◌≤◌, ◌<◌, ◌-◌, ◌∷◌, List, length, vec_len}
use Rattle.policy_grammar.specs.Symbols.{Symbol, level, levels}
use Rattle.policy_grammar.specs.Machine.{go}
use Rattle.policy_parser.specs.LevelSections.{Leveled}
use Rattle.policy_parser.proofs.source.Source.levels.Given as goal

abbrev pub invariant-levels : goal.invariant-levels
invariant-levels l = record {
  later : l.at < l.next;
  within : l.next ≤ length l.self.lexemes.now;
  few : l.count ≤ l.next;
  short : vec_len l.levels ≤ l.next;
  are : Leveled l.self.text.now l.self.lexemes.now l.levels.items l.at l.next;
  reads : (below : List Symbol) →
      go l.self.limits l.self.lexemes.now l.at 0 (level 0 ∷ below) ≡ go l.self.limits l.self.lexemes.now l.next 0 (levels l.count ∷ below);
}

abbrev pub decreases-levels : goal.decreases-levels
decreases-levels l = length l.self.lexemes.now - l.next
