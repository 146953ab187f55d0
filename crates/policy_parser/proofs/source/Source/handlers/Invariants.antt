use Rattle.std.proofs.Common.{◌≡◌, ◌≤◌, ◌-◌, ◌∷◌, List, length, vec_len, map}
use Rattle.policy_syntax.specs.SyntaxTrees.{handler_syntax_tree}
use Rattle.policy_grammar.specs.Policies.{IsHandlers}
use Rattle.policy_grammar.specs.Symbols.{Symbol, handlers}
use Rattle.policy_grammar.specs.Machine.{go}
use Rattle.policy_parser.proofs.source.Source.handlers.Given as goal

abbrev pub invariant-handlers : goal.invariant-handlers
invariant-handlers l = record {
  later : l.at ≤ l.next;
  within : l.next ≤ length l.self.lexemes.now;
  short : vec_len l.handlers ≤ l.next;
  are : IsHandlers l.self.text.now l.self.lexemes.now l.at (map handler_syntax_tree l.handlers.items) l.next;
  reads : (below : List Symbol) →
      go l.self.limits l.self.lexemes.now l.at 0 (handlers ∷ below) ≡ go l.self.limits l.self.lexemes.now l.next 0 (handlers ∷ below);
}

abbrev pub decreases-handlers : goal.decreases-handlers
decreases-handlers l = length l.self.lexemes.now - l.next
