use Rattle.std.proofs.Common.{◌≡◌, ◌<◌, ◌+◌, ◌*◌, ◌-◌, ◌∷◌, List, length}
use Rattle.policy_grammar.specs.declared.terminal.Terminal.TheVariants.{And, Or}
use Rattle.policy_grammar.specs.Terminals.{code, kind_at}
use Rattle.policy_grammar.specs.Symbols.{Symbol, unit, ands, ors}
use Rattle.policy_grammar.specs.Machine.{go}
use Rattle.policy_parser.proofs.Chains.{Anded, Ored}
use Rattle.policy_parser.proofs.source.Source.+nested.Given as goal

abbrev pub decreases-condition : goal.decreases-condition
decreases-condition l = 4 * (length l.self.now.lexemes.now - l.at) + 3

abbrev pub decreases-conjunction : goal.decreases-conjunction
decreases-conjunction l = 4 * (length l.self.now.lexemes.now - l.at) + 2

abbrev pub decreases-unit : goal.decreases-unit
decreases-unit l = 4 * (length l.self.now.lexemes.now - l.at) + 1

abbrev pub decreases-negation : goal.decreases-negation
decreases-negation l = 4 * (length l.self.now.lexemes.now - l.at)

abbrev pub decreases-group : goal.decreases-group
decreases-group l = 4 * (length l.self.now.lexemes.now - l.at)

abbrev pub invariant-condition-ors : goal.invariant-condition-ors
invariant-condition-ors l = record {
  later : l.at < l.next;
  within : l.next < length l.self.lexemes.now;
  or : kind_at l.self.lexemes.now l.next ≡ code Or;
  are : Ored l.self.text.now l.self.lexemes.now l.parts.items l.at l.next;
  reads : (below : List Symbol) →
      go l.self.limits l.self.lexemes.now l.at l.count (unit l.most l.depth ∷ ands l.most l.depth ∷ ors l.most l.depth ∷ below)
      ≡ go l.self.limits l.self.lexemes.now l.next l.counted (ors l.most l.depth ∷ below);
}

abbrev pub decreases-condition-ors : goal.decreases-condition-ors
decreases-condition-ors l = length l.self.lexemes.now - l.next

abbrev pub invariant-conjunction-ands : goal.invariant-conjunction-ands
invariant-conjunction-ands l = record {
  later : l.at < l.next;
  within : l.next < length l.self.lexemes.now;
  and : kind_at l.self.lexemes.now l.next ≡ code And;
  are : Anded l.self.text.now l.self.lexemes.now l.parts.items l.at l.next;
  reads : (below : List Symbol) →
      go l.self.limits l.self.lexemes.now l.at l.count (unit l.most l.depth ∷ ands l.most l.depth ∷ below)
      ≡ go l.self.limits l.self.lexemes.now l.next l.counted (ands l.most l.depth ∷ below);
}

abbrev pub decreases-conjunction-ands : goal.decreases-conjunction-ands
decreases-conjunction-ands l = length l.self.lexemes.now - l.next
