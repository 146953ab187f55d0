-- Each layer's answer is the text's.
use Rattle.std.proofs.Common.{sym, subst}
use Rattle.policy_syntax.specs.SyntaxTrees.{syntax_tree}
use Rattle.policy_reader.specs.Languages.{of_policy, IsFaultOf}
use Rattle.policy_reader.proofs.Answered.{of_grammar, told_of_syntax, told_of_policy}
use Rattle.policy_reader.proofs.places.Places.plain_policy.Goals as goal

pub returns-in-Err-clause-fault : goal.returns-in-Err-clause-fault
returns-in-Err-clause-fault c =
    let text = c.args.self.now.text.now in let tokens = c.args.self.now.tokens.now in
    told_of_syntax text tokens c.grammar_fault.result c.in-Err.fault c.requires.spells
    (subst (λ l. IsFaultOf l text tokens c.in-Err.fault) (sym c.requires.language) c.in-Err.ensures.fault) c.grammar_fault.ensures

pub returns-in-Ok-resolve-clause-policy : goal.returns-in-Ok-resolve-clause-policy
returns-in-Ok-resolve-clause-policy c = record {
  tokens = c.args.self.now.tokens.now;
  syntax = of_policy (syntax_tree c.in-Ok.syntax);
  has = record { spells = c.requires.spells; is = (c.requires.language, c.in-Ok.ensures.syntax) };
  keeps = c.in-Ok-resolve.ensures.sound;
  means = sym c.in-Ok-resolve.ensures.policy;
}

pub returns-in-Ok-resolve-clause-resolved : goal.returns-in-Ok-resolve-clause-resolved
returns-in-Ok-resolve-clause-resolved c =
    c.in-Ok-resolve.ensures.resolved
    (of_grammar c.args.self.now.text.now c.args.self.now.tokens.now (syntax_tree c.in-Ok.syntax) c.args.self.now.small c.requires.spells c.in-Ok.ensures.syntax)

pub returns-clause-fault : goal.returns-clause-fault
returns-clause-fault c =
    let text = c.args.self.now.text.now in let tokens = c.args.self.now.tokens.now in let s = syntax_tree c.in-Ok.syntax in
    told_of_policy text tokens (of_policy s) c.rule_fault.result c.in-Err-resolve.fault
    (record { spells = c.requires.spells; is = (c.requires.language, c.in-Ok.ensures.syntax) }) c.in-Err-resolve.ensures.fault
    (c.in-Err-resolve.ensures.least (of_grammar text tokens s c.args.self.now.small c.requires.spells c.in-Ok.ensures.syntax)) c.rule_fault.ensures
