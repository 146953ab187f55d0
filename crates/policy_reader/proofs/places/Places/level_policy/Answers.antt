-- Each layer's answer is the text's.
use Rattle.std.proofs.Common.{◌∙◌, sym, ap, subst}
use Rattle.level_policy.specs.Compiled.{compiled}
use Rattle.policy_syntax.specs.LevelTrees.{level_syntax_tree}
use Rattle.policy_reader.specs.Languages.{of_levels, IsFaultOf}
use Rattle.policy_reader.proofs.Answered.{of_level_grammar, told_of_syntax, told_of_policy}
use Rattle.policy_reader.proofs.places.Places.level_policy.Goals as goal

pub returns-in-Err-clause-fault : goal.returns-in-Err-clause-fault
returns-in-Err-clause-fault c =
    let text = c.args.self.now.text.now in let tokens = c.args.self.now.tokens.now in
    told_of_syntax text tokens c.grammar_fault.result c.in-Err.fault c.requires.spells
    (subst (λ l. IsFaultOf l text tokens c.in-Err.fault) (sym c.requires.language) c.in-Err.ensures.fault) c.grammar_fault.ensures

pub returns-in-Err-resolve_levels-clause-fault : goal.returns-in-Err-resolve_levels-clause-fault
returns-in-Err-resolve_levels-clause-fault c =
    let text = c.args.self.now.text.now in let tokens = c.args.self.now.tokens.now in let s = level_syntax_tree c.in-Ok.syntax in
    told_of_policy text tokens (of_levels s) c.rule_fault.result c.in-Err-resolve_levels.fault
    (record { spells = c.requires.spells; is = (c.requires.language, c.in-Ok.ensures.syntax) }) c.in-Err-resolve_levels.ensures.fault
    (c.in-Err-resolve_levels.ensures.least (of_level_grammar text tokens s c.args.self.now.small c.requires.spells c.in-Ok.ensures.syntax)) c.rule_fault.ensures

pub compile-requires : goal.compile-requires
compile-requires c =
    c.in-Ok-resolve_levels.ensures.resolved
    (of_level_grammar c.args.self.now.text.now c.args.self.now.tokens.now (level_syntax_tree c.in-Ok.syntax) c.args.self.now.small c.requires.spells c.in-Ok.ensures.syntax)

pub returns-in-Ok-compile-clause-policy : goal.returns-in-Ok-compile-clause-policy
returns-in-Ok-compile-clause-policy c = record {
  tokens = c.args.self.now.tokens.now;
  syntax = of_levels (level_syntax_tree c.in-Ok.syntax);
  has = record { spells = c.requires.spells; is = (c.requires.language, c.in-Ok.ensures.syntax) };
  keeps = c.in-Ok-resolve_levels.ensures.sound;
  means = ap compiled (sym c.in-Ok-resolve_levels.ensures.levels) ∙ sym c.in-Ok-compile.ensures.policy;
}
