use Rattle.std.proofs.Common.{◌∙◌, length, sym, ap, subst, arith, All}
use Rattle.policy_syntax.specs.declared.syntax.Syntax.{Syntax}
use Rattle.policy_syntax.specs.SyntaxTrees.{SyntaxTree, syntax_tree}
use Rattle.policy_grammar.specs.declared.language.Language.TheVariants.{Policies}
use Rattle.policy_grammar.specs.declared.limits.TheConstants.{POLICY_LIMITS}
use Rattle.policy_grammar.specs.Breaks.{breaks_policy}
use Rattle.policy_grammar.specs.Lexemes.{lexeme_in, lexemes_in}
use Rattle.policy_grammar.specs.Machine.{start}
use Rattle.policy_grammar.specs.Policies.{IsPolicy}
use Rattle.policy_grammar.proofs.Languages.{policies}
use Rattle.policy_grammar.proofs.OnePolicies.{policy-one}
use Rattle.policy_parser.specs.Answers.{LiesIn}
use Rattle.policy_parser.proofs.Lexed.{tokens-lie, tokens-few, map-length}
use Rattle.policy_parser.proofs.Exactly.{within-exact, only-exact, faults-exact, reads-exact}
use Rattle.policy_parser.proofs.reading.parse.Goals as goal

pub lexemes-requires-clause-lie : goal.lexemes-requires-clause-lie
lexemes-requires-clause-lie c = tokens-lie Policies c.args.text.now c.requires.spells (omega arith)

pub lexemes-requires-clause-few : goal.lexemes-requires-clause-few
lexemes-requires-clause-few c = let few = tokens-few c.args.text.now c.requires.spells in omega (arith, few, c.requires.small)

pub invariant_of-source : goal.invariant_of-source
invariant_of-source c =
    let same = c.as_slice.ensures.value ∙ c.in_ok-lexemes.ensures.are in
    let few = tokens-few c.args.text.now c.requires.spells in
    let size = ap length same ∙ map-length (lexeme_in Policies c.args.text.now) c.args.tokens.now in
    record {
      few = omega (arith, few, size, c.requires.small);
      words = subst (All (LiesIn c.args.text.now)) (sym same) (tokens-lie Policies c.args.text.now c.requires.spells (omega arith));
    }

pub returns-clause-syntax : goal.returns-clause-syntax
returns-clause-syntax c =
    within-exact POLICY_LIMITS c.args.text.now SyntaxTree (IsPolicy c.args.text.now) (breaks_policy POLICY_LIMITS) (start POLICY_LIMITS)
    (policies POLICY_LIMITS c.args.text.now) Syntax syntax_tree _ (lexemes_in Policies c.args.text.now c.args.tokens.now)
    (c.as_slice.ensures.value ∙ c.in_ok-lexemes.ensures.are) c.policy.result
    c.policy.ensures.is c.policy.ensures.reads

pub returns-clause-only : goal.returns-clause-only
returns-clause-only c =
    only-exact POLICY_LIMITS c.args.text.now SyntaxTree (IsPolicy c.args.text.now) (breaks_policy POLICY_LIMITS) (start POLICY_LIMITS)
    (policies POLICY_LIMITS c.args.text.now) Syntax syntax_tree _ (lexemes_in Policies c.args.text.now c.args.tokens.now)
    (c.as_slice.ensures.value ∙ c.in_ok-lexemes.ensures.are) c.policy.result
    (λ us s t is also. policy-one c.args.text.now us is also) c.policy.ensures.is

pub returns-clause-fault : goal.returns-clause-fault
returns-clause-fault c =
    faults-exact POLICY_LIMITS c.args.text.now SyntaxTree (IsPolicy c.args.text.now) (breaks_policy POLICY_LIMITS) (start POLICY_LIMITS)
    (policies POLICY_LIMITS c.args.text.now) Syntax syntax_tree _ (lexemes_in Policies c.args.text.now c.args.tokens.now)
    (c.as_slice.ensures.value ∙ c.in_ok-lexemes.ensures.are) c.policy.result
    c.policy.ensures.reads

pub returns-clause-reads : goal.returns-clause-reads
returns-clause-reads c =
    reads-exact POLICY_LIMITS c.args.text.now SyntaxTree (IsPolicy c.args.text.now) (breaks_policy POLICY_LIMITS) (start POLICY_LIMITS)
    (policies POLICY_LIMITS c.args.text.now) Syntax syntax_tree _ (lexemes_in Policies c.args.text.now c.args.tokens.now)
    (c.as_slice.ensures.value ∙ c.in_ok-lexemes.ensures.are) c.policy.result
    c.policy.ensures.reads
