-- The printed text of a syntax has the tokens that the syntax was of, and so the grammar has it again.
use Rattle.std.proofs.Common.{◌≡◌, ◌∙◌, ◌≤◌, ℕ, List, [], ◌∷◌, ◌++◌, length, map, None, ap, sym, arith, append-nil}
use Rattle.std.proofs.lemmas.List.{drop_all, length-map}
use Rattle.policy_syntax.specs.SyntaxTrees.{SyntaxTree}
use Rattle.policy_lexer.specs.declared.token.Token.{Token}
use Rattle.policy_lexer.specs.Tokens.{SpellsTokens}
use Rattle.policy_grammar.specs.declared.limits.TheConstants.{POLICY_LIMITS}
use Rattle.policy_grammar.specs.Breaks.{breaks_policy}
use Rattle.policy_grammar.specs.Lexemes.{policy_lexeme, policy_lexemes}
use Rattle.policy_grammar.specs.Policies.{IsPolicy}
use Rattle.policy_printer.specs.PolicyTexts.{policy_texts}
use Rattle.policy_printer.specs.Printed.{printed, IsTextOf}
use Rattle.policy_printer.proofs.AgainPolicies.{policy-again}
use Rattle.policy_printer.proofs.Alike.{alike}
use Rattle.policy_printer.proofs.Laid.{texts, lined, tokens_from, reads-lined, are-laid}
use Rattle.policy_printer.proofs.Normal.{Spelled, normal, normal-tokens}
use Rattle.policy_printer.proofs.SpelledPolicies.{policy-spells}

-- the tokens of a syntax are its printed tokens
printed-tokens : (text : List ℕ) (tokens : List Token) (syntax : SyntaxTree) → IsPolicy text (policy_lexemes text tokens) syntax →
    texts (map (normal text) tokens) ≡ policy_texts syntax
printed-tokens text tokens syntax is =
    let all = policy-spells text tokens is in
    let lexemes = length-map tokens (policy_lexeme text) in
    let spelled = length-map tokens (normal text) in
    let each = length-map (map (normal text) tokens) (λ (p : Spelled). p.text) in
    let past : length (texts (map (normal text) tokens)) ≤ length (policy_lexemes text tokens) = omega arith in
    all.is ∙ ap (λ (more : List (List ℕ)). policy_texts syntax ++ more) (drop_all (length (policy_lexemes text tokens)) (texts (map (normal text) tokens)) past)
    ∙ append-nil (policy_texts syntax)

read-again : (text : List ℕ) (tokens : List Token) (syntax : SyntaxTree) → SpellsTokens text tokens → IsPolicy text (policy_lexemes text tokens) syntax →
    breaks_policy POLICY_LIMITS syntax ≡ None → IsTextOf (printed syntax) syntax
read-again text [] syntax spells is keeps = let clash = printed-tokens text [] syntax is in cc
read-again text (t ∷ tokens) syntax spells is keeps =
    let e = sym (ap lined (printed-tokens text (t ∷ tokens) syntax is)) in
    let laid = are-laid (printed syntax) 0 (normal text t) (map (normal text) tokens) e in
    record {
      tokens = tokens_from 0 (map (normal text) (t ∷ tokens));
      spells = reads-lined (printed syntax) 0 (normal text t) (map (normal text) tokens) e (omega arith) (normal-tokens text spells);
      is = record {
        is = policy-again text (policy_lexemes text (t ∷ tokens)) (printed syntax) (policy_lexemes (printed syntax) (tokens_from 0 (map (normal text) (t ∷ tokens))))
            (alike text (printed syntax) (t ∷ tokens) (tokens_from 0 (map (normal text) (t ∷ tokens))) laid) is;
        keeps = keeps;
      };
    }

pub printed-again : (text : List ℕ) (syntax : SyntaxTree) → IsTextOf text syntax → IsTextOf (printed syntax) syntax
printed-again text syntax of = read-again text of.tokens syntax of.spells of.is.is of.is.keeps
