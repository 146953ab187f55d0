-- The cases of a handler, as the parser has them.
use Rattle.std.specs.Prelude.{ℕ, ◌≡◌, List, ◌∷◌, map}
use Rattle.policy_syntax.specs.declared.syntax.CaseSyntax.{CaseSyntax}
use Rattle.policy_syntax.specs.SyntaxTrees.{CaseSyntaxTree, case_syntax_tree}
use Rattle.policy_grammar.specs.declared.terminal.Lexeme.{Lexeme}
use Rattle.policy_grammar.specs.Policies.{IsCase, IsCases}

-- a case and those behind it
pub record Cased (text : List ℕ) (ts : List Lexeme) (items : List CaseSyntax) (at to : ℕ) : Type 0 where
  pub first : CaseSyntaxTree
  pub rest : List CaseSyntaxTree
  pub mid : ℕ
  pub same : map case_syntax_tree items ≡ first ∷ rest
  pub is : IsCase text ts at first mid
  pub are : IsCases text ts mid rest to
