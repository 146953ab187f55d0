-- The grammar is unambiguous.
use Rattle.std.specs.Prelude.{ℕ, ◌≡◌, List}
use Rattle.policy_syntax.specs.SyntaxTrees.{SyntaxTree}
use Rattle.policy_syntax.specs.LevelTrees.{LevelSyntaxTree}
use Rattle.policy_grammar.specs.declared.terminal.Lexeme.{Lexeme}
use Rattle.policy_grammar.specs.Levels.{IsLevels}
use Rattle.policy_grammar.specs.Policies.{IsPolicy}

-- every syntax that the grammar has of these tokens is this one
abbrev pub IsOnlySyntax : List ℕ → List Lexeme → SyntaxTree → Type 0
IsOnlySyntax text ts syntax = (other : SyntaxTree) → IsPolicy text ts other → other ≡ syntax

-- of no tokens the grammar has two syntaxes that differ
abbrev pub HasOneTree : Type 0
HasOneTree = (text : List ℕ) (ts : List Lexeme) (syntax : SyntaxTree) → IsPolicy text ts syntax →
    IsOnlySyntax text ts syntax

-- the same of level texts
abbrev pub IsOnlyLevelSyntax : List ℕ → List Lexeme → LevelSyntaxTree → Type 0
IsOnlyLevelSyntax text ts syntax = (other : LevelSyntaxTree) → IsLevels text ts other → other ≡ syntax

abbrev pub HasOneLevelTree : Type 0
HasOneLevelTree = (text : List ℕ) (ts : List Lexeme) (syntax : LevelSyntaxTree) → IsLevels text ts syntax →
    IsOnlyLevelSyntax text ts syntax
