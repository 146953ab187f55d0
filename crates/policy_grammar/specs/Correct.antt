-- What a parser answers, in words of a grammar and of its limits. It is said of a grammar of trees, which tokens are
-- which tree, and of the first limit that a tree passes; then of policies, and of level texts.
use Rattle.std.specs.Prelude.{ℕ, ◌+◌, ◌≡◌, ◌<◌, ◌≤◌, List, ◌++◌, take, length, Option, Some, None}
use Rattle.policy_syntax.specs.SyntaxTrees.{SyntaxTree}
use Rattle.policy_syntax.specs.LevelTrees.{LevelSyntaxTree}
use Rattle.policy_grammar.specs.declared.terminal.Lexeme.{Lexeme}
use Rattle.policy_grammar.specs.declared.limits.Limits.{Limits}
use Rattle.policy_grammar.specs.declared.fault.ParseFault.{ParseFault}
use Rattle.policy_grammar.specs.declared.fault.ParseFault.TheVariants.{Unexpected, Deep, Many, Memory}
use Rattle.policy_grammar.specs.Policies.{IsPolicy}
use Rattle.policy_grammar.specs.Levels.{IsLevels}
use Rattle.policy_grammar.specs.Breaks.{breaks_policy}
use Rattle.policy_grammar.specs.LevelBreaks.{breaks_level_text}

-- some text begins with these tokens
pub record BeginsIn (Tree : Type 0) (Is : List Lexeme → Tree → Type 0) (ps : List Lexeme) : Type 0 where
  pub rest : List Lexeme
  pub syntax : Tree
  pub is : Is (ps ++ rest) syntax

-- no limit is passed before that token
abbrev pub NotBefore : ℕ → Option ParseFault → Type 0
NotBefore at None = Unit {0}
NotBefore at (Some (Unexpected place)) = at ≤ place
NotBefore at (Some (Deep place)) = at ≤ place
NotBefore at (Some (Many place limit)) = at ≤ place
NotBefore at (Some Memory) = Unit {0}

-- the tokens before that one begin a text, with it they begin none, or they have ended too soon; and no text that
-- begins with them passes a limit among them
pub record IsUnexpectedIn (Tree : Type 0) (Is : List Lexeme → Tree → Type 0) (breaks : Tree → Option ParseFault)
    (ts : List Lexeme) (at : ℕ) : Type 0 where
  pub within : at ≤ length ts
  pub before : BeginsIn Tree Is (take at ts)
  pub after : at < length ts → BeginsIn Tree Is (take (at + 1) ts) → ⊥
  pub short : at ≡ length ts → (syntax : Tree) → Is ts syntax → ⊥
  pub earlier : (rest : List Lexeme) (syntax : Tree) → Is (take at ts ++ rest) syntax → NotBefore at (breaks syntax)

-- the tokens up to that one begin a text, and each such text passes this limit there, its first
pub record IsExcessIn (Tree : Type 0) (Is : List Lexeme → Tree → Type 0) (breaks : Tree → Option ParseFault)
    (ts : List Lexeme) (at : ℕ) (fault : ParseFault) : Type 0 where
  pub within : at < length ts
  pub begins : BeginsIn Tree Is (take (at + 1) ts)
  pub first : (rest : List Lexeme) (syntax : Tree) → Is (take (at + 1) ts ++ rest) syntax → breaks syntax ≡ Some fault

abbrev pub IsFaultIn : (Tree : Type 0) (Is : List Lexeme → Tree → Type 0) (breaks : Tree → Option ParseFault)
    (ts : List Lexeme) → ParseFault → Type 0
IsFaultIn Tree Is breaks ts (Unexpected at) = IsUnexpectedIn Tree Is breaks ts at
IsFaultIn Tree Is breaks ts (Deep at) = IsExcessIn Tree Is breaks ts at (Deep at)
IsFaultIn Tree Is breaks ts (Many at limit) = IsExcessIn Tree Is breaks ts at (Many at limit)
IsFaultIn Tree Is breaks ts Memory = Unit {0}

-- the tokens are a text with this syntax, and within the limits
pub record IsWithinIn (Tree : Type 0) (Is : List Lexeme → Tree → Type 0) (breaks : Tree → Option ParseFault)
    (ts : List Lexeme) (syntax : Tree) : Type 0 where
  pub is : Is ts syntax
  pub keeps : breaks syntax ≡ None

-- of policies
abbrev pub IsParseFault : Limits → List ℕ → List Lexeme → ParseFault → Type 0
IsParseFault limits text = IsFaultIn SyntaxTree (IsPolicy text) (breaks_policy limits)

abbrev pub IsWithin : Limits → List ℕ → List Lexeme → SyntaxTree → Type 0
IsWithin limits text = IsWithinIn SyntaxTree (IsPolicy text) (breaks_policy limits)

-- of level texts
abbrev pub IsLevelTextFault : Limits → List ℕ → List Lexeme → ParseFault → Type 0
IsLevelTextFault limits text = IsFaultIn LevelSyntaxTree (IsLevels text) (breaks_level_text limits)

abbrev pub IsLevelTextWithin : Limits → List ℕ → List Lexeme → LevelSyntaxTree → Type 0
IsLevelTextWithin limits text = IsWithinIn LevelSyntaxTree (IsLevels text) (breaks_level_text limits)
