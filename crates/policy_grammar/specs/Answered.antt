-- No tokens are lost.
use Rattle.std.specs.Prelude.{ℕ, ◌≢◌, ◌⊎◌, List, Option}
use Rattle.policy_syntax.specs.SyntaxTrees.{SyntaxTree}
use Rattle.policy_syntax.specs.LevelTrees.{LevelSyntaxTree}
use Rattle.policy_grammar.specs.declared.terminal.Lexeme.{Lexeme}
use Rattle.policy_grammar.specs.declared.limits.Limits.{Limits}
use Rattle.policy_grammar.specs.declared.fault.ParseFault.{ParseFault}
use Rattle.policy_grammar.specs.declared.fault.ParseFault.TheVariants.{Memory}
use Rattle.policy_grammar.specs.Breaks.{breaks_policy}
use Rattle.policy_grammar.specs.Correct.{IsFaultIn, IsWithinIn}
use Rattle.policy_grammar.specs.LevelBreaks.{breaks_level_text}
use Rattle.policy_grammar.specs.Levels.{IsLevels}
use Rattle.policy_grammar.specs.Policies.{IsPolicy}

-- the tokens are a text within the limits, or they have a fault
abbrev pub HasAnswerIn : (Tree : Type 0) (Is : List Lexeme → Tree → Type 0) (breaks : Tree → Option ParseFault) →
    List Lexeme → Type 0
HasAnswerIn Tree Is breaks ts =
    ((s : Tree) × IsWithinIn Tree Is breaks ts s) ⊎ ((f : ParseFault) × IsFaultIn Tree Is breaks ts f × (f ≢ Memory))

-- as policies
abbrev pub HasAnswer : Limits → List ℕ → List Lexeme → Type 0
HasAnswer limits text ts = HasAnswerIn SyntaxTree (IsPolicy text) (breaks_policy limits) ts

-- as level texts
abbrev pub HasLevelTextAnswer : Limits → List ℕ → List Lexeme → Type 0
HasLevelTextAnswer limits text ts = HasAnswerIn LevelSyntaxTree (IsLevels text) (breaks_level_text limits) ts

-- any tokens have an answer
abbrev pub EachHasAnswer : Type 0
EachHasAnswer = (limits : Limits) (text : List ℕ) (ts : List Lexeme) → HasAnswer limits text ts

abbrev pub EachHasLevelTextAnswer : Type 0
EachHasLevelTextAnswer = (limits : Limits) (text : List ℕ) (ts : List Lexeme) → HasLevelTextAnswer limits text ts
