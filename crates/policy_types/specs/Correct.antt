-- What is asked of a syntax so that its policy is a resolved one, and which fault comes first.
use Rattle.std.specs.Prelude.{ℕ, ◌^◌, ◌<◌, ◌≤◌, List, All, length}
use Rattle.policy_syntax.specs.SyntaxTrees.{SyntaxTree}
use Rattle.policy_syntax.specs.LevelTrees.{LevelSyntaxTree}
use Rattle.policy_grammar.specs.Correct.{IsLevelTextWithin, IsWithin}
use Rattle.policy_types.specs.declared.fault.TypeFault.{TypeFault}
use Rattle.policy_types.specs.declared.fault.TypeFault.TheVariants.{Unknown, Twice, NotLinear, NotHere, BadRange, Big}
use Rattle.policy_types.specs.declared.fault.TypeFault.TheVariants.{Memory}
use Rattle.policy_grammar.specs.declared.limits.TheConstants.{POLICY_LIMITS}
use Rattle.policy_grammar.specs.declared.terminal.Lexeme.{Lexeme}

-- the grammar has it of some tokens, within the limits. A number of 32 bits counts the tokens
pub record IsOfGrammar (s : SyntaxTree) : Type 0 where
  pub text : List ℕ
  pub tokens : List Lexeme
  pub is : IsWithin POLICY_LIMITS text tokens s
  pub few : length tokens < 2 ^ 32

-- the same of a level text
pub record IsOfLevelGrammar (s : LevelSyntaxTree) : Type 0 where
  pub text : List ℕ
  pub tokens : List Lexeme
  pub is : IsLevelTextWithin POLICY_LIMITS text tokens s
  pub few : length tokens < 2 ^ 32

-- the number of the token that a fault names
abbrev pub token_of : TypeFault → ℕ
token_of (Unknown at) = at
token_of (Twice at) = at
token_of (NotLinear at) = at
token_of (NotHere at) = at
token_of (BadRange at) = at
token_of (Big at) = at
token_of Memory = 0

-- none of the faults names an earlier token. Want of memory names none
abbrev pub IsLeast : List TypeFault → TypeFault → Type 0
IsLeast faults fault = All (λ (other : TypeFault). token_of fault ≤ token_of other) faults
