-- What a reader of a part answers.
use Rattle.std.specs.Prelude.{ℕ, ◌≡◌, ◌==◌, ◌≤◌, false, List, length, Option, Some, Result, Ok, Err}
use Rattle.policy_grammar.specs.declared.terminal.Terminal.TheVariants.{Star, Plus, Minus}
use Rattle.policy_grammar.specs.declared.terminal.Lexeme.{Lexeme}
use Rattle.policy_grammar.specs.declared.fault.ParseFault.{ParseFault}
use Rattle.policy_grammar.specs.declared.fault.ParseFault.TheVariants.{Unexpected, Deep, Many, Memory}
use Rattle.policy_grammar.specs.Terminals.{code, kind_at, is_word}

-- reading ends in that fault, unless memory runs out
abbrev pub Fails : Option ParseFault → ParseFault → Type 0
Fails read (Unexpected at) = read ≡ Some (Unexpected at)
Fails read (Deep at) = read ≡ Some (Deep at)
Fails read (Many at limit) = read ≡ Some (Many at limit)
Fails read Memory = Unit {0}

-- reading goes on behind the part, or ends in the fault
abbrev pub Answers : {X : Type 0} → Option ParseFault → (X → Option ParseFault) → Result X ParseFault → Type 0
Answers read rest (Ok part) = read ≡ rest part
Answers read rest (Err fault) = Fails read fault

-- the words of the lexeme lie in the text
pub record LiesIn (text : List ℕ) (lexeme : Lexeme) : Type 0 where
  pub ordered : lexeme.start ≤ lexeme.end
  pub within : lexeme.end ≤ length text

-- no operator of expressions stands there
pub record IsOver (ts : List Lexeme) (at : ℕ) : Type 0 where
  pub star : (kind_at ts at == code Star) ≡ false
  pub plus : (kind_at ts at == code Plus) ≡ false
  pub minus : (kind_at ts at == code Minus) ≡ false

-- no word stands there, or memory ran out
abbrev pub IsWordFault : List Lexeme → ℕ → ParseFault → Type 0
IsWordFault ts at (Unexpected place) = (place ≡ at) × (is_word (kind_at ts at) ≡ false)
IsWordFault ts at (Deep place) = ⊥
IsWordFault ts at (Many place limit) = ⊥
IsWordFault ts at Memory = Unit {0}

-- it is read, or memory ran out
abbrev pub IsReadUnlessMemory : {X : Type 0} → Result X ParseFault → Type 0
IsReadUnlessMemory (Ok part) = Unit {0}
IsReadUnlessMemory (Err (Unexpected at)) = ⊥
IsReadUnlessMemory (Err (Deep at)) = ⊥
IsReadUnlessMemory (Err (Many at limit)) = ⊥
IsReadUnlessMemory (Err Memory) = Unit {0}
