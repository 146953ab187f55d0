-- Where a text has no tokens, and what is answered.
use Rattle.std.specs.Prelude.{ℕ, ◌^◌, ◌≡◌, ◌≢◌, ◌<◌, ◌≤◌, List, length, take, drop, slice_index, Result, Ok, Err}
use Rattle.sched_base.specs.declared.limits.TheConstants.{MAX_NAME_BYTES}
use Rattle.policy_lexer.specs.declared.token.Token.{Token}
use Rattle.policy_lexer.specs.declared.token.TokenKind.TheVariants.{Word, Number}
use Rattle.policy_lexer.specs.declared.fault.LexFault.{LexFault}
use Rattle.policy_lexer.specs.declared.fault.LexFault.TheVariants.{NotAscii, BadByte, LongName, WideNumber, Memory}
use Rattle.policy_lexer.specs.Pieces.{token, IsFirstPiece, HasNoPiece}
use Rattle.policy_lexer.specs.Tokens.{Reads, SpellsTokens}

-- tokens and gaps lead up to the place, and the text goes on there
pub record Reaches (text : List ℕ) (at : ℕ) : Type 0 where
  pub tokens : List Token
  pub reads : Reads text 0 tokens at
  pub within : at < length text

-- the rule that is broken at a place. A comment goes no further than the bytes that it may have, so that a bad byte
-- in it begins no piece
abbrev pub IsBroken : List ℕ → LexFault → Type 0
IsBroken text (NotAscii at) = Reaches text at × (128 ≤ slice_index text at)
IsBroken text (BadByte at) = Reaches text at × (slice_index text at < 128) × HasNoPiece (drop at text)
IsBroken text (LongName at) = Reaches text at × ((size : ℕ) × IsFirstPiece (drop at text) size (token Word)
    × (MAX_NAME_BYTES < size))
IsBroken text (WideNumber at) = Reaches text at × ((size : ℕ) × (value : ℕ)
    × IsFirstPiece (drop at text) size (token (Number value)) × (2 ^ 64 ≤ value))
IsBroken text Memory = ⊥

abbrev pub HasTokens : List ℕ → Type 0
HasTokens text = (tokens : List Token) × SpellsTokens text tokens

-- a rule is broken there, and the text before it has tokens
abbrev pub IsFault : List ℕ → LexFault → Type 0
IsFault text (NotAscii at) = IsBroken text (NotAscii at) × HasTokens (take at text)
IsFault text (BadByte at) = IsBroken text (BadByte at) × HasTokens (take at text)
IsFault text (LongName at) = IsBroken text (LongName at) × HasTokens (take at text)
IsFault text (WideNumber at) = IsBroken text (WideNumber at) × HasTokens (take at text)
IsFault text Memory = Unit {0}

-- the text has this fault, which is one of texts
abbrev pub IsRealFault : List ℕ → LexFault → Type 0
IsRealFault text fault = IsFault text fault × (fault ≢ Memory)

-- the result is this answer, or the want of memory
abbrev pub IsUnlessMemory : Result (List Token) LexFault → Result (List Token) LexFault → Type 0
IsUnlessMemory answer (Ok tokens) = Ok tokens ≡ answer
IsUnlessMemory answer (Err (NotAscii at)) = Err (NotAscii at) ≡ answer
IsUnlessMemory answer (Err (BadByte at)) = Err (BadByte at) ≡ answer
IsUnlessMemory answer (Err (LongName at)) = Err (LongName at) ≡ answer
IsUnlessMemory answer (Err (WideNumber at)) = Err (WideNumber at) ≡ answer
IsUnlessMemory answer (Err Memory) = Unit {0}
