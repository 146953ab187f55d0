-- What is told of the faults that tokens, grammar and rules have: their kind, and the offset where they stand.
use Rattle.std.specs.Prelude.{ℕ, List, length, slice_get, Option, Some, None}
use Rattle.policy_lexer.specs.declared.token.Token.{Token}
use Rattle.policy_lexer.specs.declared.fault.LexFault.{LexFault}
use Rattle.policy_lexer.specs.declared.fault.LexFault.TheVariants as lex
use Rattle.policy_grammar.specs.declared.fault.ParseFault.{ParseFault}
use Rattle.policy_grammar.specs.declared.fault.ParseFault.TheVariants as parse
use Rattle.policy_types.specs.declared.fault.TypeFault.{TypeFault}
use Rattle.policy_types.specs.declared.fault.TypeFault.TheVariants as type
use Rattle.policy_reader.specs.declared.fault.FaultKind.TheVariants.{NotAscii, BadByte, LongName, WideNumber}
use Rattle.policy_reader.specs.declared.fault.FaultKind.TheVariants.{Unexpected, Deep, Many, Unknown, Twice, NotLinear}
use Rattle.policy_reader.specs.declared.fault.FaultKind.TheVariants.{NotHere, BadRange, Big}
use Rattle.policy_reader.specs.declared.fault.TextFault.{TextFault}
use Rattle.policy_reader.specs.declared.fault.PolicyFault.{PolicyFault}
use Rattle.policy_reader.specs.declared.fault.PolicyFault.TheVariants.{Broken, Memory}

-- the fault that is answered. Want of memory is no fault of a text
abbrev pub told_of : PolicyFault → Option TextFault
told_of (Broken fault) = Some fault
told_of Memory = None

-- where the token begins, if there is one
abbrev pub start_or : ℕ → Option Token → ℕ
start_or end None = end
start_or end (Some token) = token.start

-- the offset of the first byte of the token with that number, and the length of the text behind the last
abbrev pub offset_of : List ℕ → List Token → ℕ → ℕ
offset_of text tokens token = start_or (length text) (slice_get tokens token)

-- a fault of tokens names its byte
abbrev pub lex_fault : LexFault → Option TextFault
lex_fault (lex.NotAscii at) = Some (record { kind = NotAscii; at = at })
lex_fault (lex.BadByte at) = Some (record { kind = BadByte; at = at })
lex_fault (lex.LongName at) = Some (record { kind = LongName; at = at })
lex_fault (lex.WideNumber at) = Some (record { kind = WideNumber; at = at })
lex_fault lex.Memory = None

-- a fault of the grammar names a token. Which limit is passed isn't told
abbrev pub parse_fault : (ℕ → ℕ) → ParseFault → Option TextFault
parse_fault offset (parse.Unexpected token) = Some (record { kind = Unexpected; at = offset token })
parse_fault offset (parse.Deep token) = Some (record { kind = Deep; at = offset token })
parse_fault offset (parse.Many token limit) = Some (record { kind = Many; at = offset token })
parse_fault offset parse.Memory = None

-- so does a rule of names, ranges and phases
abbrev pub type_fault : (ℕ → ℕ) → TypeFault → Option TextFault
type_fault offset (type.Unknown token) = Some (record { kind = Unknown; at = offset token })
type_fault offset (type.Twice token) = Some (record { kind = Twice; at = offset token })
type_fault offset (type.NotLinear token) = Some (record { kind = NotLinear; at = offset token })
type_fault offset (type.NotHere token) = Some (record { kind = NotHere; at = offset token })
type_fault offset (type.BadRange token) = Some (record { kind = BadRange; at = offset token })
type_fault offset (type.Big token) = Some (record { kind = Big; at = offset token })
type_fault offset type.Memory = None
