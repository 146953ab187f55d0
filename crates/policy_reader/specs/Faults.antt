-- Which fault a text has.
use Rattle.std.specs.Prelude.{ℕ, ◌≡◌, List, Some}
use Rattle.policy_lexer.specs.declared.token.Token.{Token}
use Rattle.policy_lexer.specs.declared.fault.LexFault.{LexFault}
use Rattle.policy_lexer.specs.Faults.{IsFault}
use Rattle.policy_lexer.specs.Tokens.{SpellsTokens}
use Rattle.policy_grammar.specs.declared.fault.ParseFault.{ParseFault}
use Rattle.policy_grammar.specs.Lexemes.{language_of}
use Rattle.policy_types.specs.declared.fault.TypeFault.{TypeFault}
use Rattle.policy_types.specs.Correct.{IsLeast}
use Rattle.policy_types.specs.Faults.{IsFirst}
use Rattle.policy_reader.specs.declared.fault.TextFault.{TextFault}
use Rattle.policy_reader.specs.Languages.{TextSyntax, IsFaultOf, rule_faults}
use Rattle.policy_reader.specs.Spelled.{SpellsSyntax}
use Rattle.policy_reader.specs.Told.{lex_fault, offset_of, parse_fault, type_fault}

-- the fault of the text: the first of its bytes, where it has no tokens; else the first of its tokens, where they have
-- no syntax within the limits of its language; else the first rule of names, ranges and phases that the syntax breaks
pub data HasFault (text : List ℕ) (fault : TextFault) : Type 0 where
  no_tokens : (found : LexFault) → IsFault text found → lex_fault found ≡ Some fault → HasFault text fault
  no_syntax : (tokens : List Token) (found : ParseFault) → SpellsTokens text tokens →
      IsFaultOf (language_of text tokens) text tokens found →
      parse_fault (offset_of text tokens) found ≡ Some fault → HasFault text fault
  no_policy : (tokens : List Token) (syntax : TextSyntax) (found : TypeFault) → SpellsSyntax text tokens syntax →
      IsFirst (rule_faults syntax) found → IsLeast (rule_faults syntax) found →
      type_fault (offset_of text tokens) found ≡ Some fault → HasFault text fault
