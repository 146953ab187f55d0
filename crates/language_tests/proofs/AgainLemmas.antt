-- The printed text is read as the syntax that it was printed of.
use Rattle.std.proofs.Common.{◌≡◌, ◌∙◌, ℕ, List, Result, Ok, Err, refl, sym, subst}
use Rattle.policy_syntax.specs.SyntaxTrees.{SyntaxTree}
use Rattle.policy_lexer.specs.declared.token.Token.{Token}
use Rattle.policy_lexer.specs.declared.fault.LexFault.{LexFault}
use Rattle.policy_lexer.specs.declared.fault.LexFault.TheVariants as lex
use Rattle.policy_lexer.specs.Faults.{IsUnlessMemory}
use Rattle.policy_lexer.specs.Tokens.{SpellsTokens}
use Rattle.policy_grammar.specs.declared.fault.ParseFault.{ParseFault}
use Rattle.policy_grammar.specs.declared.fault.ParseFault.TheVariants as parse
use Rattle.policy_parser.specs.Answers.{IsReadUnlessMemory}
use Rattle.policy_printer.specs.Printed.{IsTextOf}
use Rattle.language_tests.specs.Unread.{HasSyntax}

tokens-are : {us ts : List Token} → ◌≡◌ {A = Result (List Token) LexFault} (Ok us) (Ok ts) → us ≡ ts
tokens-are e = cc

-- the tokens that were read of the text have its syntax
pub has-syntax : (tree : SyntaxTree) (text : List ℕ) (tokens slice : List Token) → IsTextOf text tree →
    ((ts : List Token) → SpellsTokens text ts → ◌≡◌ {A = Result (List Token) LexFault} (Ok tokens) (Ok ts)) → slice ≡ tokens →
    HasSyntax text slice tree
has-syntax tree text tokens slice of reads same =
    subst (λ (ts : List Token). HasSyntax text ts tree) (sym (same ∙ tokens-are (reads of.tokens of.spells))) of.is

-- a text that has tokens is refused for want of memory alone
lex-memory : (f : LexFault) (ts : List Token) → IsUnlessMemory (Ok ts) (Err f) → f ≡ lex.Memory
lex-memory (lex.NotAscii at) ts e = cc
lex-memory (lex.BadByte at) ts e = cc
lex-memory (lex.LongName at) ts e = cc
lex-memory (lex.WideNumber at) ts e = cc
lex-memory lex.Memory ts e = refl

pub lexed : (tree : SyntaxTree) (text : List ℕ) (f : LexFault) → IsTextOf text tree →
    ((ts : List Token) → SpellsTokens text ts → IsUnlessMemory (Ok ts) (Err f)) → f ≡ lex.Memory
lexed tree text f of reads = lex-memory f of.tokens (reads of.tokens of.spells)

-- and a policy within the limits too
pub parsed : (X : Type 0) (f : ParseFault) → IsReadUnlessMemory {X = X} (Err f) → f ≡ parse.Memory
parsed X (parse.Unexpected at) e = absurd e
parsed X (parse.Deep at) e = absurd e
parsed X (parse.Many at limit) e = absurd e
parsed X parse.Memory e = refl
