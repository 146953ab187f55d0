-- Why a printed text isn't read again.
use Rattle.std.specs.Prelude.{ℕ, ◌<◌, List, length}
use Rattle.sched_base.specs.declared.limits.TheConstants.{MAX_POLICY_BYTES}
use Rattle.policy_lexer.specs.declared.token.Token.{Token}
use Rattle.policy_syntax.specs.SyntaxTrees.{SyntaxTree}
use Rattle.policy_grammar.specs.declared.limits.TheConstants.{POLICY_LIMITS}
use Rattle.policy_grammar.specs.Lexemes.{policy_lexemes}
use Rattle.policy_grammar.specs.Correct.{IsWithin}
use Rattle.language_tests.specs.declared.reading_again.Unread.{Unread}
use Rattle.language_tests.specs.declared.reading_again.Unread.TheVariants.{TooLong, Memory}

-- the text is longer than texts are, or memory ran out
abbrev pub IsUnread : List ℕ → Unread → Type 0
IsUnread text TooLong = MAX_POLICY_BYTES < length text
IsUnread text Memory = Unit {0}

-- the grammar has these tokens of the text with this syntax, within the limits
abbrev pub HasSyntax : List ℕ → List Token → SyntaxTree → Type 0
HasSyntax text tokens syntax = IsWithin POLICY_LIMITS text (policy_lexemes text tokens) syntax
