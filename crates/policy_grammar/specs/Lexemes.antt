-- The tokens of a text, told apart as the grammar does.
use Rattle.std.specs.Prelude.{ℕ, ◌==◌, Bool, List, [], ◌∷◌, ◌++◌, map, codes, slice_get, slice_range, if◌then◌else◌}
use Rattle.std.specs.Prelude.{Option, Some, None}
use Rattle.std.specs.Str.{bytes_eq}
use Rattle.policy_lexer.specs.declared.token.Token.{Token}
use Rattle.policy_lexer.specs.declared.token.TokenKind.{TokenKind}
use Rattle.policy_lexer.specs.declared.token.TokenKind.TheVariants as kind
use Rattle.policy_lexer.specs.declared.token.Symbol.{Symbol}
use Rattle.policy_lexer.specs.declared.token.Symbol.TheVariants as symbol
use Rattle.policy_grammar.specs.declared.language.Language.{Language}
use Rattle.policy_grammar.specs.declared.language.Language.TheVariants.{Policies, LevelTexts}
use Rattle.policy_grammar.specs.declared.terminal.Lexeme.{Lexeme}
use Rattle.policy_grammar.specs.declared.terminal.Terminal.{Terminal}
use Rattle.policy_grammar.specs.declared.terminal.Terminal.TheVariants.{Policy, Load, Count, Weight, Core, Thread, In}
use Rattle.policy_grammar.specs.declared.terminal.Terminal.TheVariants.{Start, Place, Here, Min, Max, Elect, Choose}
use Rattle.policy_grammar.specs.declared.terminal.Terminal.TheVariants.{Steal, First, On, Enqueue, Tick, Yield, Block}
use Rattle.policy_grammar.specs.declared.terminal.Terminal.TheVariants.{When, Queue, Keep, Filter, And, Or, Not, Always}
use Rattle.policy_grammar.specs.declared.terminal.Terminal.TheVariants.{Itself, Victim, Task, While, Limit, Prefer}
use Rattle.policy_grammar.specs.declared.terminal.Terminal.TheVariants.{Levels, Level, Within, Reserved}
use Rattle.policy_grammar.specs.declared.terminal.Terminal.TheVariants.{Name, Number}
use Rattle.policy_grammar.specs.declared.terminal.Terminal.TheVariants.{Dot, Range, Comma, Colon, Open, Close, Begin}
use Rattle.policy_grammar.specs.declared.terminal.Terminal.TheVariants.{Finish, Plus, Minus, Star, Gets, Equal, Unequal}
use Rattle.policy_grammar.specs.declared.terminal.Terminal.TheVariants.{Less, AtMost, More, AtLeast}
use Rattle.policy_grammar.specs.Terminals.{code}

-- the words that are reserved in both languages, and what each is to the grammar
unfoldable pub reserved_words : List (List ℕ × Terminal)
reserved_words =
    (codes "policy", Policy) ∷ (codes "load", Load) ∷ (codes "count", Count) ∷ (codes "weight", Weight)
    ∷ (codes "core", Core) ∷ (codes "thread", Thread) ∷ (codes "in", In) ∷ (codes "start", Start)
    ∷ (codes "place", Place) ∷ (codes "here", Here) ∷ (codes "min", Min) ∷ (codes "max", Max)
    ∷ (codes "elect", Elect) ∷ (codes "choose", Choose) ∷ (codes "steal", Steal) ∷ (codes "first", First)
    ∷ (codes "on", On) ∷ (codes "enqueue", Enqueue) ∷ (codes "tick", Tick) ∷ (codes "yield", Yield)
    ∷ (codes "block", Block) ∷ (codes "when", When) ∷ (codes "queue", Queue) ∷ (codes "keep", Keep)
    ∷ (codes "filter", Filter) ∷ (codes "and", And) ∷ (codes "or", Or) ∷ (codes "not", Not)
    ∷ (codes "always", Always) ∷ (codes "self", Itself) ∷ (codes "victim", Victim) ∷ (codes "t", Task)
    ∷ (codes "while", While) ∷ (codes "limit", Limit) ∷ (codes "prefer", Prefer)
    ∷ (codes "nr", Reserved) ∷ (codes "fresh", Reserved) ∷ []

-- the words that are reserved in a level text alone
unfoldable pub level_words : List (List ℕ × Terminal)
level_words = (codes "levels", Levels) ∷ (codes "level", Level) ∷ (codes "within", Within) ∷ []

abbrev pub words_of : Language → List (List ℕ × Terminal)
words_of Policies = reserved_words
words_of LevelTexts = level_words ++ reserved_words

-- what the word is, where those are reserved, each of which is read as bytes
abbrev pub terminal_among : {W : Type 0} → (W → List ℕ) → (W → Terminal) → List W → List ℕ → Terminal
terminal_among bytes_of terminal_of [] word = Name
terminal_among bytes_of terminal_of (w ∷ words) word =
    if bytes_eq (bytes_of w) word then terminal_of w else terminal_among bytes_of terminal_of words word

abbrev pub word_terminal_in : Language → List ℕ → Terminal
word_terminal_in language word = terminal_among (λ w. w.0) (λ w. w.1) (words_of language) word

abbrev pub symbol_terminal : Symbol → Terminal
symbol_terminal symbol.Dot = Dot
symbol_terminal symbol.Range = Range
symbol_terminal symbol.Comma = Comma
symbol_terminal symbol.Colon = Colon
symbol_terminal symbol.Open = Open
symbol_terminal symbol.Close = Close
symbol_terminal symbol.Begin = Begin
symbol_terminal symbol.Finish = Finish
symbol_terminal symbol.Plus = Plus
symbol_terminal symbol.Minus = Minus
symbol_terminal symbol.Star = Star
symbol_terminal symbol.Gets = Gets
symbol_terminal symbol.Equal = Equal
symbol_terminal symbol.Unequal = Unequal
symbol_terminal symbol.Less = Less
symbol_terminal symbol.AtMost = AtMost
symbol_terminal symbol.More = More
symbol_terminal symbol.AtLeast = AtLeast

-- what a token of these bytes is
abbrev pub kind_terminal_in : Language → TokenKind → List ℕ → Terminal
kind_terminal_in language kind.Word bytes = word_terminal_in language bytes
kind_terminal_in language (kind.Number value) bytes = Number
kind_terminal_in language (kind.Symbol symbol) bytes = symbol_terminal symbol

-- the value of a number, and 0 for others
abbrev pub kind_value : TokenKind → ℕ
kind_value kind.Word = 0
kind_value (kind.Number value) = value
kind_value (kind.Symbol symbol) = 0

abbrev pub lexeme_in : Language → List ℕ → Token → Lexeme
lexeme_in language text token = record {
  terminal = kind_terminal_in language token.kind (slice_range text token.start token.end);
  start = token.start;
  end = token.end;
  value = kind_value token.kind;
}

abbrev pub lexemes_in : Language → List ℕ → List Token → List Lexeme
lexemes_in language text tokens = map (lexeme_in language text) tokens

-- those of a policy
abbrev pub kind_terminal : TokenKind → List ℕ → Terminal
kind_terminal kind bytes = kind_terminal_in Policies kind bytes

abbrev pub policy_lexeme : List ℕ → Token → Lexeme
policy_lexeme text token = lexeme_in Policies text token

abbrev pub policy_lexemes : List ℕ → List Token → List Lexeme
policy_lexemes text tokens = lexemes_in Policies text tokens

-- whether the token is the word `levels`
abbrev pub is_levels : List ℕ → Token → Bool
is_levels text token = code (lexeme_in LevelTexts text token).terminal == code Levels

abbrev pub language_from : List ℕ → Option Token → Language
language_from text None = Policies
language_from text (Some token) = if is_levels text token then LevelTexts else Policies

-- the language of a text with these tokens: a level text begins with the word `levels`
abbrev pub language_of : List ℕ → List Token → Language
language_of text tokens = language_from text (slice_get tokens 0)
