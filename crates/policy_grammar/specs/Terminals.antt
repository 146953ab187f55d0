-- The terminals by number, and the lexemes of a text.
use Rattle.std.specs.Prelude.{ℕ, Bool, nat_le, ◌&&◌, List, slice_get, slice_range, Option, Some, None}
use Rattle.policy_grammar.specs.declared.terminal.Terminal.{Terminal}
use Rattle.policy_grammar.specs.declared.terminal.Terminal.TheVariants.{End, Policy, Load, Count, Weight, Core, Thread}
use Rattle.policy_grammar.specs.declared.terminal.Terminal.TheVariants.{In, Start, Place, Here, Min, Max, Elect, Choose}
use Rattle.policy_grammar.specs.declared.terminal.Terminal.TheVariants.{Steal, First, On, Enqueue, Tick, Yield, Block}
use Rattle.policy_grammar.specs.declared.terminal.Terminal.TheVariants.{When, Queue, Keep, Level, Filter, And, Or, Not}
use Rattle.policy_grammar.specs.declared.terminal.Terminal.TheVariants.{Always, Itself, Victim, Task, While, Limit}
use Rattle.policy_grammar.specs.declared.terminal.Terminal.TheVariants.{Prefer, Levels, Within, Reserved}
use Rattle.policy_grammar.specs.declared.terminal.Terminal.TheVariants.{Name, Number}
use Rattle.policy_grammar.specs.declared.terminal.Terminal.TheVariants.{Dot, Range, Comma, Colon, Open, Close, Begin}
use Rattle.policy_grammar.specs.declared.terminal.Terminal.TheVariants.{Finish, Plus, Minus, Star, Gets, Equal, Unequal}
use Rattle.policy_grammar.specs.declared.terminal.Terminal.TheVariants.{Less, AtMost, More, AtLeast}
use Rattle.policy_grammar.specs.declared.terminal.Lexeme.{Lexeme}

-- the number of a terminal
abbrev pub code : Terminal → ℕ
code End = 0
code Policy = 1
code Load = 2
code Count = 3
code Weight = 4
code Core = 5
code Thread = 6
code In = 7
code Start = 8
code Place = 9
code Here = 10
code Min = 11
code Max = 12
code Elect = 13
code Choose = 14
code Steal = 15
code First = 16
code On = 17
code Enqueue = 18
code Tick = 19
code Yield = 20
code Block = 21
code When = 22
code Queue = 23
code Keep = 24
code Level = 25
code Filter = 26
code And = 27
code Or = 28
code Not = 29
code Always = 30
code Itself = 31
code Victim = 32
code Task = 33
code While = 34
code Limit = 35
code Prefer = 36
code Levels = 37
code Within = 38
code Reserved = 39
code Name = 40
code Number = 41
code Dot = 42
code Range = 43
code Comma = 44
code Colon = 45
code Open = 46
code Close = 47
code Begin = 48
code Finish = 49
code Plus = 50
code Minus = 51
code Star = 52
code Gets = 53
code Equal = 54
code Unequal = 55
code Less = 56
code AtMost = 57
code More = 58
code AtLeast = 59

-- the lexeme in that place, and one that is no token past the last
abbrev pub or_end : Option Lexeme → Lexeme
or_end None = record { terminal = End; start = 0; end = 0; value = 0 }
or_end (Some lexeme) = lexeme

abbrev pub lexeme_at : List Lexeme → ℕ → Lexeme
lexeme_at ts at = or_end (slice_get ts at)

-- what stands in that place
abbrev pub kind_at : List Lexeme → ℕ → ℕ
kind_at ts at = code (lexeme_at ts at).terminal

abbrev pub value_at : List Lexeme → ℕ → ℕ
value_at ts at = (lexeme_at ts at).value

abbrev pub word_at : List ℕ → List Lexeme → ℕ → List ℕ
word_at text ts at = slice_range text (lexeme_at ts at).start (lexeme_at ts at).end

-- any word, also a reserved one
abbrev pub is_word : ℕ → Bool
is_word kind = nat_le (code Policy) kind && nat_le kind (code Name)
