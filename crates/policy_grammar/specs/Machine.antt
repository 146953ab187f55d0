-- Reading a token at a time: what is still to come, on a stack. It says no more than the grammar and the limits do;
-- the parser's functions are stated by it.
use Rattle.std.specs.Prelude.{ℕ, ◌+◌, ◌==◌, ◌||◌, if◌then◌else◌, List, [], ◌∷◌, drop, Option, Some}
use Rattle.std.specs.Prelude.{None}
use Rattle.policy_grammar.specs.declared.terminal.Terminal.TheVariants.{Policy, Load, Count, Weight, Core, Thread, In}
use Rattle.policy_grammar.specs.declared.terminal.Terminal.TheVariants.{Start, Place, Here, Min, Elect, Choose}
use Rattle.policy_grammar.specs.declared.terminal.Terminal.TheVariants.{Steal, First, On}
use Rattle.policy_grammar.specs.declared.terminal.Terminal.TheVariants.{When, Level, Filter, And, Or, Not}
use Rattle.policy_grammar.specs.declared.terminal.Terminal.TheVariants.{Always, Task, While, Limit}
use Rattle.policy_grammar.specs.declared.terminal.Terminal.TheVariants.{Prefer, Levels, Within, Name}
use Rattle.policy_grammar.specs.declared.terminal.Terminal.TheVariants.{Number, Dot, Range}
use Rattle.policy_grammar.specs.declared.terminal.Terminal.TheVariants.{Comma, Colon, Open, Close, Begin, Finish, Plus}
use Rattle.policy_grammar.specs.declared.terminal.Terminal.TheVariants.{Minus, Star, Gets}
use Rattle.policy_grammar.specs.declared.terminal.Lexeme.{Lexeme}
use Rattle.policy_grammar.specs.declared.limits.Limits.{Limits}
use Rattle.policy_grammar.specs.declared.fault.ParseFault.{ParseFault}
use Rattle.policy_grammar.specs.declared.fault.ParseFault.TheVariants.{Unexpected}
use Rattle.policy_grammar.specs.Terminals.{code, is_word}
use Rattle.policy_grammar.specs.Breaks.{deep, many, first_of}
use Rattle.policy_grammar.specs.Symbols.{Move, State, Symbol, actions, all_nothing, ands, attrs, batch, case, cases}
use Rattle.policy_grammar.specs.Symbols.{close, compare, condition, count_behind, dot, elect, event, field, goes}
use Rattle.policy_grammar.specs.Symbols.{handlers, int, is_compare, is_event, is_key, is_owner, is_put, key, keys}
use Rattle.policy_grammar.specs.Symbols.{level, levels, load_rule, operand, operators, order, ors, place, place_rule}
use Rattle.policy_grammar.specs.Symbols.{refuses, state, the, unit, within, word}

module _ (limits : Limits) where
  abbrev pub factor_move : ℕ → ℕ → ℕ → ℕ → ℕ → List Symbol → ℕ → Move
  factor_move count base depth operators_before at below kind =
      if kind == code Number then goes None (state count (operators base operators_before ∷ below)) else
      if kind == code Minus then
      goes (first_of (many limits.operators at operators_before) (deep limits at depth))
      (state count (operand base (depth + 1) (operators_before + 1) ∷ below)) else
      if is_owner kind then
      goes None (state count (dot base operators_before ∷ below)) else refuses

  abbrev pub unit_move : ℕ → ℕ → ℕ → ℕ → List Symbol → ℕ → Move
  unit_move count most depth at below kind =
      if kind == code Always then goes None (state count below) else
      if kind == code Not then goes (deep limits at depth) (state count (unit most (depth + 1) ∷ below)) else
      if kind == code Open then
      goes (deep limits at depth) (state count (unit most (depth + 1) ∷ ands most (depth + 1) ∷ ors most (depth + 1) ∷
      close ∷ below)) else
      factor_move count depth depth 0 at (compare most depth ∷ below) kind

  abbrev pub key_move : ℕ → ℕ → ℕ → List Symbol → ℕ → Move
  key_move most before at below kind =
      if is_key kind then
      goes (many most at before) (state 0 (operand 0 0 0 ∷ keys most (before + 1) ∷ below)) else
      if kind == code Prefer then
      goes (many most at before) (state 0 (condition limits.comparisons ∷ keys most (before + 1) ∷ below)) else refuses

  abbrev pub case_move : ℕ → ℕ → List Symbol → ℕ → Move → Move
  case_move before at below kind outer =
      if kind == code When then
      goes (many limits.cases at before) (state 0 (condition limits.comparisons ∷ the Colon ∷ actions 0 ∷
      cases (before + 1) ∷ below)) else outer

  abbrev pub level_move : ℕ → ℕ → List Symbol → ℕ → Move → Move
  level_move before at below kind outer =
      if kind == code Level then
      goes (many limits.levels at before) (state 0 (the Within ∷ within ∷ the Filter ∷
      condition limits.level_comparisons ∷ levels (before + 1) ∷ below)) else outer

  abbrev pub attr_move : ℕ → ℕ → ℕ → List Symbol → ℕ → Move → Move
  attr_move cores threads at below kind outer =
      if kind == code Core then
      goes (many limits.attrs at cores)
      (state 0 (the Name ∷ the In ∷ int ∷ the Range ∷ int ∷ the Start ∷ int ∷ attrs (cores + 1) threads ∷ below)) else
      if kind == code Thread then
      goes (many limits.attrs at threads)
      (state 0 (the Name ∷ the In ∷ int ∷ the Range ∷ int ∷ the Start ∷ int ∷ attrs cores (threads + 1)
      ∷ below)) else outer

  abbrev pub symbol_move : ℕ → ℕ → Symbol → List Symbol → ℕ → Move → Move
  symbol_move count at (the terminal) below kind outer =
      if kind == code terminal then goes None (state 0 below) else refuses
  symbol_move count at load_rule below kind outer =
      if kind == code Count then goes None (state 0 below) else
      if kind == code Weight then goes None (state 0 (int ∷ the Range ∷ int ∷ below)) else refuses
  symbol_move count at int below kind outer =
      if kind == code Number then goes None (state 0 below) else
      if kind == code Minus then goes None (state 0 (the Number ∷ below)) else refuses
  symbol_move count at (attrs cores threads) below kind outer = attr_move cores threads at below kind outer
  symbol_move count at place below kind outer = if kind == code Place then goes None
      (state 0 (place_rule ∷ below)) else outer
  symbol_move count at place_rule below kind outer =
      if kind == code Here then goes None (state 0 below) else
      if kind == code Min then goes None (state 0 (operand 0 0 0 ∷ below)) else refuses
  symbol_move count at elect below kind outer = if kind == code Elect then goes None
      (state 0 (order limits.keys ∷ below)) else outer
  symbol_move count at handlers below kind outer =
      if kind == code On then
      goes None (state 0 (event ∷ the Begin ∷ case 0 ∷ the Finish ∷ handlers ∷ below)) else outer
  symbol_move count at event below kind outer =
      if is_event kind then
      goes None (state 0 below) else refuses
  symbol_move count at (case before) below kind outer = case_move before at below kind refuses
  symbol_move count at (cases before) below kind outer = case_move before at below kind outer
  symbol_move count at (actions before) below kind outer =
      if kind == code Task then
      goes (many limits.sets at before)
      (state 0 (the Dot ∷ field ∷ the Gets ∷ operand 0 0 0 ∷ the Comma ∷ actions (before + 1) ∷ below)) else
      if is_put kind then goes None (state 0 below) else refuses
  symbol_move count at field below kind outer = if is_word kind then goes None (state 0 below) else refuses
  symbol_move count at (order most) below kind outer =
      if kind == code First then goes None (state 0 below) else key_move most 0 at below kind
  symbol_move count at (key most before) below kind outer = key_move most before at below kind
  symbol_move count at (keys most before) below kind outer =
      if kind == code Comma then goes None (state 0 (key most before ∷ below)) else outer
  symbol_move count at batch below kind outer =
      if kind == code While then
      goes None (state 0 (condition limits.comparisons ∷ the Limit ∷ the Number ∷ below)) else outer
  symbol_move count at (level before) below kind outer = level_move before at below kind refuses
  symbol_move count at (levels before) below kind outer = level_move before at below kind outer
  symbol_move count at within below kind outer =
      if kind == code Always then goes None (state 0 below) else
      factor_move 0 0 0 0 at (compare 1 0 ∷ below) kind
  symbol_move count at (condition most) below kind outer = unit_move 0 most 0 at (ands most 0 ∷ ors most 0 ∷ below) kind
  symbol_move count at (unit most depth) below kind outer = unit_move count most depth at below kind
  symbol_move count at (ands most depth) below kind outer =
      if kind == code And then goes None (state count (unit most depth ∷ ands most depth ∷ below)) else outer
  symbol_move count at (ors most depth) below kind outer =
      if kind == code Or then
      goes None (state count (unit most depth ∷ ands most depth ∷ ors most depth ∷ below)) else outer
  symbol_move count at close below kind outer = if kind == code Close then goes None (state count below) else refuses
  symbol_move count at (compare most depth) below kind outer =
      if is_compare kind then
      goes (many most at count) (state (count + 1) (operand depth depth 0 ∷ below)) else refuses
  symbol_move count at (operand base depth before) below kind outer = factor_move count base depth before at below kind
  symbol_move count at (dot base before) below kind outer =
      if kind == code Dot then goes None (state count (word base before ∷ below)) else refuses
  symbol_move count at (word base before) below kind outer =
      if is_word kind then goes None (state count (operators base before ∷ below)) else refuses
  symbol_move count at (operators base before) below kind outer =
      if kind == code Star || kind == code Plus || kind == code Minus then
      goes (many limits.operators at before) (state count (operand base base (before + 1) ∷ below)) else outer

  -- what a token does, where a symbol that may be nothing leaves it to those below
  abbrev pub moves : ℕ → ℕ → List Symbol → ℕ → Move
  moves count at [] kind = refuses
  moves count at (symbol ∷ below) kind =
      symbol_move count at symbol below kind (moves (count_behind symbol count) at below kind)

abbrev pub kind_of : Lexeme → ℕ
kind_of lexeme = code lexeme.terminal

abbrev pub after : ℕ → Move → (State → Option ParseFault) → Option ParseFault
after at refuses rest = Some (Unexpected at)
after at (goes None q) rest = rest q
after at (goes (Some fault) q) rest = Some fault

module _ (limits : Limits) where
  abbrev pub finish : ℕ → State → Option ParseFault
  finish at (state count stack) = if all_nothing stack then None else Some (Unexpected at)

  abbrev pub move : ℕ → State → Lexeme → Move
  move at (state count stack) t = moves limits count at stack (kind_of t)

  -- the fault of the tokens, the first of which has that number
  abbrev pub run : ℕ → State → List Lexeme → Option ParseFault
  run at q [] = finish at q
  run at q (t ∷ ts) = after at (move at q t) (λ r. run (at + 1) r ts)

  -- the fault from the token with that number on
  unfoldable pub go : List Lexeme → ℕ → ℕ → List Symbol → Option ParseFault
  go ts at count stack = run at (state count stack) (drop at ts)

-- a policy
abbrev pub start : Limits → List Symbol
start limits = the Policy ∷ the Name ∷ the Load ∷ load_rule ∷ attrs 0 0 ∷ place ∷ elect ∷ handlers ∷ the Filter ∷
    condition limits.comparisons ∷ the Choose ∷ order limits.keys ∷ the Steal ∷ order limits.keys ∷ batch ∷ []

-- a level text
abbrev pub level_start : Limits → List Symbol
level_start limits = the Levels ∷ the Name ∷ the Load ∷ load_rule ∷ attrs 0 0 ∷ place ∷ elect ∷ handlers ∷ level 0 ∷
    the Choose ∷ order limits.level_keys ∷ the Steal ∷ order limits.keys ∷ batch ∷ []
