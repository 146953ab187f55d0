-- What may come where a text is read a token at a time: the symbols on the stack of `Machine`, and which tokens begin
-- each.
use Rattle.std.specs.Prelude.{ℕ, ◌==◌, Bool, true, false, ◌||◌, if◌then◌else◌, List, [], ◌∷◌, Option}
use Rattle.policy_grammar.specs.declared.terminal.Terminal.{Terminal}
use Rattle.policy_grammar.specs.declared.terminal.Terminal.TheVariants.{Core}
use Rattle.policy_grammar.specs.declared.terminal.Terminal.TheVariants.{Min, Max}
use Rattle.policy_grammar.specs.declared.terminal.Terminal.TheVariants.{Enqueue, Tick, Yield, Block}
use Rattle.policy_grammar.specs.declared.terminal.Terminal.TheVariants.{Queue, Keep}
use Rattle.policy_grammar.specs.declared.terminal.Terminal.TheVariants.{Itself, Victim, Task}
use Rattle.policy_grammar.specs.declared.terminal.Terminal.TheVariants.{Equal, Unequal, Less, AtMost}
use Rattle.policy_grammar.specs.declared.terminal.Terminal.TheVariants.{More, AtLeast}
use Rattle.policy_grammar.specs.declared.fault.ParseFault.{ParseFault}
use Rattle.policy_grammar.specs.Terminals.{code}

-- what may come
pub data Symbol : Type 0 where
  the : Terminal → Symbol  -- this token
  load_rule : Symbol  -- what follows `load`
  int : Symbol
  attrs : ℕ → ℕ → Symbol  -- further attributes, behind so many of cores and of threads
  place : Symbol  -- `place` with its rule, or nothing
  place_rule : Symbol
  elect : Symbol  -- `elect` with its order, or nothing
  handlers : Symbol  -- further handlers
  event : Symbol
  case : ℕ → Symbol  -- a case, behind so many
  cases : ℕ → Symbol  -- further cases, behind so many
  actions : ℕ → Symbol  -- assignments, behind so many, and where the thread is put
  field : Symbol  -- the word that an assignment names
  order : ℕ → Symbol  -- an order of at most so many keys
  key : ℕ → ℕ → Symbol  -- a key of such an order, behind so many
  keys : ℕ → ℕ → Symbol  -- further keys, behind so many
  batch : Symbol  -- what follows the order of `steal`, or nothing
  level : ℕ → Symbol  -- a level, behind so many
  levels : ℕ → Symbol  -- further levels, behind so many
  within : Symbol  -- what follows the `within` of a level
  condition : ℕ → Symbol  -- a condition of at most so many comparisons
  unit : ℕ → ℕ → Symbol  -- a unit of such a condition, where so many are open
  ands : ℕ → ℕ → Symbol  -- further units
  ors : ℕ → ℕ → Symbol  -- further conjunctions
  close : Symbol
  compare : ℕ → ℕ → Symbol  -- the symbol of a comparison, and its right side
  -- an expression's next factor, where so many are open around the expression, and so many here, behind so many
  -- operators
  operand : ℕ → ℕ → ℕ → Symbol
  dot : ℕ → ℕ → Symbol  -- the dot of a reference
  word : ℕ → ℕ → Symbol  -- its word
  operators : ℕ → ℕ → Symbol  -- the rest of an expression, behind so many operators

-- the comparisons that the open condition has had, and what is still to come
pub data State : Type 0 where
  state : ℕ → List Symbol → State

-- no text goes on so; or reading goes on, past a limit or not
pub data Move : Type 0 where
  refuses : Move
  goes : Option ParseFault → State → Move

-- the owner of a reference
abbrev pub is_owner : ℕ → Bool
is_owner kind = (kind == code Itself || kind == code Victim) || (kind == code Core || kind == code Task)

abbrev pub is_event : ℕ → Bool
is_event kind = (kind == code Enqueue || kind == code Tick) || (kind == code Yield || kind == code Block)

abbrev pub is_put : ℕ → Bool
is_put kind = kind == code Queue || kind == code Keep || kind == code Block

-- the word of a key with an expression
abbrev pub is_key : ℕ → Bool
is_key kind = kind == code Min || kind == code Max

-- a symbol of comparisons
abbrev pub is_compare : ℕ → Bool
is_compare kind =
    (kind == code Equal || kind == code Unequal || kind == code Less) ||
    (kind == code AtMost || kind == code More || kind == code AtLeast)

-- the comparisons that are counted on where the symbol is nothing: a key's condition has ended before further keys,
-- and a level's before further levels
abbrev pub count_behind : Symbol → ℕ → ℕ
count_behind (the terminal) count = count
count_behind load_rule count = count
count_behind int count = count
count_behind (attrs cores threads) count = count
count_behind place count = count
count_behind place_rule count = count
count_behind elect count = count
count_behind handlers count = count
count_behind event count = count
count_behind (case before) count = count
count_behind (cases before) count = count
count_behind (actions before) count = count
count_behind field count = count
count_behind (order most) count = count
count_behind (key most before) count = count
count_behind (keys most before) count = 0
count_behind batch count = count
count_behind (level before) count = count
count_behind (levels before) count = 0
count_behind within count = count
count_behind (condition most) count = count
count_behind (unit most depth) count = count
count_behind (ands most depth) count = count
count_behind (ors most depth) count = count
count_behind close count = count
count_behind (compare most depth) count = count
count_behind (operand base depth before) count = count
count_behind (dot base before) count = count
count_behind (word base before) count = count
count_behind (operators base before) count = count

-- the symbol may be nothing
abbrev pub is_nothing : Symbol → Bool
is_nothing (the terminal) = false
is_nothing load_rule = false
is_nothing int = false
is_nothing (attrs cores threads) = true
is_nothing place = true
is_nothing place_rule = false
is_nothing elect = true
is_nothing handlers = true
is_nothing event = false
is_nothing (case before) = false
is_nothing (cases before) = true
is_nothing (actions before) = false
is_nothing field = false
is_nothing (order most) = false
is_nothing (key most before) = false
is_nothing (keys most before) = true
is_nothing batch = true
is_nothing (level before) = false
is_nothing (levels before) = true
is_nothing within = false
is_nothing (condition most) = false
is_nothing (unit most depth) = false
is_nothing (ands most depth) = true
is_nothing (ors most depth) = true
is_nothing close = false
is_nothing (compare most depth) = false
is_nothing (operand base depth before) = false
is_nothing (dot base before) = false
is_nothing (word base before) = false
is_nothing (operators base before) = true

abbrev pub all_nothing : List Symbol → Bool
all_nothing [] = true
all_nothing (symbol ∷ below) = if is_nothing symbol then all_nothing below else false
