-- The tag of a terminal is its number.
use Rattle.std.proofs.Common.{◌≡◌, refl}
use denote.Enum.Declared.{tag_of}
use Rattle.policy_grammar.specs.contracts.terminal.Terminal.{the_type}
use Rattle.policy_grammar.specs.declared.terminal.Terminal.{Terminal}
use Rattle.policy_grammar.specs.declared.terminal.Terminal.TheVariants.{End, Policy, Load, Count, Weight, Core, Thread, In, Start, Place, Here, Min, Max, Elect, Choose, Steal, First, On, Enqueue, Tick, Yield, Block, When, Queue, Keep, Level, Filter, And, Or, Not, Always, Itself, Victim, Task, While, Limit, Prefer, Levels, Within, Reserved, Name, Number, Dot, Range, Comma, Colon, Open, Close, Begin, Finish, Plus, Minus, Star, Gets, Equal, Unequal, Less, AtMost, More, AtLeast}
use Rattle.policy_grammar.specs.Terminals.{code}

pub tag-is : (t : Terminal) → tag_of the_type t ≡ code t
tag-is End = refl
tag-is Policy = refl
tag-is Load = refl
tag-is Count = refl
tag-is Weight = refl
tag-is Core = refl
tag-is Thread = refl
tag-is In = refl
tag-is Start = refl
tag-is Place = refl
tag-is Here = refl
tag-is Min = refl
tag-is Max = refl
tag-is Elect = refl
tag-is Choose = refl
tag-is Steal = refl
tag-is First = refl
tag-is On = refl
tag-is Enqueue = refl
tag-is Tick = refl
tag-is Yield = refl
tag-is Block = refl
tag-is When = refl
tag-is Queue = refl
tag-is Keep = refl
tag-is Level = refl
tag-is Filter = refl
tag-is And = refl
tag-is Or = refl
tag-is Not = refl
tag-is Always = refl
tag-is Itself = refl
tag-is Victim = refl
tag-is Task = refl
tag-is While = refl
tag-is Limit = refl
tag-is Prefer = refl
tag-is Levels = refl
tag-is Within = refl
tag-is Reserved = refl
tag-is Name = refl
tag-is Number = refl
tag-is Dot = refl
tag-is Range = refl
tag-is Comma = refl
tag-is Colon = refl
tag-is Open = refl
tag-is Close = refl
tag-is Begin = refl
tag-is Finish = refl
tag-is Plus = refl
tag-is Minus = refl
tag-is Star = refl
tag-is Gets = refl
tag-is Equal = refl
tag-is Unequal = refl
tag-is Less = refl
tag-is AtMost = refl
tag-is More = refl
tag-is AtLeast = refl
