-- The words and symbols that say one thing of several.
use Rattle.std.specs.Prelude.{ℕ, Bool, true, false}
use Rattle.policy_tree.specs.declared.trees.Cmp.{Cmp}
use Rattle.policy_tree.specs.declared.trees.Cmp.TheVariants as cmp
use Rattle.policy_tree.specs.declared.typed.Event.{Event}
use Rattle.policy_tree.specs.declared.typed.Event.TheVariants as event
use Rattle.policy_tree.specs.declared.typed.Put.{Put}
use Rattle.policy_tree.specs.declared.typed.Put.TheVariants as put
use Rattle.policy_syntax.specs.declared.syntax.Owner.{Owner}
use Rattle.policy_syntax.specs.declared.syntax.Owner.TheVariants as owner
use Rattle.policy_grammar.specs.declared.terminal.Terminal.TheVariants.{Core, Thread, Min, Max, Enqueue, Tick, Yield}
use Rattle.policy_grammar.specs.declared.terminal.Terminal.TheVariants.{Block, Queue, Keep, Itself, Victim, Task, Plus}
use Rattle.policy_grammar.specs.declared.terminal.Terminal.TheVariants.{Minus, Equal, Unequal, Less, AtMost, More}
use Rattle.policy_grammar.specs.declared.terminal.Terminal.TheVariants.{AtLeast}
use Rattle.policy_grammar.specs.Terminals.{code}

-- whose attribute is declared
abbrev pub attr_word : Bool → ℕ
attr_word true = code Core
attr_word false = code Thread

-- whether the greater value comes first
abbrev pub key_word : Bool → ℕ
key_word true = code Max
key_word false = code Min

-- whether a term is taken away
abbrev pub sign_word : Bool → ℕ
sign_word true = code Minus
sign_word false = code Plus

abbrev pub owner_word : Owner → ℕ
owner_word owner.Itself = code Itself
owner_word owner.Victim = code Victim
owner_word owner.Core = code Core
owner_word owner.Thread = code Task

abbrev pub event_word : Event → ℕ
event_word event.Enqueue = code Enqueue
event_word event.Tick = code Tick
event_word event.Yield = code Yield
event_word event.Block = code Block

abbrev pub put_word : Put → ℕ
put_word put.Queue = code Queue
put_word put.Keep = code Keep
put_word put.Block = code Block

abbrev pub compare_word : Cmp → ℕ
compare_word cmp.Eq = code Equal
compare_word cmp.Ne = code Unequal
compare_word cmp.Lt = code Less
compare_word cmp.Le = code AtMost
compare_word cmp.Gt = code More
compare_word cmp.Ge = code AtLeast
