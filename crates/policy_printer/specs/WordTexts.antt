-- The words and symbols that a syntax has as data, as they are spelled.
use Rattle.std.specs.Prelude.{ℕ, List, Bool, true, false, codes}
use Rattle.policy_tree.specs.declared.trees.Cmp.{Cmp}
use Rattle.policy_tree.specs.declared.trees.Cmp.TheVariants as cmp
use Rattle.policy_tree.specs.declared.typed.Event.{Event}
use Rattle.policy_tree.specs.declared.typed.Event.TheVariants as event
use Rattle.policy_tree.specs.declared.typed.Put.{Put}
use Rattle.policy_tree.specs.declared.typed.Put.TheVariants as put
use Rattle.policy_syntax.specs.declared.syntax.Owner.{Owner}
use Rattle.policy_syntax.specs.declared.syntax.Owner.TheVariants as owner

-- whose attribute is declared
abbrev pub kind_text : Bool → List ℕ
kind_text true = codes "core"
kind_text false = codes "thread"

-- whether the greater value comes first
abbrev pub key_text : Bool → List ℕ
key_text true = codes "max"
key_text false = codes "min"

-- whether a term is taken away
abbrev pub sign_text : Bool → List ℕ
sign_text true = codes "-"
sign_text false = codes "+"

abbrev pub owner_text : Owner → List ℕ
owner_text owner.Itself = codes "self"
owner_text owner.Victim = codes "victim"
owner_text owner.Core = codes "core"
owner_text owner.Thread = codes "t"

abbrev pub event_text : Event → List ℕ
event_text event.Enqueue = codes "enqueue"
event_text event.Tick = codes "tick"
event_text event.Yield = codes "yield"
event_text event.Block = codes "block"

abbrev pub put_text : Put → List ℕ
put_text put.Queue = codes "queue"
put_text put.Keep = codes "keep"
put_text put.Block = codes "block"

abbrev pub compare_text : Cmp → List ℕ
compare_text cmp.Eq = codes "=="
compare_text cmp.Ne = codes "!="
compare_text cmp.Lt = codes "<"
compare_text cmp.Le = codes "<="
compare_text cmp.Gt = codes ">"
compare_text cmp.Ge = codes ">="
