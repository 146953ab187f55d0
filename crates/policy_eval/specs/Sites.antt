-- Where an expression may stand in a policy, and what it may refer to there.
use Rattle.std.specs.Prelude.{ℕ, ◌+◌, Bool, ◌&&◌, ◌||◌, ◌==◌, nat_lt, nat_le, List, length}
use Rattle.policy_tree.specs.declared.typed.Attr.{Attr}
use Rattle.policy_tree.specs.declared.typed.Event.{Event}
use Rattle.policy_tree.specs.declared.typed.Event.TheVariants as event
use Rattle.policy_tree.specs.declared.typed.Put.{Put}
use Rattle.policy_tree.specs.declared.typed.Put.TheVariants as put
use Rattle.policy_tree.specs.declared.variables.TheConstants.{FRESH, OTHER_ATTRIBUTES, OTHER_LOAD, OTHER_NR}
use Rattle.policy_tree.specs.declared.variables.TheConstants.{SELF_ATTRIBUTES, THREAD_ATTRIBUTES, WEIGHT}
use Rattle.policy_tree.specs.Meaning.{Meaning}

-- where an expression or a condition of a policy may stand
pub data Site : Type 0 where
  filtering : Site
  choosing : Site
  placing : Site
  electing : Site
  stealing : Site
  going_on : Site
  handling : Event → Site

-- whether the variable is one of the attributes from that number on
abbrev pub is_attribute : ℕ → List Attr → ℕ → Bool
is_attribute first attrs at = nat_le first at && nat_lt at (first + length attrs)

-- whether the variable may stand there. Those before the weight are the counts and loads of the two cores
abbrev pub allows : Meaning → Site → ℕ → Bool
allows p filtering at = nat_lt at WEIGHT || is_attribute SELF_ATTRIBUTES p.core_attrs at
    || is_attribute OTHER_ATTRIBUTES p.core_attrs at
allows p choosing at = nat_lt at WEIGHT || is_attribute SELF_ATTRIBUTES p.core_attrs at
    || is_attribute OTHER_ATTRIBUTES p.core_attrs at
allows p placing at = at == OTHER_NR || at == OTHER_LOAD || is_attribute OTHER_ATTRIBUTES p.core_attrs at
allows p electing at = at == WEIGHT || is_attribute THREAD_ATTRIBUTES p.thread_attrs at
allows p stealing at = at == WEIGHT || is_attribute THREAD_ATTRIBUTES p.thread_attrs at
allows p going_on at = nat_le at WEIGHT || is_attribute SELF_ATTRIBUTES p.core_attrs at
    || is_attribute OTHER_ATTRIBUTES p.core_attrs at || is_attribute THREAD_ATTRIBUTES p.thread_attrs at
allows p (handling event.Enqueue) at = at == WEIGHT || at == FRESH || is_attribute SELF_ATTRIBUTES p.core_attrs at
    || is_attribute THREAD_ATTRIBUTES p.thread_attrs at
allows p (handling event.Tick) at = at == WEIGHT || is_attribute SELF_ATTRIBUTES p.core_attrs at
    || is_attribute THREAD_ATTRIBUTES p.thread_attrs at
allows p (handling event.Yield) at = at == WEIGHT || is_attribute SELF_ATTRIBUTES p.core_attrs at
    || is_attribute THREAD_ATTRIBUTES p.thread_attrs at
allows p (handling event.Block) at = at == WEIGHT || is_attribute SELF_ATTRIBUTES p.core_attrs at
    || is_attribute THREAD_ATTRIBUTES p.thread_attrs at

-- where a case of that event may put the thread
abbrev pub AllowsPut : Event → Put → Type 0
AllowsPut event.Enqueue put.Queue = Unit {0}
AllowsPut event.Tick put.Queue = Unit {0}
AllowsPut event.Tick put.Keep = Unit {0}
AllowsPut event.Yield put.Queue = Unit {0}
AllowsPut event.Yield put.Keep = Unit {0}
AllowsPut event.Block put.Block = Unit {0}
AllowsPut e place = ⊥
