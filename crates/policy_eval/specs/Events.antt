-- What an event does to the thread that meets it.
use Rattle.std.specs.Prelude.{ℕ, ◌<◌, ℤ, Bool, List, length, map, filter, fold, slice_get, slice_set, Option, Some}
use Rattle.std.specs.Prelude.{None}
use Rattle.std.specs.Int.{int_max, int_min}
use Rattle.sched_base.specs.declared.task.Task.{Task}
use Rattle.policy_tree.specs.declared.typed.Attr.{Attr}
use Rattle.policy_tree.specs.declared.typed.Event.{Event}
use Rattle.policy_tree.specs.declared.typed.Put.{Put}
use Rattle.policy_tree.specs.Meaning.{CaseTree, Meaning, SetTree, cases_on}
use Rattle.policy_eval.specs.Evaluable.{IsEvaluable}
use Rattle.policy_eval.specs.Sights.{event_values}
use Rattle.policy_eval.specs.Values.{Assignment, holds, value_of}

-- the number brought to the nearest end of the attribute's range, where it lies outside
abbrev pub saturated : Attr → ℤ → ℤ
saturated a x = int_max a.lo (int_min x a.hi)

-- what a handler sees of a thread
abbrev pub seen_by_handler : Bool → List ℤ → Task → Assignment
seen_by_handler fresh consts t = event_values fresh consts t.weight t.attrs

-- the attribute takes the value. Where no such attribute is declared, nothing changes
abbrev pub with_attribute : Option Attr → ℕ → ℤ → Task → Task
with_attribute None at x t = t
with_attribute (Some a) at x t = record t { attrs = slice_set t.attrs at (saturated a x) }

-- the thread after one assignment, whose value is computed from the thread as it stands
unfoldable pub task_after_set : Meaning → Bool → List ℤ → Task → SetTree → Task
task_after_set p fresh consts t s =
    with_attribute (slice_get p.thread_attrs s.attr) s.attr
    (value_of (seen_by_handler fresh consts t) s.expr)
    t

-- the thread after the assignments of a case, in their order
abbrev pub task_after_case : Meaning → Bool → List ℤ → Task → CaseTree → Task
task_after_case p fresh consts t c = fold (task_after_set p fresh consts) t c.sets

-- the cases of the event whose guards hold for the thread as it meets the event
unfoldable pub holding_cases : Meaning → Event → Bool → List ℤ → Task → List CaseTree
holding_cases p e fresh consts t =
    filter (λ (c : CaseTree). holds (seen_by_handler fresh consts t) c.guard) (cases_on p.handlers e)

-- the thread as the case leaves it, and where the case puts it
abbrev pub outcome_of_case : Meaning → Bool → List ℤ → Task → CaseTree → Task × Put
outcome_of_case p fresh consts t c = (task_after_case p fresh consts t c, c.put)

-- what comes of the event: an outcome for each case that holds, in order. None loses the thread, two double it
unfoldable pub outcomes_of : Meaning → Event → Bool → List ℤ → Task → List (Task × Put)
outcomes_of p e fresh consts t = map (outcome_of_case p fresh consts t) (holding_cases p e fresh consts t)

-- an assignment that can be carried out: its attribute is declared, and its value can be computed
pub record IsSettable (p : Meaning) (s : SetTree) : Type 0 where
  pub declared : s.attr < length p.thread_attrs
  pub evaluable : IsEvaluable s.expr
