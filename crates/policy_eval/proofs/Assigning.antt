-- One assignment of a case, as the code carries it out.
use Rattle.std.proofs.Common.{◌≡◌, ℤ, Bool, List, set, slice_get, Option, Some, sym, ap, ◌∙◌}
use Rattle.sched_base.specs.declared.task.Task.{Task}
use Rattle.policy_tree.specs.declared.typed.Attr.{Attr}
use Rattle.policy_tree.specs.Meaning.{Meaning, SetTree}
use Rattle.policy_eval.specs.Events.{saturated, seen_by_handler, task_after_set, with_attribute}
use Rattle.policy_eval.specs.Values.{value_of}

pub task_after_set-declared : (p : Meaning) (fresh : Bool) (consts : List ℤ) (t : Task) (s : SetTree) (a : Attr) (x : ℤ)
    → slice_get p.thread_attrs s.attr ≡ Some a → x ≡ saturated a (value_of (seen_by_handler fresh consts t) s.expr)
    → (λ (y : ℤ). let changed : Task = record t { attrs = set t.attrs s.attr y } in changed) x ≡ task_after_set p fresh consts t s
unfolding task_after_set
task_after_set-declared p fresh consts t s a x found is =
    ap (λ (y : ℤ). let changed : Task = record t { attrs = set t.attrs s.attr y } in changed) is
    ∙ ap (λ (o : Option Attr). with_attribute o s.attr (value_of (seen_by_handler fresh consts t) s.expr) t) (sym found)
