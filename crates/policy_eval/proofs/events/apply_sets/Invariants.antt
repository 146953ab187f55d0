use Rattle.std.proofs.Common.{◌≡◌, drop, fold, map}
use Rattle.std.specs.List.{AllByRecursion}
use Rattle.policy_tree.specs.Meaning.{meaning_of, set_tree}
use Rattle.policy_eval.specs.Events.{IsSettable, task_after_set}
use Rattle.policy_eval.specs.Fitting.{IsTask}
use Rattle.policy_eval.proofs.events.apply_sets.Given as goal

-- what is left to assign gives what the whole gives
abbrev pub invariant-loop-at : goal.invariant-loop-at
invariant-loop-at l = record {
  same : fold (task_after_set (meaning_of l.policy) l.fresh l.consts) l.changed (map set_tree (drop l.at l.sets))
      ≡ fold (task_after_set (meaning_of l.policy) l.fresh l.consts) l.fn.task (map set_tree l.sets);
  fits : IsTask (meaning_of l.policy) l.changed;
  settable : AllByRecursion (IsSettable (meaning_of l.policy)) (map set_tree (drop l.at l.sets));
}
