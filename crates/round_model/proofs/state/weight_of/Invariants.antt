use Rattle.std.proofs.Common.{◌≡◌, ◌*◌, ◌^◌, ◌≤◌, take, sum_by}
use Rattle.sched_base.specs.declared.task.Task.{Task}
use Rattle.round_model.proofs.state.weight_of.Given as goal

abbrev pub invariant-loop-task : goal.invariant-loop-task
invariant-loop-task l = record {
  sum : l.sum ≡ sum_by (λ (t : Task). t.weight) (take l.task-index l.tasks);
  small : l.sum ≤ l.task-index * 2 ^ 32;
}
