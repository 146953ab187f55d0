-- The answer is that to the systems so far.
use Rattle.std.proofs.Common.{◌*◌, ◌≤◌, take}
use Rattle.linear_solver.specs.Looks.{most_looks}
use Rattle.policy_checker.specs.Answers.{IsAnswer}
use Rattle.policy_checker.proofs.deciding.answer_to.Given as goal

abbrev pub invariant-loop-system : goal.invariant-loop-system
invariant-loop-system l = record {
  answer : IsAnswer l.budget (take l.system-index l.systems) l.answer;
  looks : l.looks ≤ l.system-index * most_looks l.budget;
}
