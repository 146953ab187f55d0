-- The obligations so far have their answers.
use Rattle.std.proofs.Common.{◌≡◌, take, vec_len}
use Rattle.std.specs.List.{AllZip}
use Rattle.policy_checker.specs.Verdicts.{IsAnswerTo}
use Rattle.policy_checker.proofs.checking.answers_to.Given as goal

abbrev pub invariant-loop-obligation : goal.invariant-loop-obligation
invariant-loop-obligation l = record {
  answers : AllZip (IsAnswerTo l.budget) (take l.obligation-index l.obligations) l.answers.items;
  count : vec_len l.answers ≡ l.obligation-index;
}
