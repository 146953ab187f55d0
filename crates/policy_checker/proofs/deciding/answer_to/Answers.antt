-- One system after another.
use Rattle.std.proofs.Common.{[], ◌∷◌, ◌++◌, ◌+◌, ◌∙◌, List, subst, sym, take, arith}
use Rattle.std.proofs.lemmas.List.{length-take-le, take_more}
use Rattle.linear_form.specs.System.{LinearSystem}
use Rattle.policy_checker.specs.Answers.{IsAnswer}
use Rattle.policy_checker.proofs.Joined.{failing_whole, has_room}
use Rattle.policy_checker.proofs.deciding.answer_to.Goals as goal

pub with-requires : goal.with-requires
with-requires c =
    let at = c.loop-system.system-index in
    let inside = c.loop-system-test.true in
    let long = length-take-le at c.args.systems.now (omega arith) in
    has_room c.args.budget (take at c.args.systems.now) c.loop-system.answer c.loop-system.invariant.answer (omega (arith, c.requires))

pub returns-then-is_failure-clause-answer : goal.returns-then-is_failure-clause-answer
returns-then-is_failure-clause-answer c =
    let at = c.loop-system.system-index in
    let xs = c.args.systems.now in
    let answer = c.in_ok-answer.answer in
    let joined = c.in_ok-answer.ensures c.args.budget (take at xs) c.system-item.result c.loop-system.invariant.answer c.in_ok-found_of.ensures.found in
    let here = subst (λ (s : LinearSystem). IsAnswer c.args.budget (take at xs ++ s ∷ []) answer) c.system-item.is joined in
    let so_far = subst (λ (ys : List LinearSystem). IsAnswer c.args.budget ys answer) (sym (take_more xs at c.system-item.result c.loop-system-test.true)) here in
    failing_whole c.args.budget (at + 1) xs answer (sym c.is_failure.ensures ∙ c.if-is_failure.true) so_far

pub loop-system-preserved : goal.loop-system-preserved
loop-system-preserved c =
    let at = c.loop-system.system-index in
    let xs = c.args.systems.now in
    let answer = c.in_ok-answer.answer in
    let joined = c.in_ok-answer.ensures c.args.budget (take at xs) c.system-item.result c.loop-system.invariant.answer c.in_ok-found_of.ensures.found in
    let here = subst (λ (s : LinearSystem). IsAnswer c.args.budget (take at xs ++ s ∷ []) answer) c.system-item.is joined in
    record {
      answer = subst (λ (ys : List LinearSystem). IsAnswer c.args.budget ys answer) (sym (take_more xs at c.system-item.result c.loop-system-test.true)) here;
      looks = omega (arith, c.loop-system.invariant.looks, c.in_ok-found_of.ensures.looks);
    }
