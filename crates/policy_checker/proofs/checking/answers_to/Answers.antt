-- One obligation after another.
use Rattle.std.proofs.Common.{[], ◌∷◌, ◌++◌, ◌+◌, List, refl, subst, sym, take, arith}
use Rattle.std.specs.List.{AllZip}
use Rattle.std.proofs.lemmas.List.{take_more}
use Rattle.std.proofs.lemmas.Slice.Zip.{all_zipped_more}
use Rattle.obligations.specs.declared.obligation.Obligation.{Obligation}
use Rattle.policy_checker.specs.Verdicts.{IsAnswerTo}
use Rattle.policy_checker.specs.declared.answer.Answered.{Answered}
use Rattle.policy_checker.proofs.checking.answers_to.Goals as goal

pub loop-obligation-preserved : goal.loop-obligation-preserved
loop-obligation-preserved c =
    let at = c.loop-obligation.obligation-index in
    let xs = c.args.obligations.now in
    let item = c.obligation-item.result in
    let answered : Answered = record { name = item.name; answer = c.in_ok-answer.field-0.answer; looks = c.in_ok-answer.field-0.looks } in
    let is : IsAnswerTo c.args.budget item answered = record { name = refl; answer = rw c.as_slice.ensures.items at c.in_ok-answer.ensures.answer; looks = rw c.as_slice.ensures.items at c.in_ok-answer.ensures.looks } in
    let joined = all_zipped_more (IsAnswerTo c.args.budget) (take at xs) c.loop-obligation.answers.items item answered c.loop-obligation.invariant.answers is in
    let pushed = c.in_ok-push.ensures.items in
    let here = subst (λ (o : Obligation). AllZip (IsAnswerTo c.args.budget) (take at xs ++ o ∷ []) (c.loop-obligation.answers.items ++ answered ∷ [])) c.obligation-item.is joined in
    record {
      answers =
          subst (λ (ys : List Answered). AllZip (IsAnswerTo c.args.budget) (take (at + 1) xs) ys) (sym pushed)
          (subst (λ (ys : List Obligation). AllZip (IsAnswerTo c.args.budget) ys (c.loop-obligation.answers.items ++ answered ∷ [])) (sym (take_more xs at item c.loop-obligation-test.true)) here);
      count = (let len = c.in_ok-push.ensures.len in let before = c.loop-obligation.invariant.count in omega arith);
    }
