use Rattle.std.proofs.Common.{[], ◌∷◌, ◌++◌, subst, sym}
use Rattle.std.proofs.lemmas.Slice.Zip.{all_zipped_more}
use Rattle.linear_solver.specs.declared.answer.Answer.TheVariants as found
use Rattle.policy_checker.specs.Answers.{AllRefuted, IsFound}
use Rattle.policy_checker.proofs.Joined.{left_next, passed_all, solved_next}
use Rattle.policy_checker.proofs.answer.with_certificates.Goals as goal

pub returns-in_ok-push-in-Holds : goal.returns-in_ok-push-in-Holds
returns-in_ok-push-in-Holds c budget systems system all is =
    subst (AllRefuted budget (systems ++ system ∷ [])) (sym c.in_ok-push-in-Holds.ensures.ok)
    (all_zipped_more (λ s cert. IsFound budget s (found.Holds cert)) systems c.args.certs system c.in-Holds.cert all (subst (IsFound budget system) c.in-Holds.is is))

pub returns-in-Fails : goal.returns-in-Fails
returns-in-Fails c budget systems system all is =
    solved_next budget systems system c.in-Fails.point.vals (passed_all budget systems c.args.certs all) (subst (IsFound budget system) c.in-Fails.is is)

pub returns-in-Undecided : goal.returns-in-Undecided
returns-in-Undecided c budget systems system all is =
    left_next budget systems c.args.certs system c.in-Undecided.points all (subst (IsFound budget system) c.in-Undecided.is is)
