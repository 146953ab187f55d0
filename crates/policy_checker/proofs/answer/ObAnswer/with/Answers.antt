use Rattle.std.proofs.Common.{[], ◌∷◌, subst}
use Rattle.policy_checker.specs.Answers.{IsAnswer, IsFound}
use Rattle.policy_checker.proofs.Joined.{left_longer, passed_if, passed_left, solved_longer, solved_next}
use Rattle.policy_checker.proofs.answer.ObAnswer.with.Goals as goal

pub returns-in-Holds : goal.returns-in-Holds
returns-in-Holds c budget systems system so_far is =
    c.with_certificates.ensures budget systems system (subst (IsAnswer budget systems) c.in-Holds.is so_far) is

pub returns-in-Fails : goal.returns-in-Fails
returns-in-Fails c budget systems system so_far is =
    solved_longer budget systems (system ∷ []) c.in-Fails.point.vals (subst (IsAnswer budget systems) c.in-Fails.is so_far)

pub returns-in-Fails-found : goal.returns-in-Fails-found
returns-in-Fails-found c budget systems system so_far is =
    solved_next budget systems system c.in-Fails-found.point.vals
    (passed_left budget systems c.in-Undecided.points (subst (IsAnswer budget systems) c.in-Undecided.is so_far))
    (subst (IsFound budget system) c.in-Fails-found.is is)

pub returns : goal.returns
returns c budget systems system so_far is =
    left_longer budget systems system c.in-Undecided.points (subst (IsAnswer budget systems) c.in-Undecided.is so_far)
    (passed_if budget system c.args.found is c.in-Holds-found.is)
