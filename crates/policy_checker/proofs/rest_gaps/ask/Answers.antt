-- Certificates say that the gap is left, and a point that it is passed.
use Rattle.std.proofs.Common.{refl, subst}
use Rattle.policy_tree.specs.Meaning.{meaning_of}
use Rattle.policy_eval.specs.Obligations.{rest_gap}
use Rattle.obligations.specs.Systems.{systems_of}
use Rattle.policy_checker.specs.Answers.{IsAnswer}
use Rattle.policy_checker.proofs.RestGaps.{leaves_where_held, wider_where_failed}
use Rattle.policy_checker.proofs.rest_gaps.ask.Goals as goal

pub returns-in-Holds-clause-found : goal.returns-in-Holds-clause-found
returns-in-Holds-clause-found c =
    let p = meaning_of c.args.policy.now in
    leaves_where_held p c.requires.resolved c.args.budget c.args.gap _
    (subst (IsAnswer c.args.budget (systems_of p (rest_gap c.args.gap))) c.in-Holds.is c.in_ok-vars.ensures.one.answer)

pub returns-in-Fails-clause-found : goal.returns-in-Fails-clause-found
returns-in-Fails-clause-found c =
    let p = meaning_of c.args.policy.now in (
      wider_where_failed p c.requires.resolved c.args.budget c.args.gap c.in_ok-vars.field-0 c.in-Fails.point c.in_ok-vars.ensures.one
          (subst (IsAnswer c.args.budget (systems_of p (rest_gap c.args.gap))) c.in-Fails.is c.in_ok-vars.ensures.one.answer),
      refl,
    )
