use Rattle.std.proofs.Common.{ap}
use Rattle.policy_tree.specs.Meaning.{PlaceTree, meaning_of, place_tree}
use Rattle.round_model.specs.Choices.{target_by, target_of}
use Rattle.round_model.specs.Outcomes.{values_at}
use Rattle.serial_play.proofs.steps.place.Goals as goal

pub returns-in-Here-clause-target : goal.returns-in-Here-clause-target
unfolding target_of
returns-in-Here-clause-target c history stands =
    let p = meaning_of c.args.policy.now in let plan = c.args.plan.now in
    ap (λ (r : PlaceTree). target_by r plan.cores (values_at p plan history c.empty.result) c.args.core) (ap place_tree c.in-Here.is)
