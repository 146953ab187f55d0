use Rattle.std.proofs.Common.{false, refl}
use Rattle.policy_tree.specs.Meaning.{meaning_of}
use Rattle.round_judge.proofs.Units.{met_once}
use Rattle.policy_eval.proofs.Kept.{outcome_kept}
use Rattle.round_judge.proofs.unit.met.Goals as goal

pub returns : goal.returns
returns c =
    let p = meaning_of c.args.policy.now in let outcome = c.apply_case-put.result in
    let kept = outcome_kept p c.requires.policy c.args.event false c.args.core.now.consts c.args.ran c.requires.task outcome c.apply_case-put.ensures in
    (refl, met_once p c.args.event c.args.wake c.args.ran c.args.elected c.args.core.now outcome c.apply_case-put.ensures kept.id, kept.task)
