use Rattle.std.proofs.Common.{◌∙◌, refl, sym}
use Rattle.policy_tree.specs.Meaning.{meaning_of}
use Rattle.round_model.specs.After.{after, round_of}
use Rattle.round_model.specs.Work.{worked}
use Rattle.round_judge.proofs.Units.{unit_dids}
use Rattle.serial_play.proofs.NextSteps.{never_stuck, none_told, one_told}
use Rattle.serial_play.proofs.steps.work_step.Goals as goal

pub returns-in-None-clause-step : goal.returns-in-None-clause-step
returns-in-None-clause-step c history stands =
    let p = meaning_of c.args.policy.now in let plan = c.args.plan.now in
    let dids = unit_dids p plan (round_of history) (after p plan history c.args.core) c.next_unit.result (c.next_unit.ensures history stands) in
    none_told c.args.core c.did.result (worked p plan (round_of history) (after p plan history c.args.core)).dids c.in-None.is (c.did.ensures ∙ sym dids)

pub returns-in-Some-clause-step : goal.returns-in-Some-clause-step
returns-in-Some-clause-step c history stands =
    let p = meaning_of c.args.policy.now in let plan = c.args.plan.now in
    let dids = unit_dids p plan (round_of history) (after p plan history c.args.core) c.next_unit.result (c.next_unit.ensures history stands) in
    one_told c.args.core c.in-Some.did c.did.result (worked p plan (round_of history) (after p plan history c.args.core)).dids c.in-Some.is (c.did.ensures ∙ sym dids)

pub returns-in-None-clause-runs : goal.returns-in-None-clause-runs
returns-in-None-clause-runs c history stands =
    let p = meaning_of c.args.policy.now in let plan = c.args.plan.now in
    absurd (never_stuck p plan (round_of history) history c.args.core (after p plan history c.args.core) c.next_unit.result c.did.result c.requires.fits refl (c.next_unit.ensures history stands) c.did.ensures c.in-None.is)

pub returns-in-Some-clause-runs : goal.returns-in-Some-clause-runs
returns-in-Some-clause-runs c history stands = λ over. absurd (cc)
