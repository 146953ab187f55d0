use Rattle.std.proofs.Common.{ap, ◌∙◌, sym}
use Rattle.policy_tree.specs.Meaning.{meaning_of}
use Rattle.policy_tree.specs.declared.typed.Event.TheVariants as event
use Rattle.policy_eval.specs.Events.{outcomes_of}
use Rattle.policy_eval.proofs.Kept.{outcome_kept}
use Rattle.round_model.specs.declared.state.ModelCore.{ModelCore}
use Rattle.round_model.specs.Cores.{listed}
use Rattle.round_model.specs.Updates.{updated}
use Rattle.round_model.proofs.States.{OnOk-then, listed_at}
use Rattle.round_model.proofs.Units.{admitted_once}
use Rattle.round_judge.proofs.moves.admit.Goals as goal

pub returns-clause-ok : goal.returns-clause-ok
returns-clause-ok c =
    OnOk-then c.put.result c.put.ensures.ok (λ placed n m is there.
    let p = meaning_of c.args.policy.now in
    let same = listed_at n m c.args.state.now c.args.at c.get.result.now is c.get.ensures.item there in
    placed n m is there ∙ ap (λ (x : ModelCore). listed n (updated m c.args.at x))
    (sym (admitted_once p c.args.fresh c.args.task (m c.args.at) c.apply_case-place.result
    (ap (λ (x : ModelCore). outcomes_of p event.Enqueue c.args.fresh x.consts c.args.task) (sym same) ∙ c.apply_case-place.ensures))))

pub returns-clause-kept : goal.returns-clause-kept
returns-clause-kept c =
    let p = meaning_of c.args.policy.now in
    OnOk-then c.put.result c.put.ensures.kept (λ kept. kept p
    (outcome_kept p c.requires.policy event.Enqueue c.args.fresh c.get.result.now.consts c.args.task c.requires.task c.apply_case-place.result c.apply_case-place.ensures).task)
