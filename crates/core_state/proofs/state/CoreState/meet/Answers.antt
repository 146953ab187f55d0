use Rattle.std.proofs.Common.{false, sym, ap, ◌∙◌}
use Rattle.policy_tree.specs.Meaning.{meaning_of}
use Rattle.policy_eval.specs.Events.{outcomes_of}
use Rattle.policy_eval.proofs.Kept.{outcome_kept}
use Rattle.policy_eval.proofs.Wide.{thread_wide}
use Rattle.round_model.specs.declared.state.ModelCore.{ModelCore}
use Rattle.core_state.specs.Views.{CoreView}
use Rattle.core_state.proofs.Placing.{met_core, met_did}
use Rattle.core_state.proofs.state.CoreState.meet.Goals as goal

pub put-requires-clause-task : goal.put-requires-clause-task
put-requires-clause-task c =
    let p = meaning_of c.args.policy.now in
    thread_wide p c.requires.policy c.apply_case-place.result.0
    (outcome_kept p c.requires.policy c.args.event false _ c.args.task c.requires.task c.apply_case-place.result c.apply_case-place.ensures).task

pub returns-clause-core : goal.returns-clause-core
returns-clause-core c =
    let p = meaning_of c.args.policy.now in
    let one = ap (λ (v : CoreView). outcomes_of p c.args.event false v.core.consts c.args.task) (sym c.self.view_is) ∙ c.apply_case-place.ensures in
    c.put.ensures
    ∙ ap (λ (core : ModelCore). let v : CoreView = record (c.args.self.now) { core = core } in v)
    (met_core p c.args.event c.args.wake c.args.task c.args.self.now.core c.apply_case-place.result one)

pub returns-clause-did : goal.returns-clause-did
returns-clause-did c =
    let p = meaning_of c.args.policy.now in let outcome = c.apply_case-place.result in
    let one = ap (λ (v : CoreView). outcomes_of p c.args.event false v.core.consts c.args.task) (sym c.self.view_is) ∙ c.apply_case-place.ensures in
    let kept = outcome_kept p c.requires.policy c.args.event false _ c.args.task c.requires.task outcome c.apply_case-place.ensures in
    met_did p c.args.event c.args.wake c.args.task c.args.self.now.core outcome c.did_of.result one kept.id (c.did_of.ensures outcome.0)
