use Rattle.std.proofs.Common.{sym, ap, ◌∙◌}
use Rattle.policy_tree.specs.Meaning.{meaning_of}
use Rattle.policy_tree.specs.declared.typed.Event.TheVariants as event
use Rattle.policy_eval.specs.Events.{outcomes_of}
use Rattle.policy_eval.proofs.Kept.{outcome_kept}
use Rattle.policy_eval.proofs.Wide.{thread_wide}
use Rattle.round_model.specs.declared.state.ModelCore.{ModelCore}
use Rattle.round_model.proofs.Units.{admitted_once}
use Rattle.core_state.specs.Views.{CoreView}
use Rattle.core_state.proofs.state.CoreState.admit.Goals as goal

pub put-requires-clause-task : goal.put-requires-clause-task
put-requires-clause-task c =
    let p = meaning_of c.args.policy.now in
    thread_wide p c.requires.policy c.apply_case-place.result.0
    (outcome_kept p c.requires.policy event.Enqueue c.args.fresh _ c.args.task c.requires.task c.apply_case-place.result c.apply_case-place.ensures).task

pub returns : goal.returns
returns c =
    let p = meaning_of c.args.policy.now in
    let one = ap (λ (v : CoreView). outcomes_of p event.Enqueue c.args.fresh v.core.consts c.args.task) (sym c.self.view_is) ∙ c.apply_case-place.ensures in
    c.put.ensures
    ∙ ap (λ (core : ModelCore). let v : CoreView = record (c.args.self.now) { core = core } in v)
    (sym (admitted_once p c.args.fresh c.args.task c.args.self.now.core c.apply_case-place.result one))
