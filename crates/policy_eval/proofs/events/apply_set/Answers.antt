use Rattle.std.proofs.Common.{ap, sym, ◌∙◌, subst, to_z, of_z, FitsSigned}
use Rattle.std.specs.Int.{w32, w128}
use Rattle.std.proofs.lemmas.Int.{to_z-of_z}
use Rattle.policy_tree.specs.Meaning.{meaning_of, set_tree}
use Rattle.policy_tree.specs.Trees.{expr_tree}
use Rattle.policy_eval.specs.Events.{saturated}
use Rattle.policy_eval.specs.Fitting.{IsTask}
use Rattle.policy_eval.specs.Ranges.{AreIn, wide_ranges}
use Rattle.policy_eval.specs.Values.{value_of}
use Rattle.policy_eval.proofs.Assigning.{task_after_set-declared}
use Rattle.policy_eval.proofs.Wide.{IsTask-set, event_wide}
use Rattle.policy_eval.proofs.events.apply_set.Goals as goal

pub value-exact-requires-clause-values : goal.value-exact-requires-clause-values
value-exact-requires-clause-values c =
    subst (AreIn wide_ranges) (sym c.of_event.ensures)
    (event_wide (meaning_of c.args.policy.now) c.requires.policy c.args.fresh c.args.consts.now c.args.task c.requires.consts c.requires.task)

pub returns-clause-value : goal.returns-clause-value
returns-clause-value c =
    let written = c.saturate.result in
    let fits : FitsSigned w32 written = record { sfits = c.saturate.type_inv } in
    let wide : FitsSigned w128 c.value-exact.result = record { sfits = c.value-exact.type_inv } in
    let exact = to_z-of_z w128 c.value-exact.result wide ∙ (c.value-exact.ensures ∙ ap (λ vals. value_of vals (expr_tree c.args.set.now.expr)) c.of_event.ensures) in
    task_after_set-declared (meaning_of c.args.policy.now) c.args.fresh c.args.consts.now c.args.task (set_tree c.args.set.now) c.get-attr.result.now (to_z w32 (of_z w32 written))
    c.get-attr.ensures.item
    (to_z-of_z w32 written fits ∙ (c.saturate.ensures ∙ ap (saturated c.get-attr.result.now) exact))

pub returns-clause-fits : goal.returns-clause-fits
returns-clause-fits c =
    let p = meaning_of c.args.policy.now in
    subst (IsTask p) (sym (returns-clause-value c))
    (IsTask-set p c.requires.policy c.args.fresh c.args.consts.now c.args.task (set_tree c.args.set.now) c.requires.task)
