use Rattle.std.proofs.Common.{◌+◌, [], ◌∷◌, map, drop, sym, ap, ◌∙◌, arith, subst}
use Rattle.sched_base.specs.declared.task.Task.{Task}
use Rattle.policy_tree.specs.declared.typed.Put.{Put}
use Rattle.policy_tree.specs.Meaning.{case_tree, meaning_of}
use Rattle.policy_tree.specs.Trees.{cond_tree}
use Rattle.policy_eval.specs.Ranges.{AreIn, wide_ranges}
use Rattle.policy_eval.specs.Values.{holds}
use Rattle.policy_eval.proofs.Handling.{AreResolvedCases, cases-drop, guard_evaluable, holding_among, holding_cases-all, outcomes_of-one, resolved_all, settable_all}
use Rattle.policy_eval.proofs.Wide.{event_wide}
use Rattle.policy_eval.proofs.events.apply_case.Goals as goal

pub loop-at-init : goal.loop-at-init
loop-at-init c =
    let p = meaning_of c.args.policy.now in let cases = map case_tree c.cases-cases.result.now in
    record {
      same = holding_cases-all p c.args.event c.args.fresh c.args.consts.now c.args.task cases c.cases-cases.ensures;
      resolved = resolved_all p c.requires.policy c.args.event cases c.cases-cases.ensures;
    }

pub holds-requires-clause-evaluable : goal.holds-requires-clause-evaluable
holds-requires-clause-evaluable c =
    let p = meaning_of c.args.policy.now in let x = c.get-case.result.now in
    let front = cases-drop c.cases-cases.result.now c.loop-at.at x (omega arith) c.get-case.ensures.value in
    guard_evaluable p c.requires.policy c.args.event (case_tree x) (subst (AreResolvedCases p c.args.event) front c.loop-at.invariant.resolved).0

pub holds-requires-clause-values : goal.holds-requires-clause-values
holds-requires-clause-values c =
    subst (AreIn wide_ranges) (sym c.of_event-env.ensures)
    (event_wide (meaning_of c.args.policy.now) c.requires.policy c.args.fresh c.args.consts.now c.args.task c.requires.consts c.requires.task)

pub apply_sets-changed-requires-clause-sets : goal.apply_sets-changed-requires-clause-sets
apply_sets-changed-requires-clause-sets c =
    let p = meaning_of c.args.policy.now in let x = c.get-case.result.now in
    let front = cases-drop c.cases-cases.result.now c.loop-at.at x (omega arith) c.get-case.ensures.value in
    settable_all p c.requires.policy c.args.event (case_tree x) (subst (AreResolvedCases p c.args.event) front c.loop-at.invariant.resolved).0

pub returns-then-holds : goal.returns-then-holds
returns-then-holds c =
    let p = meaning_of c.args.policy.now in let x = c.get-case.result.now in
    let front = cases-drop c.cases-cases.result.now c.loop-at.at x (omega arith) c.get-case.ensures.value in
    let test = ap (λ vals. holds vals (cond_tree x.guard)) (sym c.of_event-env.ensures) ∙ (sym c.holds.ensures ∙ c.if-holds.true) in
    outcomes_of-one p c.args.event c.args.fresh c.args.consts.now c.args.task (case_tree x) (map case_tree (drop (c.loop-at.at + 1) c.cases-cases.result.now))
    c.requires.one (ap (holding_among c.args.fresh c.args.consts.now c.args.task) (sym front) ∙ c.loop-at.invariant.same) test
    ∙ ap (λ (t : Task). let outcome : Task × Put = (t, x.put) in outcome ∷ []) (sym c.apply_sets-changed.ensures)
