-- What is told of the history is what it wasted.
use Rattle.std.proofs.Common.{◌∙◌, subst, sym}
use Rattle.policy_tree.specs.Meaning.{meaning_of}
use Rattle.trace_play.specs.declared.planning.PlanStop.TheVariants as stop
use Rattle.trace_play.specs.Plays.{HasFault, IsPlanStop, MeansPlan}
use Rattle.trace_simulation.specs.Simulations.{WastesPlan}
use Rattle.trace_simulation.proofs.Simulated.{wasted_so}
use Rattle.trace_simulation.proofs.simulating.waste_text.Goals as goal

pub returns-in_ok-waste_of-in-Ok-clause-waste : goal.returns-in_ok-waste_of-in-Ok-clause-waste
returns-in_ok-waste_of-in-Ok-clause-waste c =
    let text = c.args.text.now in
    let plan = c.in-Ok.plan in
    let waste = c.in_ok-waste_of-in-Ok.field-0 in
    wasted_so (meaning_of c.args.policy.now) text plan (subst (λ policy. MeansPlan (meaning_of policy) text plan) c.policy.ensures.policy c.in-Ok.ensures.plan)
    waste (subst (λ policy. WastesPlan (meaning_of policy) plan waste) c.policy-in-Ok.ensures.policy c.in_ok-waste_of-in-Ok.ensures)

pub returns-in-Err-Broken-clause-waste : goal.returns-in-Err-Broken-clause-waste
returns-in-Err-Broken-clause-waste c =
    let text = c.args.text.now in
    subst (HasFault (meaning_of c.args.policy.now) text) (sym c.in-Err-Broken.fault-is)
    (subst (λ policy. IsPlanStop (meaning_of policy) text (stop.Broken c.in-Err-Broken.fault)) c.policy.ensures.policy
    (subst (IsPlanStop (meaning_of c.policy.result.now) text) c.in-Err-Broken.field-0-is c.in-Err-Broken.ensures.stop))
