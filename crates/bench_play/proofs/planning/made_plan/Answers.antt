use Rattle.std.proofs.Common.{List, sym, subst}
use Rattle.policy_tree.specs.Meaning.{Meaning, meaning_of}
use Rattle.policy_eval.specs.Resolved.{IsResolved}
use Rattle.round_model.specs.Fits.{Fits}
use Rattle.job_trace.specs.declared.trace.Numbered.{Numbered}
use Rattle.job_trace.specs.declared.plan_fault.PlanFault.TheVariants.{WeightRange, ConstRange, ConstName}
use Rattle.job_trace.specs.Plans.{IsPlanFault, SpellsPlan}
use Rattle.trace_maker.specs.Made.{made_trace}
use Rattle.fair_policy.specs.Fair.{fair_meaning}
use Rattle.fair_policy.proofs.FairResolved.{fair_resolved}
use Rattle.bench_play.proofs.MadePlans.{is_made_plan, never_foreign}
use Rattle.bench_play.proofs.planning.made_plan.Goals as goal

pub returns-in-Ok : goal.returns-in-Ok
returns-in-Ok c =
    let plan = c.in-Ok.plan in
    let spells : SpellsPlan fair_meaning (made_trace c.args.seed c.args.size) plan = subst (λ (trace : List Numbered). SpellsPlan fair_meaning trace plan) c.in_ok-trace.ensures
    (subst (λ (p : Meaning). SpellsPlan p c.in_ok-trace.trace plan) c.requires.policy c.in-Ok.ensures.plan) in
    let fits : Fits fair_meaning plan = subst (λ (p : Meaning). Fits p plan) c.requires.policy
    (c.in-Ok.ensures.fits (subst IsResolved (sym c.requires.policy) fair_resolved)) in
    is_made_plan c.args.seed c.args.size plan c.requires.size spells fits c.in-Ok.ensures.limits

pub unreachable-requires : goal.unreachable-requires
unreachable-requires c =
    never_foreign c.args.seed c.args.size (meaning_of c.args.policy.now) c.in_ok-trace.trace (WeightRange c.in-Err-WeightRange._line) c.requires.policy c.in_ok-trace.ensures
    (subst (IsPlanFault (meaning_of c.args.policy.now) c.in_ok-trace.trace) c.in-Err-WeightRange.field-0-is c.in-Err-WeightRange.ensures.fault)

pub unreachable-requires-in-Err-ConstRange : goal.unreachable-requires-in-Err-ConstRange
unreachable-requires-in-Err-ConstRange c =
    never_foreign c.args.seed c.args.size (meaning_of c.args.policy.now) c.in_ok-trace.trace (ConstRange c.in-Err-ConstRange._line) c.requires.policy c.in_ok-trace.ensures
    (subst (IsPlanFault (meaning_of c.args.policy.now) c.in_ok-trace.trace) c.in-Err-ConstRange.field-0-is c.in-Err-ConstRange.ensures.fault)

pub unreachable-requires-in-Err-ConstName : goal.unreachable-requires-in-Err-ConstName
unreachable-requires-in-Err-ConstName c =
    never_foreign c.args.seed c.args.size (meaning_of c.args.policy.now) c.in_ok-trace.trace (ConstName c.in-Err-ConstName._line) c.requires.policy c.in_ok-trace.ensures
    (subst (IsPlanFault (meaning_of c.args.policy.now) c.in_ok-trace.trace) c.in-Err-ConstName.field-0-is c.in-Err-ConstName.ensures.fault)
