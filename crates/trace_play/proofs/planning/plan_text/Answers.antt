-- What is told of a text is its fault.
use Rattle.std.proofs.Common.{◌≡◌, ℕ, List, Option, Some, None, sym, subst}
use Rattle.policy_tree.specs.Meaning.{Meaning, meaning_of}
use Rattle.job_trace.specs.declared.fault.TraceFault.{TraceFault}
use Rattle.job_trace.specs.declared.fault.TraceFault.TheVariants as trace
use Rattle.job_trace.specs.declared.plan_fault.PlanFault.{PlanFault}
use Rattle.job_trace.specs.declared.plan_fault.PlanFault.TheVariants as plan
use Rattle.job_trace.specs.declared.trace.Numbered.{Numbered}
use Rattle.job_trace.specs.Faults.{IsBroken, IsFault}
use Rattle.job_trace.specs.Plans.{IsForeign, IsPlanFault}
use Rattle.job_trace.specs.TraceText.{SpellsTrace}
use Rattle.trace_play.specs.declared.fault.LineFault.{LineFault}
use Rattle.trace_play.specs.Plays.{IsPlanStop, no_plan, no_trace, stop_of}
use Rattle.trace_play.specs.Told.{told_of_plan, told_of_trace}
use Rattle.trace_play.proofs.planning.plan_text.Goals as goal

-- a fault that is told is one of the text
broken_of : (text : List ℕ) (found : TraceFault) (fault : LineFault) → IsFault text found → told_of_trace found ≡ Some fault → IsBroken text found
broken_of text (trace.BadLine line) fault is told = is
broken_of text (trace.Limit line limit) fault is told = is
broken_of text (trace.Twice line) fault is told = is
broken_of text trace.Memory fault is told = absurd (cc)

foreign_of : (p : Meaning) (lines : List Numbered) (found : PlanFault) (fault : LineFault) → IsPlanFault p lines found → told_of_plan found ≡ Some fault → IsForeign p lines found
foreign_of p lines (plan.WeightRange line) fault is told = is
foreign_of p lines (plan.ConstRange line) fault is told = is
foreign_of p lines (plan.ConstName line) fault is told = is
foreign_of p lines plan.Memory fault is told = absurd (cc)

broken_text : (p : Meaning) (text : List ℕ) (found : TraceFault) (told : Option LineFault) → IsFault text found → told ≡ told_of_trace found → IsPlanStop p text (stop_of told)
broken_text p text found (Some fault) is same = no_trace found (broken_of text found fault is (sym same)) (sym same)
broken_text p text found None is same = tt

broken_plan : (p : Meaning) (text : List ℕ) (lines : List Numbered) (found : PlanFault) (told : Option LineFault) → SpellsTrace text lines → IsPlanFault p lines found → told ≡ told_of_plan found
    → IsPlanStop p text (stop_of told)
broken_plan p text lines found (Some fault) spells is same = no_plan lines found spells (foreign_of p lines found fault is (sym same)) (sym same)
broken_plan p text lines found None spells is same = tt

pub returns-in-Err-clause-stop : goal.returns-in-Err-clause-stop
returns-in-Err-clause-stop c =
    subst (IsPlanStop (meaning_of c.args.policy.now) c.args.text.now) (sym c.stop.ensures)
    (broken_text (meaning_of c.args.policy.now) c.args.text.now c.in-Err.fault c.of_trace.result c.in-Err.ensures.fault c.of_trace.ensures)

pub returns-clause-stop : goal.returns-clause-stop
returns-clause-stop c =
    subst (IsPlanStop (meaning_of c.args.policy.now) c.args.text.now) (sym c.stop-in-Err-plan.ensures)
    (broken_plan (meaning_of c.args.policy.now) c.args.text.now c.in-Ok.trace c.in-Err-plan.fault c.of_plan.result c.in-Ok.ensures.trace c.in-Err-plan.ensures.fault c.of_plan.ensures)
