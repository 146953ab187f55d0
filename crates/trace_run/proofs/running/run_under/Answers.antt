use Rattle.std.proofs.Common.{subst, sym}
use Rattle.policy_tree.specs.Meaning.{meaning_of}
use Rattle.trace_play.specs.declared.planning.PlanStop.TheVariants as stop
use Rattle.trace_play.specs.Plays.{HasFault, IsPlanStop}
use Rattle.trace_run.proofs.running.run_under.Goals as goal

pub returns-in_ok-left-in-Ok-clause-run : goal.returns-in_ok-left-in-Ok-clause-run
returns-in_ok-left-in-Ok-clause-run g c =
    let means = c.in-Ok.ensures.plan in
    record {
      runs = record { trace = means.trace; spells = means.spells; plan = c.in-Ok.plan; means = means.means; fits = means.fits; limits = means.limits; ran = c.in_ok-left-in-Ok.ensures.run };
      count = c.in_ok-left-in-Ok.ensures.cores;
    }

pub returns-in-Err-Broken-clause-run : goal.returns-in-Err-Broken-clause-run
returns-in-Err-Broken-clause-run g c =
    let p = meaning_of c.args.policy.now in let text = c.args.text.now in
    subst (HasFault p text) (sym c.in-Err-Broken.fault-is) (subst (IsPlanStop p text) c.in-Err-Broken.field-0-is c.in-Err-Broken.ensures.stop)

pub returns-in_ok-left-in-Ok-clause-passed : goal.returns-in_ok-left-in-Ok-clause-passed
returns-in_ok-left-in-Ok-clause-passed g c = (c.in-Ok.plan, c.in-Ok.ensures.plan, c.in_ok-left-in-Ok.ensures.passed)
