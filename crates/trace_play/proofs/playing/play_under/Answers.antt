-- What was played can be written.
use Rattle.std.proofs.Common.{subst, sym}
use Rattle.policy_tree.specs.Meaning.{meaning_of}
use Rattle.trace_play.specs.declared.planning.PlanStop.TheVariants as stop
use Rattle.trace_play.specs.Plays.{HasFault, IsPlanStop}
use Rattle.trace_play.proofs.playing.play_under.Goals as goal

pub returns-in_ok-play_cores-in-Ok-clause-play : goal.returns-in_ok-play_cores-in-Ok-clause-play
returns-in_ok-play_cores-in-Ok-clause-play c =
    let means = c.in-Ok.ensures.plan in
    record {
      plays = record { trace = means.trace; spells = means.spells; plan = c.in-Ok.plan; means = means.means; fits = means.fits; limits = means.limits; played = c.in_ok-play_cores-in-Ok.ensures.play };
      count = c.in_ok-play_cores-in-Ok.ensures.cores;
    }

pub returns-in-Err-Broken-clause-play : goal.returns-in-Err-Broken-clause-play
returns-in-Err-Broken-clause-play c =
    let p = meaning_of c.args.policy.now in let text = c.args.text.now in
    subst (HasFault p text) (sym c.in-Err-Broken.fault-is) (subst (IsPlanStop p text) c.in-Err-Broken.field-0-is c.in-Err-Broken.ensures.stop)
