use Rattle.std.proofs.Common.{◌≡◌, length}
use Rattle.policy_tree.specs.Meaning.{meaning_of}
use Rattle.history_merge.specs.Merged.{CanBeWritten}
use Rattle.trace_play.specs.Plays.{closed_of, played_by}
use Rattle.trace_run.specs.Runs.{HavePassed, IsRun}
use Rattle.trace_run.proofs.Merging.{full_can_be_written, full_passed, merged_full, merged_whole, of_left, whole_can_be_written, whole_passed}
use Rattle.trace_run.proofs.running.run_plan.Goals as goal

pub returns-in-Ok-play_rounds-clause-run : goal.returns-in-Ok-play_rounds-clause-run
returns-in-Ok-play_rounds-clause-run g c =
    merged_whole (meaning_of c.args.policy.now) c.args.plan.now (g.G.Gate.passed c.args.gate.now) c.in-Ok-play_rounds.closed c.in-Ok-play_rounds.ensures.whole

pub returns-in-Ok-play_rounds-clause-cores : goal.returns-in-Ok-play_rounds-clause-cores
returns-in-Ok-play_rounds-clause-cores g c = c.in-Ok-play_rounds.ensures.whole.left.count

pub returns-in-Ok-play_rounds-clause-shown : goal.returns-in-Ok-play_rounds-clause-shown
returns-in-Ok-play_rounds-clause-shown g c =
    whole_can_be_written (meaning_of c.args.policy.now) c.args.plan.now (g.G.Gate.passed c.args.gate.now) c.in-Ok-play_rounds.closed c.requires.fits c.requires.limits c.in-Ok-play_rounds.ensures.whole

pub returns-in-Ok-play_rounds-clause-passed : goal.returns-in-Ok-play_rounds-clause-passed
returns-in-Ok-play_rounds-clause-passed g c =
    whole_passed (meaning_of c.args.policy.now) c.args.plan.now (g.G.Gate.passed c.args.gate.now) c.in-Ok-play_rounds.closed c.in-Ok-play_rounds.ensures.whole

pub returns-in-Err-clause-run : goal.returns-in-Err-clause-run
returns-in-Err-clause-run g c =
    let p = meaning_of c.args.policy.now in let plan = c.args.plan.now in let Passed = g.G.Gate.passed c.args.gate.now in
    of_left p plan Passed _ _ (λ left. IsRun p plan (played_by left)) (λ closed full. merged_full p plan Passed closed full) c.in-Err.fault c.in-Err.ensures.fault c.left_by.result c.left_by.ensures

pub returns-in-Err-clause-cores : goal.returns-in-Err-clause-cores
returns-in-Err-clause-cores g c =
    let p = meaning_of c.args.policy.now in let plan = c.args.plan.now in let Passed = g.G.Gate.passed c.args.gate.now in
    of_left p plan Passed _ _ (λ left. length (closed_of left).cores ≡ plan.cores) (λ closed full. full.left.count) c.in-Err.fault c.in-Err.ensures.fault c.left_by.result c.left_by.ensures

pub returns-in-Err-clause-shown : goal.returns-in-Err-clause-shown
returns-in-Err-clause-shown g c =
    let p = meaning_of c.args.policy.now in let plan = c.args.plan.now in let Passed = g.G.Gate.passed c.args.gate.now in
    of_left p plan Passed _ _ (λ left. CanBeWritten (closed_of left)) (λ closed full. full_can_be_written p plan Passed closed c.requires.fits c.requires.limits full) c.in-Err.fault c.in-Err.ensures.fault c.left_by.result c.left_by.ensures

pub returns-in-Err-clause-passed : goal.returns-in-Err-clause-passed
returns-in-Err-clause-passed g c =
    let p = meaning_of c.args.policy.now in let plan = c.args.plan.now in let Passed = g.G.Gate.passed c.args.gate.now in
    of_left p plan Passed _ _ (λ left. HavePassed Passed plan (played_by left)) (λ closed full. full_passed p plan Passed closed full) c.in-Err.fault c.in-Err.ensures.fault c.left_by.result c.left_by.ensures
