use Rattle.std.proofs.Common.{subst}
use Rattle.policy_tree.specs.Meaning.{meaning_of}
use Rattle.core_worker.specs.Played.{IsFaultOf, PlaysFull}
use Rattle.trace_play.proofs.Merged.{full_can_be_written, full_count, merged_full, merged_whole, whole_can_be_written, whole_count}
use Rattle.trace_play.proofs.playing.play_cores.Goals as goal

pub returns-in-Ok-clause-play : goal.returns-in-Ok-clause-play
returns-in-Ok-clause-play c = merged_whole (meaning_of c.args.policy.now) c.args.plan.now c.in-Ok.closed c.in-Ok.ensures.whole

pub returns-in-Ok-clause-cores : goal.returns-in-Ok-clause-cores
returns-in-Ok-clause-cores c = whole_count (meaning_of c.args.policy.now) c.args.plan.now c.in-Ok.closed c.in-Ok.ensures.whole

pub returns-in-Ok-clause-shown : goal.returns-in-Ok-clause-shown
returns-in-Ok-clause-shown c = whole_can_be_written (meaning_of c.args.policy.now) c.args.plan.now c.in-Ok.closed c.requires.fits c.requires.limits c.in-Ok.ensures.whole

pub returns-in-Err-HistoryFull-clause-play : goal.returns-in-Err-HistoryFull-clause-play
returns-in-Err-HistoryFull-clause-play c =
    let p = meaning_of c.args.policy.now in let plan = c.args.plan.now in
    let full : PlaysFull p plan c.in-Err-HistoryFull.closed = subst (IsFaultOf p plan) c.in-Err-HistoryFull.field-0-is c.in-Err-HistoryFull.ensures.fault in
    merged_full p plan c.in-Err-HistoryFull.closed full

pub returns-in-Err-HistoryFull-clause-cores : goal.returns-in-Err-HistoryFull-clause-cores
returns-in-Err-HistoryFull-clause-cores c =
    let p = meaning_of c.args.policy.now in let plan = c.args.plan.now in
    let full : PlaysFull p plan c.in-Err-HistoryFull.closed = subst (IsFaultOf p plan) c.in-Err-HistoryFull.field-0-is c.in-Err-HistoryFull.ensures.fault in
    full_count p plan c.in-Err-HistoryFull.closed full

pub returns-in-Err-HistoryFull-clause-shown : goal.returns-in-Err-HistoryFull-clause-shown
returns-in-Err-HistoryFull-clause-shown c =
    let p = meaning_of c.args.policy.now in let plan = c.args.plan.now in
    let full : PlaysFull p plan c.in-Err-HistoryFull.closed = subst (IsFaultOf p plan) c.in-Err-HistoryFull.field-0-is c.in-Err-HistoryFull.ensures.fault in
    full_can_be_written p plan c.in-Err-HistoryFull.closed c.requires.fits c.requires.limits full
