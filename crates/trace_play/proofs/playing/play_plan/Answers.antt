-- The history that is merged is that of the cores.
use Rattle.std.proofs.Common.{subst}
use Rattle.policy_tree.specs.Meaning.{meaning_of}
use Rattle.serial_steps.specs.SerialEnds.{EndsWhole, IsPlayed, StopsFull}
use Rattle.trace_play.specs.Plays.{played_by}
use Rattle.trace_play.proofs.Merged.{merged_list}
use Rattle.trace_play.proofs.playing.play_plan.Goals as goal

pub returns-in_ok-merge-in-Whole : goal.returns-in_ok-merge-in-Whole
returns-in_ok-merge-in-Whole c =
    let p = meaning_of c.args.policy.now in let plan = c.args.plan.now in let closed = c.in-Whole.closed in
    let ends : EndsWhole p plan _ = subst (λ left. IsPlayed p plan (played_by left)) c.in-Whole.is c.in_ok-closed.ensures.play in
    subst (EndsWhole p plan) (merged_list closed c.in_ok-merge-in-Whole.field-0 c.in_ok-merge-in-Whole.ensures) ends

pub returns-in_ok-merge-in-Full : goal.returns-in_ok-merge-in-Full
returns-in_ok-merge-in-Full c =
    let p = meaning_of c.args.policy.now in let plan = c.args.plan.now in let closed = c.in-Full.closed in
    let stops : StopsFull p plan _ = subst (λ left. IsPlayed p plan (played_by left)) c.in-Full.is c.in_ok-closed.ensures.play in
    subst (StopsFull p plan) (merged_list closed c.in_ok-merge-in-Full.field-0 c.in_ok-merge-in-Full.ensures) stops
