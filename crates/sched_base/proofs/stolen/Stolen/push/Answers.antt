use Rattle.std.proofs.Common.{length, ap, arith}
use Rattle.sched_base.specs.Padded.{padded-length}
use Rattle.sched_base.proofs.PaddedPush.{IsPadded-set}
use Rattle.sched_base.proofs.stolen.Stolen.push.Goals as goal

pub invariant_of-self : goal.invariant_of-self
invariant_of-self c =
    let len = c.self.inside.len in let ids = c.self.inside.ids in
    IsPadded-set _ len c.args.thread ids c.self.invariant
    (omega (arith, ap length c.self.view_is, padded-length _ len ids c.self.invariant))
