use Rattle.std.proofs.Common.{arith, ◌%◌, ◌+◌}
use Rattle.queue_tests.proofs.Seen.{small_seen}
use Rattle.queue_tests.proofs.drawn.Drawn.task.Goals as goal

pub returns : goal.returns
returns c =
    let used = c.small.ensures in let rank = c.small-2.ensures in
    small_seen (c.args.self.dice % 8 + 1) c.small.result c.small-2.result (omega arith) (omega arith)
    used.least used.most rank.least rank.most
