-- A text of positions is that of one for each core where there are as many.
use Rattle.std.proofs.Common.{arith}
use Rattle.history_reader.proofs.ReadsTexts.{other_count}
use Rattle.history_reader.proofs.reads.of_each.Goals as goal

pub returns-else-len-cores : goal.returns-else-len-cores
returns-else-len-cores c reads are same =
    let found = c.in_ok-reads.ensures in
    let count = other_count c.args.cores c.args.start c.args.text.now reads c.in_ok-reads.reads are found.0 found.1 same in
    omega (arith, count, c.len.ensures.len, c.if-len-cores.false)
