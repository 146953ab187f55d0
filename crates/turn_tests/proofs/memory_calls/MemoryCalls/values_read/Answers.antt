use Rattle.std.proofs.Common.{sym, subst, arith}
use Rattle.turn_tests.specs.Memory.{history_of, meaning_in_memory, plan_of}
use Rattle.round_judge.specs.Readable.{ReadIn}
use Rattle.turn_tests.proofs.Reading.{glanced}
use Rattle.turn_tests.proofs.Rows.{fresh_read}
use Rattle.turn_tests.proofs.memory_calls.MemoryCalls.values_read.Goals as goal

pub seen_at-seen-requires-clause-position : goal.seen_at-seen-requires-clause-position
seen_at-seen-requires-clause-position c =
    let it = c.args.self.now in let k = c.loop-core.core in let low = c.loop-core-test.true in let at = c.get.ensures.value in
    let read = subst (ReadIn (plan_of it) it.past) (sym c.requires.fresh) (fresh_read (meaning_in_memory it) (plan_of it) it.past (history_of it) c.requires.ready.kept.stands) in
    let from = read.from_start k (omega arith) in let to_now = read.to_now k (omega arith) in
    record { not_after = omega arith; not_before = omega arith }

pub returns-clause-read : goal.returns-clause-read
returns-clause-read c =
    let it = c.args.self.now in let i = c.loop-core.invariant in let high = c.loop-core-test.false in
    glanced it c.args.reads.now c.loop-core.values c.requires.fresh i.long (λ k low. i.seen k (omega arith))
