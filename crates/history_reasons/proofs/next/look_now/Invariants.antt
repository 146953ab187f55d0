-- A read of each core so far.
use Rattle.std.proofs.Common.{◌≡◌, replicate}
use Rattle.history_reasons.proofs.next.look_now.Given as goal

abbrev pub invariant-loop-at : goal.invariant-loop-at
invariant-loop-at l = l.reads ≡ replicate l._at l.past.entries
