-- The tasks passed over are the same.
use Rattle.std.proofs.Common.{◌≡◌, take}
use Rattle.starving_plays.proofs.sameness.are_same_queues.Given as goal

abbrev pub invariant-loop-at : goal.invariant-loop-at
invariant-loop-at l = take l.at l.one ≡ take l.at l.other
