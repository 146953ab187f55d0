use Rattle.std.proofs.Common.{◌≡◌, drop}
use Rattle.round_model.specs.Batches.{is_named}
use Rattle.round_judge.proofs.batches.is_among.Given as goal

-- the threads passed over are others
abbrev pub invariant-loop-at : goal.invariant-loop-at
invariant-loop-at l = is_named (drop l.at l.threads) l.thread ≡ is_named l.threads l.thread
