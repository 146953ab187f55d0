use Rattle.std.proofs.Common.{◌≡◌, drop}
use Rattle.round_model.specs.FreshReads.{touched_from}
use Rattle.turn_tests.proofs.reads.touched.Given as goal

-- the entries that are left give what the whole gives
abbrev pub invariant-loop-at : goal.invariant-loop-at
invariant-loop-at l = touched_from l.core l.at l.last (drop l.at l.history) ≡ touched_from l.core 0 0 l.history
