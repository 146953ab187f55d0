use Rattle.std.proofs.Common.{◌≡◌, drop}
use Rattle.round_model.specs.Reads.{round_start as start_of_round, start_from}
use Rattle.round_model.proofs.windows.round_start.Given as goal

-- the entries that are left give the start that the whole gives
abbrev pub invariant-loop-at : goal.invariant-loop-at
invariant-loop-at l = start_from l.at l.start (drop l.at l.history) ≡ start_of_round l.history
