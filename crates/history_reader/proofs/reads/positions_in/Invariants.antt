use Rattle.std.proofs.Common.{length}
use Rattle.history_reader.proofs.Positions.{Reads}
use Rattle.history_reader.proofs.reads.positions_in.Given as goal

abbrev pub invariant-loop-rest : goal.invariant-loop-rest
invariant-loop-rest l = Reads l.most l.start l.text l.reads l.rest

abbrev pub decreases-loop-rest : goal.decreases-loop-rest
decreases-loop-rest l = length l.rest
