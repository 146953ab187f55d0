use Rattle.std.proofs.Common.{length}
use Rattle.cert_file.proofs.systems.+next_obligations.Given as goal

abbrev pub decreases-next_obligations : goal.decreases-next_obligations
decreases-next_obligations l = length l.obligations.now
