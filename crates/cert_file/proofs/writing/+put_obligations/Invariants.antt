use Rattle.std.proofs.Common.{length}
use Rattle.cert_file.proofs.writing.+put_obligations.Given as goal

abbrev pub decreases-put_obligations : goal.decreases-put_obligations
decreases-put_obligations l = length l.names.now
