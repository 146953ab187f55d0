use Rattle.linear_cert.specs.Right.{cert_tree}
use Rattle.linear_cert.proofs.Parts.{splits_in}
use Rattle.linear_cert.proofs.checker.+check_under.Given as goal

abbrev pub decreases-check_under : goal.decreases-check_under
decreases-check_under l = splits_in (cert_tree l.cert.now)
