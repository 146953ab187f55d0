-- What was cut off so far is lines, and the others are missing.
use Rattle.cert_file.proofs.CutLines.{IsCutSoFar}
use Rattle.cert_file.proofs.fronts.front_of.Given as goal

abbrev pub invariant-loop-missing : goal.invariant-loop-missing
invariant-loop-missing l = IsCutSoFar l.text l.behind l.lines l.missing

abbrev pub decreases-loop-missing : goal.decreases-loop-missing
decreases-loop-missing l = l.missing
