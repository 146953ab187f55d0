-- So many systems were read, and of their certificates that is known.
use Rattle.cert_file.specs.Reading.{AreNextSystems, IsFoundSoFar}
use Rattle.cert_file.proofs.systems.next_systems.Given as goal

abbrev pub invariant-loop-place : goal.invariant-loop-place
invariant-loop-place l = AreNextSystems (λ trees. IsFoundSoFar l.systems trees l.wrong) l.place l.fn.rest.number l.fn.rest.bytes.now l.rest.number l.rest.bytes.now
