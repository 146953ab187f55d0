-- The system has that place, or no system has it.
use Rattle.std.proofs.lemmas.Bool.{false≢true}
use Rattle.linear_cert.specs.Right.{cert_tree}
use Rattle.cert_file.proofs.Places.{none_there, right_there}
use Rattle.cert_file.proofs.systems.is_right_at.Goals as goal

pub returns-in-Some : goal.returns-in-Some
returns-in-Some c =
    let (found, is, some, within, value) = c.in-Some.ensures.lookup in
    let right = right_there c.args.systems.now c.args.place (cert_tree c.args.cert.now) c.in-Some.system.now within.0 is in
    (λ yes. right.1 (c.check.ensures.right.0 yes), λ there. c.check.ensures.right.1 (right.0 there))

pub returns-in-None : goal.returns-in-None
returns-in-None c =
    let (found, is, some, past, value) = c.in-None.ensures.lookup in
    (λ yes. absurd (false≢true yes), λ there. absurd (none_there c.args.systems.now c.args.place (cert_tree c.args.cert.now) past there))
